use Rattle.cqp_tool.proofs.Printed.{printed_accepted}
use Rattle.cqp_tool.proofs.laws.printed_laws.Goals as goal

pub returns : goal.returns
returns c =
    printed_accepted c.one_reading.ensures.text c.outcomes.ensures.read c.one_least_fault.ensures.none c.one_text.ensures.current
    c.one_refusal.ensures.text c.replay_laws.ensures.lawful
