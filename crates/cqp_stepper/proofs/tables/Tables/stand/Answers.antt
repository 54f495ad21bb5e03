use Rattle.std.proofs.Common.{ap, sym, ◌∙◌}
use Rattle.cqp_parts.specs.Parts.{process_of_part}
use Rattle.cqp_stepper.proofs.Noted.{by_some}
use Rattle.cqp_turns.specs.Turns.{turn_in}
use Rattle.cqp_stepper.proofs.tables.Tables.stand.Goals as goal

pub returns : goal.returns
returns c =
    let p = process_of_part c.args.self.now c.args.part.now in
    let t = by_some (turn_in p) c.requires.takes in
    let turn = ap (λ l. turn_in (process_of_part l c.args.part.now)) (c.proc.ensures.proc ∙ c.self.view_is) in
    c.stand_of.ensures t.0 (turn ∙ t.1) ∙ sym (c.communication_laws.ensures.stands p t.0 t.1)
