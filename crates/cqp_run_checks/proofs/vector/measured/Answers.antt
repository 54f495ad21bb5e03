use Rattle.std.proofs.Common.{ap, arith, length, ◌∙◌}
use Rattle.std.specs.Prelude.{slice_index_or}
use Rattle.cqp_vector.specs.Group.{state_of}
use Rattle.cqp_run_checks.proofs.TakenOutcomes.{no_odd, taken_outcome}
use Rattle.cqp_run_checks.proofs.vector.measured.Goals as goal

pub project-requires-clause-outcome : goal.project-requires-clause-outcome
project-requires-clause-outcome c =
    taken_outcome c.args.places.now (state_of c.args.factor) c.as_slice.result.now c.args.choice (c.as_slice.ensures ∙ c.in_ok-odds.ensures)
    (omega (arith, ap length c.as_slice.ensures, c.len.ensures, c.if-len-choice.false))
    (c.outcome_laws.ensures.told c.args.places.now (state_of c.args.factor) c.args.choice)

pub split-requires-clause-projected : goal.split-requires-clause-projected
split-requires-clause-projected c =
    let outcome = (slice_index_or c.as_slice.result.now c.args.choice no_odd).outcome in
    rw c.project.ensures (c.outcome_laws.ensures.projected c.args.factor c.args.places.now outcome)
