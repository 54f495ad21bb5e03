use Rattle.std.proofs.Common.{◌≡◌, true, drop}
use Rattle.std.specs.List.{AllByRecursion}
use Rattle.cqp_standing.specs.Stands.{Stands}
use Rattle.cqp_step_checks.specs.Walks.{has_steps}
use Rattle.cqp_step_checks.proofs.walks.walk.Given as goal

abbrev pub invariant-loop-step : goal.invariant-loop-step
invariant-loop-step l = record {
  stand : AllByRecursion (Stands l.told) l.parts;
  steps : has_steps l.told l.vals l.parts (drop l.step-index l.steps) ≡ true;
}
