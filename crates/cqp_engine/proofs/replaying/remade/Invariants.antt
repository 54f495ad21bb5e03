use Rattle.cqp_engine.specs.Replays.{IsReplayedSoFar}
use Rattle.cqp_engine.proofs.replaying.remade.Given as goal

abbrev pub invariant-loop-entry : goal.invariant-loop-entry
invariant-loop-entry g l =
    IsReplayedSoFar (g.E.Engine.progress l.fn.engine).opening l.entries l.count l.entry-index (g.E.Engine.progress l.engine)
