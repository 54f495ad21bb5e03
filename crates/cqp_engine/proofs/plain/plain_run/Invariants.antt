use Rattle.std.proofs.Common.{◌≡◌}
use Rattle.std.specs.Prelude.{◌-◌, length}
use Rattle.cqp_syntax.specs.Measures.{size}
use Rattle.cqp_engine.specs.PlainRuns.{IsPlainSoFar, answers_of}
use Rattle.cqp_engine.proofs.plain.plain_run.Given as goal

-- the run is plain so far, and of the same process
abbrev pub invariant-loop-end : goal.invariant-loop-end
invariant-loop-end g l = record {
  far : IsPlainSoFar (answers_of (goal.F-post g l.chooser)) (g.E.Engine.progress l.engine);
  opening : (g.E.Engine.progress l.engine).opening ≡ (g.E.Engine.progress l.fn.engine).opening;
}

abbrev pub decreases-loop-end : goal.decreases-loop-end
decreases-loop-end g l = size (g.E.Engine.progress l.fn.engine).opening - length (g.E.Engine.progress l.engine).entries
