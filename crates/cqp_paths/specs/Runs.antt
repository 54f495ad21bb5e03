-- What a run of a process gives: a lawful trace that follows a pick, no longer than the process and
-- safe at each step.
use Rattle.std.specs.Prelude.{◌≤◌, length}
use Rattle.cqp_trace.specs.declared.trace.Trace.{Trace}
use Rattle.cqp_syntax.specs.Trees.{Process}
use Rattle.cqp_paths.specs.Follows.{Pick, Follows}
use Rattle.cqp_cells.specs.Lawful.{IsLawful}
use Rattle.cqp_cells.specs.Order.{IsPlain}
use Rattle.cqp_paths.specs.Safe.{IsSafeAlong}
use Rattle.cqp_syntax.specs.Measures.{size}

-- the trace is one of a run of p under the pick
pub record IsRun (pick : Pick) (p : Process) (t : Trace) : Type 0 where
  pub lawful : IsLawful p t
  pub follows : Follows pick p t.entries
  pub safe : IsSafeAlong p t.entries
  pub short : length t.entries ≤ size p

-- and the trace is in plain order
pub record IsPlainRun (pick : Pick) (p : Process) (t : Trace) : Type 0 where
  pub run : IsRun pick p t
  pub plain : IsPlain p t
