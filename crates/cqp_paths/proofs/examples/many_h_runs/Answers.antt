use Rattle.std.proofs.Common.{refl, inl}
use Rattle.cqp_cells.specs.Config.{start_of}
use Rattle.cqp_cells.specs.Examples.{one_over}
use Rattle.cqp_cells.specs.Lawful.{IsLawful}
use Rattle.cqp_cells.specs.Repeated.{last_of_91, many_h, many_h_entries}
use Rattle.cqp_paths.specs.Examples.{many_h_trace}
use Rattle.cqp_paths.specs.Script.{script_answers}
use Rattle.cqp_paths.proofs.Following.{unmeasured_follow}
use Rattle.cqp_paths.proofs.InTurn.{in_turn}
use Rattle.cqp_paths.proofs.Runs.{ended_lawful, run_of}
use Rattle.cqp_paths.proofs.examples.many_h_runs.Goals as goal

-- the trace of 91 H is lawful
many_h_lawful : IsLawful (many_h 91) (many_h_trace 91)
many_h_lawful = ended_lawful (many_h 91) (many_h_entries 91) last_of_91 (one_over 0) refl refl refl (inl refl) refl

pub returns : goal.returns
returns c script = record {
  run = run_of (script_answers script) (many_h 91) (many_h_trace 91) c.derivable_cases.ensures.many_h refl many_h_lawful
      (unmeasured_follow (script_answers script) 0 (start_of (many_h 91)) (many_h_entries 91) refl);
  plain = record { entries = in_turn (start_of (many_h 91)) (many_h_entries 91) refl; stop = tt };
}
