use Rattle.std.proofs.Common.{drop}
use Rattle.cqp_grammar.specs.Trees.{ProgramTree}
use Rattle.cqp_program.specs.Programs.{IsProgramListing}
use Rattle.cqp_expand.specs.Faults.{scope_faults}
use Rattle.cqp_expand.specs.Kept.{least}
use Rattle.cqp_expand.proofs.ScanSteps.{DefsLeft}
use Rattle.cqp_expand.proofs.scan.Scanned.of.Given as goal

abbrev pub invariant-loop-def : goal.invariant-loop-def
invariant-loop-def l = (t : ProgramTree) → IsProgramListing l.fn.program t
    → DefsLeft t.defs t.main (drop l.def-index l.def-items) l.scan (least (scope_faults t))
