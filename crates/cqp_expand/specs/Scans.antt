-- What the scan of a program leaves. No public clause cites this module.
use Rattle.std.specs.Prelude.{◌≡◌, List, [], ◌∷◌, Option}
use Rattle.cqp_grammar.specs.Trees.{DefinitionTree, ProcessTree, ProgramTree}
use Rattle.cqp_expand.specs.declared.fault.ScopeFault.{ScopeFault}
use Rattle.cqp_expand.specs.declared.scan.Scan.{Scan}
use Rattle.cqp_expand.specs.declared.scan.Scanned.{Scanned}
use Rattle.cqp_expand.specs.Kept.{least}
use Rattle.cqp_expand.specs.Faults.{scope_faults}
use Rattle.cqp_expand.specs.Tables.{IsTable}
use Rattle.cqp_expand.specs.Locals.{table, IsLocal}
use Rattle.cqp_expand.specs.Outlines.{AreOutlines, AreKnown, main_def, defs_after}

-- these definitions are scanned, the last one first
pub record IsScan (s : Scan) (ds : List DefinitionTree) : Type 0 where
  pub known : AreKnown (table s.locals) s.known ds
  pub local : IsLocal s.locals

-- these definitions, the last one first, and this main process are scanned, with this least fault
pub record AreScanned (ds : List DefinitionTree) (p : ProcessTree) (o : Option ScopeFault)
    (s : Scanned) : Type 0 where
  pub table : IsTable s.types.types
  pub outlines : AreOutlines s.types.types s.outlines.items (main_def p ∷ ds)
  pub fault : s.least ≡ o

-- the outlines are those of the program's definitions and of its main process, in order; the fault
-- is its least
abbrev pub IsScanned : ProgramTree → Scanned → Type 0
IsScanned t s = AreScanned (defs_after [] t.defs) t.main (least (scope_faults t)) s
