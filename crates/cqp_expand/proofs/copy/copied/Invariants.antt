use Rattle.std.proofs.Common.{List}
use Rattle.cqp_syntax.specs.declared.ty.Ty.{Ty}
use Rattle.cqp_grammar.specs.Trees.{ProgramTree}
use Rattle.cqp_expand.specs.Copying.{shown}
use Rattle.cqp_expand.specs.Copies.{IsSmall}
use Rattle.cqp_expand.proofs.CopyLoop.{IsGoing}
use Rattle.cqp_expand.proofs.Weights.{turns_left}
use Rattle.cqp_expand.proofs.copy.copied.Given as goal

abbrev pub invariant-loop-instance : goal.invariant-loop-instance
invariant-loop-instance l = (t : ProgramTree) (types : List Ty) → IsSmall t types l.outlines → IsGoing t types l.outlines (shown l.copier)

abbrev pub decreases-loop-instance : goal.decreases-loop-instance
decreases-loop-instance l = turns_left l.outlines l.copier.instances.items
