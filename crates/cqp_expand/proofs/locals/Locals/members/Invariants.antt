use Rattle.std.proofs.Common.{◌≡◌, ◌+◌, List, drop, vec_len}
use Rattle.cqp_grammar.specs.Trees.{DefinitionTree, ProcessTree}
use Rattle.cqp_program.specs.Listing.{tree_lists}
use Rattle.cqp_expand.specs.Locals.{table}
use Rattle.cqp_expand.specs.Outlines.{signatures, AreKnown}
use Rattle.cqp_expand.proofs.Left.{Left}
use Rattle.cqp_expand.proofs.PartReads.{pushes}
use Rattle.cqp_expand.proofs.locals.Locals.members.Given as goal

abbrev pub invariant-loop-depth : goal.invariant-loop-depth
invariant-loop-depth l =
    (p : ProcessTree) (ds : List DefinitionTree) → l.fn.tree ≡ tree_lists p → AreKnown (table l.fn.self) l.fn.known ds
    → Left (signatures ds) p l.fn.self l.depths.items (drop l.at l.nodes) (drop l.at l.offsets) l.at l.self l.members.items

abbrev pub decreases-loop-depth : goal.decreases-loop-depth
decreases-loop-depth l = pushes (drop l.at l.nodes) + vec_len l.depths
