use Rattle.std.proofs.Common.{◌≡◌, ◌≤◌, length, take, vec_capacity}
use Rattle.cqp_postorder.specs.Subtrees.{Subtree, IsCounted, fragments_of, fragment_sizes}
use Rattle.cqp_postorder.proofs.sizes.subtree_sizes.Given as goal

-- the sizes are those of the fragments that were read, and there is room for the others
abbrev pub invariant-loop-fragment : goal.invariant-loop-fragment
invariant-loop-fragment l = record {
  sized : (t : Subtree) → IsCounted t → l.fragments ≡ fragments_of t
      → l.sizes.items ≡ take l.fragment-index (fragment_sizes t);
  many : length l.sizes.items ≡ l.fragment-index;
  room : length l.fragments ≤ vec_capacity l.sizes;
}
