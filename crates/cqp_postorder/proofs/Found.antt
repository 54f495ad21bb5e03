-- The numbers that were found for a node's parts, which stand behind those of the other subtrees.
use Rattle.std.proofs.Common.{◌≡◌, ℕ, ◌+◌, ◌-◌, ◌≤◌, List, length, take, drop, ◌∙◌, ap}
use Rattle.std.proofs.Common.{length-append, arith, take_all}
use Rattle.std.proofs.lemmas.List.{drop_at}
use Rattle.cqp_program.specs.declared.tree.TreeNode.{TreeNode}
use Rattle.cqp_program.specs.declared.fragment.Fragment.{Fragment}
use Rattle.cqp_postorder.specs.Subtrees.{part_count, Subtree}
use Rattle.cqp_postorder.specs.Placing.{PlacesParts}
use Rattle.cqp_postorder.proofs.Placed.{found_many}

module _ (t : Subtree) (left : List Fragment) (x : Fragment) (n : ℕ) (sizes all : List ℕ)
    (nodes : List TreeNode) (offsets : List ℕ)
    (q : PlacesParts t left x n sizes all nodes offsets) where
  -- as many numbers as the node has parts stand last
  numbers_before : (count : ℕ) → count ≡ part_count x.kind
      → length all ≡ length q.numbers + count
  numbers_before count e =
      let many : length q.found ≡ part_count x.kind = found_many _ _ _ _ _ _ _ _ _ q.node in
      omega (arith, many, ap length q.are, length-append q.numbers q.found)

  -- they are no more than all
  pub parts_within : (count : ℕ) → count ≡ part_count x.kind → count ≤ length all
  parts_within count e = omega (arith, numbers_before count e)

  -- they are the last of all
  pub parts_cut : (shown : List ℕ) (len count : ℕ) → shown ≡ all → len ≡ length all
      → count ≡ part_count x.kind
      → take (length shown - (len - count)) (drop (len - count) shown) ≡ q.found
  parts_cut shown len count e f g =
      let before = numbers_before count g in
      let place : length q.numbers ≡ len - count = omega arith in
      let found_is : drop (len - count) shown ≡ q.found =
      ap (drop (len - count)) (e ∙ q.are) ∙ drop_at q.numbers q.found (len - count) place in
      let many : length q.found ≡ part_count x.kind = found_many _ _ _ _ _ _ _ _ _ q.node in
      ap (take (length shown - (len - count))) found_is
      ∙ take_all _ q.found (omega (arith, many, ap length e))
