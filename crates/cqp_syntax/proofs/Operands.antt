-- What a sound listing says of each of its nodes, and of their number.
use Rattle.std.proofs.Common.{◌≡◌, ℕ, zero, suc, List, [], ◌∷◌, Bool, true, length, ◌∙◌, ap}
use Rattle.std.proofs.Common.{subst, slice_get, Some, None}
use Rattle.std.specs.List.{list_all}
use Rattle.cqp_syntax.specs.declared.node.Node.{Node}
use Rattle.cqp_syntax.specs.Listing.{Listing, IsProc, has_operands, root}
use Rattle.cqp_syntax.specs.Preorder.{process_size}
use Rattle.cqp_syntax.proofs.Bools.{both}
use Rattle.cqp_syntax.proofs.Sizes.{length-process_nodes}

-- a test that all nodes pass is passed by the node at a place
all_at : (p : Node → Bool) (xs : List Node) (k : ℕ) (x : Node) → list_all p xs ≡ true
    → slice_get xs k ≡ Some x → p x ≡ true
all_at p [] k x h e = absurd (none e)
  where
    none : None ≡ Some x → ⊥
    none q = cc
all_at p (y ∷ ys) zero x h e =
    let same : y ≡ x = cc in
    subst (λ z. p z ≡ true) same (both (p y) (list_all p ys) h).0
all_at p (y ∷ ys) (suc k) x h e = all_at p ys k x (both (p y) (list_all p ys) h).1 e

-- a gate application or a measurement among the nodes has an operand
pub operands_at : (l : Listing) → IsProc l → (n : ℕ) (x : Node) → slice_get l.nodes n ≡ Some x
    → has_operands x ≡ true
operands_at l is n x found = all_at has_operands l.nodes n x is.sound.operands found

-- there are as many nodes as the root is large
pub nodes_of_root : (l : Listing) → IsProc l → length l.nodes ≡ process_size (root l)
nodes_of_root l is = ap length is.listed.nodes ∙ length-process_nodes 0 (root l)
