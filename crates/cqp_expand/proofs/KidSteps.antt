-- One part of what is left is replaced by its parts.
use Rattle.std.proofs.Common.{◌≡◌, ℕ, ◌+◌, List, ◌∷◌, ◌++◌, map, length, sym, ◌∙◌, ap, ap₂, append_assoc, length-append, arith}
use Rattle.std.proofs.lemmas.List.{length-map}
use Rattle.cqp_expand.specs.Scopes.{below_all}
use Rattle.cqp_expand.specs.Faults.{Signature}
use Rattle.cqp_expand.specs.Nodes.{member_of}
use Rattle.cqp_expand.proofs.Subtrees.{size_of, types_of, root, offset_of, bound_at, own_faults}
use Rattle.cqp_expand.proofs.Kids.{Item, items, kids, left_nodes, left_offsets, left_types, left_faults, left_members}
use Rattle.cqp_expand.proofs.Kids.{nodes-append, offsets-append, types-append, faults-append, members-append}
use Rattle.cqp_expand.proofs.KidNodes.{nodes-kids, size-kids, offsets-kids, types-kids}
use Rattle.cqp_expand.proofs.KidMembers.{members-kids}
use Rattle.cqp_expand.proofs.KidFaults.{faults-kids}

-- what is left behind the node of a part whose first binder has number n
abbrev pub behind : ℕ → Item → List Item → List Item
behind n i is = items (below_all i.scope n (bound_at i.part)) (kids i.part) ++ is

-- the nodes: that of the part first
pub nodes_step : (n at : ℕ) (i : Item) (is : List Item) → left_nodes at (i ∷ is) ≡ root (at + 1) i.part ∷ left_nodes (at + 1) (behind n i is)
nodes_step n at i is =
    let s = below_all i.scope n (bound_at i.part) in
    let ks = items s (kids i.part) in
    ap (λ l. l ++ left_nodes (at + size_of i.part) is) (nodes-kids s at i.part)
    ∙ ap (λ k. root (at + 1) i.part ∷ (left_nodes (at + 1) ks ++ left_nodes k is)) (size-kids s at i.part)
    ∙ ap (λ l. root (at + 1) i.part ∷ l) (sym (nodes-append (at + 1) ks is))

-- the offsets
pub offsets_step : (n : ℕ) (i : Item) (is : List Item) → left_offsets (i ∷ is) ≡ offset_of i.part ∷ left_offsets (behind n i is)
offsets_step n i is =
    let s = below_all i.scope n (bound_at i.part) in
    ap (λ l. l ++ left_offsets is) (offsets-kids s i.part) ∙ ap (λ l. offset_of i.part ∷ l) (sym (offsets-append (items s (kids i.part)) is))

-- the types of the names that are bound
pub types_step : (n : ℕ) (i : Item) (is : List Item) → left_types (i ∷ is) ≡ map (λ p. p.ty) (bound_at i.part) ++ left_types (behind n i is)
types_step n i is =
    let s = below_all i.scope n (bound_at i.part) in
    let ks = items s (kids i.part) in
    ap (λ l. l ++ left_types is) (types-kids s i.part) ∙ append_assoc (map (λ p. p.ty) (bound_at i.part)) (left_types ks) (left_types is)
    ∙ ap (λ l. map (λ p. p.ty) (bound_at i.part) ++ l) (sym (types-append ks is))

-- the faults
pub faults_step : (ds : List Signature) (n : ℕ) (i : Item) (is : List Item)
    → left_faults ds (i ∷ is) ≡ own_faults ds i.scope i.part ++ left_faults ds (behind n i is)
faults_step ds n i is =
    let s = below_all i.scope n (bound_at i.part) in
    let ks = items s (kids i.part) in
    ap (λ l. l ++ left_faults ds is) (faults-kids ds i.scope n i.part) ∙ append_assoc (own_faults ds i.scope i.part) (left_faults ds ks) (left_faults ds is)
    ∙ ap (λ l. own_faults ds i.scope i.part ++ l) (sym (faults-append ds ks is))

-- the members: that of the part first
pub members_step : (ds : List Signature) (n at : ℕ) (i : Item) (is : List Item)
    → left_members ds n at (i ∷ is) ≡ member_of ds i.scope n (root (at + 1) i.part) ∷ left_members ds (n + length (bound_at i.part)) (at + 1) (behind n i is)
members_step ds n at i is =
    let s = below_all i.scope n (bound_at i.part) in
    let ks = items s (kids i.part) in
    let own = member_of ds i.scope n (root (at + 1) i.part) in
    let m = n + length (bound_at i.part) in
    let more = left_members ds m (at + 1) ks in
    let count : n + length (types_of i.part) ≡ m + length (left_types ks) =
    omega (
      arith,
      ap length (types-kids s i.part),
      length-append (map (λ p. p.ty) (bound_at i.part)) (left_types ks),
      length-map (bound_at i.part)
          (λ p. p.ty),
    ) in
    ap (λ l. l ++ left_members ds (n + length (types_of i.part)) (at + size_of i.part) is) (members-kids ds i.scope n at i.part)
    ∙ ap₂ (λ a b. own ∷ (more ++ left_members ds a b is)) count (size-kids s at i.part)
    ∙ ap (λ l. own ∷ l) (sym (members-append ds m (at + 1) ks is))
