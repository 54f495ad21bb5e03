-- What is told of a name by its users is whether it is free.
use Rattle.std.proofs.Common.{◌≡◌, ℕ, true, false, List, [], ◌≤◌, ◌<◌, nat_lt, length, slice_get, slice_index_or, get_or, Some, None, sym, ap, subst, arith}
use Rattle.std.proofs.Common.{◌∙◌, ⊎_elim}
use Rattle.std.proofs.lemmas.Option.{slice_get_cases}
use Rattle.std.specs.List.{list_any, range_with_len}
use Rattle.std.specs.List.Sorted.{IsPartitionPoint}
use Rattle.cqp_syntax.specs.declared.node.Node.{Node}
use Rattle.cqp_syntax.specs.Terms.{term_of}
use Rattle.cqp_syntax.specs.Subterms.{term_size}
use Rattle.cqp_syntax.specs.Listing.{Listing, IsProc, term_at, process_at, type_of_name, root}
use Rattle.cqp_syntax.proofs.Spreads.{numbered}
use Rattle.cqp_syntax.proofs.Unfolding.{node_unfolds}
use Rattle.cqp_parts.specs.Free.{is_free}
use Rattle.cqp_parts.specs.Parts.{node_at, or_nil, IsProcessAt}
use Rattle.cqp_uses.specs.Users.{UseTables, IsUses, first_from, users_below}
use Rattle.cqp_syntax.specs.Ends.{end_at}
use Rattle.cqp_parts.proofs.Lists.{any_default}
use Rattle.cqp_uses.proofs.FreeUses.{uses_at, free_used}
use Rattle.cqp_uses.proofs.UserLists.{RiseFrom, are_users}
use Rattle.cqp_uses.proofs.FreeTests.{first_at, first_is, used_first, used_none, users_parted}

-- the term of a node
pub tells : (l : Listing) → IsProc l → (m : ℕ) → m < length l.nodes → term_at l m ≡ term_of (type_of_name l) (term_at l) (node_at l m)
tells l is m within = ⊎_elim
    (λ (t : (x : Node) × (m < length l.nodes) × (slice_get l.nodes m ≡ Some x) × (get_or l.nodes m x ≡ x)).
    let same : node_at l m ≡ t.0 = ap or_nil t.2 in
    (node_unfolds l (root l) is.listed m t.0 t.2).tree ∙ ap (term_of (type_of_name l) (term_at l)) (sym same))
    (λ (t : (length l.nodes ≤ m) × (slice_get l.nodes m ≡ None)). absurd (omega (arith, t.0)))
    (slice_get_cases l.nodes m).1

module _ (l : Listing) (u : UseTables) (is : IsUses l u) (x n : ℕ) where
  -- a name is free where a node of the subtree uses it
  pub free_is : (k : ℕ) → IsProcessAt l k → is_free x (process_at l k) ≡ list_any (uses_at l x) (range_with_len k (term_size (term_at l k)))
  free_is k there = free_used l (numbered l is.process.listed) (tells l is.process) x k there.0 there.1 (is.ends.within k (omega arith) there.0)

  -- from n on up to the first user from there, a name is free exactly where that user is within
  pub free_first : (m k : ℕ) → first_from n (users_below l (length l.nodes) x) ≡ Some m → IsProcessAt l k → n ≤ k → k ≤ m
      → is_free x (process_at l k) ≡ nat_lt m (end_at l k)
  free_first m k h there from low =
      free_is k there
      ∙ used_first l x n k (term_size (term_at l k)) (users_below l (length l.nodes) x) (are_users l x (length l.nodes)) from
      (is.ends.within k (omega arith) there.0) m h low

  -- that user is from n on
  pub free_least : (m : ℕ) → first_from n (users_below l (length l.nodes) x) ≡ Some m → n ≤ m
  free_least m h = (first_is 0 n m (users_below l (length l.nodes) x) (are_users l x (length l.nodes)).rise h).least

  -- where there is none, it is free nowhere from n on
  pub free_none : (k : ℕ) → first_from n (users_below l (length l.nodes) x) ≡ None → IsProcessAt l k → n ≤ k → is_free x (process_at l k) ≡ false
  free_none k h there from =
      free_is k there
      ∙ used_none l x n k (term_size (term_at l k)) (users_below l (length l.nodes) x) (are_users l x (length l.nodes)) from
      (is.ends.within k (omega arith) there.0) h

  -- the place behind the users below n has the first from n on
  pub first_user : (us : List ℕ) (at : ℕ) → x < length u.names → us ≡ slice_index_or u.names x us
      → ((i j d : ℕ) → i ≤ j → j < length us → nat_lt (slice_index_or us j d) n ≡ true → nat_lt (slice_index_or us i d) n ≡ true)
      × (IsPartitionPoint (λ m. nat_lt m n ≡ true) (λ m. nat_lt m n ≡ false) us at → slice_get us at ≡ first_from n (users_below l (length l.nodes) x))
  first_user us at named are_us =
      let same : us ≡ users_below l (length l.nodes) x = are_us ∙ (any_default u.names x us [] named ∙ is.names.each x (omega (arith, is.names.count))) in
      let rise = subst (RiseFrom 0) (sym same) (are_users l x (length l.nodes)).rise in (
        users_parted us n rise,
        λ point. first_at n at us (λ i h w. point.0 i 0 (omega arith) h) (λ i h w. point.1 i 0 h w) ∙ ap (first_from n) same,
      )
