-- A parallel composition fails where a qubit is used by a node on its left and by one on its right.
use Rattle.std.proofs.Common.{◌≡◌, ℕ, ◌+◌, ◌<◌, List, [], ◌∷◌, length, Bool, true, false, ◌&&◌, refl, sym, ◌∙◌, ap, subst, arith, Some}
use Rattle.std.specs.List.{list_any}
use Rattle.cqp_syntax.specs.declared.node.Node.TheVariants as node
use Rattle.cqp_syntax.specs.Trees.{Slot, par}
use Rattle.cqp_syntax.specs.Terms.{process}
use Rattle.cqp_syntax.specs.Subterms.{term_terms, term_node, term_size}
use Rattle.cqp_syntax.specs.Binders.{binders_of}
use Rattle.cqp_syntax.specs.Free.{is_among, free_slots}
use Rattle.cqp_syntax.specs.Scope.{is_scoped}
use Rattle.cqp_syntax.specs.Listing.{Listing, IsListing, Unfolds, type_of_name, term_at, process_at, root}
use Rattle.cqp_syntax.specs.Numbered.{IsNumbered}
use Rattle.cqp_types.specs.declared.kind.Kind.TheVariants as kind
use Rattle.cqp_types.specs.Faults.{is_qubit, first_kind, shares}
use Rattle.cqp_syntax.specs.Ends.{end_at}
use Rattle.cqp_types.specs.Rows.{split_fault, split_at}
use Rattle.cqp_syntax.specs.Uses.{is_used}
use Rattle.cqp_types.specs.Uses.{IsUsedOnBoth}
use Rattle.cqp_syntax.proofs.Bools.{fails, both, both_hold, decide}
use Rattle.cqp_syntax.proofs.Slots.{among_self, none_among, some_among}
use Rattle.cqp_syntax.proofs.Scoped.{free_bound}
use Rattle.cqp_syntax.proofs.Parts.{right_behind, left_behind, par_ends}
use Rattle.cqp_syntax.proofs.UsedFree.{free_is_used}
use Rattle.cqp_syntax.proofs.Placed.{TermPlaced, outside_not_bound, not_bound_left, not_bound_right, left_counts, right_counts}
use Rattle.cqp_syntax.proofs.UsedAt.{term_used, used_term, placed_at}

-- a test that one among the slots passes, some slot passes
pub any_among : (f : Slot → Bool) (s : Slot) (ss : List Slot) → is_among s ss ≡ true → f s ≡ true → list_any f ss ≡ true
any_among f s ss i h = decide (list_any f ss) (λ e. e) (λ e. absurd (fails (sym (none_among f s ss e i) ∙ h)))

module _ (l : Listing) (listed : IsListing l (root l)) (numbers : IsNumbered l) (n left right : ℕ) (within : n < length l.nodes)
    (u : Unfolds l n (node.Par left right)) (e : node.Par left right ≡ term_node n (term_at l n)) where
  -- what is free on both sides is used on both
  free_used : (s : Slot) → is_qubit (type_of_name l) s ≡ true → is_among s (free_slots (process_at l left)) ≡ true
      → is_among s (free_slots (process_at l right)) ≡ true → IsUsedOnBoth l (n + 1) right (end_at l n) s
  free_used s q i j =
      let p = process_at l left in
      let r = process_at l right in
      let at = subst TermPlaced u.tree (placed_at l listed numbers n within) in
      let scopes = both (is_scoped at.bound p) (is_scoped at.bound r) at.scoped in
      let outer = free_bound s at.bound p scopes.0 i in
      let one = sym (free_is_used s p (outside_not_bound s at.first at.first at.bound (binders_of p) (omega arith) at.below (left_counts p r at) outer)) ∙ i in
      let two = sym (free_is_used s r (outside_not_bound s at.first (at.first + length (binders_of p)) at.bound (binders_of r) (omega arith) at.below
      (right_counts p r at) outer)) ∙ j in
      let first = u.bodies.0 in
      let second = u.bodies.1.0 in
      let here = term_used l s numbers left first.within (ap (λ t. is_used s (term_terms t)) first.is ∙ one) in
      let there = term_used l s numbers right second.within (ap (λ t. is_used s (term_terms t)) second.is ∙ two) in
      record {
        qubit = q;
        left = here.at;
        right = there.at;
        from = omega (arith, here.from, left_behind l n left right u e);
        parted = (
          omega (arith, here.before, right_behind l n (node.Par left right) left right u e refl, left_behind l n left right u e, ap term_size first.is),
          there.from,
        );
        within = omega (arith, there.before, par_ends l n left right u e);
        left_uses = here.uses;
        right_uses = there.uses;
      }

  -- a composition that fails has a qubit that is used on both sides
  pub splits_used : split_at l n ≡ Some kind.SplitTwice → (s : Slot) × IsUsedOnBoth l (n + 1) right (end_at l n) s
  splits_used h =
      let p = process_at l left in
      let r = process_at l right in
      let ty = type_of_name l in
      let own : split_fault ty (process (par p r)) ≡ Some kind.SplitTwice = sym (ap (split_fault ty) u.tree) ∙ h in
      some_among (λ s. is_qubit ty s && is_among s (free_slots r)) (free_slots p)
      (λ s m. among_self s (free_slots r) (both (is_qubit ty s) (is_among s (free_slots r)) m).1)
      (shared (shares ty p r) own)
      (λ s i m. let parts = both (is_qubit ty s) (is_among s (free_slots r)) m in (s, free_used s parts.0 i parts.1))
    where
      shared : (b : Bool) → first_kind ((b, kind.SplitTwice) ∷ []) ≡ Some kind.SplitTwice → b ≡ true
      shared true h = refl
      shared false h = absurd (cc h)

  -- where a qubit is used on both sides, the composition fails
  pub used_splits : (s : Slot) → IsUsedOnBoth l (n + 1) right (end_at l n) s → split_at l n ≡ Some kind.SplitTwice
  used_splits s b =
      let p = process_at l left in
      let r = process_at l right in
      let ty = type_of_name l in
      let at = subst TermPlaced u.tree (placed_at l listed numbers n within) in
      let first = u.bodies.0 in
      let second = u.bodies.1.0 in
      let size = ap term_size first.is in
      let place = left_behind l n left right u e in
      let far = right_behind l n (node.Par left right) left right u e refl in
      let end = par_ends l n left right u e in
      let one = sym (ap (λ t. is_used s (term_terms t)) first.is)
      ∙ used_term l s numbers left b.left first.within (omega (arith, b.from)) (omega (arith, b.parted.0, size)) b.left_uses in
      let two = sym (ap (λ t. is_used s (term_terms t)) second.is)
      ∙ used_term l s numbers right b.right second.within b.parted.1 (omega (arith, b.within)) b.right_uses in
      let free_left = free_is_used s p (not_bound_left s p r at two) ∙ one in
      let free_right = free_is_used s r (not_bound_right s p r at one) ∙ two in
      let shared = any_among (λ t. is_qubit ty t && is_among t (free_slots r)) s (free_slots p) free_left
      (both_hold (is_qubit ty s) (is_among s (free_slots r)) b.qubit free_right) in
      ap (split_fault ty) u.tree ∙ ap (λ c. first_kind ((c, kind.SplitTwice) ∷ [])) shared
