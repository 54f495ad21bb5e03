-- What the search for a qubit on both sides has found at its end.
use Rattle.std.proofs.Common.{◌≡◌, ℕ, ◌+◌, ◌<◌, ◌≤◌, ◌≢◌, ◌==◌, List, [], ◌∷◌, map, length, true, refl, sym, ◌∙◌, ap, subst, if◌then◌else◌, arith, Option, Some}
use Rattle.std.proofs.Common.{None}
use Rattle.cqp_syntax.specs.declared.node.Node.{Node}
use Rattle.cqp_syntax.specs.declared.node.Node.TheVariants as node
use Rattle.cqp_syntax.specs.declared.val.Val.{Val}
use Rattle.cqp_syntax.specs.declared.val.Val.TheVariants as val
use Rattle.cqp_syntax.specs.Trees.{Slot, named, valued}
use Rattle.cqp_syntax.specs.Terms.{term_of}
use Rattle.cqp_syntax.specs.Scope.{is_written}
use Rattle.cqp_syntax.specs.Free.{is_among}
use Rattle.cqp_syntax.specs.Listing.{Listing, Unfolds, type_of_name, term_at, process_at}
use Rattle.cqp_types.specs.declared.kind.Kind.TheVariants as kind
use Rattle.cqp_types.specs.Faults.{first_kind, shares}
use Rattle.cqp_syntax.specs.Ends.{end_at}
use Rattle.cqp_types.specs.Rows.{split_fault, split_at, FindsSplit}
use Rattle.cqp_syntax.specs.Uses.{own_slots, uses_at}
use Rattle.cqp_types.specs.Uses.{IsUsedOnBoth}
use Rattle.cqp_types.specs.Searched.{IsNode, AreRead, IsSearched}
use Rattle.cqp_syntax.proofs.Bools.{fails, decide, same_number, number_same}
use Rattle.cqp_types.proofs.SplitLaw.{splits_used}

-- the slots that a node uses are names
name_used : (l : Listing) (n : ℕ) (x : Node) (s : Slot) → Unfolds l n x → uses_at l n s ≡ true → (y : ℕ) × (s ≡ named y)
name_used l n x (named y) u h = (y, refl)
name_used l n x (valued v) u h = absurd (go x (sym (ap (λ t. is_among (valued v) (own_slots t)) u.tree) ∙ h))
  where
    none : (w : Val) (qs : List ℕ) → is_among (valued w) (map named qs) ≡ true → ⊥
    none w [] e = fails e
    none (val.Num k) (q ∷ qs) e = none (val.Num k) qs e
    none val.Unit (q ∷ qs) e = none val.Unit qs e
    none (val.Gate o) (q ∷ qs) e = none (val.Gate o) qs e
    none (val.Qubit i) (q ∷ qs) e = none (val.Qubit i) qs e
    none (val.Chan i) (q ∷ qs) e = none (val.Chan i) qs e

    written : (w z : Val) → is_written z ≡ true → is_among (valued w) (valued z ∷ []) ≡ true → ⊥
    written (val.Num k) z t e = fails e
    written val.Unit z t e = fails e
    written (val.Gate o) z t e = fails e
    written (val.Qubit i) (val.Num k) t e = fails e
    written (val.Qubit i) val.Unit t e = fails e
    written (val.Qubit i) (val.Gate o) t e = fails e
    written (val.Qubit i) (val.Qubit j) t e = fails t
    written (val.Qubit i) (val.Chan j) t e = fails t
    written (val.Chan i) (val.Num k) t e = fails e
    written (val.Chan i) val.Unit t e = fails e
    written (val.Chan i) (val.Gate o) t e = fails e
    written (val.Chan i) (val.Qubit j) t e = fails t
    written (val.Chan i) (val.Chan j) t e = fails t

    go : (z : Node) → is_among (valued v) (own_slots (term_of (type_of_name l) (term_at l) z)) ≡ true → ⊥
    go (node.In c xs b) e = none v (c ∷ []) e
    go (node.Out c es b) e = none v (c ∷ []) e
    go (node.Name y) e = none v (y ∷ []) e
    go (node.Apply qs o) e = none v qs e
    go (node.Measure qs) e = none v qs e
    go node.Nil e = fails e
    go (node.Par left right) e = fails e
    go (node.New y b) e = fails e
    go (node.Qbit y b) e = fails e
    go (node.Act f b) e = fails e
    go (node.If left right first other) e = fails e
    go (node.Num k) e = written v (val.Num k) refl e
    go node.Unit e = written v val.Unit refl e
    go (node.Gate o) e = written v (val.Gate o) refl e
    go (node.Sig f) e = fails e
    go (node.Add left right) e = fails e

module _ (l : Listing) (count least : ℕ) (last : List ℕ) (all : count ≡ length l.nodes) (ends : (a : ℕ) → a < length l.nodes → end_at l a ≤ length l.nodes)
    (read : AreRead l count) (s : IsSearched l count [] last least) where
  -- a composition that fails is not below the least that was found
  not_below : (a left right : ℕ) → IsNode l a (node.Par left right) → split_at l a ≡ Some kind.SplitTwice → least ≤ a
  not_below a left right is f =
      let used = splits_used l s.listed s.numbers a left right is.within is.tree is.numbers f in
      let b = used.1 in
      let end = ends a is.within in
      let there = read b.right (omega (arith, b.within)) in
      let name = name_used l b.right there.0 used.0 there.1.tree b.right_uses in
      let at : (r : IsUsedOnBoth l (a + 1) right (end_at l a) (named name.0)) → least ≤ a = λ r.
      s.found a left right name.0 is r (s.earlier name.0 r.right r.qubit (omega (arith, r.within)) r.right_uses) in
      at (subst (λ z. IsUsedOnBoth l (a + 1) right (end_at l a) z) name.1 b)

  -- no composition below the least that was found fails
  pub none_below : (a : ℕ) → a < count → a < least → split_at l a ≡ None
  none_below a within below = go node_at.0 node_at.1 node_at.1.tree.tree
    where
      node_at : (x : Node) × IsNode l a x
      node_at = read a within

      par_fails : (left right : ℕ) → IsNode l a (node.Par left right) → split_at l a ≡ None
      par_fails left right is =
          let p = process_at l left in
          let q = process_at l right in
          let own = ap (split_fault (type_of_name l)) is.tree.tree in
          decide (shares (type_of_name l) p q)
          (λ t. let least_of = not_below a left right is (own ∙ ap (λ b. first_kind ((b, kind.SplitTwice) ∷ [])) t) in absurd (omega arith))
          (λ t. own ∙ ap (λ b. first_kind ((b, kind.SplitTwice) ∷ [])) t)

      go : (x : Node) → IsNode l a x → term_at l a ≡ term_of (type_of_name l) (term_at l) x → split_at l a ≡ None
      go (node.Par left right) is e = par_fails left right is
      go node.Nil is e = ap (split_fault (type_of_name l)) e
      go (node.New y b) is e = ap (split_fault (type_of_name l)) e
      go (node.Qbit y b) is e = ap (split_fault (type_of_name l)) e
      go (node.Act f b) is e = ap (split_fault (type_of_name l)) e
      go (node.In c xs b) is e = ap (split_fault (type_of_name l)) e
      go (node.Out c es b) is e = ap (split_fault (type_of_name l)) e
      go (node.If left right first other) is e = ap (split_fault (type_of_name l)) e
      go (node.Num k) is e = ap (split_fault (type_of_name l)) e
      go node.Unit is e = ap (split_fault (type_of_name l)) e
      go (node.Name y) is e = ap (split_fault (type_of_name l)) e
      go (node.Gate o) is e = ap (split_fault (type_of_name l)) e
      go (node.Sig f) is e = ap (split_fault (type_of_name l)) e
      go (node.Add left right) is e = ap (split_fault (type_of_name l)) e
      go (node.Apply qs o) is e = ap (split_fault (type_of_name l)) e
      go (node.Measure qs) is e = ap (split_fault (type_of_name l)) e

  -- what was found
  pub finds : (found : Option ℕ) → found ≡ (if least == count then None else Some least) → FindsSplit l found
  finds found e =
      decide (least == count)
      (λ t.
      let same = same_number least count t in
      subst (FindsSplit l) (sym (e ∙ ap (λ b. if b then None else Some least) t)) (λ m low high. none_below m (omega arith) (omega arith)))
      (λ t.
      let other : least ≢ count = λ k. fails (sym t ∙ subst (λ z. (least == z) ≡ true) k (number_same least)) in
      let within : least < length l.nodes = omega (arith, s.within) in
      subst (FindsSplit l) (sym (e ∙ ap (λ b. if b then None else Some least) t))
      (record {
        from = omega arith;
        within = within;
        fails = s.fails within;
        before = λ m low high. none_below m (omega arith) high;
      }))
