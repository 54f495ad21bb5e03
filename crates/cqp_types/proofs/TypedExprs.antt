-- Expressions of which no node fails are typed.
use Rattle.std.proofs.Common.{◌≡◌, List, [], ◌∷◌, ◌++◌, length, true, ◌==◌, ◌&&◌, not, refl, sym, ◌∙◌, subst, None}
use Rattle.std.specs.List.{list_all}
use Rattle.cqp_syntax.specs.declared.val.Val.TheVariants as val
use Rattle.cqp_syntax.specs.TypeTrees.{TypeTree, int_type, unit_type, qbit_type, op_type, chan_type}
use Rattle.cqp_syntax.specs.Trees.{Slot, named, valued, Expr, slot, sig, add, apply, measure, Binder}
use Rattle.cqp_syntax.specs.Free.{same_slot, is_among, except, expr_slots, bound_slots}
use Rattle.cqp_types.specs.declared.kind.Kind.TheVariants as kind
use Rattle.cqp_types.specs.Contexts.{Context, Has, is_twice, bound_entry, binding}
use Rattle.cqp_types.specs.Derivations.{AreQubits, HasType, slot_, sig_, add_, apply_, measure_}
use Rattle.cqp_types.specs.Faults.{Annotation, slot_type, form_type, is_int, is_qubit, places_in, apply_fault}
use Rattle.cqp_syntax.proofs.Bools.{fails, both, either, or_left, not_false, decide, number_same, same_number}
use Rattle.cqp_types.proofs.FirstKinds.{none_first}
use Rattle.cqp_syntax.proofs.TypeTests.{type_is}
use Rattle.cqp_syntax.proofs.Slots.{slot_is, slot_other, among_left, among_right, stays_among}
use Rattle.cqp_types.proofs.ContextLaws.{has_name, has_above, above_all}
use Rattle.cqp_types.proofs.Clean.{ExprClean, Annotates}

module _ (ty : Annotation) where
  -- each of these slots has the type that its form tells
  abbrev pub Typed : Context → List Slot → Type 0
  Typed g ss = (s : Slot) → is_among s ss ≡ true → Has g s (slot_type ty s)

  -- slots of two lists that are typed are typed on the left
  pub typed_left : (g : Context) (rs ss : List Slot) → Typed g (rs ++ ss) → Typed g rs
  typed_left g rs ss k s i = k s (among_left s rs ss i)

  -- and on the right
  pub typed_right : (g : Context) (rs ss : List Slot) → Typed g (rs ++ ss) → Typed g ss
  typed_right g rs ss k s i = k s (among_right s rs ss i)

  -- so has a number, `unit` or a gate
  own_type : (g : Context) (s : Slot) → (same_slot s s ≡ true → Has g s (slot_type ty s)) → Has g s (slot_type ty s)
  own_type g (named x) k = k (number_same x)
  own_type g (valued (val.Qubit q)) k = k (number_same q)
  own_type g (valued (val.Chan c)) k = k (number_same c)
  own_type g (valued (val.Num v)) k = refl
  own_type g (valued val.Unit) k = refl
  own_type g (valued (val.Gate o)) k = refl

  -- the first of typed slots has the type that its form tells
  pub typed_head : (g : Context) (r : Slot) (ss : List Slot) → Typed g (r ∷ ss) → Has g r (slot_type ty r)
  typed_head g r ss k = own_type g r (λ own. k r (or_left (same_slot r r) (is_among r ss) own))

  -- and the others are typed
  pub typed_tail : (g : Context) (r : Slot) (ss : List Slot) → Typed g (r ∷ ss) → Typed g ss
  typed_tail g r ss k s i = k s (or_right s i)
    where
      or_right : (s : Slot) → is_among s ss ≡ true → is_among s (r ∷ ss) ≡ true
      or_right s i = among_right s (r ∷ []) ss i

  -- what is typed above binders of their types is typed below them, with their names
  pub typed_below : (bs : List Binder) (g : Context) (ss : List Slot) → Annotates ty bs → Typed g (except (bound_slots bs) ss) → Typed (binding bs g) ss
  typed_below bs g ss a k s i =
      decide (is_among s (bound_slots bs))
      (λ e. bound_typed bs g s a e)
      (λ e. above_all bs g s (slot_type ty s) e (k s (stays_among s (bound_slots bs) ss e i)))
    where
      bound_typed : (bs : List Binder) (g : Context) (s : Slot) → Annotates ty bs → is_among s (bound_slots bs) ≡ true → Has (binding bs g) s (slot_type ty s)
      bound_typed [] g s a n = absurd (fails n)
      bound_typed (b ∷ bs) g s a n =
          decide (same_slot s (named b.name))
          (λ e.
          subst (λ r. Has (binding (b ∷ bs) g) r (slot_type ty r)) (sym (slot_is s (named b.name) e))
          (subst (λ t. Has (binding (b ∷ bs) g) (named b.name) t) (sym a.0) (has_name b (binding bs g))))
          (λ e.
          has_above (bound_entry b) (binding bs g) s (slot_type ty s) (slot_other s (named b.name) e)
          (bound_typed bs g s a.1 (either (same_slot s (named b.name)) (is_among s (bound_slots bs)) n (λ k. absurd (fails (sym e ∙ k))) (λ k. k))))

  -- expressions
  pub qubit_is : (g : Context) (s : Slot) → Has g s (slot_type ty s) → is_qubit ty s ≡ true → Has g s qbit_type
  qubit_is g s is q = subst (λ t. Has g s t) (type_is (slot_type ty s) qbit_type q) is

  -- slots of type Qbit by form are qubits of the context
  pub qubits_are : (g : Context) (qs : List Slot) → Typed g qs → list_all (is_qubit ty) qs ≡ true → AreQubits g qs
  qubits_are g [] k q = tt
  qubits_are g (r ∷ qs) k q =
      let parts = both (is_qubit ty r) (list_all (is_qubit ty) qs) q in
      (qubit_is g r (typed_head g r qs k) parts.0, qubits_are g qs (typed_tail g r qs k) parts.1)

  -- a number where no fault says otherwise
  pub int_typed : (g : Context) (e : Expr) → HasType g e (form_type ty e) → is_int ty e ≡ true → HasType g e int_type
  int_typed g e d i = subst (λ t. HasType g e t) (type_is (form_type ty e) int_type i) d

  -- a gate application that does not fail is typed
  apply_typed : (g : Context) (qs : List Slot) (e : Expr) (t : TypeTree) → Typed g qs → HasType g e t
      → apply_fault ty qs (places_in t) ≡ None → HasType g (apply qs e) unit_type
  apply_typed g qs e (op_type n) k d h =
      let first = none_first (not (list_all (is_qubit ty) qs)) kind.Mismatch ((not (length qs == n), kind.Count) ∷ (is_twice qs, kind.OperandTwice) ∷ []) h in
      let second = none_first (not (length qs == n)) kind.Count ((is_twice qs, kind.OperandTwice) ∷ []) first.1 in
      let third = none_first (is_twice qs) kind.OperandTwice [] second.1 in
      apply_ third.0 (qubits_are g qs k (not_false (list_all (is_qubit ty) qs) first.0))
      (sym (same_number (length qs) n (not_false (length qs == n) second.0))) d
  apply_typed g qs e int_type k d h = absurd (cc h)
  apply_typed g qs e unit_type k d h = absurd (cc h)
  apply_typed g qs e qbit_type k d h = absurd (cc h)
  apply_typed g qs e (chan_type ts) k d h = absurd (cc h)

  -- an expression of which no node fails has the type that its form tells
  pub expr_typed : (g : Context) (e : Expr) → Typed g (expr_slots e) → ExprClean ty e → HasType g e (form_type ty e)
  expr_typed g (slot s) k c = slot_ (typed_head g s [] k)
  expr_typed g (sig e) k c =
      sig_ (int_typed g e (expr_typed g e k c.1) (not_false (is_int ty e) (none_first (not (is_int ty e)) kind.Mismatch [] c.0).0))
  expr_typed g (add e f) k c =
      let ints =
      both (is_int ty e) (is_int ty f) (not_false (is_int ty e && is_int ty f) (none_first (not (is_int ty e && is_int ty f)) kind.Mismatch [] c.0).0) in
      add_ (int_typed g e (expr_typed g e (typed_left g (expr_slots e) (expr_slots f) k) c.1) ints.0)
      (int_typed g f (expr_typed g f (typed_right g (expr_slots e) (expr_slots f) k) c.2) ints.1)
  expr_typed g (apply qs e) k c =
      apply_typed g qs e (form_type ty e) (typed_left g qs (expr_slots e) k) (expr_typed g e (typed_right g qs (expr_slots e) k) c.1) c.0
  expr_typed g (measure qs) k c =
      let first = none_first (not (list_all (is_qubit ty) qs)) kind.Mismatch ((is_twice qs, kind.OperandTwice) ∷ []) c in
      measure_ (none_first (is_twice qs) kind.OperandTwice [] first.1).0 (qubits_are g qs k (not_false (list_all (is_qubit ty) qs) first.0))
