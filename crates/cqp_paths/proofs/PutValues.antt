-- A value of the type of a name takes its place, and values those of several names.
use Rattle.std.proofs.Common.{◌≡◌, ℕ, List, [], ◌∷◌, ◌++◌, map, true, false, not, ◌==◌, refl, sym, ap, ◌∙◌, subst, ◌⊎◌, inl, inr, cond}
use Rattle.std.specs.List.{list_any}
use Rattle.cqp_syntax.specs.declared.val.Val.{Val}
use Rattle.cqp_syntax.specs.declared.val.Val.TheVariants as val
use Rattle.cqp_syntax.specs.TypeTrees.{qbit_type}
use Rattle.cqp_syntax.specs.Trees.{Slot, named, valued, Binder}
use Rattle.cqp_syntax.specs.Trees.{Process, nil, par, new, qbit, act, input, output, branch, value}
use Rattle.cqp_syntax.specs.Binders.{binders_of}
use Rattle.cqp_syntax.specs.Free.{same_slot, is_among, free_slots}
use Rattle.cqp_syntax.specs.Substitution.{with_value, with_values}
use Rattle.cqp_types.specs.Contexts.{Context, type_in, Has, is_twice, binding}
use Rattle.cqp_types.specs.Derivations.{Derives, is_qbit, sent_under}
use Rattle.cqp_syntax.proofs.Bools.{fails, or_left, or_right, neither, decide, not_true}
use Rattle.cqp_syntax.proofs.Slots.{slot_other}
use Rattle.cqp_types.proofs.ContextLaws.{qbit_self, above_all}
use Rattle.cqp_types.proofs.Sent.{false_unless, sent_is}
use Rattle.cqp_types.specs.Laws.{Unbound}
use Rattle.cqp_types.proofs.Puts.{unbound_back, put, put_cases, put_out, value_free, free_put}
use Rattle.cqp_types.proofs.ValueForName.{value_for_name}
use Rattle.cqp_syntax.specs.Lists.{is_distinct}
use Rattle.cqp_cells.specs.Owners.{holds}
use Rattle.cqp_cells.proofs.Options.{both_true}

-- a value in the place of a name leaves the binders
pub binders_of-with_value : (x : ℕ) (v : Val) (p : Process) → binders_of (with_value x v p) ≡ binders_of p
binders_of-with_value x v nil = refl
binders_of-with_value x v (par p q) = ap (λ bs. bs ++ binders_of (with_value x v q)) (binders_of-with_value x v p)
    ∙ ap (λ bs. binders_of p ++ bs) (binders_of-with_value x v q)
binders_of-with_value x v (new b p) = ap (λ bs. b ∷ bs) (binders_of-with_value x v p)
binders_of-with_value x v (qbit y p) = let b : Binder = record { name = y; ty = qbit_type } in ap (λ bs. b ∷ bs) (binders_of-with_value x v p)
binders_of-with_value x v (act e p) = binders_of-with_value x v p
binders_of-with_value x v (input c bs p) = ap (λ cs. bs ++ cs) (binders_of-with_value x v p)
binders_of-with_value x v (output c es p) = binders_of-with_value x v p
binders_of-with_value x v (branch e f p q) = ap (λ bs. bs ++ binders_of (with_value x v q)) (binders_of-with_value x v p)
    ∙ ap (λ bs. binders_of p ++ bs) (binders_of-with_value x v q)

-- values in the places of several names leave the binders
pub binders_of-with_values : (bs : List Binder) (vs : List Val) (p : Process) → binders_of (with_values bs vs p) ≡ binders_of p
binders_of-with_values [] vs p = refl
binders_of-with_values (b ∷ bs) [] p = refl
binders_of-with_values (b ∷ bs) (v ∷ vs) p = binders_of-with_values bs vs (with_value b.name v p) ∙ binders_of-with_value b.name v p

-- a name that differs from all names of binders is bound by none
pub unbound_of : (x : ℕ) (bs : List Binder) → list_any (λ y. x == y) (map (λ b. b.name) bs) ≡ false → Unbound x bs
unbound_of x [] h = tt
unbound_of x (b ∷ bs) h =
    let both = neither (x == b.name) (list_any (λ y. x == y) (map (λ c. c.name) bs)) h in
    (slot_other (named x) (named b.name) both.0, unbound_of x bs both.1)

-- the first of distinct names is bound by no further binder
pub first_unbound : (b : Binder) (bs : List Binder) → is_distinct (map (λ c. c.name) (b ∷ bs)) ≡ true
    → Unbound b.name bs × (is_distinct (map (λ c. c.name) bs) ≡ true)
first_unbound b bs h =
    let both = both_true (not (list_any (λ y. b.name == y) (map (λ c. c.name) bs))) (is_distinct (map (λ c. c.name) bs)) h in
    (unbound_of b.name bs (not_true (list_any (λ y. b.name == y) (map (λ c. c.name) bs)) both.0), both.1)

-- a qubit that is held once a value is put in was held, or is the value
pub put_holds : (q x : ℕ) (v : Val) (p : Process) → Unbound x (binders_of p) → holds q (with_value x v p) ≡ true
    → (holds q p ≡ true) ⊎ (valued v ≡ valued (val.Qubit q))
put_holds q x v p unbound h =
    put_out x v (valued (val.Qubit q)) (free_slots p) (subst (λ ss. is_among (valued (val.Qubit q)) ss ≡ true) (free_put x v p unbound) h)
    (λ r e i. by_case r e i (put_cases x v r))
  where
    by_case : (r : Slot) → put x v r ≡ valued (val.Qubit q) → is_among r (free_slots p) ≡ true
        → ((r ≡ named x) × (put x v r ≡ valued v)) ⊎ ((same_slot r (named x) ≡ false) × (put x v r ≡ r))
        → (holds q p ≡ true) ⊎ (valued v ≡ valued (val.Qubit q))
    by_case r e i (inl c) = inr (sym c.1 ∙ e)
    by_case r e i (inr c) = inl (subst (λ s. is_among s (free_slots p) ≡ true) (sym c.1 ∙ e) i)

-- values of the types of binders, as many as there are
abbrev pub AreTypedAs : Context → List Binder → List Val → Type 0
AreTypedAs g [] [] = Unit {0}
AreTypedAs g (b ∷ bs) (v ∷ vs) = Has g (valued v) b.ty × AreTypedAs g bs vs
AreTypedAs g [] (v ∷ vs) = ⊥
AreTypedAs g (b ∷ bs) [] = ⊥

-- the qubits among values
abbrev pub sent_values : Context → List Val → List Slot
sent_values g vs = sent_under g (map (λ v. value v) vs)

-- a process stays typed where values take the places of names, if each qubit among them is one alone and isn't held
pub put_values : (g : Context) (bs : List Binder) (vs : List Val) {p : Process} → is_distinct (map (λ b. b.name) (bs ++ binders_of p)) ≡ true
    → AreTypedAs g bs vs
    → is_twice (sent_values g vs) ≡ false → ((s : Slot) → is_among s (sent_values g vs) ≡ true → is_among s (free_slots p) ≡ false)
    → Derives (binding bs g) p → Derives g (with_values bs vs p)
put_values g [] [] names typed once fresh d = d
put_values g [] (v ∷ vs) names typed once fresh d = absurd typed
put_values g (b ∷ bs) [] names typed once fresh d = absurd typed
put_values g (b ∷ bs) (v ∷ vs) {p} names typed once fresh d = put_values g bs vs names_after typed.1 once_after fresh_after
    (value_for_name (binding bs g) (binding bs g) b v (λ s t is. is) (record { typed = here; fresh = own }) unbound d)
  where
    first : Unbound b.name (bs ++ binders_of p) × (is_distinct (map (λ c. c.name) (bs ++ binders_of p)) ≡ true)
    first = first_unbound b (bs ++ binders_of p) names

    unbound : Unbound b.name (binders_of p)
    unbound = unbound_back b.name bs (binders_of p) first.0

    names_after : is_distinct (map (λ c. c.name) (bs ++ binders_of (with_value b.name v p))) ≡ true
    names_after = subst (λ cs. is_distinct (map (λ c. c.name) (bs ++ cs)) ≡ true) (sym (binders_of-with_value b.name v p)) first.1

    here : Has (binding bs g) (valued v) b.ty
    here = above_all bs g (valued v) b.ty (value_free v bs) typed.0

    -- the value is sent where its type is Qbit
    sent_first : (is_qbit (type_in g (valued v)) ≡ true) → sent_values g (v ∷ vs) ≡ valued v ∷ sent_values g vs
    sent_first e = ap (λ c. cond c (valued v ∷ sent_values g vs) (sent_values g vs)) e

    sent_not : (is_qbit (type_in g (valued v)) ≡ false) → sent_values g (v ∷ vs) ≡ sent_values g vs
    sent_not e = ap (λ c. cond c (valued v ∷ sent_values g vs) (sent_values g vs)) e

    own : b.ty ≡ qbit_type → is_among (valued v) (free_slots p) ≡ false
    own is =
        let qubit : Has g (valued v) qbit_type = subst (λ t. Has g (valued v) t) is typed.0 in
        let e : is_qbit (type_in g (valued v)) ≡ true = ap is_qbit qubit in
        fresh (valued v) (subst (λ ss. is_among (valued v) ss ≡ true) (sym (sent_first e))
        (or_left (same_slot (valued v) (valued v)) (is_among (valued v) (sent_values g vs)) (qbit_self g (valued v) qubit)))

    once_after : is_twice (sent_values g vs) ≡ false
    once_after =
        decide (is_qbit (type_in g (valued v)))
        (λ e. (neither (is_among (valued v) (sent_values g vs)) (is_twice (sent_values g vs)) (subst (λ ss. is_twice ss ≡ false) (sent_first e) once)).1)
        (λ e. subst (λ ss. is_twice ss ≡ false) (sent_not e) once)

    later : (s : Slot) → is_among s (sent_values g vs) ≡ true → is_among s (sent_values g (v ∷ vs)) ≡ true
    later s i =
        decide (is_qbit (type_in g (valued v)))
        (λ e. subst (λ ss. is_among s ss ≡ true) (sym (sent_first e)) (or_right (same_slot s (valued v)) (is_among s (sent_values g vs)) i))
        (λ e. subst (λ ss. is_among s ss ≡ true) (sym (sent_not e)) i)

    fresh_after : (s : Slot) → is_among s (sent_values g vs) ≡ true → is_among s (free_slots (with_value b.name v p)) ≡ false
    fresh_after s i = false_unless (is_among s (free_slots (with_value b.name v p))) (λ j.
        put_out b.name v s (free_slots p) (subst (λ ss. is_among s ss ≡ true) (free_put b.name v p unbound) j) (λ r e k. by_case r e k (put_cases b.name v r)))
      where
        by_case : (r : Slot) → put b.name v r ≡ s → is_among r (free_slots p) ≡ true
            → ((r ≡ named b.name) × (put b.name v r ≡ valued v)) ⊎ ((same_slot r (named b.name) ≡ false) × (put b.name v r ≡ r)) → ⊥
        by_case r e k (inl c) =
            let same : s ≡ valued v = sym e ∙ c.1 in
            let also : is_among (valued v) (sent_values g vs) ≡ true = subst (λ t. is_among t (sent_values g vs) ≡ true) same i in
            let qubit : Has g (valued v) qbit_type = sent_is g (map (λ w. value w) vs) (valued v) also in
            let e1 : is_qbit (type_in g (valued v)) ≡ true = ap is_qbit qubit in
            let parts =
            neither (is_among (valued v) (sent_values g vs)) (is_twice (sent_values g vs)) (subst (λ ss. is_twice ss ≡ false) (sent_first e1) once) in
            fails (sym parts.0 ∙ also)
        by_case r e k (inr c) =
            let same : r ≡ s = sym c.1 ∙ e in
            fails (sym (fresh s (later s i)) ∙ subst (λ t. is_among t (free_slots p) ≡ true) same k)
