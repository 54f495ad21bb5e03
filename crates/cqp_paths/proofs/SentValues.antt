-- The values of an output that is ready: their types, and which of them are sent.
use Rattle.std.proofs.Common.{◌≡◌, ℕ, List, [], ◌∷◌, ◌++◌, map, Bool, true, false, refl, sym, ap, ◌∙◌, subst, ◌⊎◌, inl, inr, cond}
use Rattle.std.specs.Prelude.{Some, None, Option}
use Rattle.cqp_syntax.specs.declared.val.Val.{Val}
use Rattle.cqp_syntax.specs.declared.val.Val.TheVariants as val
use Rattle.cqp_syntax.specs.TypeTrees.{TypeTree, TypeTrees, qbit_type, no_types, type_and}
use Rattle.cqp_syntax.specs.Trees.{Slot, named, valued, Expr, slot, sig, add, apply, measure, Binder, Process, value}
use Rattle.cqp_syntax.specs.Binders.{binders_of}
use Rattle.cqp_syntax.specs.Free.{same_slot, is_among}
use Rattle.cqp_syntax.specs.Substitution.{with_value, with_values}
use Rattle.cqp_types.specs.Types.{types_of}
use Rattle.cqp_types.specs.Contexts.{Context, type_in, Has}
use Rattle.cqp_types.specs.Derivations.{HasType, is_qbit, Fits, no_argument, sent_name, other_argument}
use Rattle.cqp_syntax.proofs.Bools.{fails, either, or_left, or_right}
use Rattle.cqp_syntax.proofs.Bools.{number_same}
use Rattle.cqp_syntax.proofs.Slots.{slot_is}
use Rattle.cqp_types.specs.Laws.{Unbound}
use Rattle.cqp_types.proofs.Puts.{unbound_back}
use Rattle.cqp_cells.specs.Redex.{values_of, with_first}
use Rattle.cqp_syntax.specs.Lists.{is_distinct}
use Rattle.cqp_cells.specs.Owners.{holds}
use Rattle.cqp_paths.proofs.PutValues.{AreTypedAs, sent_values, binders_of-with_value, first_unbound, put_holds}
use Rattle.cqp_cells.proofs.Options.{none_is_some, same_some}
use Rattle.cqp_paths.proofs.Values.{slot_has}

-- the first of several values, and the others
pub record FirstValue (e : Expr) (es : List Expr) (vs : List Val) : Type 0 where
  pub first : Val
  pub others : List Val
  pub is : e ≡ value first
  pub others_are : values_of es ≡ Some others
  pub all : first ∷ others ≡ vs

-- expressions that are values begin with a value, and the others are values
first_value : (e : Expr) (es : List Expr) (vs : List Val) → values_of (e ∷ es) ≡ Some vs → FirstValue e es vs
first_value (slot (valued v)) es vs h = of_rest (values_of es) refl h
  where
    of_rest : (o : Option (List Val)) → values_of es ≡ o → with_first v o ≡ Some vs → FirstValue (slot (valued v)) es vs
    of_rest None at g = absurd (none_is_some g)
    of_rest (Some ws) at g = record { first = v; others = ws; is = refl; others_are = at; all = same_some g }
first_value (slot (named x)) es vs h = absurd (none_is_some h)
first_value (sig e) es vs h = absurd (none_is_some h)
first_value (add e f) es vs h = absurd (none_is_some h)
first_value (apply qs e) es vs h = absurd (none_is_some h)
first_value (measure qs) es vs h = absurd (none_is_some h)

-- expressions that are values are these values
pub are_values : (es : List Expr) (vs : List Val) → values_of es ≡ Some vs → es ≡ map (λ v. value v) vs
are_values [] vs h = ap (λ ws. map (λ v. value v) ws) (same_some h)
are_values (e ∷ es) vs h =
    let f = first_value e es vs h in
    let rest : es ≡ map (λ v. value v) f.others = are_values es f.others f.others_are in
    ap (λ t. t ∷ es) f.is ∙ ap (λ ts. value f.first ∷ ts) rest ∙ ap (λ ws. map (λ v. value v) ws) f.all

-- lists of types that are equal have the same first type and the same others
same_types : {t u : TypeTree} {ts us : TypeTrees} → type_and t ts ≡ type_and u us → (t ≡ u) × (ts ≡ us)
same_types e = (cc, cc)

-- the values of arguments that fit have the types of the binders that receive them
pub fits_values : {g rest : Context} {es : List Expr} {ts : TypeTrees} (bs : List Binder) (vs : List Val) → Fits g rest es ts → values_of es ≡ Some vs
    → ts ≡ types_of bs
    → ((s : Slot) (t : TypeTree) → Has rest s t → Has g s t) → AreTypedAs g bs vs
fits_values [] vs (no_argument {g = g}) h same sub = subst (λ ws. AreTypedAs g [] ws) (same_some h) tt
fits_values (b ∷ bs) vs no_argument h same sub = absurd (wrong same)
  where
    wrong : no_types ≡ type_and b.ty (types_of bs) → ⊥
    wrong e = cc
fits_values [] vs (sent_name {ts = ts} is more) h same sub = absurd (wrong same)
  where
    wrong : type_and qbit_type ts ≡ no_types → ⊥
    wrong e = cc
fits_values (b ∷ bs) vs (sent_name {g = g} {s = s} {es = es} is more) h same sub =
    let f = first_value (slot s) es vs h in
    let types = same_types same in
    let slot_same : s ≡ valued f.first = cc f.is in
    let typed : Has g (valued f.first) b.ty = subst (λ r. Has g r b.ty) slot_same (subst (λ t. Has g s t) types.0 is) in
    subst (λ ws. AreTypedAs g (b ∷ bs) ws) f.all (typed, fits_values bs f.others more f.others_are types.1 sub)
fits_values [] vs (other_argument {t = t} {ts = ts} unsent d more) h same sub = absurd (wrong same)
  where
    wrong : type_and t ts ≡ no_types → ⊥
    wrong e = cc
fits_values (b ∷ bs) vs (other_argument {g = g} {rest = rest} {e = e} {t = t} {es = es} unsent d more) h same sub =
    let f = first_value e es vs h in
    let types = same_types same in
    let in_rest : Has rest (valued f.first) t = slot_has (subst (λ x. HasType rest x t) f.is d) in
    let typed : Has g (valued f.first) b.ty = subst (λ u. Has g (valued f.first) u) types.0 (sub (valued f.first) t in_rest) in
    subst (λ ws. AreTypedAs g (b ∷ bs) ws) f.all (typed, fits_values bs f.others more f.others_are types.1 sub)

-- a qubit that is held once values are put in was held, or is one of them
pub values_hold : (q : ℕ) (bs : List Binder) (vs : List Val) (p : Process) → is_distinct (map (λ b. b.name) (bs ++ binders_of p)) ≡ true
    → holds q (with_values bs vs p) ≡ true
    → (holds q p ≡ true) ⊎ (is_among (valued (val.Qubit q)) (map (λ v. valued v) vs) ≡ true)
values_hold q [] vs p names h = inl h
values_hold q (b ∷ bs) [] p names h = inl h
values_hold q (b ∷ bs) (v ∷ vs) p names h = of_rest (values_hold q bs vs (with_value b.name v p) names_after h)
  where
    first : Unbound b.name (bs ++ binders_of p) × (is_distinct (map (λ c. c.name) (bs ++ binders_of p)) ≡ true)
    first = first_unbound b (bs ++ binders_of p) names

    names_after : is_distinct (map (λ c. c.name) (bs ++ binders_of (with_value b.name v p))) ≡ true
    names_after = subst (λ cs. is_distinct (map (λ c. c.name) (bs ++ cs)) ≡ true) (sym (binders_of-with_value b.name v p)) first.1

    of_one : (holds q p ≡ true) ⊎ (valued v ≡ valued (val.Qubit q))
        → (holds q p ≡ true) ⊎ (is_among (valued (val.Qubit q)) (valued v ∷ map (λ w. valued w) vs) ≡ true)
    of_one (inl g) = inl g
    of_one (inr same) = inr (or_left (same_slot (valued (val.Qubit q)) (valued v)) (is_among (valued (val.Qubit q)) (map (λ w. valued w) vs))
        (subst (λ s. same_slot (valued (val.Qubit q)) s ≡ true) (sym same) (number_same q)))

    of_rest : (holds q (with_value b.name v p) ≡ true) ⊎ (is_among (valued (val.Qubit q)) (map (λ w. valued w) vs) ≡ true)
        → (holds q p ≡ true) ⊎ (is_among (valued (val.Qubit q)) (valued v ∷ map (λ w. valued w) vs) ≡ true)
    of_rest (inl g) = of_one (put_holds q b.name v p (unbound_back b.name bs (binders_of p) first.0) g)
    of_rest (inr i) = inr (or_right (same_slot (valued (val.Qubit q)) (valued v)) (is_among (valued (val.Qubit q)) (map (λ w. valued w) vs)) i)

-- a qubit among values that are typed is sent, where a qubit has type Qbit
pub typed_sent : (g : Context) (q : ℕ) → ((t : TypeTree) → Has g (valued (val.Qubit q)) t → t ≡ qbit_type) → (bs : List Binder) (vs : List Val)
    → AreTypedAs g bs vs
    → is_among (valued (val.Qubit q)) (map (λ v. valued v) vs) ≡ true → is_among (valued (val.Qubit q)) (sent_values g vs) ≡ true
typed_sent g q only [] [] typed i = i
typed_sent g q only [] (v ∷ vs) typed i = absurd typed
typed_sent g q only (b ∷ bs) [] typed i = absurd typed
typed_sent g q only (b ∷ bs) (v ∷ vs) typed i = by_case (is_qbit (type_in g (valued v))) refl (typed_sent g q only bs vs typed.1)
  where
    by_case : (c : Bool) → is_qbit (type_in g (valued v)) ≡ c
        → (is_among (valued (val.Qubit q)) (map (λ w. valued w) vs) ≡ true → is_among (valued (val.Qubit q)) (sent_values g vs) ≡ true)
        → is_among (valued (val.Qubit q)) (cond c (valued v ∷ sent_values g vs) (sent_values g vs)) ≡ true
    by_case true e more =
        either (same_slot (valued (val.Qubit q)) (valued v)) (is_among (valued (val.Qubit q)) (map (λ w. valued w) vs)) i
        (λ s. or_left (same_slot (valued (val.Qubit q)) (valued v)) (is_among (valued (val.Qubit q)) (sent_values g vs)) s)
        (λ j. or_right (same_slot (valued (val.Qubit q)) (valued v)) (is_among (valued (val.Qubit q)) (sent_values g vs)) (more j))
    by_case false e more =
        either (same_slot (valued (val.Qubit q)) (valued v)) (is_among (valued (val.Qubit q)) (map (λ w. valued w) vs)) i
        (λ s. absurd (fails (sym e ∙ qubit s)))
        more
      where
        qubit : same_slot (valued (val.Qubit q)) (valued v) ≡ true → is_qbit (type_in g (valued v)) ≡ true
        qubit s =
            let same : valued (val.Qubit q) ≡ valued v = slot_is (valued (val.Qubit q)) (valued v) s in
            let has : Has g (valued (val.Qubit q)) b.ty = subst (λ r. Has g r b.ty) (sym same) typed.0 in
            let is : b.ty ≡ qbit_type = only b.ty has in
            ap is_qbit typed.0 ∙ ap (λ t. is_qbit (Some t)) is
