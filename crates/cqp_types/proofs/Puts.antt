-- A value in the place of a name, in slots and in lists of them.
use Rattle.std.proofs.Common.{◌≡◌, ℕ, List, [], ◌∷◌, ◌++◌, map, true, false, ◌==◌, not, ◌⊎◌, inl, inr, refl, sym, ◌∙◌, ap, ap₂, subst, cond}
use Rattle.cqp_syntax.proofs.UsedFree.{map_both}
use Rattle.cqp_syntax.specs.declared.val.Val.{Val}
use Rattle.cqp_syntax.specs.declared.val.Val.TheVariants as val
use Rattle.cqp_syntax.specs.TypeTrees.{qbit_type}
use Rattle.cqp_syntax.specs.Trees.{Slot, named, valued, Expr, slot, sig, add, apply, measure, Binder, Process, nil, par, new, qbit, act, input, output, branch}
use Rattle.cqp_syntax.specs.Binders.{binders_of}
use Rattle.cqp_syntax.specs.Free.{same_slot, is_among, except, expr_slots, exprs_slots, bound_slots, free_slots}
use Rattle.cqp_syntax.specs.Substitution.{slot_with, expr_with, with_value}
use Rattle.cqp_types.specs.Laws.{Unbound}
use Rattle.cqp_syntax.proofs.Bools.{fails, either, or_left, or_right, decide, same_number, number_same}
use Rattle.cqp_syntax.proofs.Slots.{slot_is, slot_self, slot_other, stays, goes}

-- a name that no binder of two lists binds is bound by none of the first
pub unbound_front : (x : ℕ) (bs cs : List Binder) → Unbound x (bs ++ cs) → Unbound x bs
unbound_front x [] cs u = tt
unbound_front x (b ∷ bs) cs u = (u.0, unbound_front x bs cs u.1)

-- nor by one of the second
pub unbound_back : (x : ℕ) (bs cs : List Binder) → Unbound x (bs ++ cs) → Unbound x cs
unbound_back x [] cs u = u
unbound_back x (b ∷ bs) cs u = unbound_back x bs cs u.1

-- no value is a name
pub valued_other : (u : Val) (x : ℕ) → same_slot (valued u) (named x) ≡ false
valued_other (val.Num n) x = refl
valued_other val.Unit x = refl
valued_other (val.Gate o) x = refl
valued_other (val.Qubit q) x = refl
valued_other (val.Chan c) x = refl

-- no binder binds a value
pub value_free : (v : Val) (bs : List Binder) → is_among (valued v) (bound_slots bs) ≡ false
value_free v [] = refl
value_free v (b ∷ bs) = rw (valued_other v b.name) (value_free v bs)

-- a name that no binder binds is none of their names
pub name_free : (x : ℕ) (bs : List Binder) → Unbound x bs → is_among (named x) (bound_slots bs) ≡ false
name_free x [] u = refl
name_free x (b ∷ bs) u =
    let other : same_slot (named x) (named b.name) ≡ false = slot_other (named b.name) (named x) u.0 in
    rw other (name_free x bs u.1)

module _ (x : ℕ) (v : Val) where
  -- a slot with the value put in
  abbrev pub put : Slot → Slot
  put s = slot_with x v s

  -- the slot is the name, and the value takes its place; or it is another, and stays
  pub put_cases : (s : Slot) → ((s ≡ named x) × (put s ≡ valued v)) ⊎ ((same_slot s (named x) ≡ false) × (put s ≡ s))
  put_cases (named y) =
      decide (y == x)
      (λ e. inl (ap named (same_number y x e), ap (λ b. cond b (valued v) (named y)) e))
      (λ e. inr (e, ap (λ b. cond b (valued v) (named y)) e))
  put_cases (valued u) = inr (valued_other u x, refl)

  -- what is among the slots is among those with the value put in, unless the value is never among any
  pub put_in : (s : Slot) (ss : List Slot) → same_slot (put s) (put s) ≡ true → is_among s ss ≡ true → is_among (put s) (map put ss) ≡ true
  put_in s [] own i = i
  put_in s (r ∷ ss) own i =
      either (same_slot s r) (is_among s ss) i
      (λ e. or_left (same_slot (put s) (put r)) (is_among (put s) (map put ss)) (subst (λ q. same_slot (put s) (put q) ≡ true) (slot_is s r e) own))
      (λ j. or_right (same_slot (put s) (put r)) (is_among (put s) (map put ss)) (put_in s ss own j))

  -- a slot that some slot becomes is the same as itself only where that one is
  put_self : (s r : Slot) → same_slot s (put r) ≡ true → same_slot r r ≡ true
  put_self s r e = go (put_cases r)
    where
      go : ((r ≡ named x) × (put r ≡ valued v)) ⊎ ((same_slot r (named x) ≡ false) × (put r ≡ r)) → same_slot r r ≡ true
      go (inl c) = subst (λ q. same_slot q q ≡ true) (sym c.0) (number_same x)
      go (inr c) =
          let back = subst (λ q. same_slot s q ≡ true) c.1 e in
          subst (λ q. same_slot q q ≡ true) (slot_is s r back) (slot_self s r back)

  -- what is among slots with the value put in came from a slot among them
  pub put_out : {C : Type 0} (s : Slot) (ss : List Slot) → is_among s (map put ss) ≡ true
      → ((r : Slot) → put r ≡ s → is_among r ss ≡ true → C) → C
  put_out s [] i k = absurd (fails i)
  put_out s (r ∷ ss) i k =
      either (same_slot s (put r)) (is_among s (map put ss)) i
      (λ e. k r (sym (slot_is s (put r) e)) (or_left (same_slot r r) (is_among r ss) (put_self s r e)))
      (λ j. put_out s ss j (λ q e m. k q e (or_right (same_slot q r) (is_among q ss) m)))

  -- the slots of an expression with the value put in
  pub expr_put : (e : Expr) → expr_slots (expr_with x v e) ≡ map put (expr_slots e)
  expr_put (slot s) = refl
  expr_put (sig e) = expr_put e
  expr_put (add e f) = ap₂ (λ rs ss. rs ++ ss) (expr_put e) (expr_put f) ∙ sym (map_both put (expr_slots e) (expr_slots f))
  expr_put (apply qs e) = ap (λ ss. map put qs ++ ss) (expr_put e) ∙ sym (map_both put qs (expr_slots e))
  expr_put (measure qs) = refl

  -- the slots of expressions with the value put in
  pub exprs_put : (es : List Expr) → exprs_slots (map (expr_with x v) es) ≡ map put (exprs_slots es)
  exprs_put [] = refl
  exprs_put (e ∷ es) = ap₂ (λ rs ss. rs ++ ss) (expr_put e) (exprs_put es) ∙ sym (map_both put (expr_slots e) (exprs_slots es))

  -- a binder of another name binds a slot where it binds what the slot becomes
  pub put_free : (bs : List Binder) (s : Slot) → Unbound x bs → is_among (put s) (bound_slots bs) ≡ is_among s (bound_slots bs)
  put_free bs s u = go (put_cases s)
    where
      go : ((s ≡ named x) × (put s ≡ valued v)) ⊎ ((same_slot s (named x) ≡ false) × (put s ≡ s))
          → is_among (put s) (bound_slots bs) ≡ is_among s (bound_slots bs)
      go (inl c) = ap (λ q. is_among q (bound_slots bs)) c.1 ∙ value_free v bs ∙ sym (name_free x bs u) ∙ ap (λ q. is_among q (bound_slots bs)) (sym c.0)
      go (inr c) = ap (λ q. is_among q (bound_slots bs)) c.1

  -- slots without those that are bound, with the value put in
  pub except_put : (bs : List Binder) (ss : List Slot) → Unbound x bs → except (bound_slots bs) (map put ss) ≡ map put (except (bound_slots bs) ss)
  except_put bs [] u = refl
  except_put bs (s ∷ ss) u =
      let same = put_free bs s u in
      decide (not (is_among s (bound_slots bs)))
      (λ e.
      stays (λ r. not (is_among r (bound_slots bs))) (put s) (map put ss) (ap not same ∙ e)
      ∙ ap (λ rs. put s ∷ rs) (except_put bs ss u)
      ∙ sym (ap (map put) (stays (λ r. not (is_among r (bound_slots bs))) s ss e)))
      (λ e.
      goes (λ r. not (is_among r (bound_slots bs))) (put s) (map put ss) (ap not same ∙ e)
      ∙ except_put bs ss u
      ∙ sym (ap (map put) (goes (λ r. not (is_among r (bound_slots bs))) s ss e)))

  -- the free slots of a process with the value put in
  pub free_put : (p : Process) → Unbound x (binders_of p) → free_slots (with_value x v p) ≡ map put (free_slots p)
  free_put nil u = refl
  free_put (par p q) u =
      ap₂ (λ rs ss. rs ++ ss) (free_put p (unbound_front x (binders_of p) (binders_of q) u)) (free_put q (unbound_back x (binders_of p) (binders_of q) u))
      ∙ sym (map_both put (free_slots p) (free_slots q))
  free_put (new b p) u = ap (except (named b.name ∷ [])) (free_put p u.1) ∙ except_put (b ∷ []) (free_slots p) (u.0, tt)
  free_put (qbit y p) u =
      ap (except (named y ∷ [])) (free_put p u.1) ∙ except_put (record { name = y; ty = qbit_type } ∷ []) (free_slots p) (u.0, tt)
  free_put (act e p) u = ap₂ (λ rs ss. rs ++ ss) (expr_put e) (free_put p u) ∙ sym (map_both put (expr_slots e) (free_slots p))
  free_put (input c bs p) u =
      ap (λ ss. put c ∷ ss)
      (ap (except (bound_slots bs)) (free_put p (unbound_back x bs (binders_of p) u)) ∙ except_put bs (free_slots p) (unbound_front x bs (binders_of p) u))
  free_put (output c es p) u =
      ap (λ ss. put c ∷ ss) (ap₂ (λ rs ss. rs ++ ss) (exprs_put es) (free_put p u) ∙ sym (map_both put (exprs_slots es) (free_slots p)))
  free_put (branch e f p q) u =
      let bodies =
      ap₂ (λ rs ss. rs ++ ss) (free_put p (unbound_front x (binders_of p) (binders_of q) u)) (free_put q (unbound_back x (binders_of p) (binders_of q) u))
      ∙ sym (map_both put (free_slots p) (free_slots q)) in
      let rest = ap₂ (λ rs ss. rs ++ ss) (expr_put f) bodies ∙ sym (map_both put (expr_slots f) (free_slots p ++ free_slots q)) in
      ap₂ (λ rs ss. rs ++ ss) (expr_put e) rest ∙ sym (map_both put (expr_slots e) (expr_slots f ++ (free_slots p ++ free_slots q)))
