-- Bindings put into expressions change neither how many redexes there are nor their order, and leave no
-- name where each has a value.
use Rattle.std.proofs.Common.{◌≡◌, ℕ, true, false, List, [], ◌∷◌, map, ◌+◌, ◌-◌, ◌==◌, nat_lt, Some, None, refl, sym, ap, ap₂, ◌∙◌, ⊎_elim}
use Rattle.std.proofs.lemmas.Bool.{cases_Bool}
use Rattle.cqp_syntax.specs.declared.val.Val.{Val}
use Rattle.cqp_syntax.specs.Trees.{Slot, named, valued, Expr, slot, sig, add, apply, measure, value}
use Rattle.cqp_syntax.specs.Substitution.{slot_with, expr_with}
use Rattle.cqp_parts.specs.declared.bind.Bind.{Bind}
use Rattle.cqp_syntax.specs.Measures.{expr_steps}
use Rattle.cqp_results.specs.Results.{nth_redex, count_of, nth_redex_of}
use Rattle.cqp_parts.specs.Bound.{slot_bound, expr_bound, exprs_bound}
use Rattle.cqp_standing.specs.Stands.{val_of}

-- a value changes no count
count_with : (x : ℕ) (v : Val) (e : Expr) → expr_steps (expr_with x v e) ≡ expr_steps e
count_with x v (slot s) = refl
count_with x v (sig e) = ap (λ n. 1 + n) (count_with x v e)
count_with x v (add e f) = ap₂ (λ m n. 1 + m + n) (count_with x v e) (count_with x v f)
count_with x v (apply qs e) = ap (λ n. 1 + n) (count_with x v e)
count_with x v (measure qs) = refl

-- bindings change no count of redexes
pub count_bound : (bs : List Bind) (e : Expr) → expr_steps (expr_bound bs e) ≡ expr_steps e
count_bound [] e = refl
count_bound (b ∷ bs) e = count_bound bs (expr_with b.name b.val e) ∙ count_with b.name b.val e

-- bindings go into the parts of an expression
abbrev pub slots_bound : List Bind → List Slot → List Slot
slots_bound [] ss = ss
slots_bound (b ∷ bs) ss = slots_bound bs (map (slot_with b.name b.val) ss)

-- bindings go into a slot
pub slot_in : (bs : List Bind) (s : Slot) → expr_bound bs (slot s) ≡ slot (slot_bound bs s)
slot_in [] s = refl
slot_in (b ∷ bs) s = slot_in bs (slot_with b.name b.val s)

-- into the number of a pick
pub sig_in : (bs : List Bind) (e : Expr) → expr_bound bs (sig e) ≡ sig (expr_bound bs e)
sig_in [] e = refl
sig_in (b ∷ bs) e = sig_in bs (expr_with b.name b.val e)

-- into both sides of a sum
pub add_in : (bs : List Bind) (e f : Expr) → expr_bound bs (add e f) ≡ add (expr_bound bs e) (expr_bound bs f)
add_in [] e f = refl
add_in (b ∷ bs) e f = add_in bs (expr_with b.name b.val e) (expr_with b.name b.val f)

-- into a gate's qubits and its operator
pub apply_in : (bs : List Bind) (qs : List Slot) (e : Expr) → expr_bound bs (apply qs e) ≡ apply (slots_bound bs qs) (expr_bound bs e)
apply_in [] qs e = refl
apply_in (b ∷ bs) qs e = apply_in bs (map (slot_with b.name b.val) qs) (expr_with b.name b.val e)

-- into the qubits of a measurement
pub measure_in : (bs : List Bind) (qs : List Slot) → expr_bound bs (measure qs) ≡ measure (slots_bound bs qs)
measure_in [] qs = refl
measure_in (b ∷ bs) qs = measure_in bs (map (slot_with b.name b.val) qs)

-- and into each of several
pub exprs_in : (bs : List Bind) (es : List Expr) → exprs_bound bs es ≡ map (expr_bound bs) es
exprs_in [] [] = refl
exprs_in [] (e ∷ es) = ap (λ xs. e ∷ xs) (exprs_in [] es)
exprs_in (b ∷ bs) es = exprs_in bs (map (expr_with b.name b.val) es) ∙ twice es
  where
    twice : (xs : List Expr) → map (expr_bound bs) (map (expr_with b.name b.val) xs) ≡ map (expr_bound (b ∷ bs)) xs
    twice [] = refl
    twice (x ∷ xs) = ap (λ ys. expr_bound bs (expr_with b.name b.val x) ∷ ys) (twice xs)

-- they go into each of several slots
pub slots_in : (bs : List Bind) (ss : List Slot) → slots_bound bs ss ≡ map (slot_bound bs) ss
slots_in [] [] = refl
slots_in [] (s ∷ ss) = ap (λ xs. s ∷ xs) (slots_in [] ss)
slots_in (b ∷ bs) ss = slots_in bs (map (slot_with b.name b.val) ss) ∙ twice ss
  where
    twice : (xs : List Slot) → map (slot_bound bs) (map (slot_with b.name b.val) xs) ≡ map (slot_bound (b ∷ bs)) xs
    twice [] = refl
    twice (x ∷ xs) = ap (λ ys. slot_bound bs (slot_with b.name b.val x) ∷ ys) (twice xs)

-- the k-th redex with a value in it
nth_with : (x : ℕ) (v : Val) (e : Expr) (k : ℕ) → nth_redex (expr_with x v e) k ≡ expr_with x v (nth_redex e k)
nth_with x v (slot s) k = refl
nth_with x v (sig e) k = ⊎_elim
    (λ (t : nat_lt k (expr_steps e) ≡ true). rw (count_with x v e, t) (nth_with x v e k))
    (λ (t : nat_lt k (expr_steps e) ≡ false). rw (count_with x v e, t) refl)
    (cases_Bool (nat_lt k (expr_steps e)))
nth_with x v (apply qs e) k = ⊎_elim
    (λ (t : nat_lt k (expr_steps e) ≡ true). rw (count_with x v e, t) (nth_with x v e k))
    (λ (t : nat_lt k (expr_steps e) ≡ false). rw (count_with x v e, t) refl)
    (cases_Bool (nat_lt k (expr_steps e)))
nth_with x v (measure qs) k = refl
nth_with x v (add e f) k = ⊎_elim
    (λ (t : nat_lt k (expr_steps e) ≡ true). rw (count_with x v e, t) (nth_with x v e k))
    (λ (t : nat_lt k (expr_steps e) ≡ false). rw (count_with x v e, count_with x v f, t) (⊎_elim
    (λ (u : nat_lt k (expr_steps e + expr_steps f) ≡ true). rw u (nth_with x v f (k - expr_steps e)))
    (λ (u : nat_lt k (expr_steps e + expr_steps f) ≡ false). rw u refl)
    (cases_Bool (nat_lt k (expr_steps e + expr_steps f)))))
    (cases_Bool (nat_lt k (expr_steps e)))

-- the k-th redex with bindings is the redex with bindings
pub nth_bound : (bs : List Bind) (e : Expr) (k : ℕ) → nth_redex (expr_bound bs e) k ≡ expr_bound bs (nth_redex e k)
nth_bound [] e k = refl
nth_bound (b ∷ bs) e k = nth_bound bs (expr_with b.name b.val e) k ∙ ap (expr_bound bs) (nth_with b.name b.val e k)

-- the same of several expressions
pub count_of_bound : (bs : List Bind) (es : List Expr) → count_of (map (expr_bound bs) es) ≡ count_of es
count_of_bound bs [] = refl
count_of_bound bs (e ∷ es) = ap₂ (λ m n. m + n) (count_bound bs e) (count_of_bound bs es)

-- bindings leave a value
value_in : (bs : List Bind) (v : Val) → expr_bound bs (value v) ≡ value v
value_in [] v = refl
value_in (b ∷ bs) v = value_in bs v

-- so it is of several expressions
pub nth_of_bound : (bs : List Bind) (es : List Expr) (k : ℕ) → nth_redex_of (map (expr_bound bs) es) k ≡ expr_bound bs (nth_redex_of es k)
nth_of_bound bs [] k = sym (value_in bs _)
nth_of_bound bs (e ∷ es) k = ⊎_elim
    (λ (t : nat_lt k (expr_steps e) ≡ true). rw (count_bound bs e, t) (nth_bound bs e k))
    (λ (t : nat_lt k (expr_steps e) ≡ false). rw (count_bound bs e, t) (nth_of_bound bs es (k - expr_steps e)))
    (cases_Bool (nat_lt k (expr_steps e)))

-- a value is there, and a name that has one gets it
pub valued_in : (bs : List Bind) (v : Val) → slot_bound bs (valued v) ≡ valued v
valued_in [] v = refl
valued_in (b ∷ bs) v = valued_in bs v

-- a name that has a value becomes it
pub found_in : (bs : List Bind) (x : ℕ) (v : Val) → val_of x bs ≡ Some v → slot_bound bs (named x) ≡ valued v
found_in [] x v h = let none : None ≡ Some v = h in absurd (cc none)
found_in (b ∷ bs) x v h = ⊎_elim
    (λ (t : (x == b.name) ≡ true). let same : Some b.val ≡ Some v = rw t at h in rw t (valued_in bs b.val ∙ ap valued (cc same)))
    (λ (t : (x == b.name) ≡ false). let later : val_of x bs ≡ Some v = rw t at h in rw t (found_in bs x v later))
    (cases_Bool (x == b.name))
