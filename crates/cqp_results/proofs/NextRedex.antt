-- After results are put in, the next redex is the one of their number, with the values of its operands.
use Rattle.std.proofs.Common.{◌≡◌, ℕ, zero, suc, true, false, List, [], ◌∷◌, ◌++◌, ◌+◌, ◌-◌, ◌≤◌, ◌<◌, nat_lt, length, Some, refl, sym, ap, arith, ◌∙◌}
use Rattle.std.proofs.Common.{⊎_elim, length-append}
use Rattle.std.proofs.lemmas.Bool.{cases_Bool, and_parts, cases_lt, lt-ltb, le-ltb}
use Rattle.cqp_syntax.specs.declared.val.Val.{Val}
use Rattle.cqp_syntax.specs.Trees.{Expr, slot, sig, add, apply, measure, value}
use Rattle.cqp_cells.specs.Redex.{sum, pick, gate, next_redex}
use Rattle.cqp_syntax.specs.Measures.{expr_steps}
use Rattle.cqp_results.specs.Results.{is_closed, nth_redex, operand, redex_with}
use Rattle.cqp_parts.specs.Bound.{results_expr}
use Rattle.cqp_results.proofs.OperandResults.{results-append, results_sig, results_apply, results_left, results_right, complete, operand_later}
use Rattle.cqp_results.proofs.OperandResults.{operand_before}

-- a redex is reduced after its operands, and has no name where the expression has none
pub nth_within : (e : Expr) (k : ℕ) → k < expr_steps e → expr_steps (nth_redex e k) ≤ k + 1
nth_within (slot s) k h = absurd (omega arith)
nth_within (sig e) k h = ⊎_elim
    (λ (t : k < expr_steps e). rw (lt-ltb k (expr_steps e) t) (nth_within e k t))
    (λ (t : expr_steps e ≤ k). rw (le-ltb k (expr_steps e) t) (omega arith))
    (cases_lt k (expr_steps e))
nth_within (add e f) k h = ⊎_elim
    (λ (t : k < expr_steps e). rw (lt-ltb k (expr_steps e) t) (nth_within e k t))
    (λ (t : expr_steps e ≤ k). rw (le-ltb k (expr_steps e) t) (⊎_elim
    (λ (u : k < expr_steps e + expr_steps f).
    rw (lt-ltb k (expr_steps e + expr_steps f) u) (omega (arith, nth_within f (k - expr_steps e) (omega arith))))
    (λ (u : expr_steps e + expr_steps f ≤ k). rw (le-ltb k (expr_steps e + expr_steps f) u) (omega arith))
    (cases_lt k (expr_steps e + expr_steps f))))
    (cases_lt k (expr_steps e))
nth_within (apply qs e) k h = ⊎_elim
    (λ (t : k < expr_steps e). rw (lt-ltb k (expr_steps e) t) (nth_within e k t))
    (λ (t : expr_steps e ≤ k). rw (le-ltb k (expr_steps e) t) (omega arith))
    (cases_lt k (expr_steps e))
nth_within (measure qs) k h = omega arith

-- a redex of an expression without names has none
pub nth_closed : (e : Expr) (k : ℕ) → is_closed e ≡ true → is_closed (nth_redex e k) ≡ true
nth_closed (slot s) k h = h
nth_closed (sig e) k h = ⊎_elim
    (λ (t : nat_lt k (expr_steps e) ≡ true). rw t (nth_closed e k h))
    (λ (t : nat_lt k (expr_steps e) ≡ false). rw t h)
    (cases_Bool (nat_lt k (expr_steps e)))
nth_closed (add e f) k h = let parts = and_parts (is_closed e) (is_closed f) h in ⊎_elim
    (λ (t : nat_lt k (expr_steps e) ≡ true). rw t (nth_closed e k parts.0))
    (λ (t : nat_lt k (expr_steps e) ≡ false). rw t (⊎_elim
    (λ (u : nat_lt k (expr_steps e + expr_steps f) ≡ true). rw u (nth_closed f (k - expr_steps e) parts.1))
    (λ (u : nat_lt k (expr_steps e + expr_steps f) ≡ false). rw u h)
    (cases_Bool (nat_lt k (expr_steps e + expr_steps f)))))
    (cases_Bool (nat_lt k (expr_steps e)))
nth_closed (apply qs e) k h = ⊎_elim
    (λ (t : nat_lt k (expr_steps e) ≡ true). rw t (nth_closed e k h))
    (λ (t : nat_lt k (expr_steps e) ≡ false). rw t h)
    (cases_Bool (nat_lt k (expr_steps e)))
nth_closed (measure qs) k h = refl

-- its operands are those of the later results
pub redex_later : (us vs : List Val) (x : Expr) → is_closed x ≡ true → expr_steps x ≤ length vs + 1 → redex_with (us ++ vs) x ≡ redex_with vs x
redex_later us vs (slot s) h n = refl
redex_later us vs (sig e) h n = ap (λ v. pick (value v)) (operand_later us vs 0 e h (omega arith))
redex_later us vs (add e f) h n =
    let parts = and_parts (is_closed e) (is_closed f) h in
    let left = operand_later us vs (expr_steps f) e parts.0 (omega arith) in
    let right = operand_later us vs 0 f parts.1 (omega arith) in
    rw (left, right) refl
redex_later us vs (apply qs e) h n = ap (λ v. gate qs (value v)) (operand_later us vs 0 e h (omega arith))
redex_later us vs (measure qs) h n = refl

-- the first n of a list
pub record Halves (n : ℕ) (vs : List Val) : Type 0 where
  pub front : List Val
  pub back : List Val
  pub is : vs ≡ front ++ back
  pub length_is : length front ≡ n

-- a list has a first n and the others
pub halves : (n : ℕ) (vs : List Val) → n ≤ length vs → Halves n vs
halves zero vs h = record { front = []; back = vs; is = refl; length_is = refl }
halves (suc n) [] h = absurd (omega arith)
halves (suc n) (v ∷ vs) h =
    let later = halves n vs (omega arith) in
    record { front = v ∷ later.front; back = later.back; is = ap (λ t. v ∷ t) later.is; length_is = omega (arith, later.length_is) }

-- a sum whose left operand is done
module _ (e f : Expr) (vs : List Val) (a : is_closed e ≡ true) (b : is_closed f ≡ true) (t : expr_steps e ≤ length vs)
    (n : length vs < expr_steps (add e f)) (s : Halves (expr_steps e) vs) where
  -- so many results are behind
  lengths : length vs ≡ expr_steps e + length s.back
  lengths = omega (arith, ap length s.is, length-append s.front s.back, s.length_is)

  -- after its results the left operand is a value
  left_done : results_expr vs (add e f) ≡ add (value (operand s.front 0 e)) (results_expr s.back f)
  left_done =
      let first = results_left s.front e f a (omega (arith, s.length_is)) ∙ ap (λ x. add x f) (complete s.front e a s.length_is) in
      ap (λ xs. results_expr xs (add e f)) s.is
      ∙ (results-append s.front s.back (add e f)
      ∙ (ap (results_expr s.back) first ∙ results_right s.back (operand s.front 0 e) f b (omega (arith, lengths))))

  -- then the next redex is the right operand's, or the sum itself
  behind : ((ws : List Val) → length ws < expr_steps f → next_redex (results_expr ws f) ≡ Some (redex_with ws (nth_redex f (length ws))))
      → next_redex (results_expr vs (add e f)) ≡ Some (redex_with vs (nth_redex (add e f) (length vs)))
  behind later = rw (left_done, le-ltb (length vs) (expr_steps e) t) (⊎_elim
      (λ (u : length vs < expr_steps e + expr_steps f).
      let fits : length s.back < expr_steps f = omega (arith, lengths) in
      let place : length vs - expr_steps e ≡ length s.back = omega (arith, lengths) in
      let same : redex_with vs (nth_redex f (length s.back)) ≡ redex_with s.back (nth_redex f (length s.back)) =
      ap (λ xs. redex_with xs (nth_redex f (length s.back))) s.is
      ∙ redex_later s.front s.back (nth_redex f (length s.back)) (nth_closed f (length s.back) b) (nth_within f (length s.back) fits) in
      rw (lt-ltb (length vs) (expr_steps e + expr_steps f) u, place, later s.back fits) (ap Some (sym same)))
      (λ (u : expr_steps e + expr_steps f ≤ length vs).
      let full : length s.back ≡ expr_steps f = omega (arith, lengths) in
      let left : operand vs (expr_steps f) e ≡ operand s.front 0 e =
      ap (λ xs. operand xs (expr_steps f) e) s.is ∙ operand_before s.front s.back (expr_steps f) e a s.length_is full in
      let right : operand vs 0 f ≡ operand s.back 0 f = ap (λ xs. operand xs 0 f) s.is ∙ operand_later s.front s.back 0 f b (omega arith) in
      rw (le-ltb (length vs) (expr_steps e + expr_steps f) u, complete s.back f b full)
      (λ i. Some (sum (value (sym left i)) (value (sym right i)))))
      (cases_lt (length vs) (expr_steps e + expr_steps f)))

-- the next redex after results
pub next_after : (e : Expr) (vs : List Val) → is_closed e ≡ true → length vs < expr_steps e
    → next_redex (results_expr vs e) ≡ Some (redex_with vs (nth_redex e (length vs)))
next_after (slot s) vs h n = absurd (omega arith)
next_after (sig e) vs h n = ⊎_elim
    (λ (t : length vs < expr_steps e).
    rw (results_sig vs e h (omega arith), lt-ltb (length vs) (expr_steps e) t, next_after e vs h t) refl)
    (λ (t : expr_steps e ≤ length vs).
    rw (results_sig vs e h (omega arith), le-ltb (length vs) (expr_steps e) t, complete vs e h (omega arith)) refl)
    (cases_lt (length vs) (expr_steps e))
next_after (apply qs e) vs h n = ⊎_elim
    (λ (t : length vs < expr_steps e).
    rw (results_apply qs vs e h (omega arith), lt-ltb (length vs) (expr_steps e) t, next_after e vs h t) refl)
    (λ (t : expr_steps e ≤ length vs).
    rw (results_apply qs vs e h (omega arith), le-ltb (length vs) (expr_steps e) t, complete vs e h (omega arith)) refl)
    (cases_lt (length vs) (expr_steps e))
next_after (measure qs) vs h n = no_result vs (omega arith)
  where
    no_result : (vs : List Val) → length vs ≡ 0 → next_redex (results_expr vs (measure qs)) ≡ Some (redex_with vs (measure qs))
    no_result [] k = refl
    no_result (v ∷ vs) k = absurd (omega arith)
next_after (add e f) vs h n = let parts = and_parts (is_closed e) (is_closed f) h in ⊎_elim
    (λ (t : length vs < expr_steps e).
    rw (results_left vs e f parts.0 (omega arith), lt-ltb (length vs) (expr_steps e) t, next_after e vs parts.0 t) refl)
    (λ (t : expr_steps e ≤ length vs). behind e f vs parts.0 parts.1 t n (halves (expr_steps e) vs t) (λ ws. next_after f ws parts.1))
    (cases_lt (length vs) (expr_steps e))
