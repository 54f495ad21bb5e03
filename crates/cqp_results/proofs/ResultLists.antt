-- The same for the expressions of a prefix, one behind the other.
use Rattle.std.proofs.Common.{◌≡◌, ℕ, true, false, List, [], ◌∷◌, ◌++◌, ◌+◌, ◌-◌, ◌≤◌, ◌<◌, nat_lt, length, map, Some, refl, sym, ap, arith, ◌∙◌, ⊎_elim}
use Rattle.std.proofs.Common.{length-append}
use Rattle.std.proofs.lemmas.Bool.{cases_Bool, and_parts, cases_lt, lt-ltb, le-ltb}
use Rattle.std.specs.List.{list_all}
use Rattle.cqp_syntax.specs.declared.val.Val.{Val}
use Rattle.cqp_syntax.specs.Trees.{Expr, value}
use Rattle.cqp_cells.specs.Redex.{next_redex_of, reduced, reduced_in, values_of}
use Rattle.cqp_syntax.specs.Measures.{expr_steps}
use Rattle.cqp_results.specs.Results.{is_closed, operand, redex_with, count_of, nth_redex_of, operands}
use Rattle.cqp_parts.specs.Bound.{results_expr, results_exprs}
use Rattle.cqp_results.proofs.OneLess.{is_left, one_less}
use Rattle.cqp_results.proofs.OperandResults.{complete, operand_later, operand_before}
use Rattle.cqp_results.proofs.NextRedex.{nth_within, nth_closed, redex_later, Halves, halves, next_after}

-- results go into the first expression, and then into the others
pub results_first : (vs : List Val) (e : Expr) (es : List Expr) → is_closed e ≡ true → length vs ≤ expr_steps e
    → results_exprs vs (e ∷ es) ≡ results_expr vs e ∷ es
results_first [] e es h k = refl
results_first (v ∷ vs) e es h k =
    let some : 0 < expr_steps e = omega arith in
    let less = one_less v e h some in
    rw (is_left e h some) (results_first vs (reduced v e) es less.closed (omega (arith, less.count)))

-- results go past an expression that is a value
results_later : (vs : List Val) (u : Val) (es : List Expr) → results_exprs vs (value u ∷ es) ≡ value u ∷ results_exprs vs es
results_later [] u es = refl
results_later (v ∷ vs) u es = results_later vs u (reduced_in v es)

-- results in two goes
exprs-append : (us vs : List Val) (es : List Expr) → results_exprs (us ++ vs) es ≡ results_exprs vs (results_exprs us es)
exprs-append [] vs es = refl
exprs-append (u ∷ us) vs es = exprs-append us vs (reduced_in u es)

-- the k-th redex is within, and has no name
pub nth_of_closed : (es : List Expr) (k : ℕ) → list_all is_closed es ≡ true → is_closed (nth_redex_of es k) ≡ true
nth_of_closed [] k h = refl
nth_of_closed (e ∷ es) k h = let parts = and_parts (is_closed e) (list_all is_closed es) h in ⊎_elim
    (λ (t : nat_lt k (expr_steps e) ≡ true). rw t (nth_closed e k parts.0))
    (λ (t : nat_lt k (expr_steps e) ≡ false). rw t (nth_of_closed es (k - expr_steps e) parts.1))
    (cases_Bool (nat_lt k (expr_steps e)))

-- it is reduced after its operands
pub nth_of_within : (es : List Expr) (k : ℕ) → k < count_of es → expr_steps (nth_redex_of es k) ≤ k + 1
nth_of_within [] k h = absurd (omega arith)
nth_of_within (e ∷ es) k h = ⊎_elim
    (λ (t : k < expr_steps e). rw (lt-ltb k (expr_steps e) t) (nth_within e k t))
    (λ (t : expr_steps e ≤ k). rw (le-ltb k (expr_steps e) t) (omega (arith, nth_of_within es (k - expr_steps e) (omega arith))))
    (cases_lt k (expr_steps e))

-- where the first expression is done
module _ (e : Expr) (es : List Expr) (vs : List Val) (a : is_closed e ≡ true) (b : list_all is_closed es ≡ true) (s : Halves (expr_steps e) vs) where
  -- so many results are behind the first expression's
  lengths : length vs ≡ expr_steps e + length s.back
  lengths = omega (arith, ap length s.is, length-append s.front s.back, s.length_is)

  -- after its results the first expression is a value
  first_done : results_exprs vs (e ∷ es) ≡ value (operand s.front 0 e) ∷ results_exprs s.back es
  first_done =
      ap (λ xs. results_exprs xs (e ∷ es)) s.is
      ∙ (exprs-append s.front s.back (e ∷ es)
      ∙ (ap (results_exprs s.back) (results_first s.front e es a (omega (arith, s.length_is)) ∙ ap (λ x. x ∷ es) (complete s.front e a s.length_is))
      ∙ results_later s.back (operand s.front 0 e) es))

  -- then the next redex is one of the others
  behind : expr_steps e ≤ length vs → length vs < count_of (e ∷ es)
      → ((ws : List Val) → length ws < count_of es → next_redex_of (results_exprs ws es) ≡ Some (redex_with ws (nth_redex_of es (length ws))))
      → next_redex_of (results_exprs vs (e ∷ es)) ≡ Some (redex_with vs (nth_redex_of (e ∷ es) (length vs)))
  behind t n later =
      let fits : length s.back < count_of es = omega (arith, lengths) in
      let place : length vs - expr_steps e ≡ length s.back = omega (arith, lengths) in
      let same : redex_with vs (nth_redex_of es (length s.back)) ≡ redex_with s.back (nth_redex_of es (length s.back)) =
      ap (λ xs. redex_with xs (nth_redex_of es (length s.back))) s.is
      ∙ redex_later s.front s.back (nth_redex_of es (length s.back)) (nth_of_closed es (length s.back) b) (nth_of_within es (length s.back) fits) in
      rw (first_done, le-ltb (length vs) (expr_steps e) t, place, later s.back fits) (ap Some (sym same))

-- the next redex of a prefix's expressions after so many results
pub next_after_all : (es : List Expr) (vs : List Val) → list_all is_closed es ≡ true → length vs < count_of es
    → next_redex_of (results_exprs vs es) ≡ Some (redex_with vs (nth_redex_of es (length vs)))
next_after_all [] vs h n = absurd (omega arith)
next_after_all (e ∷ es) vs h n = let parts = and_parts (is_closed e) (list_all is_closed es) h in ⊎_elim
    (λ (t : length vs < expr_steps e).
    rw (results_first vs e es parts.0 (omega arith), lt-ltb (length vs) (expr_steps e) t, next_after e vs parts.0 t) refl)
    (λ (t : expr_steps e ≤ length vs). behind e es vs parts.0 parts.1 (halves (expr_steps e) vs t) t n (λ ws. next_after_all es ws parts.1))
    (cases_lt (length vs) (expr_steps e))

-- operands of later expressions are told by the later results
operands_later : (us vs : List Val) (es : List Expr) → list_all is_closed es ≡ true → count_of es ≤ length vs → operands (us ++ vs) es ≡ operands vs es
operands_later us vs [] h n = refl
operands_later us vs (e ∷ es) h n =
    let parts = and_parts (is_closed e) (list_all is_closed es) h in
    let first = operand_later us vs (count_of es) e parts.0 (omega arith) in
    let rest = operands_later us vs es parts.1 (omega arith) in
    rw (first, rest) refl

-- after all results the expressions are values
pub all_values : (es : List Expr) (vs : List Val) → list_all is_closed es ≡ true → length vs ≡ count_of es → results_exprs vs es ≡ map value (operands vs es)
all_values [] [] h n = refl
all_values [] (v ∷ vs) h n = absurd (omega arith)
all_values (e ∷ es) vs h n =
    let parts = and_parts (is_closed e) (list_all is_closed es) h in
    let s = halves (expr_steps e) vs (omega arith) in
    let full : length s.back ≡ count_of es = omega (arith, lengths e es vs parts.0 parts.1 s) in
    let first : operand vs (count_of es) e ≡ operand s.front 0 e =
    ap (λ xs. operand xs (count_of es) e) s.is ∙ operand_before s.front s.back (count_of es) e parts.0 s.length_is full in
    let rest : operands vs es ≡ operands s.back es = ap (λ xs. operands xs es) s.is ∙ operands_later s.front s.back es parts.1 (omega arith) in
    first_done e es vs parts.0 parts.1 s ∙ (rw (all_values es s.back parts.1 full) (λ i. value (sym first i) ∷ map value (sym rest i)))

-- the values of expressions that are values
pub values_are : (us : List Val) → values_of (map value us) ≡ Some us
values_are [] = refl
values_are (u ∷ us) = rw (values_are us) refl
