-- A result takes one redex away, and the last redex leaves its result.
use Rattle.std.proofs.Common.{◌≡◌, ◌⊎◌, inl, inr, ℕ, zero, suc, true, ◌+◌, ◌<◌, is_some, Option, Some, None, refl, arith, ⊎_elim}
use Rattle.std.proofs.lemmas.Bool.{and_parts, and_from}
use Rattle.cqp_syntax.specs.declared.val.Val.{Val}
use Rattle.cqp_syntax.specs.Trees.{Expr, slot, named, valued, sig, add, apply, measure, value}
use Rattle.cqp_cells.specs.Redex.{Redex, sum, pick, gate, or_else, next_redex, reduced}
use Rattle.cqp_syntax.specs.Measures.{expr_steps}
use Rattle.cqp_results.specs.Results.{is_closed}

-- a redex is left where some weren't reduced yet
pub is_left : (e : Expr) → is_closed e ≡ true → 0 < expr_steps e → is_some (next_redex e) ≡ true
is_left (slot s) h k = absurd (omega arith)
is_left (sig e) h k = either (next_redex e)
  where
    either : (x : Option Redex) → is_some (or_else x (Some (pick e))) ≡ true
    either (Some r) = refl
    either None = refl
is_left (add e f) h k = either (next_redex e) (next_redex f)
  where
    either : (x y : Option Redex) → is_some (or_else x (or_else y (Some (sum e f)))) ≡ true
    either (Some r) y = refl
    either None (Some r) = refl
    either None None = refl
is_left (apply qs e) h k = either (next_redex e)
  where
    either : (x : Option Redex) → is_some (or_else x (Some (gate qs e))) ≡ true
    either (Some r) = refl
    either None = refl
is_left (measure qs) h k = refl

-- and a value where all were
pub record IsValue (e : Expr) : Type 0 where
  pub val : Val
  pub is : e ≡ value val

-- an expression without names in which all were reduced is a value
pub all_done : (e : Expr) → is_closed e ≡ true → expr_steps e ≡ 0 → IsValue e
all_done (slot (named x)) h k = cc
all_done (slot (valued v)) h k = record { val = v; is = refl }
all_done (sig e) h k = absurd (omega arith)
all_done (add e f) h k = absurd (omega arith)
all_done (apply qs e) h k = absurd (omega arith)
all_done (measure qs) h k = absurd (omega arith)

-- it has no redex left
pub none_left : (e : Expr) → is_closed e ≡ true → expr_steps e ≡ 0 → next_redex e ≡ None
none_left e h k = let done = all_done e h k in rw done.is refl

-- a count is 0 or not
pub zero_or : (n : ℕ) → (n ≡ 0) ⊎ (0 < n)
zero_or zero = inl refl
zero_or (suc n) = inr (omega arith)

-- a result takes one redex away, and brings no name
pub record OneLess (e r : Expr) : Type 0 where
  pub count : expr_steps r + 1 ≡ expr_steps e
  pub closed : is_closed r ≡ true

-- so does each result
pub one_less : (v : Val) (e : Expr) → is_closed e ≡ true → 0 < expr_steps e → OneLess e (reduced v e)
one_less v (slot s) h k = absurd (omega arith)
one_less v (sig e) h k = ⊎_elim
    (λ (z : expr_steps e ≡ 0). rw (none_left e h z) (record { count = omega arith; closed = refl }))
    (λ (z : 0 < expr_steps e).
    let later = one_less v e h z in
    rw (is_left e h z) (record { count = omega (arith, later.count); closed = later.closed }))
    (zero_or (expr_steps e))
one_less v (add e f) h k = let parts = and_parts (is_closed e) (is_closed f) h in ⊎_elim
    (λ (z : expr_steps e ≡ 0). rw (none_left e parts.0 z) (⊎_elim
    (λ (y : expr_steps f ≡ 0). rw (none_left f parts.1 y) (record { count = omega arith; closed = refl }))
    (λ (y : 0 < expr_steps f).
    let later = one_less v f parts.1 y in
    rw (is_left f parts.1 y) (record { count = omega (arith, later.count); closed = and_from _ _ parts.0 later.closed }))
    (zero_or (expr_steps f))))
    (λ (z : 0 < expr_steps e).
    let later = one_less v e parts.0 z in
    rw (is_left e parts.0 z) (record { count = omega (arith, later.count); closed = and_from _ _ later.closed parts.1 }))
    (zero_or (expr_steps e))
one_less v (apply qs e) h k = ⊎_elim
    (λ (z : expr_steps e ≡ 0). rw (none_left e h z) (record { count = omega arith; closed = refl }))
    (λ (z : 0 < expr_steps e).
    let later = one_less v e h z in
    rw (is_left e h z) (record { count = omega (arith, later.count); closed = later.closed }))
    (zero_or (expr_steps e))
one_less v (measure qs) h k = record { count = refl; closed = refl }

-- the last redex leaves its result
pub last_one : (v : Val) (e : Expr) → is_closed e ≡ true → expr_steps e ≡ 1 → reduced v e ≡ value v
last_one v (slot s) h k = absurd (omega arith)
last_one v (sig e) h k = rw (none_left e h (omega arith)) refl
last_one v (add e f) h k = let parts = and_parts (is_closed e) (is_closed f) h in rw (none_left e parts.0 (omega arith), none_left f parts.1 (omega arith)) refl
last_one v (apply qs e) h k = rw (none_left e h (omega arith)) refl
last_one v (measure qs) h k = refl
