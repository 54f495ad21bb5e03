-- Results of an operand go into it, and the last of them is its value.
use Rattle.std.proofs.Common.{◌≡◌, ℕ, suc, true, List, [], ◌∷◌, ◌++◌, ◌+◌, ◌-◌, ◌≤◌, ◌<◌, length, refl, sym, ap, arith, ◌∙◌, length-append}
use Rattle.cqp_syntax.specs.declared.val.Val.{Val}
use Rattle.cqp_syntax.specs.Trees.{Slot, Expr, slot, named, valued, sig, add, apply, measure, value}
use Rattle.cqp_cells.specs.Redex.{reduced}
use Rattle.cqp_syntax.specs.Measures.{expr_steps}
use Rattle.cqp_results.specs.Results.{is_closed, last_but, operand}
use Rattle.cqp_parts.specs.Bound.{results_expr}
use Rattle.cqp_results.proofs.OneLess.{is_left, one_less, last_one}

-- results in two goes
pub results-append : (us vs : List Val) (e : Expr) → results_expr (us ++ vs) e ≡ results_expr vs (results_expr us e)
results-append [] vs e = refl
results-append (u ∷ us) vs e = results-append us vs (reduced u e)

-- results of an operand go into it
pub results_sig : (vs : List Val) (e : Expr) → is_closed e ≡ true → length vs ≤ expr_steps e → results_expr vs (sig e) ≡ sig (results_expr vs e)
results_sig [] e h k = refl
results_sig (v ∷ vs) e h k =
    let some : 0 < expr_steps e = omega arith in
    let less = one_less v e h some in
    rw (is_left e h some) (results_sig vs (reduced v e) less.closed (omega (arith, less.count)))

-- so it is of a gate's operand
pub results_apply : (qs : List Slot) (vs : List Val) (e : Expr) → is_closed e ≡ true → length vs ≤ expr_steps e
    → results_expr vs (apply qs e) ≡ apply qs (results_expr vs e)
results_apply qs [] e h k = refl
results_apply qs (v ∷ vs) e h k =
    let some : 0 < expr_steps e = omega arith in
    let less = one_less v e h some in
    rw (is_left e h some) (results_apply qs vs (reduced v e) less.closed (omega (arith, less.count)))

-- so it is of a sum's left operand
pub results_left : (vs : List Val) (e f : Expr) → is_closed e ≡ true → length vs ≤ expr_steps e → results_expr vs (add e f) ≡ add (results_expr vs e) f
results_left [] e f h k = refl
results_left (v ∷ vs) e f h k =
    let some : 0 < expr_steps e = omega arith in
    let less = one_less v e h some in
    rw (is_left e h some) (results_left vs (reduced v e) f less.closed (omega (arith, less.count)))

-- and of its right one, where the left one is a value
pub results_right : (vs : List Val) (u : Val) (f : Expr) → is_closed f ≡ true → length vs ≤ expr_steps f
    → results_expr vs (add (value u) f) ≡ add (value u) (results_expr vs f)
results_right [] u f h k = refl
results_right (v ∷ vs) u f h k =
    let some : 0 < expr_steps f = omega arith in
    let less = one_less v f h some in
    rw (is_left f h some) (results_right vs u (reduced v f) less.closed (omega (arith, less.count)))

-- the last results of a longer list
pub last_but-cons : (skip : ℕ) (v : Val) (vs : List Val) → skip < length vs → last_but skip (v ∷ vs) ≡ last_but skip vs
last_but-cons skip v vs h =
    let place : length (v ∷ vs) - (skip + 1) ≡ suc (length vs - (skip + 1)) = omega arith in
    rw place refl

-- so they are of two lists
pub last_but-append : (skip : ℕ) (us vs : List Val) → skip < length vs → last_but skip (us ++ vs) ≡ last_but skip vs
last_but-append skip [] vs h = refl
last_but-append skip (u ∷ us) vs h = last_but-cons skip u (us ++ vs) (omega (arith, length-append us vs)) ∙ last_but-append skip us vs h

-- the last result of the first of two lists
pub last_but-front : (m : ℕ) (u : Val) (us ws : List Val) → length ws ≡ m → last_but m ((u ∷ us) ++ ws) ≡ last_but 0 (u ∷ us)
last_but-front m u [] ws h =
    let place : length (u ∷ ws) - (m + 1) ≡ 0 = omega arith in
    rw place refl
last_but-front m u (w ∷ us) ws h =
    last_but-cons m u (w ∷ us ++ ws) (omega (arith, length-append us ws))
    ∙ (last_but-front m w us ws h ∙ sym (last_but-cons 0 u (w ∷ us) (omega arith)))

-- all results of an expression leave the last one
pub complete_last : (vs : List Val) (e : Expr) → is_closed e ≡ true → 0 < expr_steps e → length vs ≡ expr_steps e → results_expr vs e ≡ value (last_but 0 vs)
complete_last [] e h k n = absurd (omega arith)
complete_last (v ∷ []) e h k n = last_one v e h (omega arith)
complete_last (v ∷ w ∷ vs) e h k n =
    let less = one_less v e h k in
    complete_last (w ∷ vs) (reduced v e) less.closed (omega (arith, less.count)) (omega (arith, less.count))
    ∙ ap value (sym (last_but-cons 0 v (w ∷ vs) (omega arith)))

-- no result leaves a value
pub no_results : (vs : List Val) (v : Val) → length vs ≡ 0 → results_expr vs (value v) ≡ value v
no_results [] v h = refl
no_results (u ∷ vs) v h = absurd (omega arith)

-- all its results leave an expression its value
pub complete : (vs : List Val) (e : Expr) → is_closed e ≡ true → length vs ≡ expr_steps e → results_expr vs e ≡ value (operand vs 0 e)
complete vs (slot (named x)) h n = cc
complete vs (slot (valued v)) h n = no_results vs v n
complete vs (sig e) h n = complete_last vs (sig e) h (omega arith) n
complete vs (add e f) h n = complete_last vs (add e f) h (omega arith) n
complete vs (apply qs e) h n = complete_last vs (apply qs e) h (omega arith) n
complete vs (measure qs) h n = complete_last vs (measure qs) h (omega arith) n

-- an operand's value, where results of others stand before or behind
pub operand_later : (us vs : List Val) (skip : ℕ) (e : Expr) → is_closed e ≡ true → expr_steps e + skip ≤ length vs
    → operand (us ++ vs) skip e ≡ operand vs skip e
operand_later us vs skip (slot (named x)) h n = cc
operand_later us vs skip (slot (valued v)) h n = refl
operand_later us vs skip (sig e) h n = last_but-append skip us vs (omega arith)
operand_later us vs skip (add e f) h n = last_but-append skip us vs (omega arith)
operand_later us vs skip (apply qs e) h n = last_but-append skip us vs (omega arith)
operand_later us vs skip (measure qs) h n = last_but-append skip us vs (omega arith)

-- the last result of the first list, where the second has so many
pub front : (m : ℕ) (us ws : List Val) → length ws ≡ m → 0 < length us → last_but m (us ++ ws) ≡ last_but 0 us
front m [] ws h k = absurd (omega arith)
front m (u ∷ us) ws h k = last_but-front m u us ws h

-- an operand's value, where results of others stand behind
pub operand_before : (us ws : List Val) (m : ℕ) (e : Expr) → is_closed e ≡ true → length us ≡ expr_steps e → length ws ≡ m
    → operand (us ++ ws) m e ≡ operand us 0 e
operand_before us ws m (slot (named x)) h n k = cc
operand_before us ws m (slot (valued v)) h n k = refl
operand_before us ws m (sig e) h n k = front m us ws k (omega arith)
operand_before us ws m (add e f) h n k = front m us ws k (omega arith)
operand_before us ws m (apply qs e) h n k = front m us ws k (omega arith)
operand_before us ws m (measure qs) h n k = front m us ws k (omega arith)
