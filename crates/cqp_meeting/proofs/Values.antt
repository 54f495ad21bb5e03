-- Expressions without a redex are values.
use Rattle.std.proofs.Common.{◌≡◌, suc, List, [], ◌∷◌, length, refl, sym, ap, ◌∙◌}
use Rattle.std.specs.Prelude.{Some, None, Option}
use Rattle.cqp_syntax.specs.declared.val.Val.{Val}
use Rattle.cqp_syntax.specs.Trees.{named, valued, Expr, slot, sig, add, apply, measure, value}
use Rattle.cqp_cells.specs.Redex.{Redex, sum, pick, gate, or_else, next_redex, next_redex_of, values_of, with_first}
use Rattle.cqp_cells.proofs.Options.{none_is_some}

-- no redex in either of two
none_in : (a b : Option Redex) → or_else a b ≡ None → (a ≡ None) × (b ≡ None)
none_in (Some r) b h = absurd (none_is_some (sym h))
none_in None b h = (refl, h)

-- an expression without a redex is a value
value_is : (e : Expr) → next_redex e ≡ None → (v : Val) × (e ≡ value v)
value_is (slot (valued v)) h = (v, refl)
value_is (slot (named x)) h = absurd (none_is_some (sym h))
value_is (sig e) h = absurd (none_is_some (sym (none_in (next_redex e) (Some (pick e)) h).1))
value_is (add e f) h =
    absurd (none_is_some (sym (none_in (next_redex f) (Some (sum e f)) (none_in (next_redex e) (or_else (next_redex f) (Some (sum e f))) h).1).1))
value_is (apply qs e) h = absurd (none_is_some (sym (none_in (next_redex e) (Some (gate qs e)) h).1))
value_is (measure qs) h = absurd (none_is_some (sym h))

-- so are several, and the values are as many
pub values_are : (es : List Expr) → next_redex_of es ≡ None → (vs : List Val) × (values_of es ≡ Some vs) × (length es ≡ length vs)
values_are [] h = ([], refl, refl)
values_are (e ∷ es) h =
    let both = none_in (next_redex e) (next_redex_of es) h in
    let (v, is) = value_is e both.0 in
    let (vs, are, count) = values_are es both.1 in
    (v ∷ vs, ap (λ x. values_of (x ∷ es)) is ∙ ap (λ o. with_first v o) are, ap suc count)

-- where the first of two lists is there, so is the rest of it
rest_is : (v : Val) (o : Option (List Val)) (vs : List Val) → with_first v o ≡ Some vs → (ws : List Val) × (o ≡ Some ws)
rest_is v None vs h = absurd (none_is_some h)
rest_is v (Some ws) vs h = (ws, refl)

-- and values have no redex
pub no_redex : (es : List Expr) (vs : List Val) → values_of es ≡ Some vs → next_redex_of es ≡ None
no_redex [] vs h = refl
no_redex (slot (valued v) ∷ es) vs h = let (ws, are) = rest_is v (values_of es) vs h in no_redex es ws are
no_redex (slot (named x) ∷ es) vs h = absurd (none_is_some h)
no_redex (sig e ∷ es) vs h = absurd (none_is_some h)
no_redex (add e f ∷ es) vs h = absurd (none_is_some h)
no_redex (apply qs e ∷ es) vs h = absurd (none_is_some h)
no_redex (measure qs ∷ es) vs h = absurd (none_is_some h)
