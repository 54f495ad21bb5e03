-- Each reduction makes what is left smaller.
use Rattle.std.proofs.Common.{◌≡◌, ℕ, ◌+◌, List, [], ◌∷◌, map, refl, sym, ap, ◌∙◌, arith}
use Rattle.std.specs.Prelude.{Some, None, Option, is_some, if◌then◌else◌}
use Rattle.cqp_syntax.specs.declared.val.Val.{Val}
use Rattle.cqp_syntax.specs.Trees.{named, valued, Expr, slot, sig, add, apply, measure, Binder}
use Rattle.cqp_syntax.specs.Trees.{Process, nil, par, new, qbit, act, input, output, branch, value}
use Rattle.cqp_cells.specs.Redex.{Redex, lone_name, sum, pick, gate, or_else, next_redex, next_redex_of, redex_of, reduced, reduced_in, reduced_prefix}
use Rattle.cqp_syntax.specs.Substitution.{expr_with, with_value, with_values}
use Rattle.cqp_syntax.specs.Measures.{expr_steps, exprs_steps, size}
use Rattle.cqp_cells.proofs.Options.{none_is_some, same_some}

-- values in the places of names change no size
expr_steps-expr_with : (x : ℕ) (v : Val) (e : Expr) → expr_steps (expr_with x v e) ≡ expr_steps e
expr_steps-expr_with x v (slot s) = refl
expr_steps-expr_with x v (sig e) = ap (λ n. 1 + n) (expr_steps-expr_with x v e)
expr_steps-expr_with x v (add e f) = omega (arith, expr_steps-expr_with x v e, expr_steps-expr_with x v f)
expr_steps-expr_with x v (apply qs e) = ap (λ n. 1 + n) (expr_steps-expr_with x v e)
expr_steps-expr_with x v (measure qs) = refl

-- a value in the place of a name changes no steps of expressions
exprs_steps-with : (x : ℕ) (v : Val) (es : List Expr) → exprs_steps (map (expr_with x v) es) ≡ exprs_steps es
exprs_steps-with x v [] = refl
exprs_steps-with x v (e ∷ es) = omega (arith, expr_steps-expr_with x v e, exprs_steps-with x v es)

-- a value in the place of a name changes no size
pub size-with_value : (x : ℕ) (v : Val) (p : Process) → size (with_value x v p) ≡ size p
size-with_value x v nil = refl
size-with_value x v (par p q) = omega (arith, size-with_value x v p, size-with_value x v q)
size-with_value x v (new b p) = omega (arith, size-with_value x v p)
size-with_value x v (qbit y p) = omega (arith, size-with_value x v p)
size-with_value x v (act e p) = omega (arith, expr_steps-expr_with x v e, size-with_value x v p)
size-with_value x v (input c bs p) = omega (arith, size-with_value x v p)
size-with_value x v (output c es p) = omega (arith, exprs_steps-with x v es, size-with_value x v p)
size-with_value x v (branch e f p q) = omega
    (arith, expr_steps-expr_with x v e, expr_steps-expr_with x v f, size-with_value x v p, size-with_value x v q)

-- values in the places of several names change no size
pub size-with_values : (bs : List Binder) (vs : List Val) (p : Process) → size (with_values bs vs p) ≡ size p
size-with_values [] vs p = refl
size-with_values (b ∷ bs) [] p = refl
size-with_values (b ∷ bs) (v ∷ vs) p = size-with_values bs vs (with_value b.name v p) ∙ size-with_value b.name v p

-- a value in the place of a redex takes one step from an expression
abbrev pub IsNode : Redex → Type 0
IsNode (lone_name x) = ⊥
IsNode r = Unit {0}

-- an expression without a redex has no node that is reduced
pub no_redexes : (e : Expr) → next_redex e ≡ None → expr_steps e ≡ 0
no_redexes (slot s) h = refl
no_redexes (sig e) h = absurd (by_sig (next_redex e) h)
  where
    by_sig : (o : Option Redex) → or_else o (Some (pick e)) ≡ None → ⊥
    by_sig None g = none_is_some (sym g)
    by_sig (Some r) g = none_is_some (sym g)
no_redexes (add e f) h = absurd (by_left (next_redex e) (next_redex f) h)
  where
    by_left : (o u : Option Redex) → or_else o (or_else u (Some (sum e f))) ≡ None → ⊥
    by_left None None g = none_is_some (sym g)
    by_left None (Some r) g = none_is_some (sym g)
    by_left (Some r) u g = none_is_some (sym g)
no_redexes (apply qs e) h = absurd (by_operator (next_redex e) h)
  where
    by_operator : (o : Option Redex) → or_else o (Some (gate qs e)) ≡ None → ⊥
    by_operator None g = none_is_some (sym g)
    by_operator (Some r) g = none_is_some (sym g)
no_redexes (measure qs) h = absurd (none_is_some (sym h))

-- a value takes the place of one node
pub expr_steps-reduced : (v : Val) (e : Expr) (r : Redex) → next_redex e ≡ Some r → IsNode r → 1 + expr_steps (reduced v e) ≡ expr_steps e
expr_steps-reduced v (slot (named x)) r h node = absurd (rw (sym (same_some h)) at node)
expr_steps-reduced v (slot (valued u)) r h node = absurd (none_is_some h)
expr_steps-reduced v (sig e) r h node = by_sig (next_redex e) refl h (λ g. expr_steps-reduced v e r g node)
  where
    by_sig : (o : Option Redex) → next_redex e ≡ o → or_else o (Some (pick e)) ≡ Some r → (next_redex e ≡ Some r → 1 + expr_steps (reduced v e) ≡ expr_steps e)
        → 1 + expr_steps (if is_some o then sig (reduced v e) else value v) ≡ 1 + expr_steps e
    by_sig None at g more = omega (arith, no_redexes e at)
    by_sig (Some s) at g more = omega (arith, more (at ∙ g))
expr_steps-reduced v (add e f) r h node = by_left (next_redex e) (next_redex f) refl refl h (λ g. expr_steps-reduced v e r g node)
    (λ g. expr_steps-reduced v f r g node)
  where
    by_left : (o u : Option Redex) → next_redex e ≡ o → next_redex f ≡ u → or_else o (or_else u (Some (sum e f))) ≡ Some r
        → (next_redex e ≡ Some r → 1 + expr_steps (reduced v e) ≡ expr_steps e) → (next_redex f ≡ Some r → 1 + expr_steps (reduced v f) ≡ expr_steps f)
        → 1 + expr_steps (if is_some o then add (reduced v e) f else (if is_some u then add e (reduced v f) else value v)) ≡ 1 + expr_steps e + expr_steps f
    by_left None None at there g left right = omega (arith, no_redexes e at, no_redexes f there)
    by_left None (Some s) at there g left right = omega (arith, right (there ∙ g))
    by_left (Some s) u at there g left right = omega (arith, left (at ∙ g))
expr_steps-reduced v (apply qs e) r h node = by_operator (next_redex e) refl h (λ g. expr_steps-reduced v e r g node)
  where
    by_operator : (o : Option Redex) → next_redex e ≡ o → or_else o (Some (gate qs e)) ≡ Some r
        → (next_redex e ≡ Some r → 1 + expr_steps (reduced v e) ≡ expr_steps e)
        → 1 + expr_steps (if is_some o then apply qs (reduced v e) else value v) ≡ 1 + expr_steps e
    by_operator None at g more = omega (arith, no_redexes e at)
    by_operator (Some s) at g more = omega (arith, more (at ∙ g))
expr_steps-reduced v (measure qs) r h node = refl

-- a value in the place of a redex takes one step from expressions
exprs_steps-reduced : (v : Val) (es : List Expr) (r : Redex) → next_redex_of es ≡ Some r → IsNode r
    → 1 + exprs_steps (reduced_in v es) ≡ exprs_steps es
exprs_steps-reduced v [] r h node = absurd (none_is_some h)
exprs_steps-reduced v (e ∷ es) r h node = by_first (next_redex e) refl h (λ g. exprs_steps-reduced v es r g node)
  where
    by_first : (o : Option Redex) → next_redex e ≡ o → or_else o (next_redex_of es) ≡ Some r
        → (next_redex_of es ≡ Some r → 1 + exprs_steps (reduced_in v es) ≡ exprs_steps es)
        → 1 + exprs_steps (if is_some o then reduced v e ∷ es else e ∷ reduced_in v es) ≡ expr_steps e + exprs_steps es
    by_first None at g more = omega (arith, more g)
    by_first (Some s) at g more = omega (arith, expr_steps-reduced v e r (at ∙ g) node)

-- a value in the place of a redex takes one from the size
pub size-reduced_prefix : (v : Val) (p : Process) (r : Redex) → redex_of p ≡ Some r → IsNode r → 1 + size (reduced_prefix v p) ≡ size p
size-reduced_prefix v (act e p) r h node = omega (arith, expr_steps-reduced v e r (alone (next_redex e) h) node)
  where
    alone : (o : Option Redex) → or_else o None ≡ Some r → o ≡ Some r
    alone None g = g
    alone (Some s) g = g
size-reduced_prefix v (output c es p) r h node = omega (arith, exprs_steps-reduced v es r h node)
size-reduced_prefix v (branch e f p q) r h node = by_left (next_redex e) (next_redex f) refl refl h
  where
    by_left : (o u : Option Redex) → next_redex e ≡ o → next_redex f ≡ u → or_else o (or_else u None) ≡ Some r
        → 1 + size (if is_some o then branch (reduced v e) f p q else branch e (reduced v f) p q) ≡ 1 + expr_steps e + expr_steps f + size p + size q
    by_left None None at there g = absurd (none_is_some g)
    by_left None (Some s) at there g = omega (arith, expr_steps-reduced v f r (there ∙ g) node)
    by_left (Some s) u at there g = omega (arith, expr_steps-reduced v e r (at ∙ g) node)
size-reduced_prefix v nil r h node = absurd (none_is_some h)
size-reduced_prefix v (par p q) r h node = absurd (none_is_some h)
size-reduced_prefix v (new b p) r h node = absurd (none_is_some h)
size-reduced_prefix v (qbit x p) r h node = absurd (none_is_some h)
size-reduced_prefix v (input c bs p) r h node = absurd (none_is_some h)
