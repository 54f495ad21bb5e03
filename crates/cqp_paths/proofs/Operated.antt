-- What has operands keeps them.
use Rattle.std.proofs.Common.{◌≡◌, ℕ, List, [], ◌∷◌, map, length, Bool, true, false, refl, sym, ap, ◌∙◌}
use Rattle.std.specs.Prelude.{Some, None, Option, is_some, if◌then◌else◌, ◌&&◌, nat_lt}
use Rattle.std.specs.List.{AllByRecursion, list_all}
use Rattle.std.proofs.lemmas.List.{length-map}
use Rattle.cqp_syntax.specs.declared.val.Val.{Val}
use Rattle.cqp_syntax.specs.Trees.{Slot, named, valued, Expr, slot, sig, add, apply, measure, Binder}
use Rattle.cqp_syntax.specs.Trees.{Process, nil, par, new, qbit, act, input, output, branch, value}
use Rattle.cqp_syntax.specs.Substitution.{slot_with, expr_with, with_value, with_values}
use Rattle.cqp_cells.specs.Config.{flattened}
use Rattle.cqp_cells.specs.Redex.{Redex, lone_name, sum, pick, gate, look, or_else, next_redex, next_redex_of, redex_of, reduced, reduced_in, reduced_prefix}
use Rattle.cqp_cells.specs.Operated.{is_operated_expr, is_operated}
use Rattle.cqp_cells.proofs.Options.{none_is_some, same_some, both_true}
use Rattle.cqp_paths.proofs.Parts.{all-append}
use Rattle.cqp_syntax.proofs.Bools.{both_hold}
use Rattle.cqp_paths.proofs.OperatedNodes.{both}

-- a value in the place of a name changes no operands of an expression
expr_operated : (x : ℕ) (v : Val) (e : Expr) → is_operated_expr (expr_with x v e) ≡ is_operated_expr e
expr_operated x v (slot s) = refl
expr_operated x v (sig e) = expr_operated x v e
expr_operated x v (add e f) = both (expr_operated x v e) (expr_operated x v f)
expr_operated x v (apply qs e) = both (ap (λ n. nat_lt 0 n) (length-map qs (slot_with x v))) (expr_operated x v e)
expr_operated x v (measure qs) = ap (λ n. nat_lt 0 n) (length-map qs (slot_with x v))

-- a value in the place of a name changes no operands of expressions
exprs_operated : (x : ℕ) (v : Val) (es : List Expr) → list_all is_operated_expr (map (expr_with x v) es) ≡ list_all is_operated_expr es
exprs_operated x v [] = refl
exprs_operated x v (e ∷ es) = both (expr_operated x v e) (exprs_operated x v es)

-- a value in the place of a name changes no operands of a process
pub value_operated : (x : ℕ) (v : Val) (p : Process) → is_operated (with_value x v p) ≡ is_operated p
value_operated x v nil = refl
value_operated x v (par p q) = both (value_operated x v p) (value_operated x v q)
value_operated x v (new b p) = value_operated x v p
value_operated x v (qbit y p) = value_operated x v p
value_operated x v (act e p) = both (expr_operated x v e) (value_operated x v p)
value_operated x v (input c bs p) = value_operated x v p
value_operated x v (output c es p) = both (exprs_operated x v es) (value_operated x v p)
value_operated x v (branch e f p q) =
    both (both (both (expr_operated x v e) (expr_operated x v f)) (value_operated x v p)) (value_operated x v q)

-- values in the places of several names change no operands of a process
pub values_operated : (bs : List Binder) (vs : List Val) (p : Process) → is_operated (with_values bs vs p) ≡ is_operated p
values_operated [] vs p = refl
values_operated (b ∷ bs) [] p = refl
values_operated (b ∷ bs) (v ∷ vs) p = values_operated bs vs (with_value b.name v p) ∙ value_operated b.name v p

-- an expression that has operands has them once a value takes the place of its redex
reduced_operated : (v : Val) (e : Expr) → is_operated_expr e ≡ true → is_operated_expr (reduced v e) ≡ true
reduced_operated v (slot s) h = refl
reduced_operated v (sig e) h = by_sig (is_some (next_redex e)) (reduced_operated v e h)
  where
    by_sig : (b : Bool) → is_operated_expr (reduced v e) ≡ true → is_operated_expr (if b then sig (reduced v e) else value v) ≡ true
    by_sig true more = more
    by_sig false more = refl
reduced_operated v (add e f) h =
    let parts = both_true (is_operated_expr e) (is_operated_expr f) h in
    by_left (is_some (next_redex e)) (is_some (next_redex f)) parts.0 parts.1 (reduced_operated v e parts.0) (reduced_operated v f parts.1)
  where
    by_left : (b c : Bool) → is_operated_expr e ≡ true → is_operated_expr f ≡ true → is_operated_expr (reduced v e) ≡ true
        → is_operated_expr (reduced v f) ≡ true
        → is_operated_expr (if b then add (reduced v e) f else (if c then add e (reduced v f) else value v)) ≡ true
    by_left true c p q r s = both_hold _ _ r q
    by_left false true p q r s = both_hold _ _ p s
    by_left false false p q r s = refl
reduced_operated v (apply qs e) h =
    let parts = both_true (nat_lt 0 (length qs)) (is_operated_expr e) h in
    by_operator (is_some (next_redex e)) parts.0 (reduced_operated v e parts.1)
  where
    by_operator : (b : Bool) → nat_lt 0 (length qs) ≡ true → is_operated_expr (reduced v e) ≡ true
        → is_operated_expr (if b then apply qs (reduced v e) else value v) ≡ true
    by_operator true p more = both_hold _ _ p more
    by_operator false p more = refl
reduced_operated v (measure qs) h = refl

-- expressions that have operands have them once a value takes the place of their redex
reduced_in_operated : (v : Val) (es : List Expr) → list_all is_operated_expr es ≡ true → list_all is_operated_expr (reduced_in v es) ≡ true
reduced_in_operated v [] h = refl
reduced_in_operated v (e ∷ es) h =
    let parts = both_true (is_operated_expr e) (list_all is_operated_expr es) h in
    by_first (is_some (next_redex e)) parts.0 parts.1 (reduced_in_operated v es parts.1)
  where
    by_first : (b : Bool) → is_operated_expr e ≡ true → list_all is_operated_expr es ≡ true → list_all is_operated_expr (reduced_in v es) ≡ true
        → list_all is_operated_expr (if b then reduced v e ∷ es else e ∷ reduced_in v es) ≡ true
    by_first true p q more = both_hold _ _ (reduced_operated v e p) q
    by_first false p q more = both_hold _ _ p more

-- a prefix that has operands has them once a value takes the place of its redex
pub prefix_operated : (v : Val) (p : Process) → is_operated p ≡ true → is_operated (reduced_prefix v p) ≡ true
prefix_operated v nil h = h
prefix_operated v (par p q) h = h
prefix_operated v (new b p) h = h
prefix_operated v (qbit x p) h = h
prefix_operated v (input c bs p) h = h
prefix_operated v (act e p) h =
    let parts = both_true (is_operated_expr e) (is_operated p) h in both_hold _ _ (reduced_operated v e parts.0) parts.1
prefix_operated v (output c es p) h =
    let parts = both_true (list_all is_operated_expr es) (is_operated p) h in both_hold _ _ (reduced_in_operated v es parts.0) parts.1
prefix_operated v (branch e f p q) h = by_left (is_some (next_redex e))
  where
    three : ((is_operated_expr e && is_operated_expr f && is_operated p) ≡ true) × (is_operated q ≡ true)
    three = both_true (is_operated_expr e && is_operated_expr f && is_operated p) (is_operated q) h

    two : ((is_operated_expr e && is_operated_expr f) ≡ true) × (is_operated p ≡ true)
    two = both_true (is_operated_expr e && is_operated_expr f) (is_operated p) three.0

    one : (is_operated_expr e ≡ true) × (is_operated_expr f ≡ true)
    one = both_true (is_operated_expr e) (is_operated_expr f) two.0

    by_left : (b : Bool) → is_operated (if b then branch (reduced v e) f p q else branch e (reduced v f) p q) ≡ true
    by_left true = both_hold _ _ (both_hold _ _ (both_hold _ _ (reduced_operated v e one.0) one.1) two.1) three.1
    by_left false = both_hold _ _ (both_hold _ _ (both_hold _ _ one.0 (reduced_operated v f one.1)) two.1) three.1

-- each process of the flattening has operands, if the process has
pub flat_operated : (p : Process) → is_operated p ≡ true → AllByRecursion (λ q. is_operated q ≡ true) (flattened p)
flat_operated nil h = tt
flat_operated (par p q) h =
    let parts = both_true (is_operated p) (is_operated q) h in
    all-append (λ r. is_operated r ≡ true) (flattened p) (flattened q) (flat_operated p parts.0) (flat_operated q parts.1)
flat_operated (new b p) h = (h, tt)
flat_operated (qbit x p) h = (h, tt)
flat_operated (act e p) h = (h, tt)
flat_operated (input c bs p) h = (h, tt)
flat_operated (output c es p) h = (h, tt)
flat_operated (branch e f p q) h = (h, tt)

-- a measurement that is the next redex of an expression has an operand
look_operated : (e : Expr) (ss : List Slot) → is_operated_expr e ≡ true → next_redex e ≡ Some (look ss) → nat_lt 0 (length ss) ≡ true
look_operated (slot (named x)) ss h at = absurd (wrong (same_some at))
  where
    wrong : lone_name x ≡ look ss → ⊥
    wrong e = cc
look_operated (slot (valued v)) ss h at = absurd (none_is_some at)
look_operated (sig e) ss h at = by_sig (next_redex e) at (λ k. look_operated e ss h k)
  where
    wrong : pick e ≡ look ss → ⊥
    wrong f = cc

    by_sig : (o : Option Redex) → or_else o (Some (pick e)) ≡ Some (look ss) → (o ≡ Some (look ss) → nat_lt 0 (length ss) ≡ true) → nat_lt 0 (length ss) ≡ true
    by_sig None k more = absurd (wrong (same_some k))
    by_sig (Some r) k more = more k
look_operated (add e f) ss h at =
    let parts = both_true (is_operated_expr e) (is_operated_expr f) h in
    by_left (next_redex e) (next_redex f) at (λ k. look_operated e ss parts.0 k) (λ k. look_operated f ss parts.1 k)
  where
    wrong : sum e f ≡ look ss → ⊥
    wrong g = cc

    by_left : (o u : Option Redex) → or_else o (or_else u (Some (sum e f))) ≡ Some (look ss) → (o ≡ Some (look ss) → nat_lt 0 (length ss) ≡ true)
        → (u ≡ Some (look ss) → nat_lt 0 (length ss) ≡ true) → nat_lt 0 (length ss) ≡ true
    by_left None None k left right = absurd (wrong (same_some k))
    by_left None (Some r) k left right = right k
    by_left (Some r) u k left right = left k
look_operated (apply qs e) ss h at =
    let parts = both_true (nat_lt 0 (length qs)) (is_operated_expr e) h in by_operator (next_redex e) at (λ k. look_operated e ss parts.1 k)
  where
    wrong : gate qs e ≡ look ss → ⊥
    wrong f = cc

    by_operator : (o : Option Redex) → or_else o (Some (gate qs e)) ≡ Some (look ss) → (o ≡ Some (look ss) → nat_lt 0 (length ss) ≡ true)
        → nat_lt 0 (length ss) ≡ true
    by_operator None k more = absurd (wrong (same_some k))
    by_operator (Some r) k more = more k
look_operated (measure qs) ss h at = ap (λ n. nat_lt 0 n) (sym (ap length (same_look (same_some at)))) ∙ h
  where
    same_look : look qs ≡ look ss → qs ≡ ss
    same_look e = cc

-- a measurement that is the next redex of expressions has an operand
looks_operated : (es : List Expr) (ss : List Slot) → list_all is_operated_expr es ≡ true → next_redex_of es ≡ Some (look ss) → nat_lt 0 (length ss) ≡ true
looks_operated [] ss h at = absurd (none_is_some at)
looks_operated (e ∷ es) ss h at =
    let parts = both_true (is_operated_expr e) (list_all is_operated_expr es) h in
    by_first (next_redex e) refl at (λ k. look_operated e ss parts.0 k) (λ k. looks_operated es ss parts.1 k)
  where
    by_first : (o : Option Redex) → next_redex e ≡ o → or_else o (next_redex_of es) ≡ Some (look ss)
        → (next_redex e ≡ Some (look ss) → nat_lt 0 (length ss) ≡ true)
        → (next_redex_of es ≡ Some (look ss) → nat_lt 0 (length ss) ≡ true) → nat_lt 0 (length ss) ≡ true
    by_first None is k left right = right k
    by_first (Some r) is k left right = left (is ∙ k)

-- a measurement that is the next redex of a process has an operand
pub redex_operated : (p : Process) (ss : List Slot) → is_operated p ≡ true → redex_of p ≡ Some (look ss) → nat_lt 0 (length ss) ≡ true
redex_operated (act e p) ss h at =
    let parts = both_true (is_operated_expr e) (is_operated p) h in looks_operated (e ∷ []) ss (both_hold _ _ parts.0 refl) at
redex_operated (output c es p) ss h at = let parts = both_true (list_all is_operated_expr es) (is_operated p) h in looks_operated es ss parts.0 at
redex_operated (branch e f p q) ss h at =
    let three = both_true (is_operated_expr e && is_operated_expr f && is_operated p) (is_operated q) h in
    let two = both_true (is_operated_expr e && is_operated_expr f) (is_operated p) three.0 in
    let one = both_true (is_operated_expr e) (is_operated_expr f) two.0 in
    looks_operated (e ∷ f ∷ []) ss (both_hold _ _ one.0 (both_hold _ _ one.1 refl)) at
redex_operated nil ss h at = absurd (none_is_some at)
redex_operated (par p q) ss h at = absurd (none_is_some at)
redex_operated (new b p) ss h at = absurd (none_is_some at)
redex_operated (qbit x p) ss h at = absurd (none_is_some at)
redex_operated (input c bs p) ss h at = absurd (none_is_some at)
