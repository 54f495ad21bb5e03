-- A reduced redex makes its prefix smaller by one; values put in leave sizes alone.
use Rattle.std.proofs.Common.{◌≡◌, ℕ, true, false, Bool, List, [], ◌∷◌, map, ◌+◌, ◌⊎◌, inl, inr, Option, Some, None, refl, ap, arith, ◌∙◌, ⊎_elim}
use Rattle.cqp_syntax.specs.declared.val.Val.{Val}
use Rattle.cqp_syntax.specs.Trees.{named, valued, Expr, slot, sig, add, apply, measure, Binder, Process, nil, par, new, qbit, act, input, output, branch}
use Rattle.cqp_cells.specs.Redex.{Redex, lone_name, pick, sum, gate, or_else, next_redex, next_redex_of, redex_of, reduced, reduced_in, reduced_prefix}
use Rattle.cqp_syntax.specs.Substitution.{expr_with, with_value, with_values}
use Rattle.cqp_syntax.specs.Measures.{expr_steps, exprs_steps, size}

-- whether it's a node that is reduced, and no lone name
abbrev pub is_node : Option Redex → Bool
is_node None = false
is_node (Some (lone_name x)) = false
is_node (Some r) = true

-- a redex is there or not
there_or_not : (o : Option Redex) → (o ≡ None) ⊎ ((r : Redex) × (o ≡ Some r))
there_or_not None = inl refl
there_or_not (Some r) = inr (r, refl)

-- an alternative that is there
some_else : (o : Option Redex) (r : Redex) → or_else o (Some r) ≡ None → ⊥
some_else (Some s) r h = cc
some_else None r h = cc

-- where nothing is next, nothing counts
none_counts : (e : Expr) → next_redex e ≡ None → expr_steps e ≡ 0
none_counts (slot s) h = refl
none_counts (sig e) h = absurd (some_else (next_redex e) (pick e) h)
none_counts (add e f) h = ⊎_elim
    (λ (t : next_redex e ≡ None). absurd (some_else (next_redex f) (sum e f) (rw t at h)))
    (λ (t : (r : Redex) × (next_redex e ≡ Some r)). let none : or_else (Some t.0) (or_else (next_redex f) (Some (sum e f))) ≡ None = rw t.1 at h in cc)
    (there_or_not (next_redex e))
none_counts (apply qs e) h = absurd (some_else (next_redex e) (gate qs e) h)
none_counts (measure qs) h = cc

-- the next redex of an expression counts one
pub expr_less : (v : Val) (e : Expr) → is_node (next_redex e) ≡ true → expr_steps (reduced v e) + 1 ≡ expr_steps e
expr_less v (slot (named x)) h = cc
expr_less v (slot (valued u)) h = cc
expr_less v (sig e) h = ⊎_elim
    (λ (t : next_redex e ≡ None). let none = none_counts e t in rw t (omega arith))
    (λ (t : (r : Redex) × (next_redex e ≡ Some r)).
    let node : is_node (or_else (Some t.0) (Some (pick e))) ≡ true = rw t.1 at h in
    let less = expr_less v e (ap is_node t.1 ∙ node) in
    let is : reduced v (sig e) ≡ sig (reduced v e) = rw t.1 refl in
    ap (λ z. expr_steps z + 1) is ∙ omega arith)
    (there_or_not (next_redex e))
expr_less v (add e f) h = ⊎_elim
    (λ (t : next_redex e ≡ None).
    let none = none_counts e t in
    let later : is_node (or_else (next_redex f) (Some (sum e f))) ≡ true = rw t at h in
    ⊎_elim
    (λ (u : next_redex f ≡ None). let none_too = none_counts f u in rw (t, u) (omega arith))
    (λ (u : (r : Redex) × (next_redex f ≡ Some r)).
    let node : is_node (or_else (Some u.0) (Some (sum e f))) ≡ true = rw u.1 at later in
    let less = expr_less v f (ap is_node u.1 ∙ node) in
    let is : reduced v (add e f) ≡ add e (reduced v f) = rw (t, u.1) refl in
    ap (λ z. expr_steps z + 1) is ∙ omega arith)
    (there_or_not (next_redex f)))
    (λ (t : (r : Redex) × (next_redex e ≡ Some r)).
    let node : is_node (or_else (Some t.0) (or_else (next_redex f) (Some (sum e f)))) ≡ true = rw t.1 at h in
    let less = expr_less v e (ap is_node t.1 ∙ node) in
    let is : reduced v (add e f) ≡ add (reduced v e) f = rw t.1 refl in
    ap (λ z. expr_steps z + 1) is ∙ omega arith)
    (there_or_not (next_redex e))
expr_less v (apply qs e) h = ⊎_elim
    (λ (t : next_redex e ≡ None). let none = none_counts e t in rw t (omega arith))
    (λ (t : (r : Redex) × (next_redex e ≡ Some r)).
    let node : is_node (or_else (Some t.0) (Some (gate qs e))) ≡ true = rw t.1 at h in
    let less = expr_less v e (ap is_node t.1 ∙ node) in
    let is : reduced v (apply qs e) ≡ apply qs (reduced v e) = rw t.1 refl in
    ap (λ z. expr_steps z + 1) is ∙ omega arith)
    (there_or_not (next_redex e))
expr_less v (measure qs) h = refl

-- of several expressions
pub exprs_less : (v : Val) (es : List Expr) → is_node (next_redex_of es) ≡ true → exprs_steps (reduced_in v es) + 1 ≡ exprs_steps es
exprs_less v [] h = cc
exprs_less v (e ∷ es) h = ⊎_elim
    (λ (t : next_redex e ≡ None).
    let less = exprs_less v es (rw t at h) in
    let is : reduced_in v (e ∷ es) ≡ e ∷ reduced_in v es = rw t refl in
    ap (λ z. exprs_steps z + 1) is ∙ omega arith)
    (λ (t : (r : Redex) × (next_redex e ≡ Some r)).
    let node : is_node (or_else (Some t.0) (next_redex_of es)) ≡ true = rw t.1 at h in
    let less = expr_less v e (ap is_node t.1 ∙ node) in
    let is : reduced_in v (e ∷ es) ≡ reduced v e ∷ es = rw t.1 refl in
    ap (λ z. exprs_steps z + 1) is ∙ omega arith)
    (there_or_not (next_redex e))

-- of a prefix
pub prefix_less : (v : Val) (p : Process) → is_node (redex_of p) ≡ true → size (reduced_prefix v p) + 1 ≡ size p
prefix_less v (act e p) h = ⊎_elim
    (λ (t : next_redex e ≡ None). let none : false ≡ true = rw t at h in cc)
    (λ (t : (r : Redex) × (next_redex e ≡ Some r)).
    let node : is_node (or_else (Some t.0) None) ≡ true = rw t.1 at h in
    let less = expr_less v e (ap is_node t.1 ∙ node) in
    omega arith)
    (there_or_not (next_redex e))
prefix_less v (output c es p) h = let less = exprs_less v es h in omega arith
prefix_less v (branch e f p q) h = ⊎_elim
    (λ (t : next_redex e ≡ None).
    let later : is_node (or_else (next_redex f) None) ≡ true = rw t at h in
    let is : reduced_prefix v (branch e f p q) ≡ branch e (reduced v f) p q = rw t refl in
    ⊎_elim
    (λ (u : next_redex f ≡ None). let none : false ≡ true = rw u at later in cc)
    (λ (u : (r : Redex) × (next_redex f ≡ Some r)).
    let node : is_node (or_else (Some u.0) None) ≡ true = rw u.1 at later in
    let less = expr_less v f (ap is_node u.1 ∙ node) in
    ap (λ z. size z + 1) is ∙ omega arith)
    (there_or_not (next_redex f)))
    (λ (t : (r : Redex) × (next_redex e ≡ Some r)).
    let node : is_node (or_else (Some t.0) (or_else (next_redex f) None)) ≡ true = rw t.1 at h in
    let less = expr_less v e (ap is_node t.1 ∙ node) in
    let is : reduced_prefix v (branch e f p q) ≡ branch (reduced v e) f p q = rw t.1 refl in
    ap (λ z. size z + 1) is ∙ omega arith)
    (there_or_not (next_redex e))
prefix_less v p h = cc

-- values in the places of names
pub count_with : (x : ℕ) (v : Val) (e : Expr) → expr_steps (expr_with x v e) ≡ expr_steps e
count_with x v (slot s) = refl
count_with x v (sig e) = rw (count_with x v e) refl
count_with x v (add e f) = rw (count_with x v e, count_with x v f) refl
count_with x v (apply qs e) = rw (count_with x v e) refl
count_with x v (measure qs) = refl

-- in a list of expressions
counts_with : (x : ℕ) (v : Val) (es : List Expr) → exprs_steps (map (expr_with x v) es) ≡ exprs_steps es
counts_with x v [] = refl
counts_with x v (e ∷ es) =
    let first = count_with x v e in
    let later = counts_with x v es in
    omega arith

-- in a process
pub size_with : (x : ℕ) (v : Val) (p : Process) → size (with_value x v p) ≡ size p
size_with x v nil = refl
size_with x v (par p q) = rw (size_with x v p, size_with x v q) refl
size_with x v (new b p) = rw (size_with x v p) refl
size_with x v (qbit y p) = rw (size_with x v p) refl
size_with x v (act e p) = rw (count_with x v e, size_with x v p) refl
size_with x v (input c bs p) = rw (size_with x v p) refl
size_with x v (output c es p) = rw (counts_with x v es, size_with x v p) refl
size_with x v (branch e f p q) = rw (count_with x v e, count_with x v f, size_with x v p, size_with x v q) refl

-- and for several names
pub size_with_values : (bs : List Binder) (vs : List Val) (p : Process) → size (with_values bs vs p) ≡ size p
size_with_values [] vs p = refl
size_with_values (b ∷ bs) [] p = refl
size_with_values (b ∷ bs) (v ∷ vs) p = size_with_values bs vs (with_value b.name v p) ∙ size_with b.name v p
