-- The nodes, offsets and types of a part are those of its node and of what is left behind it.
use Rattle.std.proofs.Common.{◌≡◌, ℕ, ◌+◌, List, [], ◌∷◌, ◌++◌, map, length, refl, sym, ◌∙◌, ap, append_assoc, append-nil, arith}
use Rattle.cqp_syntax.specs.TypeTrees.{qbit_type}
use Rattle.cqp_grammar.specs.Trees.{ExprTrees, number, unit, name, gate, sig, add, apply}
use Rattle.cqp_grammar.specs.Trees.{measure, no_exprs, expr_and, ProcessTree, nil, par, new, qbit, act}
use Rattle.cqp_grammar.specs.Trees.{input, output, branch, call}
use Rattle.cqp_program.specs.Listing.{expr_size, exprs_size, process_size, expr_nodes, exprs_nodes, process_nodes}
use Rattle.cqp_program.specs.Listing.{numbers_from, expr_offsets, exprs_offsets, process_offsets}
use Rattle.cqp_expand.specs.Scopes.{Scope}
use Rattle.cqp_expand.specs.Members.{local_types}
use Rattle.cqp_expand.specs.Nodes.{part_count}
use Rattle.cqp_expand.proofs.Subtrees.{Subtree, process, expr, size_of, nodes_of, offsets_of, types_of, root, offset_of, bound_at}
use Rattle.cqp_expand.proofs.Kids.{Item, items, args, kids, left_nodes, left_size, left_offsets, left_types}

-- the expressions of an output before its body
abbrev sent : Scope → ExprTrees → ProcessTree → List Item
sent s es p = items s (args es ++ process p ∷ [])

-- their nodes and those of the body
sent_nodes : (n : ℕ) (s : Scope) (es : ExprTrees) (p : ProcessTree) → exprs_nodes n es ++ process_nodes (n + exprs_size es) p ≡ left_nodes n (sent s es p)
sent_nodes n s no_exprs p =
    let e : n + 0 ≡ n = omega arith in ap (λ k. process_nodes k p) e ∙ sym (append-nil (process_nodes n p))
sent_nodes n s (expr_and e es) p =
    let m = n + expr_size e in
    let k : n + (expr_size e + exprs_size es) ≡ m + exprs_size es = omega arith in
    append_assoc (expr_nodes n e) (exprs_nodes m es) (process_nodes (n + (expr_size e + exprs_size es)) p)
    ∙ ap (λ i. expr_nodes n e ++ (exprs_nodes m es ++ process_nodes i p)) k ∙ ap (λ l. expr_nodes n e ++ l) (sent_nodes m s es p)

-- how many they are
sent_size : (s : Scope) (es : ExprTrees) (p : ProcessTree) → left_size (sent s es p) ≡ exprs_size es + process_size p
sent_size s no_exprs p = omega arith
sent_size s (expr_and e es) p = omega (arith, sent_size s es p)

-- their offsets
sent_offsets : (s : Scope) (es : ExprTrees) (p : ProcessTree) → exprs_offsets es ++ process_offsets p ≡ left_offsets (sent s es p)
sent_offsets s no_exprs p = sym (append-nil (process_offsets p))
sent_offsets s (expr_and e es) p =
    append_assoc (expr_offsets e) (exprs_offsets es) (process_offsets p) ∙ ap (λ l. expr_offsets e ++ l) (sent_offsets s es p)

-- expressions bind nothing
sent_types : (s : Scope) (es : ExprTrees) (p : ProcessTree) → local_types p ≡ left_types (sent s es p)
sent_types s no_exprs p = sym (append-nil (local_types p))
sent_types s (expr_and e es) p = sent_types s es p

-- how many parts an output has
sent_count : (n : ℕ) (es : ExprTrees) (p : ProcessTree) → length (numbers_from n es) + 1 ≡ length (args es ++ process p ∷ [])
sent_count n no_exprs p = refl
sent_count n (expr_and e es) p = omega (arith, sent_count (n + expr_size e) es p)

-- as many parts as the node has
pub count-kids : (n : ℕ) (t : Subtree) → part_count (root n t) ≡ length (kids t)
count-kids n (process (nil at)) = refl
count-kids n (process (par at p q)) = refl
count-kids n (process (new at x t p)) = refl
count-kids n (process (qbit at x p)) = refl
count-kids n (process (act at e p)) = refl
count-kids n (process (input at c ps p)) = refl
count-kids n (process (output at c es p)) = sent_count n es p
count-kids n (process (branch at e f p q)) = refl
count-kids n (process (call at x xs)) = refl
count-kids n (expr (number at v)) = refl
count-kids n (expr (unit at)) = refl
count-kids n (expr (name at x)) = refl
count-kids n (expr (gate at op)) = refl
count-kids n (expr (sig at e)) = refl
count-kids n (expr (add at e f)) = refl
count-kids n (expr (apply at xs e)) = refl
count-kids n (expr (measure at xs)) = refl

-- a body that stands last
one_more : (n : ℕ) (p : ProcessTree) → process_nodes n p ≡ process_nodes n p ++ []
one_more n p = sym (append-nil (process_nodes n p))

-- the nodes of a part are itself and those of what is left
pub nodes-kids : (s : Scope) (n : ℕ) (t : Subtree) → nodes_of n t ≡ root (n + 1) t ∷ left_nodes (n + 1) (items s (kids t))
nodes-kids s n (process (nil at)) = refl
nodes-kids s n (process (par at p q)) =
    ap (λ l. root (n + 1) (process (par at p q)) ∷ (process_nodes (n + 1) p ++ l)) (one_more (n + 1 + process_size p) q)
nodes-kids s n (process (new at x t p)) = ap (λ l. root (n + 1) (process (new at x t p)) ∷ l) (one_more (n + 1) p)
nodes-kids s n (process (qbit at x p)) = ap (λ l. root (n + 1) (process (qbit at x p)) ∷ l) (one_more (n + 1) p)
nodes-kids s n (process (act at e p)) =
    ap (λ l. root (n + 1) (process (act at e p)) ∷ (expr_nodes (n + 1) e ++ l)) (one_more (n + 1 + expr_size e) p)
nodes-kids s n (process (input at c ps p)) = ap (λ l. root (n + 1) (process (input at c ps p)) ∷ l) (one_more (n + 1) p)
nodes-kids s n (process (output at c es p)) = ap (λ l. root (n + 1) (process (output at c es p)) ∷ l) (sent_nodes (n + 1) s es p)
nodes-kids s n (process (branch at e f p q)) =
    ap (λ l. root (n + 1) (process (branch at e f p q)) ∷ (expr_nodes (n + 1) e ++ (expr_nodes (n + 1 + expr_size e) f
    ++ (process_nodes (n + 1 + expr_size e + expr_size f) p ++ l))))
    (one_more (n + 1 + expr_size e + expr_size f + process_size p) q)
nodes-kids s n (process (call at x xs)) = refl
nodes-kids s n (expr (number at v)) = refl
nodes-kids s n (expr (unit at)) = refl
nodes-kids s n (expr (name at x)) = refl
nodes-kids s n (expr (gate at op)) = refl
nodes-kids s n (expr (sig at e)) = ap (λ l. root (n + 1) (expr (sig at e)) ∷ l) (sym (append-nil (expr_nodes (n + 1) e)))
nodes-kids s n (expr (add at e f)) =
    ap (λ l. root (n + 1) (expr (add at e f)) ∷ (expr_nodes (n + 1) e ++ l)) (sym (append-nil (expr_nodes (n + 1 + expr_size e) f)))
nodes-kids s n (expr (apply at xs e)) = ap (λ l. root (n + 1) (expr (apply at xs e)) ∷ l) (sym (append-nil (expr_nodes (n + 1) e)))
nodes-kids s n (expr (measure at xs)) = refl

-- so many nodes they are
pub size-kids : (s : Scope) (n : ℕ) (t : Subtree) → n + size_of t ≡ n + 1 + left_size (items s (kids t))
size-kids s n (process (nil at)) = omega arith
size-kids s n (process (par at p q)) = omega arith
size-kids s n (process (new at x t p)) = omega arith
size-kids s n (process (qbit at x p)) = omega arith
size-kids s n (process (act at e p)) = omega arith
size-kids s n (process (input at c ps p)) = omega arith
size-kids s n (process (output at c es p)) = omega (arith, sent_size s es p)
size-kids s n (process (branch at e f p q)) = omega arith
size-kids s n (process (call at x xs)) = omega arith
size-kids s n (expr (number at v)) = omega arith
size-kids s n (expr (unit at)) = omega arith
size-kids s n (expr (name at x)) = omega arith
size-kids s n (expr (gate at op)) = omega arith
size-kids s n (expr (sig at e)) = omega arith
size-kids s n (expr (add at e f)) = omega arith
size-kids s n (expr (apply at xs e)) = omega arith
size-kids s n (expr (measure at xs)) = omega arith

-- their offsets
pub offsets-kids : (s : Scope) (t : Subtree) → offsets_of t ≡ offset_of t ∷ left_offsets (items s (kids t))
offsets-kids s (process (nil at)) = refl
offsets-kids s (process (par at p q)) = ap (λ l. at ∷ (process_offsets p ++ l)) (sym (append-nil (process_offsets q)))
offsets-kids s (process (new at x t p)) = ap (λ l. at ∷ l) (sym (append-nil (process_offsets p)))
offsets-kids s (process (qbit at x p)) = ap (λ l. at ∷ l) (sym (append-nil (process_offsets p)))
offsets-kids s (process (act at e p)) = ap (λ l. at ∷ (expr_offsets e ++ l)) (sym (append-nil (process_offsets p)))
offsets-kids s (process (input at c ps p)) = ap (λ l. at ∷ l) (sym (append-nil (process_offsets p)))
offsets-kids s (process (output at c es p)) = ap (λ l. at ∷ l) (sent_offsets s es p)
offsets-kids s (process (branch at e f p q)) =
    ap (λ l. at ∷ (expr_offsets e ++ (expr_offsets f ++ (process_offsets p ++ l)))) (sym (append-nil (process_offsets q)))
offsets-kids s (process (call at x xs)) = refl
offsets-kids s (expr (number at v)) = refl
offsets-kids s (expr (unit at)) = refl
offsets-kids s (expr (name at x)) = refl
offsets-kids s (expr (gate at op)) = refl
offsets-kids s (expr (sig at e)) = ap (λ l. at ∷ l) (sym (append-nil (expr_offsets e)))
offsets-kids s (expr (add at e f)) = ap (λ l. at ∷ (expr_offsets e ++ l)) (sym (append-nil (expr_offsets f)))
offsets-kids s (expr (apply at xs e)) = ap (λ l. at ∷ l) (sym (append-nil (expr_offsets e)))
offsets-kids s (expr (measure at xs)) = refl

-- and the types of their binders
pub types-kids : (s : Scope) (t : Subtree) → types_of t ≡ map (λ p. p.ty) (bound_at t) ++ left_types (items s (kids t))
types-kids s (process (nil at)) = refl
types-kids s (process (par at p q)) = ap (λ l. local_types p ++ l) (sym (append-nil (local_types q)))
types-kids s (process (new at x t p)) = ap (λ l. t ∷ l) (sym (append-nil (local_types p)))
types-kids s (process (qbit at x p)) = ap (λ l. qbit_type ∷ l) (sym (append-nil (local_types p)))
types-kids s (process (act at e p)) = sym (append-nil (local_types p))
types-kids s (process (input at c ps p)) = ap (λ l. map (λ b. b.ty) ps ++ l) (sym (append-nil (local_types p)))
types-kids s (process (output at c es p)) = sent_types s es p
types-kids s (process (branch at e f p q)) = ap (λ l. local_types p ++ l) (sym (append-nil (local_types q)))
types-kids s (process (call at x xs)) = refl
types-kids s (expr (number at v)) = refl
types-kids s (expr (unit at)) = refl
types-kids s (expr (name at x)) = refl
types-kids s (expr (gate at op)) = refl
types-kids s (expr (sig at e)) = refl
types-kids s (expr (add at e f)) = refl
types-kids s (expr (apply at xs e)) = refl
types-kids s (expr (measure at xs)) = refl
