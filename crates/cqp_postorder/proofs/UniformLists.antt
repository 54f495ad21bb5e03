-- The nodes and the offsets of a tree as nodes over parts are those of the grammar's tree.
use Rattle.std.proofs.Common.{◌≡◌, ℕ, ◌+◌, List, [], ◌∷◌, ◌++◌, length, take, get_or, refl}
use Rattle.std.proofs.Common.{◌∙◌, ap, append_assoc, append-nil, arith}
use Rattle.std.proofs.lemmas.List.{take_at, get_or_at}
use Rattle.cqp_program.specs.declared.tree.TreeNode.{TreeNode}
use Rattle.cqp_program.specs.declared.tree.TreeNode.TheVariants as node
use Rattle.cqp_program.specs.declared.program.Occ.{Occ}
use Rattle.cqp_grammar.specs.Trees.{ExprTree, number, unit, name, gate, sig, add, apply, measure}
use Rattle.cqp_grammar.specs.Trees.{ExprTrees, no_exprs, expr_and, ProcessTree, nil, par, new, qbit}
use Rattle.cqp_grammar.specs.Trees.{act, input, output, branch, call}
use Rattle.cqp_program.specs.Listing.{occ, expr_size, exprs_size, process_size}
use Rattle.cqp_program.specs.Listing.{numbers_from, expr_nodes, exprs_nodes, process_nodes}
use Rattle.cqp_program.specs.Listing.{expr_offsets, exprs_offsets, process_offsets}
use Rattle.cqp_program.specs.Postorder.{expr_count}
use Rattle.cqp_postorder.specs.Subtrees.{Subtrees, size_of}
use Rattle.cqp_postorder.specs.Subtrees.{numbers_of, nodes_of, all_nodes_of}
use Rattle.cqp_postorder.specs.Subtrees.{offsets_of, all_offsets_of}
use Rattle.cqp_postorder.proofs.Uniform.{expr_subtree, exprs_and, size-expr, size-process, one}
use Rattle.cqp_postorder.proofs.Uniform.{subtree}

mutual
  -- offsets
  offsets-expr : (e : ExprTree) → offsets_of (expr_subtree e) ≡ expr_offsets e
  offsets-expr (number at v) = refl
  offsets-expr (unit at) = refl
  offsets-expr (name at x) = refl
  offsets-expr (gate at op) = refl
  offsets-expr (sig at e) = simp (append-nil, offsets-expr e)
  offsets-expr (add at e f) = simp (append-nil, offsets-expr e, offsets-expr f)
  offsets-expr (apply at xs e) = simp (append-nil, offsets-expr e)
  offsets-expr (measure at xs) = refl

  -- expressions before subtrees have their offsets before theirs
  offsets-exprs_and : (es : ExprTrees) (ts : Subtrees)
      → all_offsets_of (exprs_and es ts) ≡ exprs_offsets es ++ all_offsets_of ts
  offsets-exprs_and no_exprs ts = refl
  offsets-exprs_and (expr_and e es) ts =
      rw (offsets-expr e, offsets-exprs_and es ts, append_assoc) refl

-- the offsets of a process are those of its subtree
pub offsets-process : (p : ProcessTree) → offsets_of (subtree p) ≡ process_offsets p
offsets-process (nil at) = refl
offsets-process (par at p q) = simp (append-nil, offsets-process p, offsets-process q)
offsets-process (new at x t p) = simp (append-nil, offsets-process p)
offsets-process (qbit at x p) = simp (append-nil, offsets-process p)
offsets-process (act at e p) = simp (append-nil, offsets-expr e, offsets-process p)
offsets-process (input at c ps p) = simp (append-nil, offsets-process p)
offsets-process (output at c es p) =
    simp (append-nil, offsets-exprs_and es (one (subtree p)), offsets-process p)
offsets-process (branch at e f p q) =
    simp (append-nil, offsets-expr e, offsets-expr f, offsets-process p, offsets-process q)
offsets-process (call at x xs) = refl

-- the numbers of expressions and of parts behind them
numbers-exprs_and : (n : ℕ) (es : ExprTrees) (ts : Subtrees)
    → numbers_of n (exprs_and es ts) ≡ numbers_from n es ++ numbers_of (n + exprs_size es) ts
numbers-exprs_and n no_exprs ts = let e : n ≡ n + 0 = omega arith in ap (λ k. numbers_of k ts) e
numbers-exprs_and n (expr_and e es) ts =
    let same : n + size_of (expr_subtree e) ≡ n + expr_size e = ap (λ k. n + k) (size-expr e) in
    let next : n + expr_size e + exprs_size es ≡ n + exprs_size (expr_and e es) = omega arith in
    ap (λ xs. n ∷ xs)
    (ap (λ k. numbers_of k (exprs_and es ts)) same ∙ numbers-exprs_and (n + expr_size e) es ts
    ∙ ap (λ k. numbers_from (n + expr_size e) es ++ numbers_of k ts) next)

-- there is a number for each expression
length-numbers_from : (n : ℕ) (es : ExprTrees) → length (numbers_from n es) ≡ expr_count es
length-numbers_from n no_exprs = refl
length-numbers_from n (expr_and e es) = omega (arith, length-numbers_from (n + expr_size e) es)

mutual
  -- nodes
  nodes-expr : (n : ℕ) (e : ExprTree) → nodes_of n (expr_subtree e) ≡ expr_nodes n e
  nodes-expr n (number at v) = refl
  nodes-expr n (unit at) = refl
  nodes-expr n (name at x) = refl
  nodes-expr n (gate at op) = refl
  nodes-expr n (sig at e) = simp (append-nil, nodes-expr (n + 1) e)
  nodes-expr n (add at e f) =
      simp (append-nil, size-expr e, nodes-expr (n + 1) e, nodes-expr (n + 1 + expr_size e) f)
  nodes-expr n (apply at xs e) = simp (append-nil, nodes-expr (n + 1) e)
  nodes-expr n (measure at xs) = refl

  -- expressions before subtrees have their nodes before theirs
  nodes-exprs_and : (n : ℕ) (es : ExprTrees) (ts : Subtrees)
      → all_nodes_of n (exprs_and es ts) ≡ exprs_nodes n es ++ all_nodes_of (n + exprs_size es) ts
  nodes-exprs_and n no_exprs ts = let e : n ≡ n + 0 = omega arith in ap (λ k. all_nodes_of k ts) e
  nodes-exprs_and n (expr_and e es) ts =
      let next : n + expr_size e + exprs_size es ≡ n + exprs_size (expr_and e es) = omega arith in
      let rest =
      nodes-exprs_and (n + expr_size e) es ts
      ∙ ap (λ k. exprs_nodes (n + expr_size e) es ++ all_nodes_of k ts) next in
      rw (size-expr e, nodes-expr n e, rest, append_assoc) refl

-- the node of an output
out_node : (n : ℕ) (c : Occ) (es : ExprTrees) (ns : List ℕ) (m : ℕ)
    → ns ≡ numbers_from n es ++ m ∷ []
    → node.Out c (take (expr_count es) ns) (get_or ns (expr_count es) 0)
    ≡ node.Out c (numbers_from n es) m
out_node n c es ns m e =
    let front = take_at (numbers_from n es) (m ∷ []) (expr_count es) (length-numbers_from n es) in
    let last = get_or_at (numbers_from n es) m [] 0 (expr_count es) (length-numbers_from n es) in
    rw (e, front, last) refl

-- the nodes of a process are those of its subtree
pub nodes-process : (n : ℕ) (p : ProcessTree) → nodes_of n (subtree p) ≡ process_nodes n p
nodes-process n (nil at) = refl
nodes-process n (par at p q) =
    simp (
      append-nil,
      size-process p,
      nodes-process (n + 1) p,
      nodes-process (n + 1 + process_size p) q,
    )
nodes-process n (new at x t p) = simp (append-nil, nodes-process (n + 1) p)
nodes-process n (qbit at x p) = simp (append-nil, nodes-process (n + 1) p)
nodes-process n (act at e p) =
    simp (append-nil, size-expr e, nodes-expr (n + 1) e, nodes-process (n + 1 + expr_size e) p)
nodes-process n (input at c ps p) = simp (append-nil, nodes-process (n + 1) p)
nodes-process n (output at c es p) =
    let body = n + 1 + exprs_size es in
    let all = exprs_and es (one (subtree p)) in
    let made =
    out_node (n + 1) (occ c) es (numbers_of (n + 1) all) body
    (numbers-exprs_and (n + 1) es (one (subtree p))) in
    let rest : all_nodes_of (n + 1) all ≡ exprs_nodes (n + 1) es ++ process_nodes body p =
    nodes-exprs_and (n + 1) es (one (subtree p)) ∙ ap (λ xs. exprs_nodes (n + 1) es ++ xs)
    (append-nil (nodes_of body (subtree p)) ∙ nodes-process body p) in
    let first : TreeNode = node.Out (occ c) (numbers_from (n + 1) es) body in
    ap (λ x. x ∷ all_nodes_of (n + 1) all) made ∙ ap (λ xs. first ∷ xs) rest
nodes-process n (branch at e f p q) =
    let right = n + 1 + expr_size e in
    let yes = right + expr_size f in
    let no = yes + process_size p in
    simp (
      append-nil,
      size-expr e,
      size-expr f,
      size-process p,
      nodes-expr (n + 1) e,
      nodes-expr right f,
      nodes-process yes p,
      nodes-process no q,
    )
nodes-process n (call at x xs) = refl
