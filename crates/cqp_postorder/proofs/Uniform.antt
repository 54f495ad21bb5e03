-- A tree of the grammar as nodes over parts: its lists and its fragments are those of the grammar's
-- tree.
use Rattle.std.proofs.Common.{◌≡◌, ℕ, ◌+◌, List, ◌++◌, map, refl}
use Rattle.std.proofs.Common.{ap, append_assoc, append-nil, arith}
use Rattle.cqp_program.specs.declared.fragment.Fragment.{Fragment}
use Rattle.cqp_program.specs.declared.fragment.Kind.{Kind}
use Rattle.cqp_program.specs.declared.fragment.Kind.TheVariants as kind
use Rattle.cqp_grammar.specs.Trees.{ExprTree, number, unit, name, gate, sig, add, apply, measure}
use Rattle.cqp_grammar.specs.Trees.{ExprTrees, no_exprs, expr_and, ProcessTree, nil, par, new, qbit}
use Rattle.cqp_grammar.specs.Trees.{act, input, output, branch, call}
use Rattle.cqp_program.specs.Listing.{occ, ty_tree, param, expr_size, exprs_size, process_size}
use Rattle.cqp_program.specs.Postorder.{ends, expr_count, expr_postorder, exprs_postorder}
use Rattle.cqp_program.specs.Postorder.{postorder}
use Rattle.cqp_postorder.specs.Subtrees.{Subtree, over, Subtrees, no_parts, part_and, size_of}
use Rattle.cqp_postorder.specs.Subtrees.{sizes_of, length_of}
use Rattle.cqp_postorder.specs.Subtrees.{fragments_of, all_fragments_of}
use Rattle.cqp_postorder.specs.Subtrees.{IsCounted, AreCounted}

-- one part, and two
abbrev pub one : Subtree → Subtrees
one t = part_and t no_parts

-- two subtrees
abbrev pub two : Subtree → Subtree → Subtrees
two t u = part_and t (one u)

abbrev mutual
  -- an expression as a subtree
  pub expr_subtree : ExprTree → Subtree
  expr_subtree (number at v) = over (kind.Num v) at no_parts
  expr_subtree (unit at) = over kind.Unit at no_parts
  expr_subtree (name at x) = over (kind.Name x) at no_parts
  expr_subtree (gate at op) = over (kind.Gate op) at no_parts
  expr_subtree (sig at e) = over kind.Sig at (one (expr_subtree e))
  expr_subtree (add at e f) = over kind.Add at (two (expr_subtree e) (expr_subtree f))
  expr_subtree (apply at xs e) = over (kind.Apply (map occ xs)) at (one (expr_subtree e))
  expr_subtree (measure at xs) = over (kind.Measure (map occ xs)) at no_parts

  -- expressions, and parts behind them
  pub exprs_and : ExprTrees → Subtrees → Subtrees
  exprs_and no_exprs ts = ts
  exprs_and (expr_and e es) ts = part_and (expr_subtree e) (exprs_and es ts)

-- a process as a subtree
abbrev pub subtree : ProcessTree → Subtree
subtree (nil at) = over kind.Nil at no_parts
subtree (par at p q) = over kind.Par at (two (subtree p) (subtree q))
subtree (new at x t p) = over (kind.New (occ x) (ty_tree t)) at (one (subtree p))
subtree (qbit at x p) = over (kind.Qbit (occ x)) at (one (subtree p))
subtree (act at e p) = over kind.Act at (two (expr_subtree e) (subtree p))
subtree (input at c ps p) = over (kind.In (occ c) (map param ps)) at (one (subtree p))
subtree (output at c es p) =
    over (kind.Out (occ c) (expr_count es)) at (exprs_and es (one (subtree p)))
subtree (branch at e f p q) =
    over kind.If at
    (part_and (expr_subtree e) (part_and (expr_subtree f) (two (subtree p) (subtree q))))
subtree (call at x xs) = over (kind.Call x (map occ xs)) at no_parts

mutual
  -- each node has as many parts as its kind says
  expr_counted : (e : ExprTree) → IsCounted (expr_subtree e)
  expr_counted (number at v) = (refl, tt)
  expr_counted (unit at) = (refl, tt)
  expr_counted (name at x) = (refl, tt)
  expr_counted (gate at op) = (refl, tt)
  expr_counted (sig at e) = (refl, (expr_counted e, tt))
  expr_counted (add at e f) = (refl, (expr_counted e, (expr_counted f, tt)))
  expr_counted (apply at xs e) = (refl, (expr_counted e, tt))
  expr_counted (measure at xs) = (refl, tt)

  -- expressions before counted subtrees are counted
  exprs_counted : (es : ExprTrees) (ts : Subtrees) → AreCounted ts → AreCounted (exprs_and es ts)
  exprs_counted no_exprs ts h = h
  exprs_counted (expr_and e es) ts h = (expr_counted e, exprs_counted es ts h)

-- expressions before subtrees are as many as both
length-exprs_and : (es : ExprTrees) (ts : Subtrees)
    → length_of (exprs_and es ts) ≡ expr_count es + length_of ts
length-exprs_and no_exprs ts = omega arith
length-exprs_and (expr_and e es) ts = omega (arith, length-exprs_and es ts)

-- each node of a process counts its parts
pub counted : (p : ProcessTree) → IsCounted (subtree p)
counted (nil at) = (refl, tt)
counted (par at p q) = (refl, (counted p, (counted q, tt)))
counted (new at x t p) = (refl, (counted p, tt))
counted (qbit at x p) = (refl, (counted p, tt))
counted (act at e p) = (refl, (expr_counted e, (counted p, tt)))
counted (input at c ps p) = (refl, (counted p, tt))
counted (output at c es p) =
    (length-exprs_and es (one (subtree p)), exprs_counted es (one (subtree p)) (counted p, tt))
counted (branch at e f p q) =
    (refl, (expr_counted e, (expr_counted f, (counted p, (counted q, tt)))))
counted (call at x xs) = (refl, tt)

mutual
  -- sizes
  pub size-expr : (e : ExprTree) → size_of (expr_subtree e) ≡ expr_size e
  size-expr (number at v) = omega arith
  size-expr (unit at) = omega arith
  size-expr (name at x) = omega arith
  size-expr (gate at op) = omega arith
  size-expr (sig at e) = omega (arith, size-expr e)
  size-expr (add at e f) = omega (arith, size-expr e, size-expr f)
  size-expr (apply at xs e) = omega (arith, size-expr e)
  size-expr (measure at xs) = omega arith

  -- expressions before subtrees have the nodes of both
  sizes-exprs_and : (es : ExprTrees) (ts : Subtrees)
      → sizes_of (exprs_and es ts) ≡ exprs_size es + sizes_of ts
  sizes-exprs_and no_exprs ts = omega arith
  sizes-exprs_and (expr_and e es) ts = omega (arith, size-expr e, sizes-exprs_and es ts)

-- a process has as many nodes as its subtree
pub size-process : (p : ProcessTree) → size_of (subtree p) ≡ process_size p
size-process (nil at) = omega arith
size-process (par at p q) = omega (arith, size-process p, size-process q)
size-process (new at x t p) = omega (arith, size-process p)
size-process (qbit at x p) = omega (arith, size-process p)
size-process (act at e p) = omega (arith, size-expr e, size-process p)
size-process (input at c ps p) = omega (arith, size-process p)
size-process (output at c es p) =
    omega (arith, sizes-exprs_and es (one (subtree p)), size-process p)
size-process (branch at e f p q) =
    omega (arith, size-expr e, size-expr f, size-process p, size-process q)
size-process (call at x xs) = omega arith

-- a list is ended by the same node
ended : (xs ys : List Fragment) (at : ℕ) (k : Kind) → xs ≡ ys → xs ++ ends at k ≡ ys ++ ends at k
ended xs ys at k e = ap (λ l. l ++ ends at k) e

mutual
  -- fragments
  fragments-expr : (e : ExprTree) → fragments_of (expr_subtree e) ≡ expr_postorder e
  fragments-expr (number at v) = refl
  fragments-expr (unit at) = refl
  fragments-expr (name at x) = refl
  fragments-expr (gate at op) = refl
  fragments-expr (sig at e) = ended _ _ at _ (simp (append-nil, fragments-expr e))
  fragments-expr (add at e f) =
      ended _ _ at _ (simp (append-nil, fragments-expr e, fragments-expr f))
  fragments-expr (apply at xs e) = ended _ _ at _ (simp (append-nil, fragments-expr e))
  fragments-expr (measure at xs) = refl

  -- expressions before subtrees have their fragments before theirs
  fragments-exprs_and : (es : ExprTrees) (ts : Subtrees)
      → all_fragments_of (exprs_and es ts) ≡ exprs_postorder es ++ all_fragments_of ts
  fragments-exprs_and no_exprs ts = refl
  fragments-exprs_and (expr_and e es) ts =
      rw (fragments-expr e, fragments-exprs_and es ts, append_assoc) refl

-- the fragments of a process are those of its subtree
pub fragments-process : (p : ProcessTree) → fragments_of (subtree p) ≡ postorder p
fragments-process (nil at) = refl
fragments-process (par at p q) =
    ended _ _ at _ (simp (append-nil, fragments-process p, fragments-process q))
fragments-process (new at x t p) = ended _ _ at _ (simp (append-nil, fragments-process p))
fragments-process (qbit at x p) = ended _ _ at _ (simp (append-nil, fragments-process p))
fragments-process (act at e p) =
    ended _ _ at _ (simp (append-nil, fragments-expr e, fragments-process p))
fragments-process (input at c ps p) = ended _ _ at _ (simp (append-nil, fragments-process p))
fragments-process (output at c es p) =
    ended _ _ at _
    (simp (append-nil, fragments-exprs_and es (one (subtree p)), fragments-process p))
fragments-process (branch at e f p q) =
    ended _ _ at _ (simp (append-nil, append_assoc, fragments-expr e, fragments-expr f, fragments-process p, fragments-process q))
fragments-process (call at x xs) = refl
