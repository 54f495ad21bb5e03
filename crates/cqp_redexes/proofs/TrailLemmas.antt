-- A stack of nodes finds the redexes of an expression in evaluation order.
use Rattle.std.proofs.Common.{◌≡◌, ℕ, true, false, List, [], ◌∷◌, ◌++◌, map, ◌+◌, ◌*◌, ◌≤◌, ◌<◌, length, append_assoc, slice_get, get_or, Some, None}
use Rattle.std.proofs.Common.{if◌then◌else◌, refl, sym, ap, ap₂, subst, arith, ◌∙◌, ⊎_elim}
use Rattle.std.proofs.lemmas.Option.{slice_get_cases}
use Rattle.cqp_syntax.specs.declared.node.Node.{Node}
use Rattle.cqp_syntax.specs.declared.node.Node.TheVariants as node
use Rattle.cqp_syntax.specs.Trees.{named, Expr, slot, sig, add, apply, measure}
use Rattle.cqp_syntax.specs.Preorder.{expr_size}
use Rattle.cqp_syntax.specs.Terms.{Term, expr, as_expr}
use Rattle.cqp_syntax.specs.Subterms.{term_node}
use Rattle.cqp_syntax.specs.Listing.{Listing, IsProc, Unfolds, term_at, expr_at}
use Rattle.cqp_redexes.specs.declared.trail.Open.{Open}
use Rattle.cqp_syntax.proofs.Spreads.{node_is}
use Rattle.cqp_parts.specs.Parts.{node_at, or_nil}
use Rattle.cqp_redexes.specs.Evaluation.{redexes_of}
use Rattle.cqp_redexes.specs.Trails.{IsExprAt, opened_at, trail_of, trail_left, work_of, work_left, AreExprsAt}
use Rattle.cqp_parts.proofs.TreeLemmas.{unfolds_at}

-- nothing behind a list changes it
nothing_behind : (xs : List ℕ) → xs ++ [] ≡ xs
nothing_behind [] = refl
nothing_behind (x ∷ xs) = ap (λ ys. x ∷ ys) (nothing_behind xs)

module _ (l : Listing) where
  -- the last nodes come first
  pub trail_both : (os ps : List Open) → trail_left l (os ++ ps) ≡ trail_left l ps ++ trail_left l os
  trail_both [] ps = sym (nothing_behind (trail_left l ps))
  trail_both (o ∷ os) ps = ap (λ xs. xs ++ trail_of l o) (trail_both os ps) ∙ append_assoc (trail_left l ps) (trail_left l os) (trail_of l o)

  -- the work of two stacks is the sum of both
  pub work_both : (os ps : List Open) → work_left l (os ++ ps) ≡ work_left l os + work_left l ps
  work_both [] ps = omega arith
  work_both (o ∷ os) ps = omega (arith, work_both os ps)

  -- expressions of two stacks stand in both together
  pub both_there : (os ps : List Open) → AreExprsAt l os → AreExprsAt l ps → AreExprsAt l (os ++ ps)
  both_there [] ps a b = b
  both_there (o ∷ os) ps a b = (a.0, both_there os ps a.1 b)

  -- those of both stand in each
  pub apart_there : (os ps : List Open) → AreExprsAt l (os ++ ps) → AreExprsAt l os × AreExprsAt l ps
  apart_there [] ps a = (tt, a)
  apart_there (o ∷ os) ps a = let later = apart_there os ps a.1 in ((a.0, later.0), later.1)

  -- an expression has a node
  pub some_node : (e : Expr) → 0 < expr_size e
  some_node (slot s) = omega arith
  some_node (sig e) = omega arith
  some_node (add e f) = omega arith
  some_node (apply qs e) = omega arith
  some_node (measure qs) = omega arith

  module _ (n : ℕ) (there : IsExprAt l n) where
    -- opening a node finds what it stands for, with less work, among expressions
    abbrev Steps : Node → Type 0
    Steps x =
        (trail_left l (opened_at n x) ≡ redexes_of n (expr_at l n)) × (work_left l (opened_at n x) < 2 * expr_size (expr_at l n)) × AreExprsAt l (opened_at n x)

    -- a node without redexes opens nothing
    leaf : (e : Expr) → expr_at l n ≡ e → redexes_of n e ≡ [] → ([] ≡ redexes_of n (expr_at l n)) × (0 < 2 * expr_size (expr_at l n)) × Unit {0}
    leaf e h k = (sym (ap (redexes_of n) h ∙ k), omega (arith, some_node (expr_at l n)), tt)

    -- what stands there is an expression
    not_process : (t : Term) → term_at l n ≡ t → expr (as_expr t) ≡ t
    not_process t h = subst (λ u. expr (as_expr u) ≡ u) h (sym there.1)

    -- one node is opened
    pub step : (x : Node) → Unfolds l n x → x ≡ term_node n (term_at l n) → Steps x
    step (node.Sig e) u h =
        let is : expr_at l n ≡ sig (expr_at l e) = ap as_expr u.tree in
        let at : e ≡ n + 1 = let both : node.Sig e ≡ node.Sig (n + 1) = h ∙ ap (term_node n) u.tree in cc both in
        let size : expr_size (expr_at l n) ≡ 1 + expr_size (expr_at l e) = ap expr_size is in (
          ap (λ k. redexes_of k (expr_at l e) ++ n ∷ []) at ∙ sym (ap (redexes_of n) is),
          omega (arith, size),
          (there, ((u.exprs.0.within, u.exprs.0.is), tt)),
        )
    step (node.Apply qs e) u h =
        let is : expr_at l n ≡ apply (map named qs) (expr_at l e) = ap as_expr u.tree in
        let at : e ≡ n + 1 = let both : node.Apply qs e ≡ term_node n (expr (apply (map named qs) (expr_at l e))) = h ∙ ap (term_node n) u.tree in cc both in
        let size : expr_size (expr_at l n) ≡ 1 + expr_size (expr_at l e) = ap expr_size is in (
          ap (λ k. redexes_of k (expr_at l e) ++ n ∷ []) at ∙ sym (ap (redexes_of n) is),
          omega (arith, size),
          (there, ((u.exprs.0.within, u.exprs.0.is), tt)),
        )
    step (node.Measure qs) u h =
        let is : expr_at l n ≡ measure (map named qs) = ap as_expr u.tree in
        let size : expr_size (expr_at l n) ≡ 1 = ap expr_size is in
        (sym (ap (redexes_of n) is), omega (arith, size), (there, tt))
    step (node.Add left right) u h =
        let is : expr_at l n ≡ add (expr_at l left) (expr_at l right) = ap as_expr u.tree in
        let both : node.Add left right ≡ node.Add (n + 1) (n + 1 + expr_size (expr_at l left)) = h ∙ ap (term_node n) u.tree in
        let first : left ≡ n + 1 = cc both in
        let second : right ≡ n + 1 + expr_size (expr_at l left) = cc both in
        let size : expr_size (expr_at l n) ≡ 1 + expr_size (expr_at l left) + expr_size (expr_at l right) = ap expr_size is in (
          append_assoc (redexes_of left (expr_at l left)) (redexes_of right (expr_at l right)) (n ∷ [])
              ∙ (ap₂ (λ j k. redexes_of j (expr_at l left) ++ (redexes_of k (expr_at l right) ++ n ∷ [])) first second ∙ sym (ap (redexes_of n) is)),
          omega (arith, size),
          (there, ((u.exprs.1.0.within, u.exprs.1.0.is), ((u.exprs.0.within, u.exprs.0.is), tt))),
        )
    step (node.Num v) u h = leaf _ (ap as_expr u.tree) refl
    step node.Unit u h = leaf _ (ap as_expr u.tree) refl
    step (node.Name y) u h = leaf _ (ap as_expr u.tree) refl
    step (node.Gate o) u h = leaf _ (ap as_expr u.tree) refl
    step node.Nil u h = absurd (cc (not_process _ u.tree))
    step (node.Par a b) u h = absurd (cc (not_process _ u.tree))
    step (node.New y body) u h = absurd (cc (not_process _ u.tree))
    step (node.Qbit y body) u h = absurd (cc (not_process _ u.tree))
    step (node.Act e body) u h = absurd (cc (not_process _ u.tree))
    step (node.In c ys body) u h = absurd (cc (not_process _ u.tree))
    step (node.Out c es body) u h = absurd (cc (not_process _ u.tree))
    step (node.If a b c d) u h = absurd (cc (not_process _ u.tree))

-- a node's numbers
node_numbers : (l : Listing) → IsProc l → (n : ℕ) → n < length l.nodes → node_at l n ≡ term_node n (term_at l n)
node_numbers l is n within = ⊎_elim
    (λ (t : (x : Node) × (n < length l.nodes) × (slice_get l.nodes n ≡ Some x) × (get_or l.nodes n x ≡ x)).
    let same : node_at l n ≡ t.0 = ap or_nil t.2 in same ∙ node_is l is.listed n t.0 t.2)
    (λ (t : (length l.nodes ≤ n) × (slice_get l.nodes n ≡ None)). absurd (omega (arith, t.0)))
    (slice_get_cases l.nodes n).1

module _ (l : Listing) (is : IsProc l) (old left : List Open) (o : Open) (popped : old ≡ left ++ o ∷ []) (there : AreExprsAt l old) where
  -- the rest of the stack and its last node are expressions
  ends : AreExprsAt l left × AreExprsAt l (o ∷ [])
  ends = apart_there l left (o ∷ []) (subst (AreExprsAt l) popped there)

  -- the last node is within the list
  pub node_within : o.node < length l.nodes
  node_within = ends.1.0.0

  -- the stack stands for the last node and the rest
  trail_is : trail_left l old ≡ trail_of l o ++ trail_left l left
  trail_is = ap (trail_left l) popped ∙ trail_both l left (o ∷ [])

  -- its work is theirs
  work_is : work_left l old ≡ work_left l left + (work_of l o + 0)
  work_is = ap (work_left l) popped ∙ work_both l left (o ∷ [])

  -- a node whose operands are done is put
  module _ (done : o.done ≡ true) where
    -- a node that is done stands for itself
    trail_done : trail_of l o ≡ o.node ∷ []
    trail_done = ap (λ b. if b then o.node ∷ [] else redexes_of o.node (expr_at l o.node)) done

    -- it is one piece of work
    work_done : work_of l o ≡ 1
    work_done = ap (λ b. if b then 1 else 2 * expr_size (expr_at l o.node)) done

    -- once it is put there is less work
    pub done_smaller : work_left l left < work_left l old
    done_smaller = omega (arith, work_is, work_done)

    -- the rest are expressions
    pub done_there : AreExprsAt l left
    done_there = ends.0

    -- and the redexes are the same
    pub done_told : (redexes found all : List ℕ) → found ≡ redexes ++ o.node ∷ [] → redexes ++ trail_left l old ≡ all → found ++ trail_left l left ≡ all
    done_told redexes found all f e =
        ap (λ xs. xs ++ trail_left l left) f ∙ (append_assoc redexes (o.node ∷ []) (trail_left l left)
        ∙ (ap (λ xs. redexes ++ xs) (ap (λ ys. ys ++ trail_left l left) (sym trail_done) ∙ sym trail_is) ∙ e))

  -- and another is opened
  module _ (waits : o.done ≡ false) (stack : List Open) (opened : stack ≡ left ++ opened_at o.node (node_at l o.node)) where
    -- the step of the last node
    stepped : (trail_left l (opened_at o.node (node_at l o.node)) ≡ redexes_of o.node (expr_at l o.node)) ×
        (work_left l (opened_at o.node (node_at l o.node)) < 2 * expr_size (expr_at l o.node)) × AreExprsAt l (opened_at o.node (node_at l o.node))
    stepped = step l o.node ends.1.0 (node_at l o.node) (unfolds_at l is o.node node_within) (node_numbers l is o.node node_within)

    -- a node that waits stands for its redexes
    trail_waits : trail_of l o ≡ redexes_of o.node (expr_at l o.node)
    trail_waits = ap (λ b. if b then o.node ∷ [] else redexes_of o.node (expr_at l o.node)) waits

    -- its work is twice its nodes
    work_waits : work_of l o ≡ 2 * expr_size (expr_at l o.node)
    work_waits = ap (λ b. if b then 1 else 2 * expr_size (expr_at l o.node)) waits

    -- once it is opened there is less work
    pub open_smaller : work_left l stack < work_left l old
    open_smaller =
        let after : work_left l stack ≡ work_left l left + work_left l (opened_at o.node (node_at l o.node)) =
        ap (work_left l) opened ∙ work_both l left (opened_at o.node (node_at l o.node)) in
        omega (arith, work_is, work_waits, after, stepped.1)

    -- what is opened are expressions
    pub open_there : AreExprsAt l stack
    open_there = subst (AreExprsAt l) (sym opened) (both_there l left (opened_at o.node (node_at l o.node)) ends.0 stepped.2)

    -- and the redexes are the same
    pub open_told : (redexes all : List ℕ) → redexes ++ trail_left l old ≡ all → redexes ++ trail_left l stack ≡ all
    open_told redexes all e =
        let after : trail_left l stack ≡ trail_left l (opened_at o.node (node_at l o.node)) ++ trail_left l left =
        ap (trail_left l) opened ∙ trail_both l left (opened_at o.node (node_at l o.node)) in
        ap (λ xs. redexes ++ xs) (after ∙ (ap (λ xs. xs ++ trail_left l left) (stepped.0 ∙ sym trail_waits) ∙ sym trail_is)) ∙ e
