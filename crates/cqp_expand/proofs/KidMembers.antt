-- The members of a part are its node's and those of what is left behind it.
use Rattle.std.proofs.Common.{◌≡◌, ℕ, ◌+◌, List, [], ◌∷◌, ◌++◌, length, refl, sym, ◌∙◌, ap, append_assoc, append-nil, arith, map}
use Rattle.std.specs.List.{range_with_len}
use Rattle.std.proofs.lemmas.List.{length-map, map-append}
use Rattle.cqp_syntax.specs.declared.node.Node.TheVariants as node
use Rattle.cqp_syntax.specs.Trees.{named}
use Rattle.cqp_syntax.specs.Preorder as listed
use Rattle.cqp_grammar.specs.Trees.{ExprTree, ExprTrees, number, unit, name, gate, sig, add, apply}
use Rattle.cqp_grammar.specs.Trees.{measure, no_exprs, expr_and, ProcessTree, nil, par, new, qbit, act}
use Rattle.cqp_grammar.specs.Trees.{input, output, branch, call}
use Rattle.cqp_program.specs.Listing.{param, expr_size, exprs_size, process_size}
use Rattle.cqp_expand.specs.declared.outline.Member.{Member}
use Rattle.cqp_expand.specs.declared.outline.Member.TheVariants.{Own}
use Rattle.cqp_expand.specs.Scopes.{Scope, below_all}
use Rattle.cqp_expand.specs.Expansion.{number_in, numbers_in, expr_in, exprs_in}
use Rattle.cqp_expand.specs.Faults.{Signature}
use Rattle.cqp_expand.specs.Members.{locals, texts_of, def_of, call_member, expr_members, exprs_members, members_in}
use Rattle.cqp_expand.specs.Nodes.{member_of}
use Rattle.cqp_expand.proofs.Subtrees.{Subtree, process, expr, members_of, root, bound_at, told-occ}
use Rattle.cqp_expand.proofs.SpreadExprs.{size_in}
use Rattle.cqp_expand.proofs.Kids.{Item, items, args, kids, left_members}

-- the members of both parts of a sum
both_parts : (s : Scope) (k : ℕ) (e f : ExprTree)
    → expr_members s k (add 0 e f)
    ≡ Own (node.Add (k + 1) (k + 1 + expr_size e)) ∷ (expr_members s (k + 1) e ++ expr_members s (k + 1 + expr_size e) f)
both_parts s k e f =
    let nodes = listed.expr_nodes (k + 1) (expr_in s e) in
    ap (λ m. map Own (node.Add (k + 1) (k + 1 + m) ∷ (nodes ++ listed.expr_nodes (k + 1 + m) (expr_in s f)))) (size_in s e)
    ∙ ap (λ l. Own (node.Add (k + 1) (k + 1 + expr_size e)) ∷ l) (map-append Own nodes (listed.expr_nodes (k + 1 + expr_size e) (expr_in s f)))

-- the members of expressions behind one another
one_more : (s : Scope) (k : ℕ) (e : ExprTree) (es : ExprTrees)
    → exprs_members s k (expr_and e es) ≡ expr_members s k e ++ exprs_members s (k + expr_size e) es
one_more s k e es =
    let nodes = listed.expr_nodes k (expr_in s e) in
    ap (λ m. map Own (nodes ++ listed.exprs_nodes (k + m) (exprs_in s es))) (size_in s e)
    ∙ map-append Own nodes (listed.exprs_nodes (k + expr_size e) (exprs_in s es))

-- names stand as numbers
as_numbers : (ns : List ℕ) → map listed.name_of (map named ns) ≡ ns
as_numbers [] = refl
as_numbers (n ∷ ns) = ap (λ l. n ∷ l) (as_numbers ns)

module _ (ds : List Signature) (s : Scope) where
  -- an expression binds nothing
  with_expr : (n k : ℕ) (e : ExprTree) (is : List Item) → expr_members s k e ++ left_members ds n (k + expr_size e) is ≡ left_members ds n k
      (record { scope = s; part = expr e } ∷ is)
  with_expr n k e is = let z : n ≡ n + 0 = omega arith in ap (λ m. expr_members s k e ++ left_members ds m (k + expr_size e) is) z

  -- a body that stands last
  one : (n k : ℕ) (p : ProcessTree) → members_in (texts_of ds) s n k p ≡ left_members ds n k (items s (process p ∷ []))
  one n k p = sym (append-nil (members_in (texts_of ds) s n k p))

  -- two bodies that stand last
  two : (n k : ℕ) (p q : ProcessTree)
      → members_in (texts_of ds) s n k p ++ members_in (texts_of ds) s (n + locals p) (k + process_size p) q
      ≡ left_members ds n k (items s (process p ∷ process q ∷ []))
  two n k p q = ap (λ l. members_in (texts_of ds) s n k p ++ l) (sym (append-nil (members_in (texts_of ds) s (n + locals p) (k + process_size p) q)))

  -- what an output sends, and its body
  sent : (n k : ℕ) (es : ExprTrees) (p : ProcessTree)
      → exprs_members s k es ++ members_in (texts_of ds) s n (k + exprs_size es) p ≡ left_members ds n k (items s (args es ++ process p ∷ []))
  sent n k no_exprs p = let z : k + 0 ≡ k = omega arith in ap (λ m. members_in (texts_of ds) s n m p) z ∙ one n k p
  sent n k (expr_and e es) p =
      let m = k + expr_size e in
      let j : k + (expr_size e + exprs_size es) ≡ m + exprs_size es = omega arith in
      ap (λ l. l ++ members_in (texts_of ds) s n (k + (expr_size e + exprs_size es)) p) (one_more s k e es)
      ∙ append_assoc (expr_members s k e) (exprs_members s m es) (members_in (texts_of ds) s n (k + (expr_size e + exprs_size es)) p)
      ∙ ap (λ i. expr_members s k e ++ (exprs_members s m es ++ members_in (texts_of ds) s n i p)) j ∙ ap (λ l. expr_members s k e ++ l) (sent n m es p)
      ∙ with_expr n k e (items s (args es ++ process p ∷ []))

  -- where nothing is bound
  same : (n k : ℕ) (is : List Item) → left_members ds n k is ≡ left_members ds (n + 0) k is
  same n k is = let z : n ≡ n + 0 = omega arith in ap (λ m. left_members ds m k is) z

  -- an expression that stands last
  one_expr : (k : ℕ) (e : ExprTree) → expr_members s k e ≡ expr_members s k e ++ []
  one_expr k e = sym (append-nil (expr_members s k e))

-- the members of a part are its own and those of what is left
pub members-kids : (ds : List Signature) (s : Scope) (n k : ℕ) (t : Subtree)
    → members_of ds s n k t ≡ member_of ds s n (root (k + 1) t) ∷ left_members ds (n + length (bound_at t)) (k + 1)
    (items (below_all s n (bound_at t)) (kids t))
members-kids ds s n k (process (nil at)) = refl
members-kids ds s n k (process (par at p q)) =
    let is = items s (process p ∷ process q ∷ []) in
    ap (λ l. member_of ds s n (root (k + 1) (process (par at p q))) ∷ l) (two ds s n (k + 1) p q ∙ same ds s n (k + 1) is)
members-kids ds s n k (process (new at x t p)) =
    ap (λ l. member_of ds s n (root (k + 1) (process (new at x t p))) ∷ l) (one ds (below_all s n (bound_at (process (new at x t p)))) (n + 1) (k + 1) p)
members-kids ds s n k (process (qbit at x p)) =
    ap (λ l. member_of ds s n (root (k + 1) (process (qbit at x p))) ∷ l) (one ds (below_all s n (bound_at (process (qbit at x p)))) (n + 1) (k + 1) p)
members-kids ds s n k (process (act at e p)) =
    let m = k + 1 + expr_size e in
    let is = items s (expr e ∷ process p ∷ []) in
    ap (λ l. member_of ds s n (root (k + 1) (process (act at e p))) ∷ l)
    (ap (λ l. expr_members s (k + 1) e ++ l) (one ds s n m p) ∙ with_expr ds s n (k + 1) e (items s (process p ∷ [])) ∙ same ds s n (k + 1) is)
members-kids ds s n k (process (input at c ps p)) =
    let rest = left_members ds (n + length ps) (k + 1) (items (below_all s n ps) (process p ∷ [])) in
    ap (λ l. member_at (length ps) ∷ l) (one ds (below_all s n ps) (n + length ps) (k + 1) p) ∙ ap (λ j. member_at j ∷ rest) (sym (length-map ps param))
  where
    member_at : ℕ → Member
    member_at j = Own (node.In (number_in s c.name) (range_with_len n j) (k + 1))
members-kids ds s n k (process (output at c es p)) =
    let is = items s (args es ++ process p ∷ []) in
    ap (λ l. member_of ds s n (root (k + 1) (process (output at c es p))) ∷ l) (sent ds s n (k + 1) es p ∙ same ds s n (k + 1) is)
members-kids ds s n k (process (branch at e f p q)) =
    let right = k + 1 + expr_size e in
    let first = right + expr_size f in
    let both = items s (process p ∷ process q ∷ []) in
    let three = items s (expr f ∷ process p ∷ process q ∷ []) in
    let is = items s (expr e ∷ expr f ∷ process p ∷ process q ∷ []) in
    ap (λ l. member_of ds s n (root (k + 1) (process (branch at e f p q))) ∷ l)
    (ap (λ l. expr_members s (k + 1) e ++ (expr_members s right f ++ l)) (two ds s n first p q)
    ∙ ap (λ l. expr_members s (k + 1) e ++ l) (with_expr ds s n right f both) ∙ with_expr ds s n (k + 1) e three ∙ same ds s n (k + 1) is)
members-kids ds s n k (process (call at x xs)) = ap (λ l. call_member (numbers_in s l) (def_of (texts_of ds) x) ∷ []) (sym (told-occ xs))
members-kids ds s n k (expr (number at v)) = refl
members-kids ds s n k (expr (unit at)) = refl
members-kids ds s n k (expr (name at x)) = refl
members-kids ds s n k (expr (gate at op)) = refl
members-kids ds s n k (expr (sig at e)) = ap (λ l. Own (node.Sig (k + 1)) ∷ l) (one_expr ds s (k + 1) e)
members-kids ds s n k (expr (add at e f)) =
    both_parts s k e f
    ∙ ap (λ l. Own (node.Add (k + 1) (k + 1 + expr_size e)) ∷ (expr_members s (k + 1) e ++ l)) (one_expr ds s (k + 1 + expr_size e) f)
members-kids ds s n k (expr (apply at xs e)) =
    ap (λ l. Own (node.Apply l (k + 1)) ∷ expr_members s (k + 1) e) (as_numbers (numbers_in s xs))
    ∙ ap (λ l. Own (node.Apply (numbers_in s xs) (k + 1)) ∷ l) (one_expr ds s (k + 1) e)
    ∙ ap (λ l. Own (node.Apply (numbers_in s l) (k + 1)) ∷ (expr_members s (k + 1) e ++ [])) (sym (told-occ xs))
members-kids ds s n k (expr (measure at xs)) =
    ap (λ l. Own (node.Measure l) ∷ []) (as_numbers (numbers_in s xs))
    ∙ ap (λ l. Own (node.Measure (numbers_in s l)) ∷ []) (sym (told-occ xs))
