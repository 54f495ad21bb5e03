-- The terms at the numbers of a listing are those of its process, in preorder.
use Rattle.std.proofs.Common.{◌≡◌, ℕ, zero, suc, ◌+◌, true, ◌&&◌, List, [], ◌∷◌, ◌++◌, map, length, length-append}
use Rattle.std.proofs.Common.{refl, sym, ◌∙◌, ap, ap₂, subst, arith, zero-add, slice_get, Some, None}
use Rattle.std.specs.List.{list_all, range_with_len}
use Rattle.cqp_syntax.specs.declared.node.Node.{Node}
use Rattle.cqp_syntax.specs.TypeTrees.{TypeTree}
use Rattle.cqp_syntax.specs.Trees.{Expr, slot, sig, add, apply, measure, Process, nil, par, new}
use Rattle.cqp_syntax.specs.Trees.{qbit, act, input, output, branch}
use Rattle.cqp_syntax.specs.Preorder.{expr_size, exprs_size, process_size, expr_nodes, exprs_nodes}
use Rattle.cqp_syntax.specs.Preorder.{process_nodes}
use Rattle.cqp_syntax.specs.Terms.{Term}
use Rattle.cqp_syntax.specs.Subterms.{expr_terms, exprs_terms, process_terms, term_node, nodes_of_terms}
use Rattle.cqp_syntax.specs.Binders.{binders_of}
use Rattle.cqp_syntax.specs.Scope.{is_bound, is_scoped_expr, is_scoped}
use Rattle.cqp_syntax.specs.Listing.{Listing, IsListing, type_of_name, term_at, root}
use Rattle.cqp_syntax.specs.Numbered.{IsNumbered}
use Rattle.cqp_syntax.proofs.Numbered.{AllFrom, split_from, all_front, all_back}
use Rattle.cqp_syntax.proofs.Sizes.{end_of_expr, end_of_exprs, end_of_process, length-process_nodes}
use Rattle.cqp_syntax.proofs.TermCounts.{length-expr_terms, length-exprs_terms, length-process_terms}
use Rattle.cqp_syntax.proofs.TermNodes.{process_same}
use Rattle.cqp_syntax.proofs.Tables.{Tells}
use Rattle.cqp_syntax.proofs.Bools.{both}
use Rattle.cqp_syntax.proofs.ReadsBack.{Annotates, expr_reads, process_reads}
use Rattle.cqp_syntax.proofs.Annotations.{listing_annotated}
use Rattle.cqp_syntax.proofs.Unfolding.{process_tells}

-- these terms stand at the numbers from n on
abbrev pub Stand : (ℕ → Term) → ℕ → List Term → Type 0
Stand at n [] = Unit {0}
Stand at n (t ∷ ts) = (at n ≡ t) × Stand at (n + 1) ts

-- terms behind one another
pub both_stand : (at : ℕ → Term) (n m : ℕ) (ss ts : List Term) → n + length ss ≡ m → Stand at n ss → Stand at m ts → Stand at n (ss ++ ts)
both_stand at n m [] ts e a b = let same : m ≡ n = omega arith in subst (λ k. Stand at k ts) same b
both_stand at n m (s ∷ ss) ts e a b = (a.0, both_stand at (n + 1) m ss ts (omega arith) a.1 b)

-- so they are the terms there
pub terms_there : (at : ℕ → Term) (n : ℕ) (ts : List Term) → Stand at n ts → map at (range_with_len n (length ts)) ≡ ts
terms_there at n [] a = refl
terms_there at n (t ∷ ts) a = ap₂ (λ u us. u ∷ us) a.0 (terms_there at (n + 1) ts a.1)

module _ (ty : ℕ → TypeTree) (at : ℕ → Term) where
  -- the terms at the numbers of these nodes are theirs
  abbrev Told : ℕ → List Node → Type 0
  Told n xs = AllFrom (Tells ty at) n xs

  expr_stand : (bound : List ℕ) (n : ℕ) (e : Expr) → is_scoped_expr bound e ≡ true → Told n (expr_nodes n e) → Stand at n (expr_terms e)
  expr_stand bound n (slot s) c t = (expr_reads ty at bound n (slot s) c t, tt)
  expr_stand bound n (sig e) c t = (expr_reads ty at bound n (sig e) c t, expr_stand bound (n + 1) e c t.1)
  expr_stand bound n (add e f) c t =
      let right = n + 1 + expr_size e in
      let scoped = both (is_scoped_expr bound e) (is_scoped_expr bound f) c in
      let told = split_from (Tells ty at) (n + 1) right (expr_nodes (n + 1) e) (expr_nodes right f) (end_of_expr (n + 1) e) t.1 in (
        expr_reads ty at bound n (add e f) c t,
        both_stand at (n + 1) right (expr_terms e) (expr_terms f) (ap (λ k. n + 1 + k) (length-expr_terms e))
            (expr_stand bound (n + 1) e scoped.0 told.0) (expr_stand bound right f scoped.1 told.1),
      )
  expr_stand bound n (apply qs e) c t =
      (expr_reads ty at bound n (apply qs e) c t, expr_stand bound (n + 1) e (both (list_all (is_bound bound) qs) (is_scoped_expr bound e) c).1 t.1)
  expr_stand bound n (measure qs) c t = (expr_reads ty at bound n (measure qs) c t, tt)

  exprs_stand : (bound : List ℕ) (n : ℕ) (es : List Expr) → list_all (is_scoped_expr bound) es ≡ true → Told n (exprs_nodes n es) → Stand at n (exprs_terms es)
  exprs_stand bound n [] c t = tt
  exprs_stand bound n (e ∷ es) c t =
      let next = n + expr_size e in
      let scoped = both (is_scoped_expr bound e) (list_all (is_scoped_expr bound) es) c in
      let told = split_from (Tells ty at) n next (expr_nodes n e) (exprs_nodes next es) (end_of_expr n e) t in
      both_stand at n next (expr_terms e) (exprs_terms es) (ap (λ k. n + k) (length-expr_terms e))
      (expr_stand bound n e scoped.0 told.0) (exprs_stand bound next es scoped.1 told.1)

  process_stand : (bound : List ℕ) (n : ℕ) (p : Process) → is_scoped bound p ≡ true → Annotates ty (binders_of p)
      → Told n (process_nodes n p) → Stand at n (process_terms p)
  process_stand bound n nil c a t = (process_reads ty at bound n nil c a t, tt)
  process_stand bound n (par p q) c a t =
      let right = n + 1 + process_size p in
      let scoped = both (is_scoped bound p) (is_scoped bound q) c in
      let told = split_from (Tells ty at) (n + 1) right (process_nodes (n + 1) p) (process_nodes right q) (end_of_process (n + 1) p) t.1 in (
        process_reads ty at bound n (par p q) c a t,
        both_stand at (n + 1) right (process_terms p) (process_terms q) (ap (λ k. n + 1 + k) (length-process_terms p))
            (process_stand bound (n + 1) p scoped.0 (all_front _ (binders_of p) (binders_of q) a) told.0)
            (process_stand bound right q scoped.1 (all_back _ (binders_of p) (binders_of q) a) told.1),
      )
  process_stand bound n (new b p) c a t = (process_reads ty at bound n (new b p) c a t, process_stand (b.name ∷ bound) (n + 1) p c a.1 t.1)
  process_stand bound n (qbit x p) c a t = (process_reads ty at bound n (qbit x p) c a t, process_stand (x ∷ bound) (n + 1) p c a.1 t.1)
  process_stand bound n (act e p) c a t =
      let body = n + 1 + expr_size e in
      let scoped = both (is_scoped_expr bound e) (is_scoped bound p) c in
      let told = split_from (Tells ty at) (n + 1) body (expr_nodes (n + 1) e) (process_nodes body p) (end_of_expr (n + 1) e) t.1 in (
        process_reads ty at bound n (act e p) c a t,
        both_stand at (n + 1) body (expr_terms e) (process_terms p) (ap (λ k. n + 1 + k) (length-expr_terms e))
            (expr_stand bound (n + 1) e scoped.0 told.0) (process_stand bound body p scoped.1 a told.1),
      )
  process_stand bound n (input d bs p) c a t =
      let inner = map (λ b. b.name) bs ++ bound in (
        process_reads ty at bound n (input d bs p) c a t,
        process_stand inner (n + 1) p (both (is_bound bound d) (is_scoped inner p) c).1 (all_back _ bs (binders_of p) a) t.1,
      )
  process_stand bound n (output d es p) c a t =
      let body = n + 1 + exprs_size es in
      let scoped = both (is_bound bound d && list_all (is_scoped_expr bound) es) (is_scoped bound p) c in
      let parts = both (is_bound bound d) (list_all (is_scoped_expr bound) es) scoped.0 in
      let told = split_from (Tells ty at) (n + 1) body (exprs_nodes (n + 1) es) (process_nodes body p) (end_of_exprs (n + 1) es) t.1 in (
        process_reads ty at bound n (output d es p) c a t,
        both_stand at (n + 1) body (exprs_terms es) (process_terms p) (ap (λ k. n + 1 + k) (length-exprs_terms es))
            (exprs_stand bound (n + 1) es parts.1 told.0) (process_stand bound body p scoped.1 a told.1),
      )
  process_stand bound n (branch e f p q) c a t =
      let right = n + 1 + expr_size e in
      let first = right + expr_size f in
      let other = first + process_size p in
      let bodies = process_nodes first p ++ process_nodes other q in
      let scoped = both (is_scoped_expr bound e && is_scoped_expr bound f && is_scoped bound p) (is_scoped bound q) c in
      let three = both (is_scoped_expr bound e && is_scoped_expr bound f) (is_scoped bound p) scoped.0 in
      let tested = both (is_scoped_expr bound e) (is_scoped_expr bound f) three.0 in
      let told = split_from (Tells ty at) (n + 1) right (expr_nodes (n + 1) e) (expr_nodes right f ++ bodies) (end_of_expr (n + 1) e) t.1 in
      let more = split_from (Tells ty at) right first (expr_nodes right f) bodies (end_of_expr right f) told.1 in
      let two = split_from (Tells ty at) first other (process_nodes first p) (process_nodes other q) (end_of_process first p) more.1 in
      let ends = both_stand at first other (process_terms p) (process_terms q) (ap (λ k. first + k) (length-process_terms p))
      (process_stand bound first p three.1 (all_front _ (binders_of p) (binders_of q) a) two.0)
      (process_stand bound other q scoped.1 (all_back _ (binders_of p) (binders_of q) a) two.1) in
      let rest = both_stand at right first (expr_terms f) (process_terms p ++ process_terms q) (ap (λ k. right + k) (length-expr_terms f))
      (expr_stand bound right f tested.1 more.0) ends in (
        process_reads ty at bound n (branch e f p q) c a t,
        both_stand at (n + 1) right (expr_terms e) (expr_terms f ++ (process_terms p ++ process_terms q)) (ap (λ k. n + 1 + k) (length-expr_terms e))
            (expr_stand bound (n + 1) e tested.0 told.0) rest,
      )

-- the terms of a listing stand at their numbers
pub listing_stands : (l : Listing) (p : Process) → IsListing l p → Stand (term_at l) 0 (process_terms p)
listing_stands l p is = process_stand (type_of_name l) (term_at l) [] 0 p is.scoped (listing_annotated l p is) (process_tells l p is)

-- the terms of a listing
pub listing_terms : (l : Listing) (p : Process) → IsListing l p → map (term_at l) (range_with_len 0 (length l.nodes)) ≡ process_terms p
listing_terms l p is =
    let count : length l.nodes ≡ length (process_terms p) =
    ap length is.nodes ∙ length-process_nodes 0 p ∙ sym (length-process_terms p) in
    ap (λ k. map (term_at l) (range_with_len 0 k)) count ∙ terms_there (term_at l) 0 (process_terms p) (listing_stands l p is)
