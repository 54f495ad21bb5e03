-- Subtrees nest: a node below another ends by where that one ends.
use Rattle.std.proofs.Common.{◌≡◌, ℕ, zero, suc, ◌+◌, ◌<◌, ◌≤◌, List, [], ◌∷◌, ◌++◌, map, length, append_assoc, refl, sym, ap, subst, arith}
use Rattle.std.specs.List.{range_with_len}
use Rattle.cqp_syntax.specs.Trees.{Expr, slot, sig, add, apply, measure, Process, nil, par, new, qbit, act, input, output, branch}
use Rattle.cqp_syntax.specs.Preorder.{expr_size, exprs_size, process_size}
use Rattle.cqp_syntax.specs.Terms.{Term, process, expr}
use Rattle.cqp_syntax.specs.Subterms.{expr_terms, exprs_terms, process_terms, term_terms, term_size}
use Rattle.cqp_syntax.specs.Listing.{Listing, term_at}
use Rattle.cqp_syntax.specs.Numbered.{IsNumbered}
use Rattle.cqp_syntax.specs.Ends.{end_at}
use Rattle.cqp_syntax.proofs.Bools.{at_or_after}

module _ (end : ℕ) where
  -- each of these terms, of which the first has number n, ends by the end
  abbrev FitBy : ℕ → List Term → Type 0
  FitBy n [] = Unit {0}
  FitBy n (t ∷ ts) = (n + term_size t ≤ end) × FitBy (n + 1) ts

  -- terms of two lists, before others
  two : (n : ℕ) (ss ts us : List Term) → FitBy n (ss ++ (ts ++ us)) → FitBy n ((ss ++ ts) ++ us)
  two n ss ts us f = subst (FitBy n) (sym (append_assoc ss ts us)) f

  -- the terms of an expression end where it ends
  expr_fit : (e : Expr) (n m : ℕ) (us : List Term) → n + expr_size e ≡ m → m ≤ end → FitBy m us → FitBy n (expr_terms e ++ us)
  expr_fit (slot s) n m us e h f = (omega arith, subst (λ k. FitBy k us) (sym e) f)
  expr_fit (sig g) n m us e h f = (omega arith, expr_fit g (n + 1) m us (omega arith) h f)
  expr_fit (add g k) n m us e h f =
      let right = n + 1 + expr_size g in (
        omega arith,
        two (n + 1) (expr_terms g) (expr_terms k) us
            (expr_fit g (n + 1) right (expr_terms k ++ us) refl (omega arith) (expr_fit k right m us (omega arith) h f)),
      )
  expr_fit (apply qs g) n m us e h f = (omega arith, expr_fit g (n + 1) m us (omega arith) h f)
  expr_fit (measure qs) n m us e h f = (omega arith, subst (λ k. FitBy k us) (sym e) f)

  -- those of several end where the last ends
  exprs_fit : (es : List Expr) (n m : ℕ) (us : List Term) → n + exprs_size es ≡ m → m ≤ end → FitBy m us → FitBy n (exprs_terms es ++ us)
  exprs_fit [] n m us e h f = let same : m ≡ n = omega arith in subst (λ k. FitBy k us) same f
  exprs_fit (g ∷ es) n m us e h f =
      let next = n + expr_size g in
      two n (expr_terms g) (exprs_terms es) us (expr_fit g n next (exprs_terms es ++ us) refl (omega arith) (exprs_fit es next m us (omega arith) h f))

  -- those of a process end where it ends
  process_fit : (p : Process) (n m : ℕ) (us : List Term) → n + process_size p ≡ m → m ≤ end → FitBy m us → FitBy n (process_terms p ++ us)
  process_fit nil n m us e h f = (omega arith, subst (λ k. FitBy k us) (sym e) f)
  process_fit (par p q) n m us e h f =
      let right = n + 1 + process_size p in (
        omega arith,
        two (n + 1) (process_terms p) (process_terms q) us
            (process_fit p (n + 1) right (process_terms q ++ us) refl (omega arith) (process_fit q right m us (omega arith) h f)),
      )
  process_fit (new b p) n m us e h f = (omega arith, process_fit p (n + 1) m us (omega arith) h f)
  process_fit (qbit x p) n m us e h f = (omega arith, process_fit p (n + 1) m us (omega arith) h f)
  process_fit (act g p) n m us e h f =
      let body = n + 1 + expr_size g in (
        omega arith,
        two (n + 1) (expr_terms g) (process_terms p) us
            (expr_fit g (n + 1) body (process_terms p ++ us) refl (omega arith) (process_fit p body m us (omega arith) h f)),
      )
  process_fit (input c bs p) n m us e h f = (omega arith, process_fit p (n + 1) m us (omega arith) h f)
  process_fit (output c es p) n m us e h f =
      let body = n + 1 + exprs_size es in (
        omega arith,
        two (n + 1) (exprs_terms es) (process_terms p) us
            (exprs_fit es (n + 1) body (process_terms p ++ us) refl (omega arith) (process_fit p body m us (omega arith) h f)),
      )
  process_fit (branch g k p q) n m us e h f =
      let right = n + 1 + expr_size g in
      let first = right + expr_size k in
      let other = first + process_size p in
      let ends = two first (process_terms p) (process_terms q) us
      (process_fit p first other (process_terms q ++ us) refl (omega arith) (process_fit q other m us (omega arith) h f)) in
      let more = two right (expr_terms k) (process_terms p ++ process_terms q) us
      (expr_fit k right first ((process_terms p ++ process_terms q) ++ us) refl (omega arith) ends) in (
        omega arith,
        two (n + 1) (expr_terms g) (expr_terms k ++ (process_terms p ++ process_terms q)) us
            (expr_fit g (n + 1) right ((expr_terms k ++ (process_terms p ++ process_terms q)) ++ us) refl (omega arith) more),
      )

  -- of the terms at numbers, the one at a number
  fits_at : (at : ℕ → Term) (a k : ℕ) → FitBy a (map at (range_with_len a k)) → (m : ℕ) → a ≤ m → m < a + k → m + term_size (at m) ≤ end
  fits_at at a zero f m low high = absurd (omega arith)
  fits_at at a (suc k) f m low high =
      at_or_after a m low
      (λ e. subst (λ j. j + term_size (at j) ≤ end) e f.0)
      (λ more. fits_at at (a + 1) k f.1 m more (omega arith))

-- the terms below a term end where it ends
term_fit : (t : Term) (n : ℕ) → FitBy (n + term_size t) n (term_terms t)
term_fit (process p) n =
    subst (FitBy (n + process_size p) n) (append_none (process_terms p)) (process_fit (n + process_size p) p n (n + process_size p) [] refl (omega arith) tt)
  where
    append_none : (ts : List Term) → ts ++ [] ≡ ts
    append_none [] = refl
    append_none (t ∷ ts) = ap (λ us. t ∷ us) (append_none ts)
term_fit (expr e) n = subst (FitBy (n + expr_size e) n) (append_none (expr_terms e)) (expr_fit (n + expr_size e) e n (n + expr_size e) [] refl (omega arith) tt)
  where
    append_none : (ts : List Term) → ts ++ [] ≡ ts
    append_none [] = refl
    append_none (t ∷ ts) = ap (λ us. t ∷ us) (append_none ts)

-- a node within the subtree of n ends by its end
pub nested : (l : Listing) → IsNumbered l → (n m : ℕ) → n < length l.nodes → n ≤ m → m < end_at l n → end_at l m ≤ end_at l n
nested l numbers n m within low high =
    fits_at (end_at l n) (term_at l) n (term_size (term_at l n))
    (subst (FitBy (end_at l n) n) (sym (numbers.below n within)) (term_fit (term_at l n) n)) m low high
