-- The k-th of a prefix's redex numbers is that of its k-th redex.
use Rattle.std.proofs.Common.{◌≡◌, ℕ, zero, suc, List, [], ◌∷◌, ◌++◌, map, ◌+◌, ◌-◌, ◌≤◌, ◌<◌, length, length-append, slice_get, Some, None, refl, sym, ap}
use Rattle.std.proofs.Common.{subst, arith, ◌∙◌, ⊎_elim}
use Rattle.std.proofs.lemmas.Bool.{cases_lt, lt-ltb, le-ltb}
use Rattle.std.proofs.lemmas.Option.{slice_get_within}
use Rattle.std.specs.List.{range_with_len}
use Rattle.cqp_syntax.specs.Trees.{Expr, slot, sig, add, apply, measure, Process, nil, par, new, qbit, act, input, output, branch}
use Rattle.cqp_syntax.specs.Preorder.{expr_size}
use Rattle.cqp_syntax.specs.Terms.{Term, process, expr}
use Rattle.cqp_syntax.specs.Subterms.{expr_terms, exprs_terms, process_terms, term_terms, term_size}
use Rattle.cqp_syntax.specs.Listing.{Listing, term_at, process_at}
use Rattle.cqp_syntax.specs.Numbered.{IsNumbered}
use Rattle.cqp_syntax.proofs.Subterms.{Stand}
use Rattle.cqp_syntax.proofs.TermCounts.{length-expr_terms}
use Rattle.cqp_cells.specs.Redex.{exprs_of}
use Rattle.cqp_syntax.specs.Measures.{expr_steps}
use Rattle.cqp_results.specs.Results.{nth_redex, count_of, nth_redex_of}
use Rattle.cqp_redexes.specs.Evaluation.{redexes_of, redexes_all, redexes_at}
use Rattle.cqp_parts.proofs.TreeLemmas.{nothing_past}

-- terms behind one another, apart
pub stand_apart : (at : ℕ → Term) (n m : ℕ) (ss ts : List Term) → n + length ss ≡ m → Stand at n (ss ++ ts) → Stand at n ss × Stand at m ts
stand_apart at n m [] ts e a = let same : n ≡ m = omega arith in (tt, subst (λ k. Stand at k ts) same a)
stand_apart at n m (s ∷ ss) ts e a = let later = stand_apart at (n + 1) m ss ts (omega arith) a.1 in ((a.0, later.0), later.1)

-- terms that are those at numbers stand there
pub stand_from : (at : ℕ → Term) (n k : ℕ) (ts : List Term) → map at (range_with_len n k) ≡ ts → Stand at n ts
stand_from at n zero ts e = subst (λ us. Stand at n us) e tt
stand_from at n (suc k) ts e = subst (λ us. Stand at n us) e (refl, stand_from at (n + 1) k (map at (range_with_len (n + 1) k)) refl)

-- an element of the first or of the second list
pub get_first : {X : Type 0} (xs ys : List X) (k : ℕ) (x : X) → slice_get xs k ≡ Some x → slice_get (xs ++ ys) k ≡ Some x
get_first [] ys k x h = let none : None ≡ Some x = h in absurd (cc none)
get_first (z ∷ xs) ys zero x h = h
get_first (z ∷ xs) ys (suc k) x h = get_first xs ys k x h

-- what is behind the first list is in the second
pub get_second : {X : Type 0} (xs ys : List X) (k j : ℕ) → length xs + j ≡ k → slice_get (xs ++ ys) k ≡ slice_get ys j
get_second [] ys k j e = let same : k ≡ j = omega arith in ap (slice_get ys) same
get_second (z ∷ xs) ys zero j e = absurd (omega arith)
get_second (z ∷ xs) ys (suc k) j e = get_second xs ys k j (omega arith)

-- as many numbers as redexes
pub length-redexes : (n : ℕ) (e : Expr) → length (redexes_of n e) ≡ expr_steps e
length-redexes n (slot s) = refl
length-redexes n (sig e) = omega (arith, length-append (redexes_of (n + 1) e) (n ∷ []), length-redexes (n + 1) e)
length-redexes n (add e f) =
    let right = n + 1 + expr_size e in
    omega (
      arith,
      length-append (redexes_of (n + 1) e) (redexes_of (n + 1 + expr_size e) f ++ n ∷ []),
      length-append (redexes_of (n + 1 + expr_size e) f)
          (n ∷ []),
      length-redexes (n + 1) e,
      length-redexes (n + 1 + expr_size e) f,
    )
length-redexes n (apply qs e) = omega (arith, length-append (redexes_of (n + 1) e) (n ∷ []), length-redexes (n + 1) e)
length-redexes n (measure qs) = refl

-- so it is of several expressions
pub length-redexes_all : (n : ℕ) (es : List Expr) → length (redexes_all n es) ≡ count_of es
length-redexes_all n [] = refl
length-redexes_all n (e ∷ es) =
    omega (arith, length-append (redexes_of n e) (redexes_all (n + expr_size e) es), length-redexes n e, length-redexes_all (n + expr_size e) es)

-- the number at place k is that of this expression
pub record IsKth (at : ℕ → Term) (numbers : List ℕ) (k : ℕ) (x : Expr) : Type 0 where
  pub number : ℕ
  pub get : slice_get numbers k ≡ Some number
  pub is : at number ≡ expr x

-- in the first or the second of two lists
in_first : (at : ℕ → Term) (xs ys : List ℕ) (k : ℕ) (x : Expr) → IsKth at xs k x → IsKth at (xs ++ ys) k x
in_first at xs ys k x h = record { number = h.number; get = get_first xs ys k h.number h.get; is = h.is }

-- so is one of the second
in_second : (at : ℕ → Term) (xs ys : List ℕ) (k j : ℕ) (x : Expr) → length xs + j ≡ k → IsKth at ys j x → IsKth at (xs ++ ys) k x
in_second at xs ys k j x e h = record { number = h.number; get = get_second xs ys k j e ∙ h.get; is = h.is }

module _ (at : ℕ → Term) where
  -- the node itself comes behind its operands' redexes
  itself : (xs : List ℕ) (n k : ℕ) (x : Expr) → length xs ≡ k → at n ≡ expr x → IsKth at (xs ++ n ∷ []) k x
  itself xs n k x e h = in_second at xs (n ∷ []) k 0 x (omega arith) (record { number = n; get = refl; is = h })

  -- the k-th number of an expression's redexes is that of its k-th redex
  kth : (n : ℕ) (e : Expr) (k : ℕ) → Stand at n (expr_terms e) → k < expr_steps e → IsKth at (redexes_of n e) k (nth_redex e k)
  kth n (slot s) k a h = absurd (omega arith)
  kth n (sig e) k a h = ⊎_elim
      (λ (t : k < expr_steps e). rw (lt-ltb k (expr_steps e) t) (in_first at (redexes_of (n + 1) e) (n ∷ []) k (nth_redex e k) (kth (n + 1) e k a.1 t)))
      (λ (t : expr_steps e ≤ k). rw (le-ltb k (expr_steps e) t) (itself (redexes_of (n + 1) e) n k (sig e) (omega (arith, length-redexes (n + 1) e)) a.0))
      (cases_lt k (expr_steps e))
  kth n (apply qs e) k a h = ⊎_elim
      (λ (t : k < expr_steps e). rw (lt-ltb k (expr_steps e) t) (in_first at (redexes_of (n + 1) e) (n ∷ []) k (nth_redex e k) (kth (n + 1) e k a.1 t)))
      (λ (t : expr_steps e ≤ k). rw (le-ltb k (expr_steps e) t) (itself (redexes_of (n + 1) e) n k (apply qs e) (omega (arith, length-redexes (n + 1) e)) a.0))
      (cases_lt k (expr_steps e))
  kth n (measure qs) k a h =
      let none : k ≡ 0 = omega arith in
      subst (λ j. IsKth at (n ∷ []) j (measure qs)) (sym none) (record { number = n; get = refl; is = a.0 })
  kth n (add e f) k a h =
      let right = n + 1 + expr_size e in
      let sides = stand_apart at (n + 1) (n + 1 + expr_size e) (expr_terms e) (expr_terms f) (ap (λ j. n + 1 + j) (length-expr_terms e)) a.1 in
      let left_count = length-redexes (n + 1) e in
      let right_count = length-redexes (n + 1 + expr_size e) f in
      ⊎_elim
      (λ (t : k < expr_steps e).
      rw (lt-ltb k (expr_steps e) t)
      (in_first at (redexes_of (n + 1) e) (redexes_of (n + 1 + expr_size e) f ++ n ∷ []) k (nth_redex e k) (kth (n + 1) e k sides.0 t)))
      (λ (t : expr_steps e ≤ k). rw (le-ltb k (expr_steps e) t) (⊎_elim
      (λ (u : k < expr_steps e + expr_steps f).
      let j = k - expr_steps e in
      rw (lt-ltb k (expr_steps e + expr_steps f) u)
      (in_second at (redexes_of (n + 1) e) (redexes_of (n + 1 + expr_size e) f ++ n ∷ []) k (k - expr_steps e) (nth_redex f (k - expr_steps e))
      (omega (arith, left_count))
      (in_first at (redexes_of (n + 1 + expr_size e) f) (n ∷ []) (k - expr_steps e) (nth_redex f (k - expr_steps e))
      (kth (n + 1 + expr_size e) f (k - expr_steps e) sides.1 (omega arith)))))
      (λ (u : expr_steps e + expr_steps f ≤ k).
      rw (le-ltb k (expr_steps e + expr_steps f) u)
      (in_second at (redexes_of (n + 1) e) (redexes_of (n + 1 + expr_size e) f ++ n ∷ []) k (k - expr_steps e) (add e f) (omega (arith, left_count))
      (itself (redexes_of (n + 1 + expr_size e) f) n (k - expr_steps e) (add e f) (omega (arith, right_count)) a.0)))
      (cases_lt k (expr_steps e + expr_steps f))))
      (cases_lt k (expr_steps e))

  -- so it is of several expressions
  pub kth_of : (n : ℕ) (es : List Expr) (k : ℕ) → Stand at n (exprs_terms es) → k < count_of es → IsKth at (redexes_all n es) k (nth_redex_of es k)
  kth_of n [] k a h = absurd (omega arith)
  kth_of n (e ∷ es) k a h =
      let next = n + expr_size e in
      let sides = stand_apart at n (n + expr_size e) (expr_terms e) (exprs_terms es) (ap (λ j. n + j) (length-expr_terms e)) a in
      ⊎_elim
      (λ (t : k < expr_steps e).
      rw (lt-ltb k (expr_steps e) t) (in_first at (redexes_of n e) (redexes_all (n + expr_size e) es) k (nth_redex e k) (kth n e k sides.0 t)))
      (λ (t : expr_steps e ≤ k).
      rw (le-ltb k (expr_steps e) t)
      (in_second at (redexes_of n e) (redexes_all (n + expr_size e) es) k (k - expr_steps e) (nth_redex_of es (k - expr_steps e))
      (omega (arith, length-redexes n e))
      (kth_of (n + expr_size e) es (k - expr_steps e) sides.1 (omega arith))))
      (cases_lt k (expr_steps e))

  -- the expressions of a prefix stand behind it
  pub exprs_stand : (n : ℕ) (p : Process) → Stand at n (process_terms p) → Stand at (n + 1) (exprs_terms (exprs_of p))
  exprs_stand n nil a = tt
  exprs_stand n (par p q) a = tt
  exprs_stand n (new b p) a = tt
  exprs_stand n (qbit x p) a = tt
  exprs_stand n (input c bs p) a = tt
  exprs_stand n (act e p) a =
      let sides = stand_apart at (n + 1) (n + 1 + length (expr_terms e)) (expr_terms e) (process_terms p) refl a.1 in one_more sides.0
    where
      one_more : Stand at (n + 1) (expr_terms e) → Stand at (n + 1) (expr_terms e ++ [])
      one_more b = b_empty (n + 1) (expr_terms e) b
        where
          b_empty : (m : ℕ) (ts : List Term) → Stand at m ts → Stand at m (ts ++ [])
          b_empty m [] b = tt
          b_empty m (t ∷ ts) b = (b.0, b_empty (m + 1) ts b.1)
  exprs_stand n (output c es p) a = (stand_apart at (n + 1) (n + 1 + length (exprs_terms es)) (exprs_terms es) (process_terms p) refl a.1).0
  exprs_stand n (branch e f p q) a =
      let first = stand_apart at (n + 1) (n + 1 + length (expr_terms e)) (expr_terms e) (expr_terms f ++ (process_terms p ++ process_terms q)) refl a.1 in
      let second =
      stand_apart at (n + 1 + length (expr_terms e)) (n + 1 + length (expr_terms e) + length (expr_terms f)) (expr_terms f)
      (process_terms p ++ process_terms q) refl first.1 in
      joined (n + 1) (expr_terms e) (expr_terms f) first.0 second.0
    where
      joined : (m : ℕ) (ss ts : List Term) → Stand at m ss → Stand at (m + length ss) ts → Stand at m (ss ++ (ts ++ []))
      joined m [] ts b c = let same : m + 0 ≡ m = omega arith in emptied m ts (subst (λ k. Stand at k ts) same c)
        where
          emptied : (k : ℕ) (us : List Term) → Stand at k us → Stand at k (us ++ [])
          emptied k [] d = tt
          emptied k (u ∷ us) d = (d.0, emptied (k + 1) us d.1)
      joined m (s ∷ ss) ts b c =
          (b.0, joined (m + 1) ss ts b.1 (let same : m + length (s ∷ ss) ≡ m + 1 + length ss = omega arith in subst (λ k. Stand at k ts) same c))

module _ (l : Listing) (numbers : IsNumbered l) where
  -- what stands at a number stands there with its parts
  pub stands_at : (n : ℕ) → n < length l.nodes → Stand (term_at l) n (term_terms (term_at l n))
  stands_at n h = stand_from (term_at l) n (term_size (term_at l n)) (term_terms (term_at l n)) (numbers.below n h)

  -- an expression stands at a number of the list
  pub within_if_expr : (n : ℕ) (e : Expr) → term_at l n ≡ expr e → n < length l.nodes
  within_if_expr n e h = ⊎_elim
      (λ (t : n < length l.nodes). t)
      (λ (t : length l.nodes ≤ n). let other : process nil ≡ expr e = sym (nothing_past l n t) ∙ h in absurd (cc other))
      (cases_lt n (length l.nodes))

  -- the k-th redex of the prefix at n
  pub kth_redex : (n k m : ℕ) → n < length l.nodes → term_at l n ≡ process (process_at l n) → slice_get (redexes_at l n) k ≡ Some m
      → (k < count_of (exprs_of (process_at l n))) × (term_at l m ≡ expr (nth_redex_of (exprs_of (process_at l n)) k))
  kth_redex n k m h is found =
      let stand = subst (λ t. Stand (term_at l) n (term_terms t)) is (stands_at n h) in
      let within : k < count_of (exprs_of (process_at l n)) =
      omega (arith, slice_get_within (redexes_at l n) k m found, length-redexes_all (n + 1) (exprs_of (process_at l n))) in
      let there = kth_of (term_at l) (n + 1) (exprs_of (process_at l n)) k (exprs_stand (term_at l) n (process_at l n) stand) within in
      let both : Some there.number ≡ Some m = sym there.get ∙ found in
      let same : there.number ≡ m = cc both in
      (within, subst (λ j. term_at l j ≡ expr (nth_redex_of (exprs_of (process_at l n)) k)) same there.is)

  -- where no number stands there are no more redexes
  pub no_redex : (n k : ℕ) → slice_get (redexes_at l n) k ≡ None → count_of (exprs_of (process_at l n)) ≤ k
  no_redex n k h = ⊎_elim
      (λ (t : k < length (redexes_at l n)). let some = there (redexes_at l n) k t in let no : None ≡ Some some.0 = sym h ∙ some.1 in absurd (cc no))
      (λ (t : length (redexes_at l n) ≤ k). omega (arith, length-redexes_all (n + 1) (exprs_of (process_at l n))))
      (cases_lt k (length (redexes_at l n)))
    where
      there : (xs : List ℕ) (j : ℕ) → j < length xs → (x : ℕ) × (slice_get xs j ≡ Some x)
      there [] j t = absurd (omega arith)
      there (x ∷ xs) zero t = (x, refl)
      there (x ∷ xs) (suc j) t = there xs j (omega arith)
