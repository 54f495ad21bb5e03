-- What is found and counted in lists of pairs.
use Rattle.std.proofs.Common.{◌≡◌, ◌≢◌, ◌+◌, ◌<◌, ◌≤◌, ◌||◌, ◌∷◌, ◌++◌, ◌∙◌}
use Rattle.std.proofs.Common.{ℕ, eqb, true, false, cond, List, [], Option, Some, None, refl, sym}
use Rattle.std.proofs.Common.{ap, arith, eq-eqb, ne_eqb}
use Rattle.std.proofs.lemmas.Bool.{true≢false, false≢true}
use mathlib.Core.Logic.{dite}
use native.Mathlib.Decide.{ℕ_discrete}
use Rattle.cqp_book.specs.Keys.{has, Store, find}
use Rattle.cqp_book.specs.Pairs.{count, without, put, put_all, distinct}

module _ {C : Type 0} where
  -- a key that is taken out is not found
  pub find-without_same : (k j : ℕ) (ps : List (ℕ × C)) → j ≡ k → find (without k ps) j ≡ None
  find-without_same k j [] e = refl
  find-without_same k j (p ∷ ps) e = dite (ℕ_discrete k p.0)
      (λ h. rw (eq-eqb k p.0 h) (find-without_same k j ps e))
      (λ h. rw (ne_eqb k p.0 h, ne_eqb j p.0 (λ i. h (sym e ∙ i))) (find-without_same k j ps e))

  -- other keys are found as before
  pub find-without_other : (k j : ℕ) (ps : List (ℕ × C)) → j ≢ k → find (without k ps) j ≡ find ps j
  find-without_other k j [] n = refl
  find-without_other k j (p ∷ ps) n = dite (ℕ_discrete k p.0)
      (λ h. rw (eq-eqb k p.0 h, ne_eqb j p.0 (λ i. n (i ∙ sym h))) (find-without_other k j ps n))
      (λ h. rw (ne_eqb k p.0 h) (dite (ℕ_discrete j p.0) (λ i. rw (eq-eqb j p.0 i) refl) (λ i. rw (ne_eqb j p.0 i) (find-without_other k j ps n))))

  -- a key that is put has its new cell
  pub find-put_same : (k j : ℕ) (x : Option C) (ps : List (ℕ × C)) → j ≡ k → find (put k x ps) j ≡ x
  find-put_same k j None ps e = find-without_same k j ps e
  find-put_same k j (Some c) ps e = rw (eq-eqb j k e) refl

  -- other keys have theirs
  pub find-put_other : (k j : ℕ) (x : Option C) (ps : List (ℕ × C)) → j ≢ k → find (put k x ps) j ≡ find ps j
  find-put_other k j None ps n = find-without_other k j ps n
  find-put_other k j (Some c) ps n = rw (ne_eqb j k n) (find-without_other k j ps n)

  -- each key that is put has its cell of the store
  pub find-put_all_in : (s : Store C) (ks : List ℕ) (ps : List (ℕ × C)) (j : ℕ) → has j ks ≡ true → find (put_all s ks ps) j ≡ s j
  find-put_all_in s [] ps j h = absurd (false≢true h)
  find-put_all_in s (k ∷ ks) ps j h = dite (ℕ_discrete j k)
      (λ e. find-put_same k j (s k) (put_all s ks ps) e ∙ ap s (sym e))
      (λ n. find-put_other k j (s k) (put_all s ks ps) n ∙ find-put_all_in s ks ps j (rw (ne_eqb j k n) at h))

  -- a key that isn't put has its cell of before
  pub find-put_all_out : (s : Store C) (ks : List ℕ) (ps : List (ℕ × C)) (j : ℕ) → has j ks ≡ false → find (put_all s ks ps) j ≡ find ps j
  find-put_all_out s [] ps j h = refl
  find-put_all_out s (k ∷ ks) ps j h = dite (ℕ_discrete j k)
      (λ e. absurd (true≢false (rw (eq-eqb j k e) at h)))
      (λ n. find-put_other k j (s k) (put_all s ks ps) n ∙ find-put_all_out s ks ps j (rw (ne_eqb j k n) at h))

  -- a key that is taken out is counted no more
  pub count-without_same : (k j : ℕ) (ps : List (ℕ × C)) → j ≡ k → count j (without k ps) ≡ 0
  count-without_same k j [] e = refl
  count-without_same k j (p ∷ ps) e = dite (ℕ_discrete k p.0)
      (λ h. rw (eq-eqb k p.0 h) (count-without_same k j ps e))
      (λ h. rw (ne_eqb k p.0 h, ne_eqb j p.0 (λ i. h (sym e ∙ i))) (count-without_same k j ps e))

  -- other keys are counted as before
  pub count-without_other : (k j : ℕ) (ps : List (ℕ × C)) → j ≢ k → count j (without k ps) ≡ count j ps
  count-without_other k j [] n = refl
  count-without_other k j (p ∷ ps) n = dite (ℕ_discrete k p.0)
      (λ h. rw (eq-eqb k p.0 h, ne_eqb j p.0 (λ i. n (i ∙ sym h))) (count-without_other k j ps n))
      (λ h. rw (ne_eqb k p.0 h) (ap (λ (x : ℕ). cond (eqb j p.0) (x + 1) x) (count-without_other k j ps n)))

  -- a key that is put stands once at most
  pub count-put_same : (k j : ℕ) (x : Option C) (ps : List (ℕ × C)) → j ≡ k → count j (put k x ps) ≤ 1
  count-put_same k j None ps e = rw (count-without_same k j ps e) (omega arith)
  count-put_same k j (Some c) ps e = rw (count-without_same k j ps e, eq-eqb j k e) (omega arith)

  -- other keys stand as often as before
  pub count-put_other : (k j : ℕ) (x : Option C) (ps : List (ℕ × C)) → j ≢ k → count j (put k x ps) ≡ count j ps
  count-put_other k j None ps n = count-without_other k j ps n
  count-put_other k j (Some c) ps n = rw (ne_eqb j k n) (count-without_other k j ps n)

  -- each of the keys that are put stands once at most
  pub count-put_all_in : (s : Store C) (ks : List ℕ) (ps : List (ℕ × C)) (j : ℕ) → has j ks ≡ true → count j (put_all s ks ps) ≤ 1
  count-put_all_in s [] ps j h = absurd (false≢true h)
  count-put_all_in s (k ∷ ks) ps j h = dite (ℕ_discrete j k)
      (λ e. count-put_same k j (s k) (put_all s ks ps) e)
      (λ n. rw (count-put_other k j (s k) (put_all s ks ps) n) (count-put_all_in s ks ps j (rw (ne_eqb j k n) at h)))

  -- a key that isn't put stands as often as before
  pub count-put_all_out : (s : Store C) (ks : List ℕ) (ps : List (ℕ × C)) (j : ℕ) → has j ks ≡ false → count j (put_all s ks ps) ≡ count j ps
  count-put_all_out s [] ps j h = refl
  count-put_all_out s (k ∷ ks) ps j h = dite (ℕ_discrete j k)
      (λ e. absurd (true≢false (rw (eq-eqb j k e) at h)))
      (λ n. count-put_other k j (s k) (put_all s ks ps) n ∙ count-put_all_out s ks ps j (rw (ne_eqb j k n) at h))

  -- in distinct pairs a key stands once at most
  pub count-distinct : (ps : List (ℕ × C)) (j : ℕ) → count j (distinct ps) ≤ 1
  count-distinct [] j = omega arith
  count-distinct (p ∷ ps) j = dite (ℕ_discrete j p.0)
      (λ e. rw (eq-eqb j p.0 e, count-without_same p.0 j (distinct ps) e) (omega arith))
      (λ n. rw (ne_eqb j p.0 n, count-without_other p.0 j (distinct ps) n) (count-distinct ps j))

  -- and what is found is the same
  pub find-distinct : (ps : List (ℕ × C)) (j : ℕ) → find (distinct ps) j ≡ find ps j
  find-distinct [] j = refl
  find-distinct (p ∷ ps) j = dite (ℕ_discrete j p.0)
      (λ e. rw (eq-eqb j p.0 e) refl)
      (λ n. rw (ne_eqb j p.0 n) (find-without_other p.0 j (distinct ps) n ∙ find-distinct ps j))

  -- what is found is counted
  pub find_counts : (ps : List (ℕ × C)) (k : ℕ) (c : C) → find ps k ≡ Some c → 0 < count k ps
  find_counts [] k c h = cc
  find_counts (p ∷ ps) k c h = dite (ℕ_discrete k p.0)
      (λ e. rw (eq-eqb k p.0 e) (omega arith))
      (λ n. rw (ne_eqb k p.0 n) (find_counts ps k c (rw (ne_eqb k p.0 n) at h)))

  -- what is counted is found
  pub count_finds : (ps : List (ℕ × C)) (k : ℕ) → 0 < count k ps → (c : C) × (find ps k ≡ Some c)
  count_finds [] k h = absurd (omega arith)
  count_finds (p ∷ ps) k h = dite (ℕ_discrete k p.0)
      (λ e. (p.1, rw (eq-eqb k p.0 e) refl))
      (λ n. let r = count_finds ps k (rw (ne_eqb k p.0 n) at h) in (r.0, rw (ne_eqb k p.0 n) r.1))

-- a key stands in one of the two lists
pub has-append : (j : ℕ) (xs ys : List ℕ) → has j (xs ++ ys) ≡ has j xs || has j ys
has-append j [] ys = refl
has-append j (x ∷ xs) ys = dite (ℕ_discrete j x) (λ e. rw (eq-eqb j x e) refl) (λ n. rw (ne_eqb j x n) (has-append j xs ys))
