-- The outcomes and the norms of a distribution, as lists over the numbers whose projection isn't 0.
use Rattle.std.proofs.Common.{◌≡◌, ◌≢◌, ℕ, zero, suc, List, [], ◌∷◌, map, filter, length, ◌^◌, ◌<◌, refl, sym, ap, arith, ◌∙◌}
use Rattle.std.specs.List.{range_with_len}
use Rattle.std.proofs.lemmas.List.{length-map}
use Rattle.cqp_ring.specs.declared.root.Root.{Root}
use Rattle.cqp_ring.specs.Root.{IsProportional, norm_sum, root_at, root_product, root_total, zero_root}
use Rattle.cqp_ring.proofs.OrderProducts.{root_product_comm}
use Rattle.cqp_vector.specs.Measurement.{Likelihood, is_outcome, likelihood_of, projected}
use Rattle.cqp_vector.specs.Odds.{odd_of}
use Rattle.cqp_vector.specs.State.{State}
use Rattle.cqp_engine.specs.Upcoming.{told_norms, told_outcomes}
use Rattle.cqp_paths.specs.Follows.{norms_of, outcomes_of}
use Rattle.cqp_norms.proofs.OutcomeHalf.{times_none}
use Rattle.cqp_telling.proofs.Ends.{swapped}

-- the numbers whose projection isn't 0
abbrev pub kept : List ℕ → State → List ℕ
kept qs s = filter (is_outcome qs s) (range_with_len 0 (2 ^ length qs))

-- the norm of a projection
abbrev pub norm_at : List ℕ → State → ℕ → Root
norm_at qs s m = norm_sum (projected qs m s).nums

-- odds have the outcomes of the likelihoods that they tell
pub same_outcomes : (ls : List Likelihood) → told_outcomes (map odd_of ls) ≡ map (λ l. l.outcome) ls
same_outcomes [] = refl
same_outcomes (l ∷ ls) = ap (λ ms. l.outcome ∷ ms) (same_outcomes ls)

-- and their norms
pub same_norms : (ls : List Likelihood) → told_norms (map odd_of ls) ≡ map (λ l. l.norm) ls
same_norms [] = refl
same_norms (l ∷ ls) = ap (λ rs. l.norm ∷ rs) (same_norms ls)

-- likelihoods of numbers have these numbers as outcomes
numbers_of : (qs : List ℕ) (s : State) (ms : List ℕ) → map (λ l. l.outcome) (map (likelihood_of qs s) ms) ≡ ms
numbers_of qs s [] = refl
numbers_of qs s (m ∷ ms) = ap (λ ns. m ∷ ns) (numbers_of qs s ms)

-- and the norms of their projections
norms_at : (qs : List ℕ) (s : State) (ms : List ℕ) → map (λ l. l.norm) (map (likelihood_of qs s) ms) ≡ map (norm_at qs s) ms
norms_at qs s [] = refl
norms_at qs s (m ∷ ms) = ap (λ rs. norm_at qs s m ∷ rs) (norms_at qs s ms)

-- so the outcomes of a measurement are the numbers that were kept
pub outcomes_kept : (qs : List ℕ) (s : State) → outcomes_of qs s ≡ kept qs s
outcomes_kept qs s = numbers_of qs s (kept qs s)

-- and its norms are those of their projections
pub norms_kept : (qs : List ℕ) (s : State) → norms_of qs s ≡ map (norm_at qs s) (kept qs s)
norms_kept qs s = norms_at qs s (kept qs s)

-- norms that are each k times another make that list times k
pub times_each : (k : Root) (f g : ℕ → Root) → ((m : ℕ) → f m ≡ root_product k (g m)) → (ms : List ℕ)
    → map f ms ≡ map (root_product k) (map g ms)
times_each k f g e [] = refl
times_each k f g e (m ∷ ms) = rw (e m, times_each k f g e ms) refl

-- a norm of a list times k
times_at : (k : Root) (xs : List Root) (i : ℕ) → root_at (map (root_product k) xs) i ≡ root_product k (root_at xs i)
times_at k [] i = sym (times_none k)
times_at k (x ∷ xs) zero = refl
times_at k (x ∷ xs) (suc i) = times_at k xs i

-- a list times k is in its proportion
pub proportional_to : (k : Root) (xs : List Root) → IsProportional xs (map (root_product k) xs)
proportional_to k xs = record {
  same_length = sym (length-map xs (root_product k));
  crossed = λ i j one two.
      ap (root_product (root_at xs i)) (times_at k xs j)
      ∙ (swapped (root_at xs i) k (root_at xs j)
      ∙ (ap (root_product k) (root_product_comm (root_at xs i) (root_at xs j))
      ∙ (swapped k (root_at xs j) (root_at xs i) ∙ ap (root_product (root_at xs j)) (sym (times_at k xs i)))));
}

-- norms that don't sum to 0 are some
pub some_norms : (xs : List Root) → root_total xs ≢ zero_root → 0 < length xs
some_norms [] n = absurd (n refl)
some_norms (x ∷ xs) n = omega arith
