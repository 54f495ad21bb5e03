-- The outcomes that a distribution lists are those of the measurement.
use Rattle.std.proofs.Common.{◌≡◌, ℕ, ◌^◌, ◌<◌, List, [], ◌∷◌, map, filter, length, true, get_or, refl, sym, ap, subst, arith}
use Rattle.std.specs.List.{All, range_with_len}
use Rattle.std.proofs.lemmas.List.Elements.{All-filter, All-from_get_or, filter_passes}
use Rattle.std.proofs.lemmas.List.FromFn.{get_or-range_with_len, length-range_with_len}
use Rattle.cqp_vector.specs.State.{State}
use Rattle.cqp_vector.specs.Measurement.{is_outcome, likelihood_of}
use Rattle.cqp_paths.specs.Follows.{outcomes_of}

-- likelihoods of numbers have these numbers as outcomes
same_numbers : (qs : List ℕ) (s : State) (ms : List ℕ) → map (λ l. l.outcome) (map (likelihood_of qs s) ms) ≡ ms
same_numbers qs s [] = refl
same_numbers qs s (m ∷ ms) = ap (λ ns. m ∷ ns) (same_numbers qs s ms)

-- each number of a range is below its end
range_below : (n : ℕ) → All (λ m. m < n) (range_with_len 0 n)
range_below n = All-from_get_or (λ m. m < n) (range_with_len 0 n) 0 below
  where
    below : (i : ℕ) → i < length (range_with_len 0 n) → get_or (range_with_len 0 n) i 0 < n
    below i inside =
        let less : i < n = subst (λ k. i < k) (length-range_with_len 0 n) inside in
        let is = get_or-range_with_len 0 n i 0 less in
        omega (arith, is, less)

-- each outcome that is listed is below the count of outcomes, and has a projection that isn't 0
pub listed_outcome : (qs : List ℕ) (s : State) (i : ℕ) → i < length (outcomes_of qs s)
    → (get_or (outcomes_of qs s) i 0 < 2 ^ length qs) × (is_outcome qs s (get_or (outcomes_of qs s) i 0) ≡ true)
listed_outcome qs s i inside =
    let numbers = range_with_len 0 (2 ^ length qs) in
    let same = same_numbers qs s (filter (is_outcome qs s) numbers) in
    let less : i < length (filter (is_outcome qs s) numbers) = subst (λ ms. i < length ms) same inside in (
      subst (λ ms. get_or ms i 0 < 2 ^ length qs) (sym same)
          (All-filter (is_outcome qs s) (λ m. m < 2 ^ length qs) numbers (range_below (2 ^ length qs)) i 0 less),
      subst (λ ms. is_outcome qs s (get_or ms i 0) ≡ true) (sym same) (filter_passes (is_outcome qs s) numbers i 0 less),
    )
