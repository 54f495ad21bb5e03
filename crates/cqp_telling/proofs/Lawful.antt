-- The norms of a measurement of a factor are lawful odds.
use Rattle.std.proofs.Common.{◌≡◌, ℕ, List, length, true, ◌==◌, ◌^◌, ◌≤◌, ◌<◌, sym, ap, subst, arith, ◌∙◌, ⊎_elim}
use Rattle.std.specs.Prelude.{pos, ◌≤ℤ◌}
use Rattle.std.specs.List.{All, range_with_len}
use Rattle.std.proofs.lemmas.Bool.{cases_lt}
use Rattle.std.proofs.lemmas.Int.{ints}
use Rattle.std.proofs.lemmas.List.{length-map}
use Rattle.std.proofs.lemmas.List.Elements.{All-map, All-weaker, filter_passes}
use Rattle.std.proofs.lemmas.List.FromFn.{length-range_with_len}
use Rattle.std.proofs.lemmas.List.Sums.{length-filter, count_by-le-length}
use Rattle.std.proofs.lemmas.Nat.{pow_below}
use Rattle.cqp_choose.specs.Odds.{IsLawful, IsLawfulOdd}
use Rattle.cqp_ring.specs.declared.root.Root.{Root}
use Rattle.cqp_ring.specs.Root.{root_total}
use Rattle.cqp_vector.specs.Group.{Group, IsGroup, state_of}
use Rattle.cqp_vector.specs.Measurement.{is_outcome, outcome_at}
use Rattle.cqp_vector.specs.State.{HasEachPlace, State, norm_of_state}
use Rattle.cqp_vector.proofs.Masks.{mask_within, outcome_norm}
use Rattle.cqp_vector.proofs.WithinLemmas.{whole_within}
use Rattle.cqp_paths.specs.Follows.{norms_of}
use Rattle.cqp_telling.proofs.ToldLists.{kept, norm_at, norms_kept, some_norms}

-- the norms of a measurement sum to the norm of the state
abbrev pub TotalLaw : Type 0
TotalLaw = (qs : List ℕ) (s : State) → HasEachPlace s → root_total (norms_of qs s) ≡ norm_of_state s

-- a power of 2 is at most a later one
power_most : (a b : ℕ) → a ≤ b → 2 ^ a ≤ 2 ^ b
power_most a b h = ⊎_elim
    (λ (z : a < b). let less = pow_below a b z in omega arith)
    (λ (z : b ≤ a). let same : a ≡ b = omega arith in subst (λ n. 2 ^ a ≤ 2 ^ n) same (omega arith))
    (cases_lt a b)

module _ (total : TotalLaw) (v : Group) (good : IsGroup v) (ps : List ℕ) where
  -- an outcome's norm isn't 0 and is at least 0 under both signs
  odd_at : (m : ℕ) → is_outcome ps (state_of v) m ≡ true → IsLawfulOdd (norm_at ps (state_of v) m)
  odd_at m e =
      let within = mask_within (λ k. outcome_at (length v.qubits) ps k == m) (2 ^ length v.qubits) v.h v.nums good.whole good.bound in
      record { above = within.at_least; turned_above = within.other_at_least; other = outcome_norm ps (state_of v) m e }

  -- so it is for each outcome
  each : All IsLawfulOdd (norms_of ps (state_of v))
  each = subst (All IsLawfulOdd) (sym (norms_kept ps (state_of v))) (
      All-map IsLawfulOdd (norm_at ps (state_of v)) (kept ps (state_of v)) (
      All-weaker (λ m. is_outcome ps (state_of v) m ≡ true) (λ m. IsLawfulOdd (norm_at ps (state_of v) m)) odd_at (kept ps (state_of v))
      (filter_passes (is_outcome ps (state_of v)) (range_with_len 0 (2 ^ length ps)))))

  -- there are at most as many norms as numbers with so many bits
  count : length ps ≤ 12 → length (norms_of ps (state_of v)) ≤ 4096
  count few =
      let one = ap length (norms_kept ps (state_of v)) ∙ length-map (kept ps (state_of v)) (norm_at ps (state_of v)) in
      let two = length-filter (is_outcome ps (state_of v)) (range_with_len 0 (2 ^ length ps)) in
      let three = count_by-le-length (is_outcome ps (state_of v)) (range_with_len 0 (2 ^ length ps)) in
      let four = length-range_with_len 0 (2 ^ length ps) in
      let five = power_most (length ps) 12 few in
      omega arith

  -- the whole part of their sum is at most 2^90
  most : (root_total (norms_of ps (state_of v))).p ≤ℤ pos (2 ^ 90)
  most =
      let own = whole_within (norm_of_state (state_of v)) v.h good.bound in
      let same = ap (λ (r : Root). r.p) (total ps (state_of v) good.whole) in
      let high = power_most v.h 90 good.limit in
      omega (arith, ints)

  -- so they are lawful odds
  pub lawful_norms : length ps ≤ 12 → IsLawful (norms_of ps (state_of v))
  lawful_norms few = record {
    fair = record {
      some = some_norms (norms_of ps (state_of v)) (λ e. good.nonzero (sym (total ps (state_of v) good.whole) ∙ e));
      each = each;
    };
    few = count few;
    total = most;
  }
