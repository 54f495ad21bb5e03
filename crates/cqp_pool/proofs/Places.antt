-- A pool stays whole while its lanes keep their places.
use Rattle.std.proofs.Common.{◌≡◌, ℕ, zero, suc, ◌<◌, List, [], ◌∷◌, length, get_or, set, refl, ap}
use Rattle.std.proofs.Common.{◌∙◌, arith}
use Rattle.std.specs.List.{sum_by}
use Rattle.std.proofs.lemmas.List.Elements.{All-set}
use Rattle.cqp_pool.specs.Pools.{LaneState, IsWhole, SamePlace, numbers_of}

module _ {T : Type 0} where
  -- lanes that keep their places keep their numbers
  numbers_of-kept : (old new : List (LaneState T)) → length new ≡ length old → ((k : ℕ) (d : LaneState T) → k < length old
      → SamePlace (get_or old k d) (get_or new k d))
      → numbers_of new ≡ numbers_of old
  numbers_of-kept [] [] same kept = refl
  numbers_of-kept [] (y ∷ ys) same kept = absurd (omega arith)
  numbers_of-kept (x ∷ xs) [] same kept = absurd (omega arith)
  numbers_of-kept (x ∷ xs) (y ∷ ys) same kept =
      let here = (kept 0 x (omega arith)).1 in
      let rest = numbers_of-kept xs ys (omega arith) (λ k d lt. kept (suc k) d (omega arith)) in
      ap (λ n. n ∷ numbers_of ys) here ∙ ap (λ l. x.number ∷ l) rest

  -- where each lane keeps its place
  pub whole_kept : (old new : List (LaneState T)) → length new ≡ length old → ((k : ℕ) (d : LaneState T) → k < length old
      → SamePlace (get_or old k d) (get_or new k d)) → IsWhole old → IsWhole new
  whole_kept old new same kept w = record {
    pool = w.pool;
    of_pool = λ k d lt. let in_old : k < length old = omega arith in (kept k d in_old).0 ∙ w.of_pool k d in_old;
    numbers = λ weight. ap (sum_by weight) (numbers_of-kept old new same kept) ∙ w.numbers weight;
  }

  -- a lane written over by one of the same number leaves the numbers as they were
  numbers_of-set : (lanes : List (LaneState T)) (k : ℕ) (y d : LaneState T) → y.number ≡ (get_or lanes k d).number
      → numbers_of (set lanes k y) ≡ numbers_of lanes
  numbers_of-set [] k y d same = refl
  numbers_of-set (x ∷ xs) zero y d same = ap (λ n. n ∷ numbers_of xs) same
  numbers_of-set (x ∷ xs) (suc k) y d same = ap (λ l. x.number ∷ l) (numbers_of-set xs k y d same)

  -- where one lane was called
  pub whole_set : (lanes : List (LaneState T)) (k : ℕ) (y d : LaneState T) → k < length lanes → SamePlace (get_or lanes k d) y → IsWhole lanes
      → IsWhole (set lanes k y)
  whole_set lanes k y d in_range same w = record {
    pool = w.pool;
    of_pool = All-set (λ (l : LaneState T). l.pool ≡ w.pool) lanes k y (same.0 ∙ w.of_pool k d in_range) w.of_pool;
    numbers = λ weight. ap (sum_by weight) (numbers_of-set lanes k y d same.1) ∙ w.numbers weight;
  }
