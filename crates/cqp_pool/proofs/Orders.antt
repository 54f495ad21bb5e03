-- The lanes of one pool are put in the order of their numbers.
use Rattle.std.proofs.Common.{◌≡◌, ◌≢◌, ℕ, zero, suc, ◌+◌, ◌<◌, ◌==◌, if◌then◌else◌, List, [], ◌∷◌}
use Rattle.std.proofs.Common.{Contains, IsPermutation, map, length, get_or, swap, refl, sym, ap}
use Rattle.std.proofs.Common.{◌∙◌, arith}
use Rattle.std.specs.List.{flat_map, sum_by, range_with_len, SwappedAt}
use Rattle.std.proofs.lemmas.List.Sums.{sum_by-cons}
use Rattle.std.proofs.lemmas.List.Sorted.{sum_by-IsPermutation, All-permutation}
use Rattle.std.proofs.lemmas.List.FromFn.{length-range_with_len, get_or-range_with_len}
use Rattle.std.proofs.lemmas.Bool.Decides.{nat_tests}
use native.Mathlib.Decide.{ℕ_discrete}
use Rattle.cqp_pool.specs.Often.{AsOften}
use Rattle.cqp_pool.specs.Pools.{LaneState, IsWhole, numbers_of}
use Rattle.cqp_pool.proofs.Gives.{sum_by-flat_map}

-- one number's weight alone
abbrev mark : ℕ → ℕ → ℕ
mark n x = if x == n then 1 else 0

-- the number itself weighs 1
mark-same : (n : ℕ) → mark n n ≡ 1
mark-same n = grind (arith, nat_tests)

-- another number weighs nothing
mark-other : (n x : ℕ) → x ≢ n → mark n x ≡ 0
mark-other n x other = grind (arith, nat_tests)

-- a list in which the number stands weighs something
contained_has_weight : (n : ℕ) (xs : List ℕ) (k d : ℕ) → k < length xs → get_or xs k d ≡ n → 0 < sum_by (mark n) xs
contained_has_weight n [] k d in_range here = absurd (omega arith)
contained_has_weight n (x ∷ xs) zero d in_range here =
    let w = ap (mark n) here ∙ mark-same n in omega (arith, sum_by-cons (mark n) x xs)
contained_has_weight n (x ∷ xs) (suc k) d in_range here =
    let rest = contained_has_weight n xs k d (omega arith) here in omega (arith, sum_by-cons (mark n) x xs)

-- the number stands in a list that weighs something
contained_by_weight : (n : ℕ) (xs : List ℕ) → 0 < sum_by (mark n) xs → Contains xs n
contained_by_weight n [] some = absurd (let z : 0 < 0 = some in omega arith)
contained_by_weight n (x ∷ xs) some =
    elim (ℕ_discrete x n) [
      | yes same ↦ (0, omega arith, same)
      | no other ↦
          let rest = contained_by_weight n xs (let w = mark-other n x other in omega (arith, sum_by-cons (mark n) x xs)) in
          (suc rest.0, (let lt = rest.1 in omega arith), rest.2)
    ]

-- the sum of ones
sum_by-ones : (xs : List ℕ) → sum_by (λ _. 1) xs ≡ length xs
sum_by-ones [] = refl
sum_by-ones (x ∷ xs) = let rest = sum_by-ones xs in omega (arith, sum_by-cons (λ (_ : ℕ). 1) x xs)

-- weights after a function are weights of its results
sum_by-map : {X : Type 0} (weight : ℕ → ℕ) (f : X → ℕ) (xs : List X) → sum_by weight (map f xs) ≡ sum_by (λ x. weight (f x)) xs
sum_by-map weight f [] = refl
sum_by-map weight f (x ∷ xs) =
    let rest = sum_by-map weight f xs in
    let first = sum_by-cons (λ y. weight (f y)) x xs in
    omega (arith, sum_by-cons weight (f x) (map f xs))

-- each lane has one number
length-numbers_of : {T : Type 0} (lanes : List (LaneState T)) → length (numbers_of lanes) ≡ length lanes
length-numbers_of [] = refl
length-numbers_of (l ∷ ls) = ap suc (length-numbers_of ls)

module _ {T : Type 0} where
  -- as many lanes as deques
  pub whole_count : (lanes : List (LaneState T)) (w : IsWhole lanes) → length lanes ≡ length w.pool.deques
  whole_count lanes w =
      sym (length-numbers_of lanes) ∙ sym (sum_by-ones (numbers_of lanes)) ∙ w.numbers (λ _. 1)
      ∙ sum_by-ones (range_with_len 0 (length w.pool.deques)) ∙ length-range_with_len 0 (length w.pool.deques)

  -- each number is among theirs
  pub whole_contains : (lanes : List (LaneState T)) (w : IsWhole lanes) (k : ℕ) → k < length lanes → Contains (numbers_of lanes) k
  whole_contains lanes w k in_range =
      let n = length w.pool.deques in
      let count : length lanes ≡ n = whole_count lanes w in
      let lt : k < n = omega arith in
      let in_range' : k < length (range_with_len 0 n) = omega (arith, length-range_with_len 0 n) in
      let at : get_or (range_with_len 0 n) k 0 ≡ k = get_or-range_with_len 0 n k 0 lt ∙ omega arith in
      let some = contained_has_weight k (range_with_len 0 n) k 0 in_range' at in
      contained_by_weight k (numbers_of lanes) (let e = w.numbers (mark k) in omega arith)

  -- no lane has a number that none of them has
  pub number_absent : (lanes : List (LaneState T)) (n k : ℕ) → ((j : ℕ) (d : LaneState T) → j < length lanes → (get_or lanes j d).number ≢ n)
      → k < length (numbers_of lanes) → get_or (numbers_of lanes) k n ≡ n → ⊥
  number_absent [] n k none in_range at = omega arith
  number_absent (l ∷ ls) n zero none in_range at = none 0 l (omega arith) at
  number_absent (l ∷ ls) n (suc k) none in_range at = number_absent ls n k (λ j d lt. none (suc j) d (omega arith)) (omega arith) at

  -- two lanes that change places permute the list
  swapped_is_permutation : (lanes : List (LaneState T)) (i j : ℕ) → i < length lanes → j < length lanes → IsPermutation lanes (swap lanes i j)
  swapped_is_permutation lanes i j i_in j_in = record { moves = (i, j) ∷ []; below = (i_in, j_in, tt); is = refl }

  -- after two lanes change places the pool is still whole
  pub whole_after_swap : (lanes : List (LaneState T)) (i j : ℕ) → i < length lanes → j < length lanes → IsWhole lanes → IsWhole (swap lanes i j)
  whole_after_swap lanes i j i_in j_in w =
      let moved = swapped_is_permutation lanes i j i_in j_in in
      record {
        pool = w.pool;
        of_pool = All-permutation (λ (l : LaneState T). l.pool ≡ w.pool) lanes (swap lanes i j) moved w.of_pool;
        numbers = λ weight.
            sum_by-map weight (λ (l : LaneState T). l.number) (swap lanes i j)
            ∙ sum_by-IsPermutation (λ (l : LaneState T). weight l.number) lanes (swap lanes i j) moved
            ∙ sym (sum_by-map weight (λ (l : LaneState T). l.number) lanes) ∙ w.numbers weight;
      }

  -- and their lists have each number as often
  pub as_often_after_swap : (list : LaneState T → List ℕ) (lanes : List (LaneState T)) (i j : ℕ) → i < length lanes → j < length lanes
      → AsOften (flat_map list (swap lanes i j)) (flat_map list lanes)
  as_often_after_swap list lanes i j i_in j_in weight =
      sum_by-flat_map list weight (swap lanes i j)
      ∙ sum_by-IsPermutation (λ (l : LaneState T). sum_by weight (list l)) lanes (swap lanes i j) (swapped_is_permutation lanes i j i_in j_in)
      ∙ sym (sum_by-flat_map list weight lanes)

  -- one lane more is at its place
  pub placed_one_more : (lanes new : List (LaneState T)) (k at : ℕ) → SwappedAt lanes new k at
      → ((j : ℕ) → j < k → (d : LaneState T) → (get_or lanes j d).number ≡ j) → ((d : LaneState T) → (get_or lanes at d).number ≡ k)
      → (j : ℕ) → j < k + 1 → (d : LaneState T) → (get_or new j d).number ≡ j
  placed_one_more lanes new k at swapped placed found j lt d =
      elim (ℕ_discrete j k) [
        | yes same ↦ ap (λ (m : ℕ). (get_or new m d).number) same ∙ ap (λ (l : LaneState T). l.number) (swapped.0 d) ∙ found d ∙ sym same
        | no other ↦
            let before : j < k = omega arith in
            let mine = placed j before d in
            let elsewhere : j ≢ at = λ same. other (sym mine ∙ ap (λ (m : ℕ). (get_or lanes m d).number) same ∙ found d) in
            ap (λ (l : LaneState T). l.number) (swapped.2 j d other elsewhere) ∙ mine
      ]
