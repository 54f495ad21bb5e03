-- What is left of three sources together: of the shared queue, of the deques and of what lanes keep.
use Rattle.std.proofs.Common.{◌≡◌, ℕ, ◌+◌, ◌≤◌, List, ◌∷◌, ◌++◌, refl, ap, arith}
use Rattle.std.specs.List.{sum_by}
use Rattle.std.proofs.lemmas.List.Sums.{sum_by-append, sum_by-cons}
use Rattle.cqp_pool.specs.Often.{AsOften}

-- the three lists of one kind, as a weight
abbrev pub weight_of : (ℕ → ℕ) → List ℕ → List ℕ → List ℕ → ℕ
weight_of weight q o k = (sum_by weight q + sum_by weight o) + sum_by weight k

-- three lists put together weigh as much as they do one by one
pub sum_by-three : (weight : ℕ → ℕ) (q o k all : List ℕ) → (q ++ o) ++ k ≡ all → sum_by weight all ≡ weight_of weight q o k
sum_by-three weight q o k all is =
    let w = ap (sum_by weight) is in omega (arith, sum_by-append weight (q ++ o) k, sum_by-append weight q o)

module _ (qp op kp qt ot kt pushed taken : List ℕ) (ps : (qp ++ op) ++ kp ≡ pushed) (ts : (qt ++ ot) ++ kt ≡ taken) where
  -- where a number more can be taken, something is left
  pub some_left : (n : ℕ) → ((weight : ℕ → ℕ) → weight_of weight qt ot kt + weight n ≤ weight_of weight qp op kp) → AsOften pushed taken → ⊥
  some_left n more same =
      let one : ℕ → ℕ = λ _. 1 in
      let e = same one in
      let m = more one in
      let p = sum_by-three one qp op kp pushed ps in
      let t = sum_by-three one qt ot kt taken ts in
      let no : 1 ≤ 0 = omega arith in
      omega arith

  -- where the weights are the same, nothing is left
  pub nothing_left : ((weight : ℕ → ℕ) → weight_of weight qp op kp ≡ weight_of weight qt ot kt) → AsOften pushed taken
  nothing_left all weight =
      let p = sum_by-three weight qp op kp pushed ps in let t = sum_by-three weight qt ot kt taken ts in let e = all weight in omega arith

-- one number more was taken
pub taken_one_more : (q o k q' o' k' taken : List ℕ) (n : ℕ) → (q ++ o) ++ k ≡ taken
    → ((weight : ℕ → ℕ) → weight_of weight q' o' k' ≡ weight_of weight q o k + weight n) → AsOften ((q' ++ o') ++ k') (n ∷ taken)
taken_one_more q o k q' o' k' taken n is more weight =
    let a = sum_by-three weight q o k taken is in
    let b = sum_by-three weight q' o' k' ((q' ++ o') ++ k') refl in
    let m = more weight in
    omega (arith, sum_by-cons weight n taken)
