-- One item out of a row of deques or of kept lists.
use Rattle.std.proofs.Common.{◌≡◌, ℕ, zero, suc, ◌+◌, ◌<◌, List, [], ◌∷◌, ◌++◌, All, map, length}
use Rattle.std.proofs.Common.{get_or, set, refl, ap, ◌∙◌, arith}
use Rattle.std.specs.List.{flat_map, sum_by}
use Rattle.std.proofs.lemmas.List.Sums.{sum_by-append, sum_by-cons, sum_by-set}
use Rattle.std.proofs.lemmas.List.{map-append}
use Rattle.cqp_pool.specs.Often.{AsOften, AddUp, IsWithin}
use Rattle.cqp_pool.specs.Parts.{Log, Gives}

-- a number at the end adds its weight
pub sum_by-push : (weight : ℕ → ℕ) (xs : List ℕ) (n : ℕ) → sum_by weight (xs ++ n ∷ []) ≡ sum_by weight xs + weight n
sum_by-push weight xs n = omega (arith, sum_by-append weight xs (n ∷ []), sum_by-cons weight n [])

-- lists put together weigh as much as they do one by one
pub sum_by-flat_map : {X : Type 0} (f : X → List ℕ) (weight : ℕ → ℕ) (xs : List X) → sum_by weight (flat_map f xs) ≡ sum_by (λ x. sum_by weight (f x)) xs
sum_by-flat_map f weight [] = refl
sum_by-flat_map f weight (x ∷ xs) =
    let rest = sum_by-flat_map f weight xs in
    let first = sum_by-cons (λ x. sum_by weight (f x)) x xs in
    omega (arith, sum_by-append weight (f x) (flat_map f xs))

-- the lists of all, and of one more
pub sum_by-flat_map-push : {X : Type 0} (f : X → List ℕ) (weight : ℕ → ℕ) (xs : List X) (x : X)
    → sum_by weight (flat_map f (xs ++ x ∷ [])) ≡ sum_by weight (flat_map f xs) + sum_by weight (f x)
sum_by-flat_map-push f weight xs x =
    let a = sum_by-flat_map f weight (xs ++ x ∷ []) in
    let b = sum_by-flat_map f weight xs in
    let c = sum_by-append (λ x. sum_by weight (f x)) xs (x ∷ []) in
    let d = sum_by-cons (λ x. sum_by weight (f x)) x [] in
    omega arith

module _ {X : Type 0} (pushed taken : X → List ℕ) where
  -- an entry written over by one with the same numbers changes nothing
  flat_map-set : (xs : List X) (k : ℕ) (y d : X) → pushed y ≡ pushed (get_or xs k d) → flat_map pushed (set xs k y) ≡ flat_map pushed xs
  flat_map-set [] k y d same = refl
  flat_map-set (x ∷ xs) zero y d same = ap (λ l. l ++ flat_map pushed xs) same
  flat_map-set (x ∷ xs) (suc k) y d same = ap (λ l. pushed x ++ l) (flat_map-set xs k y d same)

  -- where no number was taken more often than pushed in each, none was in all
  pub joined_within : (xs : List X) → All (λ x. IsWithin (taken x) (pushed x)) xs → IsWithin (flat_map taken xs) (flat_map pushed xs)
  joined_within [] each weight = omega arith
  joined_within (x ∷ xs) each weight =
      let first = each 0 x (omega arith) weight in
      let rest = joined_within xs (λ k d lt. each (suc k) d (omega arith)) weight in
      omega (arith, sum_by-append weight (taken x) (flat_map taken xs), sum_by-append weight (pushed x) (flat_map pushed xs))

  -- where each number was taken as often as pushed in each, it was in all
  pub joined_as_often : (xs : List X) → All (λ x. AsOften (pushed x) (taken x)) xs → AsOften (flat_map pushed xs) (flat_map taken xs)
  joined_as_often [] each weight = refl
  joined_as_often (x ∷ xs) each weight =
      let first = each 0 x (omega arith) weight in
      let rest = joined_as_often xs (λ k d lt. each (suc k) d (omega arith)) weight in
      omega (arith, sum_by-append weight (taken x) (flat_map taken xs), sum_by-append weight (pushed x) (flat_map pushed xs))

  -- one of them gives a number
  pub gives_one : (xs was : List X) (k : ℕ) (y d : X) (n : ℕ) → xs ≡ was → k < length was → pushed y ≡ pushed (get_or xs k d)
      → taken y ≡ taken (get_or xs k d) ++ n ∷ [] → All (λ x. IsWithin (taken x) (pushed x)) (set xs k y)
      → Gives n (flat_map pushed was) (flat_map taken was) (flat_map pushed (set xs k y)) (flat_map taken (set xs k y))
  gives_one xs was k y d n same in_range p t each =
      let still = flat_map-set xs k y d p ∙ ap (flat_map pushed) same in
      record {
        same = still;
        more = λ weight.
            let new = sum_by-flat_map taken weight (set xs k y) in
            let old = sum_by-flat_map taken weight was in
            let w = ap (λ l. sum_by (λ x. sum_by weight (taken x)) l) same in
            let in_range' : k < length xs = rw same in_range in
            let s = sum_by-set (λ x. sum_by weight (taken x)) xs k y d in_range' in
            let u = ap (sum_by weight) t ∙ sum_by-push weight (taken (get_or xs k d)) n in
            omega arith;
        within = λ weight. let c = joined_within (set xs k y) each weight in let q = ap (sum_by weight) still in omega arith;
      }

-- what lanes keep still adds up after an item was taken
pub adds_up_after_pop : {T : Type 0} (number : T → ℕ) (old new : Log T) (x : T) → old.items ≡ new.items ++ x ∷ [] → new.pushed ≡ old.pushed
    → new.taken ≡ old.taken ++ number x ∷ []
    → AddUp old.pushed old.taken (map number old.items) → AddUp new.pushed new.taken (map number new.items)
adds_up_after_pop number old new x items pushed taken adds weight =
    let a = adds weight in
    let i = ap (λ l. sum_by weight (map number l)) items in
    let m = ap (sum_by weight) (map-append number new.items (x ∷ [])) in
    let j = sum_by-push weight (map number new.items) (number x) in
    let p = ap (sum_by weight) pushed in
    let t = ap (sum_by weight) taken ∙ sum_by-push weight old.taken (number x) in
    omega arith
