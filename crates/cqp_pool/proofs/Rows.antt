-- A walk over the owners of the deques, which changes each and makes a row.
use Rattle.std.proofs.Common.{◌≡◌, ℕ, zero, suc, ◌+◌, ◌-◌, ◌<◌, ◌≤◌, List, [], ◌∷◌, ◌++◌, All, map}
use Rattle.std.proofs.Common.{length, take, get_or, set, sym, refl, ap, ◌∙◌, arith}
use Rattle.std.proofs.lemmas.List.{take_more, map-append}
use Rattle.std.proofs.lemmas.List.Elements.{All-map}
use Rattle.cqp_pool.specs.Parts.{Owned, lend, new_own, new_owns, new_reach, new_row, deques_in}
use Rattle.cqp_pool.specs.Pools.{DequeId}

module _ {X : Type 0} (f : X → X) where
  -- f of each of the first k
  abbrev pub map_first : ℕ → List X → List X
  map_first zero xs = xs
  map_first (suc k) [] = []
  map_first (suc k) (x ∷ xs) = f x ∷ map_first k xs

  -- the entry that comes next in the walk hasn't changed
  pub get_or-map_first : (k : ℕ) (xs : List X) (d : X) → get_or (map_first k xs) k d ≡ get_or xs k d
  get_or-map_first zero xs d = refl
  get_or-map_first (suc k) [] d = refl
  get_or-map_first (suc k) (x ∷ xs) d = get_or-map_first k xs d

  -- to change the entry at k is one step of the walk
  set-map_first : (k : ℕ) (xs : List X) (d : X) → k < length xs → set (map_first k xs) k (f (get_or xs k d)) ≡ map_first (suc k) xs
  set-map_first zero [] d in_range = absurd (omega arith)
  set-map_first zero (x ∷ xs) d in_range = refl
  set-map_first (suc k) [] d in_range = absurd (omega arith)
  set-map_first (suc k) (x ∷ xs) d in_range = ap (λ l. f x ∷ l) (set-map_first k xs d (omega arith))

  -- at the end of the walk
  pub map_first_all : (k : ℕ) (xs : List X) → length xs ≤ k → map_first k xs ≡ map f xs
  map_first_all zero [] end = refl
  map_first_all zero (x ∷ xs) end = absurd (omega arith)
  map_first_all (suc k) [] end = refl
  map_first_all (suc k) (x ∷ xs) end = ap (λ l. f x ∷ l) (map_first_all k xs (omega arith))

  -- one step of the walk
  pub map_first_more : (k : ℕ) (xs ys : List X) (y d : X) → ys ≡ map_first k xs → k < length xs → y ≡ f (get_or ys k d) → set ys k y ≡ map_first (k + 1) xs
  map_first_more k xs ys y d is in_range changed =
      let here : get_or ys k d ≡ get_or xs k d = ap (λ l. get_or l k d) is ∙ get_or-map_first k xs d in
      let next : suc k ≡ k + 1 = omega arith in
      ap (λ l. set l k y) is ∙ ap (λ z. set (map_first k xs) k z) (changed ∙ ap f here) ∙ set-map_first k xs d in_range ∙ ap (λ m. map_first m xs) next

-- the row grows by one way in
pub new_row_more : (ids : List DequeId) (k : ℕ) (d : DequeId) → k < length ids
    → new_row (take k ids) ++ new_reach (get_or ids k d) ∷ [] ≡ new_row (take (k + 1) ids)
new_row_more ids k d in_range = sym (ap new_row (take_more ids k d in_range) ∙ map-append new_reach (take k ids) (get_or ids k d ∷ []))

-- the deque at a place is that place's owner's
pub get_or-deques_in : (os : List Owned) (k : ℕ) (d : Owned) → get_or (deques_in os) k d.deque ≡ (get_or os k d).deque
get_or-deques_in [] k d = refl
get_or-deques_in (o ∷ os) zero d = refl
get_or-deques_in (o ∷ os) (suc k) d = get_or-deques_in os k d

-- there are as many deques as owners
pub length-deques_in : (os : List Owned) → length (deques_in os) ≡ length os
length-deques_in [] = refl
length-deques_in (o ∷ os) = ap suc (length-deques_in os)

-- each new owner has more than one part, where it was given more
pub new_owns_some : (parts : ℕ) (ids : List DequeId) → 1 < parts → All (λ (o : Owned). 1 < o.view.parts) (new_owns parts ids)
new_owns_some parts ids some_left = All-map (λ (o : Owned). 1 < o.view.parts) (λ (id : DequeId). new_own parts id) ids (λ k d lt. some_left)

-- new owners that lend a part each are new owners of one part less
pub map-lend-new_owns : (p q : ℕ) (ids : List DequeId) → p - 1 ≡ q → map lend (new_owns p ids) ≡ new_owns q ids
map-lend-new_owns p q [] less = refl
map-lend-new_owns p q (x ∷ xs) less = ap (λ z. new_own z x ∷ map lend (new_owns p xs)) less ∙ ap (λ l. new_own q x ∷ l) (map-lend-new_owns p q xs less)

-- new owners have the deques for which they were made
pub deques_in-new_owns : (p : ℕ) (ids : List DequeId) → deques_in (new_owns p ids) ≡ ids
deques_in-new_owns p [] = refl
deques_in-new_owns p (x ∷ xs) = ap (λ l. x ∷ l) (deques_in-new_owns p xs)

-- there are as many new owners as deques
pub length-new_owns : (p : ℕ) (ids : List DequeId) → length (new_owns p ids) ≡ length ids
length-new_owns p [] = refl
length-new_owns p (x ∷ xs) = ap suc (length-new_owns p xs)
