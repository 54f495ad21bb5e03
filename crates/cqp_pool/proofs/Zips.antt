-- A row of ways in is taken in, from its end.
use Rattle.std.proofs.Common.{◌≡◌, ℕ, zero, suc, ◌+◌, ◌<◌, List, [], ◌∷◌, length, take, get_or, set}
use Rattle.std.proofs.Common.{refl, sym, ap, ◌∙◌, arith}
use Rattle.std.proofs.lemmas.List.{get_or-take, get_or_default}
use Rattle.cqp_pool.proofs.Rows.{get_or-deques_in, length-deques_in}
use Rattle.cqp_pool.specs.Parts.{Reached, Owned, deques_of, deques_in, takes_in, zip_in}

-- the ways in from the place m on are taken in
abbrev pub zip_from : ℕ → List Owned → List Reached → List Owned
zip_from zero os rs = zip_in os rs
zip_from (suc m) [] rs = []
zip_from (suc m) (o ∷ os) [] = o ∷ os
zip_from (suc m) (o ∷ os) (r ∷ rs) = o ∷ zip_from m os rs

-- at the start of the walk
pub zip_from_end : (os : List Owned) (rs : List Reached) (m : ℕ) → length os ≡ m → length rs ≡ m → zip_from m os rs ≡ os
zip_from_end [] rs zero a b = refl
zip_from_end [] rs (suc m) a b = refl
zip_from_end (o ∷ os) rs zero a b = absurd (omega arith)
zip_from_end (o ∷ os) [] (suc m) a b = refl
zip_from_end (o ∷ os) (r ∷ rs) (suc m) a b = ap (λ l. o ∷ l) (zip_from_end os rs m (omega arith) (omega arith))

-- the owner that comes next in the walk hasn't changed
pub get_or-zip_from : (m : ℕ) (os : List Owned) (rs : List Reached) (d : Owned) → m < length rs → get_or (zip_from (suc m) os rs) m d ≡ get_or os m d
get_or-zip_from m [] rs d in_range = refl
get_or-zip_from m (o ∷ os) [] d in_range = refl
get_or-zip_from zero (o ∷ os) (r ∷ rs) d in_range = refl
get_or-zip_from (suc m) (o ∷ os) (r ∷ rs) d in_range = get_or-zip_from m os rs d (omega arith)

-- one step of the walk
pub set-zip_from : (m : ℕ) (os : List Owned) (rs : List Reached) (d : Owned) (e : Reached) → m < length rs → m < length os
    → set (zip_from (suc m) os rs) m (takes_in (get_or os m d) (get_or rs m e)) ≡ zip_from m os rs
set-zip_from m [] rs d e in_rows in_owns = absurd (omega arith)
set-zip_from m (o ∷ os) [] d e in_rows in_owns = absurd (omega arith)
set-zip_from zero (o ∷ os) (r ∷ rs) d e in_rows in_owns = first o r os rs
  where
    first : (o : Owned) (r : Reached) (os : List Owned) (rs : List Reached) → set (o ∷ zip_from 0 os rs) 0 (takes_in o r) ≡ zip_in (o ∷ os) (r ∷ rs)
    first o r os rs = refl
set-zip_from (suc m) (o ∷ os) (r ∷ rs) d e in_rows in_owns = ap (λ l. o ∷ l) (set-zip_from m os rs d e (omega arith) (omega arith))

-- the deque at a place is where that place's way leads
pub get_or-deques_of : (rs : List Reached) (k : ℕ) (r : Reached) → get_or (deques_of rs) k r.deque ≡ (get_or rs k r).deque
get_or-deques_of [] k r = refl
get_or-deques_of (x ∷ xs) zero r = refl
get_or-deques_of (x ∷ xs) (suc k) r = get_or-deques_of xs k r

-- there are as many deques as ways
pub length-deques_of : (rs : List Reached) → length (deques_of rs) ≡ length rs
length-deques_of [] = refl
length-deques_of (x ∷ xs) = ap suc (length-deques_of xs)

module _ {X : Type 0} where
  -- the first m of the first m + 1 are the first m
  take-take-suc : (m : ℕ) (xs : List X) → take m (take (suc m) xs) ≡ take m xs
  take-take-suc zero xs = refl
  take-take-suc (suc m) [] = refl
  take-take-suc (suc m) (x ∷ xs) = ap (λ l. x ∷ l) (take-take-suc m xs)

-- a row that leads to the deques of these owners has a way for each
pub same_length : (os : List Owned) (rs : List Reached) → deques_of rs ≡ deques_in os → length rs ≡ length os
same_length os rs lead = sym (length-deques_of rs) ∙ ap length lead ∙ length-deques_in os

module _ (os : List Owned) (rs : List Reached) (lead : deques_of rs ≡ deques_in os) (k m : ℕ) (next : m + 1 ≡ k) (in_owns : m < length os) where
  -- the place is the one before the last
  suc_is : k ≡ suc m
  suc_is = omega arith

  -- it is one of the ways
  in_rows : m < length rs
  in_rows = let same = same_length os rs lead in omega arith

  -- the last way in of the first k
  pub last_way : (row : List Reached) (r : Reached) → row ≡ take k rs → r ≡ get_or row m r → r ≡ get_or rs m r
  last_way row r left here = let lt : m < k = omega arith in here ∙ ap (λ l. get_or l m r) left ∙ get_or-take k rs m r lt

  -- the owner at the same place is as it was at the start
  pub last_owner : (owns : List Owned) (d : Owned) → owns ≡ zip_from k os rs → get_or owns m d ≡ get_or os m d
  last_owner owns d is = ap (λ l. get_or l m d) is ∙ ap (λ n. get_or (zip_from n os rs) m d) suc_is ∙ get_or-zip_from m os rs d in_rows

  -- the way in leads to that owner's deque
  pub leads_there : (owns : List Owned) (d : Owned) (r : Reached) → owns ≡ zip_from k os rs → r ≡ get_or rs m r → r.deque ≡ (get_or owns m d).deque
  leads_there owns d r is here =
      let in_ids : m < length (deques_in os) = omega (arith, length-deques_in os) in
      ap (λ (x : Reached). x.deque) here ∙ sym (get_or-deques_of rs m r) ∙ ap (λ l. get_or l m r.deque) lead
      ∙ get_or_default (deques_in os) m r.deque d.deque in_ids ∙ get_or-deques_in os m d ∙ sym (ap (λ (o : Owned). o.deque) (last_owner owns d is))

  -- the owner that takes the last way in is the next step of the walk
  pub one_way_more : (owns : List Owned) (d o : Owned) (r : Reached) → owns ≡ zip_from k os rs → r ≡ get_or rs m r → o ≡ takes_in (get_or owns m d) r
      → set owns m o ≡ zip_from m os rs
  one_way_more owns d o r is here changed =
      let o_is : o ≡ takes_in (get_or os m d) (get_or rs m r) =
      changed ∙ ap (λ x. takes_in x r) (last_owner owns d is) ∙ ap (λ x. takes_in (get_or os m d) x) here in
      ap (λ l. set l m o) is ∙ ap (λ n. set (zip_from n os rs) m o) suc_is ∙ ap (λ x. set (zip_from (suc m) os rs) m x) o_is
      ∙ set-zip_from m os rs d r in_rows in_owns

  -- the ways left are those before it
  pub one_way_less : (row row' : List Reached) → row ≡ take k rs → row' ≡ take m row → row' ≡ take m rs
  one_way_less row row' left rest = rest ∙ ap (λ l. take m l) left ∙ ap (λ n. take m (take n rs)) suc_is ∙ take-take-suc m rs
