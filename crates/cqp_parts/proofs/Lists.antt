-- Lists from a place on, and lists that are joined number by number.
use Rattle.std.proofs.Common.{◌≡◌, ℕ, zero, suc, true, false, Bool, List, [], ◌∷◌, ◌++◌, ◌+◌, ◌≤◌, ◌<◌, length, drop, take, filter, slice_index_or, slice_set}
use Rattle.std.proofs.Common.{append_assoc, refl, sym, ap, arith, ◌∙◌, ⊎_elim}
use Rattle.std.proofs.lemmas.Bool.{cases_Bool}
use Rattle.std.specs.List.{AllByRecursion, flat_map, range_with_len}

-- the element at a place comes first
pub drop_first : {X : Type 0} (xs : List X) (i : ℕ) (d : X) → i < length xs → drop i xs ≡ slice_index_or xs i d ∷ drop (i + 1) xs
drop_first [] i d h = absurd (omega arith)
drop_first (x ∷ xs) zero d h = refl
drop_first (x ∷ xs) (suc i) d h = let next : suc i + 1 ≡ suc (i + 1) = omega arith in rw next (drop_first xs i d (omega arith))

-- within a list the default doesn't matter
pub any_default : {X : Type 0} (xs : List X) (i : ℕ) (d e : X) → i < length xs → slice_index_or xs i d ≡ slice_index_or xs i e
any_default [] i d e h = absurd (omega arith)
any_default (x ∷ xs) zero d e h = refl
any_default (x ∷ xs) (suc i) d e h = any_default xs i d e (omega arith)

-- one element more is taken
pub take_step : {X : Type 0} (xs : List X) (i : ℕ) (d : X) → i < length xs → take (i + 1) xs ≡ take i xs ++ slice_index_or xs i d ∷ []
take_step [] i d h = absurd (omega arith)
take_step (x ∷ xs) zero d h = refl
take_step (x ∷ xs) (suc i) d h = let next : suc i + 1 ≡ suc (i + 1) = omega arith in rw next (ap (λ ys. x ∷ ys) (take_step xs i d (omega arith)))

-- all of a list is taken
pub take_all : {X : Type 0} (xs : List X) (n : ℕ) → length xs ≤ n → take n xs ≡ xs
take_all [] zero h = refl
take_all [] (suc n) h = refl
take_all (x ∷ xs) zero h = absurd (omega arith)
take_all (x ∷ xs) (suc n) h = ap (λ ys. x ∷ ys) (take_all xs n (omega arith))

-- an element that is put at the end of what is taken is taken last
pub take_put : {X : Type 0} (xs : List X) (k : ℕ) (b : X) → k < length xs → take (k + 1) (slice_set xs k b) ≡ take k xs ++ b ∷ []
take_put [] k b h = absurd (omega arith)
take_put (x ∷ xs) zero b h = refl
take_put (x ∷ xs) (suc k) b h = let next : suc k + 1 ≡ suc (k + 1) = omega arith in rw next (ap (λ ys. x ∷ ys) (take_put xs k b (omega arith)))

-- what is put before a place changes nothing behind it
pub drop_put : {X : Type 0} (xs : List X) (k i : ℕ) (b : X) → k < i → drop i (slice_set xs k b) ≡ drop i xs
drop_put [] k i b h = refl
drop_put (x ∷ xs) k zero b h = absurd (omega arith)
drop_put (x ∷ xs) zero (suc i) b h = refl
drop_put (x ∷ xs) (suc k) (suc i) b h = drop_put xs k i b (omega arith)

-- as many as before
pub length_put : {X : Type 0} (xs : List X) (k : ℕ) (b : X) → length (slice_set xs k b) ≡ length xs
length_put [] k b = refl
length_put (x ∷ xs) zero b = refl
length_put (x ∷ xs) (suc k) b = omega (arith, length_put xs k b)

-- what is behind a place tells the element there, and what is behind it
pub same_there : {X : Type 0} (xs ys : List X) (i : ℕ) (d : X) → i < length xs → i < length ys → drop i xs ≡ drop i ys
    → (slice_index_or xs i d ≡ slice_index_or ys i d) × (drop (i + 1) xs ≡ drop (i + 1) ys)
same_there xs ys i d h k e =
    let both : slice_index_or xs i d ∷ drop (i + 1) xs ≡ slice_index_or ys i d ∷ drop (i + 1) ys = sym (drop_first xs i d h) ∙ (e ∙ drop_first ys i d k) in
    (cc both, cc both)

-- one more that passes the test stands last
pub filter_yes : {X : Type 0} (p : X → Bool) (xs : List X) (b : X) → p b ≡ true → filter p (xs ++ b ∷ []) ≡ filter p xs ++ b ∷ []
filter_yes p [] b h = rw h refl
filter_yes p (x ∷ xs) b h = ⊎_elim
    (λ (t : p x ≡ true). rw t (ap (λ ys. x ∷ ys) (filter_yes p xs b h)))
    (λ (t : p x ≡ false). rw t (filter_yes p xs b h))
    (cases_Bool (p x))

-- one that fails the test changes nothing
pub filter_no : {X : Type 0} (p : X → Bool) (xs : List X) (b : X) → p b ≡ false → filter p (xs ++ b ∷ []) ≡ filter p xs
filter_no p [] b h = rw h refl
filter_no p (x ∷ xs) b h = ⊎_elim
    (λ (t : p x ≡ true). rw t (ap (λ ys. x ∷ ys) (filter_no p xs b h)))
    (λ (t : p x ≡ false). rw t (filter_no p xs b h))
    (cases_Bool (p x))

-- what holds of all holds at a place
pub all_at_place : {X : Type 0} (P : X → Type 0) (xs : List X) (i : ℕ) (d : X) → AllByRecursion P xs → i < length xs → P (slice_index_or xs i d)
all_at_place P [] i d a h = absurd (omega arith)
all_at_place P (x ∷ xs) zero d a h = a.0
all_at_place P (x ∷ xs) (suc i) d a h = all_at_place P xs i d a.1 (omega arith)

-- the range with one number more
pub range_more : (a n : ℕ) → range_with_len a (n + 1) ≡ range_with_len a n ++ (a + n) ∷ []
range_more a zero = let same : a ≡ a + 0 = omega arith in ap (λ k. k ∷ []) same
range_more a (suc n) =
    let next : suc n + 1 ≡ suc (n + 1) = omega arith in
    let last : a + 1 + n ≡ a + suc n = omega arith in
    rw next (ap (λ ks. a ∷ ks) (range_more (a + 1) n ∙ ap (λ k. range_with_len (a + 1) n ++ k ∷ []) last))

-- one more number joins one more list
flat_more : {X : Type 0} (f : ℕ → List X) (ks : List ℕ) (k : ℕ) → flat_map f (ks ++ k ∷ []) ≡ flat_map f ks ++ f k
flat_more f [] k = nothing_behind (f k)
  where
    nothing_behind : {Y : Type 0} (ys : List Y) → ys ++ [] ≡ ys
    nothing_behind [] = refl
    nothing_behind (y ∷ ys) = ap (λ zs. y ∷ zs) (nothing_behind ys)
flat_more f (j ∷ ks) k = ap (λ xs. f j ++ xs) (flat_more f ks k) ∙ sym (append_assoc (f j) (flat_map f ks) (f k))

-- the lists below the next number are those below this one and the one here
pub flat_step : {X : Type 0} (f : ℕ → List X) (n : ℕ) → flat_map f (range_with_len 0 (n + 1)) ≡ flat_map f (range_with_len 0 n) ++ f n
flat_step f n =
    let same : 0 + n ≡ n = omega arith in ap (flat_map f) (range_more 0 n ∙ ap (λ k. range_with_len 0 n ++ k ∷ []) same) ∙ flat_more f (range_with_len 0 n) n

-- the lists below a number stand before those below a later one
pub flat_front : {X : Type 0} (f : ℕ → List X) (n k : ℕ) → (rest : List X) × (flat_map f (range_with_len 0 (n + k)) ≡ flat_map f (range_with_len 0 n) ++ rest)
flat_front f n zero = let same : n + 0 ≡ n = omega arith in ([], ap (λ j. flat_map f (range_with_len 0 j)) same ∙ empty (flat_map f (range_with_len 0 n)))
  where
    empty : {Y : Type 0} (ys : List Y) → ys ≡ ys ++ []
    empty [] = refl
    empty (y ∷ ys) = ap (λ zs. y ∷ zs) (empty ys)
flat_front f n (suc k) =
    let same : n + suc k ≡ n + k + 1 = omega arith in
    let before = flat_front f n k in (
      before.0 ++ f (n + k),
      ap (λ j. flat_map f (range_with_len 0 j)) same
          ∙ (flat_step f (n + k) ∙ (ap (λ xs. xs ++ f (n + k)) before.1 ∙ append_assoc (flat_map f (range_with_len 0 n)) before.0 (f (n + k)))),
    )
