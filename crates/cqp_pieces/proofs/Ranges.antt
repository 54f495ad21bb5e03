-- Tests and functions over numbers from 0 on, in two halves.
use Rattle.std.proofs.Common.{◌≡◌, ℕ, zero, suc, ◌+◌, ◌<◌, Bool, true, false, List, [], ◌∷◌, ◌++◌, map, filter, if◌then◌else◌, refl, ap, arith, ◌∙◌, ⊎_elim}
use Rattle.std.specs.List.{range_with_len}
use Rattle.std.proofs.lemmas.Bool.{cases_Bool}
use Rattle.std.proofs.lemmas.List.{map-append}
use Rattle.std.proofs.lemmas.List.Elements.{filter-append}

-- numbers from a on are those from 0 on, moved
moved : (a b n : ℕ) → range_with_len (a + b) n ≡ map (λ k. a + k) (range_with_len b n)
moved a b zero = refl
moved a b (suc n) =
    let up : a + b + 1 ≡ a + (b + 1) = omega arith in
    let rest = ap (λ c. range_with_len c n) up ∙ moved a (b + 1) n in
    λ i. (a + b) ∷ rest i

-- one after the other
joined : (a m n : ℕ) → range_with_len a (m + n) ≡ range_with_len a m ++ range_with_len (a + m) n
joined a zero n = let none : a ≡ a + 0 = omega arith in let size : 0 + n ≡ n = omega arith in ap (range_with_len a) size ∙ ap (λ b. range_with_len b n) none
joined a (suc m) n =
    let up : suc m + n ≡ suc (m + n) = omega arith in
    let on : a + 1 + m ≡ a + suc m = omega arith in
    let rest = joined (a + 1) m n ∙ ap (λ b. range_with_len (a + 1) m ++ range_with_len b n) on in
    ap (range_with_len a) up ∙ (λ i. a ∷ rest i)

-- a range of even length is two halves
pub halved : (n m : ℕ) → m ≡ n + n → range_with_len 0 m ≡ range_with_len 0 n ++ map (λ k. n + k) (range_with_len 0 n)
halved n m e =
    let none : 0 + n ≡ n + 0 = omega arith in
    ap (range_with_len 0) e ∙ (joined 0 n n ∙ ap (λ xs. range_with_len 0 n ++ xs) (ap (λ b. range_with_len b n) none ∙ moved n 0 n))

-- functions and tests that agree on the numbers
pub same_maps : {X : Type 0} (f g : ℕ → X) (a n : ℕ) → ((k : ℕ) → k < a + n → f k ≡ g k) → map f (range_with_len a n) ≡ map g (range_with_len a n)
same_maps f g a zero h = refl
same_maps f g a (suc n) h =
    let first = h a (omega arith) in
    let rest = same_maps f g (a + 1) n (λ k t. h k (omega arith)) in
    λ i. first i ∷ rest i

-- tests that agree on them
pub same_tests : (p q : ℕ → Bool) (a n : ℕ) → ((k : ℕ) → k < a + n → p k ≡ q k) → filter p (range_with_len a n) ≡ filter q (range_with_len a n)
same_tests p q a zero h = refl
same_tests p q a (suc n) h =
    let first = h a (omega arith) in
    let rest = same_tests p q (a + 1) n (λ k t. h k (omega arith)) in
    λ i. if first i then a ∷ rest i else rest i

-- a test of what a function makes
pub filter_made : {X : Type 0} (p : X → Bool) (f : ℕ → X) (xs : List ℕ) → filter p (map f xs) ≡ map f (filter (λ k. p (f k)) xs)
filter_made p f [] = refl
filter_made p f (x ∷ xs) = ⊎_elim
    (λ (t : p (f x) ≡ true). rw t (ap (λ ys. f x ∷ ys) (filter_made p f xs)))
    (λ (t : p (f x) ≡ false). rw t (filter_made p f xs))
    (cases_Bool (p (f x)))

-- a function of what a function makes
pub map_made : {X : Type 0} (f : ℕ → X) (g : ℕ → ℕ) (xs : List ℕ) → map f (map g xs) ≡ map (λ k. f (g k)) xs
map_made f g [] = refl
map_made f g (x ∷ xs) = ap (λ ys. f (g x) ∷ ys) (map_made f g xs)

-- the numbers of both halves that pass, and what a function makes of them
pub filter_halved : (p : ℕ → Bool) (n m : ℕ) → m ≡ n + n
    → filter p (range_with_len 0 m) ≡ filter p (range_with_len 0 n) ++ map (λ k. n + k) (filter (λ k. p (n + k)) (range_with_len 0 n))
filter_halved p n m e =
    ap (filter p) (halved n m e)
    ∙ (filter-append p (range_with_len 0 n) (map (λ k. n + k) (range_with_len 0 n))
    ∙ ap (λ ys. filter p (range_with_len 0 n) ++ ys) (filter_made p (λ k. n + k) (range_with_len 0 n)))

-- what a function makes of both halves
pub map_halved : (f : ℕ → ℕ) (n m : ℕ) → m ≡ n + n → map f (range_with_len 0 m) ≡ map f (range_with_len 0 n) ++ map (λ k. f (n + k)) (range_with_len 0 n)
map_halved f n m e =
    ap (map f) (halved n m e)
    ∙ (map-append f (range_with_len 0 n) (map (λ k. n + k) (range_with_len 0 n))
    ∙ ap (λ ys. map f (range_with_len 0 n) ++ ys) (map_made f (λ k. n + k) (range_with_len 0 n)))
