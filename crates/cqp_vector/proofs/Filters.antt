-- Numbers in a row that pass a test.
use Rattle.std.proofs.Common.{◌≡◌, ℕ, zero, suc, ◌+◌, List, [], ◌∷◌, ◌++◌, map, refl, sym, ap, ◌∙◌}
use Rattle.std.proofs.Common.{arith, true, false, zero-add}
use Rattle.std.specs.Prelude.{if◌then◌else◌, Bool, filter, cond}
use Rattle.std.specs.List.{range_with_len}
use Rattle.std.proofs.lemmas.List.{append-nil, map-append}
use Rattle.std.proofs.lemmas.List.Elements.{filter-append}
use Rattle.std.proofs.lemmas.List.FromFn.{map-range_with_len_more}

-- a range of one more ends with its last number
pub range_more : (a n : ℕ) → range_with_len a (suc n) ≡ range_with_len a n ++ (a + n) ∷ []
range_more a zero = let e : a ≡ a + 0 = omega arith in ap (λ t. t ∷ []) e
range_more a (suc n) = let e : a + 1 + n ≡ a + suc n = omega arith in ap (λ t. a ∷ t) (range_more (a + 1) n ∙ ap (λ t. range_with_len (a + 1) n ++ t ∷ []) e)

-- what a test adds at the end is added where it passes
last_one : {X : Type 0} (b : Bool) (f : ℕ → X) (m : ℕ) (xs : List X) → xs ++ map f (cond b (m ∷ []) []) ≡ (if b then xs ++ f m ∷ [] else xs)
last_one true f m xs = refl
last_one false f m xs = append-nil xs

-- one number more
pub filter_more : {X : Type 0} (f : ℕ → X) (p : ℕ → Bool) (m : ℕ)
    → map f (filter p (range_with_len 0 (m + 1))) ≡ (if p m then map f (filter p (range_with_len 0 m)) ++ f m ∷ [] else map f (filter p (range_with_len 0 m)))
filter_more f p m =
    let next : m + 1 ≡ suc m = omega arith in
    ap (λ n. map f (filter p (range_with_len 0 n))) next
    ∙ ap (λ t. map f (filter p t)) (range_more 0 m ∙ ap (λ t. range_with_len 0 m ++ t ∷ []) (zero-add m))
    ∙ ap (map f) (filter-append p (range_with_len 0 m) (m ∷ []))
    ∙ map-append f (filter p (range_with_len 0 m)) (filter p (m ∷ []))
    ∙ last_one (p m) f m (map f (filter p (range_with_len 0 m)))

-- one place more
pub one_more : {X : Type 0} (f : ℕ → X) (n : ℕ) (xs : List X) (x : X)
    → xs ≡ map f (range_with_len 0 n) → x ≡ f n → xs ++ x ∷ [] ≡ map f (range_with_len 0 (n + 1))
one_more f n xs x e h = ap (λ t. t ++ x ∷ []) e ∙ ap (λ t. map f (range_with_len 0 n) ++ t ∷ []) h ∙ sym (map-range_with_len_more f 0 n n (omega arith))
