-- The places with given bits of some qubits, counted.
use Rattle.std.proofs.Common.{◌≡◌, ◌⊎◌, inl, inr, ℕ, zero, suc, ◌+◌, ◌-◌, ◌*◌, ◌/◌, ◌%◌, ◌^◌, ◌<◌, ◌≤◌, List, [], ◌∷◌, length, map}
use Rattle.std.proofs.Common.{refl, sym, ap, ◌∙◌, arith, true, false, ⊎_elim}
use Rattle.std.specs.Prelude.{◌==◌, ◌&&◌, ◌||◌, not, Bool, filter, cond, if◌then◌else◌}
use Rattle.std.specs.List.{range_with_len, list_all}
use Rattle.std.proofs.Math.Nat.{mod-eq-sub-div-mul}
use Rattle.std.proofs.lemmas.Nat.{div-mul-add}
use Rattle.cqp_ring.specs.declared.amp.Amp.{Amp}
use Rattle.cqp_vector.specs.State.{amp_at}
use Rattle.cqp_vector.specs.Products.{place_with, AreBits}
use Rattle.cqp_vector.proofs.PlaceBits.{bit_is, one_longer, place_first, place_small}

-- ---- how many numbers pass a test
-- how many of n numbers from a on pass
abbrev pub passing : (ℕ → Bool) → ℕ → ℕ → ℕ
passing f a n = length (filter f (range_with_len a n))

-- one number more counts where it passes
passing_one : (b : Bool) (a : ℕ) (xs : List ℕ) → length (cond b (a ∷ xs) xs) ≡ (if b then 1 else 0) + length xs
passing_one true a xs = omega arith
passing_one false a xs = omega arith

-- so does the first of them
passing_more : (f : ℕ → Bool) (a n : ℕ) → passing f a (suc n) ≡ (if f a then 1 else 0) + passing f (a + 1) n
passing_more f a n = passing_one (f a) a (filter f (range_with_len (a + 1) n))

-- those of two stretches are added
passing_split : (f : ℕ → Bool) (m n a : ℕ) → passing f a (m + n) ≡ passing f a m + passing f (a + m) n
passing_split f zero n a =
    let none : 0 + n ≡ n = omega arith in
    let here : a ≡ a + 0 = omega arith in
    ap (passing f a) none ∙ (ap (λ t. passing f t n) here ∙ omega arith)
passing_split f (suc m) n a =
    let size : suc m + n ≡ suc (m + n) = omega arith in
    let on : a + 1 + m ≡ a + suc m = omega arith in
    let later = passing_split f m n (a + 1) ∙ ap (λ t. passing f (a + 1) m + passing f t n) on in
    ap (passing f a) size ∙ (passing_more f a (m + n) ∙ (ap (λ t. (if f a then 1 else 0) + t) later ∙ omega (arith, passing_more f a m)))

-- a stretch that is moved
passing_moved : (f : ℕ → Bool) (a n b : ℕ) → passing f (a + b) n ≡ passing (λ k. f (a + k)) b n
passing_moved f a zero b = refl
passing_moved f a (suc n) b =
    let on : a + b + 1 ≡ a + (b + 1) = omega arith in
    passing_more f (a + b) n
    ∙ (ap (λ t. (if f (a + b) then 1 else 0) + t) (ap (λ t. passing f t n) on ∙ passing_moved f a n (b + 1)) ∙ sym (passing_more (λ k. f (a + k)) b n))

-- tests that agree pass alike
passing_same : (f g : ℕ → Bool) (n a : ℕ) → ((k : ℕ) → k < a + n → f k ≡ g k) → passing f a n ≡ passing g a n
passing_same f g zero a e = refl
passing_same f g (suc n) a e =
    passing_more f a n
    ∙ (ap (λ t. (if t then 1 else 0) + passing f (a + 1) n) (e a (omega arith))
    ∙ (ap (λ t. (if g a then 1 else 0) + t) (passing_same f g n (a + 1) (λ k h. e k (omega arith))) ∙ sym (passing_more g a n)))

-- none passes where a fixed test doesn't
passing_both : (b : Bool) (f : ℕ → Bool) (n a : ℕ) → passing (λ k. b && f k) a n ≡ (if b then passing f a n else 0)
passing_both true f n a = refl
passing_both false f zero a = refl
passing_both false f (suc n) a = passing_both false f n (a + 1)

-- the number that passes stands behind those before it that pass
nth_one : (b : Bool) (a : ℕ) (g : ℕ → Amp) (xs ys : List ℕ) → amp_at (map g (cond b (a ∷ xs) xs)) (length (cond b (a ∷ ys) ys)) ≡ amp_at (map g xs) (length ys)
nth_one true a g xs ys = refl
nth_one false a g xs ys = refl

-- so at each number that passes
pub nth_passing : (f : ℕ → Bool) (g : ℕ → Amp) (n j a : ℕ) → j < n → f (a + j) ≡ true
    → amp_at (map g (filter f (range_with_len a n))) (passing f a j) ≡ g (a + j)
nth_passing f g zero j a h e = absurd (omega arith)
nth_passing f g (suc n) zero a h e =
    let here : a ≡ a + 0 = omega arith in
    ap (λ b. amp_at (map g (cond b (a ∷ filter f (range_with_len (a + 1) n)) (filter f (range_with_len (a + 1) n)))) 0) (ap f here ∙ e) ∙ ap g here
nth_passing f g (suc n) (suc j) a h e =
    let on : a + 1 + j ≡ a + suc j = omega arith in
    nth_one (f a) a g (filter f (range_with_len (a + 1) n)) (filter f (range_with_len (a + 1) j))
    ∙ (nth_passing f g n j (a + 1) (omega arith) (ap f on ∙ e) ∙ ap g on)

-- ---- given bits c of the qubits with t
module _ (t : ℕ → Bool) (c : ℕ → ℕ) (bits : AreBits c) where
  -- a bit of qubit p agrees
  abbrev pub agrees_with : ℕ → ℕ → Bool
  agrees_with p x = not (t p) || (x == c p)

  -- a place has the given bits
  abbrev pub fits : List ℕ → ℕ → Bool
  fits [] i = true
  fits (p ∷ ps) i = agrees_with p (i / 2 ^ length ps) && fits ps (i % 2 ^ length ps)

  -- the other qubits
  abbrev pub others : List ℕ → List ℕ
  others ps = filter (λ p. not (t p)) ps

  -- a first bit and the rest of a place
  fits_half : (p : ℕ) (ps : List ℕ) (x r : ℕ) → r < 2 ^ length ps → fits (p ∷ ps) (x * 2 ^ length ps + r) ≡ (agrees_with p x && fits ps r)
  fits_half p ps x r h =
      let top : (x * 2 ^ length ps + r) / 2 ^ length ps ≡ x = div-mul-add x (2 ^ length ps) r h in
      let low : (x * 2 ^ length ps + r) % 2 ^ length ps ≡ r =
      mod-eq-sub-div-mul (x * 2 ^ length ps + r) (2 ^ length ps) ∙ (ap (λ q. x * 2 ^ length ps + r - q * 2 ^ length ps) top ∙ omega arith) in
      ap (λ q. agrees_with p q && fits ps ((x * 2 ^ length ps + r) % 2 ^ length ps)) top ∙ ap (λ q. agrees_with p x && fits ps q) low

  -- the place of some bits has the given ones where each does
  pub fits_bits : (d : ℕ → ℕ) → AreBits d → (ps : List ℕ) → fits ps (place_with d ps) ≡ list_all (λ p. agrees_with p (d p)) ps
  fits_bits d small [] = refl
  fits_bits d small (p ∷ ps) =
      ap (fits (p ∷ ps)) (place_first d p ps)
      ∙ (fits_half p ps (d p) (place_with d ps) (place_small d small ps) ∙ ap (λ q. agrees_with p (d p) && q) (fits_bits d small ps))

  -- those in the first half
  low_half : (p : ℕ) (ps : List ℕ) (r : ℕ) → r ≤ 2 ^ length ps → passing (fits (p ∷ ps)) 0 r ≡ (if agrees_with p 0 then passing (fits ps) 0 r else 0)
  low_half p ps r h =
      passing_same (fits (p ∷ ps)) (λ k. agrees_with p 0 && fits ps k) r 0
      (λ k less. let same : k ≡ 0 * 2 ^ length ps + k = omega arith in ap (fits (p ∷ ps)) same ∙ fits_half p ps 0 k (omega arith))
      ∙ passing_both (agrees_with p 0) (fits ps) r 0

  -- and those in the second
  high_half : (p : ℕ) (ps : List ℕ) (r : ℕ) → r ≤ 2 ^ length ps
      → passing (λ k. fits (p ∷ ps) (2 ^ length ps + k)) 0 r ≡ (if agrees_with p 1 then passing (fits ps) 0 r else 0)
  high_half p ps r h =
      passing_same (λ k. fits (p ∷ ps) (2 ^ length ps + k)) (λ k. agrees_with p 1 && fits ps k) r 0
      (λ k less. let same : 2 ^ length ps + k ≡ 1 * 2 ^ length ps + k = omega arith in ap (fits (p ∷ ps)) same ∙ fits_half p ps 1 k (omega arith))
      ∙ passing_both (agrees_with p 1) (fits ps) r 0

  -- so those in both
  both_halves : (p : ℕ) (ps : List ℕ) (r : ℕ) → r ≤ 2 ^ length ps → passing (fits (p ∷ ps)) 0 (2 ^ length ps + r)
      ≡ (if agrees_with p 0 then passing (fits ps) 0 (2 ^ length ps) else 0) + (if agrees_with p 1 then passing (fits ps) 0 r else 0)
  both_halves p ps r h =
      let start : 0 + 2 ^ length ps ≡ 2 ^ length ps + 0 = omega arith in
      let low = low_half p ps (2 ^ length ps) (omega arith) in
      let high = ap (λ q. passing (fits (p ∷ ps)) q r) start ∙ (passing_moved (fits (p ∷ ps)) (2 ^ length ps) r 0 ∙ high_half p ps r h) in
      passing_split (fits (p ∷ ps)) (2 ^ length ps) r 0 ∙ (λ i. low i + high i)

  -- of a qubit with t one half, and else both
  halves_pass : (s : Bool) (x a : ℕ) → (x ≡ 0) ⊎ (x ≡ 1)
      → (if not s || (0 == x) then a else 0) + (if not s || (1 == x) then a else 0) ≡ (if s then a else 2 * a)
  halves_pass true x a (inl e) = rw e (omega arith)
  halves_pass true x a (inr e) = rw e (omega arith)
  halves_pass false x a e = omega arith

  -- one other qubit more makes twice as many places
  other_places_more : (s : Bool) (p : ℕ) (xs : List ℕ) → 2 ^ length (cond (not s) (p ∷ xs) xs) ≡ (if s then 2 ^ length xs else 2 * 2 ^ length xs)
  other_places_more true p xs = refl
  other_places_more false p xs = one_longer p xs

  -- there are as many places with the given bits as the others have
  pub all_fit : (ps : List ℕ) → passing (fits ps) 0 (2 ^ length ps) ≡ 2 ^ length (others ps)
  all_fit [] = refl
  all_fit (p ∷ ps) =
      let size : 2 ^ length (p ∷ ps) ≡ 2 ^ length ps + 2 ^ length ps = one_longer p ps ∙ omega arith in
      ap (passing (fits (p ∷ ps)) 0) size
      ∙ (both_halves p ps (2 ^ length ps) (omega arith)
      ∙ (halves_pass (t p) (c p) (passing (fits ps) 0 (2 ^ length ps)) (bit_is (c p) (bits p))
      ∙ (ap (λ a. if t p then a else 2 * a) (all_fit ps) ∙ sym (other_places_more (t p) p (others ps)))))

  -- a bit in front of the others' place
  other_front : (s : Bool) (p : ℕ) (xs : List ℕ) → place_with c (cond (not s) (p ∷ xs) xs) ≡ (if s then 0 else c p * 2 ^ length xs) + place_with c xs
  other_front true p xs = omega arith
  other_front false p xs = place_first c p xs

  -- nothing before the first half
  front_zero : (s : Bool) (x a y w : ℕ) → x ≡ 0 → a ≡ y → (if not s || (0 == x) then a else 0) ≡ (if s then 0 else x * w) + y
  front_zero true x a y w e f = rw e (omega (arith, f))
  front_zero false x a y w e f = rw e (omega (arith, f))

  -- before the second half stands the first, where it fits
  front_one : (s : Bool) (x a v y w : ℕ) → x ≡ 1 → a ≡ w → v ≡ y
      → (if not s || (0 == x) then a else 0) + (if not s || (1 == x) then v else 0) ≡ (if s then 0 else x * w) + y
  front_one true x a v y w e f g = rw e (omega (arith, f, g))
  front_one false x a v y w e f g = rw e (omega (arith, f, g))

  -- before the place with the given bits stand as many as the others' place tells
  pub before_place : (ps : List ℕ) → passing (fits ps) 0 (place_with c ps) ≡ place_with c (others ps)
  before_place [] = refl
  before_place (p ∷ ps) =
      let less = place_small c bits ps in
      ⊎_elim
      (λ (e : c p ≡ 0).
      let at : c p * 2 ^ length ps + place_with c ps ≡ place_with c ps = rw e (omega arith) in
      ap (passing (fits (p ∷ ps)) 0) (place_first c p ps ∙ at)
      ∙ (low_half p ps (place_with c ps) (omega arith)
      ∙ (front_zero (t p) (c p) (passing (fits ps) 0 (place_with c ps)) (place_with c (others ps)) (2 ^ length (others ps)) e (before_place ps)
      ∙ sym (other_front (t p) p (others ps)))))
      (λ (e : c p ≡ 1).
      let at : c p * 2 ^ length ps + place_with c ps ≡ 2 ^ length ps + place_with c ps = rw e (omega arith) in
      ap (passing (fits (p ∷ ps)) 0) (place_first c p ps ∙ at)
      ∙ (both_halves p ps (place_with c ps) (omega arith)
      ∙ (front_one (t p) (c p) (passing (fits ps) 0 (2 ^ length ps)) (passing (fits ps) 0 (place_with c ps)) (place_with c (others ps))
      (2 ^ length (others ps)) e (all_fit ps) (before_place ps)
      ∙ sym (other_front (t p) p (others ps)))))
      (bit_is (c p) (bits p))
