-- Facts on tests, on options and on texts that a test compares.
use Rattle.std.proofs.Common.{◌≡◌, ℕ, [], ◌∷◌, Bool, true, false, ◌==◌, ◌&&◌, Some, None, refl, ap₂, eq-eqb, arith, bytes_eq}
use Rattle.std.proofs.lemmas.Bool.Decides.{nat_tests}
use Rattle.cqp_words.specs.Items.{Text}

-- a test that fails does not hold
pub fails : false ≡ true → ⊥
fails e = cc

-- of two tests that hold together each holds
pub both : (a b : Bool) → (a && b) ≡ true → (a ≡ true) × (b ≡ true)
both true b h = (refl, h)
both false b h = absurd (fails h)

-- numbers that pass the test of equality are equal
pub same_number : (x y : ℕ) → (x == y) ≡ true → x ≡ y
same_number x y h = grind (arith, nat_tests)

-- texts that pass the test of equality are equal
pub same_text : (xs ys : Text) → bytes_eq xs ys ≡ true → xs ≡ ys
same_text [] [] h = refl
same_text [] (y ∷ ys) h = absurd (fails h)
same_text (x ∷ xs) [] h = absurd (fails h)
same_text (x ∷ xs) (y ∷ ys) h =
    let parts = both (x == y) (bytes_eq xs ys) h in
    ap₂ (λ a as_. a ∷ as_) (same_number x y parts.0) (same_text xs ys parts.1)

-- a text passes the test of equality with itself
pub same_bytes : (xs : Text) → bytes_eq xs xs ≡ true
same_bytes [] = refl
same_bytes (x ∷ xs) = rw (eq-eqb x x refl) (same_bytes xs)

-- nothing is not something
pub none_some : {X : Type 0} (x : X) → None ≡ Some x → ⊥
none_some x e = cc

-- what two equal options hold is the same
pub some_same : {X : Type 0} (x y : X) → Some x ≡ Some y → x ≡ y
some_same x y e = cc
