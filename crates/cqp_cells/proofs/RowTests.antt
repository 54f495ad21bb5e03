-- What the tests of the rows say.
use Rattle.std.proofs.Common.{◌≡◌, ℕ, ◌<◌, Bool, true, false, refl, arith}
use Rattle.std.specs.Prelude.{Some, nat_lt, not}
use Rattle.std.proofs.lemmas.Bool.Decides.{nat_tests}
use Rattle.cqp_cells.specs.Moves.{provided}
use Rattle.cqp_cells.proofs.Options.{none_is_some}

-- something comes of a test only where it passes, and is what was given
pub provided_some : {X : Type 0} (b : Bool) (x y : X) → provided b x ≡ Some y → (b ≡ true) × (y ≡ x)
provided_some true x y e = (refl, cc)
provided_some false x y e = absurd (none_is_some e)

-- what is false negated is true
pub not_true : (b : Bool) → not b ≡ true → b ≡ false
not_true false h = refl
not_true true h = absurd (wrong h)
  where
    wrong : false ≡ true → ⊥
    wrong e = cc

-- numbers that pass the test of less are so
pub less_number : (x y : ℕ) → nat_lt x y ≡ true → x < y
less_number x y h = grind (arith, nat_tests)
