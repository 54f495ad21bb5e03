-- Rows of products whose left numerator is 0.
use Rattle.std.proofs.Common.{◌≡◌, List, [], ◌∷◌, length, map, refl, ap, ◌∙◌, arith}
use Rattle.std.specs.Prelude.{replicate}
use Rattle.std.proofs.lemmas.Int.{ints}
use Rattle.cqp_ring.specs.declared.amp.Amp.{Amp}
use Rattle.cqp_ring.specs.Amp.{amp_product, zero_amp}
use Rattle.cqp_ring.proofs.Integers.{same_amp}

-- nothing times a numerator
zero_times : (y : Amp) → amp_product zero_amp y ≡ zero_amp
zero_times y = same_amp (omega (arith, ints)) (omega (arith, ints)) (omega (arith, ints)) (omega (arith, ints))

-- so a row of nothing is nothing
pub zero_row : (ys : List Amp) → map (amp_product zero_amp) ys ≡ replicate (length ys) zero_amp
zero_row [] = refl
zero_row (y ∷ ys) = ap (λ z. z ∷ map (amp_product zero_amp) ys) (zero_times y) ∙ ap (λ zs. zero_amp ∷ zs) (zero_row ys)
