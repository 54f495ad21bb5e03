-- A configuration has as many parts as cells have.
use Rattle.std.proofs.Common.{◌≡◌, ℕ, zero, suc, List, [], ◌∷◌, ◌≤◌, ◌<◌, length, Option, Some, None, refl, sym, ap, arith, ◌∙◌, ⊎_elim}
use Rattle.std.proofs.lemmas.Bool.{cases_lt}
use Rattle.cqp_syntax.specs.Trees.{Process}
use Rattle.cqp_syntax.specs.Listing.{Listing}
use Rattle.cqp_cells.specs.Config.{part_at}
use Rattle.cqp_cells.specs.Config as config
use Rattle.cqp_parts.specs.declared.part.Part.{Part}
use Rattle.cqp_machine.specs.Shown.{process_in}
use Rattle.cqp_machine.specs.Sums.{sum_below}
use Rattle.cqp_telling.specs.Told.{one_if_part}
use Rattle.cqp_steps.proofs.ConfigLemmas.{AreDistinct, at_first, at_later}
use Rattle.cqp_cells.proofs.Options.{none_is_some}
use Rattle.cqp_steps.proofs.PartsHalf.{PartsStand}
use Rattle.cqp_machine.proofs.SumLemmas.{same_sum, sum_changed}

-- 1 for a process that is there
abbrev one_there : Option Process → ℕ
one_there None = 0
one_there (Some p) = 1

-- nothing, added up
nothing : (n : ℕ) → sum_below n (λ j. 0) ≡ 0
nothing zero = refl
nothing (suc n) = let before = nothing n in omega arith

-- parts with distinct numbers below n are as many as the numbers that they have
counted : (n : ℕ) (ps : List config.Part) → AreDistinct ps → ((j : ℕ) → n ≤ j → part_at j ps ≡ None)
    → length ps ≡ sum_below n (λ j. one_there (part_at j ps))
counted n [] d b = sym (nothing n)
counted n (p ∷ ps) d b =
    let first = at_first p.number p.number p.process ps refl in
    let below : p.number < n = ⊎_elim
    (λ (z : p.number < n). z)
    (λ (z : n ≤ p.number). absurd (none_is_some {x = p.process} (sym (b p.number z) ∙ first)))
    (cases_lt p.number n) in
    let later = counted n ps d.1 (λ j z. sym (at_later j p.number p.process ps (λ e. omega arith)) ∙ b j z) in
    let all = sum_changed n p.number (λ j. one_there (part_at j ps)) (λ j. one_there (part_at j (p ∷ ps))) below
    (λ j other. ap one_there (at_later j p.number p.process ps (λ e. other (sym e)))) in
    let none : one_there (part_at p.number ps) ≡ 0 = ap one_there d.0 in
    let one : one_there (part_at p.number (p ∷ ps)) ≡ 1 = ap one_there first in
    omega arith

-- a part's process is there where the part is
there_alike : (l : Listing) (x : Option Part) → one_there (process_in l x) ≡ one_if_part x
there_alike l None = refl
there_alike l (Some p) = refl

-- so are the cells
pub parts_counted : (l : Listing) (n : ℕ) (m : ℕ → Option Part) (ps : List config.Part) → PartsStand l n m ps → length ps ≡ sum_below n (λ i. one_if_part (m i))
parts_counted l n m ps s =
    counted n ps s.distinct s.below
    ∙ same_sum n (λ j. one_there (part_at j ps)) (λ i. one_if_part (m i)) (λ j t. ap one_there (s.parts j) ∙ there_alike l (m j))
