-- What the passes of a deque or of the shared queue know, and the rule that all of them keep.
use Rattle.std.specs.Prelude.{◌≡◌, ℕ, ◌+◌, List, [], ◌∷◌, ◌++◌}
use Rattle.std.specs.List.{sum_by}
use mathlib.Core.Option.{some}
use lib.ListN.{get_elem?}
use Rattle.cqp_pool.specs.declared.tally.Tally.{Tally}
use Rattle.cqp_pool.specs.Often.{AsOften, IsWithin}

-- what a pass knows
abbrev pub tally : ℕ → List ℕ → List ℕ → Tally
tally parts pushed taken = record { parts = parts; pushed = pushed; taken = taken }

-- what a pass knows that has pushed and taken nothing
abbrev pub new_tally : ℕ → Tally
new_tally parts = tally parts [] []

-- what a pass knows once a number was pushed by it
abbrev pub after_push : ℕ → Tally → Tally
after_push n t = tally t.parts (t.pushed ++ n ∷ []) t.taken

-- what a pass knows once a number was taken by it
abbrev pub after_take : ℕ → Tally → Tally
after_take n t = tally t.parts t.pushed (t.taken ++ n ∷ [])

-- what all passes pushed, as a weight
abbrev pub all_pushed : (ℕ → ℕ) → List Tally → ℕ
all_pushed weight tallies = sum_by (λ (t : Tally). sum_by weight t.pushed) tallies

-- what all passes took, as a weight
abbrev pub all_taken : (ℕ → ℕ) → List Tally → ℕ
all_taken weight tallies = sum_by (λ (t : Tally). sum_by weight t.taken) tallies

-- a pass without a part has pushed and taken nothing
abbrev pub PartlessAreEmpty : List Tally → Type 0
PartlessAreEmpty tallies =
    (port : ℕ) (t : Tally) → get_elem? tallies port ≡ some t → t.parts ≡ 0
    → (t.pushed ≡ []) × (t.taken ≡ [])

-- the rule: of 1024 parts in all, what was pushed is what was taken and what is there, as often
pub record IsAccounted (there : List ℕ) (tallies : List Tally) : Type 0 where
  pub parts : sum_by (λ (t : Tally). t.parts) tallies ≡ 1024
  pub numbers : (weight : ℕ → ℕ)
      → all_pushed weight tallies ≡ all_taken weight tallies + sum_by weight there
  pub partless : PartlessAreEmpty tallies

-- nothing was there at a moment when one of the passes knew this
pub record WasEmpty (t : Tally) : Type 0 where
  pub tallies : List Tally
  pub port : ℕ
  pub accounted : IsAccounted [] tallies
  pub known : get_elem? tallies port ≡ some t

-- no number was taken more often than pushed
abbrev pub Covers : Tally → Type 0
Covers t = IsWithin t.taken t.pushed

-- each number was taken as often as pushed
abbrev pub IsDrained : Tally → Type 0
IsDrained t = AsOften t.pushed t.taken
