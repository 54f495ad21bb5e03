-- What a count of faults says.
use Rattle.std.specs.Prelude.{◌≡◌, ℕ, ◌+◌, ◌-◌, ◌^◌, ◌≤◌, min, Result, OnErr, MatchResult}

-- The count after one more, which stands still at the end of u64.
abbrev pub one_more : ℕ → ℕ
one_more count = min (count + 1) (2 ^ 64 - 1)

-- The count has risen, or stands at its end.
abbrev pub Rose : ℕ → ℕ → Type 0
Rose before now = min (before + 1) (2 ^ 64 - 1) ≤ now

-- The count hasn't fallen, and an error comes only where it has risen.
pub record HasCause {T E : Type 0} (before now : ℕ) (result : Result T E) : Type 0 where
  pub later : before ≤ now
  pub failed : OnErr result (Rose before now)

-- The count goes up by one at an error, and stays as it was otherwise.
abbrev pub CountsErr : {T E : Type 0} → ℕ → ℕ → Result T E → Type 0
CountsErr before now result =
    MatchResult result (λ _. now ≡ before) (λ _. now ≡ one_more before)
