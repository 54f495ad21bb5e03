-- What is asked of a function that is kept as a chooser.
use Rattle.std.specs.Prelude.{ℕ, ◌<◌, ◌^◌, List, length}
use Rattle.std.specs.Borrow.{Bor}
use Rattle.cqp_ring.specs.declared.root.Root.{Root}
use Rattle.cqp_choose.specs.Odds.{IsLawful}

-- at each turn and with all lawful odds it may be called, and answers a number below their count
pub record Chooses (pre : ℕ → Bor (List Root) → Type 0)
    (post : ℕ → Bor (List Root) → ℕ → Type 0) : Type 0 where
  pub callable : (turn : ℕ) (odds : Bor (List Root)) → turn < 2 ^ 64 → IsLawful odds.now
      → pre turn odds
  pub below : (turn : ℕ) (odds : Bor (List Root)) (answer : ℕ) → turn < 2 ^ 64 → IsLawful odds.now
      → post turn odds answer → answer < length odds.now
