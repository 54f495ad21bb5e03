-- Odds of the outcomes of a measurement: norms that are above 0 under both signs of root 2.
use Rattle.std.specs.Prelude.{◌≢◌, ◌<◌, ◌≤◌, ◌^◌, pos, ◌≤ℤ◌, List, length, All}
use Rattle.cqp_ring.specs.declared.root.Root.{Root}
use Rattle.cqp_ring.specs.Root.{IsAtLeastZero, root_conjugate, root_total, zero_root}

-- an odd isn't negative under either sign of root 2, and isn't 0
pub record IsLawfulOdd (x : Root) : Type 0 where
  pub above : IsAtLeastZero x
  pub turned_above : IsAtLeastZero (root_conjugate x)
  pub other : x ≢ zero_root

-- one odd or more, of any size
pub record IsFair (odds : List Root) : Type 0 where
  pub some : 0 < length odds
  pub each : All IsLawfulOdd odds

-- 1 to 4,096 odds, of which the whole part of the sum is at most 2^90
pub record IsLawful (odds : List Root) : Type 0 where
  pub fair : IsFair odds
  pub few : length odds ≤ 4096
  pub total : (root_total odds).p ≤ℤ pos (2 ^ 90)
