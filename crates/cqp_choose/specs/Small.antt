-- Sums of lawful odds have room. No public clause cites this module.
use Rattle.std.specs.Prelude.{ℕ, ◌≤◌, ◌^◌, pos, nat_abs, ◌≤ℤ◌}
use Rattle.cqp_ring.specs.declared.root.Root.{Root}

-- the part with root 2 is no greater than the whole part, which is at most 2^90
pub record IsSmall (x : Root) : Type 0 where
  pub root : pos (nat_abs x.q) ≤ℤ x.p
  pub whole : x.p ≤ℤ pos (2 ^ 90)

-- both parts are at most this far from 0
pub record IsWithin (most : ℕ) (x : Root) : Type 0 where
  pub whole : nat_abs x.p ≤ most
  pub root : nat_abs x.q ≤ most
