-- One side of all channels: by channel the numbers of the parts that wait there.
use Rattle.std.specs.Prelude.{◌≡◌, ◌≢◌, ◌==◌, ℕ, Bool, List, [], Option, None, Some, IsTrue}
use Rattle.std.specs.Prelude.{slice_index_or}
use Rattle.std.specs.List.{list_any}
use Rattle.std.specs.Ordering.{nat_cmp}
use Rattle.std.specs.declared.cmp.Ordering.{Ordering}
use Rattle.std.specs.declared.cmp.Reverse.{Reverse}
use Rattle.cqp_order.specs.declared.stand.Stand.{Stand}
use Rattle.cqp_order.specs.Least.{IsLeast}

-- the order of numbers of which the least comes first
abbrev pub least_first : Reverse ℕ → Reverse ℕ → Ordering
least_first x y = nat_cmp y.0 x.0

-- whether a number is among these
abbrev pub has : List (Reverse ℕ) → ℕ → Bool
has numbers k = list_any (λ x. x.0 == k) numbers

-- the numbers by channel
abbrev pub Waiting : Type 0
Waiting = List (List (Reverse ℕ))

-- whether part k waits on channel c
abbrev pub waits : Waiting → ℕ → ℕ → Bool
waits side c k = has (slice_index_or side c []) k

-- how part k stands, of stands by number
abbrev pub stands_in : List (Option Stand) → ℕ → Option Stand
stands_in parts k = slice_index_or parts k None

-- who stands so waits still on channel c, the least there stands so, and other channels are as they
-- were
pub record IsSettled (old new : Waiting) (c : ℕ) (parts : List (Option Stand)) (stand : Stand)
    : Type 0 where
  pub kept : (k : ℕ) → stands_in parts k ≡ Some stand → IsTrue (waits old c k)
      → IsTrue (waits new c k)
  pub least : (m : ℕ) → IsLeast (λ k. IsTrue (waits new c k)) (Some m)
      → stands_in parts m ≡ Some stand
  pub others : (d k : ℕ) → d ≢ c → waits new d k ≡ waits old d k
