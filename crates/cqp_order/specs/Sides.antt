-- Which parts stand in the two sides of all channels.
use Rattle.std.specs.Prelude.{◌≡◌, ◌==◌, ◌&&◌, ◌||◌, ℕ, Bool, false, List, Option, None, Some}
use Rattle.std.specs.Prelude.{IsTrue, nat_le, if◌then◌else◌}
use Rattle.cqp_order.specs.declared.stand.Stand.{Stand}
use Rattle.cqp_order.specs.declared.stand.Stand.TheVariants.{Alone, Sends, Receives}
use Rattle.cqp_order.specs.Least.{IsLeast}
use Rattle.cqp_order.specs.Places.{Waiting, stands_in, waits}

-- whether a part that stands so sends on channel c
abbrev pub is_sending : ℕ → Stand → Bool
is_sending c Alone = false
is_sending c (Sends d) = d == c
is_sending c (Receives d) = false

-- whether a part that stands so receives on channel c
abbrev pub is_receiving : ℕ → Stand → Bool
is_receiving c Alone = false
is_receiving c (Sends d) = false
is_receiving c (Receives d) = d == c

-- each part that stands so waits there, and the least that waits on a channel stands so
pub record AreWaiting (on : ℕ → Stand) (at : ℕ → Option Stand) (side : Waiting) : Type 0 where
  pub all : (c k : ℕ) → at k ≡ Some (on c) → IsTrue (waits side c k)
  pub least : (c m : ℕ) → IsLeast (λ k. IsTrue (waits side c k)) (Some m) → at m ≡ Some (on c)

-- so it is of both sides
abbrev pub IsSplit : (ℕ → Option Stand) → Waiting → Waiting → Type 0
IsSplit at senders receivers = AreWaiting Sends at senders × AreWaiting Receives at receivers

-- part k waits besides where the test f passes its stand
abbrev pub StillWaits : (ℕ → Stand → Bool) → Waiting → Waiting → ℕ → Stand → Type 0
StillWaits f old new k s = (c i : ℕ) → waits new c i ≡ ((k == i && f c s) || waits old c i)

-- who stands so waits still, the least where s says stands so, and other channels are as they were
pub record Goes (on : ℕ → Stand) (old new : Waiting) (s : Stand) (parts : List (Option Stand))
    : Type 0 where
  pub kept : (c k : ℕ) → stands_in parts k ≡ Some (on c) → IsTrue (waits old c k)
      → IsTrue (waits new c k)
  pub least : (c m : ℕ) → s ≡ on c → IsLeast (λ k. IsTrue (waits new c k)) (Some m)
      → stands_in parts m ≡ Some (on c)
  pub others : (c k : ℕ) → (s ≡ on c → ⊥) → waits new c k ≡ waits old c k

-- the lesser of two numbers where both are there
abbrev pub lesser_of_both : Option ℕ → Option ℕ → Option ℕ
lesser_of_both None b = None
lesser_of_both (Some a) None = None
lesser_of_both (Some a) (Some b) = Some (if nat_le a b then a else b)
