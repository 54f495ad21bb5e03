-- Who takes part in a reduction, and with whom.
use Rattle.std.specs.Prelude.{◌≡◌, ◌⊎◌, ◌≤◌, ◌<◌, ◌==◌, ℕ, List, Option, None, Some}
use Rattle.std.specs.Prelude.{if◌then◌else◌}
use Rattle.std.specs.Ordering.{nat_cmp}
use Rattle.std.specs.Map.{lookup}
use Rattle.std.specs.BTreeMap.{is_at}
use Rattle.cqp_order.specs.declared.stand.Stand.{Stand}
use Rattle.cqp_order.specs.declared.stand.Stand.TheVariants.{Alone, Sends, Receives}
use Rattle.cqp_order.specs.declared.stand.Turn.{Turn}
use Rattle.cqp_order.specs.Least.{IsLeast}

-- how part k stands, of parts with their stands
abbrev pub stand_at : List (ℕ × Stand) → ℕ → Option Stand
stand_at parts k = lookup (is_at (nat_cmp k)) parts

-- the stands `at`, but part k stands as w says
abbrev pub change : ℕ → Option Stand → (ℕ → Option Stand) → ℕ → Option Stand
change k w at i = if k == i then w else at i

-- in `new` part k stands as w says, and each other part as in `old`
abbrev pub IsChange : List (ℕ × Stand) → List (ℕ × Stand) → ℕ → Option Stand → Type 0
IsChange old new k w = (i : ℕ) → stand_at new i ≡ change k w (stand_at old) i

-- each part's number is below the room
abbrev pub IsWithin : List (ℕ × Stand) → ℕ → Type 0
IsWithin parts room = (k : ℕ) (s : Stand) → stand_at parts k ≡ Some s → k < room

module _ (at : ℕ → Option Stand) where
  -- part i and part j wait on the two sides of channel c
  abbrev pub MeetsOn : ℕ → ℕ → ℕ → Type 0
  MeetsOn c i j =
      ((at i ≡ Some (Sends c)) × (at j ≡ Some (Receives c)))
      ⊎ ((at i ≡ Some (Receives c)) × (at j ≡ Some (Sends c)))

  -- part i and part j wait on the two sides of one channel
  abbrev pub Meets : ℕ → ℕ → Type 0
  Meets i j = (c : ℕ) × MeetsOn c i j

  -- part i takes part in a reduction: it goes on by itself, or somebody waits on the other side of
  -- its channel
  abbrev pub IsActive : ℕ → Type 0
  IsActive i = (at i ≡ Some Alone) ⊎ ((j : ℕ) × Meets i j)

  -- the turn is the least active part's, with the least part that it meets; `None` where no part is
  -- active
  abbrev pub IsLeastTurn : Option Turn → Type 0
  IsLeastTurn None = (i : ℕ) → IsActive i → ⊥
  IsLeastTurn (Some turn) =
      IsActive turn.part × ((i : ℕ) → IsActive i → turn.part ≤ i)
      × IsLeast (Meets turn.part) turn.partner
