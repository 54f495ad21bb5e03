-- Where slots are used. No public clause cites this module.
use Rattle.std.specs.Prelude.{slice_index, map, ◌≡◌, ℕ, zero, suc, ◌+◌, ◌-◌, ◌<◌, ◌≤◌, List, []}
use Rattle.std.specs.Prelude.{◌∷◌, length, true, if◌then◌else◌}
use Rattle.cqp_syntax.specs.Trees.{Slot, named}
use Rattle.cqp_syntax.specs.Terms.{Term}
use Rattle.cqp_syntax.specs.Free.{is_among}
use Rattle.cqp_syntax.specs.Listing.{Listing, type_of_name}
use Rattle.cqp_syntax.specs.Uses.{own_slots, uses_at}
use Rattle.cqp_types.specs.Faults.{is_qubit}

-- a qubit is used by a node from a on and by one from b on, before the end
pub record IsUsedOnBoth (l : Listing) (a b end : ℕ) (s : Slot) : Type 0 where
  pub qubit : is_qubit (type_of_name l) s ≡ true
  pub left : ℕ
  pub right : ℕ
  pub from : a ≤ left
  pub parted : (left < b) × (b ≤ right)
  pub within : right < end
  pub left_uses : uses_at l left s ≡ true
  pub right_uses : uses_at l right s ≡ true

-- how many of these terms use the slot
abbrev pub count_uses : Slot → List Term → ℕ
count_uses s [] = 0
count_uses s (t ∷ ts) = (if is_among s (own_slots t) then 1 else 0) + count_uses s ts

-- the first number from n on, of so many, whose node uses the slot; the number behind them where
-- there is none
abbrev pub next_in : Listing → ℕ → ℕ → Slot → ℕ
next_in l zero n s = n
next_in l (suc k) n s = if uses_at l n s then n else next_in l k (n + 1) s

-- and the second
abbrev pub second_in : Listing → ℕ → ℕ → Slot → ℕ
second_in l zero n s = n
second_in l (suc k) n s =
    if uses_at l n s then next_in l k (n + 1) s else second_in l k (n + 1) s

-- the first use from n on, the count of nodes where there is none
abbrev pub next_use : Listing → ℕ → Slot → ℕ
next_use l n s = next_in l (length l.nodes - n) n s

-- and the second
abbrev pub second_use : Listing → ℕ → Slot → ℕ
second_use l n s = second_in l (length l.nodes - n) n s

-- for each name its two least uses by nodes from a on
pub record UsesFrom (l : Listing) (a : ℕ) (first second : List ℕ) : Type 0 where
  pub first_count : length first ≡ length l.ty_of
  pub second_count : length second ≡ length l.ty_of
  pub first_is : (x : ℕ) → x < length l.ty_of → slice_index first x ≡ next_use l a (named x)
  pub second_is : (x : ℕ) → x < length l.ty_of → slice_index second x ≡ second_use l a (named x)

-- the same by nodes behind n, and by n where the name is one of these
pub record IsRecorded (l : Listing) (n : ℕ) (ys first second : List ℕ) : Type 0 where
  pub first_count : length first ≡ length l.ty_of
  pub second_count : length second ≡ length l.ty_of
  pub first_is : (x : ℕ) → x < length l.ty_of → slice_index first x
      ≡ (if is_among (named x) (map named ys) then n else next_use l (n + 1) (named x))
  pub second_is : (x : ℕ) → x < length l.ty_of → slice_index second x
      ≡ (if is_among (named x) (map named ys) then next_use l (n + 1) (named x)
      else second_use l (n + 1) (named x))
