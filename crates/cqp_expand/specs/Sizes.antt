-- The sizes of definitions whose calls are known. No public clause cites this module.
use Rattle.std.specs.Prelude.{◌≡◌, ℕ, ◌<◌, ◌≤◌, List, length, slice_index, slice_get, Option, Some}
use Rattle.std.specs.Prelude.{None}
use Rattle.cqp_syntax.specs.Listing.{breadth_of}
use Rattle.cqp_expand.specs.declared.outline.Outline.{Outline}
use Rattle.cqp_expand.specs.declared.outline.Member.{Member}
use Rattle.cqp_expand.specs.declared.outline.Member.TheVariants.{Own, Call}

-- what a definition of these counts as
abbrev pub count_at : List Outline → ℕ → ℕ
count_at ds def = by (slice_get ds def)
  where
    by : Option Outline → ℕ
    by None = 0
    by (Some d) = d.count

-- the call names one of these definitions
abbrev pub IsKnown : List Outline → Member → Type 0
IsKnown ds (Own node) = Unit {0}
IsKnown ds (Call def args) = def < length ds

-- what a member counts as
abbrev pub member_count : List Outline → Member → ℕ
member_count ds (Own node) = breadth_of node
member_count ds (Call def args) = count_at ds def

-- how many nodes a definition of these stands for
abbrev pub length_at : List Outline → ℕ → ℕ
length_at ds def = by (slice_get ds def)
  where
    by : Option Outline → ℕ
    by None = 0
    by (Some d) = slice_index d.starts.items (length d.members.items)

-- how many nodes a member stands for
abbrev pub member_length : List Outline → Member → ℕ
member_length ds (Own node) = 1
member_length ds (Call def args) = length_at ds def

-- each definition tells where its nodes end
abbrev pub IsSized : Outline → Type 0
IsSized d = length d.members.items < length d.starts.items

-- the call names one of these definitions, which tells where its nodes end
abbrev pub IsSizedMember : List Outline → Member → Type 0
IsSizedMember ds (Own node) = Unit {0}
IsSizedMember ds (Call def args) = (def < length ds) × ends (slice_get ds def)
  where
    ends : Option Outline → Type 0
    ends None = ⊥
    ends (Some d) = IsSized d

-- the outline tells where its nodes end, and they are no more than it counts as
pub record HasEnd (d : Outline) : Type 0 where
  pub sized : IsSized d
  pub few : slice_index d.starts.items (length d.members.items) ≤ d.count

-- so do all that are small
abbrev pub AreSized : List Outline → Type 0
AreSized ds = (i : ℕ) (d : Outline) → slice_get ds i ≡ Some d → d.count ≤ 20000 → HasEnd d
