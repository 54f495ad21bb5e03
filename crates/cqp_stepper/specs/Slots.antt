-- Parts by number, in a list of places.
use Rattle.std.specs.Prelude.{◌≡◌, ℕ, List, [], ◌∷◌, Option, None, Some, slice_index_or, slice_set}
use Rattle.cqp_syntax.specs.Listing.{Listing}
use Rattle.cqp_trace.specs.declared.deed.Deed.{Deed}
use Rattle.cqp_parts.specs.declared.part.Part.{Part}
use Rattle.cqp_parts.specs.Parts.{parts_after}

-- the part at a number
abbrev pub part_in : List (Option Part) → ℕ → Option Part
part_in slots n = slice_index_or slots n None

-- by the deed one part alone came in the place of part n
pub record HasGoneOn (l : Listing) (s t : List (Option Part)) (n : ℕ) (d : Deed) : Type 0 where
  pub part : Part
  pub slots : t ≡ slice_set s n (Some part)
  pub alone : (old : Part) → part_in s n ≡ Some old → parts_after l old d ≡ part ∷ []
