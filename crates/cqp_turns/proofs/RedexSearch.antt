-- What the search for the next redex finds.
use Rattle.std.proofs.Common.{◌≡◌, ℕ, length, slice_get, Option, Some, None, sym, ap, ◌∙◌}
use Rattle.cqp_syntax.specs.Listing.{Listing, process_at}
use Rattle.cqp_syntax.specs.Numbered.{IsNumbered}
use Rattle.cqp_cells.specs.Redex.{exprs_of}
use Rattle.cqp_parts.specs.declared.part.Part.{Part}
use Rattle.cqp_redexes.specs.Evaluation.{redexes_at}
use Rattle.cqp_results.specs.Results.{count_of}
use Rattle.cqp_standing.specs.Stands.{IsRedexAt, Stands}
use Rattle.cqp_standing.proofs.PartRedexes.{redex_at, none_at}

module _ (l : Listing) (part : Part) (stands : Stands l part) (numbers : IsNumbered l) (k : ℕ) (found : Option ℕ) (count : k ≡ length part.vals)
    (is : found ≡ slice_get (redexes_at l part.node) k) where
  -- what was found stands behind the redexes that were reduced
  at_count : slice_get (redexes_at l part.node) (length part.vals) ≡ found
  at_count = ap (slice_get (redexes_at l part.node)) (sym count) ∙ sym is

  -- a node that was found is the next redex
  pub next_found : (m : ℕ) → found ≡ Some m → IsRedexAt l part m
  next_found m h = redex_at l part stands numbers m (at_count ∙ h)

  -- where none was found all are reduced
  pub none_found : found ≡ None → length part.vals ≡ count_of (exprs_of (process_at l part.node))
  none_found h = none_at l part stands numbers (at_count ∙ h)
