-- What a deed does to its part. No public clause cites this module.
use Rattle.std.specs.Prelude.{List, [], ◌∷◌}
use Rattle.cqp_syntax.specs.Listing.{Listing}
use Rattle.cqp_parts.specs.declared.part.Part.{Part}
use Rattle.cqp_parts.specs.Parts.{body_of, bound_by, goes_on_from, node_at, with_result_of}
use Rattle.cqp_parts.specs.Parts.{IsProcessAt}
use Rattle.cqp_onward.specs.declared.effect.Effect.{Effect}
use Rattle.cqp_onward.specs.declared.effect.Effect.TheVariants as effects

-- the parts in the place of one
abbrev pub parts_by_effect : Listing → Part → Effect → List Part
parts_by_effect l part (effects.Reduces v) = with_result_of part v ∷ []
parts_by_effect l part (effects.Binds v) =
    goes_on_from l part (bound_by (node_at l part.node) v) (body_of (node_at l part.node))
parts_by_effect l part (effects.Ends n) = goes_on_from l part [] n

-- what follows, where the effect has its number, is a process
abbrev pub HasNext : Listing → Effect → Type 0
HasNext l (effects.Ends n) = IsProcessAt l n
HasNext l x = Unit {0}
