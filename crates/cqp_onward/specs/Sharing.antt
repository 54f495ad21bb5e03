-- Parts that begin side by side. No public clause cites this module.
use Rattle.std.specs.Prelude.{ℕ, ◌≤◌, List, [], ◌∷◌, ◌++◌}
use Rattle.cqp_syntax.specs.Ends.{end_at}
use Rattle.cqp_syntax.specs.Listing.{Listing}
use Rattle.cqp_parts.specs.declared.bind.Bind.{Bind}
use Rattle.cqp_parts.specs.declared.part.Part.{Part}

-- a part at a number, without bindings
abbrev pub bare_at : ℕ → Part
bare_at n = record { node = n; env = []; vals = [] }

-- the part with one binding more
abbrev pub with_binding : Bind → Part → Part
with_binding b part = record part { env = part.env ++ b ∷ [] }

-- numbers from a on, each behind the end of the one before, and the last ends by b
abbrev pub StandApart : Listing → ℕ → ℕ → List ℕ → Type 0
StandApart l a b [] = a ≤ b
StandApart l a b (n ∷ ns) = (a ≤ n) × StandApart l (end_at l n) b ns
