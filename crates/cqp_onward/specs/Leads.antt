-- Where a part goes on, found before it does.
use Rattle.std.specs.Prelude.{◌≡◌, ℕ, List, ◌++◌, map, Option}
use Rattle.std.specs.Option.{option_to_list}
use Rattle.std.specs.List.{AllByRecursion}
use Rattle.cqp_syntax.specs.Listing.{Listing}
use Rattle.cqp_parts.specs.declared.bind.Bind.{Bind}
use Rattle.cqp_parts.specs.declared.part.Part.{Part}
use Rattle.cqp_parts.specs.Parts.{begins_at, body_of, node_at, parts_from, IsProcessAt}

-- what an `Ahead` is seen as: the first prefix, if there is one, and the parts at the others
pub record Lead : Type 0 where
  pub first : Option ℕ
  pub others : List Part

-- the parts in the place of one with these bindings, which itself goes on at the first prefix
abbrev pub parts_by : Listing → List Bind → Lead → List Part
parts_by l env lead = map (begins_at l env) (option_to_list lead.first) ++ lead.others

-- the first is a process's number, and the parts are those side by side at n
pub record LeadsTo (l : Listing) (env : List Bind) (n : ℕ) (lead : Lead) : Type 0 where
  pub first : AllByRecursion (IsProcessAt l) (option_to_list lead.first)
  pub all : parts_by l env lead ≡ parts_from l env n

-- the parts are those behind the part's output
abbrev pub LeadsOn : Listing → Part → Lead → Type 0
LeadsOn l part lead = LeadsTo l part.env (body_of (node_at l part.node)) lead
