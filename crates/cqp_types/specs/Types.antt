-- Counts of types, the types of binders, and what a channel carries.
use Rattle.std.specs.Prelude.{ℕ, suc, List, [], ◌∷◌, Option, Some, None}
use Rattle.cqp_syntax.specs.TypeTrees.{TypeTree, TypeTrees, chan_type, no_types, type_and}
use Rattle.cqp_syntax.specs.Trees.{Binder}

-- how many types there are
abbrev pub count_of : TypeTrees → ℕ
count_of no_types = 0
count_of (type_and t ts) = suc (count_of ts)

-- the types of binders
abbrev pub types_of : List Binder → TypeTrees
types_of [] = no_types
types_of (b ∷ bs) = type_and b.ty (types_of bs)

-- the types that a channel carries
abbrev pub carried : TypeTree → Option TypeTrees
carried (chan_type ts) = Some ts
carried t = None
