-- The least fault as it is found: the least of those so far is kept. No public clause cites this
-- module.
use Rattle.std.specs.Prelude.{List, [], ◌∷◌, Option, Some, None, if◌then◌else◌}
use Rattle.cqp_expand.specs.declared.fault.ScopeFault.{ScopeFault}
use Rattle.cqp_expand.specs.Least.{precedes}

-- the least fault so far, and one more
abbrev pub kept : Option ScopeFault → ScopeFault → ScopeFault
kept None f = f
kept (Some g) f = if precedes f g then f else g

-- the least of those so far and of a list
abbrev pub least_of : Option ScopeFault → List ScopeFault → Option ScopeFault
least_of g [] = g
least_of g (f ∷ fs) = least_of (Some (kept g f)) fs

-- the least of a list
abbrev pub least : List ScopeFault → Option ScopeFault
least fs = least_of None fs
