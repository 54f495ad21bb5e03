-- The pick of a script.
use Rattle.std.specs.Prelude.{◌≡◌, ℕ, List}
use Rattle.cqp_ring.specs.declared.root.Root.{Root}
use Rattle.cqp_choose.specs.Picks.{script_index}

-- it answers the script's number at the turn modulo the count of odds, or 0 past the script's end
abbrev pub script_answers : List ℕ → ℕ → List Root → ℕ → Type 0
script_answers script turn odds i = i ≡ script_index script turn odds
