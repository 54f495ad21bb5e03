-- What the cells of a run tell: how many parts are there, and the odds of a measurement in a group.
use Rattle.std.specs.Prelude.{ℕ, List, Option, Some, None}
use Rattle.cqp_vector.specs.declared.odds.Odd.{Odd}
use Rattle.cqp_vector.specs.Odds.{odds_of}
use Rattle.cqp_parts.specs.declared.part.Part.{Part}
use Rattle.cqp_machine.specs.declared.front.Front.{Front}
use Rattle.cqp_machine.specs.Cells.{Cells}
use Rattle.cqp_machine.specs.Factors.{Held, places_in, state_of}
use Rattle.cqp_machine.specs.Sums.{sum_below}

-- 1 for a part that is there
abbrev pub one_if_part : Option Part → ℕ
one_if_part None = 0
one_if_part (Some p) = 1

-- how many parts are there, of those that were made
abbrev pub parts_there : Front → Cells → ℕ
parts_there f c = sum_below f.parts (λ i. one_if_part (c.parts i))

-- the odds of a measurement of these qubits that the group tells as a factor
abbrev pub odds_in_group : Held → List ℕ → List Odd
odds_in_group g qs = odds_of (places_in g.qubits qs) (state_of g)
