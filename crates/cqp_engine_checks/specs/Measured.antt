-- A process whose start can go on.
use Rattle.std.specs.Prelude.{Bool, true, false, []}
use Rattle.cqp_syntax.specs.Trees.{Process, act, measure, nil}

-- a measurement of no qubit, as the next redex
abbrev pub measures_none : Process
measures_none = act (measure []) nil

-- that process, or `0`
abbrev pub opening : Bool → Process
opening true = measures_none
opening false = nil
