-- The steps of the walks. What a deed gives, as a number or an outcome, is right by the rules.
use Rattle.std.specs.Prelude.{List, [], ◌∷◌, Option, Some, None, true, false}
use Rattle.cqp_syntax.specs.declared.op.Op.TheVariants as op
use Rattle.cqp_trace.specs.declared.deed.Deed.{Deed}
use Rattle.cqp_trace.specs.declared.deed.Deed.TheVariants as deed

-- a channel and two qubits
unfoldable pub start_steps : List (Option Deed)
start_steps = Some (deed.New 0) ∷ Some (deed.Qbit 0) ∷ Some (deed.Qbit 1) ∷ []

-- a gate on both, and one that is picked on the first
unfoldable pub gate_steps : List (Option Deed)
gate_steps =
    Some (deed.Gate op.CNot (1 ∷ 0 ∷ [])) ∷ Some deed.Act ∷ Some (deed.Add 2)
    ∷ Some (deed.Pick op.Z) ∷ Some (deed.Gate op.Z (0 ∷ [])) ∷ Some deed.Act ∷ []

-- a measurement of both with outcome 2, three sums, and the message
unfoldable pub sum_steps : List (Option Deed)
sum_steps =
    Some (deed.Measure (1 ∷ 0 ∷ []) 2) ∷ Some (deed.Add 3) ∷ Some (deed.Add 7)
    ∷ Some (deed.Add 10) ∷ Some (deed.Com 1 0) ∷ []

-- a channel, and values on it
unfoldable pub receipt_steps : List (Option Deed)
receipt_steps = Some (deed.New 0) ∷ None ∷ []

-- two equal sums and the first branch, and two other ones and the second
unfoldable pub yes_steps : List (Option Deed)
yes_steps = Some (deed.Add 6) ∷ Some (deed.Add 6) ∷ Some (deed.If true) ∷ Some deed.Act ∷ []

unfoldable pub no_steps : List (Option Deed)
no_steps = Some (deed.Add 4) ∷ Some (deed.Add 8) ∷ Some (deed.If false) ∷ []
