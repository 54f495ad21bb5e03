-- What small programs expand to, and which faults they have, by computation.
use Rattle.std.proofs.Common.{◌≡◌, refl, [], ◌∷◌, Some}
use Rattle.cqp_syntax.specs.Trees as proc
use Rattle.cqp_expand.specs.declared.fault.FaultKind.TheVariants as kind
use Rattle.cqp_expand.specs.Expansion.{expansion, expansion_offsets}
use Rattle.cqp_expand.specs.Faults.{scope_faults}
use Rattle.cqp_expand.specs.Kept.{least}
use Rattle.cqp_expand.specs.Counts.{count_of}
use Rattle.cqp_expand.specs.Examples.{one_call, unbound_name, wrong_count, wrong_type, repeated_name, unknown, shadowed, nested, gate_on}

-- a call's argument stands in the place of the parameter, and nodes keep their offsets
pub called : expansion one_call ≡ proc.qbit 0 (gate_on 0)
called = refl

-- nodes of a copy keep their offsets in the definition
pub called_at : expansion_offsets one_call ≡ 25 ∷ 14 ∷ 15 ∷ 20 ∷ 23 ∷ []
called_at = refl

-- a name in the list of a gate counts as one more
pub called_count : count_of (expansion one_call) ≡ 6
called_count = refl

-- a call of an earlier definition has no fault
pub called_faultless : scope_faults one_call ≡ []
called_faultless = refl

-- an inner binder hides an outer one
pub hidden : expansion shadowed ≡ proc.qbit 0 (proc.qbit 1 (gate_on 1))
hidden = refl

-- each kind of fault
pub unbound_at_1 : least (scope_faults unbound_name) ≡ Some (record { at = 1; kind = kind.Unbound })
unbound_at_1 = refl

-- a call with one argument too many is told at its name
pub count_at_10 : least (scope_faults wrong_count) ≡ Some (record { at = 10; kind = kind.Arity })
count_at_10 = refl

-- an argument of another type is told at the argument
pub type_at_25 : least (scope_faults wrong_type) ≡ Some (record { at = 25; kind = kind.ParamType })
type_at_25 = refl

-- a parameter that repeats another is told where it stands
pub twice_at_12 : least (scope_faults repeated_name) ≡ Some (record { at = 12; kind = kind.Twice })
twice_at_12 = refl

-- a call without a definition is told at its name
pub unknown_at_0 : least (scope_faults unknown) ≡ Some (record { at = 0; kind = kind.UnknownDef })
unknown_at_0 = refl

-- copies of copies have binders of their own, and their arguments are those of the outer call
pub copied : expansion nested ≡ proc.qbit 0 (proc.par (proc.qbit 1 (gate_on 0)) (proc.qbit 2 (gate_on 0)))
copied = refl

-- a body that is copied twice has its offsets twice
pub copied_at : expansion_offsets nested ≡ 57 ∷ 51 ∷ 14 ∷ 22 ∷ 23 ∷ 28 ∷ 31 ∷ 14 ∷ 22 ∷ 23 ∷ 28 ∷ 31 ∷ []
copied_at = refl
