-- Small cases, which hold by computation.
use Rattle.std.proofs.Common.{◌≡◌, ℕ, [], ◌∷◌, refl, Some, None}
use Rattle.cqp_syntax.specs.declared.op.Op.{Op}
use Rattle.cqp_syntax.specs.TypeTrees.{qbit_type}
use Rattle.cqp_syntax.specs.Trees.{named, Process, act}
use Rattle.cqp_types.specs.declared.kind.Kind.TheVariants as kind
use Rattle.cqp_types.specs.Contexts.{Context, Has}
use Rattle.cqp_types.specs.Derivations.{IsDerivable, Derives, slot_, apply_, nil_, par_, qbit_, act_}
use Rattle.cqp_types.specs.Examples.{lists, faults, gate_on, used_in_turn, on_both_sides, sent_and_used, measured_twice, qubit_alone, sends_too_few}
use Rattle.cqp_types.specs.Examples.{number_as_operator, qbit_types, int_types}

-- no node fails where a qubit is used in turn
none_fails : faults (lists used_in_turn qbit_types (0 ∷ [])) ≡ None ∷ None ∷ None ∷ None ∷ None ∷ None ∷ None ∷ None ∷ []
none_fails = refl

-- node 1 fails where it is on both sides
split_twice : faults (lists on_both_sides qbit_types (0 ∷ []))
    ≡ None ∷ Some kind.SplitTwice ∷ None ∷ None ∷ None ∷ None ∷ None ∷ None ∷ None ∷ None ∷ []
split_twice = refl

-- node 3, the output, fails where a qubit is sent and measured
used_behind : faults (lists sent_and_used qbit_types (0 ∷ 1 ∷ 0 ∷ []))
    ≡ None ∷ None ∷ None ∷ Some kind.SentAndUsed ∷ None ∷ None ∷ None ∷ None ∷ None ∷ None ∷ []
used_behind = refl

-- node 2, the measurement, fails where a qubit is measured twice at once
operand_twice : faults (lists measured_twice qbit_types (0 ∷ [])) ≡ None ∷ None ∷ Some kind.OperandTwice ∷ None ∷ []
operand_twice = refl

-- an act of a qubit alone is right
alone_is_right : faults (lists qubit_alone qbit_types (0 ∷ [])) ≡ None ∷ None ∷ None ∷ None ∷ []
alone_is_right = refl

-- node 1, the output, fails where nothing is sent on a channel of numbers
too_few : faults (lists sends_too_few int_types (1 ∷ [])) ≡ None ∷ Some kind.Count ∷ None ∷ []
too_few = refl

-- node 2, the gate application, fails where a number stands for a gate
wrong_operator : faults (lists number_as_operator qbit_types (0 ∷ [])) ≡ None ∷ None ∷ Some kind.Mismatch ∷ None ∷ None ∷ []
wrong_operator = refl

-- derivations of two of them, and none of the third
alone_derived : IsDerivable qubit_alone
alone_derived = qbit_ (act_ (slot_ refl) nil_)

-- a qubit that is used in turn
turn_derived : IsDerivable used_in_turn
turn_derived = qbit_ (act_ (apply_ refl (refl, tt) refl (slot_ refl)) (act_ (apply_ refl (refl, tt) refl (slot_ refl)) nil_))

-- what a gate acts on is a qubit of the context
used : {g : Context} {x : ℕ} {o : Op} {p : Process} → Derives g (act (gate_on o x) p) → Has g (named x) qbit_type
used (act_ (apply_ twice qubits many d) rest) = qubits.0

-- no derivation gives a qubit to both sides
never_on_both : IsDerivable on_both_sides → ⊥
never_on_both (qbit_ (par_ splits a b)) = splits.once (named 0) (used a) (used b)
