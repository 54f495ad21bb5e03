-- The turn of a process with no wrong operand has right ones.
use Rattle.std.proofs.Common.{◌≡◌, ℕ, List, [], ◌∷◌, length, Bool, true, false, not, ◌||◌, ◌==◌, ◌+◌, Option, Some, None, refl, sym, ap, subst, ◌∙◌, arith}
use Rattle.cqp_syntax.specs.declared.op.Op.{Op}
use Rattle.cqp_syntax.specs.declared.val.Val.TheVariants as val
use Rattle.cqp_syntax.specs.Gates.{places_of}
use Rattle.cqp_syntax.specs.Trees.{Slot, valued, Process}
use Rattle.cqp_syntax.proofs.Same.{same_number}
use Rattle.cqp_cells.specs.Moves.{are_operands}
use Rattle.cqp_cells.specs.Operands.{has_name_left, has_no_number, has_no_qubit, has_no_gate, has_no_channel, is_wrong}
use Rattle.cqp_cells.specs.Operands.{asked, are_qubits, no_qubit_in, no_gate_in}
use Rattle.cqp_cells.specs.Redex.{qubits_of, with_first}
use Rattle.cqp_cells.proofs.Options.{none_is_some, same_some, yes_is_no}
use Rattle.cqp_turns.specs.declared.turn.Turn.{Turn}
use Rattle.cqp_turns.specs.declared.turn.Turn.TheVariants as turn
use Rattle.cqp_turns.specs.Turns.{IsTurn, Applies, Looks}
use Rattle.cqp_turns.proofs.TurnsTold.{turn_told}
use Rattle.cqp_fitting.specs.Deeds.{HasOperands}
use Rattle.cqp_fitting.specs.Laws.{OperandsLaw}

-- neither of two tests passes
neither : (a b : Bool) → (a || b) ≡ false → (a ≡ false) × (b ≡ false)
neither false b h = (refl, h)
neither true b h = absurd (yes_is_no h)

-- what isn't refused is right
not_refused : (b : Bool) → not b ≡ false → b ≡ true
not_refused true h = refl
not_refused false h = absurd (yes_is_no h)

-- of a process with no wrong operand neither qubits nor operators are wrong
right_so : (n : ℕ) (p : Process) → is_wrong n p ≡ false → (has_no_qubit n p ≡ false) × (has_no_gate p ≡ false)
right_so n p h =
    let first = neither (has_name_left p || has_no_number p || has_no_qubit n p || has_no_gate p) (has_no_channel p) h in
    let second = neither (has_name_left p || has_no_number p || has_no_qubit n p) (has_no_gate p) first.0 in
    ((neither (has_name_left p || has_no_number p) (has_no_qubit n p) second.0).1, second.1)

-- qubits in slots that aren't refused
qubits_right : (n : ℕ) (o : Option (List ℕ)) (qs : List ℕ) → o ≡ Some qs → not (are_qubits n o) ≡ false → are_operands n qs ≡ true
qubits_right n o qs are h = not_refused (are_operands n qs) (subst (λ x. not (are_qubits n x) ≡ false) are h)

-- as many qubits as slots
count_first : (q k : ℕ) (o : Option (List ℕ)) (qs : List ℕ) → ((us : List ℕ) → o ≡ Some us → length us ≡ k) → with_first q o ≡ Some qs
    → length qs ≡ k + 1
count_first q k None qs later h = absurd (none_is_some h)
count_first q k (Some us) qs later h = sym (ap length (same_some h)) ∙ omega (arith, later us refl)

count_qubits : (ss : List Slot) (qs : List ℕ) → qubits_of ss ≡ Some qs → length qs ≡ length ss
count_qubits [] qs h = sym (ap length (same_some h))
count_qubits (valued (val.Qubit q) ∷ ss) qs h = count_first q (length ss) (qubits_of ss) qs (λ us g. count_qubits ss us g) h ∙ omega arith
count_qubits (s ∷ ss) qs h = absurd (none_is_some h)

-- a gate's operands
gate_operands : (n : ℕ) (p : Process) (op : Op) (qs : List ℕ) → is_wrong n p ≡ false → Applies p op qs
    → (length qs ≡ places_of op) × (are_operands n qs ≡ true)
gate_operands n p op qs h t =
    let right = right_so n p h in
    let qubits = subst (λ o. asked o (no_qubit_in n) false ≡ false) t.redex right.0 in
    let places = subst (λ o. asked o no_gate_in false ≡ false) t.redex right.1 in
    let many = same_number (length t.slots) (places_of op) (not_refused (length t.slots == places_of op) places) in
    (count_qubits t.slots qs t.are ∙ many, qubits_right n (qubits_of t.slots) qs t.are qubits)

-- a measurement's operands
look_operands : (n : ℕ) (p : Process) (qs : List ℕ) → is_wrong n p ≡ false → Looks p qs → are_operands n qs ≡ true
look_operands n p qs h t =
    let qubits = subst (λ o. asked o (no_qubit_in n) false ≡ false) t.redex (right_so n p h).0 in
    qubits_right n (qubits_of t.slots) qs t.are qubits

-- by the turn that is told
told_operands : (n : ℕ) (p : Process) (t : Turn) → is_wrong n p ≡ false → IsTurn p t → HasOperands n t
told_operands n p turn.Qbit h is = tt
told_operands n p turn.New h is = tt
told_operands n p turn.Act h is = tt
told_operands n p (turn.Add v) h is = tt
told_operands n p (turn.Pick op) h is = tt
told_operands n p (turn.Gate op qs) h is = gate_operands n p op qs h is
told_operands n p (turn.Measure qs) h is = look_operands n p qs h is
told_operands n p (turn.Send k vs) h is = tt
told_operands n p (turn.Receive k) h is = tt
told_operands n p (turn.If answer) h is = tt

-- the turn of a process with no wrong operand has right ones
pub operands_law : OperandsLaw
operands_law n p t h is = told_operands n p t h (turn_told p t is)
