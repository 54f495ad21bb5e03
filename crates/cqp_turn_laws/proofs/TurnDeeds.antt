-- Where no operand is wrong, a process moves by the deed of its turn.
use Rattle.std.proofs.Common.{◌≡◌, ℕ, true, false, Bool, List, [], ◌∷◌, ◌==◌, ◌&&◌, ◌<◌, ◌+◌, ◌%◌, ◌^◌, length, nat_lt, not, Option, Some, None, refl, sym, ap}
use Rattle.std.proofs.Common.{subst, arith, ◌∙◌}
use Rattle.std.proofs.lemmas.Bool.{and_from, eq-eqb, eqb-true, lt-ltb}
use Rattle.std.specs.Prelude.{IsSome}
use Rattle.cqp_syntax.specs.declared.op.Op.{Op}
use Rattle.cqp_syntax.specs.declared.val.Val.{Val}
use Rattle.cqp_syntax.specs.declared.val.Val.TheVariants as val
use Rattle.cqp_syntax.specs.Gates.{places_of, op_number, is_same_op}
use Rattle.cqp_syntax.specs.Trees.{Slot, valued, value, Process, branch}
use Rattle.cqp_syntax.specs.Lists.{is_same_list}
use Rattle.cqp_cells.specs.Moves.{provided, are_operands, is_gate_on, picked, Counts, by_qbit, by_new, by_act, by_add, by_pick, by_gate, by_gate_on, by_measure}
use Rattle.cqp_cells.specs.Moves.{by_measure_on, by_if, is_look_at, receives_on}
use Rattle.cqp_cells.specs.Redex.{redex_of, qubits_of, with_first}
use Rattle.cqp_cells.specs.Operands.{are_qubits, is_wrong}
use Rattle.cqp_turn_laws.specs.Deeds.{MovesBy}
use Rattle.cqp_standing.specs.Suits.{takes}
use Rattle.cqp_turns.specs.declared.turn.Turn.{Turn}
use Rattle.cqp_turns.specs.declared.turn.Turn.TheVariants as turn
use Rattle.cqp_turns.specs.Turns.{turn_in, IsTurn, BindsQubit, BindsChan, EndsAct, Chooses, Adds, Picks, Applies, Looks, Receives}
use Rattle.cqp_turn_laws.proofs.RightTurns.{IsRight, none_wrong}
use Rattle.cqp_turns.proofs.TurnsTold.{turn_told}

-- what passes is there
passes : {X : Type 0} (b : Bool) (x : X) → b ≡ true → IsSome (provided b x)
passes b x h = rw h refl

-- not false is true
is_true : (b : Bool) → not b ≡ false → b ≡ true
is_true true h = refl
is_true false h = absurd (cc h)

-- a list equals itself
same_list : (xs : List ℕ) → is_same_list xs xs ≡ true
same_list [] = refl
same_list (x ∷ xs) = and_from (x == x) (is_same_list xs xs) (eq-eqb x x refl) (same_list xs)

-- as many qubits as slots
count_first : (q : ℕ) (o : Option (List ℕ)) (qs : List ℕ) (k : ℕ) → ((us : List ℕ) → o ≡ Some us → length us ≡ k) → with_first q o ≡ Some qs → length qs ≡ k + 1
count_first q (Some us) qs k later h = let same : q ∷ us ≡ qs = cc h in sym (ap length same) ∙ omega (arith, later us refl)
count_first q None qs k later h = absurd (cc h)

-- as many qubits as slots
count_qubits : (ss : List Slot) (qs : List ℕ) → qubits_of ss ≡ Some qs → length qs ≡ length ss
count_qubits [] qs h = let same : [] ≡ qs = cc h in sym (ap length same)
count_qubits (valued (val.Qubit q) ∷ ss) qs h = count_first q (qubits_of ss) qs (length ss) (λ us k. count_qubits ss us k) h ∙ omega arith
count_qubits (s ∷ ss) qs h = absurd (cc h)

-- a process that binds a qubit moves by that deed
qbit_moves : (n : Counts) (p : Process) → BindsQubit p → IsSome (by_qbit n p n.qubits)
qbit_moves n p t = subst (λ r. IsSome (by_qbit n r n.qubits)) (sym t.is) (passes (n.qubits == n.qubits) _ (eq-eqb n.qubits n.qubits refl))

-- a channel's binder moves by the next channel
new_moves : (n : Counts) (p : Process) → BindsChan p → IsSome (by_new n p n.chans)
new_moves n p t = subst (λ r. IsSome (by_new n r n.chans)) (sym t.is) (passes (n.chans == n.chans) _ (eq-eqb n.chans n.chans refl))

-- an action whose expression is a value moves
act_moves : (p : Process) → EndsAct p → IsSome (by_act p)
act_moves p t = subst (λ r. IsSome (by_act r)) (sym t.is) refl

-- a choice between numbers moves by its answer
chosen_moves : (u w : ℕ) (p q : Process) (b : Bool) → b ≡ (u == w) → IsSome (by_if (branch (value (val.Num u)) (value (val.Num w)) p q) b)
chosen_moves u w p q true h = passes (u == w) p (sym h)
chosen_moves u w p q false h = passes (not (u == w)) q (ap not (sym h))

-- so does each choice whose turn is told
if_moves : (p : Process) (b : Bool) → Chooses p b → IsSome (by_if p b)
if_moves p b t = subst (λ r. IsSome (by_if r b)) (sym t.is) (chosen_moves t.left t.right t.first t.other b t.answer)

-- a process whose next redex is a sum moves by that deed
add_moves : (p : Process) (v : ℕ) → Adds p v → IsSome (by_add p (redex_of p) v)
add_moves p v t = subst (λ o. IsSome (by_add p o v)) (sym t.redex) (passes (v == (t.left + t.right) % 2 ^ 32) _ (eq-eqb v ((t.left + t.right) % 2 ^ 32) t.is))

-- a pick moves by its gate
pick_moves : (p : Process) (op : Op) → Picks p op → IsSome (by_pick p (redex_of p) op)
pick_moves p op t =
    subst (λ o. IsSome (by_pick p o op)) (sym t.redex)
    (passes (is_same_op op (picked t.number)) _ (eq-eqb (op_number op) (op_number (picked t.number)) (ap op_number t.is)))

-- qubits that are not wrong
operands_are : (n : ℕ) (o : Option (List ℕ)) (qs : List ℕ) → o ≡ Some qs → not (are_qubits n o) ≡ false → are_operands n qs ≡ true
operands_are n o qs h k = is_true (are_operands n qs) (subst (λ x. not (are_qubits n x) ≡ false) h k)

-- a gate with right operands moves
gate_moves : (n : Counts) (p : Process) (op : Op) (qs : List ℕ) → IsRight n.qubits p (redex_of p) → Applies p op qs → IsSome (by_gate n p (redex_of p) op qs)
gate_moves n p op qs w t =
    let right = subst (IsRight n.qubits p) t.redex w in
    let operands = operands_are n.qubits (qubits_of t.slots) qs t.are right.qubit in
    let places = eqb-true (length t.slots) (places_of op) (is_true (length t.slots == places_of op) right.gate) in
    let same = is_same_op op op && is_same_list qs qs in
    let one = and_from (is_same_op op op) (is_same_list qs qs) (eq-eqb (op_number op) (op_number op) refl) (same_list qs) in
    let two =
    and_from (is_same_op op op && is_same_list qs qs) (length qs == places_of op) one (eq-eqb (length qs) (places_of op) (count_qubits t.slots qs t.are
    ∙ places)) in
    let all = and_from (is_same_op op op && is_same_list qs qs && (length qs == places_of op)) (are_operands n.qubits qs) two operands in
    subst (λ o. IsSome (by_gate n p o op qs)) (sym t.redex)
    (subst (λ o. IsSome (by_gate_on n p o op op qs)) (sym t.are) (passes (is_gate_on n.qubits op qs op qs) _ all))

-- a measurement with right operands moves by each outcome
look_moves : (n : Counts) (p : Process) (qs : List ℕ) → IsRight n.qubits p (redex_of p) → Looks p qs → (m : ℕ) → m < 2 ^ length qs
    → IsSome (by_measure n p (redex_of p) qs m)
look_moves n p qs w t m h =
    let right = subst (IsRight n.qubits p) t.redex w in
    let operands = operands_are n.qubits (qubits_of t.slots) qs t.are right.qubit in
    let one = and_from (is_same_list qs qs) (are_operands n.qubits qs) (same_list qs) operands in
    let all = and_from (is_same_list qs qs && are_operands n.qubits qs) (nat_lt m (2 ^ length qs)) one (lt-ltb m (2 ^ length qs) h) in
    subst (λ o. IsSome (by_measure n p o qs m)) (sym t.redex)
    (subst (λ o. IsSome (by_measure_on n p o qs m)) (sym t.are) (passes (is_look_at n.qubits qs qs m) _ all))

-- an input with as many names
receive_moves : (p : Process) (chan : ℕ) → Receives p chan → (vs : List Val) → takes p vs ≡ true → IsSome (receives_on chan vs p)
receive_moves p chan t vs h =
    let many = subst (λ r. takes r vs ≡ true) t.is h in
    subst (λ r. IsSome (receives_on chan vs r)) (sym t.is)
    (passes ((chan == chan) && (length t.binders == length vs)) _ (and_from (chan == chan) (length t.binders == length vs) (eq-eqb chan chan refl) many))

-- the deed of a turn moves the process
told_moves : (n : Counts) (p : Process) (t : Turn) → IsRight n.qubits p (redex_of p) → IsTurn p t → MovesBy n p t
told_moves n p turn.Qbit w t = qbit_moves n p t
told_moves n p turn.New w t = new_moves n p t
told_moves n p turn.Act w t = act_moves p t
told_moves n p (turn.Add v) w t = add_moves p v t
told_moves n p (turn.Pick op) w t = pick_moves p op t
told_moves n p (turn.Gate op qs) w t = gate_moves n p op qs w t
told_moves n p (turn.Measure qs) w t = look_moves n p qs w t
told_moves n p (turn.If answer) w t = if_moves p answer t
told_moves n p (turn.Send chan vs) w t = record { sending = record { values = vs; rest = t.rest }; sends = t.is; values = refl }
told_moves n p (turn.Receive chan) w t = receive_moves p chan t

-- a process with no wrong operand moves by the deeds of its turn
pub turn_moves : (n : Counts) (p : Process) (t : Turn) → is_wrong n.qubits p ≡ false → turn_in p ≡ Some t → MovesBy n p t
turn_moves n p t h k = told_moves n p t (none_wrong n.qubits p h) (turn_told p t k)
