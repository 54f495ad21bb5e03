-- What a part's process becomes by a deed is one of a row: what `moved` gives, taken apart.
use Rattle.std.proofs.Common.{◌≡◌, ℕ, ◌+◌, ◌%◌, ◌^◌, List, length, Bool, true, false, refl}
use Rattle.std.specs.Prelude.{Some, None, Option, ◌==◌, nat_lt, ◌&&◌, not}
use Rattle.cqp_syntax.specs.declared.op.Op.{Op}
use Rattle.cqp_syntax.specs.declared.val.Val.TheVariants as val
use Rattle.cqp_syntax.specs.Gates.{places_of, is_same_op}
use Rattle.cqp_syntax.specs.Lists.{is_same_list}
use Rattle.cqp_syntax.specs.Trees.{Slot, valued, slot}
use Rattle.cqp_syntax.specs.Trees.{Process, new, qbit, act, branch, value}
use Rattle.cqp_trace.specs.declared.deed.Deed.{Deed}
use Rattle.cqp_trace.specs.declared.deed.Deed.TheVariants as deed
use Rattle.cqp_vector.specs.State.{State}
use Rattle.cqp_vector.specs.Measurement.{is_outcome}
use Rattle.cqp_cells.specs.Moves.{by_qbit, by_new, by_act, by_add, by_pick, by_gate, by_gate_on, by_measure, by_measure_on, by_if, moved}
use Rattle.cqp_cells.specs.Moves.{are_operands, is_gate_on, is_look_at, picked}
use Rattle.cqp_cells.specs.Redex.{Redex, sum, pick, gate, look, redex_of, qubits_of}
use Rattle.cqp_cells.specs.Step.{has_outcome, counts_of}
use Rattle.cqp_cells.specs.Rows.{Fits, fits_qbit, fits_new, fits_act, fits_add, fits_pick, fits_gate, fits_measure, fits_yes, fits_no, process_after}
use Rattle.cqp_cells.proofs.RowTests.{provided_some, not_true, less_number}
use Rattle.cqp_syntax.proofs.Same.{same_number, same_op, same_list}
use Rattle.cqp_cells.proofs.Options.{none_is_some, both_true}

-- what is said of a part's process: it fits, and this is what it becomes
abbrev pub Move : State → ℕ → Process → Deed → Process → Type 0
Move s k p d r = Fits s k p d × (r ≡ process_after d p)

-- what makes a qubit is a binder of one, at the count of qubits
qbit_inv : (s : State) (k : ℕ) (p : Process) (q : ℕ) (r : Process) → by_qbit (counts_of s k) p q ≡ Some r → Move s k p (deed.Qbit q) r
qbit_inv s k (qbit x p) q r h =
    let both = provided_some (q == s.qubits) _ r h in
    (fits_qbit (same_number q s.qubits both.0), both.1)
qbit_inv s k p q r h = absurd (none_is_some h)

-- what makes a channel is a binder of one, at the count of channels
new_inv : (s : State) (k : ℕ) (p : Process) (n : ℕ) (r : Process) → by_new (counts_of s k) p n ≡ Some r → Move s k p (deed.New n) r
new_inv s k (new b p) n r h =
    let both = provided_some (n == k) _ r h in
    (fits_new (same_number n k both.0), both.1)
new_inv s k p n r h = absurd (none_is_some h)

-- two things that are there are equal
some_same : {X : Type 0} {x y : X} → Some x ≡ Some y → y ≡ x
some_same e = cc

-- what ends an action is one whose expression is a value
act_inv : (s : State) (k : ℕ) (p r : Process) → by_act p ≡ Some r → Move s k p deed.Act r
act_inv s k (act (slot (valued v)) p) r h = (fits_act, some_same h)
act_inv s k p r h = absurd (none_is_some h)

-- what adds has two numbers as its next redex
add_inv : (s : State) (k : ℕ) (p : Process) (x : Option Redex) (v : ℕ) (r : Process) → redex_of p ≡ x → by_add p x v ≡ Some r → Move s k p (deed.Add v) r
add_inv s k p (Some (sum (slot (valued (val.Num u))) (slot (valued (val.Num w))))) v r at h =
    let both = provided_some (v == (u + w) % 2 ^ 32) _ r h in
    (fits_add at (same_number v ((u + w) % 2 ^ 32) both.0), both.1)
add_inv s k p x v r at h = absurd (none_is_some h)

-- what picks has a number as its next redex
pick_inv : (s : State) (k : ℕ) (p : Process) (x : Option Redex) (o : Op) (r : Process) → redex_of p ≡ x → by_pick p x o ≡ Some r → Move s k p (deed.Pick o) r
pick_inv s k p (Some (pick (slot (valued (val.Num u))))) o r at h =
    let both = provided_some (is_same_op o (picked u)) _ r h in
    (fits_pick at (same_op o (picked u) both.0), both.1)
pick_inv s k p x o r at h = absurd (none_is_some h)

-- a gate that fits names its operator and its qubits
gate_on_inv : (s : State) (k : ℕ) (p : Process) (ss : List Slot) (o : Op) (found : Option (List ℕ)) (u : Op) (qs : List ℕ) (r : Process)
    → redex_of p ≡ Some (gate ss (value (val.Gate o))) → qubits_of ss ≡ found → by_gate_on (counts_of s k) p found o u qs ≡ Some r
    → Move s k p (deed.Gate u qs) r
gate_on_inv s k p ss o None u qs r at have h = absurd (none_is_some h)
gate_on_inv s k p ss o (Some rs) u qs r at have h =
    (fits_gate at_u have_qs (same_number (length qs) (places_of u) places_u) operands_too.1, (provided_some (is_gate_on s.qubits o rs u qs) _ r h).1)
  where
    passed : is_gate_on s.qubits o rs u qs ≡ true
    passed = (provided_some (is_gate_on s.qubits o rs u qs) _ r h).0

    operands_too : ((is_same_op o u && is_same_list rs qs && (length qs == places_of o)) ≡ true) × (are_operands s.qubits qs ≡ true)
    operands_too = both_true (is_same_op o u && is_same_list rs qs && (length qs == places_of o)) (are_operands s.qubits qs) passed

    places_too : ((is_same_op o u && is_same_list rs qs) ≡ true) × ((length qs == places_of o) ≡ true)
    places_too = both_true (is_same_op o u && is_same_list rs qs) (length qs == places_of o) operands_too.0

    names_too : (is_same_op o u ≡ true) × (is_same_list rs qs ≡ true)
    names_too = both_true (is_same_op o u) (is_same_list rs qs) places_too.0

    same : o ≡ u
    same = same_op o u names_too.0

    list : rs ≡ qs
    list = same_list rs qs names_too.1

    at_u : redex_of p ≡ Some (gate ss (value (val.Gate u)))
    at_u = rw same at at

    have_qs : qubits_of ss ≡ Some qs
    have_qs = rw list at have

    places_u : (length qs == places_of u) ≡ true
    places_u = rw same at places_too.1

-- what applies a gate has it on these qubits as its next redex
gate_inv : (s : State) (k : ℕ) (p : Process) (x : Option Redex) (u : Op) (qs : List ℕ) (r : Process) → redex_of p ≡ x
    → by_gate (counts_of s k) p x u qs ≡ Some r
    → Move s k p (deed.Gate u qs) r
gate_inv s k p (Some (gate ss (slot (valued (val.Gate o))))) u qs r at h = gate_on_inv s k p ss o (qubits_of ss) u qs r at refl h
gate_inv s k p x u qs r at h = absurd (none_is_some h)

-- what measures has slots with these qubits as its next redex
measure_on_inv : (s : State) (k : ℕ) (p : Process) (ss : List Slot) (found : Option (List ℕ)) (qs : List ℕ) (m : ℕ) (r : Process) → is_outcome qs s m ≡ true
    → redex_of p ≡ Some (look ss) → qubits_of ss ≡ found → by_measure_on (counts_of s k) p found qs m ≡ Some r → Move s k p (deed.Measure qs m) r
measure_on_inv s k p ss None qs m r outcome at have h = absurd (none_is_some h)
measure_on_inv s k p ss (Some rs) qs m r outcome at have h =
    (fits_measure at have_qs operands_too.1 (less_number m (2 ^ length qs) below_too.1) outcome, (provided_some (is_look_at s.qubits rs qs m) _ r h).1)
  where
    passed : is_look_at s.qubits rs qs m ≡ true
    passed = (provided_some (is_look_at s.qubits rs qs m) _ r h).0

    below_too : ((is_same_list rs qs && are_operands s.qubits qs) ≡ true) × (nat_lt m (2 ^ length qs) ≡ true)
    below_too = both_true (is_same_list rs qs && are_operands s.qubits qs) (nat_lt m (2 ^ length qs)) passed

    operands_too : (is_same_list rs qs ≡ true) × (are_operands s.qubits qs ≡ true)
    operands_too = both_true (is_same_list rs qs) (are_operands s.qubits qs) below_too.0

    list : rs ≡ qs
    list = same_list rs qs operands_too.0

    have_qs : qubits_of ss ≡ Some qs
    have_qs = rw list at have

-- so of any redex
measure_inv : (s : State) (k : ℕ) (p : Process) (x : Option Redex) (qs : List ℕ) (m : ℕ) (r : Process) → is_outcome qs s m ≡ true → redex_of p ≡ x
    → by_measure (counts_of s k) p x qs m ≡ Some r → Move s k p (deed.Measure qs m) r
measure_inv s k p (Some (look ss)) qs m r outcome at h = measure_on_inv s k p ss (qubits_of ss) qs m r outcome at refl h
measure_inv s k p x qs m r outcome at h = absurd (none_is_some h)

-- what takes a branch compares two numbers, as the answer says
if_inv : (s : State) (k : ℕ) (p : Process) (answer : Bool) (r : Process) → by_if p answer ≡ Some r → Move s k p (deed.If answer) r
if_inv s k (branch (slot (valued (val.Num u))) (slot (valued (val.Num w))) p q) true r h =
    let both = provided_some (u == w) _ r h in
    (fits_yes (same_number u w both.0), both.1)
if_inv s k (branch (slot (valued (val.Num u))) (slot (valued (val.Num w))) p q) false r h =
    let both = provided_some (not (u == w)) _ r h in
    (fits_no (not_true (u == w) both.0), both.1)
if_inv s k p answer r h = absurd (none_is_some h)

-- a process that moves
pub moved_inv : (s : State) (k : ℕ) (p : Process) (d : Deed) (r : Process) → has_outcome s d ≡ true → moved (counts_of s k) p d ≡ Some r → Move s k p d r
moved_inv s k p (deed.Qbit q) r outcome h = qbit_inv s k p q r h
moved_inv s k p (deed.New n) r outcome h = new_inv s k p n r h
moved_inv s k p deed.Act r outcome h = act_inv s k p r h
moved_inv s k p (deed.Add v) r outcome h = add_inv s k p (redex_of p) v r refl h
moved_inv s k p (deed.Pick o) r outcome h = pick_inv s k p (redex_of p) o r refl h
moved_inv s k p (deed.Gate o qs) r outcome h = gate_inv s k p (redex_of p) o qs r refl h
moved_inv s k p (deed.Measure qs m) r outcome h = measure_inv s k p (redex_of p) qs m r outcome refl h
moved_inv s k p (deed.If answer) r outcome h = if_inv s k p answer r h
moved_inv s k p (deed.Com to chan) r outcome h = absurd (none_is_some h)
