-- A reduction is what its part's process becomes, and what becomes of the state.
use Rattle.std.proofs.Common.{◌≡◌, ℕ, true, List, ◌^◌, ◌==◌, ◌&&◌, length, nat_lt, Option, Some, None, refl, ap, ◌∙◌}
use Rattle.std.specs.Prelude.{if◌then◌else◌}
use Rattle.std.specs.Option.{option_map}
use Rattle.std.proofs.lemmas.Bool.{and_parts, eqb-true}
use Rattle.cqp_syntax.specs.declared.op.Op.{Op}
use Rattle.cqp_syntax.specs.declared.val.Val.TheVariants as val
use Rattle.cqp_syntax.specs.Gates.{places_of, is_same_op}
use Rattle.cqp_syntax.specs.Lists.{is_same_list}
use Rattle.cqp_syntax.specs.Trees.{valued, slot, Process}
use Rattle.cqp_trace.specs.declared.deed.Deed.{Deed}
use Rattle.cqp_trace.specs.declared.deed.Deed.TheVariants as deed
use Rattle.cqp_trace.specs.declared.entry.Entry.{Entry}
use Rattle.cqp_vector.specs.Measurement.{is_outcome}
use Rattle.cqp_cells.specs.Config.{Config, part_at, continued}
use Rattle.cqp_cells.specs.Moves.{Counts, moved, by_gate, by_gate_on, by_measure, by_measure_on, is_look_at, is_gate_on, are_operands, Sending, sends_on}
use Rattle.cqp_cells.specs.Moves.{receives_on}
use Rattle.cqp_cells.specs.Redex.{Redex, gate, look, qubits_of}
use Rattle.cqp_cells.specs.Step.{next, row_of, own_row, met, with_deed, has_outcome, counts_of}
use Rattle.cqp_syntax.proofs.Same.{same_op}
use Rattle.cqp_cells.proofs.Options.{none_is_some}
use Rattle.cqp_parts.proofs.Continuations.{provided_true}

-- the counts of a configuration
abbrev pub counts_in : Config → Counts
counts_in c = counts_of c.state c.chans

-- an outcome of a measurement isn't zero
abbrev pub HasOutcome : Config → Deed → Type 0
HasOutcome c (deed.Measure qs m) = is_outcome qs c.state m ≡ true
HasOutcome c d = Unit {0}

-- an outcome of the state passes the test
outcome_test : (c : Config) (d : Deed) → HasOutcome c d → has_outcome c.state d ≡ true
outcome_test c (deed.Measure qs m) o = o
outcome_test c _ o = refl

-- a gate that is applied has as many operands as places, distinct and made
pub record HasOperands (n : ℕ) (o : Op) (qs : List ℕ) : Type 0 where
  pub count : length qs ≡ places_of o
  pub operands : are_operands n qs ≡ true

-- a gate on qubits that are known has right operands
operands_on : (n : Counts) (p : Process) (rs : Option (List ℕ)) (o u : Op) (qs : List ℕ) (r : Process) → by_gate_on n p rs o u qs ≡ Some r
    → HasOperands n.qubits u qs
operands_on n p (Some rs) o u qs r h =
    let all = provided_true (is_gate_on n.qubits o rs u qs) _ r h in
    let three = and_parts (is_same_op o u && is_same_list rs qs && (length qs == places_of o)) (are_operands n.qubits qs) all in
    let two = and_parts (is_same_op o u && is_same_list rs qs) (length qs == places_of o) three.0 in
    let same = same_op o u (and_parts (is_same_op o u) (is_same_list rs qs) two.0).0 in
    record { count = eqb-true (length qs) (places_of o) two.1 ∙ ap places_of same; operands = three.1 }
operands_on n p None o u qs r h = absurd (none_is_some {x = r} h)

-- so has each gate
pub operands_of : (n : Counts) (p : Process) (x : Option Redex) (u : Op) (qs : List ℕ) (r : Process) → by_gate n p x u qs ≡ Some r → HasOperands n.qubits u qs
operands_of n p (Some (gate ss (slot (valued (val.Gate o))))) u qs r h = operands_on n p (qubits_of ss) o u qs r h
operands_of n p x u qs r h = absurd (none_is_some {x = r} h)

-- a measurement's qubits are distinct
measured_on : (n : Counts) (p : Process) (rs : Option (List ℕ)) (qs : List ℕ) (m : ℕ) (r : Process) → by_measure_on n p rs qs m ≡ Some r
    → are_operands n.qubits qs ≡ true
measured_on n p (Some rs) qs m r h =
    let all = provided_true (is_look_at n.qubits rs qs m) _ r h in
    let two = and_parts (is_same_list rs qs && are_operands n.qubits qs) (nat_lt m (2 ^ length qs)) all in
    (and_parts (is_same_list rs qs) (are_operands n.qubits qs) two.0).1
measured_on n p None qs m r h = absurd (none_is_some {x = r} h)

-- so has a measurement
pub measured_operands : (n : Counts) (p : Process) (x : Option Redex) (qs : List ℕ) (m : ℕ) (r : Process) → by_measure n p x qs m ≡ Some r
    → are_operands n.qubits qs ≡ true
measured_operands n p (Some (look ss)) qs m r h = measured_on n p (qubits_of ss) qs m r h
measured_operands n p x qs m r h = absurd (none_is_some {x = r} h)

-- an entry whose part is there
at_part : (c : Config) (e : Entry) (p : Process) → part_at e.part c.parts ≡ Some p → next c e ≡ row_of c e.part p e.deed
at_part c e p h = rw h refl

-- part i goes on, in the configuration that the deed makes
goes : (c : Config) (i : ℕ) (p : Process) (d : Deed) (r : Process) → moved (counts_in c) p d ≡ Some r → has_outcome c.state d ≡ true
    → own_row c i p d ≡ Some (continued i r (with_deed d c))
goes c i p d r h o =
    ap (λ b. if b then option_map (λ q. continued i q (with_deed d c)) (moved (counts_in c) p d) else None) o
    ∙ ap (λ x. option_map (λ q. continued i q (with_deed d c)) x) h

-- the row of a deed of the part's own
own_goes : (c : Config) (i : ℕ) (p : Process) (d : Deed) (r : Process) → moved (counts_in c) p d ≡ Some r → has_outcome c.state d ≡ true
    → row_of c i p d ≡ Some (continued i r (with_deed d c))
own_goes c i p (deed.Com to chan) r h o = absurd (none_is_some {x = r} h)
own_goes c i p d r h o = goes c i p d r h o

-- a part's own deed leads to the configuration that its row says
pub own_next : (c : Config) (e : Entry) (p r : Process) → part_at e.part c.parts ≡ Some p → moved (counts_in c) p e.deed ≡ Some r → HasOutcome c e.deed
    → next c e ≡ Some (continued e.part r (with_deed e.deed c))
own_next c e p r there h o = at_part c e p there ∙ own_goes c e.part p e.deed r h (outcome_test c e.deed o)

-- a communication leads from row to row
pub com_next : (c : Config) (i to chan : ℕ) (p q r : Process) (s : Sending) → part_at i c.parts ≡ Some p → part_at to c.parts ≡ Some q
    → sends_on chan p ≡ Some s → receives_on chan s.values q ≡ Some r
    → next c (record { part = i; deed = deed.Com to chan }) ≡ Some (continued to r (continued i s.rest c))
com_next c i to chan p q r s here there h g =
    at_part c (record { part = i; deed = deed.Com to chan }) p here
    ∙ ap (λ o. met c i to chan o (part_at to c.parts)) h
    ∙ ap (λ o. met c i to chan (Some s) o) there
    ∙ ap (λ o. option_map (λ t. continued to t (continued i s.rest c)) o) g
