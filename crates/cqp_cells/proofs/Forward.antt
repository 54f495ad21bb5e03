-- What fits is a reduction: the rows, read from the process to the entry.
use Rattle.std.proofs.Common.{◌≡◌, ℕ, ◌+◌, ◌<◌, ◌%◌, ◌^◌, List, [], ◌∷◌, length, Bool, true, refl, ap, ◌∙◌, arith}
use Rattle.std.specs.Prelude.{Some, None, ◌==◌, nat_lt, ◌&&◌, not, if◌then◌else◌}
use Rattle.std.specs.Option.{option_and_then, option_map}
use Rattle.std.proofs.lemmas.Bool.Decides.{nat_tests}
use Rattle.cqp_syntax.specs.declared.op.Op.{Op}
use Rattle.cqp_syntax.specs.declared.val.Val.{Val}
use Rattle.cqp_syntax.specs.declared.val.Val.TheVariants as val
use Rattle.cqp_syntax.specs.Gates.{places_of, is_same_op, op_number}
use Rattle.cqp_syntax.specs.Lists.{is_same_list}
use Rattle.cqp_syntax.specs.Trees.{valued, Expr, Binder, Process, input, output}
use Rattle.cqp_syntax.specs.Substitution.{with_values}
use Rattle.cqp_trace.specs.declared.deed.Deed.{Deed}
use Rattle.cqp_trace.specs.declared.deed.Deed.TheVariants as deed
use Rattle.cqp_vector.specs.State.{State}
use Rattle.cqp_cells.specs.Config.{Config, part_at, continued}
use Rattle.cqp_cells.specs.Examples.{by}
use Rattle.cqp_cells.specs.Moves.{provided, moved, by_add, by_pick, by_gate, by_gate_on, by_measure, by_measure_on, is_gate_on, is_look_at, picked}
use Rattle.cqp_cells.specs.Moves.{Sending, sends_with, sends_on}
use Rattle.cqp_cells.specs.Redex.{values_of}
use Rattle.cqp_cells.specs.Step.{next, row_of, own_row, met, with_deed, has_outcome, counts_of}
use Rattle.cqp_cells.specs.Rows.{Fits, fits_qbit, fits_new, fits_act, fits_add, fits_pick}
use Rattle.cqp_cells.specs.Rows.{fits_gate, fits_measure, fits_yes, fits_no, process_after, alone_after}

-- a number passes the test of equality with itself
same_test : (n : ℕ) → (n == n) ≡ true
same_test n = grind (arith, nat_tests)

-- equal numbers pass the test
number_test : (x y : ℕ) → x ≡ y → (x == y) ≡ true
number_test x y h = grind (arith, nat_tests)

-- lesser numbers pass the test of less
less_test : (x y : ℕ) → x < y → nat_lt x y ≡ true
less_test x y h = grind (arith, nat_tests)

-- equal gates pass the test of equality
op_test : (o u : Op) → o ≡ u → is_same_op o u ≡ true
op_test o u h = number_test (op_number o) (op_number u) (ap op_number h)

-- a list passes it with itself
list_test : (xs : List ℕ) → is_same_list xs xs ≡ true
list_test [] = refl
list_test (x ∷ xs) = let first = same_test x in rw first (list_test xs)

-- a test that passes gives what it was given
provided_yes : {X : Type 0} (b : Bool) (x : X) → b ≡ true → provided b x ≡ Some x
provided_yes b x e = rw e

-- two tests that pass, pass together
and_true : (a b : Bool) → a ≡ true → b ≡ true → (a && b) ≡ true
and_true a b p q = rw p q

-- what the process of what fits becomes
pub fits_moved : {s : State} {k : ℕ} {p : Process} {d : Deed} → Fits s k p d → moved (counts_of s k) p d ≡ Some (process_after d p)
fits_moved {s} {k} (fits_qbit {q = q} same) = provided_yes (q == s.qubits) _ (number_test q s.qubits same)
fits_moved {s} {k} (fits_new {k = n} same) = provided_yes (n == k) _ (number_test n k same)
fits_moved fits_act = refl
fits_moved (fits_add {p = p} {u = u} {w = w} {v = v} at same) =
    ap (λ r. by_add p r v) at ∙ provided_yes (v == (u + w) % 2 ^ 32) _ (number_test v ((u + w) % 2 ^ 32) same)
fits_moved (fits_pick {p = p} {u = u} {o = o} at same) =
    ap (λ r. by_pick p r o) at ∙ provided_yes (is_same_op o (picked u)) _ (op_test o (picked u) same)
fits_moved {s} {k} (fits_gate {p = p} {ss = ss} {o = o} {qs = qs} at have places operands) =
    ap (λ r. by_gate (counts_of s k) p r o qs) at ∙ ap (λ f. by_gate_on (counts_of s k) p f o o qs) have
    ∙ provided_yes (is_gate_on s.qubits o qs o qs) _
    (and_true _ _ (and_true _ _ (and_true _ _ (op_test o o refl) (list_test qs)) (number_test (length qs) (places_of o) places)) operands)
fits_moved {s} {k} (fits_measure {p = p} {ss = ss} {qs = qs} {m = m} at have operands below outcome) =
    ap (λ r. by_measure (counts_of s k) p r qs m) at ∙ ap (λ f. by_measure_on (counts_of s k) p f qs m) have
    ∙ provided_yes (is_look_at s.qubits qs qs m) _
    (and_true _ _ (and_true _ _ (list_test qs) operands) (less_test m (2 ^ length qs) below))
fits_moved (fits_yes {u = u} {w = w} same) = provided_yes (u == w) _ (number_test u w same)
fits_moved (fits_no {u = u} {w = w} differs) = provided_yes (not (u == w)) _ (ap not differs)

-- a deed that fits has an outcome of the distribution, if it measures
fits_outcome : {s : State} {k : ℕ} {p : Process} {d : Deed} → Fits s k p d → has_outcome s d ≡ true
fits_outcome (fits_qbit same) = refl
fits_outcome (fits_new same) = refl
fits_outcome fits_act = refl
fits_outcome (fits_add at same) = refl
fits_outcome (fits_pick at same) = refl
fits_outcome (fits_gate at have places operands) = refl
fits_outcome (fits_measure at have operands below outcome) = outcome
fits_outcome (fits_yes same) = refl
fits_outcome (fits_no differs) = refl

-- no communication fits a part alone
own_is : (c : Config) (i : ℕ) {s : State} {k : ℕ} {p : Process} {d : Deed} → Fits s k p d → row_of c i p d ≡ own_row c i p d
own_is c i (fits_qbit same) = refl
own_is c i (fits_new same) = refl
own_is c i fits_act = refl
own_is c i (fits_add at same) = refl
own_is c i (fits_pick at same) = refl
own_is c i (fits_gate at have places operands) = refl
own_is c i (fits_measure at have operands below outcome) = refl
own_is c i (fits_yes same) = refl
own_is c i (fits_no differs) = refl

-- the row of what fits
row_fits : (c : Config) (i : ℕ) {p : Process} {d : Deed} → Fits c.state c.chans p d → row_of c i p d ≡ Some (alone_after c i p d)
row_fits c i {p} {d} fits =
    own_is c i fits
    ∙ ap (λ b. if b then option_map (λ r. continued i r (with_deed d c)) (moved (counts_of c.state c.chans) p d) else None) (fits_outcome fits)
    ∙ ap (λ o. option_map (λ r. continued i r (with_deed d c)) o) (fits_moved fits)

-- the entry of what fits
pub fits_next : (c : Config) (i : ℕ) {p : Process} {d : Deed} → part_at i c.parts ≡ Some p → Fits c.state c.chans p d
    → next c (by i d) ≡ Some (alone_after c i p d)
fits_next c i {p} {d} at fits = ap (λ o. option_and_then (λ q. row_of c i q d) o) at ∙ row_fits c i fits

-- a ready output and an input with as many binders on one channel
pub meeting_next : (c : Config) (i to k : ℕ) (es : List Expr) (p : Process) (bs : List Binder) (q : Process) (vs : List Val)
    → part_at i c.parts ≡ Some (output (valued (val.Chan k)) es p)
    → part_at to c.parts ≡ Some (input (valued (val.Chan k)) bs q) → values_of es ≡ Some vs → length bs ≡ length vs
    → next c (by i (deed.Com to k)) ≡ Some (continued to (with_values bs vs q) (continued i p c))
meeting_next c i to k es p bs q vs sends receives are count =
    ap (λ o. option_and_then (λ r. row_of c i r (deed.Com to k)) o) sends
    ∙ ap (λ o. met c i to k o (part_at to c.parts)) sent
    ∙ ap (λ r. met c i to k (Some sending) r) receives
    ∙ ap (λ o. option_map (λ r. continued to r (continued i p c)) o)
    (provided_yes ((k == k) && (length bs == length vs)) _ (and_true _ _ (same_test k) (number_test (length bs) (length vs) count)))
  where
    sending : Sending
    sending = record { values = vs; rest = p }

    sent : sends_on k (output (valued (val.Chan k)) es p) ≡ Some sending
    sent = ap (λ f. option_and_then (λ (s : Sending). provided (k == k) s) (sends_with p f)) are ∙ provided_yes (k == k) _ (same_test k)
