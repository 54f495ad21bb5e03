-- Where no operand is wrong a prefix has a turn.
use Rattle.std.proofs.Common.{◌≡◌, ℕ, true, false, Bool, List, [], ◌∷◌, ◌||◌, length, not, Option, Some, None, refl}
use Rattle.std.specs.Prelude.{IsSome}
use Rattle.cqp_syntax.specs.declared.op.Op.{Op}
use Rattle.cqp_syntax.specs.declared.val.Val.{Val}
use Rattle.cqp_syntax.specs.declared.val.Val.TheVariants as val
use Rattle.cqp_syntax.specs.Trees.{Slot, named, valued, Expr, slot, sig, add, apply, measure, value, Process, nil, par, new, qbit, act, input, output, branch}
use Rattle.cqp_cells.specs.Redex.{Redex, lone_name, sum, pick, gate, look, or_else, next_redex, next_redex_of, redex_of, qubits_of, values_of}
use Rattle.cqp_cells.specs.Operands.{is_channel, is_number, is_gate_with, are_qubits, asked, name_left_in, name_left_at, no_number_in, no_number_at}
use Rattle.cqp_cells.specs.Operands.{no_qubit_in, no_gate_in, no_channel_at, is_wrong}
use Rattle.cqp_standing.specs.Stands.{is_prefix}
use Rattle.cqp_turns.specs.Turns.{turn_by, turn_at, turn_after, turn_in}

-- neither of two
neither : (a b : Bool) → (a || b) ≡ false → (a ≡ false) × (b ≡ false)
neither true b h = absurd (cc h)
neither false b h = (refl, h)

-- an operand that is a number, and one that is a gate
pub number_is : (e : Expr) → not (is_number e) ≡ false → (u : ℕ) × (e ≡ value (val.Num u))
number_is (slot (valued (val.Num u))) h = (u, refl)
number_is e h = absurd (cc h)

-- an operator that is no wrong one is a gate
pub gate_is : (k : ℕ) (e : Expr) → not (is_gate_with k e) ≡ false → (o : Op) × (e ≡ value (val.Gate o))
gate_is k (slot (valued (val.Gate o))) h = (o, refl)
gate_is k e h = absurd (cc h)

-- a place that has a channel
chan_is : (c : Slot) → not (is_channel c) ≡ false → (k : ℕ) × (c ≡ valued (val.Chan k))
chan_is (valued (val.Chan k)) h = (k, refl)
chan_is c h = absurd (cc h)

-- slots that have qubits
pub qubits_are : (n : ℕ) (o : Option (List ℕ)) → not (are_qubits n o) ≡ false → (qs : List ℕ) × (o ≡ Some qs)
qubits_are n (Some qs) h = (qs, refl)
qubits_are n None h = absurd (cc h)

-- a redex has a turn
redex_turn : (n : ℕ) (r : Redex) → name_left_in r ≡ false → no_number_in r ≡ false → no_qubit_in n r ≡ false → no_gate_in r ≡ false → IsSome (turn_by r)
redex_turn n (lone_name x) a b c d = absurd (cc a)
redex_turn n (sum e f) a b c d =
    let both = neither (not (is_number e)) (not (is_number f)) b in
    let left = number_is e both.0 in
    let right = number_is f both.1 in
    rw (left.1, right.1) refl
redex_turn n (pick e) a b c d = let number = number_is e b in rw number.1 refl
redex_turn n (gate qs e) a b c d =
    let op = gate_is (length qs) e d in
    let qubits = qubits_are n (qubits_of qs) c in
    rw (op.1, qubits.1) refl
redex_turn n (look qs) a b c d = let qubits = qubits_are n (qubits_of qs) c in rw qubits.1 refl

-- no redex in either of two
none_in : (a b : Option Redex) → or_else a b ≡ None → (a ≡ None) × (b ≡ None)
none_in (Some r) b h = absurd (cc h)
none_in None b h = (refl, h)

-- an expression without one is a value
value_is : (e : Expr) → next_redex e ≡ None → (v : Val) × (e ≡ value v)
value_is (slot (valued v)) h = (v, refl)
value_is (slot (named x)) h = absurd (cc h)
value_is (sig e) h = absurd (cc (none_in (next_redex e) (Some (pick e)) h).1)
value_is (add e f) h =
    absurd (cc (none_in (next_redex f) (Some (sum e f)) (none_in (next_redex e) (or_else (next_redex f) (Some (sum e f))) h).1).1)
value_is (apply qs e) h = absurd (cc (none_in (next_redex e) (Some (gate qs e)) h).1)
value_is (measure qs) h = absurd (cc h)

-- and so are several
more_values : (e : Expr) (es : List Expr) (v : Val) (vs : List Val) → e ≡ value v → values_of es ≡ Some vs → values_of (e ∷ es) ≡ Some (v ∷ vs)
more_values e es v vs h k = rw (h, k) refl

-- expressions without a redex are values
values_are : (es : List Expr) → next_redex_of es ≡ None → (vs : List Val) × (values_of es ≡ Some vs)
values_are [] h = ([], refl)
values_are (e ∷ es) h =
    let both = none_in (next_redex e) (next_redex_of es) h in
    let first = value_is e both.0 in
    let later = values_are es both.1 in
    (first.0 ∷ later.0, more_values e es first.0 later.0 first.1 later.1)

-- a prefix whose expressions are values has a turn
prefix_turn : (p : Process) → is_prefix p ≡ true → redex_of p ≡ None → no_number_at p ≡ false → no_channel_at p ≡ false → IsSome (turn_at p)
prefix_turn nil a h b c = absurd (cc a)
prefix_turn (par p q) a h b c = absurd (cc a)
prefix_turn (new x p) a h b c = refl
prefix_turn (qbit x p) a h b c = refl
prefix_turn (act e p) a h b c = let val = value_is e (none_in (next_redex e) None h).0 in rw val.1 refl
prefix_turn (input s bs p) a h b c = let chan = chan_is s c in rw chan.1 refl
prefix_turn (output s es p) a h b c =
    let chan = chan_is s c in
    let vals = values_are es h in
    rw (chan.1, vals.1) refl
prefix_turn (branch e f p q) a h b c =
    let both = neither (not (is_number e)) (not (is_number f)) b in
    let left = number_is e both.0 in
    let right = number_is f both.1 in
    rw (left.1, right.1) refl

-- what is not wrong, one by one
pub record IsRight (n : ℕ) (p : Process) (o : Option Redex) : Type 0 where
  pub name : asked o name_left_in (name_left_at p) ≡ false
  pub number : asked o no_number_in (no_number_at p) ≡ false
  pub qubit : asked o (no_qubit_in n) false ≡ false
  pub gate : asked o no_gate_in false ≡ false
  pub chan : asked o (λ r. false) (no_channel_at p) ≡ false

-- a process with no wrong operand has right ones
pub none_wrong : (n : ℕ) (p : Process) → is_wrong n p ≡ false → IsRight n p (redex_of p)
none_wrong n p h =
    let o = redex_of p in
    let a = asked o name_left_in (name_left_at p) in
    let b = asked o no_number_in (no_number_at p) in
    let c = asked o (no_qubit_in n) false in
    let d = asked o no_gate_in false in
    let first = neither (a || b || c || d) (asked o (λ r. false) (no_channel_at p)) h in
    let second = neither (a || b || c) d first.0 in
    let third = neither (a || b) c second.0 in
    let last = neither a b third.0 in
    record { name = last.0; number = last.1; qubit = third.1; gate = second.1; chan = first.1 }

-- there is a turn where no operand is wrong
turn_there : (n : ℕ) (p : Process) (o : Option Redex) → is_prefix p ≡ true → redex_of p ≡ o → IsRight n p o → IsSome (turn_after o p)
turn_there n p (Some r) a h w = redex_turn n r w.name w.number w.qubit w.gate
turn_there n p None a h w = prefix_turn p a h w.number w.chan

-- a prefix with no wrong operand has a turn
pub has_turn : (n : ℕ) (p : Process) → is_prefix p ≡ true → is_wrong n p ≡ false → IsSome (turn_in p)
has_turn n p a h = turn_there n p (redex_of p) a refl (none_wrong n p h)
