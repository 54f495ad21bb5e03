-- What a turn says of a process.
use Rattle.std.proofs.Common.{◌≡◌, ℕ, List, ◌+◌, ◌%◌, ◌^◌, ◌==◌, Option, Some, None, Result, Ok, Err, refl, subst}
use Rattle.std.specs.Prelude.{IfOk}
use Rattle.std.proofs.lemmas.Bool.{eq-eqb}
use Rattle.cqp_syntax.specs.declared.op.Op.{Op}
use Rattle.cqp_syntax.specs.declared.val.Val.{Val}
use Rattle.cqp_syntax.specs.declared.val.Val.TheVariants as val
use Rattle.cqp_syntax.specs.Trees.{Slot, valued, Expr, slot, value, Process, new, qbit, act, input, output, branch}
use Rattle.cqp_cells.specs.Moves.{sends_on}
use Rattle.cqp_cells.specs.Redex.{Redex, sum, pick, gate, look, redex_of, qubits_of, values_of}
use Rattle.cqp_turns.specs.declared.turn.Turn.{Turn}
use Rattle.cqp_turns.specs.declared.turn.Turn.TheVariants as turn
use Rattle.cqp_turns.specs.Turns.{gate_turn, look_turn, send_turn, turn_by, turn_at, turn_after, turn_in, IsTurn}

-- the turn that is there
is_told : (p : Process) (t u : Turn) → Some t ≡ Some u → IsTurn p t → IsTurn p u
is_told p t u h a = let same : t ≡ u = cc h in subst (IsTurn p) same a

-- by the next redex
gate_told : (p : Process) (ss : List Slot) (o : Op) (q : Option (List ℕ)) (t : Turn) → redex_of p ≡ Some (gate ss (value (val.Gate o))) → qubits_of ss ≡ q
    → gate_turn o q ≡ Some t → IsTurn p t
gate_told p ss o (Some qs) t k j h = is_told p (turn.Gate o qs) t h (record { slots = ss; redex = k; are = j })
gate_told p ss o None t k j h = absurd (cc h)

-- the turn of a measurement says what its redex is
look_told : (p : Process) (ss : List Slot) (q : Option (List ℕ)) (t : Turn) → redex_of p ≡ Some (look ss) → qubits_of ss ≡ q → look_turn q ≡ Some t → IsTurn p t
look_told p ss (Some qs) t k j h = is_told p (turn.Measure qs) t h (record { slots = ss; redex = k; are = j })
look_told p ss None t k j h = absurd (cc h)

-- the turn of a redex says what it is
by_redex : (p : Process) (r : Redex) (t : Turn) → redex_of p ≡ Some r → turn_by r ≡ Some t → IsTurn p t
by_redex p (sum (slot (valued (val.Num u))) (slot (valued (val.Num w)))) t k h =
    is_told p (turn.Add ((u + w) % 2 ^ 32)) t h (record { left = u; right = w; redex = k; is = refl })
by_redex p (pick (slot (valued (val.Num u)))) t k h = is_told p (turn.Pick _) t h (record { number = u; redex = k; is = refl })
by_redex p (gate ss (slot (valued (val.Gate o)))) t k h = gate_told p ss o (qubits_of ss) t k refl h
by_redex p (look ss) t k h = look_told p ss (qubits_of ss) t k refl h
by_redex p r t k h = absurd (cc h)

-- by the prefix
send_told : (k : ℕ) (es : List Expr) (p : Process) (vs : Option (List Val)) (t : Turn) → values_of es ≡ vs → send_turn k vs ≡ Some t
    → IsTurn (output (valued (val.Chan k)) es p) t
send_told k es p (Some vs) t j h =
    let told : sends_on k (output (valued (val.Chan k)) es p) ≡ Some (record { values = vs; rest = p }) = rw (j, eq-eqb k k refl) refl in
    is_told (output (valued (val.Chan k)) es p) (turn.Send k vs) t h (record { rest = p; is = told })
send_told k es p None t j h = absurd (cc h)

-- the turn of a prefix says what it is
by_prefix : (p : Process) (t : Turn) → turn_at p ≡ Some t → IsTurn p t
by_prefix (new b p) t h = is_told (new b p) turn.New t h (record { binder = b; body = p; is = refl })
by_prefix (qbit x p) t h = is_told (qbit x p) turn.Qbit t h (record { name = x; body = p; is = refl })
by_prefix (act (slot (valued v)) p) t h = is_told (act (value v) p) turn.Act t h (record { val = v; body = p; is = refl })
by_prefix (input (valued (val.Chan k)) bs p) t h =
    is_told (input (valued (val.Chan k)) bs p) (turn.Receive k) t h (record { binders = bs; body = p; is = refl })
by_prefix (output (valued (val.Chan k)) es p) t h = send_told k es p (values_of es) t refl h
by_prefix (branch (slot (valued (val.Num u))) (slot (valued (val.Num w))) p q) t h =
    is_told (branch (value (val.Num u)) (value (val.Num w)) p q) (turn.If (u == w)) t h
    (record { left = u; right = w; first = p; other = q; is = refl; answer = refl })
by_prefix p t h = absurd (cc h)

-- so it is whether a redex is left or not
by_either : (p : Process) (o : Option Redex) (t : Turn) → redex_of p ≡ o → turn_after o p ≡ Some t → IsTurn p t
by_either p (Some r) t k h = by_redex p r t k h
by_either p None t k h = by_prefix p t h

-- the turn of a process is a turn of it
pub turn_told : (p : Process) (t : Turn) → turn_in p ≡ Some t → IsTurn p t
turn_told p t h = by_either p (redex_of p) t refl h

-- where memory doesn't run out
pub turns_told : {E : Type 0} (p : Process) (r : Result Turn E) → IfOk r (λ t. turn_in p ≡ Some t) → IfOk r (λ t. IsTurn p t)
turns_told p (Ok t) h = turn_told p t h
turns_told p (Err e) h = tt
