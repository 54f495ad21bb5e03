-- What a part does next, told from its process alone.
use Rattle.std.specs.Prelude.{◌≡◌, ℕ, ◌+◌, ◌%◌, ◌^◌, List, Bool, ◌==◌, Option, Some, None}
use Rattle.cqp_syntax.specs.declared.op.Op.{Op}
use Rattle.cqp_syntax.specs.declared.op.Op.TheVariants as op
use Rattle.cqp_syntax.specs.declared.val.Val.{Val}
use Rattle.cqp_syntax.specs.declared.val.Val.TheVariants as val
use Rattle.cqp_syntax.specs.Trees.{Process, Binder, Slot, valued, slot, value, new, qbit, act}
use Rattle.cqp_syntax.specs.Trees.{input, output, branch}
use Rattle.cqp_cells.specs.Moves.{picked, sends_on}
use Rattle.cqp_cells.specs.Redex.{Redex, sum, pick, gate, look, redex_of, qubits_of, values_of}
use Rattle.cqp_turns.specs.declared.turn.Turn.{Turn}
use Rattle.cqp_turns.specs.declared.turn.Turn.TheVariants as turn

-- the number, the gate, the qubit and the channel that a value is
abbrev pub number_of : Val → ℕ
number_of (val.Num u) = u
number_of v = 0

abbrev pub gate_in : Val → Op
gate_in (val.Gate o) = o
gate_in v = op.I

abbrev pub qubit_in : Val → ℕ
qubit_in (val.Qubit q) = q
qubit_in v = 0

abbrev pub chan_in : Val → ℕ
chan_in (val.Chan k) = k
chan_in v = 0

-- the turn of a gate, of a measurement, and of an output
abbrev pub gate_turn : Op → Option (List ℕ) → Option Turn
gate_turn o None = None
gate_turn o (Some qs) = Some (turn.Gate o qs)

abbrev pub look_turn : Option (List ℕ) → Option Turn
look_turn None = None
look_turn (Some qs) = Some (turn.Measure qs)

abbrev pub send_turn : ℕ → Option (List Val) → Option Turn
send_turn k None = None
send_turn k (Some vs) = Some (turn.Send k vs)

-- the turn of a process with a next redex
abbrev pub turn_by : Redex → Option Turn
turn_by (sum (slot (valued (val.Num u))) (slot (valued (val.Num w)))) =
    Some (turn.Add ((u + w) % 2 ^ 32))
turn_by (pick (slot (valued (val.Num u)))) = Some (turn.Pick (picked u))
turn_by (gate ss (slot (valued (val.Gate o)))) = gate_turn o (qubits_of ss)
turn_by (look ss) = look_turn (qubits_of ss)
turn_by r = None

-- and of one without
abbrev pub turn_at : Process → Option Turn
turn_at (new b p) = Some turn.New
turn_at (qbit x p) = Some turn.Qbit
turn_at (act (slot (valued v)) p) = Some turn.Act
turn_at (input (valued (val.Chan k)) bs p) = Some (turn.Receive k)
turn_at (output (valued (val.Chan k)) es p) = send_turn k (values_of es)
turn_at (branch (slot (valued (val.Num u))) (slot (valued (val.Num w))) p q) =
    Some (turn.If (u == w))
turn_at p = None

-- a process's turn, unless an operand is wrong
abbrev pub turn_after : Option Redex → Process → Option Turn
turn_after None p = turn_at p
turn_after (Some r) p = turn_by r

abbrev pub turn_in : Process → Option Turn
turn_in p = turn_after (redex_of p) p

-- a binder of a qubit, and of a channel
pub record BindsQubit (p : Process) : Type 0 where
  pub name : ℕ
  pub body : Process
  pub is : p ≡ qbit name body

pub record BindsChan (p : Process) : Type 0 where
  pub binder : Binder
  pub body : Process
  pub is : p ≡ new binder body

-- an action whose expression is a value
pub record EndsAct (p : Process) : Type 0 where
  pub val : Val
  pub body : Process
  pub is : p ≡ act (value val) body

-- a choice between two numbers
pub record Chooses (p : Process) (taken : Bool) : Type 0 where
  pub left : ℕ
  pub right : ℕ
  pub first : Process
  pub other : Process
  pub is : p ≡ branch (value (val.Num left)) (value (val.Num right)) first other
  pub answer : taken ≡ (left == right)

-- the next redex is this sum, pick, gate or measurement
pub record Adds (p : Process) (v : ℕ) : Type 0 where
  pub left : ℕ
  pub right : ℕ
  pub redex : redex_of p ≡ Some (sum (value (val.Num left)) (value (val.Num right)))
  pub is : v ≡ (left + right) % 2 ^ 32

pub record Picks (p : Process) (op : Op) : Type 0 where
  pub number : ℕ
  pub redex : redex_of p ≡ Some (pick (value (val.Num number)))
  pub is : op ≡ picked number

pub record Applies (p : Process) (op : Op) (qs : List ℕ) : Type 0 where
  pub slots : List Slot
  pub redex : redex_of p ≡ Some (gate slots (value (val.Gate op)))
  pub are : qubits_of slots ≡ Some qs

pub record Looks (p : Process) (qs : List ℕ) : Type 0 where
  pub slots : List Slot
  pub redex : redex_of p ≡ Some (look slots)
  pub are : qubits_of slots ≡ Some qs

-- ready to send these values, and ready to receive as many
pub record Sends (p : Process) (chan : ℕ) (vs : List Val) : Type 0 where
  pub rest : Process
  pub is : sends_on chan p ≡ Some (record { values = vs; rest = rest })

pub record Receives (p : Process) (chan : ℕ) : Type 0 where
  pub binders : List Binder
  pub body : Process
  pub is : p ≡ input (valued (val.Chan chan)) binders body

-- what the turn says of the process
abbrev pub IsTurn : Process → Turn → Type 0
IsTurn p turn.Qbit = BindsQubit p
IsTurn p turn.New = BindsChan p
IsTurn p turn.Act = EndsAct p
IsTurn p (turn.Add v) = Adds p v
IsTurn p (turn.Pick op) = Picks p op
IsTurn p (turn.Gate op qs) = Applies p op qs
IsTurn p (turn.Measure qs) = Looks p qs
IsTurn p (turn.Send chan vs) = Sends p chan vs
IsTurn p (turn.Receive chan) = Receives p chan
IsTurn p (turn.If answer) = Chooses p answer
