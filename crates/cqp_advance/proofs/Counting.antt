-- A step's sums fit, and it ends no more parts than there are.
use Rattle.std.proofs.Common.{◌≡◌, ℕ, ◌+◌, ◌≤◌, List}
use Rattle.std.proofs.Common.{subst}
use Rattle.cqp_book.specs.Run.{MayAdvance}
use Rattle.cqp_trace.specs.declared.deed.Deed.{Deed}
use Rattle.cqp_trace.specs.declared.deed.Deed.TheVariants as deed
use Rattle.cqp_trace.specs.declared.entry.Entry.{Entry}
use Rattle.cqp_machine.specs.declared.front.Front.{Front}
use Rattle.cqp_machine.specs.declared.event.Event.{Event}
use Rattle.cqp_machine.specs.declared.event.Event.TheVariants as event
use Rattle.cqp_machine.specs.Fronts.{qubits_by, chans_by, turns_by}
use Rattle.cqp_machine.specs.Machine.{factored}
use Rattle.cqp_short.specs.Bounds.{Advances}
use Rattle.cqp_short.proofs.FrontBounds.{advances}

-- what a step leaves of the counts is small, and it ends no more parts than are ready and woken
pub record StepFits (f : Front) (d : Deed) (made gone woke : ℕ) : Type 0 where
  pub qubits : f.qubits + qubits_by d ≤ 65536
  pub chans : f.chans + chans_by d ≤ 65536
  pub turns : f.turns + turns_by d ≤ 65536
  pub parts : f.parts + made ≤ 65536
  pub ready : f.ready ≤ f.parts
  pub woken : woke ≤ 1
  pub gone_within : gone ≤ f.ready + woke

-- where a step may advance a front its counts fit
pub step_fits : {f : Front} {x : Event} {e : Entry} {group made gone woke level : ℕ} → MayAdvance factored f x → x ≡ event.Step e group made gone woke level
    → StepFits f e.deed made gone woke
step_fits {f} {x} may is =
    let y = subst (Advances f) is (advances f x may) in
    record {
      qubits = y.behind.qubits;
      chans = y.behind.chans;
      turns = y.behind.turns;
      parts = y.behind.parts;
      ready = y.before.ready;
      woken = y.ready.1;
      gone_within = y.ready.0;
    }

-- a qubit more fits
pub qubit_fits : {f : Front} {d : Deed} {q made gone woke : ℕ} → StepFits f d made gone woke → d ≡ deed.Qbit q → f.qubits + 1 ≤ 65536
qubit_fits {f} x is = subst (λ d. f.qubits + qubits_by d ≤ 65536) is x.qubits

-- so does a channel more
pub chan_fits : {f : Front} {d : Deed} {c made gone woke : ℕ} → StepFits f d made gone woke → d ≡ deed.New c → f.chans + 1 ≤ 65536
chan_fits {f} x is = subst (λ d. f.chans + chans_by d ≤ 65536) is x.chans

-- and a measurement more
pub turn_fits : {f : Front} {d : Deed} {qs : List ℕ} {m made gone woke : ℕ} → StepFits f d made gone woke → d ≡ deed.Measure qs m → f.turns + 1 ≤ 65536
turn_fits {f} x is = subst (λ d. f.turns + turns_by d ≤ 65536) is x.turns

-- a part that parks is ready
pub park_fits : {f : Front} {x : Event} {i chan : ℕ} → MayAdvance factored f x → x ≡ event.Park i chan → 1 ≤ f.ready
park_fits {f} {x} may is = (subst (Advances f) is (advances f x may)).ready
