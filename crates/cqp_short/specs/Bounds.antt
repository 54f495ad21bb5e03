-- What a run's front counts at most, so that code can count it.
use Rattle.std.specs.Prelude.{ℕ, ◌+◌, ◌≤◌, List}
use Rattle.cqp_syntax.specs.Trees.{Process, nil, par, new, qbit, act, input, output, branch}
use Rattle.cqp_syntax.specs.Listing.{Listing, IsProc, root}
use Rattle.cqp_book.specs.Run.{IsRun, MayAdvance}
use Rattle.cqp_machine.specs.Fronts.{front_after}
use Rattle.cqp_machine.specs.declared.front.Front.{Front}
use Rattle.cqp_machine.specs.declared.event.Event.{Event}
use Rattle.cqp_machine.specs.declared.event.Event.TheVariants as event
use Rattle.cqp_machine.specs.Machine.{factored}
use Rattle.cqp_machine.specs.Shown.{front_of}
use Rattle.cqp_steps.specs.Making.{left_of}

-- the parallel compositions of a process
abbrev pub pars_in : Process → ℕ
pars_in nil = 0
pars_in (par p q) = pars_in p + pars_in q + 1
pars_in (new b p) = pars_in p
pars_in (qbit x p) = pars_in p
pars_in (act e p) = pars_in p
pars_in (input c bs p) = pars_in p
pars_in (output c es p) = pars_in p
pars_in (branch e f p q) = pars_in p + pars_in q

-- parts that were made, with the parallel compositions that are left, are at most one more than
-- those of the process
abbrev pub PartsLaw : Type 0
PartsLaw =
    (l : Listing) (es : List Event) → IsProc l → IsRun factored l es
    → (front_of l es).parts + left_of pars_in l es ≤ pars_in (root l) + 1

-- no count is more than the nodes that a process may have
pub record IsSmall (f : Front) : Type 0 where
  pub parts : f.parts ≤ 65536
  pub qubits : f.qubits ≤ 65536
  pub chans : f.chans ≤ 65536
  pub turns : f.turns ≤ 65536
  pub ready : f.ready ≤ f.parts

-- a step ends no more parts than are ready and woken, and a part that parks is ready
abbrev pub HasReady : Front → Event → Type 0
HasReady f (event.Step e group made gone woke level) = (gone ≤ f.ready + woke) × (woke ≤ 1)
HasReady f (event.Park part chan) = 1 ≤ f.ready
HasReady f (event.Join left right) = Unit {0}
HasReady f (event.Split group qubits rest) = Unit {0}
HasReady f (event.Halt part) = Unit {0}

-- what code may take for granted where it advances a front
pub record Advances (f : Front) (e : Event) : Type 0 where
  pub before : IsSmall f
  pub behind : IsSmall (front_after f e)
  pub ready : HasReady f e

-- the law: so it is where the event is enabled after a run with that front
abbrev pub CountsLaw : Type 0
CountsLaw = (f : Front) (e : Event) → MayAdvance factored f e → Advances f e
