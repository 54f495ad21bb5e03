-- When an event is enabled on a front and on cells.
use Rattle.std.specs.Prelude.{◌≡◌, ◌≢◌, ◌⊎◌, ℕ, zero, suc, ◌+◌, ◌≤◌, List, [], ◌∷◌, Bool, true}
use Rattle.std.specs.Prelude.{false, ◌==◌, not, Option, Some, None, is_some, if◌then◌else◌}
use Rattle.std.specs.List.{list_all}
use Rattle.cqp_syntax.specs.declared.val.Val.TheVariants as val
use Rattle.cqp_syntax.specs.Trees.{Process, valued, input, output}
use Rattle.cqp_syntax.specs.Listing.{Listing, IsProc}
use Rattle.cqp_trace.specs.declared.deed.Deed.{Deed}
use Rattle.cqp_trace.specs.declared.deed.Deed.TheVariants as deed
use Rattle.cqp_trace.specs.declared.entry.Entry.{Entry}
use Rattle.cqp_vector.specs.Measurement.{is_outcome}
use Rattle.cqp_cells.specs.Redex.{values_of}
use Rattle.cqp_cells.specs.Moves.{provided, moved, Sending, sends_on, receives_on}
use Rattle.cqp_cells.specs.Lawful.{IsBeforeH}
use Rattle.cqp_parts.specs.declared.part.Part.{Part}
use Rattle.cqp_machine.specs.declared.front.Front.{Front}
use Rattle.cqp_machine.specs.declared.front.Stop.TheVariants as stop
use Rattle.cqp_machine.specs.declared.event.Event.{Event}
use Rattle.cqp_machine.specs.declared.event.Event.TheVariants as event
use Rattle.cqp_parts.specs.Parts.{process_of_part, parts_after, parts_after_input, more_than_one}
use Rattle.cqp_parts.specs.Parts.{one_if_none}
use Rattle.cqp_machine.specs.Factors.{Held, places_in, state_of, gated, measured, level_of, rest_of}
use Rattle.cqp_machine.specs.Factors.{least_qubit}
use Rattle.cqp_book.specs.Keys.{has}
use Rattle.cqp_vector.specs.Group.{factors_left_out}
use Rattle.cqp_machine.specs.Cells.{Channel, Cells}
use Rattle.cqp_machine.specs.Fronts.{counts_of}

-- the part's process moves by the deed, and so many parts are made and gone
pub record Moves (l : Listing) (f : Front) (c : Cells) (e : Entry) (made gone : ℕ) : Type 0 where
  pub part : Part
  pub there : c.parts e.part ≡ Some part
  pub process : Process
  pub moves : moved (counts_of f) (process_of_part l part) e.deed ≡ Some process
  pub makes : made ≡ more_than_one (parts_after l part e.deed)
  pub ends : gone ≡ one_if_none (parts_after l part e.deed)

-- the sender is ready at an output on the channel and the receiver at an input, and exactly one of
-- them waits there
pub record Meets (l : Listing) (c : Cells) (i to chan made gone : ℕ) : Type 0 where
  pub sender : Part
  pub sender_there : c.parts i ≡ Some sender
  pub receiver : Part
  pub receiver_there : c.parts to ≡ Some receiver
  pub channel : Channel
  pub channel_there : c.chans chan ≡ Some channel
  pub one_waits : has i channel.waiting ≡ not (has to channel.waiting)
  pub sending : Sending
  pub sends : sends_on chan (process_of_part l sender) ≡ Some sending
  pub process : Process
  pub receives : receives_on chan sending.values (process_of_part l receiver) ≡ Some process
  pub makes : made
      ≡ more_than_one (parts_after l sender (deed.Com to chan))
      + more_than_one (parts_after_input l receiver sending.values)
  pub ends : gone
      ≡ one_if_none (parts_after l sender (deed.Com to chan))
      + one_if_none (parts_after_input l receiver sending.values)

-- the group is there, has these qubits and nothing due, and the level is that of the front with
-- what it becomes in its place
pub record ActsOn (f : Front) (c : Cells) (group : ℕ) (qs : List ℕ) (becomes : Held → Held)
    (level : ℕ) : Type 0 where
  pub before : Held
  pub there : c.groups group ≡ Some before
  pub has : list_all (λ q. has q before.qubits) qs ≡ true
  pub nothing_due : before.due ≡ []
  pub level_is : level + level_of before ≡ f.level + level_of (becomes before)

-- the outcome isn't zero in the group
abbrev pub is_outcome_in : Option Held → List ℕ → ℕ → Bool
is_outcome_in (Some g) qs m = is_outcome (places_in g.qubits qs) (state_of g) m
is_outcome_in None qs m = false

-- a gate that leaves out a factor 1 / root 2, as H alone does, has room below the limit
abbrev pub HasRoom : Front → ℕ → Type 0
HasRoom f zero = Unit {0}
HasRoom f (suc left_out) = f.level ≤ 178

-- what a deed asks of the groups, and the level after it
abbrev pub FitsGroups : Front → Cells → Deed → ℕ → ℕ → Type 0
FitsGroups f c (deed.Gate o qs) group level =
    ActsOn f c group qs (gated o qs) level × HasRoom f (factors_left_out o)
FitsGroups f c (deed.Measure qs m) group level =
    ActsOn f c group qs (measured qs m) level × (is_outcome_in (c.groups group) qs m ≡ true)
FitsGroups f c d group level = (group ≡ 0) × (level ≡ f.level)

-- a communication wakes the part that waits
abbrev pub FitsStep : Listing → Front → Cells → ℕ → Deed → ℕ → ℕ → ℕ → ℕ → ℕ → Type 0
FitsStep l f c i (deed.Com to chan) group made gone woke level =
    Meets l c i to chan made gone × (woke ≡ 1) × (group ≡ 0) × (level ≡ f.level)
FitsStep l f c i d group made gone woke level =
    Moves l f c (record { part = i; deed = d }) made gone × (woke ≡ 0)
    × FitsGroups f c d group level

-- two groups with nothing due
pub record MayJoin (c : Cells) (left right : ℕ) : Type 0 where
  pub apart : left ≢ right
  pub first : Held
  pub first_there : c.groups left ≡ Some first
  pub first_due : first.due ≡ []
  pub second : Held
  pub second_there : c.groups right ≡ Some second
  pub second_due : second.due ≡ []

-- the least qubit that stays, or the group's name where none does
abbrev pub name_of_rest : ℕ → List ℕ → ℕ
name_of_rest group [] = group
name_of_rest group (q ∷ qs) = least_qubit (q ∷ qs)

-- the due qubits leave
pub record MaySplit (c : Cells) (group : ℕ) (qs : List ℕ) (rest : ℕ) : Type 0 where
  pub before : Held
  pub there : c.groups group ≡ Some before
  pub some : qs ≢ []
  pub are_due : before.due ≡ qs
  pub rest_is : rest ≡ name_of_rest group (rest_of before.qubits qs)

-- whether the process is ready at an output on the channel, or at an input
abbrev pub waits_for : ℕ → Process → Option Bool
waits_for chan (output (valued (val.Chan k)) es p) =
    provided (if k == chan then is_some (values_of es) else false) true
waits_for chan (input (valued (val.Chan k)) bs p) = provided (k == chan) false
waits_for chan p = None

-- the part doesn't wait yet, is ready at the channel, and none waits in the other direction
pub record MayPark (l : Listing) (c : Cells) (i chan : ℕ) : Type 0 where
  pub part : Part
  pub there : c.parts i ≡ Some part
  pub channel : Channel
  pub channel_there : c.chans chan ≡ Some channel
  pub outward : Bool
  pub ready : waits_for chan (process_of_part l part) ≡ Some outward
  pub not_yet : has i channel.waiting ≡ false
  pub none_other : (channel.waiting ≡ []) ⊎ (channel.outward ≡ outward)

-- the limit is reached, and the part would apply H
pub record MayHalt (l : Listing) (f : Front) (c : Cells) (i : ℕ) : Type 0 where
  pub full : 179 ≤ f.level
  pub within : f.level ≤ 180
  pub part : Part
  pub there : c.parts i ≡ Some part
  pub before_h : IsBeforeH (Some (process_of_part l part))

-- what an event asks
abbrev pub FitsEvent : Listing → Front → Cells → Event → Type 0
FitsEvent l f c (event.Step e group made gone woke level) =
    FitsStep l f c e.part e.deed group made gone woke level
FitsEvent l f c (event.Join left right) = MayJoin c left right
FitsEvent l f c (event.Split group qs rest) = MaySplit c group qs rest
FitsEvent l f c (event.Park i chan) = MayPark l c i chan
FitsEvent l f c (event.Halt i) = MayHalt l f c i

-- the opening is a process, the run isn't stopped, and the event fits
pub record IsEnabled (l : Listing) (f : Front) (c : Cells) (e : Event) : Type 0 where
  pub process : IsProc l
  pub going : f.stopped ≡ stop.No
  pub fits : FitsEvent l f c e
