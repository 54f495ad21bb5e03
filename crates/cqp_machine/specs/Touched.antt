-- The parts, the channels and the groups that an event needs and makes, and their keys.
use Rattle.std.specs.Prelude.{ℕ, List, [], ◌∷◌, ◌++◌, map, filter, ◌==◌, not}
use Rattle.std.specs.List.{range_with_len}
use Rattle.cqp_trace.specs.declared.deed.Deed.{Deed}
use Rattle.cqp_trace.specs.declared.deed.Deed.TheVariants as deed
use Rattle.cqp_machine.specs.declared.front.Front.{Front}
use Rattle.cqp_machine.specs.declared.event.Event.{Event}
use Rattle.cqp_machine.specs.declared.event.Event.TheVariants as event
use Rattle.cqp_machine.specs.Keys.{part_key, chan_key, group_key}

-- a communication needs its partner and its channel, a gate and a measurement need a group
abbrev pub partners_of : Deed → List ℕ
partners_of (deed.Com to chan) = to ∷ []
partners_of d = []

abbrev pub chans_of : Deed → List ℕ
chans_of (deed.Com to chan) = chan ∷ []
chans_of d = []

abbrev pub groups_of : Deed → ℕ → List ℕ
groups_of (deed.Gate o qs) group = group ∷ []
groups_of (deed.Measure qs m) group = group ∷ []
groups_of d group = []

-- what an event needs
abbrev pub parts_needed : Event → List ℕ
parts_needed (event.Step e group made gone woke level) = e.part ∷ partners_of e.deed
parts_needed (event.Park part chan) = part ∷ []
parts_needed (event.Halt part) = part ∷ []
parts_needed (event.Join left right) = []
parts_needed (event.Split group qubits rest) = []

abbrev pub chans_needed : Event → List ℕ
chans_needed (event.Step e group made gone woke level) = chans_of e.deed
chans_needed (event.Park part chan) = chan ∷ []
chans_needed (event.Halt part) = []
chans_needed (event.Join left right) = []
chans_needed (event.Split group qubits rest) = []

abbrev pub groups_needed : Event → List ℕ
groups_needed (event.Step e group made gone woke level) = groups_of e.deed group
groups_needed (event.Join left right) = left ∷ right ∷ []
groups_needed (event.Split group qubits rest) = group ∷ []
groups_needed (event.Park part chan) = []
groups_needed (event.Halt part) = []

-- a deed may make a channel or a group
abbrev pub new_chans : Deed → List ℕ
new_chans (deed.New c) = c ∷ []
new_chans d = []

abbrev pub new_groups : Deed → List ℕ
new_groups (deed.Qbit q) = q ∷ []
new_groups d = []

-- what an event makes: a step parts with the next numbers, and its deed's channel or group; a split
-- the groups that don't keep the name
abbrev pub parts_made : Front → Event → List ℕ
parts_made f (event.Step e group made gone woke level) = range_with_len f.parts made
parts_made f e = []

abbrev pub chans_made : Event → List ℕ
chans_made (event.Step e group made gone woke level) = new_chans e.deed
chans_made e = []

abbrev pub groups_made : Event → List ℕ
groups_made (event.Step e group made gone woke level) = new_groups e.deed
groups_made (event.Split group qubits rest) = filter (λ q. not (q == group)) (rest ∷ qubits)
groups_made e = []

-- keys of places
abbrev pub keys_of : List ℕ → List ℕ → List ℕ → List ℕ
keys_of parts chans groups = map part_key parts ++ (map chan_key chans ++ map group_key groups)

abbrev pub needs_of : Event → List ℕ
needs_of e = keys_of (parts_needed e) (chans_needed e) (groups_needed e)

abbrev pub makes_of : Front → Event → List ℕ
makes_of f e = keys_of (parts_made f e) (chans_made e) (groups_made e)
