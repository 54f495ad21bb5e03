-- The cells after an event.
use Rattle.std.specs.Prelude.{ℕ, ◌+◌, List, [], ◌∷◌, ◌++◌, filter, length, Bool, false, ◌==◌, ◌&&◌}
use Rattle.std.specs.Prelude.{◌||◌, not, nat_lt, Option, Some, None, if◌then◌else◌}
use Rattle.cqp_syntax.specs.declared.val.Val.{Val}
use Rattle.cqp_syntax.specs.Listing.{Listing}
use Rattle.cqp_trace.specs.declared.deed.Deed.{Deed}
use Rattle.cqp_trace.specs.declared.deed.Deed.TheVariants as deed
use Rattle.cqp_parts.specs.declared.part.Part.{Part}
use Rattle.cqp_machine.specs.declared.front.Front.{Front}
use Rattle.cqp_machine.specs.declared.event.Event.{Event}
use Rattle.cqp_machine.specs.declared.event.Event.TheVariants as event
use Rattle.cqp_parts.specs.Parts.{process_of_part, parts_after, parts_after_input, more_than_one}
use Rattle.cqp_machine.specs.Factors.{Held, new_group, gated, measured, joined, rest_of, rest_group}
use Rattle.cqp_machine.specs.Factors.{piece_of}
use Rattle.cqp_cells.specs.Moves.{Sending, sends_on}
use Rattle.cqp_machine.specs.Cells.{Channel, Cells, with_at}
use Rattle.cqp_machine.specs.Enabled.{waits_for}

-- parts at the numbers from n on
abbrev pub placed_from : ℕ → List Part → (ℕ → Option Part) → ℕ → Option Part
placed_from n [] parts = parts
placed_from n (p ∷ ps) parts = placed_from (n + 1) ps (with_at n (Some p) parts)

-- in the place of part i: the first has its number, the others unused ones from n on
abbrev pub placed : ℕ → ℕ → List Part → (ℕ → Option Part) → ℕ → Option Part
placed i n [] parts = with_at i None parts
placed i n (p ∷ ps) parts = placed_from n ps (with_at i (Some p) parts)

-- the parts in the place of a part that is there
abbrev pub from_part : (Part → List Part) → Option Part → List Part
from_part f None = []
from_part f (Some p) = f p

-- the values that a part sends
abbrev pub values_in : Option Sending → List Val
values_in None = []
values_in (Some s) = s.values

abbrev pub values_from : Listing → ℕ → Option Part → List Val
values_from l chan None = []
values_from l chan (Some p) = values_in (sends_on chan (process_of_part l p))

-- the parts that a sender and a receiver leave
abbrev pub sender_leaves : Listing → ℕ → ℕ → Cells → ℕ → List Part
sender_leaves l to chan c i = from_part (λ p. parts_after l p (deed.Com to chan)) (c.parts i)

abbrev pub receiver_leaves : Listing → ℕ → ℕ → Cells → ℕ → List Part
receiver_leaves l to chan c i =
    from_part (λ p. parts_after_input l p (values_from l chan (c.parts i))) (c.parts to)

-- the sender's continuation is numbered first
abbrev pub parts_by : Listing → Front → Cells → ℕ → Deed → ℕ → Option Part
parts_by l f c i (deed.Com to chan) =
    placed to (f.parts + more_than_one (sender_leaves l to chan c i))
    (receiver_leaves l to chan c i)
    (placed i f.parts (sender_leaves l to chan c i) c.parts)
parts_by l f c i d = placed i f.parts (from_part (λ p. parts_after l p d) (c.parts i)) c.parts

-- the channel when neither of the two waits any more
abbrev pub without_two : ℕ → ℕ → List ℕ → List ℕ
without_two i j xs = filter (λ x. not ((x == i) || (x == j))) xs

abbrev pub channel_of : Bool → List ℕ → Channel
channel_of outward waiting =
    record { outward = outward && nat_lt 0 (length waiting); waiting = waiting }

abbrev pub met_at : ℕ → ℕ → Option Channel → Option Channel
met_at i j None = None
met_at i j (Some c) = Some (channel_of c.outward (without_two i j c.waiting))

abbrev pub chans_by : Cells → ℕ → Deed → ℕ → Option Channel
chans_by c i (deed.New k) = with_at k (Some (channel_of false [])) c.chans
chans_by c i (deed.Com to chan) = with_at chan (met_at i to (c.chans chan)) c.chans
chans_by c i d = c.chans

-- a group that is there becomes another
abbrev pub becomes : (Held → Held) → Option Held → Option Held
becomes f None = None
becomes f (Some g) = Some (f g)

abbrev pub groups_by : Cells → Deed → ℕ → ℕ → Option Held
groups_by c (deed.Qbit q) group = with_at q (Some (new_group q)) c.groups
groups_by c (deed.Gate o qs) group = with_at group (becomes (gated o qs) (c.groups group)) c.groups
groups_by c (deed.Measure qs m) group =
    with_at group (becomes (measured qs m) (c.groups group)) c.groups
groups_by c d group = c.groups

-- the product has the name of its least qubit
abbrev pub product_of : Option Held → Option Held → Option Held
product_of (Some g) (Some h) = Some (joined g h)
product_of g h = None

abbrev pub lesser : ℕ → ℕ → ℕ
lesser m n = if nat_lt m n then m else n

abbrev pub groups_joined : Cells → ℕ → ℕ → ℕ → Option Held
groups_joined c left right =
    with_at (lesser left right) (product_of (c.groups left) (c.groups right))
    (with_at left None (with_at right None c.groups))

-- the measured qubits by themselves
abbrev pub with_pieces : List ℕ → Held → List ℕ → (ℕ → Option Held) → ℕ → Option Held
with_pieces qs g [] groups = groups
with_pieces qs g (q ∷ rs) groups = with_at q (Some (piece_of qs g q)) (with_pieces qs g rs groups)

-- and the rest, where there is one
abbrev pub with_rest : List ℕ → Held → ℕ → (ℕ → Option Held) → ℕ → Option Held
with_rest qs g rest groups =
    if nat_lt 0 (length (rest_of g.qubits qs)) then with_at rest (Some (rest_group qs g)) groups
    else groups

abbrev pub split_in : ℕ → List ℕ → ℕ → Option Held → (ℕ → Option Held) → ℕ → Option Held
split_in group qs rest None groups = groups
split_in group qs rest (Some g) groups =
    with_rest qs g rest (with_pieces qs g qs (with_at group None groups))

-- the part waits last
abbrev pub waits_as : ℕ → Option Bool → Option Channel → Option Channel
waits_as i (Some outward) (Some c) = Some (channel_of outward (c.waiting ++ i ∷ []))
waits_as i outward c = c

abbrev pub direction_of : Listing → ℕ → Option Part → Option Bool
direction_of l chan None = None
direction_of l chan (Some p) = waits_for chan (process_of_part l p)

-- the cells after an event
abbrev pub cells_after : Listing → Front → Cells → Event → Cells
cells_after l f c (event.Step e group made gone woke level) = record {
  parts = parts_by l f c e.part e.deed;
  chans = chans_by c e.part e.deed;
  groups = groups_by c e.deed group;
}
cells_after l f c (event.Join left right) = record c { groups = groups_joined c left right }
cells_after l f c (event.Split group qs rest) =
    record c { groups = split_in group qs rest (c.groups group) c.groups }
cells_after l f c (event.Park i chan) = record c {
  chans = with_at chan (waits_as i (direction_of l chan (c.parts i)) (c.chans chan)) c.chans;
}
cells_after l f c (event.Halt i) = c
