use Rattle.std.proofs.Common.{◌≡◌, Some, None, length, ap, subst, arith, ◌∙◌}
use Rattle.std.proofs.lemmas.List.{get_or-set_other, length-set}
use Rattle.cqp_trace.specs.declared.deed.Deed.TheVariants as deed
use Rattle.cqp_parts.specs.Parts.{more_than_one, parts_after, parts_after_input}
use Rattle.cqp_stepper.specs.Slots.{part_in}
use Rattle.cqp_stepper.specs.Steps.{IsMet}
use Rattle.cqp_stepper.proofs.Making.{few_places, kept_place, kept_stands}
use Rattle.cqp_stepper.proofs.MetKept.{met_kept, met_over_second, met_room, two_meet}
use Rattle.cqp_stepper.proofs.cells.Cells.make_meeting.Goals as goal

pub receive-requires-clause-place : goal.receive-requires-clause-place
receive-requires-clause-place c =
    kept_place c.args.tables.now c.requires.run.0 c.args.self.now c.requires.run.1 c.meeting_laws.ensures.room c.args.to c.requires.may.receiver
    c.requires.may.receiver_there

pub receive-requires-clause-stands : goal.receive-requires-clause-stands
receive-requires-clause-stands c part there =
    kept_stands c.args.tables.now c.requires.run.0 c.args.self.now c.requires.run.1 c.meeting_laws.ensures.here c.args.to part there

pub finish_meeting-requires : goal.finish_meeting-requires
finish_meeting-requires c =
    let l = c.args.tables.now in
    let laws = c.meeting_laws.ensures in
    let s = c.args.self.now in
    let entries = c.requires.run.0 in
    let k = c.requires.run.1 in
    let may = c.requires.may in
    let left = c.in_ok-received.ensures.left in
    let slots = ap (λ z. z.slots) left in
    let apart = two_meet l s c.args.from c.args.to c.args.chan may in
    let size = ap length slots ∙ length-set s.slots c.args.to None in
    let first = kept_place l entries s k laws.room c.args.from may.sender may.sender_there in
    let second = kept_place l entries s k laws.room c.args.to may.receiver may.receiver_there in
    let few = few_places l entries s k c.checked.ensures.few in
    let room = met_room l laws.here laws.chans laws.meeting entries s k c.requires.seen c.args.from c.args.to c.args.chan may laws.room in
    let count = ap (λ z. z.counts.parts) left in
    let vals = c.in_ok-vals.ensures.values may.sender may.sending may.sender_there may.sends in
    let got = c.in_ok-received.ensures.ok may.receiver may.receiver_there in
    let more = ap more_than_one (got ∙ ap (λ vs. parts_after_input l may.receiver vs) vals) in
    record {
      sender = may.sender;
      there = ap (λ z. part_in z c.args.from) slots ∙ (get_or-set_other s.slots c.args.to c.args.from None None apart ∙ may.sender_there);
      stands = kept_stands l entries s k laws.here c.args.from may.sender may.sender_there;
      leads = c.in_ok-vals.ensures.leads may.sender may.sender_there;
      first = omega arith;
      second = omega arith;
      room = omega arith;
      few = omega arith;
    }

pub returns-clause-ok : goal.returns-clause-ok
returns-clause-ok c entries k =
    let l = c.args.tables.now in
    let laws = c.meeting_laws.ensures in
    let s = c.args.self.now in
    let u = c.receive.new.self in
    let t = c.finish_meeting.new.self in
    let i = c.args.from in
    let j = c.args.to in
    let may = c.requires.may in
    let left = c.in_ok-received.ensures.left in
    let slots = ap (λ z. z.slots) left in
    let apart = two_meet l s i j c.args.chan may in
    let there : part_in u.slots i ≡ Some may.sender = ap (λ z. part_in z i) slots ∙ (get_or-set_other s.slots j i None None apart ∙ may.sender_there) in
    let vals = c.in_ok-vals.ensures.values may.sender may.sending may.sender_there may.sends in
    let got = c.in_ok-received.ensures.ok may.receiver may.receiver_there ∙ ap (λ vs. parts_after_input l may.receiver vs) vals in
    let place = kept_place l entries s k laws.room j may.receiver may.receiver_there in
    let met = met_over_second s u t i j (parts_after l may.sender (deed.Com 0 0)) c.in_ok-received.received place slots (ap (λ z. z.order) left)
    (ap (λ z. z.counts) left) (c.finish_meeting.ensures.met may.sender there) in
    let x = subst (λ z. IsMet s t i j (parts_after l may.sender (deed.Com 0 0)) z) got met in
    met_kept l laws.here laws.chans laws.meeting entries s k c.requires.seen i j c.args.chan may t x
    (c.finish_meeting.ensures.groups.groups ∙ ap (λ z. z.groups) left) (c.finish_meeting.ensures.groups.due ∙ ap (λ z. z.due) left)
