-- Each step is a reduction of the parts that the cells stand for; the other events are none.
use Rattle.std.proofs.Common.{◌≡◌, ◌≢◌, ℕ, List, ◌+◌, Option, Some, refl, sym, ap, subst, arith, ◌∙◌}
use Rattle.cqp_syntax.specs.declared.val.Val.{Val}
use Rattle.cqp_syntax.specs.Trees.{Process, output}
use Rattle.cqp_syntax.specs.Listing.{Listing, IsProc}
use Rattle.cqp_trace.specs.declared.deed.Deed.{Deed}
use Rattle.cqp_trace.specs.declared.deed.Deed.TheVariants as deed
use Rattle.cqp_trace.specs.declared.entry.Entry.{Entry}
use Rattle.cqp_cells.specs.Config.{Config, flattened, goes_on, replaced, continued}
use Rattle.cqp_cells.specs.Step.{next, with_deed}
use Rattle.cqp_parts.specs.declared.part.Part.{Part}
use Rattle.cqp_machine.specs.declared.front.Front.{Front}
use Rattle.cqp_machine.specs.declared.event.Event.{Event}
use Rattle.cqp_machine.specs.declared.event.Event.TheVariants as event
use Rattle.cqp_parts.specs.Parts.{process_of_part, parts_after, parts_after_input, more_than_one}
use Rattle.cqp_machine.specs.Cells.{Cells}
use Rattle.cqp_cells.specs.Moves.{moved, Sending, sends_on, receives_on}
use Rattle.cqp_machine.specs.Fronts.{front_after, counts_of, qubits_by, chans_by as new_chans_by}
use Rattle.cqp_machine.specs.Enabled.{FitsStep, Moves, Meets}
use Rattle.cqp_machine.specs.After.{cells_after, placed, from_part, parts_by, values_in, values_from}
use Rattle.cqp_cells.proofs.Options.{none_is_some, same_some}
use Rattle.cqp_parts.proofs.DeedLemmas.{own_deed, sender_deed, receiver_deed}
use Rattle.cqp_steps.proofs.RowLemmas.{HasOutcome, counts_in, own_next, com_next}
use Rattle.cqp_steps.proofs.PartsHalf.{PartsStand, stands_there, one_goes_on, others_keep, taken_alike}

-- the parts and the counts stand for those of a configuration
pub record HalfStands (l : Listing) (f : Front) (m : ℕ → Option Part) (d : Config) : Type 0 where
  pub parts : PartsStand l f.parts m d.parts
  pub made : d.made ≡ f.parts
  pub chans : d.chans ≡ f.chans
  pub qubits : d.state.qubits ≡ f.qubits

-- what a deed leaves but its part
record Beside (d : Deed) (c w : Config) : Type 0 where
  pub parts : w.parts ≡ c.parts
  pub made : w.made ≡ c.made
  pub chans : w.chans ≡ c.chans + new_chans_by d
  pub qubits : w.state.qubits ≡ c.state.qubits + qubits_by d

-- nothing more changes no number
plus_none : (n : ℕ) → n ≡ n + 0
plus_none n = omega arith

-- a deed changes no part but its own
beside : (d : Deed) (c : Config) → Beside d c (with_deed d c)
beside (deed.Qbit q) c = record { parts = refl; made = refl; chans = plus_none c.chans; qubits = refl }
beside (deed.New k) c = record { parts = refl; made = refl; chans = refl; qubits = plus_none c.state.qubits }
beside deed.Act c = record { parts = refl; made = refl; chans = plus_none c.chans; qubits = plus_none c.state.qubits }
beside (deed.Add v) c = record { parts = refl; made = refl; chans = plus_none c.chans; qubits = plus_none c.state.qubits }
beside (deed.Pick o) c = record { parts = refl; made = refl; chans = plus_none c.chans; qubits = plus_none c.state.qubits }
beside (deed.Gate o qs) c = record { parts = refl; made = refl; chans = plus_none c.chans; qubits = plus_none c.state.qubits }
beside (deed.Measure qs m) c = record { parts = refl; made = refl; chans = plus_none c.chans; qubits = plus_none c.state.qubits }
beside (deed.If b) c = record { parts = refl; made = refl; chans = plus_none c.chans; qubits = plus_none c.state.qubits }
beside (deed.Com to chan) c = record { parts = refl; made = refl; chans = plus_none c.chans; qubits = plus_none c.state.qubits }

-- a sender isn't a receiver
pub not_both : (chan : ℕ) (vs : List Val) (p r : Process) (s : Sending) → sends_on chan p ≡ Some s → receives_on chan vs p ≡ Some r → ⊥
not_both chan vs (output c es p) r s h g = none_is_some {x = r} g
not_both chan vs p r s h g = none_is_some {x = s} h

module _ (l : Listing) (sound : IsProc l) (f : Front) (c : Cells) (d : Config) (s : HalfStands l f c.parts d) where
  -- the reduction that a step is
  pub record IsReduction (f' : Front) (m : ℕ → Option Part) (e : Entry) : Type 0 where
    pub after : Config
    pub next_is : next d e ≡ Some after
    pub stands : HalfStands l f' m after
    pub state : after.state ≡ (with_deed e.deed d).state

  -- the front has the configuration's counts
  same_counts : counts_of f ≡ counts_in d
  same_counts = λ i. record { qubits = sym s.qubits i; chans = sym s.chans i }

  module _ (i group made gone woke level : ℕ) where
    -- the step of this part
    abbrev E : Deed → Event
    E o = event.Step (record { part = i; deed = o }) group made gone woke level

    -- a deed of the part's own
    own_reduction : (o : Deed) (h : Moves l f c (record { part = i; deed = o }) made gone) → HasOutcome d o
        → IsReduction (front_after f (E o)) (placed i f.parts (from_part (λ p. parts_after l p o) (c.parts i)) c.parts) (record { part = i; deed = o })
    own_reduction o h outcome =
        let there = stands_there l f.parts c.parts d.parts s.parts i h.part h.there in
        let moves = subst (λ n. moved n (process_of_part l h.part) o ≡ Some h.process) same_counts h.moves in
        let b = beside o d in
        let same = own_deed l sound h.part (counts_of f) o h.process h.moves in
        let goes = one_goes_on l f.parts c.parts d.parts s.parts i (process_of_part l h.part) (parts_after l h.part o) (flattened h.process) there same in
        record {
          after = continued i h.process (with_deed o d);
          next_is = own_next d (record { part = i; deed = o }) (process_of_part l h.part) h.process there moves outcome;
          stands = record {
            parts = rw (b.parts, b.made, s.made, h.makes, h.there) goes;
            made = omega (arith, taken_alike (process_of_part l) (parts_after l h.part o) (flattened h.process) same, b.made, s.made, h.makes);
            chans = b.chans ∙ ap (λ n. n + new_chans_by o) s.chans;
            qubits = b.qubits ∙ ap (λ n. n + qubits_by o) s.qubits;
          };
          state = refl;
        }

    -- a communication is a reduction
    com_reduction : (to chan : ℕ) (h : Meets l c i to chan made gone)
        → IsReduction (front_after f (E (deed.Com to chan))) (parts_by l f c i (deed.Com to chan)) (record { part = i; deed = deed.Com to chan })
    com_reduction to chan h =
        let sender = stands_there l f.parts c.parts d.parts s.parts i h.sender h.sender_there in
        let receiver = stands_there l f.parts c.parts d.parts s.parts to h.receiver h.receiver_there in
        let ps = parts_after l h.sender (deed.Com to chan) in
        let qs = parts_after_input l h.receiver h.sending.values in
        let sent = sender_deed l sound h.sender to chan h.sending h.sends in
        let received = receiver_deed l sound h.receiver chan h.sending.values h.process h.receives in
        let apart : to ≢ i = λ e.
        let same : h.receiver ≡ h.sender = same_some {x = h.receiver} {y = h.sender} (sym h.receiver_there ∙ (ap c.parts e ∙ h.sender_there)) in
        not_both chan h.sending.values (process_of_part l h.sender) h.process h.sending h.sends
        (subst (λ p. receives_on chan h.sending.values (process_of_part l p) ≡ Some h.process) same h.receives) in
        let first = one_goes_on l f.parts c.parts d.parts s.parts i (process_of_part l h.sender) (parts_after l h.sender (deed.Com to chan))
        (flattened h.sending.rest) sender sent in
        let kept = others_keep l f.parts c.parts d.parts s.parts i (process_of_part l h.sender) (flattened h.sending.rest) to (process_of_part l h.receiver)
        sender apart receiver in
        let second = one_goes_on l (f.parts + more_than_one (parts_after l h.sender (deed.Com to chan)))
        (placed i f.parts (parts_after l h.sender (deed.Com to chan)) c.parts) (replaced i (goes_on i f.parts (flattened h.sending.rest)) d.parts)
        first to (process_of_part l h.receiver) (parts_after_input l h.receiver h.sending.values) (flattened h.process) kept received in
        let taken = taken_alike (process_of_part l) (parts_after l h.sender (deed.Com to chan)) (flattened h.sending.rest) sent in
        let taken_too = taken_alike (process_of_part l) (parts_after_input l h.receiver h.sending.values) (flattened h.process) received in
        let vs : values_from l chan (c.parts i) ≡ h.sending.values = ap (values_from l chan) h.sender_there ∙ ap values_in h.sends in
        let count : f.parts + more_than_one (parts_after l h.sender (deed.Com to chan)) + more_than_one (parts_after_input l h.receiver h.sending.values)
        ≡ f.parts + made = omega (arith, h.makes) in
        record {
          after = continued to h.process (continued i h.sending.rest d);
          next_is = com_next d i to chan (process_of_part l h.sender) (process_of_part l h.receiver) h.process h.sending sender receiver h.sends h.receives;
          stands = record {
            parts = rw (vs, h.sender_there, h.receiver_there, s.made, taken, sym count) second;
            made = omega (arith, taken, taken_too, s.made, h.makes);
            chans = s.chans ∙ plus_none f.chans;
            qubits = s.qubits ∙ plus_none f.qubits;
          };
          state = refl;
        }

    -- each step is a reduction
    step_reduction : (o : Deed) → FitsStep l f c i o group made gone woke level → HasOutcome d o
        → IsReduction (front_after f (E o)) (parts_by l f c i o) (record { part = i; deed = o })
    step_reduction (deed.Qbit q) h outcome = own_reduction (deed.Qbit q) h.0 outcome
    step_reduction (deed.New k) h outcome = own_reduction (deed.New k) h.0 outcome
    step_reduction deed.Act h outcome = own_reduction deed.Act h.0 outcome
    step_reduction (deed.Add v) h outcome = own_reduction (deed.Add v) h.0 outcome
    step_reduction (deed.Pick o) h outcome = own_reduction (deed.Pick o) h.0 outcome
    step_reduction (deed.Gate o qs) h outcome = own_reduction (deed.Gate o qs) h.0 outcome
    step_reduction (deed.Measure qs m) h outcome = own_reduction (deed.Measure qs m) h.0 outcome
    step_reduction (deed.If b) h outcome = own_reduction (deed.If b) h.0 outcome
    step_reduction (deed.Com to chan) h outcome = com_reduction to chan h.0

-- a step is the reduction that it shows
pub step_half : (l : Listing) (sound : IsProc l) (f : Front) (c : Cells) (d : Config) (s : HalfStands l f c.parts d) (e : Entry)
    (group made gone woke level : ℕ)
    → FitsStep l f c e.part e.deed group made gone woke level → HasOutcome d e.deed
    → IsReduction l sound f c d s (front_after f (event.Step e group made gone woke level))
    (cells_after l f c (event.Step e group made gone woke level)).parts e
step_half l sound f c d s e group made gone woke level h outcome = step_reduction l sound f c d s e.part group made gone woke level e.deed h outcome
