-- Deeds behind which one part alone comes: it goes on in the place of the part.
use Rattle.std.proofs.Common.{◌≡◌, ◌<◌, ℕ, [], ◌∷◌, Some, length, ap, ◌∙◌, arith}
use Rattle.std.specs.Prelude.{slice_set}
use Rattle.std.proofs.lemmas.List.{length-set}
use Rattle.cqp_trace.specs.declared.deed.Deed.{Deed}
use Rattle.cqp_parts.specs.declared.part.Part.{Part}
use Rattle.cqp_stepper.specs.declared.cells.Cells.{Cells}
use Rattle.cqp_stepper.specs.Slots.{part_in}
use Rattle.cqp_stepper.specs.Steps.{IsMade, IsPlaced, counted}
use Rattle.cqp_stepper.proofs.SlotLemmas.{put_at}

-- one part is in the place of another
pub one_placed : (s t : Cells) (n : ℕ) (part : Part) → n < length s.slots → t.slots ≡ slice_set s.slots n (Some part) → t.order ≡ s.order
    → t.counts.parts ≡ s.counts.parts → IsPlaced s t n (part ∷ [])
one_placed s t n part below slots order count = record {
  slots = λ m. ap (λ z. part_in z m) slots ∙ put_at s.slots n (Some part) below m;
  room = ap (λ z. length z) slots ∙ length-set s.slots n (Some part);
  order = order;
  count = count ∙ omega arith;
}

-- one part alone made the deed in its place, and it was counted
pub one_made : (s t : Cells) (n : ℕ) (d : Deed) (part : Part) → n < length s.slots
    → t ≡ counted n d (record s { slots = slice_set s.slots n (Some part) }) → IsMade s t n d (part ∷ [])
one_made s t n d part below is = record {
  placed = one_placed s t n part below (ap (λ z. z.slots) is) (ap (λ z. z.order) is) (ap (λ z. z.counts.parts) is);
  unseen = ap (λ z. z.unseen) is;
  chans = ap (λ z. z.counts.chans) is;
  turns = ap (λ z. z.counts.turns) is;
}
