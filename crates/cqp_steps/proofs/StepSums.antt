-- What a step changes of a measure that is added up over the parts.
use Rattle.std.proofs.Common.{◌≡◌, ◌≢◌, ℕ, ◌+◌, ◌≤◌, ◌<◌, Option, Some, None, sym, ap, subst, arith, ne_eqb, ◌∙◌, List}
use Rattle.std.proofs.lemmas.Bool.{false_from_ne_true}
use Rattle.cqp_syntax.specs.Trees.{Process}
use Rattle.cqp_syntax.specs.Listing.{Listing}
use Rattle.cqp_trace.specs.declared.deed.Deed.{Deed}
use Rattle.cqp_trace.specs.declared.deed.Deed.TheVariants as deed
use Rattle.cqp_parts.specs.declared.part.Part.{Part}
use Rattle.cqp_machine.specs.declared.front.Front.{Front}
use Rattle.cqp_parts.specs.Parts.{process_of_part, parts_after, parts_after_input, more_than_one}
use Rattle.cqp_machine.specs.Cells.{Cells}
use Rattle.cqp_cells.specs.Moves.{receives_on}
use Rattle.cqp_machine.specs.Enabled.{Moves, Meets}
use Rattle.cqp_machine.specs.After.{placed, from_part, parts_by, values_in, values_from}
use Rattle.cqp_cells.proofs.Options.{same_some}
use Rattle.cqp_local.proofs.PlacedLemmas.{placed_out, range_bounds}
use Rattle.cqp_steps.proofs.StepHalf.{not_both}
use Rattle.cqp_steps.proofs.PartSums.{weight, left, weights, placed_sum, there_below}

-- the two parts of a communication are two
pub two_apart : (l : Listing) (c : Cells) (i to k made gone : ℕ) → Meets l c i to k made gone → to ≢ i
two_apart l c i to k made gone x e =
    let same : x.receiver ≡ x.sender = same_some {x = x.receiver} {y = x.sender} (sym x.receiver_there ∙ (ap c.parts e ∙ x.sender_there)) in
    not_both k x.sending.values (process_of_part l x.sender) x.process x.sending x.sends
    (subst (λ p. receives_on k x.sending.values (process_of_part l p) ≡ Some x.process) same x.receives)

-- a part that is there stays where others are placed
pub stays_there : (i n : ℕ) (ps : List Part) (parts : ℕ → Option Part) (j : ℕ) → j ≢ i → j < n → placed i n ps parts j ≡ parts j
stays_there i n ps parts j apart below =
    placed_out i n ps parts j (ne_eqb j i apart)
    (false_from_ne_true _ (λ t. let b = range_bounds j n (more_than_one ps) t in let low = b.0 in omega arith))

module _ (l : Listing) (m : Process → ℕ) (f : Front) (c : Cells) (k : (j : ℕ) → f.parts ≤ j → c.parts j ≡ None) where
  -- a deed of a part's own takes its measure out, and puts in that of the parts in its place
  pub own_sum : (i made gone : ℕ) (d : Deed) (x : Moves l f c (record { part = i; deed = d }) made gone)
      → left l m (f.parts + made) (placed i f.parts (from_part (λ p. parts_after l p d) (c.parts i)) c.parts) + m (process_of_part l x.part)
      ≡ left l m f.parts c.parts + weights l m (parts_after l x.part d)
  own_sum i made gone d x =
      let sum = placed_sum l m i f.parts (parts_after l x.part d) c.parts (there_below f.parts c.parts k i x.part x.there) in
      let old : weight l m (c.parts i) ≡ m (process_of_part l x.part) = ap (weight l m) x.there in
      rw (x.there, x.makes) (omega arith)

  -- a communication does so on both sides
  pub com_sum : (i to chan made gone : ℕ) (x : Meets l c i to chan made gone)
      → left l m (f.parts + made) (parts_by l f c i (deed.Com to chan)) + m (process_of_part l x.sender) + m (process_of_part l x.receiver)
      ≡ left l m f.parts c.parts + weights l m (parts_after l x.sender (deed.Com to chan)) + weights l m (parts_after_input l x.receiver x.sending.values)
  com_sum i to chan made gone x =
      let below = there_below f.parts c.parts k i x.sender x.sender_there in
      let below_too = there_below f.parts c.parts k to x.receiver x.receiver_there in
      let first = placed_sum l m i f.parts (parts_after l x.sender (deed.Com to chan)) c.parts below in
      let second = placed_sum l m to (f.parts + more_than_one (parts_after l x.sender (deed.Com to chan))) (parts_after_input l x.receiver x.sending.values)
      (placed i f.parts (parts_after l x.sender (deed.Com to chan)) c.parts) (omega arith) in
      let kept : placed i f.parts (parts_after l x.sender (deed.Com to chan)) c.parts to ≡ Some x.receiver =
      stays_there i f.parts (parts_after l x.sender (deed.Com to chan)) c.parts to (two_apart l c i to chan made gone x) below_too ∙ x.receiver_there in
      let one : weight l m (c.parts i) ≡ m (process_of_part l x.sender) = ap (weight l m) x.sender_there in
      let two : weight l m (placed i f.parts (parts_after l x.sender (deed.Com to chan)) c.parts to) ≡ m (process_of_part l x.receiver) =
      ap (weight l m) kept in
      let vs : values_from l chan (c.parts i) ≡ x.sending.values = ap (values_from l chan) x.sender_there ∙ ap values_in x.sends in
      let count : f.parts + made ≡ f.parts + more_than_one (parts_after l x.sender (deed.Com to chan)) + more_than_one
      (parts_after_input l x.receiver x.sending.values) =
      omega (arith, x.makes) in
      rw (vs, x.sender_there, x.receiver_there, count) (omega arith)
