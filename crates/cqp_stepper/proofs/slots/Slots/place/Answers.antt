use Rattle.std.proofs.Common.{rules, ◌≡◌, ◌++◌, [], ◌∷◌, Some, ◌+◌, ◌<◌, length, sym, ap, arith, ◌∙◌}
use Rattle.std.proofs.lemmas.List.{length-set, length-append}
use Rattle.std.specs.Prelude.{slice_set}
use Rattle.cqp_machine.specs.After.{placed_from}
use Rattle.cqp_local.proofs.PlacedLemmas.{placed_from_alike}
use Rattle.cqp_stepper.specs.Slots.{part_in}
use Rattle.cqp_stepper.proofs.SlotLemmas.{first_and_others, placed_last, put_at}
use Rattle.cqp_stepper.proofs.slots.Slots.place.Goals as goal

pub loop-part-preserved : goal.loop-part-preserved
loop-part-preserved c =
    let slots = c.loop-part.self in
    let others = c.pop.new.self.items in
    let p = c.in-Some.part in
    let next = c.args.next in
    let back : c.loop-part.others.items ≡ others ++ p ∷ [] = c.in-Some.ensures.items in
    let new : c.put-in-Some.new.self ≡ slice_set slots (next + length others) (Some p) =
    c.put-in-Some.ensures ∙ ap (λ n. slice_set slots (next + n) (Some p)) (ap length c.as_slice-in-Some.ensures.value) in
    let count : length c.loop-part.others.items ≡ length others + 1 = ap length back ∙ length-append others (p ∷ []) in
    let inside : next + length others < length slots = let room = c.loop-part.invariant.room in omega arith in
    let size : length c.put-in-Some.new.self ≡ length slots = ap length new ∙ length-set slots (next + length others) (Some p) in
    record {
      same = λ m.
          ap (λ s. placed_from next others (part_in s) m) new
          ∙ (placed_from_alike next others _ _ m (put_at slots (next + length others) (Some p) inside m)
          ∙ (sym (placed_last next others p (part_in slots) m)
          ∙ (ap (λ ps. placed_from next ps (part_in slots) m) (sym back) ∙ c.loop-part.invariant.same m)));
      room = let room = c.loop-part.invariant.room in omega (arith, size, count, room);
      size = size ∙ c.loop-part.invariant.size;
    }

pub returns-clause-parts : goal.returns-clause-parts
returns-clause-parts c m =
    let others = c.into_pair-first.result.1.items in
    let first = c.into_pair-first.result.0 in
    let none : c.loop-part.others.items ≡ [] = search rules in
    ap (λ ps. placed_from c.args.next ps (part_in c.loop-part.self) m) (sym none)
    ∙ (c.loop-part.invariant.same m
    ∙ (ap (λ s. placed_from c.args.next others (part_in s) m) c.put.ensures
    ∙ (placed_from_alike c.args.next others _ _ m (put_at c.args.self.now c.args.n first c.requires.there m)
    ∙ first_and_others c.args.n c.args.next c.args.parts others first (part_in c.args.self.now) m c.into_pair-first.ensures.all
    c.into_pair-first.ensures.ended)))
