use Rattle.std.proofs.Common.{◌∙◌, sym, append-nil, append_assoc, [], ◌∷◌}
use Rattle.cqp_postorder.proofs.Parts.{no_numbers, one_number, two_numbers}
use Rattle.cqp_postorder.proofs.numbers.find_parts.Goals as goal

pub size_before-requires : goal.size_before-requires
size_before-requires c =
    let last = rw c.in-2.is at c.requires.1 in (two_numbers _ _ _ _ last c.requires.2).some

pub overflow_sub-end : goal.overflow_sub-end
overflow_sub-end c =
    let last = rw c.in-2.is at c.requires.1 in
    rw c.size_before.ensures (two_numbers _ _ _ _ last c.requires.2).fits

pub returns-in-0 : goal.returns-in-0
returns-in-0 c = λ ts last ends.
    rw (no_numbers c.args.first ts (last.many ∙ c.in-0.is)) (sym (append-nil c.args.numbers.now.items))

pub returns-in_ok-push-in-1 : goal.returns-in_ok-push-in-1
returns-in_ok-push-in-1 c = λ ts last ends.
    rw (one_number c.args.first ts (last.many ∙ c.in-1.is)) c.in_ok-push-in-1.ensures.items

pub returns-in_ok-push-in-2-2 : goal.returns-in_ok-push-in-2-2
returns-in_ok-push-in-2-2 c = λ ts last ends.
    let two = two_numbers _ c.args.first c.args.end ts (rw c.in-2.is at last) ends in
    rw (c.in_ok-push-in-2-2.ensures.items, c.in_ok-push-in-2.ensures.items, c.size_before.ensures, two.are)
    (append_assoc c.args.numbers.now.items (c.args.first ∷ []) _)
