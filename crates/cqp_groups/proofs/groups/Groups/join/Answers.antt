use Rattle.std.proofs.Common.{◌≡◌, Some, sym, ap, ◌∙◌}
use Rattle.cqp_groups.specs.Groups.{groups_in}
use Rattle.cqp_groups.proofs.SlotLemmas.{both_back, err_too, joined_in, joined_size, ok_too, others_kept}
use Rattle.cqp_groups.proofs.StateLemmas.{joined_state}
use Rattle.cqp_groups.proofs.groups.Groups.join.Goals as goal

pub returns-in-Some-Some-clause-ok : goal.returns-in-Some-Some-clause-ok
returns-in-Some-Some-clause-ok c =
    let second : groups_in c.args.self.now c.args.right ≡ Some c.in-Some-Some.second = cc in
    let first : groups_in c.args.self.now c.args.left ≡ Some c.in-Some-Some.first =
    sym (ap (λ z. groups_in z c.args.left) c.take-second.ensures.left ∙ others_kept c.args.self.now c.args.right c.args.left _ c.requires.apart) ∙ cc in
    ok_too c.put_both.result _ _
    (joined_in c.args.self.now c.take-second.new.self c.take-first.new.self c.put_both.new.self c.args.left c.args.right c.in-Some-Some.first
    c.in-Some-Some.second
    c.requires.apart first second c.take-second.ensures.left c.take-first.ensures.left)
    c.put_both.ensures.ok

pub returns-in-Some-Some-clause-err : goal.returns-in-Some-Some-clause-err
returns-in-Some-Some-clause-err c =
    let second : groups_in c.args.self.now c.args.right ≡ Some c.in-Some-Some.second = cc in
    let first : groups_in c.args.self.now c.args.left ≡ Some c.in-Some-Some.first =
    sym (ap (λ z. groups_in z c.args.left) c.take-second.ensures.left ∙ others_kept c.args.self.now c.args.right c.args.left _ c.requires.apart) ∙ cc in
    err_too c.put_both.result _ _
    (both_back c.args.self.now c.take-second.new.self c.take-first.new.self c.put_both.new.self c.args.left c.args.right c.in-Some-Some.first
    c.in-Some-Some.second
    c.requires.apart first second c.take-second.ensures.left c.take-first.ensures.left)
    c.put_both.ensures.err

pub returns-in-Some-Some-clause-state : goal.returns-in-Some-Some-clause-state
returns-in-Some-Some-clause-state c =
    let second : groups_in c.args.self.now c.args.right ≡ Some c.in-Some-Some.second = cc in
    let first : groups_in c.args.self.now c.args.left ≡ Some c.in-Some-Some.first =
    sym (ap (λ z. groups_in z c.args.left) c.take-second.ensures.left ∙ others_kept c.args.self.now c.args.right c.args.left _ c.requires.apart) ∙ cc in
    ok_too c.put_both.result _ _
    (λ put. joined_state c.args.self.now c.put_both.new.self c.args.left c.args.right c.requires
    (joined_in c.args.self.now c.take-second.new.self c.take-first.new.self c.put_both.new.self c.args.left c.args.right c.in-Some-Some.first
    c.in-Some-Some.second
    c.requires.apart first second c.take-second.ensures.left c.take-first.ensures.left put)
    (joined_size c.args.self.now c.take-second.new.self c.take-first.new.self c.put_both.new.self c.args.left c.args.right c.in-Some-Some.first
    c.in-Some-Some.second
    c.requires.apart first second c.take-second.ensures.left c.take-first.ensures.left put))
    c.put_both.ensures.ok
