use Rattle.std.proofs.Common.{◌≡◌, Some, true, take, get_or, ap, sym, subst, arith, ◌∙◌}
use Rattle.std.specs.List.{AllByRecursion}
use Rattle.std.proofs.lemmas.List.{take_more, take_all}
use Rattle.cqp_groups.specs.Groups.{groups_in, holds}
use Rattle.cqp_stepper.specs.Kept.{is_that}
use Rattle.cqp_stepper.proofs.Gathered.{all_follow, all_more, has_all}
use Rattle.cqp_stepper.proofs.cells.Cells.gather.Goals as goal

pub loop-q-preserved : goal.loop-q-preserved
loop-q-preserved c =
    let told = c.in_ok-group.ensures.more in
    let before = c.loop-q.invariant in
    let i = c.loop-q.q-index in
    let qs = c.args.qubits.now in
    let more = c.in_ok-group.group in
    let t = c.with_one.new.self in
    record {
      kept = λ entries k. c.with_one.ensures.kept entries (before.kept entries k);
      same = record {
        slots = c.with_one.ensures.same.slots ∙ before.same.slots;
        order = c.with_one.ensures.same.order ∙ before.same.order;
        unseen = c.with_one.ensures.same.unseen ∙ before.same.unseen;
        counts = c.with_one.ensures.same.counts ∙ before.same.counts;
        places = c.with_one.ensures.same.places ∙ before.same.places;
      };
      none = told.none;
      there = told.there;
      has = subst (AllByRecursion (λ p. holds p (groups_in t.groups more) ≡ true)) (sym (take_more qs i 0 c.loop-q-test.true))
          (all_more _ (take i qs) (get_or qs i 0) (all_follow _ _ told.kept (take i qs) before.has) told.has);
    }

pub returns-clause-gathered : goal.returns-clause-gathered
returns-clause-gathered c =
    let s = c.loop-q.self in
    let qs = c.args.qubits.now in
    let x = c.loop-q.invariant in
    let g = x.there.0 in
    let over = c.loop-q-test.false in
    let whole = subst (AllByRecursion (λ p. holds p (groups_in s.groups c.loop-q.group) ≡ true)) (take_all c.loop-q.q-index qs (omega (arith, over))) x.has in
    let each = all_follow _ (λ p. holds p (Some g) ≡ true) (λ p h. sym (ap (holds p) x.there.1) ∙ h) qs whole in
    record {
      gathered = record {
        before = g;
        there = x.there.1;
        has = has_all g qs each;
        none_due = (x.kept c.requires.run.0 c.requires.run.1).due c.loop-q.group g x.there.1 (ap (λ z. is_that z c.loop-q.group) x.none);
      };
      none = x.none;
    }
