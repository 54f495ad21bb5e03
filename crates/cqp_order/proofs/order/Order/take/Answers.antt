use Rattle.std.proofs.Common.{◌≡◌, Some, subst, sym, ◌∙◌}
use Rattle.cqp_order.specs.Marks.{is_marked}
use Rattle.cqp_order.specs.Stands.{stand_at, IsWithin}
use Rattle.cqp_order.proofs.KeptLemmas.{kept_take, within_take}
use Rattle.cqp_order.proofs.order.Order.take.Goals as goal

-- the part's group has its new least
pub invariant_of-self : goal.invariant_of-self
invariant_of-self c =
    let part = c.args.part in
    let old = c.self.inside.stands.0 in
    let marks = c.self.inside.marks in
    let new = c.take.new.self.0 in
    let there : stand_at old part ≡ Some c.in_ok-stand.stand = sym c.get.ensures ∙ c.in_ok-stand.was in
    let kept = kept_take (stand_at old) (stand_at new) part c.in_ok-stand.stand (is_marked marks) (is_marked c.renew.new.self)
    c.lead-before.result c.lead-after.result
    c.renew.ensures.marks c.self.invariant.0 c.lead-before.ensures there c.take.ensures.gone c.lead-after.ensures in
    let room = c.take.ensures.room in (
      kept,
      subst (IsWithin new) (sym room) (within_take old _ c.self.invariant.1 new part c.take.ensures.gone),
      c.renew.ensures.room ∙ (c.self.invariant.2 ∙ sym room),
    )
