use Rattle.std.proofs.Common.{◌≡◌, ◌++◌, [], ◌∷◌, Some, None, sym, ap, ◌∙◌}
use Rattle.cqp_groups.specs.Groups.{factors_in}
use Rattle.cqp_groups.proofs.Entering.{factors_more, factors_none}
use Rattle.cqp_groups.proofs.groups.Groups.all_factors.Goals as goal

pub loop-slot-preserved-in-Continue-1 : goal.loop-slot-preserved-in-Continue-1
loop-slot-preserved-in-Continue-1 c =
    let is : c.in-Some.slot ≡ Some c.in-Some-slot.group = c.in-Some-slot.is in
    let pushed : c.push.new.self.items ≡ c.loop-slot.list.items ++ c.into_factor.result ∷ [] = c.in_ok-push.ensures.items in
    pushed
    ∙ (ap (λ z. z ++ c.into_factor.result ∷ []) c.loop-slot.invariant
    ∙ (ap (λ z. factors_in c.loop-slot.yielded ++ z ∷ []) c.into_factor.ensures
    ∙ (sym (factors_more c.loop-slot.yielded c.in-Some-slot.group)
    ∙ ap (λ z. factors_in (c.loop-slot.yielded ++ z ∷ [])) (sym is))))

pub loop-slot-preserved : goal.loop-slot-preserved
loop-slot-preserved c =
    let is : c.in-Some.slot ≡ None = c.in_default.is in
    c.loop-slot.invariant ∙ (sym (factors_none c.loop-slot.yielded) ∙ ap (λ z. factors_in (c.loop-slot.yielded ++ z ∷ [])) (sym is))
