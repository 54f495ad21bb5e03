use Rattle.std.proofs.Common.{ap, sym, ◌∙◌}
use Rattle.cqp_order.specs.Places.{stands_in}
use Rattle.cqp_order.specs.Stands.{stand_at}
use Rattle.cqp_order.proofs.NumberLemmas.{numbered_at}
use Rattle.cqp_order.proofs.stands.Stands.get.Goals as goal

pub returns : goal.returns
returns c =
    let items = c.self.inside.parts.items in
    c.stand_in.ensures
    ∙ (ap (λ s. stands_in s c.args.part) c.as_slice.ensures.value
    ∙ (sym (numbered_at items c.args.part) ∙ ap (λ v. stand_at v.0 c.args.part) c.self.view_is))
