use Rattle.std.proofs.Common.{None, get_or, sym, ap, ◌∙◌}
use Rattle.std.proofs.lemmas.List.{get_or_read}
use Rattle.cqp_stepper.proofs.slots.Slots.go_on_alone.Goals as goal

pub go_on_alone-requires : goal.go_on_alone-requires
go_on_alone-requires c =
    let slots = c.args.self.now in
    let read = c.index_mut.ensures.value ∙ ap (λ z. get_or z c.args.n c.index_mut.result.now) c.self.view_is in
    c.requires.stands c.in-Some.part (sym (get_or_read slots c.args.n c.index_mut.result.now c.requires.place read None) ∙ c.in-Some.is)
