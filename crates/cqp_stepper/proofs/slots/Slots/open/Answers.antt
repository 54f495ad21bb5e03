use Rattle.std.proofs.Common.{sym, ap, ◌∙◌}
use Rattle.std.specs.Option.{option_map}
use Rattle.cqp_stepper.specs.Slots.{part_in}
use Rattle.cqp_stepper.proofs.Opened.{none_opened}
use Rattle.cqp_stepper.proofs.slots.Slots.open.Goals as goal

pub returns-in-None-clause-count : goal.returns-in-None-clause-count
returns-in-None-clause-count c =
    c.place-others.ensures.made
    ∙ none_opened c.args.parts (part_in c.args.self.now) (sym (c.place-others.ensures.parts 0) ∙ (sym c.get.ensures ∙ ap (option_map _) c.in-None.is))
