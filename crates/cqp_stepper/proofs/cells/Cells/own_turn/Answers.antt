use Rattle.std.proofs.Common.{◌≡◌, None, Bor, sym, ap, ◌∙◌}
use Rattle.std.specs.Option.{option_map}
use Rattle.cqp_cells.proofs.Options.{none_is_some}
use Rattle.cqp_parts.specs.declared.part.Part.{Part}
use Rattle.cqp_stepper.specs.Slots.{part_in}
use Rattle.cqp_stepper.proofs.Noted.{noted_part}
use Rattle.cqp_stepper.proofs.cells.Cells.own_turn.Goals as goal

-- a part that is noted is there
pub returns-in-None : goal.returns-in-None
returns-in-None c at =
    let s = c.args.self.now in
    let run = c.requires.run in
    let there = noted_part c.args.tables.now run.0 s run.1 c.requires.seen c.args.n _ at in
    let none : None ≡ part_in s.slots c.args.n = ap (option_map (λ (p : Bor Part). p.now)) (sym c.in-None.is) ∙ c.get.ensures in
    absurd (none_is_some {x = there.0} (none ∙ there.1))
