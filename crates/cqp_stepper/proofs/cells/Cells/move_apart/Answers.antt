use Rattle.std.proofs.Common.{length, None, ap, sym, subst, arith, ◌∙◌}
use Rattle.std.proofs.lemmas.List.{length-set}
use Rattle.cqp_cells.proofs.Options.{same_some}
use Rattle.cqp_parts.specs.Parts.{more_than_one}
use Rattle.cqp_standing.specs.Stands.{Stands}
use Rattle.cqp_stepper.specs.Steps.{IsMade}
use Rattle.cqp_stepper.proofs.OwnKept.{made_over}
use Rattle.cqp_stepper.proofs.cells.Cells.move_apart.Goals as goal

pub go_on-requires-clause-stands : goal.go_on-requires-clause-stands
go_on-requires-clause-stands c part there =
    let can = c.requires in
    subst (Stands c.args.tables.now) (same_some {x = can.part} {y = part} (sym can.there ∙ there)) can.stands

pub finish-requires-clause-room : goal.finish-requires-clause-room
finish-requires-clause-room c =
    let s = c.args.self.now in
    let can = c.requires in
    let left = c.in_ok-parts.ensures.left in
    let room = can.room in
    let more = ap more_than_one (c.in_ok-parts.ensures.ok can.part can.there) in
    let count = ap (λ z. z.counts.parts) left in
    let size = ap (λ z. length z.slots) left ∙ length-set s.slots c.args.n None in
    omega arith

pub finish-requires-clause-place : goal.finish-requires-clause-place
finish-requires-clause-place c =
    let below = c.requires.place in
    let size = ap (λ z. length z.slots) c.in_ok-parts.ensures.left ∙ length-set c.args.self.now.slots c.args.n None in
    omega arith

pub finish-requires-clause-few : goal.finish-requires-clause-few
finish-requires-clause-few c =
    let few = c.requires.places in
    let size = ap (λ z. length z.slots) c.in_ok-parts.ensures.left ∙ length-set c.args.self.now.slots c.args.n None in
    omega arith

pub finish-requires-clause-chans : goal.finish-requires-clause-chans
finish-requires-clause-chans c = let few = c.requires.chans in let count = ap (λ z. z.counts.chans) c.in_ok-parts.ensures.left in omega arith

pub finish-requires-clause-turns : goal.finish-requires-clause-turns
finish-requires-clause-turns c = let few = c.requires.turns in let count = ap (λ z. z.counts.turns) c.in_ok-parts.ensures.left in omega arith

pub returns-clause-made : goal.returns-clause-made
returns-clause-made c part there =
    let l = c.args.tables.now in
    let s = c.args.self.now in
    let left = c.in_ok-parts.ensures.left in
    let made = made_over s c.go_on.new.self c.finish.new.self c.args.n c.args.deed.now c.in_ok-parts.parts c.requires.place (ap (λ z. z.slots) left)
    (ap (λ z. z.order) left) (ap (λ z. z.counts) left) c.finish.ensures.made in
    subst (IsMade s c.finish.new.self c.args.n c.args.deed.now) (c.in_ok-parts.ensures.ok part there) made
