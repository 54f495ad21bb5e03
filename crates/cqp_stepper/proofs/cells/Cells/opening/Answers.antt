use Rattle.std.proofs.Common.{None, [], length, sym, ap, arith, ◌∙◌}
use Rattle.cqp_fresh.proofs.SoundStores.{length-opening}
use Rattle.cqp_machine.specs.After.{placed_from}
use Rattle.cqp_stepper.proofs.Opened.{opened_kept}
use Rattle.cqp_stepper.proofs.cells.Cells.opening.Goals as goal

pub open-parts-requires-clause-room : goal.open-parts-requires-clause-room
open-parts-requires-clause-room c =
    let l = c.args.tables.now in
    let process = c.checked.ensures.process in
    let settled = c.opening_laws.ensures.settled l process in
    let within = c.opening_laws.ensures.room l [] process settled.run in
    let parts = ap length c.in_ok-opening.ensures ∙ length-opening l in
    let room = c.in_ok-slots.ensures.room in
    let nodes = c.nodes-room.ensures in
    omega arith

pub returns : goal.returns
returns c =
    let l = c.args.tables.now in
    let process = c.checked.ensures.process in
    let laws = c.opening_laws.ensures in
    let told = c.open-parts.ensures in
    let same = c.in_ok-opening.ensures in
    let room = told.room ∙ c.in_ok-slots.ensures.room in
    let kept =
    opened_kept l (laws.settled l process) c.checked.ensures.checked (laws.groups l process) c.open-parts.new.self
    (λ n. told.parts n ∙ ap (λ ps. placed_from 0 ps (λ i. None) n) same) (room ∙ c.nodes-room.ensures) c.open-parts.result _ (told.count ∙ ap length same)
    (sym room) in
    rw (c.in_ok-new.ensures, c.new-3.ensures, c.slots-2.view_is) kept
