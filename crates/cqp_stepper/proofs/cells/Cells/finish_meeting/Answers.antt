use Rattle.std.proofs.Common.{◌≡◌, None, length, refl, ap, subst, arith, ◌∙◌}
use Rattle.std.proofs.lemmas.List.{length-set}
use Rattle.cqp_trace.specs.declared.deed.Deed.TheVariants as deed
use Rattle.cqp_cells.proofs.Options.{same_some}
use Rattle.cqp_parts.specs.Parts.{more_than_one, parts_after}
use Rattle.cqp_stepper.specs.Steps.{IsMet}
use Rattle.cqp_stepper.proofs.MetKept.{met_over}
use Rattle.cqp_stepper.proofs.cells.Cells.finish_meeting.Goals as goal

pub finish_both-requires-clause-room : goal.finish_both-requires-clause-room
finish_both-requires-clause-room c =
    let l = c.args.tables.now in
    let same : c.in-Some.sender ≡ c.requires.sender =
    same_some {x = c.in-Some.sender} {y = c.requires.sender} (c.in-Some.ensures.value ∙ c.requires.there) in
    let sent : c.go_ahead-sent.result ≡ parts_after l c.requires.sender (deed.Com 0 0) =
    c.go_ahead-sent.ensures 0 0 ∙ ap (λ p. parts_after l p (deed.Com 0 0)) same in
    let more = ap more_than_one sent in
    let size = ap length c.take.ensures.left ∙ length-set c.args.self.now.slots c.args.from None in
    let room = c.requires.room in
    omega arith

pub returns-in-Some-clause-met : goal.returns-in-Some-clause-met
returns-in-Some-clause-met c part there =
    let l = c.args.tables.now in
    let s = c.args.self.now in
    let u = record s { slots = c.take.new.self } in
    let t = c.finish_both.new.self in
    let same : c.in-Some.sender ≡ part = same_some {x = c.in-Some.sender} {y = part} (c.in-Some.ensures.value ∙ there) in
    let sent : c.go_ahead-sent.result ≡ parts_after l part (deed.Com 0 0) =
    c.go_ahead-sent.ensures 0 0 ∙ ap (λ p. parts_after l p (deed.Com 0 0)) same in
    let met = met_over s u t c.args.from c.args.to c.go_ahead-sent.result c.args.received c.requires.first c.take.ensures.left refl refl
    c.finish_both.ensures.met in
    subst (λ z. IsMet s t c.args.from c.args.to z c.args.received) sent met
