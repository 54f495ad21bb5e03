use Rattle.std.proofs.Common.{sym, ap, subst, ◌∙◌}
use Rattle.std.specs.List.{AllByRecursion}
use Rattle.std.proofs.lemmas.Result.{IfOk-weaker}
use Rattle.cqp_parts.specs.Parts.{parts_after_input}
use Rattle.cqp_standing.specs.Stands.{Stands}
use Rattle.cqp_standing.proofs.StandLemmas.{stands_received}
use Rattle.cqp_onward.proofs.going.receive.Goals as goal

pub returns-clause-stand : goal.returns-clause-stand
returns-clause-stand c =
    let l = c.args.proc.now in
    IfOk-weaker c.received.result _ _
    (λ parts e s. subst (AllByRecursion (Stands l)) (sym (e
    ∙ ap (parts_after_input l c.args.part) c.as_slice.ensures)) (stands_received l c.requires.uses.process c.args.part c.requires.stands c.args.vals.now s))
    c.received.ensures.ok
