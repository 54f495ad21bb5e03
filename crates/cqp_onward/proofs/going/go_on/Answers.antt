use Rattle.std.proofs.Common.{sym, subst}
use Rattle.std.specs.List.{AllByRecursion}
use Rattle.std.proofs.lemmas.Result.{IfOk-weaker}
use Rattle.cqp_standing.specs.Stands.{Stands}
use Rattle.cqp_standing.proofs.StandLemmas.{stands_after}
use Rattle.cqp_onward.proofs.going.go_on.Goals as goal

pub returns-clause-stand : goal.returns-clause-stand
returns-clause-stand c =
    let l = c.args.proc.now in
    IfOk-weaker c.after.result _ _
    (λ parts e s. subst (AllByRecursion (Stands l)) (sym e) (stands_after l c.requires.uses.process c.args.part c.requires.stands c.args.deed.now s))
    c.after.ensures.ok
