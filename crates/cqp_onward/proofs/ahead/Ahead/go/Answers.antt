use Rattle.std.proofs.Common.{[], refl, sym, ap, subst, ◌∙◌}
use Rattle.std.specs.List.{AllByRecursion}
use Rattle.cqp_trace.specs.declared.deed.Deed.TheVariants as deed
use Rattle.cqp_parts.specs.Parts.{body_of, node_at, parts_from}
use Rattle.cqp_standing.specs.Stands.{Stands}
use Rattle.cqp_standing.proofs.StandLemmas.{stands_after}
use Rattle.cqp_onward.proofs.Pushes.{unchanged}
use Rattle.cqp_onward.proofs.ahead.Ahead.go.Goals as goal

pub returns-clause-stand : goal.returns-clause-stand
returns-clause-stand c to chan s =
    let l = c.args.proc.now in
    let p = c.args.part in
    let from = c.begin.ensures ∙ c.requires.leads.all in
    let all = from ∙ ap (λ env. parts_from l env (body_of (node_at l p.node))) (unchanged p.env [] refl) in
    subst (AllByRecursion (Stands l)) (sym all) (stands_after l c.requires.uses.process p c.requires.stands (deed.Com to chan) s)
