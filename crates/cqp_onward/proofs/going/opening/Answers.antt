use Rattle.std.proofs.Common.{sym, ap, subst, ◌∙◌}
use Rattle.std.specs.List.{AllByRecursion}
use Rattle.cqp_parts.specs.Parts.{parts_from}
use Rattle.cqp_standing.specs.Stands.{Stands}
use Rattle.cqp_standing.proofs.StandLemmas.{stands_opening}
use Rattle.cqp_onward.proofs.going.opening.Goals as goal

pub returns-in-Ok-clause-stand : goal.returns-in-Ok-clause-stand
returns-in-Ok-clause-stand c =
    subst (AllByRecursion (Stands c.args.proc.now)) (sym (c.in-Ok.ensures.ok
    ∙ ap (λ env. parts_from c.args.proc.now env 0) c.new.ensures)) (stands_opening c.args.proc.now c.requires.process)
