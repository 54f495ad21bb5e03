use Rattle.std.proofs.Common.{◌≡◌, sym, subst}
use Rattle.cqp_groups.specs.Groups.{factors_in}
use Rattle.cqp_groups.specs.States.{TellFactors}
use Rattle.cqp_groups.proofs.FactorLemmas.{factors_told}
use Rattle.cqp_groups.proofs.SlotLemmas.{if_ok_too}
use Rattle.cqp_groups.proofs.groups.Groups.into_factors.Goals as goal

pub returns-clause-state : goal.returns-clause-state
returns-clause-state c =
    if_ok_too c.all_factors.result (λ list. list ≡ factors_in c.args.self) (TellFactors c.args.self)
    (λ list is. subst (TellFactors c.args.self) (sym is) (factors_told c.args.self)) c.all_factors.ensures
