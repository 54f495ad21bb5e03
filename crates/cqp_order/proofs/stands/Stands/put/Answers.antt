use Rattle.std.proofs.Common.{◌≡◌, ◌<◌, None, Some, length, ap, sym, subst, ◌∙◌}
use Rattle.std.specs.Prelude.{slice_set}
use Rattle.cqp_order.specs.declared.stand.Stand.TheVariants.{Sends, Receives}
use Rattle.cqp_order.specs.Numbered.{numbered}
use Rattle.cqp_order.specs.Sides.{is_receiving, is_sending}
use Rattle.cqp_order.specs.Stands.{change, stand_at}
use Rattle.cqp_order.proofs.NumberLemmas.{numbered_set}
use Rattle.cqp_order.proofs.SideLemmas.{receives, receiving, sends, sending, waiting_put}
use Rattle.cqp_order.proofs.stands.Stands.put.Goals as goal

-- the part waits on its side
pub invariant_of-self-2 : goal.invariant_of-self-2
invariant_of-self-2 c =
    let part = c.args.part in
    let stand = c.args.stand in
    let items = c.self.inside.parts.items in
    let at = stand_at (numbered 0 items) in
    let to = stand_at (numbered 0 (slice_set items part (Some stand))) in
    let gone : at part ≡ None = subst (λ v. stand_at v.0 part ≡ None) (sym c.self.view_is) c.requires.absent in
    let fits : part < length items = subst (λ v. part < v.1) (sym c.self.view_is) c.requires.fits in
    let changes = numbered_set items part (Some stand) fits in
    let entered = c.in_ok-enter.ensures in (
      waiting_put Sends at to part stand _ _ c.self.invariant.0 is_sending sending sends gone changes entered.senders,
      waiting_put Receives at to part stand _ _ c.self.invariant.1 is_receiving receiving receives gone changes entered.receivers,
    )

pub returns-clause-done : goal.returns-clause-done
returns-clause-done c i =
    let part = c.args.part in
    let items = c.self.inside.parts.items in
    let fits : part < length items = subst (λ v. part < v.1) (sym c.self.view_is) c.requires.fits in
    numbered_set items part (Some c.args.stand) fits i ∙ ap (λ v. change part (Some c.args.stand) (stand_at v.0) i) c.self.view_is
