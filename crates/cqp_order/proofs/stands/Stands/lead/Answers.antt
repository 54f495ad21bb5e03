use Rattle.std.proofs.Common.{subst, sym}
use Rattle.cqp_order.specs.Groups.{InGroup, chan_group}
use Rattle.cqp_order.specs.Least.{IsLeast}
use Rattle.cqp_order.specs.Stands.{stand_at}
use Rattle.cqp_order.specs.declared.stand.Stand.TheVariants.{Sends, Receives}
use Rattle.cqp_order.specs.Numbered.{numbered}
use Rattle.cqp_order.proofs.SideLemmas.{waiting_least}
use Rattle.cqp_order.proofs.SplitLemmas.{lesser_leads}
use Rattle.cqp_order.proofs.stands.Stands.lead.Goals as goal

-- the lesser of the two sides' least parts
pub returns : goal.returns
returns c =
    let at = stand_at (numbered 0 c.self.inside.parts.items) in
    let sender = waiting_least Sends at _ c.self.invariant.0 c.args.chan c.least.result c.least.ensures in
    let receiver = waiting_least Receives at _ c.self.invariant.1 c.args.chan c.least-2.result c.least-2.ensures in
    let found = lesser_leads at c.args.chan c.least.result c.least-2.result sender receiver in
    subst (λ s. IsLeast (InGroup (stand_at s.0) (chan_group c.args.chan)) c.lesser_of_both.result) c.self.view_is (subst (IsLeast _) (sym c.lesser_of_both.ensures) found)
