use Rattle.std.proofs.Common.{rules, ◌≡◌, None, [], sym, subst, ap, ◌∙◌, length, refl}
use Rattle.std.proofs.lemmas.List.{length-replicate}
use Rattle.std.specs.Prelude.{replicate}
use Rattle.cqp_order.specs.declared.stand.Stand.TheVariants.{Sends, Receives}
use Rattle.cqp_order.specs.Numbered.{numbered}
use Rattle.cqp_order.specs.Sides.{IsSplit}
use Rattle.cqp_order.specs.Stands.{stand_at}
use Rattle.cqp_order.proofs.NumberLemmas.{numbered_none}
use Rattle.cqp_order.proofs.SideLemmas.{nobody_waits}
use Rattle.cqp_order.proofs.stands.Stands.new.Goals as goal

pub invariant_of-result : goal.invariant_of-result
invariant_of-result c =
    let items : c.in_ok-parts.parts.items ≡ replicate c.args.room None = search rules in
    let none : numbered 0 c.in_ok-parts.parts.items ≡ [] = ap (numbered 0) items ∙ numbered_none 0 c.args.room in
    let sides = c.new-sides in
    subst (λ s. IsSplit (stand_at s) sides.result.senders sides.result.receivers) (sym none)
    (subst (IsSplit (stand_at []) sides.result.senders) (sym sides.ensures.receivers)
    (subst (λ s. IsSplit (stand_at []) s []) (sym sides.ensures.senders) (nobody_waits Sends, nobody_waits Receives)))

pub returns : goal.returns
returns c =
    let items : c.in_ok-parts.parts.items ≡ replicate c.args.room None = search rules in
    ap (λ xs. (numbered 0 xs, length xs)) items ∙ rw (numbered_none 0 c.args.room, length-replicate) refl
