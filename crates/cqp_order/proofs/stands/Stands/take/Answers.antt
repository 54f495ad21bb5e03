use Rattle.std.proofs.Common.{◌≡◌, ◌<◌, ℕ, List, None, Some, length, ap, sym, ◌∙◌, arith}
use Rattle.std.specs.Prelude.{slice_set}
use Rattle.cqp_order.specs.declared.stand.Stand.TheVariants.{Sends, Receives}
use Rattle.cqp_order.specs.declared.stand.Stand.{Stand}
use Rattle.cqp_order.specs.declared.stands.Stands.TheInside.{Inside}
use Rattle.cqp_order.specs.Numbered.{numbered}
use Rattle.cqp_order.specs.Places.{stands_in}
use Rattle.cqp_order.specs.Stands.{change, stand_at}
use Rattle.cqp_order.proofs.NumberLemmas.{numbered_at, numbered_set, stands_within}
use Rattle.cqp_order.proofs.SideLemmas.{receives_or_not, sends_or_not, waiting_take}
use Rattle.cqp_order.proofs.stands.Stands.take.Goals as goal

-- the part was there, so it has a place
place : (l : Inside) (now : List (ℕ × Stand) × ℕ) (part : ℕ) (stand : Stand) → (numbered 0 l.parts.items, length l.parts.items) ≡ now
    → stand_at now.0 part ≡ Some stand → (stand_at (numbered 0 l.parts.items) part ≡ Some stand) × (part < length l.parts.items)
place l now part stand view at =
    let there : stand_at (numbered 0 l.parts.items) part ≡ Some stand = ap (λ v. stand_at v.0 part) view ∙ at in
    (there, stands_within l.parts.items part stand (sym (numbered_at l.parts.items part) ∙ there))

pub index_mut-requires : goal.index_mut-requires
index_mut-requires c =
    let at = place c.self.inside _ c.args.part c.in_ok-stand.stand c.self.view_is (sym c.get.ensures ∙ c.in_ok-stand.was) in
    let below = at.1 in
    let same = c.self.inside.parts.ok.0 in
    omega arith

-- nobody waits in its place
pub invariant_of-self : goal.invariant_of-self
invariant_of-self c =
    let part = c.args.part in
    let stand = c.in_ok-stand.stand in
    let items = c.self.inside.parts.items in
    let at = stand_at (numbered 0 items) in
    let to = stand_at (numbered 0 (slice_set items part None)) in
    let was = place c.self.inside _ part stand c.self.view_is (sym c.get.ensures ∙ c.in_ok-stand.was) in
    let changes = numbered_set items part None was.1 in
    let are : (k : ℕ) → to k ≡ stands_in c.as_slice.result.now k = λ k. numbered_at (slice_set items part None) k
    ∙ ap (λ xs. stands_in xs k) (sym c.as_slice.ensures.value) in (
      waiting_take Sends at to part stand _ _ c.self.invariant.0 (sends_or_not stand) was.0 changes c.as_slice.result.now are c.leave.ensures.senders,
      waiting_take Receives at to part stand _ _ c.self.invariant.1 (receives_or_not stand) was.0 changes c.as_slice.result.now are c.leave.ensures.receivers,
    )

pub returns-clause-gone : goal.returns-clause-gone
returns-clause-gone c i =
    let part = c.args.part in
    let was = place c.self.inside _ part c.in_ok-stand.stand c.self.view_is (sym c.get.ensures ∙ c.in_ok-stand.was) in
    numbered_set c.self.inside.parts.items part None was.1 i ∙ ap (λ v. change part None (stand_at v.0) i) c.self.view_is
