use Rattle.std.proofs.Common.{ap, sym, subst, All, set, arith}
use Rattle.std.proofs.lemmas.List.Elements.{All-set}
use Rattle.cqp_pool.specs.declared.tally.Tally.{Tally}
use Rattle.cqp_pool.specs.Parts.{Owned, IsSettled}
use Rattle.cqp_pool.proofs.Gives.{gives_one, joined_as_often}
use Rattle.cqp_pool.proofs.gathered.drain_owns_in.Goals as goal

pub returns-in-Some-clause-gives : goal.returns-in-Some-clause-gives
returns-in-Some-clause-gives g c =
    let owns = c.loop-k.owns in
    let k = c.loop-k.k in
    let new : Owned = c.drain.new.self in
    let s = c.in-Some.ensures in
    let same = c.loop-k.invariant.0 in
    let all : All IsSettled (set owns k new) = All-set IsSettled owns k new s.settled (subst (All IsSettled) (sym same) c.requires) in
    gives_one (λ (o : Owned). o.view.pushed) (λ o. o.view.taken) owns c.args.owns.now k new c.index-owns-k.result
    (g.T.Numbered.number c.in-Some.item) same c.loop-k-test.true
    (ap (λ (t : Tally). t.pushed) s.taken) (ap (λ (t : Tally). t.taken) s.taken) (λ j d lt. (all j d lt).1)

pub returns-clause-none : goal.returns-clause-none
returns-clause-none g c = (
  c.loop-k.invariant.0,
  joined_as_often (λ (o : Owned). o.view.pushed) (λ o. o.view.taken) c.args.owns.now (λ j d lt. c.loop-k.invariant.1 j
      (let f = c.loop-k-test.false in omega arith) d),
)
