use Rattle.std.proofs.Common.{sym, subst, get_or, All, List, map, set, arith}
use Rattle.std.proofs.lemmas.List.Elements.{All-set}
use Rattle.cqp_pool.specs.Often.{AddUp}
use Rattle.cqp_pool.specs.Parts.{Log}
use Rattle.cqp_pool.proofs.Gives.{gives_one, joined_as_often, adds_up_after_pop}
use Rattle.cqp_pool.proofs.gathered.drain_kepts_in.Goals as goal

pub returns-in-Some-clause-gives : goal.returns-in-Some-clause-gives
returns-in-Some-clause-gives g c =
    let X : Type 0 = Log g.row.T.Denot in
    let AddsUp : X → Type 0 = λ k. AddUp k.pushed k.taken (map g.T.Numbered.number k.items) in
    let logs : List X = c.loop-k.kepts in
    let k = c.loop-k.k in
    let old : X = c.index-kepts-k.result in
    let new : X = c.pop.new.self in
    let s = c.in-Some.ensures in
    let same = c.loop-k.invariant.0 in
    let were : All AddsUp logs = subst (All AddsUp) (sym same) c.requires in
    let adds = adds_up_after_pop g.T.Numbered.number (get_or logs k old) new c.in-Some.item s.items s.pushed s.taken (were k old
    (rw same c.loop-k-test.true)) in
    let all : All AddsUp (set logs k new) = All-set AddsUp logs k new adds were in
    gives_one (λ (x : X). x.pushed) (λ x. x.taken) logs c.args.kepts.now k new old (g.T.Numbered.number c.in-Some.item) same c.loop-k-test.true
    s.pushed s.taken (λ j d lt weight. let a = all j d lt weight in omega arith)

pub returns-clause-none : goal.returns-clause-none
returns-clause-none g c = (
  c.loop-k.invariant.0,
  joined_as_often (λ (k : Log g.row.T.Denot). k.pushed) (λ k. k.taken) c.args.kepts.now (λ j d lt. c.loop-k.invariant.1 j
      (let f = c.loop-k-test.false in omega arith) d),
)
