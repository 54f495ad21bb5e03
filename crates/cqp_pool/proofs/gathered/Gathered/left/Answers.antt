use Rattle.std.proofs.Common.{ℕ, List, All, ap, ◌∙◌, refl, map, true≢false, arith}
use Rattle.std.specs.List.{sum_by}
use Rattle.cqp_pool.specs.declared.tally.Tally.{Tally}
use Rattle.cqp_pool.specs.Often.{AddUp, IsWithin}
use Rattle.cqp_pool.specs.Pools.{GatheredState}
use Rattle.cqp_pool.specs.Parts.{Owned, Log, IsSettled, pushed_in, taken_in, pushed_kept}
use Rattle.cqp_pool.specs.Parts.{taken_kept}
use Rattle.cqp_pool.proofs.Gives.{joined_within, sum_by-push}
use Rattle.cqp_pool.proofs.Left.{some_left, nothing_left, taken_one_more}
use Rattle.cqp_pool.proofs.gathered.Gathered.left.Goals as goal

owns_within : (os : List Owned) → All IsSettled os → IsWithin (taken_in os) (pushed_in os)
owns_within os all = joined_within (λ (o : Owned). o.view.pushed) (λ o. o.view.taken) os (λ k d lt. (all k d lt).1)

kepts_within : {T : Type 0} (number : T → ℕ) (ks : List (Log T)) → All (λ (k : Log T). AddUp k.pushed k.taken (map number k.items)) ks
    → IsWithin (taken_kept ks) (pushed_kept ks)
kepts_within {T} number ks all = joined_within (λ (k : Log T). k.pushed) (λ k. k.taken) ks (λ k d lt weight. let a = all k d lt weight in omega arith)

pub returns-in-Some-clause-none : goal.returns-in-Some-clause-none
returns-in-Some-clause-none g c =
    let s = c.in-Some.ensures.taken in
    let is = c.self.view_is in
    let door = c.self.inside.door.view in
    let owns = c.self.inside.owns.items in
    let kepts = c.self.inside.kepts.items in
    let n = g.T.Numbered.number c.in-Some.item in
    let some = some_left door.pushed (pushed_in owns) (pushed_kept kepts) door.taken (taken_in owns)
    (taken_kept kepts) c.args.self.now.pushed c.args.self.now.taken
    (ap (λ (t : GatheredState). t.pushed) is) (ap (λ (t : GatheredState). t.taken) is) n
    (λ weight.
    let t = ap (λ (x : Tally). sum_by weight x.taken) s.0 ∙ sum_by-push weight door.taken n in
    let p = ap (λ (x : Tally). sum_by weight x.pushed) s.0 in
    let d = s.1 weight in
    let o = owns_within owns c.self.invariant.1 weight in
    let k = kepts_within g.T.Numbered.number kepts c.self.invariant.2 weight in
    omega arith) in
    (λ e. absurd (true≢false e), λ same. absurd (some same))

pub returns-in-Some-drain_kepts-clause-none : goal.returns-in-Some-drain_kepts-clause-none
returns-in-Some-drain_kepts-clause-none g c =
    let s = c.in-Some-drain_kepts.ensures.gives in
    let is = c.self.view_is in
    let door = c.self.inside.door.view in
    let owns = c.self.inside.owns.items in
    let kepts = c.self.inside.kepts.items in
    let some = some_left door.pushed (pushed_in owns) (pushed_kept kepts) door.taken (taken_in owns)
    (taken_kept kepts) c.args.self.now.pushed c.args.self.now.taken
    (ap (λ (t : GatheredState). t.pushed) is) (ap (λ (t : GatheredState). t.taken) is) (g.T.Numbered.number c.in-Some-drain_kepts.item)
    (λ weight.
    let m = s.more weight in
    let w = s.within weight in
    let d = c.in_default.ensures.none.1 weight in
    let o = owns_within owns c.self.invariant.1 weight in
    omega arith) in
    (λ e. absurd (true≢false e), λ same. absurd (some same))

pub returns-in_err-item-clause-none : goal.returns-in_err-item-clause-none
returns-in_err-item-clause-none g c =
    let is = c.self.view_is in
    let door = c.self.inside.door.view in
    let owns = c.self.inside.owns.items in
    let kepts = c.self.inside.kepts.items in
    let nothing = nothing_left door.pushed (pushed_in owns) (pushed_kept kepts) door.taken (taken_in owns)
    (taken_kept kepts) c.args.self.now.pushed c.args.self.now.taken
    (ap (λ (t : GatheredState). t.pushed) is) (ap (λ (t : GatheredState). t.taken) is)
    (λ weight.
    let d = c.in_default.ensures.none.1 weight in
    let o = c.in_err-item.ensures.none.1 weight in
    let k = c.in_default-drain_kepts.ensures.none.1 weight in
    omega arith) in
    (λ e. nothing, λ same. rw c.from_residual.ensures refl)

pub returns-clause-taken : goal.returns-clause-taken
returns-clause-taken g c =
    let door = c.self.inside.door.view in
    let owns = c.self.inside.owns.items in
    let kepts = c.self.inside.kepts.items in
    taken_one_more door.taken (taken_in owns) (taken_kept kepts) c.drain.new.self.view.taken (taken_in c.drain_owns.new.owns.items)
    (taken_kept c.drain_kepts.new.kepts.items)
    c.args.self.now.taken (g.T.Numbered.number c.in_ok-item.item) (ap (λ (t : GatheredState). t.taken) c.self.view_is)
    (λ weight.
    let d = ap (λ x. sum_by weight x.view.taken) c.in_default.ensures.none.0 in
    let o = c.in_ok-item.ensures.gives.more weight in
    let k = ap (λ l. sum_by weight (taken_kept l)) c.in_default-drain_kepts.ensures.none.0 in
    omega arith)

pub returns-clause-none : goal.returns-clause-none
returns-clause-none g c =
    let s = c.in_ok-item.ensures.gives in
    let is = c.self.view_is in
    let door = c.self.inside.door.view in
    let owns = c.self.inside.owns.items in
    let kepts = c.self.inside.kepts.items in
    let some = some_left door.pushed (pushed_in owns) (pushed_kept kepts) door.taken (taken_in owns)
    (taken_kept kepts) c.args.self.now.pushed c.args.self.now.taken
    (ap (λ (t : GatheredState). t.pushed) is) (ap (λ (t : GatheredState). t.taken) is) (g.T.Numbered.number c.in_ok-item.item)
    (λ weight.
    let m = s.more weight in
    let w = s.within weight in
    let d = c.in_default.ensures.none.1 weight in
    let k = c.in_default-drain_kepts.ensures.none.1 weight in
    omega arith) in
    (λ e. absurd (true≢false e), λ same. absurd (some same))
