use Rattle.std.proofs.Common.{◌≤◌, ◌∙◌, length, sym, ap, arith}
use Rattle.std.proofs.lemmas.List.{take_all}
use Rattle.cqp_expand.specs.declared.nest.NestedBinder.{NestedBinder}
use Rattle.cqp_expand.specs.Binds.{bounds}
use Rattle.cqp_expand.proofs.KnownDefs.{map_take}
use Rattle.cqp_expand.proofs.nest.Nest.leave.Goals as goal

pub returns-clause-left : goal.returns-clause-left
returns-clause-left c =
    let bs = c.loop-self.self.binders.items in
    let few : length bs ≤ c.args.depth = omega (arith, c.loop-self-test.false, c.len.ensures, c.loop-self.self.binders.ok.0) in
    ap bounds (sym (take_all c.args.depth bs few) ∙ c.loop-self.invariant.1)
    ∙ map_take (λ (b : NestedBinder). b.bound) c.args.depth c.args.self.now.binders.items
