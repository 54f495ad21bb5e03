use Rattle.std.proofs.Common.{◌∙◌, ap, reverse, drop, nat_lt, arith}
use Rattle.std.specs.List.{list_any}
use Rattle.std.proofs.lemmas.List.{length-map, length-reverse, reverse-reverse}
use Rattle.cqp_expand.specs.declared.nest.NestedBinder.{NestedBinder}
use Rattle.cqp_expand.specs.Binds.{has_text, bounds}
use Rattle.cqp_expand.proofs.Nested.{depth_behind}
use Rattle.cqp_expand.proofs.nest.Nest.repeats.Goals as goal

pub returns : goal.returns
returns c =
    let x = c.args.text.now in
    let bs = c.args.self.now.binders.items in
    let many = length-map bs (λ (b : NestedBinder). b.bound) in
    ap (nat_lt c.args.depth) c.depth_of.ensures
    ∙ depth_behind x (reverse bs) c.args.depth (omega (arith, c.requires.within, many, length-reverse bs))
    ∙ ap (λ l. list_any (has_text x) (drop c.args.depth (bounds l))) (reverse-reverse bs)
