use Rattle.std.proofs.Common.{◌≡◌, ◌+◌, ◌-◌, Some, reverse, get_or, sym, ◌∙◌, ap, arith}
use Rattle.std.specs.Prelude.{find}
use Rattle.std.proofs.lemmas.List.{length-reverse, reverse-reverse}
use Rattle.cqp_expand.specs.declared.nest.NestedBinder.{NestedBinder}
use Rattle.cqp_expand.specs.Binds.{has_text, depth_in}
use Rattle.cqp_expand.proofs.Growing.{map-reverse}
use Rattle.cqp_expand.proofs.Nested.{depth_below, depth_none, depth_some}
use Rattle.cqp_expand.proofs.nest.Nest.find.Goals as goal

pub returns-then-found-eq0 : goal.returns-then-found-eq0
returns-then-found-eq0 c =
    let x = c.args.text.now in
    let bs = c.args.self.now.binders.items in
    sym (depth_none x (reverse bs) (sym c.depth_of-found.ensures ∙ c.if-found-eq0.true))
    ∙ ap (find (has_text x)) (map-reverse (λ (b : NestedBinder). b.bound) bs)

pub index-requires : goal.index-requires
index-requires c =
    let bs = c.args.self.now.binders.items in
    let below = depth_below c.args.text.now (reverse bs) in
    omega (arith, c.depth_of-found.ensures, below, length-reverse bs, c.if-found-eq0.false)

pub returns : goal.returns
returns c =
    let x = c.args.text.now in
    let bs = c.args.self.now.binders.items in
    let k = c.depth_of-found.result - 1 in
    let depth : depth_in x (reverse bs) ≡ k + 1 = sym c.depth_of-found.ensures ∙ omega (arith, c.if-found-eq0.false) in
    ap (λ (b : NestedBinder). Some b.bound) (c.index.ensures ∙ ap (λ l. get_or l k c.index.result.now) (sym (reverse-reverse bs)))
    ∙ depth_some x (reverse bs) k c.index.result.now depth ∙ ap (find (has_text x)) (map-reverse (λ (b : NestedBinder). b.bound) bs)
