use Rattle.std.proofs.Common.{◌≡◌, ◌-◌, ◌<◌, ◌&&◌, map, length, drop, refl, sym, ◌∙◌, ap, ap₂, arith}
use Rattle.cqp_syntax.specs.TypeTrees.{type_at, trees_at, same_types}
use Rattle.cqp_syntax.specs.Listing.{type_of_name, expr_at}
use Rattle.cqp_types.specs.Faults.{form_types}
use Rattle.cqp_types.proofs.Backward.{drop_step}
use Rattle.cqp_types.proofs.lists.args_fit.Goals as goal
use Rattle.cqp_types.proofs.lists.args_fit.Goals.{then-first, else-first}

pub loop-k-preserved : goal.loop-k-preserved
loop-k-preserved c =
    let l = c.args.given.now in
    let xs = c.args.args.now in
    let ts = c.args.of.now in
    let h : c.loop-k.k < length xs = omega arith in
    let first = c.has_type-first.result in
    let value : c.if-first.all ≡ (first && c.loop-k.all) = elim c.if-first.branch [
      | then-first w ↦ w.all-is ∙ sym (ap (λ b. b && c.loop-k.all) w.if-first.true)
      | else-first w ↦ w.all-is ∙ w.if-first.false ∙ sym (ap (λ b. b && c.loop-k.all) w.if-first.false)
    ] in
    value
    ∙ ap₂ (λ a b. a && b) c.has_type-first.ensures c.loop-k.invariant
    ∙ sym (ap₂ (λ ps os. same_types (form_types (type_of_name l) (map (expr_at l) ps)) (trees_at (type_at l.types) os))
    (drop_step xs (length xs) c.loop-k.k refl h) (drop_step ts (length xs) c.loop-k.k c.requires.count h))

pub returns : goal.returns
returns c =
    let l = c.args.given.now in
    let done : length c.args.args.now - c.loop-k.k ≡ 0 = omega arith in
    c.loop-k.invariant
    ∙ ap (λ j. same_types (form_types (type_of_name l) (map (expr_at l) (drop j c.args.args.now))) (trees_at (type_at l.types) (drop j c.args.of.now))) done
