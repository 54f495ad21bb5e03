use Rattle.std.proofs.Common.{◌≡◌, ◌-◌, ◌<◌, ◌&&◌, map, length, drop, refl, sym, ◌∙◌, ap, ap₂, arith}
use Rattle.cqp_syntax.specs.TypeTrees.{type_at, trees_at, same_types}
use Rattle.cqp_types.specs.Types.{types_of}
use Rattle.cqp_types.specs.Tables.{binder_in}
use Rattle.cqp_types.proofs.Backward.{drop_step}
use Rattle.cqp_types.proofs.lists.params_fit.Goals as goal
use Rattle.cqp_types.proofs.lists.params_fit.Goals.{then-first, else-first}

pub loop-k-preserved : goal.loop-k-preserved
loop-k-preserved c =
    let l = c.args.given.now in
    let xs = c.args.params.now in
    let ts = c.args.of.now in
    let h : c.loop-k.k < length xs = omega arith in
    let first = c.name_has_type-first.result in
    let value : c.if-first.all ≡ (first && c.loop-k.all) = elim c.if-first.branch [
      | then-first w ↦ w.all-is ∙ sym (ap (λ b. b && c.loop-k.all) w.if-first.true)
      | else-first w ↦ w.all-is ∙ w.if-first.false ∙ sym (ap (λ b. b && c.loop-k.all) w.if-first.false)
    ] in
    value
    ∙ ap₂ (λ a b. a && b) c.name_has_type-first.ensures c.loop-k.invariant
    ∙ sym (ap₂ (λ ps os. same_types (types_of (map (binder_in l) ps)) (trees_at (type_at l.types) os))
    (drop_step xs (length xs) c.loop-k.k refl h) (drop_step ts (length xs) c.loop-k.k c.requires.count h))

pub returns : goal.returns
returns c =
    let l = c.args.given.now in
    let done : length c.args.params.now - c.loop-k.k ≡ 0 = omega arith in
    c.loop-k.invariant
    ∙ ap (λ j. same_types (types_of (map (binder_in l) (drop j c.args.params.now))) (trees_at (type_at l.types) (drop j c.args.of.now))) done
