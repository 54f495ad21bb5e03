use Rattle.std.proofs.Common.{◌^◌, arith, ap, ◌∙◌}
use Rattle.std.specs.Prelude.{FitsSigned, pos, ◌-ℤ◌}
use Rattle.std.specs.Int.{w128}
use Rattle.std.proofs.lemmas.Int.{ints, to_z-of_z}
use Rattle.cqp_ring.specs.Root.{root_difference, root_product, whole_root}
use Rattle.cqp_choose.proofs.born.gap.Goals as goal

pub returns : goal.returns
returns c =
    let r = c.scaled-reached.ensures.small in
    let s = c.scaled-share.ensures.small in
    let rp : FitsSigned w128 c.scaled-reached.result.p = omega (arith, ints, r.whole) in
    let rq : FitsSigned w128 c.scaled-reached.result.q = omega (arith, ints, r.root) in
    let sp : FitsSigned w128 c.scaled-share.result.p = omega (arith, ints, s.whole) in
    let sq : FitsSigned w128 c.scaled-share.result.q = omega (arith, ints, s.root) in
    let dp : FitsSigned w128 (c.scaled-reached.result.p -ℤ c.scaled-share.result.p) = omega (arith, ints, r.whole, s.whole) in
    let dq : FitsSigned w128 (c.scaled-reached.result.q -ℤ c.scaled-share.result.q) = omega (arith, ints, r.root, s.root) in
    simp to_z-of_z (
    ap (λ t. root_difference t c.scaled-share.result) c.scaled-reached.ensures.value
    ∙ ap (root_difference (root_product (whole_root (pos (2 ^ 32))) c.args.sum))
    (c.scaled-share.ensures.value ∙ ap (λ k. root_product (whole_root (pos k)) c.args.total) c.from.ensures))
