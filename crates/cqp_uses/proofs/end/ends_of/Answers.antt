use Rattle.std.proofs.Common.{◌≡◌, ◌+◌, ◌-◌, ◌<◌, ◌≤◌, length, subst, arith, slice_set}
use Rattle.cqp_uses.specs.Users.{EndsFrom}
use Rattle.cqp_uses.proofs.EndTables.{ends_more}
use Rattle.cqp_uses.proofs.end.ends_of.Goals as goal

pub loop-k-preserved : goal.loop-k-preserved
loop-k-preserved c =
    let l = c.args.proc.now in
    let n = c.len-count.result - 1 - c.loop-k.k in
    let next : c.len-count.result - c.loop-k.k ≡ n + 1 = omega arith in
    let here : n ≡ c.len-count.result - (c.loop-k.k + 1) = omega arith in
    let before = subst (λ a. EndsFrom l c.loop-k.ends.items a) next c.loop-k.invariant in
    let within : n < length l.nodes = omega arith in
    subst (λ a. EndsFrom l (slice_set c.loop-k.ends.items n c.end_of-end.result) a) here
    (ends_more l c.loop-k.ends.items n c.end_of-end.result before within c.end_of-end.ensures.end
    (subst (λ v. v ≤ length l.nodes) c.end_of-end.ensures.end c.end_of-end.ensures.fits))
