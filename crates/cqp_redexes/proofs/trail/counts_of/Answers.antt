use Rattle.std.proofs.Common.{◌≡◌, ◌+◌, ◌-◌, ◌<◌, ◌≤◌, length, subst, arith, slice_set}
use Rattle.cqp_redexes.specs.Evaluation.{CountsFrom}
use Rattle.cqp_redexes.proofs.CountTables.{counts_more}
use Rattle.cqp_redexes.proofs.trail.counts_of.Goals as goal

pub loop-k-preserved : goal.loop-k-preserved
loop-k-preserved c =
    let l = c.args.proc.now in
    let n = c.len-count.result - 1 - c.loop-k.k in
    let next : c.len-count.result - c.loop-k.k ≡ n + 1 = omega arith in
    let here : n ≡ c.len-count.result - (c.loop-k.k + 1) = omega arith in
    let before = subst (λ a. CountsFrom l c.loop-k.counts.items a) next c.loop-k.invariant in
    let within : n < length l.nodes = omega arith in
    subst (λ a. CountsFrom l (slice_set c.loop-k.counts.items n c.count_at-redexes.result) a) here
    (counts_more l c.loop-k.counts.items n c.count_at-redexes.result before within c.count_at-redexes.ensures.count
    (subst (λ v. n + v ≤ length l.nodes) c.count_at-redexes.ensures.count c.count_at-redexes.ensures.small))
