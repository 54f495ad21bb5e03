use Rattle.std.proofs.Common.{arith, length-take}
use Rattle.cqp_outside.proofs.Known.{takes_count, takes_at_most}
use Rattle.std.proofs.lemmas.Result.{err_from_is_err_and}
use Rattle.cqp_outside.proofs.reading.read_all.Goals as goal

pub returns-then-limit-len-clause-read : goal.returns-then-limit-len-clause-read
returns-then-limit-len-clause-read g c =
    let bound = c.in_ok-count.ensures.bound in
    let asked = length-take c.min.result c.loop-bytes.buffer in
    takes_count _ _ _ _ _ _ c.loop-bytes.invariant.taken c.in_ok-count.ensures.bytes.0 (omega (arith, bound.0, bound.1, asked))

pub returns-in_err-extend_from_slice-clause-read : goal.returns-in_err-extend_from_slice-clause-read
returns-in_err-extend_from_slice-clause-read g c =
    let p = err_from_is_err_and c.from_residual-in_err-extend_from_slice.result c.from_residual-in_err-extend_from_slice.ensures.1 in
    let bound = c.in_ok-count.ensures.bound in
    rw (p.1, p.2) (takes_at_most _ _ _ _ _ _ c.loop-bytes.invariant.taken c.in_ok-count.ensures.bytes.0 (omega (arith, bound.0, bound.1)))
