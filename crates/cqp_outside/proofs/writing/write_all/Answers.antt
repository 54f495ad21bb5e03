use Rattle.std.proofs.Common.{arith, ap, length, length-drop}
use Rattle.cqp_outside.proofs.Known.{appends_more}
use Rattle.cqp_outside.proofs.Fronts.{whole_rest}
use Rattle.cqp_outside.proofs.writing.write_all.Goals as goal

pub loop-done-preserved : goal.loop-done-preserved
loop-done-preserved g c =
    let bytes = c.args.bytes.now in
    let whole = ap length (whole_rest bytes c.loop-done.done) in
    let more = rw (whole_rest bytes c.loop-done.done) at c.in_ok-done.ensures.bytes in
    record {
      within = omega (arith, c.in_ok-done.ensures.bound.1, whole, length-drop c.loop-done.done bytes);
      added = appends_more _ _ _ bytes _ _ c.loop-done.invariant.added more;
      later = omega (arith, c.in_ok-done.ensures.cause.later);
    }
