use Rattle.std.proofs.Common.{◌≤◌, ◌^◌, arith}
use Rattle.std.proofs.Math.Pow.{pow_mono}
use Rattle.std.proofs.lemmas.Bool.{le-leb}
use Rattle.cqp_stepper.proofs.asking.has_bits.Goals as goal

pub returns-then-bits-ge32 : goal.returns-then-bits-ge32
returns-then-bits-ge32 c =
    let many = c.if-bits-ge32.true in
    let most : 2 ^ 32 ≤ 2 ^ c.args.bits = pow_mono many in
    let fits = c.ranges.number.fits in (λ h. omega arith, λ h. le-leb 32 c.args.bits many)
