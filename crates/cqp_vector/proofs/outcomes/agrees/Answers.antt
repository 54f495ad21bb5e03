use Rattle.std.proofs.Common.{◌≡◌, ◌<◌, ◌%◌, arith, sym, ◌∙◌}
use Rattle.std.proofs.lemmas.Bool.Decides.{nat_tests}
use Rattle.cqp_vector.proofs.Agreeing.{bits_agree, bits_differ}
use Rattle.cqp_vector.proofs.outcomes.agrees.Goals as goal

pub returns-then-left-bit_at : goal.returns-then-left-bit_at
returns-then-left-bit_at c =
    let some : 0 < c.loop-i.i = omega (arith, c.loop-i-test.true) in
    let apart : c.loop-i.left % 2 ≡ c.bit_at.result → ⊥ = λ e. (let other = c.if-left-bit_at.true in grind (arith, nat_tests)) in
    sym (bits_differ c.args.qubits c.loop-i.i c.args.k c.loop-i.left c.args.places.now _ some c.loop-i.invariant.within c.loop-i.invariant.same
    (λ e. apart (e ∙ sym c.bit_at.ensures)))

pub loop-i-preserved : goal.loop-i-preserved
loop-i-preserved c =
    let some : 0 < c.loop-i.i = omega (arith, c.loop-i-test.true) in
    let is : c.loop-i.left % 2 ≡ c.bit_at.result = (let same = c.if-left-bit_at.false in grind (arith, nat_tests)) in
    record {
      same = bits_agree c.args.qubits c.loop-i.i c.args.k c.loop-i.left c.args.places.now _ some c.loop-i.invariant.within c.loop-i.invariant.same
          (is ∙ c.bit_at.ensures);
      within = omega (arith, c.loop-i.invariant.within);
    }
