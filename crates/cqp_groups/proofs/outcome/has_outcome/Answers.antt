use Rattle.std.proofs.Common.{◌≡◌, ◌≤◌, ◌<◌, ◌^◌, length, arith, ap, subst, sym, ne_eqb, ◌∙◌}
use Rattle.std.proofs.Math.Pow.{pow_mono}
use Rattle.cqp_vector.specs.Measurement.{is_zero_amp, outcome_at}
use Rattle.cqp_groups.proofs.OutcomeLemmas.{none_more, one_has, other_more}
use Rattle.cqp_groups.proofs.outcome.has_outcome.Goals as goal
use Rattle.cqp_groups.proofs.outcome.has_outcome.Goals.{else-not-is_zero-via-then-not-is_zero+else-outcome_at-outcome, else-not-is_zero-via-else-not-is_zero}

pub returns-then-outcome_at-outcome : goal.returns-then-outcome_at-outcome
returns-then-outcome_at-outcome c =
    let size : length c.qubits.result.now ≡ length c.args.factor.now.qubits = ap length c.qubits.ensures.value in
    let most : 2 ^ length c.args.factor.now.qubits ≤ 2 ^ 12 = pow_mono c.qubits.ensures.kept.few in
    let small : c.loop-k.k < 2 ^ length c.qubits.result.now = omega (arith, c.loop-k-test.true) in
    sym (one_has c.args.places.now c.args.outcome (length c.args.factor.now.qubits) c.args.factor.now.nums c.loop-k.k
    (subst (λ z. c.loop-k.k < 2 ^ z) size small)
    (sym (c.outcome_at.ensures ∙ ap (λ n. outcome_at n c.args.places.now c.loop-k.k) size) ∙ c.if-outcome_at-outcome.true)
    (sym (c.is_zero.ensures ∙ ap is_zero_amp c.num.ensures) ∙ c.if-not-is_zero.true))

pub loop-k-preserved : goal.loop-k-preserved
loop-k-preserved c =
    let size : length c.qubits.result.now ≡ length c.args.factor.now.qubits = ap length c.qubits.ensures.value in
    elim c.else-not-is_zero.branch [
      | else-not-is_zero-via-then-not-is_zero+else-outcome_at-outcome w ↦
          other_more c.args.places.now c.args.outcome (length c.args.factor.now.qubits) c.args.factor.now.nums c.loop-k.k c.loop-k.invariant
          (ne_eqb _ _ (λ e. w.if-outcome_at-outcome.false (w.outcome_at.ensures ∙ (ap (λ n. outcome_at n c.args.places.now c.loop-k.k) size ∙ e))))
      | else-not-is_zero-via-else-not-is_zero w ↦
          none_more c.args.places.now c.args.outcome (length c.args.factor.now.qubits) c.args.factor.now.nums c.loop-k.k c.loop-k.invariant
          (sym (c.is_zero.ensures ∙ ap is_zero_amp c.num.ensures) ∙ w.if-not-is_zero.false)
    ]
