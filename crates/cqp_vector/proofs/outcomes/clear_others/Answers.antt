use Rattle.std.proofs.Common.{◌≡◌, ◌^◌, ◌∙◌, length, subst, arith, ◌<◌}
use Rattle.std.specs.Prelude.{◌==◌, if◌then◌else◌}
use Rattle.std.proofs.lemmas.List.FromFn.{fill_by_all}
use Rattle.cqp_ring.specs.Amp.{zero_amp}
use Rattle.cqp_vector.specs.Measurement.{outcome_at}
use Rattle.cqp_vector.specs.State.{amp_at}
use Rattle.cqp_vector.proofs.ChangeLemmas.{choose_less}
use Rattle.cqp_vector.proofs.outcomes.clear_others.Goals as goal

pub returns : goal.returns
returns c =
    let whole : length c.loop-k.nums ≡ 2 ^ c.args.qubits = omega (arith, c.requires.whole) in
    let last : 2 ^ c.args.qubits ≡ c.loop-k.k = omega (arith, c.requires.whole) in
    fill_by_all (λ i. if outcome_at c.args.qubits c.args.places.now i == c.args.outcome then amp_at c.args.nums.now i else zero_amp) c.loop-k.nums
    (2 ^ c.args.qubits) zero_amp whole
    (λ i h. c.loop-k.invariant i h ∙ choose_less i c.loop-k.k _ _ (subst (λ t. i < t) last h))
