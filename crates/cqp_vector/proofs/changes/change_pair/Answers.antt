use Rattle.std.proofs.Common.{◌≡◌, ◌+◌, ℕ, List, ap, sym, ◌∙◌}
use Rattle.std.specs.Prelude.{slice_set}
use Rattle.std.proofs.lemmas.List.{set-get_or}
use Rattle.cqp_ring.specs.declared.amp.Amp.{Amp}
use Rattle.cqp_ring.specs.Amp.{amp_product, w_power, zero_amp}
use Rattle.cqp_ring.proofs.NormLemmas.{amp_product_comm}
use Rattle.cqp_syntax.specs.declared.op.Op.{Op}
use Rattle.cqp_vector.specs.State.{amp_at}
use Rattle.cqp_vector.specs.Pairs.{low_after, high_after}
use Rattle.cqp_vector.proofs.PairLemmas.{turned_1_fits, turned_2_fits, turned_4_fits}
use Rattle.cqp_vector.proofs.changes.change_pair.Goals as goal

-- where a gate leaves the low numerator and turns the high one
turned : (nums new : List Amp) (k h power : ℕ) (o : Op) → low_after o (amp_at nums k) (amp_at nums h) ≡ amp_at nums k
    → high_after o (amp_at nums k) (amp_at nums h) ≡ amp_product (w_power power) (amp_at nums h)
    → new ≡ slice_set nums h (amp_product (amp_at nums h) (w_power power))
    → new ≡ slice_set (slice_set nums k (low_after o (amp_at nums k) (amp_at nums h))) h (high_after o (amp_at nums k) (amp_at nums h))
turned nums new k h power o low high is =
    is
    ∙ (ap (slice_set nums h) (amp_product_comm (amp_at nums h) (w_power power) ∙ sym high)
    ∙ ap (λ z. slice_set z h (high_after o (amp_at nums k) (amp_at nums h))) (sym (ap (slice_set nums k) low ∙ set-get_or nums k zero_amp)))

pub turn-requires-clause-fits : goal.turn-requires-clause-fits
turn-requires-clause-fits c = turned_4_fits (amp_at c.args.nums.now (c.args.k + c.args.weight)) c.requires.high

pub turn-requires-in-S-clause-fits : goal.turn-requires-in-S-clause-fits
turn-requires-in-S-clause-fits c = turned_2_fits (amp_at c.args.nums.now (c.args.k + c.args.weight)) c.requires.high

pub turn-requires-in-T-clause-fits : goal.turn-requires-in-T-clause-fits
turn-requires-in-T-clause-fits c = turned_1_fits (amp_at c.args.nums.now (c.args.k + c.args.weight)) c.requires.high

pub returns-in-Z : goal.returns-in-Z
returns-in-Z c =
    let nums = c.args.nums.now in
    let low = amp_at nums c.args.k in
    let high = amp_at nums (c.args.k + c.args.weight) in
    turned nums _ c.args.k (c.args.k + c.args.weight) 4 c.args.op (ap (λ o. low_after o low high) c.in-Z.is)
    (ap (λ o. high_after o low high) c.in-Z.is) c.turn.ensures

pub returns-in-S : goal.returns-in-S
returns-in-S c =
    let nums = c.args.nums.now in
    let low = amp_at nums c.args.k in
    let high = amp_at nums (c.args.k + c.args.weight) in
    turned nums _ c.args.k (c.args.k + c.args.weight) 2 c.args.op (ap (λ o. low_after o low high) c.in-S.is)
    (ap (λ o. high_after o low high) c.in-S.is) c.turn-in-S.ensures

pub returns-in-T : goal.returns-in-T
returns-in-T c =
    let nums = c.args.nums.now in
    let low = amp_at nums c.args.k in
    let high = amp_at nums (c.args.k + c.args.weight) in
    turned nums _ c.args.k (c.args.k + c.args.weight) 1 c.args.op (ap (λ o. low_after o low high) c.in-T.is)
    (ap (λ o. high_after o low high) c.in-T.is) c.turn-in-T.ensures
