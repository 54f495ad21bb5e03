use Rattle.std.proofs.Common.{◌≡◌, ap, ◌∙◌}
use Rattle.cqp_choose.specs.Picks.{seed_index}
use Rattle.cqp_plain.specs.Choices.{seed_picks}
use Rattle.cqp_plain.proofs.Picked.{answered}
use Rattle.cqp_plain.proofs.chosen.by_seed.Goals as goal

pub returns-clause-run : goal.returns-clause-run
returns-clause-run c =
    let kept = ap (λ k. k.0.now) c.new-chooser.ensures in
    answered (λ run. run.trace) _ (seed_picks c.args.seed)
    (λ turn odds index lawful h.
    let told : index ≡ seed_index c.new-chooser.result.0.now turn h.0.now = h.2 in
    told ∙ (ap (λ s. seed_index s turn h.0.now) kept ∙ ap (seed_index c.args.seed turn) h.1))
    _ c.plain_run.result c.plain_run.ensures.run
