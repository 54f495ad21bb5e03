use Rattle.std.proofs.Common.{ap, subst}
use Rattle.cqp_choose.specs.Picks.{IsBornIndex}
use Rattle.cqp_choose.specs.Word.{turn_word}
use Rattle.cqp_plain.specs.Choices.{born_picks}
use Rattle.cqp_plain.proofs.Picked.{answered}
use Rattle.cqp_plain.proofs.chosen.by_born.Goals as goal

pub returns-clause-run : goal.returns-clause-run
returns-clause-run c =
    let kept = ap (λ k. k.0.now) c.new-chooser.ensures in
    answered (λ run. run.trace) _ (born_picks c.args.seed)
    (λ turn odds index lawful h.
    let told : IsBornIndex (turn_word c.new-chooser.result.0.now turn) h.0.now index = h.2 in
    subst (λ xs. IsBornIndex (turn_word c.args.seed turn) xs index) h.1 (subst (λ s. IsBornIndex (turn_word s turn) h.0.now index) kept told))
    _ c.plain_run.result c.plain_run.ensures.run
