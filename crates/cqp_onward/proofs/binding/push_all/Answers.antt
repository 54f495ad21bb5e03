use Rattle.std.proofs.Common.{◌⊎◌, inl, inr, ◌≤◌, ◌<◌, length, arith, ◌∙◌, ⊎_elim}
use Rattle.std.proofs.lemmas.Bool.{cases_lt}
use Rattle.cqp_onward.proofs.Pushes.{bound_done, unchanged}
use Rattle.cqp_onward.proofs.binding.push_all.Goals as goal

pub returns-clause-ok : goal.returns-clause-ok
returns-clause-ok c =
    let names = c.args.names.now in
    let vals = c.args.vals.now in
    let i = c.loop-i.i in
    let past : (length names ≤ i) ⊎ (length vals ≤ i) = ⊎_elim
    (λ (t : length names < length vals). inl (omega (arith, t, c.loop-i-test.false, c.min-i-end.ensures)))
    (λ (t : length vals ≤ length names). inr (omega (arith, t, c.loop-i-test.false, c.min-i-end.ensures)))
    (cases_lt (length names) (length vals)) in
    unchanged c.loop-i.env.items _ (bound_done names vals i past) ∙ c.loop-i.invariant.told
