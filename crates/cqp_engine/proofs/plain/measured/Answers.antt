use Rattle.std.proofs.Common.{◌≡◌, ◌∙◌, ap, get_or, sym}
use Rattle.cqp_ring.specs.Root.{zero_root}
use Rattle.cqp_vector.specs.declared.odds.Odd.{Odd}
use Rattle.cqp_paths.specs.Follows.{measure_total}
use Rattle.cqp_engine.specs.Progress.{Progress}
use Rattle.cqp_engine.specs.Upcoming.{told_norms}
use Rattle.cqp_engine.proofs.Chosen.{as_many, asked, outcome_chosen, told_outcome}
use Rattle.cqp_engine.proofs.plain.measured.Given as given
use Rattle.cqp_engine.proofs.plain.measured.Goals as goal

pub returns-clause-chosen : goal.returns-clause-chosen
returns-clause-chosen g c =
    let s = g.E.Engine.progress c.args.engine.now in
    let odds = c.in_ok-odds.odds in
    let index = c.choose-index.result in
    let none : Odd = record { outcome = 0; norm = zero_root } in
    let turn : c.turn.result ≡ measure_total s.entries = c.turn.ensures ∙ ap (λ (u : Progress). measure_total u.entries) c.odds.ensures.same in
    let norms : c.as_slice-2.result.now ≡ told_norms odds = c.as_slice-2.ensures.value ∙ c.in_ok-norms.ensures ∙ ap told_norms c.as_slice.ensures in
    let inside = as_many odds c.as_slice-2.result.now index norms c.choose-index.ensures.below in
    let told = told_outcome c.args.qubits s.last.state odds index none c.in_ok-odds.ensures.odds inside in
    let stands = told.1 ∙ ap (λ xs. (get_or xs index none).outcome) (sym c.as_slice-3.ensures) in
    outcome_chosen _ (measure_total s.entries) s.last c.args.part c.args.qubits odds index _ (c.order_laws.ensures.alone s.last) c.requires.least
    c.requires.measuring c.in_ok-odds.ensures.odds
    (asked (given.F-post g c.args.chooser.now) c.turn.result _ c.as_slice-2.result (told_norms odds) index turn norms c.choose-index.ensures.answer)
    told.0 stands
