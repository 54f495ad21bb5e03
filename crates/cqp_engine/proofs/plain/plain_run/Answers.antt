use Rattle.std.proofs.Common.{subst}
use Rattle.cqp_engine.specs.PlainRuns.{IsAdvanced, answers_of}
use Rattle.cqp_engine.proofs.Going.{run_ended}
use Rattle.cqp_engine.proofs.plain.plain_run.Given as given
use Rattle.cqp_engine.proofs.plain.plain_run.Goals as goal

pub returns-in-Some-clause-run : goal.returns-in-Some-clause-run
returns-in-Some-clause-run g c =
    let p = (g.E.Engine.progress c.args.engine.now).opening in
    let s = g.E.Engine.progress c.loop-end.engine in
    let t = g.E.Engine.progress c.advance.new.engine in
    run_ended _ p s t c.in-Some.end c.weight-weight.result c.requires.sound c.loop-end.invariant.far c.loop-end.invariant.opening
    (subst (λ o. IsAdvanced (answers_of (given.F-post g c.args.chooser.now)) s o t) c.in-Some.is c.in_ok-end.ensures)
    c.weight-weight.ensures.least c.weight-weight.ensures.is
