use Rattle.std.proofs.Common.{rules, subst}
use Rattle.cqp_engine.specs.Progress.{IsTried}
use Rattle.cqp_engine.proofs.Remade.{all_made, count_room, first_not, made_more, replay_starts}
use Rattle.cqp_engine.proofs.replaying.remade.Goals as goal

pub overflow_add-count : goal.overflow_add-count
overflow_add-count g c =
    let room = count_room c.size_laws.ensures.along (g.E.Engine.progress c.args.engine.now).opening c.args.entries.now c.loop-entry.count
    c.loop-entry.entry-index (g.E.Engine.progress c.loop-entry.engine) c.requires.short c.loop-entry.invariant in
    search rules

pub overflow_add-result : goal.overflow_add-result
overflow_add-result g c =
    let room = count_room c.size_laws.ensures.along (g.E.Engine.progress c.args.engine.now).opening c.args.entries.now c.loop-entry.count
    c.loop-entry.entry-index (g.E.Engine.progress c.loop-entry.engine) c.requires.short c.loop-entry.invariant in
    search rules

pub returns-in_default-fit : goal.returns-in_default-fit
returns-in_default-fit g c =
    first_not (g.E.Engine.progress c.args.engine.now).opening c.args.entries.now c.loop-entry.count c.loop-entry.entry-index
    (g.E.Engine.progress c.loop-entry.engine) (g.E.Engine.progress c.step.new.self) c.entry-item.result c.in-Ok.fit c.loop-entry.invariant
    c.loop-entry-test.true c.entry-item.is c.in-Ok.ensures.fit c.in_default-fit.not-Made

pub loop-entry-preserved : goal.loop-entry-preserved
loop-entry-preserved g c =
    let s = g.E.Engine.progress c.loop-entry.engine in
    let t = g.E.Engine.progress c.step.new.self in
    made_more (g.E.Engine.progress c.args.engine.now).opening c.args.entries.now c.loop-entry.count c.loop-entry.entry-index s t c.entry-item.result
    c.loop-entry.invariant c.loop-entry-test.true c.entry-item.is (subst (λ f. IsTried s c.entry-item.result f t) c.in-Made.is c.in-Ok.ensures.fit)

pub loop-entry-init : goal.loop-entry-init
loop-entry-init g c = replay_starts (g.E.Engine.progress c.args.engine.now) c.args.entries.now c.requires.fresh

pub returns : goal.returns
returns g c =
    all_made (g.E.Engine.progress c.args.engine.now).opening c.args.entries.now c.loop-entry.count c.loop-entry.entry-index
    (g.E.Engine.progress c.loop-entry.engine) c.loop-entry.invariant c.loop-entry-test.false
