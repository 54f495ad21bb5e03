use Rattle.std.proofs.Common.{IsSome, subst, sym}
use Rattle.cqp_cells.specs.Step.{next}
use Rattle.cqp_paths.specs.Follows.{measure_total}
use Rattle.cqp_engine.specs.Progress.{IsTried}
use Rattle.cqp_engine.proofs.Ends.{stopped_end}
use Rattle.cqp_engine.proofs.Going.{advanced}
use Rattle.cqp_engine.proofs.plain.advance_by.Goals as goal

pub next_entry-requires-clause-goes : goal.next_entry-requires-clause-goes
next_entry-requires-clause-goes g c =
    let s = g.E.Engine.progress c.args.engine.now in
    c.progress_laws.ensures.goes_on s.opening c.requires.sound.derivable c.requires.sound.binders s.entries s.last c.requires.running.path.leads

pub make-requires : goal.make-requires
make-requires g c =
    subst (λ s. IsSome (next s.last c.in_ok-entry.entry)) (sym c.next_entry.ensures.same) c.in_ok-entry.ensures.chosen.plain.fits

pub returns-in-Made : goal.returns-in-Made
returns-in-Made g c =
    let s = g.E.Engine.progress c.args.engine.now in
    let t = g.E.Engine.progress c.make.new.self in
    advanced _ s t c.args.part c.in_ok-entry.entry c.requires.running c.in_ok-entry.ensures.chosen
    (subst (λ f. IsTried s c.in_ok-entry.entry f t) c.in-Made.is
    (subst (λ u. IsTried u c.in_ok-entry.entry c.in_ok-make.field-0 t) c.next_entry.ensures.same c.in_ok-make.ensures.fit))

pub returns-in_default : goal.returns-in_default
returns-in_default g c =
    let s = g.E.Engine.progress c.args.engine.now in
    let t = g.E.Engine.progress c.make.new.self in
    let most = c.exponent_laws.ensures.within s.opening s.entries s.last c.requires.running.path in
    let tried = subst (λ u. IsTried u c.in_ok-entry.entry c.in_ok-make.field-0 t) c.next_entry.ensures.same c.in_ok-make.ensures.fit in
    let stopped = stopped_end _ (measure_total s.entries) s t c.args.part c.in_ok-entry.entry c.in_ok-make.field-0 most
    c.in_ok-entry.ensures.chosen
    tried c.in_default.not-Made in
    (stopped.0, stopped.1)
