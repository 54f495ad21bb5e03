use Rattle.std.proofs.Common.{subst, sym}
use Rattle.std.specs.Prelude.{IsTrue, false}
use Rattle.cqp_cells.specs.Lawful.{IsRightEnd, exponent_after}
use Rattle.cqp_engine.specs.Upcoming.{IsLeastOrStuck}
use Rattle.cqp_engine.proofs.Ends.{reduction_left, undone_right}
use Rattle.cqp_engine.proofs.replaying.is_right_end.Goals as goal

pub returns-in-Some-clause-right : goal.returns-in-Some-clause-right
returns-in-Some-clause-right g c =
    let s = g.E.Engine.progress c.args.engine.now in
    let h = exponent_after s.entries s.last in
    let goes = c.progress_laws.ensures.goes_on s.opening c.requires.sound.derivable c.requires.sound.binders s.entries s.last c.requires.path.leads in
    let least = subst (IsLeastOrStuck s.last) c.in-Some.is c.in_ok-least-in-Done.ensures.least in
    let left = reduction_left s.last c.in-Some.field-0 (c.active_laws.ensures.least s.last c.in-Some.field-0 goes least.active least.least) in
    subst (λ e. (IsTrue false → IsRightEnd s.last h e) × (IsRightEnd s.last h e → IsTrue false))
    (sym c.in-Done.is) (undone_right s.last h c.in-Done.left left)
