use Rattle.std.proofs.Common.{subst, sym, refl}
use Rattle.std.specs.Prelude.{IfOk}
use Rattle.cqp_engine.specs.Progress.{IsTried}
use Rattle.cqp_stepper.specs.Kept.{IsKept}
use Rattle.cqp_stepper.specs.Runs.{Run, progress_of}
use Rattle.cqp_stepper.proofs.Told.{kept_are, tried_kept, tried_told}
use Rattle.cqp_stepper.proofs.stepper.StepperEngine.make.Goals as goal

pub invariant_of-self-2 : goal.invariant_of-self-2
invariant_of-self-2 c =
    let s = c.self.inside in
    let e = c.args.entry in
    let r = c.make_entry-tried.result in
    let es = s.entries.items in
    let laws = c.reading_laws.ensures in
    let kept = kept_are es c.reserve.new.self.items c.keep_if.new.entries.items e c.args.entry r c.is_made.result c.is_made.ensures
    c.reserve.ensures.items refl c.keep_if.ensures in
    subst (λ fs. IsKept s.tables fs c.make_entry-tried.new.self) (sym kept)
    (tried_kept s.tables laws.here laws.back es s.cells c.make_entry-tried.new.self c.self.invariant e r c.make_entry-tried.ensures.fit
    c.make_entry-tried.ensures.err)

pub returns-clause-fit : goal.returns-clause-fit
returns-clause-fit c =
    let s = c.self.inside in
    let e = c.args.entry in
    let r = c.make_entry-tried.result in
    let es = s.entries.items in
    let laws = c.reading_laws.ensures in
    let kept = kept_are es c.reserve.new.self.items c.keep_if.new.entries.items e c.args.entry r c.is_made.result c.is_made.ensures
    c.reserve.ensures.items refl c.keep_if.ensures in
    let after : Run = record { process = s.tables; entries = c.keep_if.new.entries.items } in
    subst (λ b. IfOk r (λ fit. IsTried (progress_of b) e fit (progress_of after))) c.self.view_is
    (subst (λ fs. IfOk r (λ fit. IsTried (progress_of (record { process = s.tables; entries = es })) e fit (progress_of
    (record { process = s.tables; entries = fs }))))
    (sym kept)
    (tried_told s.tables laws.here laws.back es s.cells c.make_entry-tried.new.self c.self.invariant e r c.make_entry-tried.ensures.fit))
