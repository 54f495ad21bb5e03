use Rattle.std.proofs.Common.{◌≡◌, ◌∙◌, ap, subst, sym, true}
use Rattle.std.specs.List.{list_all}
use Rattle.cqp_syntax.specs.Listing.{root}
use Rattle.cqp_trace.specs.declared.trace.Trace.{Trace}
use Rattle.cqp_cells.specs.InRange.{is_in_range}
use Rattle.cqp_paths.specs.Runs.{IsPlainRun}
use Rattle.cqp_engine.specs.PlainRuns.{answers_of}
use Rattle.cqp_plain.proofs.Runs.{lawful_written, weighed_same}
use Rattle.cqp_plain.proofs.run.plain_run.Given as given
use Rattle.cqp_plain.proofs.run.plain_run.Goals as goal

pub returns-clause-run : goal.returns-clause-run
returns-clause-run g c =
    let opens = ap (λ r. root r.process) c.in_ok-stepper.ensures in
    let pick = answers_of (given.F-post g c.args.chooser.now) in
    let ended = c.in_ok-end.field-0 in
    subst (λ es. IsPlainRun pick (root c.args.typed.now) (record { entries = es; end = ended.end; weight = ended.weight }))
    (sym c.in_ok-entries.ensures.entries)
    (subst (λ p. IsPlainRun pick p (record { entries = c.plain_run.new.engine.entries; end = ended.end; weight = ended.weight })) opens
    c.in_ok-end.ensures.run)

pub returns-clause-writable : goal.returns-clause-writable
returns-clause-writable g c =
    let ended = c.in_ok-end.field-0 in
    let t : Trace = record { entries = c.in_ok-entries.entries; end = ended.end; weight = ended.weight } in
    let p = root c.args.typed.now in
    let opens = ap (λ r. root r.process) c.in_ok-stepper.ensures in
    lawful_written p t (returns-clause-run g c).run.lawful c.process_laws.ensures.lines
    (subst (λ es. list_all is_in_range es ≡ true) c.as_slice.ensures c.entries_in_range.ensures) c.end_in_range.ensures
    (weighed_same _ p _ t.entries (c.in_ok-end.ensures.opening ∙ opens) (sym c.in_ok-entries.ensures.entries) c.weighed.ensures)
