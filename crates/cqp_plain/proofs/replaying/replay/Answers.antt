use Rattle.std.proofs.Common.{◌≡◌, ◌∙◌, ap, subst, true}
use Rattle.std.specs.List.{list_all}
use Rattle.cqp_syntax.specs.Listing.{root}
use Rattle.cqp_cells.specs.InRange.{is_in_range}
use Rattle.cqp_cells.specs.Lawful.{IsLawful}
use Rattle.cqp_plain.proofs.Runs.{lawful_written, weighed_same}
use Rattle.cqp_plain.proofs.replaying.replay.Goals as goal

pub returns-clause-writable : goal.returns-clause-writable
returns-clause-writable c =
    let t = c.args.trace.now in
    let p = root c.args.typed.now in
    let opens = ap (λ r. root r.process) c.in-Ok.ensures in
    let made = c.in_ok-replayed.ensures.made in
    lawful_written p t (subst (λ q. IsLawful q t) opens c.in_ok-replayed.ensures.replayed.0) c.process_laws.ensures.lines
    (subst (λ es. list_all is_in_range es ≡ true) c.as_slice.ensures c.entries_in_range.ensures) c.end_in_range.ensures
    (weighed_same _ p _ t.entries (made.opening ∙ opens) made.entries c.weighed.ensures)
