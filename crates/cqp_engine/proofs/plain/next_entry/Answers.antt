use Rattle.std.proofs.Common.{subst}
use Rattle.cqp_paths.specs.Follows.{measure_total}
use Rattle.cqp_engine.specs.Upcoming.{IsUpcoming}
use Rattle.cqp_engine.proofs.Chosen.{entry_chosen}
use Rattle.cqp_engine.proofs.plain.next_entry.Goals as goal

pub returns-in-Entry-clause-chosen : goal.returns-in-Entry-clause-chosen
returns-in-Entry-clause-chosen g c =
    let s = g.E.Engine.progress c.args.engine.now in
    entry_chosen _ (measure_total s.entries) s.last c.args.part c.in-Entry.entry (c.order_laws.ensures.alone s.last) (c.order_laws.ensures.meeting s.last)
    (c.active_laws.ensures.active s.last) c.requires.least (subst (IsUpcoming s.last c.args.part) c.in-Entry.is c.in_ok-entry.ensures.next)
