use mathlib.Core.Path.{refl}
use Rattle.cqp_stepper.proofs.Meets.{may_meet}
use Rattle.cqp_stepper.proofs.cells.Cells.communicate.Goals as goal

pub make_meeting-requires-clause-may : goal.make_meeting-requires-clause-may
make_meeting-requires-clause-may c =
    may_meet c.args.tables.now c.meeting_laws.ensures.here c.meeting_laws.ensures.fits c.requires.run.0 c.args.self.now c.requires.run.1 c.requires.seen
    c.args.from c.args.to c.args.chan (c.if-not-is_meeting.ensures.0 refl)
