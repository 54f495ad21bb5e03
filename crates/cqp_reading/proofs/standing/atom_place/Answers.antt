use Rattle.cqp_reading.proofs.Others.{atom_other}
use Rattle.cqp_reading.proofs.standing.atom_place.Goals as goal

pub returns-in_default : goal.returns-in_default
returns-in_default c = rw (atom_other _ c.args.draft.now c.in_default.not-AtomWanted) c.item_place.ensures
