use Rattle.std.proofs.Common.{◌≡◌, true, sym}
use Rattle.cqp_standing.specs.Suits.{suits}
use Rattle.cqp_parts.specs.Parts.{process_of_part}
use Rattle.cqp_step_checks.proofs.walks.after.Goals as goal

pub returns-in-Com-clause-parts : goal.returns-in-Com-clause-parts
returns-in-Com-clause-parts c = rw (sym c.told.view_is, c.in-Com.is) (c.go.ensures.parts c.in-Com.to c.in-Com.chan)

pub returns-in-Com-clause-stand : goal.returns-in-Com-clause-stand
returns-in-Com-clause-stand c =
    let suit : suits (process_of_part c.told.inside.proc c.args.part) c.args.deed.now ≡ true =
    rw c.told.view_is c.requires.suits in
    rw (sym c.told.view_is) (c.go.ensures.stand c.in-Com.to c.in-Com.chan (rw c.in-Com.is at suit))
