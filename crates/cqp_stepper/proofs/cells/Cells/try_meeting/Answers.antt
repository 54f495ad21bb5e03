use Rattle.std.proofs.Common.{subst, sym}
use Rattle.cqp_stepper.specs.Kept.{IsKept}
use Rattle.cqp_stepper.proofs.Last.{table_here}
use Rattle.cqp_stepper.proofs.Unmade.{none_if}
use Rattle.cqp_stepper.proofs.cells.Cells.try_meeting.Goals as goal

pub returns-clause-fit : goal.returns-clause-fit
returns-clause-fit c =
    let l = c.args.tables.now in
    let s = c.args.self.now in
    let law = c.try_laws.ensures in
    let not = c.in_ok-communicate.ensures.not c.if-branch.false in (
      λ entries k. subst (λ t. IsKept l entries t) (sym not.1) k,
      λ entries k. none_if _ (λ some.
          not.0 ((law.fits _ _ (table_here l law.here entries s k c.requires.seen) c.args.from c.args.to c.args.chan).0 some)),
    )
