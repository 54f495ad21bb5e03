use Rattle.std.proofs.Common.{◌≡◌, None, subst, sym, true}
use Rattle.cqp_syntax.specs.Listing.{root}
use Rattle.cqp_cells.specs.Examples.{by}
use Rattle.cqp_cells.specs.Moves.{are_operands}
use Rattle.cqp_cells.specs.Step.{next}
use Rattle.cqp_stepper.specs.Kept.{IsKept}
use Rattle.cqp_stepper.specs.Last.{last_of}
use Rattle.cqp_stepper.specs.Steps.{MayMake}
use Rattle.cqp_stepper.proofs.Tried.{made_operands, measure_operands, unlikely_here}
use Rattle.cqp_stepper.proofs.Unmade.{unlikely_none}
use Rattle.cqp_stepper.proofs.cells.Cells.try_measure.Goals as goal

pub gather-requires-clause-made : goal.gather-requires-clause-made
gather-requires-clause-made c =
    made_operands _ c.args.qubits.now
    (measure_operands c.args.tables.now c.args.self.now c.args.n c.args.outcome c.args.qubits.now
    (subst (MayMake c.args.tables.now c.args.self.now c.args.n) c.requires.is c.requires.may))

pub returns-clause-fit : goal.returns-clause-fit
returns-clause-fit c =
    let l = c.args.tables.now in
    let law = c.try_laws.ensures in
    let u = c.gather.new.self in
    let qs = c.args.qubits.now in
    let not = c.in_ok-make_measurement.ensures.not c.if-branch.false in
    let may = subst (MayMake l c.args.self.now c.args.n) c.requires.is c.requires.may in
    let operands = subst (λ n. are_operands n qs ≡ true) (sym c.in_ok-group.ensures.same.places)
    (measure_operands l c.args.self.now c.args.n c.args.outcome qs may) in (
      λ entries k. subst (λ t. IsKept l entries t) (sym not.1) (c.in_ok-group.ensures.kept entries k),
      λ entries k. subst (λ d. next (last_of (root l) entries) (by c.args.n d) ≡ None) (sym c.requires.is)
          (unlikely_none (last_of (root l) entries) c.args.n c.args.outcome qs
          (unlikely_here l law.here entries u (c.in_ok-group.ensures.kept entries k) law.outcome c.in_ok-group.group c.args.outcome qs
          c.in_ok-group.ensures.gathered.gathered operands not.0)),
    )
