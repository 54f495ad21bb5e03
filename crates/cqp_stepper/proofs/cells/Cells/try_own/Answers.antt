use Rattle.std.proofs.Common.{sym, ◌∙◌}
use Rattle.cqp_cells.proofs.Options.{yes_is_no}
use Rattle.cqp_stepper.proofs.OwnDeeds.{may_by, no_turn, not_alone, other_deed, the_turn}
use Rattle.cqp_stepper.proofs.cells.Cells.try_own.Goals as goal

pub returns-in_default-clause-fit : goal.returns-in_default-clause-fit
returns-in_default-clause-fit c =
    let l = c.args.tables.now in
    let s = c.args.self.now in
    let none = no_turn l s c.args.n _ c.in_default.not-Some c.in_ok-turn.ensures in (
      λ entries k. k,
      λ entries k. not_alone l c.try_laws.ensures.here entries s k c.own_laws.ensures.own c.requires.seen c.args.n c.args.deed.now
          c.requires.own none,
    )

pub returns-clause-fit : goal.returns-clause-fit
returns-clause-fit c =
    let l = c.args.tables.now in
    let s = c.args.self.now in
    let stands = the_turn l s c.args.n _ c.in-Some.turn c.in-Some.is c.in_ok-turn.ensures in (
      λ entries k. k,
      λ entries k. other_deed l c.try_laws.ensures.here entries s k c.own_laws.ensures.none c.args.n c.in-Some.turn c.args.deed.now
          c.requires.own stands (λ is. yes_is_no (sym (c.is_deed_of.ensures.1 is) ∙ c.if-is_deed_of.false)),
    )

pub try_deed-requires-clause-may : goal.try_deed-requires-clause-may
try_deed-requires-clause-may c =
    let l = c.args.tables.now in
    let s = c.args.self.now in
    let stands = the_turn l s c.args.n _ c.in-Some.turn c.in-Some.is c.in_ok-turn.ensures in
    may_by l c.try_laws.ensures.here c.requires.run.0 s c.requires.run.1 c.own_laws.ensures.moves c.args.n c.in-Some.turn c.args.deed.now stands
    (c.is_deed_of.ensures.0 c.if-is_deed_of.true)
