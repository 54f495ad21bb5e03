use Rattle.std.proofs.Common.{ap, ◌∙◌}
use Rattle.cqp_syntax.specs.Listing.{root}
use Rattle.cqp_machine.specs.Shown.{process_in, shown}
use Rattle.cqp_parts.specs.Parts.{process_of_part}
use Rattle.cqp_stepper.proofs.laws.here_laws.Goals as goal

pub returns : goal.returns
returns c l es process checked run =
    let told = c.path_laws.ensures.shown l es process run in
    let last = told.0 in
    let shows = told.1 in
    let safe = c.safe_laws.ensures.after (root l) checked.derivable (c.safe_laws.ensures.binders l process) (shown es) last shows.path.leads in (
      last,
      record {
        shows = shows;
        safe = safe;
        parts = λ n part at.
            let stands = c.stands_laws.ensures l es process run n part at in
            let there = shows.stands.parts n ∙ ap (process_in l) at in
            let right = c.stand_laws.ensures.right last safe.operands n (process_of_part l part) there in
            record {
              stands = stands;
              there = there;
              right = right;
              takes = c.turn_laws.ensures.turn l part stands last.state.qubits right;
            };
      },
    )
