use Rattle.std.proofs.Common.{arith}
use Rattle.cqp_cells.specs.Path.{h_total}
use Rattle.cqp_machine.specs.Shown.{shown}
use Rattle.cqp_stepper.proofs.laws.group_laws.Goals as goal

pub returns-clause-few : goal.returns-clause-few
returns-clause-few c l es process checked run =
    let made = (c.making_laws.ensures l es process run).qubits in
    let few = checked.few in
    omega arith

pub returns-clause-alone : goal.returns-clause-alone
returns-clause-alone c l es slots q after below =
    let told = c.path_laws.ensures.shown l es after.sound after.run in
    let state = c.run_laws.ensures.state l es slots told.0 after told.1.path in
    c.run_laws.ensures.held slots (h_total (shown es)) told.0.state q state.state below
