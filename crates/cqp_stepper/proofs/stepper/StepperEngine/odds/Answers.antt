use Rattle.std.proofs.Common.{◌<◌, length, subst, sym}
use Rattle.std.specs.Prelude.{IfOk}
use Rattle.std.specs.List.{AllByRecursion}
use Rattle.cqp_engine.specs.Upcoming.{AreOddsOf, IsMeasuring}
use Rattle.cqp_groups.specs.Groups.{AreOdds, IsHeld}
use Rattle.cqp_stepper.specs.Runs.{progress_of}
use Rattle.cqp_stepper.specs.Steps.{IsGathered}
use Rattle.cqp_stepper.proofs.Measured.{all_made, held_here, odds_here, some_here}
use Rattle.cqp_stepper.proofs.stepper.StepperEngine.odds.Goals as goal

pub gather-requires-clause-some : goal.gather-requires-clause-some
gather-requires-clause-some c =
    let s = c.self.inside in
    let measuring = subst (λ r. IsMeasuring (progress_of r).last c.args._part c.args.qubits.now) (sym c.self.view_is) c.requires in
    subst (λ qs. 0 < length qs) (sym c.as_slice-qubits.ensures)
    (some_here s.tables c.reading_laws.ensures.here s.entries.items s.cells c.self.invariant c.args._part c.args.qubits.now measuring
    c.measuring_laws.ensures.some)

pub gather-requires-clause-made : goal.gather-requires-clause-made
gather-requires-clause-made c =
    let s = c.self.inside in
    let measuring = subst (λ r. IsMeasuring (progress_of r).last c.args._part c.args.qubits.now) (sym c.self.view_is) c.requires in
    subst (λ qs. AllByRecursion (λ q. q < length s.cells.groups) qs) (sym c.as_slice-qubits.ensures)
    (all_made s.tables c.reading_laws.ensures.here s.entries.items s.cells c.self.invariant c.args._part c.args.qubits.now measuring)

pub odds-requires-clause-held : goal.odds-requires-clause-held
odds-requires-clause-held c =
    let s = c.self.inside in
    let u = c.gather.new.self in
    let k = c.in_ok-group.ensures.kept s.entries.items c.self.invariant in
    let measuring = subst (λ r. IsMeasuring (progress_of r).last c.args._part c.args.qubits.now) (sym c.self.view_is) c.requires in
    let gathered = subst (IsGathered u c.in_ok-group.group) c.as_slice-qubits.ensures c.in_ok-group.ensures.gathered.gathered in
    subst (IsHeld u.groups c.in_ok-group.group) (sym c.as_slice-qubits.ensures)
    (held_here s.tables c.reading_laws.ensures.here s.entries.items u k c.args._part c.args.qubits.now measuring c.measuring_laws.ensures.places
    c.in_ok-group.group gathered)

pub returns-clause-odds : goal.returns-clause-odds
returns-clause-odds c =
    let s = c.self.inside in
    let u = c.gather.new.self in
    let qs = c.args.qubits.now in
    let k = c.in_ok-group.ensures.kept s.entries.items c.self.invariant in
    let measuring = subst (λ r. IsMeasuring (progress_of r).last c.args._part qs) (sym c.self.view_is) c.requires in
    let gathered = subst (IsGathered u c.in_ok-group.group) c.as_slice-qubits.ensures c.in_ok-group.ensures.gathered.gathered in
    let odds = subst (λ z. IfOk c.odds.result (AreOdds u.groups c.in_ok-group.group z)) c.as_slice-qubits.ensures c.odds.ensures.odds in
    subst (λ r. IfOk c.odds.result (AreOddsOf qs (progress_of r).last.state)) c.self.view_is
    (odds_here s.tables c.reading_laws.ensures.here s.entries.items u k c.args._part qs measuring c.measuring_laws.ensures.odds c.in_ok-group.group gathered
    c.odds.result odds)
