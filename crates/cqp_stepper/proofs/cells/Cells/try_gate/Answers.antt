use Rattle.std.proofs.Common.{subst, sym, ◌∙◌}
use Rattle.cqp_cells.proofs.Options.{yes_is_no}
use Rattle.cqp_stepper.specs.Steps.{MayMake}
use Rattle.cqp_stepper.proofs.Tried.{gate_made, gate_some, room_kept, room_left}
use Rattle.cqp_stepper.proofs.cells.Cells.try_gate.Goals.{else-is_h-via-else-is_h, else-is_h-via-then-is_h+else-has_reached_limit}
use Rattle.cqp_stepper.proofs.cells.Cells.try_gate.Goals as goal

pub gather-requires-clause-some : goal.gather-requires-clause-some
gather-requires-clause-some c =
    gate_some c.args.tables.now c.args.self.now c.args.n c.args.op c.args.qubits.now
    (subst (MayMake c.args.tables.now c.args.self.now c.args.n) c.requires.is c.requires.may)

pub gather-requires-clause-made : goal.gather-requires-clause-made
gather-requires-clause-made c =
    gate_made c.args.tables.now c.args.self.now c.args.n c.args.op c.args.qubits.now
    (subst (MayMake c.args.tables.now c.args.self.now c.args.n) c.requires.is c.requires.may)

pub make_gate-requires-clause-run : goal.make_gate-requires-clause-run
make_gate-requires-clause-run c = (c.requires.run.0, c.in_ok-group.ensures.kept c.requires.run.0 c.requires.run.1)

pub make_gate-requires-clause-room : goal.make_gate-requires-clause-room
make_gate-requires-clause-room c h = elim c.else-is_h.branch [
  | else-is_h-via-then-is_h+else-has_reached_limit w ↦
      let reached = w.has_reached_limit.ensures in
      let no = w.if-has_reached_limit.false in
      room_left _ (λ most. yes_is_no (sym (reached.1 (room_kept c.args.tables.now c.try_laws.ensures.here c.try_laws.ensures.limit c.requires.run.0
      c.args.self.now
      c.gather.new.self c.requires.run.1 (c.in_ok-group.ensures.kept c.requires.run.0 c.requires.run.1) most)) ∙ no))
  | else-is_h-via-else-is_h w ↦ absurd (yes_is_no (sym (c.is_h.ensures.1 h) ∙ w.if-is_h.false))
]
