use Rattle.std.proofs.Common.{ap, ◌∙◌}
use Rattle.cqp_trace.specs.declared.deed.Deed.TheVariants as deed
use Rattle.cqp_parts.specs.Parts.{parts_after}
use Rattle.cqp_stepper.proofs.tables.Tables.go_ahead.Goals as goal

pub returns : goal.returns
returns c to chan = c.go.ensures.parts to chan ∙ ap (λ l. parts_after l c.args.part (deed.Com to chan)) (c.proc.ensures.proc ∙ c.self.view_is)
