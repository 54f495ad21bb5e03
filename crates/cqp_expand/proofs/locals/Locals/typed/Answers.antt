use Rattle.std.proofs.Common.{sym, ap}
use Rattle.cqp_expand.specs.declared.fault.FaultKind.TheVariants.{ParamType}
use Rattle.cqp_expand.specs.Faults.{unless}
use Rattle.cqp_expand.specs.Locals.{table, after}
use Rattle.cqp_expand.proofs.TypeTests.{alike, unlike}
use Rattle.cqp_expand.proofs.locals.Locals.typed.Goals as goal

pub returns-then-ty-wanted : goal.returns-then-ty-wanted
returns-then-ty-wanted c =
    rw (unlike (table c.args.self.now) c.args.ty c.args.wanted c.requires.local.is_table c.requires.own c.requires.other c.if-ty-wanted.true) c.fault.ensures

pub returns-else-ty-wanted : goal.returns-else-ty-wanted
returns-else-ty-wanted c =
    sym (ap (λ b. after c.args.self.now (unless b ParamType c.args.at)) (alike (table c.args.self.now) c.args.ty c.args.wanted c.if-ty-wanted.false))
