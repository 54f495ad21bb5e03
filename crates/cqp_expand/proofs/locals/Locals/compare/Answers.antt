use Rattle.std.proofs.Common.{length, nat_eq}
use Rattle.cqp_expand.specs.declared.fault.FaultKind.TheVariants.{Arity}
use Rattle.cqp_expand.specs.Faults.{unless}
use Rattle.cqp_expand.proofs.Entering.{local_from}
use Rattle.cqp_expand.proofs.locals.Locals.compare.Goals as goal

pub arguments-requires-clause-local : goal.arguments-requires-clause-local
arguments-requires-clause-local c =
    let fs = unless (nat_eq (length c.args.args.now) c.args.outline.now.arity) Arity c.args.at in
    local_from c.args.self.now c.counted.new.self fs c.counted.ensures c.requires.local
