use Rattle.std.proofs.Common.{length, refl, sym}
use Rattle.cqp_expand.specs.declared.locals.Locals.{Locals}
use Rattle.cqp_expand.specs.declared.scope.Bound as code
use Rattle.cqp_expand.specs.Tables.{IsNumbered}
use Rattle.cqp_expand.specs.Locals.{table}
use Rattle.cqp_expand.proofs.Entering.{enters_one}
use Rattle.cqp_expand.proofs.locals.Locals.enter.Goals as goal

pub returns-clause-enters : goal.returns-clause-enters
returns-clause-enters c = λ p name tree.
    let l = c.args.self.now in
    let m : Locals = record l { types = c.number_of.new.self } in
    let b : code.Bound = record { text = c.args.text; number = length l.ty_of; ty = c.in_ok-ty.ty } in
    let is = c.in_ok-ty.ensures in
    let numbered : IsNumbered (table l) (table m) p.ty c.in_ok-ty.ty =
    record { grown = is.extends; table = is.table; within = is.below; is = is.is p.ty tree } in
    enters_one l m c.bind.new.self b p c.requires.local refl refl refl numbered (sym name) refl c.in_ok-number.ensures.bound
