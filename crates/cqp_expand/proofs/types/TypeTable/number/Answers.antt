use Rattle.std.proofs.Common.{◌≡◌, ℕ, sym, subst, slice_get, Some, arith}
use Rattle.std.specs.Prelude.{IfSome, IfNone}
use Rattle.cqp_expand.specs.Tables.{IsTable, Extends}
use Rattle.cqp_expand.proofs.TypeTables.{type_of_index, table_more, extends_more, type_last}
use Rattle.cqp_expand.proofs.types.TypeTable.number.Goals as goal

pub returns-in-Some-clause-is : goal.returns-in-Some-clause-is
returns-in-Some-clause-is c =
    type_of_index c.args.self.now.types c.in-Some.index c.args.ty c.requires.table (subst (λ o. IfSome o (λ n. slice_get c.args.self.now.types n ≡ Some c.args.ty)) c.in-Some.is c.in_ok-index.ensures.found)

pub returns-clause-table : goal.returns-clause-table
returns-clause-table c =
    subst IsTable (sym c.in_ok-push.ensures) (table_more c.args.self.now.types c.args.ty c.requires.table c.requires.parts
    (subst (λ o. IfNone o ((n : ℕ) → slice_get c.args.self.now.types n ≡ Some c.args.ty → ⊥)) c.in_default.is c.in_ok-index.ensures.missing)
    (omega (arith, c.if-number.false, c.len-number.ensures)))

pub returns-clause-extends : goal.returns-clause-extends
returns-clause-extends c = subst (Extends c.args.self.now.types) (sym c.in_ok-push.ensures) (extends_more c.args.self.now.types c.args.ty)

pub returns-clause-is : goal.returns-clause-is
returns-clause-is c = rw c.in_ok-push.ensures (type_last c.args.self.now.types c.args.ty c.len-number.result c.len-number.ensures)
