use Rattle.std.proofs.Common.{nat_lt, sym, ap, arith, ◌∙◌}
use Rattle.cqp_uses.proofs.FreeAnswers.{free_first, free_least, free_none}
use Rattle.cqp_uses.proofs.uses.Uses.is_free.Goals as goal

pub returns-in-Some : goal.returns-in-Some
returns-in-Some c l is there =
    let u = c.args.self.now in
    let n = c.args.n in
    let first = sym (c.user_from.ensures l is) ∙ c.in-Some.is in
    let from = free_least l u is c.args.name n c.in-Some.user first in
    ap (nat_lt c.in-Some.user) (c.end.ensures l is) ∙ sym (free_first l u is c.args.name n c.in-Some.user n first there (omega arith) from)

pub returns-in-None : goal.returns-in-None
returns-in-None c l is there =
    sym (free_none l c.args.self.now is c.args.name c.args.n c.args.n (sym (c.user_from.ensures l is) ∙ c.in-None.is) there (omega arith))
