use Rattle.cqp_uses.specs.Users.{UsersBelow}
use Rattle.cqp_uses.proofs.uses.Uses.of.Given as goal

-- the users among the nodes so far
abbrev pub invariant-loop-n : goal.invariant-loop-n
invariant-loop-n l = UsersBelow l.proc l.names.items l.n
