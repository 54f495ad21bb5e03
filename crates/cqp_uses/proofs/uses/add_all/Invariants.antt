use Rattle.std.proofs.Common.{◌≡◌, length, drop}
use Rattle.cqp_uses.specs.Users.{with_users}
use Rattle.cqp_uses.proofs.uses.add_all.Given as goal

-- the names that are left
abbrev pub invariant-loop-name : goal.invariant-loop-name
invariant-loop-name l = record {
  told : with_users l.n (drop l.name-index l.used) l.names.items ≡ with_users l.n l.used l.fn.names.items;
  count : length l.names.items ≡ length l.fn.names.items;
}
