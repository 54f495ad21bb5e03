use Rattle.std.proofs.Common.{◌≡◌, true}
use Rattle.cqp_standing.specs.Stands.{has_rising_names}
use Rattle.cqp_onward.specs.Forgetting.{without, used_between}
use Rattle.cqp_onward.proofs.forgetting.forget_between.Given as goal

-- the names of the nodes that are left, and names that rise
abbrev pub invariant-loop-m : goal.invariant-loop-m
invariant-loop-m l = record {
  told : without l.proc l.n (used_between l.proc l.m l.to) l.items.items ≡ without l.proc l.n (used_between l.proc l.from l.to) l.fn.items.items;
  rise : has_rising_names l.items.items ≡ true;
}
