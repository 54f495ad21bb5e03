use Rattle.std.proofs.Common.{◌≡◌, ◌++◌, ◌≤◌, length, take, drop}
use Rattle.cqp_parts.specs.Parts.{bound_to}
use Rattle.cqp_onward.proofs.binding.push_all.Given as goal

-- the bindings so far, and those that are left, behind the first ones
abbrev pub invariant-loop-i : goal.invariant-loop-i
invariant-loop-i l = record {
  told : l.env.items ++ bound_to (drop l.i l.names) (drop l.i l.vals) ≡ l.fn.env.items ++ bound_to l.names l.vals;
  front : take (length l.fn.env.items) l.env.items ≡ l.fn.env.items;
  long : length l.fn.env.items ≤ length l.env.items;
}
