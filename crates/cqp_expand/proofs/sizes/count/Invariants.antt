use Rattle.std.proofs.Common.{◌≡◌, min, sum_by, take}
use Rattle.cqp_expand.specs.Sizes.{member_count}
use Rattle.cqp_expand.proofs.sizes.count.Given as goal

abbrev pub invariant-loop-member : goal.invariant-loop-member
invariant-loop-member l = l.sum ≡ min (sum_by (member_count l.outlines) (take l.member-index l.members)) 20001
