use Rattle.std.proofs.Common.{◌≡◌, take}
use Rattle.cqp_ring.specs.Root.{root_total}
use Rattle.cqp_choose.proofs.born.total_of.Given as goal

abbrev pub invariant-loop-odd : goal.invariant-loop-odd
invariant-loop-odd l = l.sum ≡ root_total (take l.odd-index l.odds)
