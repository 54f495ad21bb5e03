use Rattle.std.proofs.Common.{◌≡◌, ◌-◌, map, drop}
use Rattle.cqp_syntax.specs.TypeTrees.{type_at, trees_at, same_types}
use Rattle.cqp_types.specs.Types.{types_of}
use Rattle.cqp_types.specs.Tables.{binder_in}
use Rattle.cqp_types.proofs.lists.params_fit.Given as goal

abbrev pub invariant-loop-k : goal.invariant-loop-k
invariant-loop-k l =
    l.all ≡ same_types (types_of (map (binder_in l.given) (drop (l.count - l.k) l.params))) (trees_at (type_at l.given.types) (drop (l.count - l.k) l.of))
