use Rattle.std.proofs.Common.{◌≡◌, ◌-◌, map, drop}
use Rattle.cqp_syntax.specs.TypeTrees.{type_at, trees_at, same_types}
use Rattle.cqp_syntax.specs.Listing.{type_of_name, expr_at}
use Rattle.cqp_types.specs.Faults.{form_types}
use Rattle.cqp_types.proofs.lists.args_fit.Given as goal

abbrev pub invariant-loop-k : goal.invariant-loop-k
invariant-loop-k l =
    l.all ≡ same_types (form_types (type_of_name l.given) (map (expr_at l.given) (drop (l.count - l.k) l.args)))
    (trees_at (type_at l.given.types) (drop (l.count - l.k) l.of))
