use Rattle.std.proofs.Common.{◌≡◌, ◌-◌, map, drop}
use Rattle.std.specs.List.{list_all}
use Rattle.cqp_syntax.specs.Trees.{named}
use Rattle.cqp_syntax.specs.Listing.{type_of_name}
use Rattle.cqp_types.specs.Faults.{is_qubit}
use Rattle.cqp_types.proofs.lists.are_qubits.Given as goal

abbrev pub invariant-loop-k : goal.invariant-loop-k
invariant-loop-k l = l.all ≡ list_all (is_qubit (type_of_name l.given)) (map named (drop (l.count - l.k) l.names))
