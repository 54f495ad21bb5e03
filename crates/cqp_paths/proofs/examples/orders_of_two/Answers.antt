use Rattle.std.proofs.Common.{◌≤◌, refl, arith}
use Rattle.cqp_trace.specs.declared.deed.Deed.TheVariants as deed
use Rattle.cqp_cells.specs.Examples.{by}
use Rattle.cqp_paths.proofs.OrdersOfTwo.{first_plain, second_run}
use Rattle.cqp_paths.proofs.examples.orders_of_two.Goals as goal

pub returns-clause-plain : goal.returns-clause-plain
returns-clause-plain c script = first_plain script c.derivable_cases.ensures.two_qubits

pub returns-clause-run : goal.returns-clause-run
returns-clause-run c script = second_run script c.derivable_cases.ensures.two_qubits

pub returns-clause-not_plain : goal.returns-clause-not_plain
returns-clause-not_plain c script plain = late (plain.plain.entries.0.active.least (by 0 (deed.Qbit 0)) refl)
  where
    late : 1 ≤ 0 → ⊥
    late h = omega arith
