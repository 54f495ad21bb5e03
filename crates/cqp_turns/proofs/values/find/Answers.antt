use Rattle.std.proofs.Common.{rules, ◌≡◌, ◌<◌, ◌≢◌, nat_lt, length, sym, arith, None}
use Rattle.std.proofs.lemmas.Bool.{ltb-true, ltb-false}
use Rattle.std.proofs.lemmas.List.Sorted.{IsPartitionPoint-from_clause}
use Rattle.cqp_syntax.specs.declared.val.Val.TheVariants as val
use Rattle.cqp_parts.specs.declared.bind.Bind.{Bind}
use Rattle.cqp_standing.specs.Stands.{val_of}
use Rattle.cqp_standing.proofs.RisingNames.{name_at, names_parted}
use Rattle.cqp_turns.proofs.EnvLemmas.{found_at, parted_nowhere}
use Rattle.cqp_turns.proofs.values.find.Goals as goal
use Rattle.cqp_turns.proofs.values.find.Goals.{else-at-items-via-then-at-items+else-items-at, else-at-items-via-else-at-items}

pub returns-then-items-at : goal.returns-then-items-at
returns-then-items-at c =
    sym (found_at c.args.items.now c.partition_point-at.result _ c.args.name c.requires c.if-at-items.true c.if-items-at.true)

pub returns-else-at-items : goal.returns-else-at-items
returns-else-at-items c =
    let xs = c.args.items.now in
    let x = c.args.name in let at = c.partition_point-at.result in
    let d : Bind = record { name = 0; val = val.Num 0 } in
    let point =
    IsPartitionPoint-from_clause (λ (b : Bind). nat_lt b.name x) xs at c.partition_point-at.ensures.partitioned (names_parted xs x c.requires)
    (λ a r f k. search rules) in
    let nowhere : (at < length xs → name_at xs at d ≢ x) → None ≡ val_of x xs =
    λ other. sym
    (parted_nowhere xs d x at c.requires (λ i t w. ltb-true (name_at xs i d) x (point.0 i d (omega arith) t))
    (λ i t w. ltb-false (name_at xs i d) x (point.1 i d t w)) other) in
    elim c.else-at-items.branch [
      | else-at-items-via-then-at-items+else-items-at w ↦ nowhere (λ t. w.if-items-at.false)
      | else-at-items-via-else-at-items w ↦ nowhere (λ t. absurd (omega (arith, t, w.if-at-items.false)))
    ]
