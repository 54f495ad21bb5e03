use Rattle.std.proofs.Common.{rules, ◌≡◌, ◌<◌, ◌≢◌, nat_lt, length, slice_index_or, sym, ap, subst, arith, ◌∙◌, true}
use Rattle.std.proofs.lemmas.Bool.{ltb-true, ltb-false}
use Rattle.std.proofs.lemmas.List.Sorted.{IsPartitionPoint-from_clause}
use Rattle.cqp_syntax.specs.declared.val.Val.TheVariants as val
use Rattle.cqp_parts.specs.declared.bind.Bind.{Bind}
use Rattle.cqp_standing.specs.Stands.{has_rising_names}
use Rattle.cqp_standing.proofs.RisingNames.{name_at, names_parted, kept_names_rise}
use Rattle.cqp_parts.proofs.Lists.{any_default}
use Rattle.cqp_onward.proofs.Removals.{others, removed, nothing_removed}
use Rattle.cqp_onward.proofs.forgetting.remove.Goals as goal
use Rattle.cqp_onward.proofs.forgetting.remove.Goals.{else-at-len-via-then-at-len+else-index-name, else-at-len-via-else-at-len}

pub returns-then-index-name-clause-items : goal.returns-then-index-name-clause-items
returns-then-index-name-clause-items c =
    let xs = c.args.items.now.items in
    let x = c.args.name in
    let at = c.partition_point-at.result in
    let b = c.index.result.now in
    let name : name_at xs at b ≡ x = ap (λ (d : Bind). d.name) (sym c.index.ensures) ∙ c.if-index-name.true in
    c.remove.ensures.items ∙ removed xs at x b c.requires (omega (arith, c.if-at-len.true, c.len.ensures)) name

pub returns-then-index-name-clause-rise : goal.returns-then-index-name-clause-rise
returns-then-index-name-clause-rise c =
    subst (λ xs. has_rising_names xs ≡ true) (sym (returns-then-index-name-clause-items c))
    (kept_names_rise _ c.args.items.now.items c.requires)

pub returns-else-at-len-clause-items : goal.returns-else-at-len-clause-items
returns-else-at-len-clause-items c =
    let xs = c.args.items.now.items in
    let ys = c.as_slice.result.now in
    let x = c.args.name in
    let at = c.partition_point-at.result in
    let d : Bind = record { name = 0; val = val.Num 0 } in
    let same = c.as_slice.ensures.value in
    let rising : has_rising_names ys ≡ true = ap has_rising_names same ∙ c.requires in
    let point =
    IsPartitionPoint-from_clause (λ (b : Bind). nat_lt b.name x) ys at c.partition_point-at.ensures.partitioned (names_parted ys x rising)
    (λ a r f k. search rules) in
    let nowhere : (at < length ys → name_at ys at d ≢ x) → xs ≡ others x xs =
    λ other. subst (λ zs. zs ≡ others x zs) same
    (nothing_removed ys at x d rising (λ i t w. ltb-true (name_at ys i d) x (point.0 i d (omega arith) t))
    (λ i t w. ltb-false (name_at ys i d) x (point.1 i d t w)) other) in
    elim c.else-at-len.branch [
      | else-at-len-via-then-at-len+else-index-name w ↦ nowhere (λ t e. w.if-index-name.false (ap (λ (b : Bind). b.name) (w.index.ensures
          ∙ (any_default xs at w.index.result.now d (omega (arith, w.if-at-len.true, c.len.ensures)) ∙ ap (λ zs. slice_index_or zs at d) (sym same))) ∙ e))
      | else-at-len-via-else-at-len w ↦ nowhere (λ t. absurd (omega (arith, t, w.if-at-len.false, c.len.ensures, c.as_slice.ensures.len)))
    ]
