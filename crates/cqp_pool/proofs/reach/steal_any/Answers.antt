use Rattle.std.proofs.Common.{◌≡◌, length, ◌∙◌}
use Rattle.std.proofs.lemmas.List.{with_items_is}
use Rattle.cqp_pool.proofs.reach.steal_any.Goals as goal

pub returns-clause-taken : goal.returns-clause-taken
returns-clause-taken g c =
    let len : length c.steal_in.new.row ≡ c.args.row.now.len = c.steal_in.auto.row ∙ c.as_mut_slice.ensures.len in
    rw (with_items_is c.args.row.now c.steal_in.new.row len, ← c.as_mut_slice.ensures.value) c.steal_in.ensures.taken

pub returns-clause-none : goal.returns-clause-none
returns-clause-none g c =
    let len : length c.steal_in.new.row ≡ c.args.row.now.len = c.steal_in.auto.row ∙ c.as_mut_slice.ensures.len in
    rw (with_items_is c.args.row.now c.steal_in.new.row len, ← c.as_mut_slice.ensures.value) c.steal_in.ensures.none
