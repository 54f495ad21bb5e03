use Rattle.std.proofs.Common.{◌≡◌, length, ◌∙◌}
use Rattle.std.proofs.lemmas.List.{with_items_is}
use Rattle.cqp_pool.proofs.start.row_into.Goals as goal

pub row_into_all-requires : goal.row_into_all-requires
row_into_all-requires g c = rw c.as_mut_slice.ensures.value c.requires

pub returns-clause-owns : goal.returns-clause-owns
returns-clause-owns g c =
    let len : length c.row_into_all.new.owns ≡ c.args.owns.now.len = c.row_into_all.auto.owns ∙ c.as_mut_slice.ensures.len in
    rw (with_items_is c.args.owns.now c.row_into_all.new.owns len, ← c.as_mut_slice.ensures.value) c.row_into_all.ensures.owns
