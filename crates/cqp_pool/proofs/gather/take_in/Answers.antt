use Rattle.std.proofs.Common.{◌≡◌, length, ◌∙◌}
use Rattle.std.proofs.lemmas.List.{with_items_is}
use Rattle.cqp_pool.proofs.gather.take_in.Goals as goal

pub take_in_all-requires-clause-deques : goal.take_in_all-requires-clause-deques
take_in_all-requires-clause-deques g c = rw c.as_mut_slice.ensures.value c.requires.deques

pub take_in_all-requires-clause-parts : goal.take_in_all-requires-clause-parts
take_in_all-requires-clause-parts g c = rw c.as_mut_slice.ensures.value c.requires.parts

pub returns : goal.returns
returns g c =
    let len : length c.take_in_all.new.owns ≡ c.args.owns.now.len = c.take_in_all.auto.owns ∙ c.as_mut_slice.ensures.len in
    rw (with_items_is c.args.owns.now c.take_in_all.new.owns len, ← c.as_mut_slice.ensures.value) c.take_in_all.ensures
