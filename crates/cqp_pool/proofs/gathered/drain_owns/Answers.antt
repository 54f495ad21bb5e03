use Rattle.std.proofs.Common.{◌≡◌, length, ◌∙◌}
use Rattle.std.proofs.lemmas.List.{with_items_is}
use Rattle.cqp_pool.proofs.gathered.drain_owns.Goals as goal

pub drain_owns_in-requires : goal.drain_owns_in-requires
drain_owns_in-requires g c = rw c.as_mut_slice.ensures.value c.requires

pub returns-clause-settled : goal.returns-clause-settled
returns-clause-settled g c =
    let len : length c.drain_owns_in.new.owns ≡ c.args.owns.now.len = c.drain_owns_in.auto.owns ∙ c.as_mut_slice.ensures.len in
    rw (with_items_is c.args.owns.now c.drain_owns_in.new.owns len) c.drain_owns_in.ensures.settled

pub returns-clause-gives : goal.returns-clause-gives
returns-clause-gives g c =
    let len : length c.drain_owns_in.new.owns ≡ c.args.owns.now.len = c.drain_owns_in.auto.owns ∙ c.as_mut_slice.ensures.len in
    rw (with_items_is c.args.owns.now c.drain_owns_in.new.owns len, ← c.as_mut_slice.ensures.value) c.drain_owns_in.ensures.gives

pub returns-clause-none : goal.returns-clause-none
returns-clause-none g c =
    let len : length c.drain_owns_in.new.owns ≡ c.args.owns.now.len = c.drain_owns_in.auto.owns ∙ c.as_mut_slice.ensures.len in
    rw (with_items_is c.args.owns.now c.drain_owns_in.new.owns len, ← c.as_mut_slice.ensures.value) c.drain_owns_in.ensures.none
