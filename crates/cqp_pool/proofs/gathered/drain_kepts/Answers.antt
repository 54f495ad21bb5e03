use Rattle.std.proofs.Common.{◌≡◌, length, ◌∙◌}
use Rattle.std.proofs.lemmas.List.{with_items_is}
use Rattle.cqp_pool.proofs.gathered.drain_kepts.Goals as goal

pub drain_kepts_in-requires : goal.drain_kepts_in-requires
drain_kepts_in-requires g c = rw c.as_mut_slice.ensures.value c.requires

pub returns-clause-logs : goal.returns-clause-logs
returns-clause-logs g c =
    let len : length c.drain_kepts_in.new.kepts ≡ c.args.kepts.now.len = c.drain_kepts_in.auto.kepts ∙ c.as_mut_slice.ensures.len in
    rw (with_items_is c.args.kepts.now c.drain_kepts_in.new.kepts len) c.drain_kepts_in.ensures.logs

pub returns-clause-gives : goal.returns-clause-gives
returns-clause-gives g c =
    let len : length c.drain_kepts_in.new.kepts ≡ c.args.kepts.now.len = c.drain_kepts_in.auto.kepts ∙ c.as_mut_slice.ensures.len in
    rw (with_items_is c.args.kepts.now c.drain_kepts_in.new.kepts len, ← c.as_mut_slice.ensures.value) c.drain_kepts_in.ensures.gives

pub returns-clause-none : goal.returns-clause-none
returns-clause-none g c =
    let len : length c.drain_kepts_in.new.kepts ≡ c.args.kepts.now.len = c.drain_kepts_in.auto.kepts ∙ c.as_mut_slice.ensures.len in
    rw (with_items_is c.args.kepts.now c.drain_kepts_in.new.kepts len, ← c.as_mut_slice.ensures.value) c.drain_kepts_in.ensures.none
