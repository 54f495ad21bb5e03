use Rattle.std.proofs.Common.{◌≡◌, ◌+◌, ◌-◌, ◌<◌, length, take, get_or, vec_len, refl, ap, sym, ◌∙◌}
use Rattle.std.proofs.Common.{arith}
use Rattle.std.proofs.Math.Seq.{take-length}
use Rattle.cqp_pool.specs.Parts.{Owned}
use Rattle.cqp_pool.proofs.Zips.{zip_from_end, same_length, last_way, last_owner, leads_there}
use Rattle.cqp_pool.proofs.Zips.{one_way_more, one_way_less}
use Rattle.cqp_pool.proofs.gather.take_in_all.Goals as goal

pub loop-reach-init : goal.loop-reach-init
loop-reach-init g c =
    let os = c.args.owns.now in
    let rs = c.args.row.items in
    let same : length rs ≡ length os = same_length os rs c.requires.deques in
    record {
      left = sym (ap (λ n. take n rs) (sym same) ∙ take-length rs);
      count = c.args.row.ok.0 ∙ same;
      within = omega arith;
      owns = sym (zip_from_end os rs (length os) refl same);
    }

pub absorb-requires-clause-deque : goal.absorb-requires-clause-deque
absorb-requires-clause-deque g c =
    let os = c.args.owns.now in
    let rs = c.args.row.items in
    let k = c.loop-reach.k in
    let m = k - 1 in
    let i = c.loop-reach.invariant in
    let reach = c.in-Some.reach in
    let some : 0 < vec_len c.loop-reach.row = let a = c.in-Some.ensures.cases in omega arith in
    let next : m + 1 ≡ k = let a = i.count in omega arith in
    let in_owns : m < length os = let a = i.within in omega arith in
    let at = c.in-Some.ensures.value reach some in
    let last : vec_len c.loop-reach.row - 1 ≡ m = let a = i.count in omega arith in
    let here : reach ≡ get_or c.loop-reach.row.items (vec_len c.loop-reach.row - 1) reach = cc in
    let there = here ∙ ap (λ n. get_or c.loop-reach.row.items n reach) last in
    leads_there os rs c.requires.deques k m next in_owns c.loop-reach.owns c.index-owns-k.result reach i.owns
    (last_way os rs c.requires.deques k m next in_owns c.loop-reach.row.items reach i.left there)

pub absorb-requires-clause-part : goal.absorb-requires-clause-part
absorb-requires-clause-part g c =
    let os = c.args.owns.now in
    let k = c.loop-reach.k in
    let m = k - 1 in
    let i = c.loop-reach.invariant in
    let d : Owned = c.index-owns-k.result in
    let some : 0 < vec_len c.loop-reach.row = let a = c.in-Some.ensures.cases in omega arith in
    let next : m + 1 ≡ k = let a = i.count in omega arith in
    let in_owns : m < length os = let a = i.within in omega arith in
    let is = last_owner os c.args.row.items c.requires.deques k m next in_owns c.loop-reach.owns d i.owns in
    rw is (c.requires.parts m d in_owns)

pub loop-reach-preserved : goal.loop-reach-preserved
loop-reach-preserved g c =
    let os = c.args.owns.now in
    let rs = c.args.row.items in
    let k = c.loop-reach.k in
    let m = k - 1 in
    let i = c.loop-reach.invariant in
    let reach = c.in-Some.reach in
    let some : 0 < vec_len c.loop-reach.row = let a = c.in-Some.ensures.cases in omega arith in
    let next : m + 1 ≡ k = let a = i.count in omega arith in
    let in_owns : m < length os = let a = i.within in omega arith in
    let at = c.in-Some.ensures.value reach some in
    let last : vec_len c.loop-reach.row - 1 ≡ m = let a = i.count in omega arith in
    let here : reach ≡ get_or c.loop-reach.row.items (vec_len c.loop-reach.row - 1) reach = cc in
    let there = here ∙ ap (λ n. get_or c.loop-reach.row.items n reach) last in
    let mine = last_way os rs c.requires.deques k m next in_owns c.loop-reach.row.items reach i.left there in
    record {
      left = one_way_less os rs c.requires.deques k m next in_owns c.loop-reach.row.items c.pop.new.self.items i.left (c.in-Some.ensures.rest
          ∙ ap (λ n. take n c.loop-reach.row.items) last);
      count = let a = c.in-Some.ensures.cases in let b = i.count in omega arith;
      within = let a = i.within in omega arith;
      owns = one_way_more os rs c.requires.deques k m next in_owns c.loop-reach.owns c.index-owns-k.result c.absorb.new.self reach i.owns mine c.absorb.ensures;
    }
