use Rattle.std.proofs.Common.{◌≡◌, ◌+◌, ◌-◌, ◌<◌, ◌++◌, ◌∷◌, [], ℕ, length, take, get_or, vec_len}
use Rattle.std.proofs.Common.{ap, sym, ◌∙◌, subst, arith}
use Rattle.std.proofs.lemmas.Iterator.Adapters.{YieldsList-from_vec}
use Rattle.std.proofs.lemmas.Iterator.Consumers.{YieldsList-turn, YieldsList-end}
use Rattle.std.proofs.lemmas.List.{take_more, length_push, length-take-le}
use Rattle.std.proofs.Math.Seq.{take-length}
use Rattle.cqp_pool.specs.Pools.{LaneState}
use Rattle.cqp_pool.specs.Parts.{Entered}
use Rattle.cqp_pool.specs.Rooms.{HasRoom}
use Rattle.cqp_pool.specs.Apart.{IsApart}
use Rattle.cqp_pool.proofs.Aparts.{apart_first, apart_next, apart_same, same_queue, door_some}
use Rattle.cqp_pool.proofs.Aparts.{next_lane, one_taken}
use Rattle.cqp_pool.proofs.gather.taken_apart.Goals as goal

pub loop-lane-init : goal.loop-lane-init
loop-lane-init g c =
    let lanes = c.args.lanes in
    let count : vec_len lanes ≡ vec_len lanes - 1 + 1 = let a = c.requires.some in omega arith in
    let some : 0 < length lanes.items = let a = c.requires.some in let b = lanes.ok.0 in omega arith in
    let first = c.remove.result in
    let here : first ≡ get_or lanes.items 0 first = c.remove.ensures.value in
    let p = c.into_parts.result in
    let room = c.requires.room in
    record {
      room = c.add-door.ensures.room (vec_len lanes - 1) (subst (HasRoom {T = g.row.T.Denot} c.args.room) count room.room);
      apart = λ pool order.
          let number = ap (λ (l : LaneState g.row.T.Denot). l.number) here ∙ order.numbers 0 first some in
          let of_pool = ap (λ (l : LaneState g.row.T.Denot). l.pool) here ∙ order.of_pool 0 first some in
          let few : 0 < length pool.deques = let a = order.count in omega arith in
          let IsSo : Entered → Type 0 = IsApart g.T.Numbered.number pool (take 1 lanes.items) c.add-door.new.self.owns.items c.add-door.new.self.rows.items
          c.add-door.new.self.kepts.items in
          subst IsSo (sym c.add-door.ensures.door) (apart_same g.T.Numbered.number pool (first ∷ [])
          (take 1 lanes.items) (p.own ∷ []) c.add-door.new.self.owns.items
          (p.row ∷ []) c.add-door.new.self.rows.items (p.kept ∷ []) c.add-door.new.self.kepts.items p.door
          (take_more lanes.items 0 first some ∙ ap (λ x. x ∷ []) (sym here))
          (c.add-door.ensures.owns ∙ ap (λ l. l ++ p.own ∷ []) room.owns)
          (c.add-door.ensures.rows ∙ ap (λ l. l ++ p.row ∷ []) room.rows) (c.add-door.ensures.kepts
          ∙ ap (λ l. l ++ p.kept ∷ []) room.kepts)
          (apart_first g.T.Numbered.number pool first p.own p.row p.door p.kept c.into_parts.ensures of_pool number few));
    }

pub absorb-requires : goal.absorb-requires
absorb-requires g c =
    let lanes = c.args.lanes.items in
    let rest = c.remove.new.self.items in
    let yielded = c.loop-lane.yielded in
    let gives = c.into_iter-lane-iterator.ensures.into_iter_gives in
    let turn = YieldsList-turn (YieldsList-from_vec {s = c.into_iter-lane-iterator.result} rest gives.0 (gives.1
    ∙ c.remove.new.self.ok.0)) yielded c.loop-lane.lane-iterator c.loop-lane.yielded_by c.next.result c.next.new.self c.in-Some.lane
    c.in-Some.is c.next.ensures.steps in
    let next = next_lane lanes rest (length yielded) c.in-Some.lane c.remove.ensures.by_index.2 turn.0 turn.1 in
    let order = c.requires.order.1 in
    let before = c.loop-lane.invariant.apart c.requires.order.0 order in
    let of_pool = ap (λ (l : LaneState g.row.T.Denot). l.pool) next.1 ∙ order.of_pool (length yielded + 1) c.in-Some.lane next.0 in
    let p = c.into_parts-in-loop-lane.result in
    let parts = c.into_parts-in-loop-lane.ensures in
    let some : 0 < length (take (length yielded + 1) lanes) = let n = next.0 in omega (arith, length-take-le (length yielded + 1) lanes (omega arith)) in
    let number = g.T.Numbered.number in
    let pool = c.requires.order.0 in
    record {
      queue = ap (λ (d : Entered). d.queue) c.add-other.ensures.door
          ∙ same_queue number pool c.in-Some.lane p.own p.row p.door p.kept parts of_pool
          ∙ sym before.queue;
      part = door_some number pool c.in-Some.lane p.own p.row p.door p.kept parts of_pool (take
          (length yielded + 1) lanes) c.loop-lane.parts.owns.items c.loop-lane.parts.rows.items c.loop-lane.parts.kepts.items c.loop-lane.door before some;
    }

pub loop-lane-preserved : goal.loop-lane-preserved
loop-lane-preserved g c =
    let lanes = c.args.lanes.items in
    let rest = c.remove.new.self.items in
    let yielded = c.loop-lane.yielded in
    let lane = c.in-Some.lane in
    let k : ℕ = length yielded + 1 in
    let gives = c.into_iter-lane-iterator.ensures.into_iter_gives in
    let turn = YieldsList-turn (YieldsList-from_vec {s = c.into_iter-lane-iterator.result} rest gives.0 (gives.1
    ∙ c.remove.new.self.ok.0)) yielded c.loop-lane.lane-iterator c.loop-lane.yielded_by c.next.result c.next.new.self lane c.in-Some.is
    c.next.ensures.steps in
    let next = next_lane lanes rest (length yielded) lane c.remove.ensures.by_index.2 turn.0 turn.1 in
    let p = c.into_parts-in-loop-lane.result in
    let old = c.loop-lane.parts in
    let new = c.add-other.new.self in
    let add = c.add-other.ensures in
    let more : length (yielded ++ lane ∷ []) + 1 ≡ k + 1 = ap (λ n. n + 1) (length_push yielded lane) in
    let left : vec_len c.args.lanes - k ≡ vec_len c.args.lanes - (length (yielded ++ lane ∷ []) + 1) + 1 = let a = next.0 in let b = c.args.lanes.ok.0
    in omega arith in
    record {
      room = add.room (vec_len c.args.lanes - (length (yielded ++ lane ∷ []) + 1)) (subst (HasRoom {T = g.row.T.Denot} old) left c.loop-lane.invariant.room);
      apart = λ pool order.
          let of_pool = ap (λ (l : LaneState g.row.T.Denot). l.pool) next.1 ∙ order.of_pool k lane next.0 in
          apart_next g.T.Numbered.number pool lane p.own p.row p.door p.kept c.into_parts-in-loop-lane.ensures of_pool lanes k _ old.owns.items
          new.owns.items old.rows.items new.rows.items old.kepts.items new.kepts.items c.loop-lane.door c.absorb.new.self c.add-other.result more
          (omega arith) order (c.loop-lane.invariant.apart pool order) next add.owns add.rows add.kepts add.door c.absorb.ensures.queue
          c.absorb.ensures.view;
    }

pub returns : goal.returns
returns g c =
    let lanes = c.args.lanes.items in
    let rest = c.remove.new.self.items in
    let yielded = c.loop-lane.yielded in
    let gives = c.into_iter-lane-iterator.ensures.into_iter_gives in
    let end = YieldsList-end (YieldsList-from_vec {s = c.into_iter-lane-iterator.result} rest gives.0 (gives.1
    ∙ c.remove.new.self.ok.0)) yielded c.loop-lane.lane-iterator c.loop-lane.yielded_by c.next.result c.next.new.self c.in-None.is c.next.ensures.steps in
    let some : 0 < length lanes = let a = c.requires.some in let b = c.args.lanes.ok.0 in omega arith in
    let all : length yielded + 1 ≡ length lanes = let e = end.1 in let o = one_taken lanes rest c.remove.ensures.by_index.2 some in omega arith in
    λ pool order. subst (λ l. IsApart g.T.Numbered.number pool l c.loop-lane.parts.owns.items c.loop-lane.parts.rows.items
    c.loop-lane.parts.kepts.items c.loop-lane.door)
    (ap (λ n. take n lanes) all ∙ take-length lanes) (c.loop-lane.invariant.apart pool order)
