use Rattle.std.proofs.Common.{◌≡◌, ◌+◌, ◌-◌, ◌<◌, Some, List, ◌∷◌, All}
use Rattle.std.proofs.Common.{Vec, Global, length, get_or, vec_len, ap, sym, ◌∙◌, subst}
use Rattle.std.proofs.Common.{arith}
use Rattle.std.specs.List.{range_with_len}
use Rattle.std.proofs.lemmas.List.Elements.{All-cons, All-pop}
use Rattle.cqp_pool.specs.declared.tally.Tally.{Tally}
use Rattle.cqp_pool.specs.Pools.{DequeId, PoolId, LaneState, IsNew, numbers_of}
use Rattle.cqp_pool.specs.Parts.{Reached, deques_in, deques_of, new_row, stolen}
use Rattle.cqp_pool.proofs.Rows.{length-deques_in}
use Rattle.cqp_pool.proofs.Seats.{deques_of-new_row, stolen-new_row, popped}
use Rattle.cqp_pool.proofs.Seats.{new_view, owners_left, one_part_less, numbers_more}
use Rattle.cqp_pool.proofs.Seats.{seats, queue_parts-after, all_numbers}
use Rattle.cqp_pool.proofs.Seats.{whole_by_numbers}
use Rattle.cqp_pool.proofs.start.seated.Goals as goal

abbrev IsRow : List DequeId → Vec Reached Global → Type 0
IsRow ids v = v.items ≡ new_row ids

pub new-requires-clause-place : goal.new-requires-clause-place
new-requires-clause-place g c =
    let n = vec_len c.args.owns in
    let k = vec_len c.loop-own.owns in
    let ids = deques_in c.args.owns.items in
    let i = c.loop-own.invariant in
    let count : length ids ≡ n = length-deques_in c.args.owns.items ∙ sym c.args.owns.ok.0 in
    let few = c.requires.count.2 in
    let zero = c.if-number-eq0.true in
    let len = c.len-number.ensures in
    let last : 0 + 1 ≡ k = let a = c.in-Some.ensures.cases in omega arith in
    let at = c.in-Some.ensures.value c.in-Some.own i.some_left in
    let here : c.in-Some.own ≡ get_or c.loop-own.owns.items (k - 1) c.in-Some.own = cc in
    let row = (All-pop (IsRow ids) c.loop-own.rows.items c.pop-in-Some.new.self.items (Some c.in-Some-pop.row) c.in-Some-pop.ensures.items i.rows).1 in
    let parts = ap (λ (t : Tally). t.parts) i.rest in
    let least : 0 < n = omega arith in
    let parts' : c.loop-own.rest.view.parts ≡ 1025 - n = omega arith in
    let some : 0 < c.loop-own.rest.view.parts = omega arith in
    seats n 0 ids c.in-Some.own c.in-Some-pop.row.items c.loop-own.rest count least few (popped n k 0 ids c.loop-own.owns.items c.in-Some.own count
    i.no_more last i.owns here) row parts' some

pub new-requires-clause-row : goal.new-requires-clause-row
new-requires-clause-row g c =
    let ids = deques_in c.args.owns.items in
    let i = c.loop-own.invariant in
    let row = (All-pop (IsRow ids) c.loop-own.rows.items c.pop-in-Some.new.self.items (Some c.in-Some-pop.row) c.in-Some-pop.ensures.items i.rows).1 in
    ap stolen row ∙ stolen-new_row ids

pub returns-then-number-eq0-clause-numbers : goal.returns-then-number-eq0-clause-numbers
returns-then-number-eq0-clause-numbers g c =
    let n = vec_len c.args.owns in
    let k = vec_len c.loop-own.owns in
    let i = c.loop-own.invariant in
    let zero = c.if-number-eq0.true in
    let len = c.len-number.ensures in
    let last : k ≡ 1 = let a = c.in-Some.ensures.cases in omega arith in
    ap numbers_of c.in_ok-insert.ensures.items ∙ ap (λ m. m ∷ numbers_of c.loop-own.lanes.items) c.new.ensures.number ∙ ap (λ l. 0 ∷ l) i.numbers
    ∙ ap (λ m. 0 ∷ range_with_len m (n - m)) last ∙ all_numbers n (omega arith)

pub returns-then-number-eq0-clause-new : goal.returns-then-number-eq0-clause-new
returns-then-number-eq0-clause-new g c =
    subst (All (IsNew {T = g.row.T.Denot})) (sym c.in_ok-insert.ensures.items) (All-cons IsNew c.new.result c.loop-own.lanes.items c.new.ensures.new
    c.loop-own.invariant.new)

pub returns-then-number-eq0-clause-whole : goal.returns-then-number-eq0-clause-whole
returns-then-number-eq0-clause-whole g c =
    let n = vec_len c.args.owns in
    let k = vec_len c.loop-own.owns in
    let ids = deques_in c.args.owns.items in
    let i = c.loop-own.invariant in
    let zero = c.if-number-eq0.true in
    let len = c.len-number.ensures in
    let last : k ≡ 1 = let a = c.in-Some.ensures.cases in omega arith in
    let count : length ids ≡ n = length-deques_in c.args.owns.items ∙ sym c.args.owns.ok.0 in
    let pool : PoolId = record { deques = ids; queue = c.args.rest.queue } in
    let OfPool : LaneState g.row.T.Denot → Type 0 = λ s. s.pool ≡ pool in
    let row = (All-pop (IsRow ids) c.loop-own.rows.items c.pop-in-Some.new.self.items (Some c.in-Some-pop.row) c.in-Some-pop.ensures.items i.rows).1 in
    let deques : deques_of c.in-Some-pop.row.items ≡ ids = ap deques_of row ∙ deques_of-new_row ids in
    let of_pool : OfPool c.new.result = c.new.ensures.pool ∙ cc (deques, i.queue) in
    let numbers = ap numbers_of c.in_ok-insert.ensures.items ∙ ap (λ m. m ∷ numbers_of c.loop-own.lanes.items) c.new.ensures.number ∙ ap (λ l. 0 ∷ l) i.numbers
    ∙ ap (λ m. 0 ∷ range_with_len m (n - m)) last ∙ all_numbers n (omega arith) in
    whole_by_numbers c.insert.new.self.items pool n (subst (All OfPool) (sym c.in_ok-insert.ensures.items)
    (All-cons OfPool c.new.result c.loop-own.lanes.items of_pool i.of_pool)) numbers count

pub new-requires-in-Some-clause-place : goal.new-requires-in-Some-clause-place
new-requires-in-Some-clause-place g c =
    let n = vec_len c.args.owns in
    let k = vec_len c.loop-own.owns in
    let number = c.len-number.result in
    let ids = deques_in c.args.owns.items in
    let i = c.loop-own.invariant in
    let count : length ids ≡ n = length-deques_in c.args.owns.items ∙ sym c.args.owns.ok.0 in
    let few = c.requires.count.2 in
    let len = c.len-number.ensures in
    let before : number + 1 ≡ k = let a = c.in-Some.ensures.cases in omega arith in
    let at = c.in-Some.ensures.value c.in-Some.own i.some_left in
    let here : c.in-Some.own ≡ get_or c.loop-own.owns.items (k - 1) c.in-Some.own = cc in
    let row = (All-pop (IsRow ids) c.loop-own.rows.items c.pop-in-Some.new.self.items (Some c.in-Some-pop.row) c.in-Some-pop.ensures.items i.rows).1 in
    let parts : c.in_ok-door.door.view.parts ≡ 1 = ap (λ (t : Tally). t.parts) c.in_ok-door.ensures.another.1 in
    let lt : number < n = omega arith in
    let share = sym (queue_parts-after number n c.if-number-eq0.false) in
    let some : 0 < c.in_ok-door.door.view.parts = omega arith in
    seats n number ids c.in-Some.own c.in-Some-pop.row.items c.in_ok-door.door count lt few
    (popped n k number ids c.loop-own.owns.items c.in-Some.own count i.no_more before i.owns here) row (parts ∙ share) some

pub new-requires-in-Some-clause-own : goal.new-requires-in-Some-clause-own
new-requires-in-Some-clause-own g c =
    let n = vec_len c.args.owns in
    let k = vec_len c.loop-own.owns in
    let number = c.len-number.result in
    let ids = deques_in c.args.owns.items in
    let i = c.loop-own.invariant in
    let count : length ids ≡ n = length-deques_in c.args.owns.items ∙ sym c.args.owns.ok.0 in
    let len = c.len-number.ensures in
    let before : number + 1 ≡ k = let a = c.in-Some.ensures.cases in omega arith in
    let at = c.in-Some.ensures.value c.in-Some.own i.some_left in
    let here : c.in-Some.own ≡ get_or c.loop-own.owns.items (k - 1) c.in-Some.own = cc in
    new_view _ _ c.in-Some.own (popped n k number ids c.loop-own.owns.items c.in-Some.own count i.no_more before i.owns here)

pub new-requires-in-Some-clause-row : goal.new-requires-in-Some-clause-row
new-requires-in-Some-clause-row g c =
    let ids = deques_in c.args.owns.items in
    let row = (All-pop (IsRow ids) c.loop-own.rows.items c.pop-in-Some.new.self.items (Some c.in-Some-pop.row) c.in-Some-pop.ensures.items
    c.loop-own.invariant.rows).1 in
    ap stolen row ∙ stolen-new_row ids

pub loop-own-preserved : goal.loop-own-preserved
loop-own-preserved g c =
    let n = vec_len c.args.owns in
    let k = vec_len c.loop-own.owns in
    let m = vec_len c.pop.new.self in
    let number = c.len-number.result in
    let ids = deques_in c.args.owns.items in
    let i = c.loop-own.invariant in
    let len = c.len-number.ensures in
    let before : number + 1 ≡ k = let a = c.in-Some.ensures.cases in omega arith in
    let not_first = c.if-number-eq0.false in
    let OfPool : LaneState g.row.T.Denot → Type 0 = λ s. s.pool ≡ record { deques = ids; queue = c.args.rest.queue } in
    let rows = All-pop (IsRow ids) c.loop-own.rows.items c.pop-in-Some.new.self.items (Some c.in-Some-pop.row) c.in-Some-pop.ensures.items i.rows in
    let door = c.in_ok-door.ensures in
    let of_pool : OfPool c.new-in-Some.result =
    c.new-in-Some.ensures.pool ∙ cc (ap deques_of rows.1 ∙ deques_of-new_row ids, i.queue, door.another.0) in
    let inserted = c.in_ok-insert-2.ensures.items in
    let lt : number < n = let a = i.no_more in omega arith in
    record {
      some_left = omega arith;
      no_more = let a = i.no_more in omega arith;
      made = let a = c.in_ok-insert-2.ensures.len in let b = i.made in omega arith;
      owns = owners_left n k m ids c.loop-own.owns.items c.pop.new.self.items i.owns c.in-Some.ensures.rest (omega arith);
      rows = rows.0;
      as_many = let a = c.in-Some-pop.ensures.cases in let b = i.as_many in omega arith;
      rest = one_part_less n k m c.loop-own.rest.view c.another.new.self.view i.no_more (omega arith) door.view i.rest;
      queue = door.queue ∙ i.queue;
      numbers = ap numbers_of inserted ∙ cc c.new-in-Some.ensures.number ∙ numbers_more number k n m _ before lt len i.numbers;
      of_pool = subst (All OfPool) (sym inserted) (All-cons OfPool c.new-in-Some.result c.loop-own.lanes.items of_pool i.of_pool);
      new = subst (All (IsNew {T = g.row.T.Denot})) (sym inserted) (All-cons IsNew c.new-in-Some.result c.loop-own.lanes.items c.new-in-Some.ensures.new i.new);
    }
