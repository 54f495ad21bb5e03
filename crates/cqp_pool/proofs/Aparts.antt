-- Lanes are taken apart one after another.
use Rattle.std.proofs.Common.{◌≡◌, ◌≢◌, ℕ, suc, ◌+◌, ◌<◌, List, [], ◌∷◌, ◌++◌}
use Rattle.std.proofs.Common.{Vec, Global, map, length, take, drop, get_or, slice_get, refl, sym}
use Rattle.std.proofs.Common.{ap, ◌∙◌, arith}
use Rattle.std.specs.List.{sum_by}
use Rattle.std.proofs.lemmas.List.Sums.{sum_by-append}
use Rattle.std.proofs.lemmas.List.{take_more, map-append, length_push, length-take-le}
use Rattle.std.proofs.lemmas.List.Elements.{All-push, All-nil, All-cons}
use Rattle.std.proofs.lemmas.Option.{get_or_from_slice_get}
use Rattle.cqp_pool.specs.declared.tally.Tally.{Tally}
use Rattle.cqp_pool.specs.Often.{AddUp}
use Rattle.cqp_pool.specs.Tallies.{tally}
use Rattle.cqp_pool.specs.Pools.{PoolId, LaneState}
use Rattle.cqp_pool.specs.Parts.{Owned, Reached, Entered, Log, deques_of}
use Rattle.cqp_pool.specs.Parts.{stolen, queue_parts}
use Rattle.cqp_pool.specs.Apart.{AreParts, IsApart, IsInOrder, Rows}
use Rattle.cqp_pool.proofs.Changes.{sum_by-pushed_of, sum_by-taken_of}
use Rattle.cqp_pool.proofs.Gives.{sum_by-flat_map-push}
use Rattle.cqp_pool.proofs.Seats.{queue_parts-after}
use Rattle.cqp_pool.proofs.Zips.{length-deques_of}

module _ {T : Type 0} (number : T → ℕ) (pool : PoolId) (l : LaneState T) (own : Owned) (row : Vec Reached Global) (other : Entered) (kept : Log T)
    (parts : AreParts number l own row.items other kept) (of_pool : l.pool ≡ pool) where
  -- the lane's ways in lead to the pool's deques, in order
  leads : deques_of row.items ≡ pool.deques
  leads = sym (ap (λ (p : PoolId). p.deques) parts.pool) ∙ ap (λ (p : PoolId). p.deques) of_pool

  -- the lane's entry is to the pool's queue
  pub same_queue : other.queue ≡ pool.queue
  same_queue = sym (ap (λ (p : PoolId). p.queue) parts.pool) ∙ ap (λ (p : PoolId). p.queue) of_pool

  -- the lane has a way into each deque
  row_length : length row.items ≡ length pool.deques
  row_length = sym (length-deques_of row.items) ∙ ap length leads

  -- the owner lacks one part for each lane, and has some
  own_parts : (own.view.parts + length pool.deques ≡ 1024) × (0 < own.view.parts)
  own_parts = ((let a = parts.place.own_parts in let b = row_length in omega arith), parts.place.own_some)

  -- the owner's deque stands in the pool at the lane's number
  own_deque : (n : ℕ) → l.number ≡ n → get_or pool.deques n own.deque ≡ own.deque
  own_deque n at = get_or_from_slice_get pool.deques n own.deque own.deque (ap (λ m. slice_get pool.deques m) (sym at)
      ∙ ap (λ ds. slice_get ds l.number) (sym leads) ∙ parts.place.own_deque)

  -- what was pushed by a lane was pushed by its parts
  pushed_weight : (weight : ℕ → ℕ) → sum_by weight l.pushed ≡ (sum_by weight own.view.pushed + sum_by weight other.view.pushed) + sum_by weight kept.pushed
  pushed_weight weight = sym (ap (sum_by weight) parts.pushed) ∙ sum_by-pushed_of weight own.view other.view kept

  -- what was taken by a lane was taken by its parts
  taken_weight : (weight : ℕ → ℕ)
      → sum_by weight l.taken ≡ ((sum_by weight own.view.taken + sum_by weight other.view.taken) + sum_by weight kept.taken) + sum_by weight (stolen row.items)
  taken_weight weight = sym (ap (sum_by weight) parts.taken) ∙ sum_by-taken_of weight own.view other.view kept row.items

  -- the first lane
  pub apart_first : l.number ≡ 0 → 0 < length pool.deques → IsApart number pool (l ∷ []) (own ∷ []) (row ∷ []) (kept ∷ []) other
  apart_first first some = record {
    deques = sym (take_more pool.deques 0 own.deque some ∙ ap (λ d. d ∷ []) (own_deque 0 first));
    own_parts = All-cons (λ (o : Owned). (o.view.parts + length pool.deques ≡ 1024) × (0 < o.view.parts)) own [] own_parts (All-nil _);
    rows_lead = All-cons (λ (r : Vec Reached Global). deques_of r.items ≡ pool.deques) row [] leads (All-nil _);
    rows_count = refl;
    logs = All-cons (λ (k : Log T). AddUp k.pushed k.taken (map number k.items)) kept [] parts.log (All-nil _);
    queue = same_queue;
    door_parts =
        let a = parts.place.door_parts ∙ ap (λ m. queue_parts m (length row.items)) first in
        let b = row_length in
        let c = parts.place.own_parts in
        omega arith;
    pushed = λ weight.
        let w = pushed_weight weight in
        let o = sum_by-append weight own.view.pushed [] in
        let k = sum_by-append weight kept.pushed [] in
        let s = sum_by-append weight l.pushed [] in
        omega arith;
    taken = λ weight.
        let w = taken_weight weight in
        let o = sum_by-append weight own.view.taken [] in
        let k = sum_by-append weight kept.taken [] in
        let r = sum_by-append weight (stolen row.items) [] in
        let s = sum_by-append weight l.taken [] in
        omega arith;
  }

  -- one lane more
  pub apart_more : (ls : List (LaneState T)) (owns : List Owned) (rows : Rows) (kepts : List (Log T)) (door door' : Entered)
      → IsApart number pool ls owns rows kepts door → l.number ≡ length ls → 0 < length ls → length ls < length pool.deques
      → door'.queue ≡ door.queue → door'.view ≡ tally (door.view.parts + other.view.parts) (door.view.pushed ++ other.view.pushed)
      (door.view.taken ++ other.view.taken)
      → IsApart number pool (ls ++ l ∷ []) (owns ++ own ∷ []) (rows ++ row ∷ []) (kepts ++ kept ∷ []) door'
  apart_more ls owns rows kepts door door' before at later in_range queue view = record {
    deques = map-append (λ (o : Owned). o.deque) owns (own ∷ []) ∙ ap (λ ds. ds ++ own.deque ∷ []) before.deques
        ∙ ap (λ d. take (length ls) pool.deques ++ d ∷ []) (sym (own_deque (length ls) at)) ∙ sym (take_more pool.deques (length ls) own.deque in_range)
        ∙ ap (λ n. take n pool.deques) (sym (length_push ls l));
    own_parts = All-push (λ (o : Owned). (o.view.parts + length pool.deques ≡ 1024) × (0 < o.view.parts)) owns own before.own_parts own_parts;
    rows_lead = All-push (λ (r : Vec Reached Global). deques_of r.items ≡ pool.deques) rows row before.rows_lead leads;
    rows_count = length_push rows row ∙ ap (λ n. n + 1) before.rows_count ∙ sym (length_push ls l);
    logs = All-push (λ (k : Log T). AddUp k.pushed k.taken (map number k.items)) kepts kept before.logs parts.log;
    queue = queue ∙ before.queue;
    door_parts =
        let after : l.number ≢ 0 = omega arith in
        let a = parts.place.door_parts ∙ queue_parts-after l.number (length row.items) after in
        let b = before.door_parts in
        let v = ap (λ (t : Tally). t.parts) view in
        omega (arith, length_push ls l);
    pushed = λ weight.
        let w = pushed_weight weight in
        let v = ap (λ (t : Tally). sum_by weight t.pushed) view in
        let b = before.pushed weight in
        let d = sum_by-append weight door.view.pushed other.view.pushed in
        let o = sum_by-flat_map-push (λ (o : Owned). o.view.pushed) weight owns own in
        let k = sum_by-flat_map-push (λ (k : Log T). k.pushed) weight kepts kept in
        let s = sum_by-flat_map-push (λ (l : LaneState T). l.pushed) weight ls l in
        omega arith;
    taken = λ weight.
        let w = taken_weight weight in
        let v = ap (λ (t : Tally). sum_by weight t.taken) view in
        let b = before.taken weight in
        let d = sum_by-append weight door.view.taken other.view.taken in
        let o = sum_by-flat_map-push (λ (o : Owned). o.view.taken) weight owns own in
        let k = sum_by-flat_map-push (λ (k : Log T). k.taken) weight kepts kept in
        let r = sum_by-flat_map-push (λ (r : Vec Reached Global). stolen r.items) weight rows row in
        let s = sum_by-flat_map-push (λ (l : LaneState T). l.taken) weight ls l in
        omega arith;
  }

  -- there is a part of the shared queue to take others in by
  pub door_some : (ls : List (LaneState T)) (owns : List Owned) (rows : Rows) (kepts : List (Log T)) (door : Entered)
      → IsApart number pool ls owns rows kepts door
      → 0 < length ls → 0 < door.view.parts
  door_some ls owns rows kepts door before some = let a = before.door_parts in let b = own_parts.0 in let c = own_parts.1 in omega arith

module _ {T : Type 0} (number : T → ℕ) (pool : PoolId) where
  -- the same lists by other names
  pub apart_same : (ls ls' : List (LaneState T)) (owns owns' : List Owned) (rows rows' : Rows) (kepts kepts' : List (Log T)) (door : Entered)
      → ls' ≡ ls → owns' ≡ owns → rows' ≡ rows → kepts' ≡ kepts → IsApart number pool ls owns rows kepts door → IsApart number pool ls' owns' rows' kepts' door
  apart_same ls ls' owns owns' rows rows' kepts kepts' door a b c d apart = rw (a, b, c, d) apart

module _ {T : Type 0} (number : T → ℕ) (pool : PoolId) (l : LaneState T) (own : Owned) (row : Vec Reached Global) (other : Entered) (kept : Log T)
    (parts : AreParts number l own row.items other kept) (of_pool : l.pool ≡ pool) where
  -- once the first k lanes are taken apart, and then the one at k, the first m are, where m is one more
  pub apart_next : (lanes : List (LaneState T)) (k m : ℕ) (owns owns' : List Owned) (rows rows' : Rows) (kepts kepts' : List (Log T))
      (door door' given : Entered) → m ≡ k + 1 → 0 < k → IsInOrder pool lanes → IsApart number pool (take k lanes) owns rows kepts door
      → (k < length lanes) × (l ≡ get_or lanes k l) → owns' ≡ owns ++ own ∷ [] → rows' ≡ rows ++ row ∷ [] → kepts' ≡ kepts ++ kept ∷ []
      → given ≡ other → door'.queue ≡ door.queue
      → door'.view ≡ tally (door.view.parts + given.view.parts) (door.view.pushed ++ given.view.pushed) (door.view.taken ++ given.view.taken)
      → IsApart number pool (take m lanes) owns' rows' kepts' door'
  apart_next lanes k m owns owns' rows rows' kepts kepts' door door' given next some order before at more_owns more_rows more_kepts same queue view =
      let lt = at.0 in
      let len : length (take k lanes) ≡ k = length-take-le k lanes (omega arith) in
      let here = ap (λ (x : LaneState T). x.number) at.1 ∙ order.numbers k l lt ∙ sym len in
      let in_pool : length (take k lanes) < length pool.deques = let c = order.count in omega arith in
      let was = door.view in
      let view' = view ∙ ap (λ (d : Entered). tally (was.parts + d.view.parts) (was.pushed ++ d.view.pushed) (was.taken ++ d.view.taken)) same in
      let whole = apart_more number pool l own row other kept parts of_pool (take k lanes) owns rows kepts door door' before here (omega arith) in_pool
      queue view' in
      apart_same number pool (take k lanes ++ l ∷ []) (take m lanes) (owns ++ own ∷ []) owns' (rows ++ row ∷ []) rows' (kepts ++ kept ∷ []) kepts' door'
      (ap (λ n. take n lanes) next ∙ take_more lanes k l lt ∙ ap (λ x. take k lanes ++ x ∷ []) (sym at.1)) more_owns more_rows more_kepts whole

-- where the next lane stands, once the first was taken out
pub next_lane : {X : Type 0} (lanes rest : List X) (n : ℕ) (x : X) → rest ≡ drop 1 lanes → n < length rest → x ≡ get_or rest n x
    → (n + 1 < length lanes) × (x ≡ get_or lanes (n + 1) x)
next_lane [] rest n x is in_range here = absurd (let e = ap length is in omega arith)
next_lane (y ∷ ys) rest n x is in_range here =
    let e = ap length is in
    let next : n + 1 ≡ suc n = omega arith in
    (omega arith, here ∙ ap (λ l. get_or l n x) is ∙ sym (ap (λ m. get_or (y ∷ ys) m x) next))

-- how many lanes there were
pub one_taken : {X : Type 0} (lanes rest : List X) → rest ≡ drop 1 lanes → 0 < length lanes → length rest + 1 ≡ length lanes
one_taken [] rest is some = absurd (omega arith)
one_taken (y ∷ ys) rest is some = let e = ap length is in omega arith
