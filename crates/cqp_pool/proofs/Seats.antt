-- A new pool's lanes, made from the last to the first.
use Rattle.std.proofs.Common.{◌≡◌, ◌≢◌, ℕ, zero, suc, ◌+◌, ◌-◌, ◌<◌, ◌≤◌, List, []}
use Rattle.std.proofs.Common.{◌∷◌, All, Some, length, take, get_or, slice_get, sym, refl, ap, ◌∙◌}
use Rattle.std.proofs.Common.{arith}
use Rattle.std.specs.List.{range_with_len, sum_by}
use Rattle.std.proofs.lemmas.Option.{slice_get-get_or}
use Rattle.cqp_pool.specs.declared.tally.Tally.{Tally}
use Rattle.cqp_pool.specs.Tallies.{tally, new_tally}
use Rattle.cqp_pool.specs.Pools.{DequeId, PoolId, LaneState, IsWhole, numbers_of}
use Rattle.cqp_pool.specs.Parts.{Owned, Reached, Entered, IsLane, new_own, new_owns, new_row}
use Rattle.cqp_pool.specs.Parts.{deques_of, stolen, queue_parts}

-- a new row leads to the deques for which it was made
pub deques_of-new_row : (ids : List DequeId) → deques_of (new_row ids) ≡ ids
deques_of-new_row [] = refl
deques_of-new_row (x ∷ xs) = ap (λ l. x ∷ l) (deques_of-new_row xs)

-- a new row has one way for each deque
pub length-new_row : (ids : List DequeId) → length (new_row ids) ≡ length ids
length-new_row [] = refl
length-new_row (x ∷ xs) = ap suc (length-new_row xs)

-- nothing was stolen by a new row
pub stolen-new_row : (ids : List DequeId) → stolen (new_row ids) ≡ []
stolen-new_row [] = refl
stolen-new_row (x ∷ xs) = stolen-new_row xs

-- the first of new owners are the new owners of the first deques
pub take-new_owns : (j k parts : ℕ) (ids : List DequeId) → j ≤ k → take j (new_owns parts (take k ids)) ≡ new_owns parts (take j ids)
take-new_owns zero k parts ids le = refl
take-new_owns (suc j) zero parts ids le = absurd (omega arith)
take-new_owns (suc j) (suc k) parts [] le = refl
take-new_owns (suc j) (suc k) parts (x ∷ xs) le = ap (λ l. new_own parts x ∷ l) (take-new_owns j k parts xs (omega arith))

-- the last of the first k owners
get_or-new_owns : (j k parts : ℕ) (ids : List DequeId) (d : Owned) → j < k → j < length ids
    → get_or (new_owns parts (take k ids)) j d ≡ new_own parts (get_or ids j d.deque)
get_or-new_owns j zero parts ids d lt in_range = absurd (omega arith)
get_or-new_owns j (suc k) parts [] d lt in_range = absurd (omega arith)
get_or-new_owns zero (suc k) parts (x ∷ xs) d lt in_range = refl
get_or-new_owns (suc j) (suc k) parts (x ∷ xs) d lt in_range = get_or-new_owns j k parts xs d (omega arith) (omega arith)

-- the owner that is popped
pub popped : (n k number : ℕ) (ids : List DequeId) (os : List Owned) (own : Owned) → length ids ≡ n → k ≤ n → number + 1 ≡ k
    → os ≡ new_owns (1024 - n) (take k ids)
    → own ≡ get_or os (k - 1) own → own ≡ new_own (1024 - n) (get_or ids number own.deque)
popped n k number ids os own count few before is here =
    let at : k - 1 ≡ number = omega arith in
    let lt : number < k = omega arith in
    let in_range : number < length ids = omega arith in
    here ∙ ap (λ l. get_or l (k - 1) own) is ∙ ap (λ m. get_or (new_owns (1024 - n) (take k ids)) m own) at
    ∙ get_or-new_owns number k (1024 - n) ids own lt in_range

-- the owners that are left once the last is popped
pub owners_left : (n k m : ℕ) (ids : List DequeId) (os os' : List Owned) → os ≡ new_owns (1024 - n) (take k ids) → os' ≡ take (k - 1) os → k - 1 ≡ m
    → os' ≡ new_owns (1024 - n) (take m ids)
owners_left n k m ids os os' is rest less =
    rest ∙ ap (λ l. take (k - 1) l) is ∙ take-new_owns (k - 1) k (1024 - n) ids (omega arith) ∙ ap (λ j. new_owns (1024 - n) (take j ids)) less

-- what is left of the first entry to the shared queue, once one part more went
pub one_part_less : (n k m : ℕ) (old new : Tally) → k ≤ n → m + 1 ≡ k → new ≡ tally (old.parts - 1) old.pushed old.taken
    → old ≡ new_tally (1024 - (n - k)) → new ≡ new_tally (1024 - (n - m))
one_part_less n k m old new few next less is =
    let parts : 1024 - (n - k) - 1 ≡ 1024 - (n - m) = omega arith in
    less ∙ ap (λ (t : Tally). tally (t.parts - 1) t.pushed t.taken) is ∙ ap new_tally parts

-- the view of a new owner
pub new_view : (parts : ℕ) (id : DequeId) (own : Owned) → own ≡ new_own parts id → own.view ≡ new_tally own.view.parts
new_view parts id own is = ap (λ (o : Owned). o.view) is ∙ ap new_tally (sym (ap (λ (o : Owned). o.view.parts) is))

-- the parts of a new lane belong together
pub seats : (n number : ℕ) (ids : List DequeId) (own : Owned) (row : List Reached) (door : Entered) → length ids ≡ n → number < n → n ≤ 16
    → own ≡ new_own (1024 - n) (get_or ids number own.deque) → row ≡ new_row ids → door.view.parts ≡ queue_parts number n → 0 < door.view.parts
    → IsLane number own row door
seats n number ids own row door count_is lt few own_is row_is door_parts door_some =
    let in_range : number < length ids = omega arith in
    let count : length row ≡ n = ap length row_is ∙ length-new_row ids ∙ count_is in
    let own_parts = ap (λ (o : Owned). o.view.parts) own_is in
    record {
      own_deque = ap (λ l. slice_get (deques_of l) number) row_is ∙ ap (λ l. slice_get l number) (deques_of-new_row ids)
          ∙ slice_get-get_or ids number own.deque in_range ∙ ap Some (sym (ap (λ (o : Owned). o.deque) own_is));
      own_parts = omega arith;
      own_some = omega arith;
      door_parts = door_parts ∙ ap (λ m. queue_parts number m) (sym count);
      door_some = door_some;
    }

-- every lane but the first has one part of the shared queue
pub queue_parts-after : (number n : ℕ) → number ≢ 0 → queue_parts number n ≡ 1
queue_parts-after zero n after = absurd (after refl)
queue_parts-after (suc number) n after = refl

-- a number before those that follow it gives the range from it on
pub range_one_more : (number n : ℕ) → number < n → number ∷ range_with_len (number + 1) (n - (number + 1)) ≡ range_with_len number (n - number)
range_one_more number n lt =
    let m = n - (number + 1) in
    let more : n - number ≡ suc m = omega arith in
    rw more refl

-- the numbers of the lanes that are made, with one lane more before them
pub numbers_more : (number k n m : ℕ) (ns : List ℕ) → number + 1 ≡ k → number < n → number ≡ m → ns ≡ range_with_len k (n - k)
    → number ∷ ns ≡ range_with_len m (n - m)
numbers_more number k n m ns before lt same is =
    ap (λ l. number ∷ l) is ∙ ap (λ j. number ∷ range_with_len j (n - j)) (sym before) ∙ range_one_more number n lt
    ∙ ap (λ j. range_with_len j (n - j)) same

-- the numbers of all lanes, once the first is there
pub all_numbers : (n : ℕ) → 0 < n → 0 ∷ range_with_len 1 (n - 1) ≡ range_with_len 0 n
all_numbers n some_left = let same : n - 0 ≡ n = omega arith in range_one_more 0 n some_left ∙ ap (range_with_len 0) same

-- a pool is whole where its lanes have the numbers from 0 on
pub whole_by_numbers : {T : Type 0} (lanes : List (LaneState T)) (pool : PoolId) (n : ℕ) → All (λ (l : LaneState T). l.pool ≡ pool) lanes
    → numbers_of lanes ≡ range_with_len 0 n → length pool.deques ≡ n → IsWhole lanes
whole_by_numbers lanes pool n of_pool numbers count =
    record { pool = pool; of_pool = of_pool; numbers = λ weight. ap (sum_by weight) (numbers ∙ ap (range_with_len 0) (sym count)) }
