-- The parts of a lane and of what the lanes left behind. No public clause cites this module.
use Rattle.std.specs.Prelude.{◌≡◌, ℕ, zero, suc, ◌+◌, ◌-◌, ◌<◌, ◌≤◌}
use Rattle.std.specs.Prelude.{List, [], ◌∷◌, ◌++◌, length, map, slice_get, Some}
use Rattle.std.specs.List.{flat_map, sum_by}
use Rattle.cqp_pool.specs.declared.tally.Tally.{Tally}
use Rattle.cqp_pool.specs.Often.{AddUp}
use Rattle.cqp_pool.specs.Tallies.{tally, new_tally, Covers}
use Rattle.cqp_pool.specs.Pools.{DequeId, QueueId}

-- a deque, and what its owner knows
pub record Owned : Type 0 where
  pub deque : DequeId
  pub view : Tally

-- a deque, and what one pass took from it from outside
pub record Reached : Type 0 where
  pub deque : DequeId
  pub taken : List ℕ

-- the shared queue, and what one pass knows
pub record Entered : Type 0 where
  pub queue : QueueId
  pub view : Tally

-- what a lane keeps by itself, and the numbers that went in and out
pub record Log (T : Type 0) : Type 0 where
  pub items : List T
  pub pushed : List ℕ
  pub taken : List ℕ

-- what went in is what went out and what is there, as often
abbrev pub AddsUp : {T : Type 0} → (T → ℕ) → Log T → Type 0
AddsUp number k = AddUp k.pushed k.taken (map number k.items)

-- an owner that knows of nothing pushed or taken
abbrev pub new_own : ℕ → DequeId → Owned
new_own parts id = record { deque = id; view = new_tally parts }

-- such an owner of each deque
abbrev pub new_owns : ℕ → List DequeId → List Owned
new_owns parts ids = map (λ (id : DequeId). new_own parts id) ids

-- the owner after one part was cut off
abbrev pub lend : Owned → Owned
lend o = record { deque = o.deque; view = tally (o.view.parts - 1) o.view.pushed o.view.taken }

-- the owner after one way in was taken in
abbrev pub takes_in : Owned → Reached → Owned
takes_in o r =
    record {
      deque = o.deque;
      view = tally (o.view.parts + 1) o.view.pushed (o.view.taken ++ r.taken);
    }

-- each owner after its way in was taken in
abbrev pub zip_in : List Owned → List Reached → List Owned
zip_in [] rs = []
zip_in (o ∷ os) [] = o ∷ os
zip_in (o ∷ os) (r ∷ rs) = takes_in o r ∷ zip_in os rs

-- which deques these are
abbrev pub deques_in : List Owned → List DequeId
deques_in os = map (λ (o : Owned). o.deque) os

-- which deques a row leads to
abbrev pub deques_of : List Reached → List DequeId
deques_of rs = map (λ (r : Reached). r.deque) rs

-- what the pass of each reach knows
abbrev pub passes_of : List Reached → List Tally
passes_of rs = map (λ (r : Reached). tally 1 [] r.taken) rs

-- what one lane took from all deques from outside
abbrev pub stolen : List Reached → List ℕ
stolen rs = flat_map (λ (r : Reached). r.taken) rs

-- a way into a deque by which nothing was taken
abbrev pub new_reach : DequeId → Reached
new_reach id = record { deque = id; taken = [] }

-- such a way into each deque
abbrev pub new_row : List DequeId → List Reached
new_row ids = map new_reach ids

-- the parts that a lane has of the shared queue: the first lane has what is over
abbrev pub queue_parts : ℕ → ℕ → ℕ
queue_parts zero count = 1025 - count
queue_parts (suc number) count = 1

-- a lane's parts belong together
pub record IsLane (number : ℕ) (own : Owned) (row : List Reached) (door : Entered) : Type 0 where
  pub own_deque : slice_get (deques_of row) number ≡ Some own.deque
  pub own_parts : own.view.parts + length row ≡ 1024
  pub own_some : 0 < own.view.parts
  pub door_parts : door.view.parts ≡ queue_parts number (length row)
  pub door_some : 0 < door.view.parts

module _ {T : Type 0} (own door : Tally) (kept : Log T) where
  -- what a lane's calls added
  abbrev pub pushed_of : List ℕ
  pushed_of = (own.pushed ++ door.pushed) ++ kept.pushed

  -- what a lane's calls gave
  abbrev pub taken_of : List Reached → List ℕ
  taken_of row = ((own.taken ++ door.taken) ++ kept.taken) ++ stolen row

-- every part of a deque is with its owner, and no number was taken more often than pushed
abbrev pub IsSettled : Owned → Type 0
IsSettled o = (o.view.parts ≡ 1024) × Covers o.view

-- the numbers that the owners pushed
abbrev pub pushed_in : List Owned → List ℕ
pushed_in os = flat_map (λ (o : Owned). o.view.pushed) os

-- the numbers that the owners took
abbrev pub taken_in : List Owned → List ℕ
taken_in os = flat_map (λ (o : Owned). o.view.taken) os

module _ {T : Type 0} where
  -- the numbers that went into what is kept
  abbrev pub pushed_kept : List (Log T) → List ℕ
  pushed_kept ks = flat_map (λ (k : Log T). k.pushed) ks

  -- the numbers that went out of it
  abbrev pub taken_kept : List (Log T) → List ℕ
  taken_kept ks = flat_map (λ (k : Log T). k.taken) ks

-- one number more was taken, and no number more often than pushed
pub record Gives (n : ℕ) (pushed taken pushed' taken' : List ℕ) : Type 0 where
  pub same : pushed' ≡ pushed
  pub more : (weight : ℕ → ℕ) → sum_by weight taken' ≡ sum_by weight taken + weight n
  pub within : (weight : ℕ → ℕ) → sum_by weight taken' ≤ sum_by weight pushed
