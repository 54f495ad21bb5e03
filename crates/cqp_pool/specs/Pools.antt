-- What contracts see of lanes, of a pool and of what its lanes left behind.
use Rattle.std.specs.Prelude.{◌≡◌, ℕ, ◌⊎◌, List, [], ◌∷◌, ◌++◌, length, map, All}
use Rattle.std.specs.List.{flat_map, range_with_len}
use Rattle.std.specs.declared.alloc.Global.{Global}
use Rattle.cqp_pool.specs.declared.tally.Tally.{Tally}
use Rattle.cqp_pool.specs.Often.{AsOften}

-- which deque it is
abbrev pub DequeId : Type 0
DequeId = (ℕ × ℕ) × Global

-- which shared queue it is
abbrev pub QueueId : Type 0
QueueId = (ℕ × ℕ) × Global

-- which pool it is: the deque of each lane, by the lanes' numbers, and the shared queue
pub record PoolId : Type 0 where
  pub deques : List DequeId
  pub queue : QueueId

-- a lane: the numbers that its calls added and gave, what it keeps, and what its passes know,
-- of its own deque, of the shared queue and of each deque from outside
pub record LaneState (T : Type 0) : Type 0 where
  pub pool : PoolId
  pub number : ℕ
  pub pushed : List ℕ
  pub taken : List ℕ
  pub kept : List T
  pub passes : List Tally

-- what the lanes of a pool left behind: the numbers that were pushed, and those taken up to now
pub record GatheredState : Type 0 where
  pub pushed : List ℕ
  pub taken : List ℕ

module _ {T : Type 0} where
  -- the same place in the same pool
  abbrev pub SamePlace : LaneState T → LaneState T → Type 0
  SamePlace old new = (new.pool ≡ old.pool) × (new.number ≡ old.number)

  -- nothing was pushed, taken or kept
  abbrev pub IsNew : LaneState T → Type 0
  IsNew l = (l.pushed ≡ []) × (l.taken ≡ []) × (l.kept ≡ [])

  -- the item may have been kept, and nothing else was
  abbrev pub MayKeep : T → List T → List T → Type 0
  MayKeep x old new = (new ≡ old) ⊎ (new ≡ old ++ x ∷ [])

  -- the item may be one that was kept, and no other such item is gone
  abbrev pub MayGive : T → List T → List T → Type 0
  MayGive x old new = (new ≡ old) ⊎ (old ≡ new ++ x ∷ [])

  -- the lanes' numbers in their pool
  abbrev pub numbers_of : List (LaneState T) → List ℕ
  numbers_of lanes = map (λ (l : LaneState T). l.number) lanes

  -- the numbers that the lanes' calls added
  abbrev pub pushed_by : List (LaneState T) → List ℕ
  pushed_by lanes = flat_map (λ (l : LaneState T). l.pushed) lanes

  -- the numbers that the lanes' calls gave
  abbrev pub taken_by : List (LaneState T) → List ℕ
  taken_by lanes = flat_map (λ (l : LaneState T). l.taken) lanes

  -- each lane of one pool, once, in any order
  pub record IsWhole (lanes : List (LaneState T)) : Type 0 where
    pub pool : PoolId
    pub of_pool : All (λ (l : LaneState T). l.pool ≡ pool) lanes
    pub numbers : AsOften (numbers_of lanes) (range_with_len 0 (length pool.deques))
