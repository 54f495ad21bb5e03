-- Lanes that are taken apart, in the order of their numbers. No public clause cites this module.
use Rattle.std.specs.Prelude.{◌≡◌, ℕ, ◌+◌, ◌<◌, List, [], ◌∷◌, length, take, All, Vec}
use Rattle.std.specs.Prelude.{slice_index_or as get_or}
use Rattle.std.specs.List.{flat_map, sum_by}
use Rattle.std.specs.declared.alloc.Global.{Global}
use Rattle.cqp_pool.specs.Pools.{PoolId, LaneState, pushed_by, taken_by}
use Rattle.cqp_pool.specs.Parts.{Owned, Reached, Entered, Log, AddsUp, IsLane, pushed_of, taken_of}
use Rattle.cqp_pool.specs.Parts.{zip_in, deques_in, deques_of, stolen}
use Rattle.cqp_pool.specs.Parts.{pushed_in, taken_in, pushed_kept, taken_kept}

module _ {T : Type 0} where
  -- all lanes of the pool, each at the place of its number
  pub record IsInOrder (pool : PoolId) (lanes : List (LaneState T)) : Type 0 where
    pub of_pool : All (λ (l : LaneState T). l.pool ≡ pool) lanes
    pub count : length lanes ≡ length pool.deques
    pub numbers : (k : ℕ) (d : LaneState T) → k < length lanes → (get_or lanes k d).number ≡ k

-- these are the parts of the lane
module _ {T : Type 0} (number : T → ℕ) (l : LaneState T) where
  pub record AreParts
      (own : Owned) (row : List Reached) (door : Entered) (kept : Log T) : Type 0 where
    pub place : IsLane l.number own row door
    pub pool : l.pool ≡ record { deques = deques_of row; queue = door.queue }
    pub pushed : pushed_of own.view door.view kept ≡ l.pushed
    pub taken : taken_of own.view door.view kept row ≡ l.taken
    pub log : AddsUp number kept

-- an owner with some of the parts, and these many are elsewhere
abbrev pub HasAllBut : ℕ → Owned → Type 0
HasAllBut elsewhere o = (o.view.parts + elsewhere ≡ 1024) × (0 < o.view.parts)

-- the rows of several lanes
abbrev pub Rows : Type 0
Rows = List (Vec Reached Global)

-- what several lanes took from all deques from outside
abbrev pub stolen_in : Rows → List ℕ
stolen_in rows = flat_map (λ (r : Vec Reached Global). stolen r.items) rows

-- each owner after the ways in of all rows were taken in
abbrev pub all_in : List Owned → Rows → List Owned
all_in os [] = os
all_in os (r ∷ rs) = all_in (zip_in os r.items) rs

module _ {T : Type 0} (number : T → ℕ) (pool : PoolId) (lanes : List (LaneState T)) where
  -- these first lanes of the pool were taken apart into these parts
  pub record IsApart
      (owns : List Owned) (rows : Rows) (kepts : List (Log T)) (door : Entered) : Type 0 where
    pub deques : deques_in owns ≡ take (length lanes) pool.deques
    pub own_parts : All (HasAllBut (length pool.deques)) owns
    pub rows_lead : All (λ (r : Vec Reached Global). deques_of r.items ≡ pool.deques) rows
    pub rows_count : length rows ≡ length lanes
    pub logs : All (AddsUp number) kepts
    pub queue : door.queue ≡ pool.queue
    pub door_parts : door.view.parts + length pool.deques ≡ 1024 + length lanes
    pub pushed : (weight : ℕ → ℕ)
        → (sum_by weight door.view.pushed + sum_by weight (pushed_in owns))
        + sum_by weight (pushed_kept kepts)
        ≡ sum_by weight (pushed_by lanes)
    pub taken : (weight : ℕ → ℕ)
        → (sum_by weight door.view.taken + sum_by weight (taken_in owns))
        + (sum_by weight (taken_kept kepts) + sum_by weight (stolen_in rows))
        ≡ sum_by weight (taken_by lanes)
