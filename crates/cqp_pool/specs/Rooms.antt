-- Lists that were reserved for what the lanes leave behind. No public clause cites this module.
use Rattle.std.specs.Prelude.{◌≡◌, ℕ, ◌+◌, ◌≤◌, [], vec_len, vec_capacity}
use Rattle.cqp_pool.specs.declared.gather.PoolParts.{PoolParts}

module _ {T : Type 0} where
  -- each list has room for this many more
  pub record HasRoom (p : PoolParts T) (more : ℕ) : Type 0 where
    pub owns : vec_len p.owns + more ≤ vec_capacity p.owns
    pub rows : vec_len p.rows + more ≤ vec_capacity p.rows
    pub kepts : vec_len p.kepts + more ≤ vec_capacity p.kepts

  -- nothing was left behind yet, and there is room for what this many lanes leave
  pub record IsRoom (p : PoolParts T) (count : ℕ) : Type 0 where
    pub owns : p.owns.items ≡ []
    pub rows : p.rows.items ≡ []
    pub kepts : p.kepts.items ≡ []
    pub room : HasRoom p count
