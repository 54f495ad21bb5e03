-- The word of a turn.
use Rattle.std.specs.Prelude.{ℕ}
use Rattle.rand_core.specs.Pcg32Seed.{pcg32_seed}
use Rattle.rand_pcg.specs.Lcg.{Lcg, advance}
use Rattle.rand_pcg.specs.Pcg.{multiplier_64, pcg32, pcg32_of_seed}

-- the generator of a seed
abbrev pub generator_of : ℕ → Lcg
generator_of seed = pcg32_of_seed (pcg32_seed 16 seed)

-- the next word after as many steps as the turn
abbrev pub turn_word : ℕ → ℕ → ℕ
turn_word seed turn = (pcg32 (advance 64 multiplier_64 turn (generator_of seed))).0
