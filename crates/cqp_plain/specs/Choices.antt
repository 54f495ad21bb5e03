-- The picks of the choosers of the command line.
use Rattle.std.specs.Prelude.{◌≡◌, ℕ, List}
use Rattle.cqp_choose.specs.Picks.{IsBornIndex, script_index, seed_index}
use Rattle.cqp_choose.specs.Word.{turn_word}
use Rattle.cqp_paths.specs.Follows.{Pick}
use Rattle.cqp_words.specs.declared.choice.Choice.{Choice}
use Rattle.cqp_words.specs.declared.choice.Choice.TheVariants as by

-- the script's number at the turn
abbrev pub script_picks : List ℕ → Pick
script_picks numbers turn odds index = index ≡ script_index numbers turn odds

-- the seed's word of the turn
abbrev pub seed_picks : ℕ → Pick
seed_picks seed turn odds index = index ≡ seed_index seed turn odds

-- the outcome on which the seed's word of the turn falls by Born's rule
abbrev pub born_picks : ℕ → Pick
born_picks seed turn odds index = IsBornIndex (turn_word seed turn) odds index

-- what is picked
abbrev pub pick_of : Choice → Pick
pick_of (by.Script numbers) = script_picks numbers.items
pick_of (by.Seed seed) = seed_picks seed
pick_of (by.Born seed) = born_picks seed
