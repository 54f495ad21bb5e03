-- What `clap` found of items.
use Rattle.std.specs.Prelude.{◌≡◌, List, [], codes, unwrap_or}
use Rattle.clap.specs.Walk.{Row, rows_of, all_of}
use Rattle.clap.specs.Matches.{found_of}
use Rattle.clap.specs.declared.parser.matches.ArgMatches.{ArgMatches}
use Rattle.cqp_words.specs.Items.{Flag, Text, Item, flag_id, words_of, values_of}

-- the values of an argument
abbrev pub values_at : Text → List Row → List Text
values_at id rows = unwrap_or (all_of id rows) []

-- the values that were found are those of the items
pub record Gives (m : ArgMatches) (is : List Item) : Type 0 where
  pub words : values_at (codes "word") (rows_of (found_of m)) ≡ words_of is
  pub options : (f : Flag) → values_at (flag_id f) (rows_of (found_of m)) ≡ values_of f is
