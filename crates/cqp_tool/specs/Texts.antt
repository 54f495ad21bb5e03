-- What a text stands for, and which texts are accepted.
use Rattle.std.specs.Prelude.{ℕ, ◌≤◌, List, length}
use Rattle.cqp_syntax.specs.Listing.{Listing}
use Rattle.cqp_grammar.specs.Trees.{ProgramTree}
use Rattle.cqp_grammar.specs.Prefixes as grammar
use Rattle.cqp_expand.specs.Outcomes.{IsExpanded}
use Rattle.cqp_types.specs.Checked.{IsChecked}

-- the text is within its limit and stands for the program
pub record IsProgramText (text : List ℕ) (t : ProgramTree) : Type 0 where
  pub short : length text ≤ 65536
  pub read : grammar.StandsFor text t

-- the text stands for the process of these lists: its program has no fault of scope, and expands to
-- them
pub record StandsFor (text : List ℕ) (l : Listing) : Type 0 where
  pub program : ProgramTree
  pub is_text : IsProgramText text program
  pub expanded : IsExpanded program l

-- the text is accepted: its process is derivable, and needs at most 12 qubits
pub record IsAccepted (text : List ℕ) (l : Listing) : Type 0 where
  pub stands : StandsFor text l
  pub checked : IsChecked l
