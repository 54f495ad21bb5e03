-- A draft to which nothing is missing. No public clause cites this module.
use Rattle.std.specs.Prelude.{◌≡◌, ◌<◌, ◌^◌, List, [], ◌∷◌, length}
use Rattle.cqp_grammar.specs.Trees.{DefinitionTree, ProgramTree}
use Rattle.cqp_grammar.specs.CanonicalTrees.{IsPrintable}
use Rattle.cqp_program.specs.Postorder.{postorder}
use Rattle.cqp_reading.specs.DraftLists.{DraftLists}
use Rattle.cqp_reading.specs.Drafts.{whole}

-- each body has fewer than 2^31 nodes
abbrev pub AreFew : List DefinitionTree → Type 0
AreFew [] = Unit {0}
AreFew (d ∷ ds) = (length (postorder d.body) < 2 ^ 31) × AreFew ds

-- the draft is that of the tree, whose names can be written and whose nodes can be numbered
pub record IsDraftOfProgram (draft : DraftLists) (t : ProgramTree) : Type 0 where
  pub is : draft ≡ whole t
  pub printable : IsPrintable t
  pub few : length (postorder t.main) < 2 ^ 31
  pub bodies : AreFew t.defs
