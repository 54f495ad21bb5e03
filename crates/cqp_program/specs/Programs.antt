-- A program as lists, and the lists of a program's tree.
use Rattle.std.specs.Prelude.{◌≡◌, List, map}
use Rattle.cqp_program.specs.declared.program.Def.{Def}
use Rattle.cqp_program.specs.declared.tree.Tree.{Tree}
use Rattle.cqp_grammar.specs.Trees.{DefinitionTree, ProgramTree}
use Rattle.cqp_program.specs.Listing.{param, tree_lists}
use Rattle.cqp_grammar.specs.CanonicalTrees.{IsPrintable}

-- the definitions in order, and the main process
pub record ProgramLists : Type 0 where
  pub defs : List Def
  pub main : Tree

-- a definition
abbrev pub def_lists : DefinitionTree → Def
def_lists d = record {
  name = d.name;
  at = d.at;
  params = map param d.params;
  body = tree_lists d.body;
}

-- the lists of a program
abbrev pub program_lists : ProgramTree → ProgramLists
program_lists t = record { defs = map def_lists t.defs; main = tree_lists t.main }

-- the lists are those of the tree, and its names, numbers and operands can be written
pub record IsProgramListing (lists : ProgramLists) (tree : ProgramTree) : Type 0 where
  pub printable : IsPrintable tree
  pub is : lists ≡ program_lists tree
