-- The states of the parser: what it awaits, with what was read and what is open. No public clause
-- cites this module.
use Rattle.std.specs.Prelude.{ℕ, List}
use Rattle.cqp_syntax.specs.TypeTrees.{TypeTree}
use Rattle.cqp_grammar.specs.Trees.{Occurrence, Parameter, ExprTree, ExprTrees, ProcessTree}
use Rattle.cqp_grammar.specs.Trees.{DefinitionTree, ProgramTree}
use Rattle.cqp_grammar.specs.Stacks.{PrefixStack, ProcessStack, ExprStack, ItemStack, SumStack}
use Rattle.cqp_grammar.specs.Stacks.{AtomStack, ParamsStack, TypeStack}

-- where a reading stands
pub data ParserState : Type 0 where
  definitions : List DefinitionTree → ParserState
  def_name : List DefinitionTree → ParserState
  def_open : (x : Occurrence) → List DefinitionTree → ParserState
  def_equals : (x : Occurrence) (ps : List Parameter) → List DefinitionTree → ParserState
  params_first : ParamsStack → ParserState
  param_wanted : (ps : List Parameter) → ParamsStack → ParserState
  param_colon : (ps : List Parameter) (x : Occurrence) → ParamsStack → ParserState
  type_wanted : TypeStack → ParserState
  op_open : TypeStack → ParserState
  op_number : TypeStack → ParserState
  op_close : ℕ → TypeStack → ParserState
  chan_open : TypeStack → ParserState
  chan_first : TypeStack → ParserState
  after_type : TypeTree → TypeStack → ParserState
  prefix_wanted : PrefixStack → ParserState
  opened : ℕ → PrefixStack → ParserState
  new_name : ℕ → PrefixStack → ParserState
  new_colon : ℕ → Occurrence → PrefixStack → ParserState
  qbit_name : ℕ → PrefixStack → ParserState
  qbit_close : ℕ → Occurrence → PrefixStack → ParserState
  named : Occurrence → PrefixStack → ParserState
  input_open : Occurrence → PrefixStack → ParserState
  output_open : Occurrence → PrefixStack → ParserState
  output_first : Occurrence → PrefixStack → ParserState
  call_first : Occurrence → PrefixStack → ParserState
  call_wanted : Occurrence → List Occurrence → PrefixStack → ParserState
  call_after : Occurrence → List Occurrence → PrefixStack → ParserState
  dot_wanted : PrefixStack → ParserState
  else_wanted : ℕ → ExprTree → ExprTree → ProcessTree → PrefixStack → ParserState
  expr_wanted : ExprStack → ParserState
  expr_named : Occurrence → ExprStack → ParserState
  applied_wanted : List Occurrence → ExprStack → ParserState
  applied_after : List Occurrence → ExprStack → ParserState
  item_wanted : ItemStack → ParserState
  measured_wanted : ℕ → List Occurrence → ItemStack → ParserState
  measured_after : ℕ → List Occurrence → ItemStack → ParserState
  measured_comma : ℕ → List Occurrence → Occurrence → ExprTrees → PrefixStack → ParserState
  atom_wanted : AtomStack → ParserState
  sig_open : ℕ → AtomStack → ParserState
  after_sum : ExprTree → SumStack → ParserState
  after_prefix : ProcessTree → ProcessStack → ParserState
  finished : ProgramTree → ParserState
