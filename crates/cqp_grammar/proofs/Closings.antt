-- Tokens that close what awaits a prefix, an item, a type and the like.
use Rattle.std.proofs.Common.{ℕ, List, [], ◌∷◌, ◌++◌, inl, refl}
use Rattle.cqp_syntax.specs.TypeTrees.{TypeTree, chan_type}
use Rattle.cqp_grammar.specs.declared.token.Token.{Token}
use Rattle.cqp_grammar.specs.declared.token.Token.TheVariants.{Number, Reserved, Symbol, End}
use Rattle.cqp_grammar.specs.declared.token.ReservedWord.TheVariants as word
use Rattle.cqp_grammar.specs.declared.token.SymbolKind.TheVariants as symbol
use Rattle.cqp_grammar.specs.Trees.{Occurrence, Parameter, ExprTree, number, sig, add, apply}
use Rattle.cqp_grammar.specs.Trees.{ExprTrees, ProcessTree, nil, par, new, qbit}
use Rattle.cqp_grammar.specs.Trees.{act}
use Rattle.cqp_grammar.specs.Trees.{input, output, branch, ProgramTree}
use Rattle.cqp_grammar.specs.Grammar.{first_at, one_atom, IsItem, summed, a_number, IsProcess}
use Rattle.cqp_grammar.specs.Grammar.{alone, IsPrefix, zero_, no_defs}
use Rattle.cqp_grammar.specs.Stacks.{PrefixStack, in_process, in_new, in_qbit, in_act, in_input}
use Rattle.cqp_grammar.specs.Stacks.{in_output, in_then, in_else, ProcessStack, in_group, in_right}
use Rattle.cqp_grammar.specs.Stacks.{in_body, in_main, ExprStack, in_braces, in_sig, in_parens}
use Rattle.cqp_grammar.specs.Stacks.{ItemStack, in_left, in_right_side, in_list, in_expr, SumStack}
use Rattle.cqp_grammar.specs.Stacks.{in_item, in_operator, AtomStack, in_first, in_plus}
use Rattle.cqp_grammar.specs.Stacks.{ParamsStack, in_heading, in_params, TypeStack, in_annotation}
use Rattle.cqp_grammar.specs.Stacks.{in_param}
use Rattle.cqp_grammar.specs.Stacks.{in_types}
use Rattle.cqp_grammar.specs.Moves.{type_last, expr_last}
use Rattle.cqp_grammar.specs.Trees.{parameter, definition}
use Rattle.cqp_grammar.specs.Completes.{Reads, stops, PrefixEnds, ProcessEnds, Prefixed, ListEnds}
use Rattle.cqp_grammar.specs.Completes.{Compared, ExprEnds, ItemEnds, SumEnds, AtomEnds, ParamsEnds}
use Rattle.cqp_grammar.specs.Completes.{TypeEnds}
use Rattle.cqp_grammar.proofs.Starts.{unflagged}

-- a process that is `0`
pub zero_process : {at : ℕ} {rest : List Token} → IsProcess (Number 0 at ∷ rest) (nil at) rest
zero_process = alone zero_

mutual
  -- what awaits a prefix that was read can be completed
  pub prefix_closes : (k : PrefixStack) (p : ProcessTree) → (ts : List Token) × (t : ProgramTree) × PrefixEnds t k p ts
  prefix_closes (in_process k) p = let (ts, t, h) = process_closes k p in (ts, t, inl h)
  prefix_closes (in_new at x ty k) p = prefix_closes k (new at x ty p)
  prefix_closes (in_qbit at x k) p = prefix_closes k (qbit at x p)
  prefix_closes (in_act at e k) p = prefix_closes k (act at e p)
  prefix_closes (in_input c ps k) p = prefix_closes k (input c.at c ps p)
  prefix_closes (in_output c es k) p = prefix_closes k (output c.at c es p)
  prefix_closes (in_then at e f k) p =
      let (ts, t, h) = prefix_closes k (branch at e f p (nil 0)) in (Reserved word.Else 0 ∷ Number 0 0 ∷ ts, t, (0, _, refl, (nil 0, ts, zero_, h)))
  prefix_closes (in_else at e f q k) p = prefix_closes k (branch at e f q p)

  -- what awaits a process that was read can be completed
  pub process_closes : (k : ProcessStack) (p : ProcessTree) → (ts : List Token) × (t : ProgramTree) × ProcessEnds t k p ts
  process_closes (in_group k) p = let (ts, t, h) = prefix_closes k p in (Symbol symbol.Close 0 ∷ ts, t, (0, ts, refl, h))
  process_closes (in_right at q k) p = process_closes k (par at q p)
  process_closes (in_body x ps ds) p = (
    Symbol symbol.Semicolon 0 ∷ Number 0 0 ∷ End 0 ∷ [],
    record { defs = (ds ++ definition x ps p ∷ []) ++ []; main = nil 0 },
    (0, _, refl, ([], _, no_defs, (nil 0, _, zero_process, (0, refl, refl)))),
  )
  process_closes (in_main ds) p = (End 0 ∷ [], record { defs = ds; main = p }, (0, refl, refl))

-- a `0` closes what awaits a prefix, and a `.` and a `0`
pub zero_closes : (k : PrefixStack) → (ts : List Token) × (t : ProgramTree) × Reads IsPrefix (PrefixEnds t k) ts
zero_closes k = let (ts, t, h) = prefix_closes k (nil 0) in (Number 0 0 ∷ ts, t, (nil 0, ts, zero_, h))

-- `.0` completes what awaits a body
pub dot_closes : (k : PrefixStack) → (ts : List Token) × (t : ProgramTree) × Prefixed t k ts
dot_closes k = let (ts, t, h) = zero_closes k in (Symbol symbol.Dot 0 ∷ ts, t, (0, ts, refl, h))

-- a right side and two branches complete what awaits them
pub compared_closes : (at : ℕ) (e : ExprTree) (k : PrefixStack) (f : ExprTree) → (ts : List Token) × (t : ProgramTree) × Compared t at e k f ts
compared_closes at e k f = let (ts, t, h) = zero_closes (in_then at e f k) in (Reserved word.Then 0 ∷ ts, t, (0, ts, refl, h))

-- `].0` completes an output
pub list_closes : (x : Occurrence) (k : PrefixStack) (es : ExprTrees) → (ts : List Token) × (t : ProgramTree) × ListEnds t x k es ts
list_closes x k es = let (ts, t, h) = dot_closes (in_output x es k) in (Symbol symbol.CloseList 0 ∷ ts, t, (0, ts, refl, h))

-- `0` is an item
pub zero_item : {at : ℕ} {rest : List Token} → IsItem (Number 0 at ∷ rest) (number at 0) rest
zero_item = summed (one_atom a_number)

mutual
  -- what awaits an expression that was read can be completed
  pub expr_closes : (k : ExprStack) (e : ExprTree) → (ts : List Token) × (t : ProgramTree) × ExprEnds t k e ts
  expr_closes (in_braces at k) e = let (ts, t, h) = dot_closes (in_act at e k) in (Symbol symbol.CloseAct 0 ∷ ts, t, (0, ts, refl, h))
  expr_closes (in_sig at k) e = let (ts, t, h) = atom_closes k (sig at e) in (Symbol symbol.Close 0 ∷ ts, t, (0, ts, refl, h))
  expr_closes (in_parens k) e = let (ts, t, h) = atom_closes k e in (Symbol symbol.Close 0 ∷ ts, t, (0, ts, refl, h))

  -- what awaits an item that was read can be completed
  pub item_closes : (k : ItemStack) (e : ExprTree) → (ts : List Token) × (t : ProgramTree) × ItemEnds t k (Unit {0}) e ts
  item_closes (in_left at k) e = let (ts, t, h) = compared_closes at e k (number 0 0) in
      (Symbol symbol.Equals 0 ∷ Number 0 0 ∷ ts, t, (0, _, refl, (number 0 0, ts, zero_item, h)))
  item_closes (in_right_side at e k) f = compared_closes at e k f
  item_closes (in_list x es k) e = let (ts, t, h) = list_closes x k (expr_last es e) in (ts, t, inl h)
  item_closes (in_expr k) e = expr_closes k e

  -- what awaits a sum that was read can be completed
  pub sum_closes : (k : SumStack) (e : ExprTree) → (ts : List Token) × (t : ProgramTree) × SumEnds t k e ts
  sum_closes (in_item k) e = let (ts, t, h) = item_closes k e in (ts, t, unflagged t k _ e ts h)
  sum_closes (in_operator xs k) e = expr_closes k (apply (first_at xs) xs e)

  -- what awaits an atom that was read can be completed
  pub atom_closes : (k : AtomStack) (e : ExprTree) → (ts : List Token) × (t : ProgramTree) × AtomEnds t k e ts
  atom_closes (in_first k) e = let (ts, t, h) = sum_closes k e in (ts, t, (e, ts, stops, h))
  atom_closes (in_plus g at k) e = let (ts, t, h) = sum_closes k (add at g e) in (ts, t, (add at g e, ts, stops, h))

-- parameters can be completed
pub params_close : (k : ParamsStack) (ps : List Parameter) → (ts : List Token) × (t : ProgramTree) × ParamsEnds t k ps ts
params_close (in_heading x ds) ps = let (ts, t, h) = process_closes (in_body x ps ds) (nil 0) in
    (Symbol symbol.Close 0 ∷ Symbol symbol.Equals 0 ∷ Number 0 0 ∷ ts, t, (0, _, refl, (0, _, refl, (nil 0, ts, zero_process, h))))
params_close (in_params x k) ps = let (ts, t, h) = dot_closes (in_input x ps k) in (Symbol symbol.CloseList 0 ∷ ts, t, (0, ts, refl, h))

-- what awaits a type that was read can be completed
pub type_closes : (k : TypeStack) (ty : TypeTree) → (ts : List Token) × (t : ProgramTree) × TypeEnds t k ty ts
type_closes (in_annotation at x k) ty = let (ts, t, h) = zero_closes (in_new at x ty k) in (Symbol symbol.Close 0 ∷ ts, t, (0, ts, refl, h))
type_closes (in_param ps x k) ty = let (ts, t, h) = params_close k (ps ++ parameter x ty ∷ []) in (ts, t, inl h)
type_closes (in_types us k) ty = let (ts, t, h) = type_closes k (chan_type (type_last us ty)) in (Symbol symbol.CloseList 0 ∷ ts, t, inl (0, ts, refl, h))
