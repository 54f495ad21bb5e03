-- The tokens that complete a reading to a program, by what is open. No public clause cites this
-- module.
use Rattle.std.specs.Prelude.{ℕ, List, [], ◌∷◌, ◌++◌, ◌≡◌, ◌⊎◌}
use Rattle.cqp_syntax.specs.Gates.{IsPlaceCount}
use Rattle.cqp_syntax.specs.TypeTrees.{TypeTree, op_type, chan_type, no_types, type_and}
use Rattle.cqp_grammar.specs.declared.token.Token.{Token}
use Rattle.cqp_grammar.specs.declared.token.Token.TheVariants.{Name, Number, Reserved, Symbol, End}
use Rattle.cqp_grammar.specs.declared.token.ReservedWord.{ReservedWord}
use Rattle.cqp_grammar.specs.declared.token.ReservedWord.TheVariants as word
use Rattle.cqp_grammar.specs.declared.token.SymbolKind.{SymbolKind}
use Rattle.cqp_grammar.specs.declared.token.SymbolKind.TheVariants as symbol
use Rattle.cqp_grammar.specs.Trees.{Occurrence, Parameter, ExprTree, name, sig, add, apply, measure}
use Rattle.cqp_grammar.specs.Trees.{ExprTrees, no_exprs, expr_and, ProcessTree, par, new, qbit, act}
use Rattle.cqp_grammar.specs.Trees.{input, output, branch, call, DefinitionTree, ProgramTree}
use Rattle.cqp_grammar.specs.Grammar.{IsNames, IsType, IsTypes, IsParams, IsExpr, IsItem, IsSum}
use Rattle.cqp_grammar.specs.Grammar.{IsAtom, IsItems, IsProcess, IsPrefix, IsDefs, first_at}
use Rattle.cqp_grammar.specs.Grammar.{StartsWithName, StartsWithMeasure}
use Rattle.cqp_grammar.specs.Stacks.{PrefixStack, in_process, in_new, in_qbit, in_act, in_input}
use Rattle.cqp_grammar.specs.Stacks.{in_output, in_then, in_else, ProcessStack, in_group, in_right}
use Rattle.cqp_grammar.specs.Stacks.{in_body, in_main, ExprStack, in_braces, in_sig, in_parens}
use Rattle.cqp_grammar.specs.Stacks.{ItemStack, in_left, in_right_side, in_list, in_expr, SumStack}
use Rattle.cqp_grammar.specs.Stacks.{in_item, in_operator, AtomStack, in_first, in_plus}
use Rattle.cqp_grammar.specs.Stacks.{ParamsStack}
use Rattle.cqp_grammar.specs.Stacks.{in_heading, in_params, TypeStack, in_annotation, in_param}
use Rattle.cqp_grammar.specs.Stacks.{in_types}
use Rattle.cqp_grammar.specs.ParserStates.{ParserState, definitions, def_name, def_open, def_equals}
use Rattle.cqp_grammar.specs.ParserStates.{params_first, param_wanted, param_colon, type_wanted}
use Rattle.cqp_grammar.specs.ParserStates.{op_open}
use Rattle.cqp_grammar.specs.ParserStates.{op_number, op_close, chan_open, chan_first, after_type}
use Rattle.cqp_grammar.specs.ParserStates.{prefix_wanted, opened, new_name, new_colon, qbit_name}
use Rattle.cqp_grammar.specs.ParserStates.{qbit_close, named, input_open, output_open, output_first}
use Rattle.cqp_grammar.specs.ParserStates.{call_first, call_wanted, call_after, dot_wanted}
use Rattle.cqp_grammar.specs.ParserStates.{else_wanted}
use Rattle.cqp_grammar.specs.ParserStates.{expr_wanted, expr_named, applied_wanted, applied_after}
use Rattle.cqp_grammar.specs.ParserStates.{item_wanted, measured_wanted, measured_after}
use Rattle.cqp_grammar.specs.ParserStates.{measured_comma}
use Rattle.cqp_grammar.specs.ParserStates.{atom_wanted, sig_open, after_sum, after_prefix, finished}
use Rattle.cqp_grammar.specs.Moves.{types_append, exprs_append, type_last, expr_last}
use Rattle.cqp_grammar.specs.Trees.{parameter}
use Rattle.cqp_grammar.specs.Trees.{definition, occurrence}

-- a symbol, and then this
abbrev pub ThenSymbol : SymbolKind → (List Token → Type 0) → List Token → Type 0
ThenSymbol s then_ ts = (at : ℕ) × (more : List Token) × (ts ≡ Symbol s at ∷ more) × then_ more

-- a reserved word, and then this
abbrev pub ThenReserved : ReservedWord → (List Token → Type 0) → List Token → Type 0
ThenReserved k then_ ts = (at : ℕ) × (more : List Token) × (ts ≡ Reserved k at ∷ more) × then_ more

-- a name, and then this
abbrev pub ThenName : (Occurrence → List Token → Type 0) → List Token → Type 0
ThenName then_ ts =
    (x : List ℕ) × (at : ℕ) × (more : List Token) × (ts ≡ Name x at ∷ more)
    × then_ (occurrence x at) more

-- what the rule reads, and then this
abbrev pub Reads : {A : Type 0} → (List Token → A → List Token → Type 0) → (A → List Token → Type 0)
    → List Token → Type 0
Reads {A} is_x then_ ts = (x : A) × (rest : List Token) × is_x ts x rest × then_ x rest

-- a sum goes on: no `+`, or a `+`, an atom and what follows
pub data Adds : List Token → ExprTree → ExprTree → List Token → Type 0 where
  stops : {e : ExprTree} {ts : List Token} → Adds ts e e ts
  adds : {e f g : ExprTree} {at : ℕ} {ts more rest : List Token} → IsAtom ts f more
      → Adds more (add at e f) g rest → Adds (Symbol symbol.Plus at ∷ ts) e g rest

-- the end of the program
abbrev pub ProgramEnd : ProgramTree → List DefinitionTree → ProcessTree → List Token → Type 0
ProgramEnd t ds p ts = (at : ℕ) × (ts ≡ End at ∷ []) × (t ≡ record { defs = ds; main = p })

-- definitions, the main process and the end
abbrev pub ProgramEnds : ProgramTree → List DefinitionTree → List Token → Type 0
ProgramEnds t ds ts = Reads IsDefs (λ es. Reads IsProcess (ProgramEnd t (ds ++ es))) ts

abbrev mutual
  -- after a prefix
  pub PrefixEnds : ProgramTree → PrefixStack → ProcessTree → List Token → Type 0
  PrefixEnds t (in_process k) p ts =
      ProcessEnds t k p ts ⊎ ((at : ℕ) × (more : List Token) × (ts ≡ Symbol symbol.Bar at ∷ more)
      × Reads IsProcess (λ q rest. ProcessEnds t k (par at p q) rest) more)
  PrefixEnds t (in_new at x ty k) p ts = PrefixEnds t k (new at x ty p) ts
  PrefixEnds t (in_qbit at x k) p ts = PrefixEnds t k (qbit at x p) ts
  PrefixEnds t (in_act at e k) p ts = PrefixEnds t k (act at e p) ts
  PrefixEnds t (in_input c ps k) p ts = PrefixEnds t k (input c.at c ps p) ts
  PrefixEnds t (in_output c es k) p ts = PrefixEnds t k (output c.at c es p) ts
  PrefixEnds t (in_then at e f k) p ts =
      ThenReserved word.Else (Reads IsPrefix (λ q rest. PrefixEnds t k (branch at e f p q) rest)) ts
  PrefixEnds t (in_else at e f q k) p ts = PrefixEnds t k (branch at e f q p) ts

  -- after a process
  pub ProcessEnds : ProgramTree → ProcessStack → ProcessTree → List Token → Type 0
  ProcessEnds t (in_group k) p ts = ThenSymbol symbol.Close (λ rest. PrefixEnds t k p rest) ts
  ProcessEnds t (in_right at q k) p ts = ProcessEnds t k (par at q p) ts
  ProcessEnds t (in_body x ps ds) p ts =
      ThenSymbol symbol.Semicolon (ProgramEnds t (ds ++ definition x ps p ∷ [])) ts
  ProcessEnds t (in_main ds) p ts = ProgramEnd t ds p ts

-- a `.` and a prefix
abbrev pub Prefixed : ProgramTree → PrefixStack → List Token → Type 0
Prefixed t k ts = ThenSymbol symbol.Dot (Reads IsPrefix (PrefixEnds t k)) ts

-- after the items of a list
abbrev pub ListEnds : ProgramTree → Occurrence → PrefixStack → ExprTrees → List Token → Type 0
ListEnds t x k es ts = ThenSymbol symbol.CloseList (Prefixed t (in_output x es k)) ts

-- after the left side of an `if`
abbrev pub Compared : ProgramTree → ℕ → ExprTree → PrefixStack → ExprTree → List Token → Type 0
Compared t at e k f ts =
    ThenReserved word.Then (Reads IsPrefix (PrefixEnds t (in_then at e f k))) ts

abbrev mutual
  -- after an expression
  pub ExprEnds : ProgramTree → ExprStack → ExprTree → List Token → Type 0
  ExprEnds t (in_braces at k) e ts = ThenSymbol symbol.CloseAct (Prefixed t (in_act at e k)) ts
  ExprEnds t (in_sig at k) e ts = ThenSymbol symbol.Close (λ rest. AtomEnds t k (sig at e) rest) ts
  ExprEnds t (in_parens k) e ts = ThenSymbol symbol.Close (λ rest. AtomEnds t k e rest) ts

  -- after an item; where it is measured qubits, no comma and name follow
  pub ItemEnds : ProgramTree → ItemStack → Type 0 → ExprTree → List Token → Type 0
  ItemEnds t (in_left at k) measured e ts =
      ThenSymbol symbol.Equals (Reads IsItem (Compared t at e k)) ts
  ItemEnds t (in_right_side at e k) measured f ts = Compared t at e k f ts
  ItemEnds t (in_list x es k) measured e ts = ListEnds t x k (expr_last es e) ts
      ⊎ ThenSymbol symbol.Comma (λ more. (measured → StartsWithName more → ⊥)
      × Reads IsItems (λ fs. ListEnds t x k (exprs_append es (expr_and e fs))) more) ts
  ItemEnds t (in_expr k) measured e ts = ExprEnds t k e ts

  -- after a sum
  pub SumEnds : ProgramTree → SumStack → ExprTree → List Token → Type 0
  SumEnds t (in_item k) e ts = ItemEnds t k ⊥ e ts
  SumEnds t (in_operator xs k) e ts = ExprEnds t k (apply (first_at xs) xs e) ts

  -- after an atom
  pub AtomEnds : ProgramTree → AtomStack → ExprTree → List Token → Type 0
  AtomEnds t (in_first k) e ts =
      (f : ExprTree) × (rest : List Token) × Adds ts e f rest × SumEnds t k f rest
  AtomEnds t (in_plus g at k) e ts =
      (f : ExprTree) × (rest : List Token) × Adds ts (add at g e) f rest × SumEnds t k f rest

-- after parameters
abbrev pub ParamsEnds : ProgramTree → ParamsStack → List Parameter → List Token → Type 0
ParamsEnds t (in_heading x ds) ps ts =
    ThenSymbol symbol.Close (ThenSymbol symbol.Equals (Reads IsProcess (ProcessEnds t
    (in_body x ps ds)))) ts
ParamsEnds t (in_params x k) ps ts = ThenSymbol symbol.CloseList (Prefixed t (in_input x ps k)) ts

-- after a type
abbrev pub TypeEnds : ProgramTree → TypeStack → TypeTree → List Token → Type 0
TypeEnds t (in_annotation at x k) ty ts =
    ThenSymbol symbol.Close (Reads IsPrefix (PrefixEnds t (in_new at x ty k))) ts
TypeEnds t (in_param ps x k) ty ts = ParamsEnds t k (ps ++ parameter x ty ∷ []) ts
    ⊎ ThenSymbol symbol.Comma (Reads IsParams (λ qs. ParamsEnds t k (ps ++ parameter x ty ∷ qs))) ts
TypeEnds t (in_types us k) ty ts =
    ThenSymbol symbol.CloseList (λ rest. TypeEnds t k (chan_type (type_last us ty)) rest) ts
    ⊎ ThenSymbol symbol.Comma (Reads IsTypes (λ vs. ThenSymbol symbol.CloseList
    (λ rest. TypeEnds t k
    (chan_type (types_append us (type_and ty vs))) rest))) ts

-- after some of the names that this is told of
abbrev pub NamesEnd : (List Occurrence → List Token → Type 0) → List Occurrence → List Token
    → Type 0
NamesEnd then_ xs ts = then_ xs ts ⊎ ThenSymbol symbol.Comma (Reads IsNames (λ ys. then_ (xs
    ++ ys))) ts

-- after the qubits of an application
abbrev pub AppliedEnds : ProgramTree → ExprStack → List Occurrence → List Token → Type 0
AppliedEnds t k xs ts = ThenSymbol symbol.Applies (Reads IsSum (SumEnds t (in_operator xs k))) ts

-- after the arguments of a call
abbrev pub CallEnds : ProgramTree → Occurrence → PrefixStack → List Occurrence → List Token → Type 0
CallEnds t x k ys ts = ThenSymbol symbol.Close (PrefixEnds t k (call x.at x.name ys)) ts

-- parameters, or none
abbrev pub ParamsFirst : ProgramTree → ParamsStack → List Token → Type 0
ParamsFirst t k ts = ParamsEnds t k [] ts ⊎ Reads IsParams (ParamsEnds t k) ts

-- items, or none
abbrev pub ListFirst : ProgramTree → Occurrence → PrefixStack → List Token → Type 0
ListFirst t x k ts = ListEnds t x k no_exprs ts ⊎ Reads IsItems (ListEnds t x k) ts

-- arguments, or none
abbrev pub CallFirst : ProgramTree → Occurrence → PrefixStack → List Token → Type 0
CallFirst t x k ts = CallEnds t x k [] ts ⊎ Reads IsNames (CallEnds t x k) ts

-- types, or none
abbrev pub TypesFirst : ProgramTree → TypeStack → List Token → Type 0
TypesFirst t k ts = ThenSymbol symbol.CloseList (TypeEnds t k (chan_type no_types)) ts
    ⊎ Reads IsTypes (λ us. ThenSymbol symbol.CloseList (TypeEnds t k (chan_type us))) ts

-- the places of an operator type
abbrev pub Places : ProgramTree → TypeStack → List Token → Type 0
Places t k ts =
    (v : ℕ) × (at : ℕ) × (more : List Token) × (ts ≡ Number v at ∷ more) × IsPlaceCount v
    × ThenSymbol symbol.Close (TypeEnds t k (op_type v)) more

-- a definition's name and what follows
abbrev pub Headed : ProgramTree → List DefinitionTree → List Token → Type 0
Headed t ds ts = ThenName (λ x. ThenSymbol symbol.Open (ParamsFirst t (in_heading x ds))) ts

-- what follows the name of a new channel
abbrev pub NewColon : ProgramTree → ℕ → PrefixStack → Occurrence → List Token → Type 0
NewColon t o k x ts = ThenSymbol symbol.Colon (Reads IsType (TypeEnds t (in_annotation o x k))) ts

-- what follows the name of a new qubit
abbrev pub QbitClose : ProgramTree → ℕ → PrefixStack → Occurrence → List Token → Type 0
QbitClose t o k x ts = ThenSymbol symbol.Close (Reads IsPrefix (PrefixEnds t (in_qbit o x k))) ts

-- what follows a `(` where a prefix begins
abbrev pub Opened : ProgramTree → ℕ → PrefixStack → List Token → Type 0
Opened t o k ts = Reads IsProcess (ProcessEnds t (in_group k)) ts
    ⊎ (ThenReserved word.New (ThenName (NewColon t o k)) ts
    ⊎ ThenReserved word.MakeQbit (ThenName (QbitClose t o k)) ts)

-- what follows a name where a prefix begins
abbrev pub Named : ProgramTree → Occurrence → PrefixStack → List Token → Type 0
Named t x k ts =
    ThenSymbol symbol.Question (ThenSymbol symbol.OpenList (ParamsFirst t (in_params x k))) ts
    ⊎ (ThenSymbol symbol.Bang (ThenSymbol symbol.OpenList (ListFirst t x k)) ts
    ⊎ ThenSymbol symbol.Open (CallFirst t x k) ts)

-- after measured qubits
abbrev pub MeasuredEnds : ProgramTree → ItemStack → ℕ → List Occurrence → List Token → Type 0
MeasuredEnds t k at xs ts = ItemEnds t k (Unit {0}) (measure at xs) ts

-- after a comma behind measured qubits in a list
abbrev pub MeasuredComma : ProgramTree → ℕ → List Occurrence → Occurrence → ExprTrees → PrefixStack
    → List Token → Type 0
MeasuredComma t at xs x es k ts =
    Reads IsNames (λ ys. MeasuredEnds t (in_list x es k) at (xs ++ ys)) ts
    ⊎ ((StartsWithName ts → ⊥)
    × Reads IsItems (λ fs. ListEnds t x k (exprs_append es (expr_and (measure at xs) fs))) ts)

-- an item and what follows
abbrev pub ItemReads : ProgramTree → ItemStack → List Token → Type 0
ItemReads t k ts = Reads IsItem (ItemEnds t k (StartsWithMeasure ts)) ts

-- the tokens complete what was read to the program t
abbrev pub Completes : ParserState → List Token → ProgramTree → Type 0
Completes (definitions ds) ts t = ProgramEnds t ds ts
Completes (def_name ds) ts t = Headed t ds ts
Completes (def_open x ds) ts t = ThenSymbol symbol.Open (ParamsFirst t (in_heading x ds)) ts
Completes (def_equals x ps ds) ts t =
    ThenSymbol symbol.Equals (Reads IsProcess (ProcessEnds t (in_body x ps ds))) ts
Completes (params_first k) ts t = ParamsFirst t k ts
Completes (param_wanted ps k) ts t = Reads IsParams (λ qs. ParamsEnds t k (ps ++ qs)) ts
Completes (param_colon ps x k) ts t =
    ThenSymbol symbol.Colon (Reads IsType (TypeEnds t (in_param ps x k))) ts
Completes (type_wanted k) ts t = Reads IsType (TypeEnds t k) ts
Completes (op_open k) ts t = ThenSymbol symbol.Open (Places t k) ts
Completes (op_number k) ts t = Places t k ts
Completes (op_close v k) ts t = ThenSymbol symbol.Close (TypeEnds t k (op_type v)) ts
Completes (chan_open k) ts t = ThenSymbol symbol.OpenList (TypesFirst t k) ts
Completes (chan_first k) ts t = TypesFirst t k ts
Completes (after_type ty k) ts t = TypeEnds t k ty ts
Completes (prefix_wanted k) ts t = Reads IsPrefix (PrefixEnds t k) ts
Completes (opened o k) ts t = Opened t o k ts
Completes (new_name o k) ts t = ThenName (NewColon t o k) ts
Completes (new_colon o x k) ts t = NewColon t o k x ts
Completes (qbit_name o k) ts t = ThenName (QbitClose t o k) ts
Completes (qbit_close o x k) ts t = QbitClose t o k x ts
Completes (named x k) ts t = Named t x k ts
Completes (input_open x k) ts t = ThenSymbol symbol.OpenList (ParamsFirst t (in_params x k)) ts
Completes (output_open x k) ts t = ThenSymbol symbol.OpenList (ListFirst t x k) ts
Completes (output_first x k) ts t = ListFirst t x k ts
Completes (call_first x k) ts t = CallFirst t x k ts
Completes (call_wanted x ys k) ts t = Reads IsNames (λ zs. CallEnds t x k (ys ++ zs)) ts
Completes (call_after x ys k) ts t = NamesEnd (CallEnds t x k) ys ts
Completes (dot_wanted k) ts t = Prefixed t k ts
Completes (else_wanted at e f p k) ts t = PrefixEnds t (in_then at e f k) p ts
Completes (expr_wanted k) ts t = Reads IsExpr (ExprEnds t k) ts
Completes (expr_named x k) ts t =
    NamesEnd (AppliedEnds t k) (x ∷ []) ts
    ⊎ AtomEnds t (in_first (in_item (in_expr k))) (name x.at x.name) ts
Completes (applied_wanted xs k) ts t = Reads IsNames (λ ys. AppliedEnds t k (xs ++ ys)) ts
Completes (applied_after xs k) ts t = NamesEnd (AppliedEnds t k) xs ts
Completes (item_wanted k) ts t = ItemReads t k ts
Completes (measured_wanted at xs k) ts t = Reads IsNames (λ ys. MeasuredEnds t k at (xs ++ ys)) ts
Completes (measured_after at xs k) ts t = NamesEnd (MeasuredEnds t k at) xs ts
Completes (measured_comma at xs x es k) ts t = MeasuredComma t at xs x es k ts
Completes (atom_wanted k) ts t = Reads IsAtom (AtomEnds t k) ts
Completes (sig_open at k) ts t = ThenSymbol symbol.Open (Reads IsExpr (ExprEnds t (in_sig at k))) ts
Completes (after_sum e k) ts t =
    (f : ExprTree) × (rest : List Token) × Adds ts e f rest × SumEnds t k f rest
Completes (after_prefix p k) ts t = PrefixEnds t (in_process k) p ts
Completes (finished p) ts t = (ts ≡ []) × (p ≡ t)
