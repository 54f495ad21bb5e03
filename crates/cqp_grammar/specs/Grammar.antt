-- The grammar, rule by rule. 'IsX tokens tree rest' says that the tokens begin with an X that
-- stands for the tree, and that rest follows it.
use Rattle.std.specs.Prelude.{ℕ, List, [], ◌∷◌, ◌≡◌, Option, Some, None}
use Rattle.cqp_syntax.specs.declared.op.Op.{Op}
use Rattle.cqp_syntax.specs.declared.op.Op.TheVariants as op
use Rattle.cqp_syntax.specs.Gates.{IsPlaceCount}
use Rattle.cqp_grammar.specs.declared.token.Token.{Token}
use Rattle.cqp_grammar.specs.declared.token.Token.TheVariants.{Name, Number, Reserved, Symbol, End}
use Rattle.cqp_grammar.specs.declared.token.ReservedWord.{ReservedWord}
use Rattle.cqp_grammar.specs.declared.token.ReservedWord.TheVariants as word
use Rattle.cqp_grammar.specs.declared.token.SymbolKind.TheVariants as symbol
use Rattle.cqp_syntax.specs.TypeTrees.{TypeTree, int_type, unit_type, qbit_type, op_type, chan_type}
use Rattle.cqp_syntax.specs.TypeTrees.{TypeTrees, no_types, type_and}
use Rattle.cqp_grammar.specs.Trees.{Occurrence, Parameter, ExprTree, number, unit, name, gate, sig}
use Rattle.cqp_grammar.specs.Trees.{add, apply, measure, ExprTrees, no_exprs, expr_and, ProcessTree}
use Rattle.cqp_grammar.specs.Trees.{nil, par, new, qbit, act, input, output, branch, call}
use Rattle.cqp_grammar.specs.Trees.{DefinitionTree, ProgramTree, occurrence, parameter, definition}

-- names: name (`,` name)*
pub data IsNames : List Token → List Occurrence → List Token → Type 0 where
  one_name : {x : List ℕ} {at : ℕ} {rest : List Token}
      → IsNames (Name x at ∷ rest) (occurrence x at ∷ []) rest
  more_names : {x : List ℕ} {at c : ℕ} {more rest : List Token} {xs : List Occurrence}
      → IsNames more xs rest
      → IsNames (Name x at ∷ Symbol symbol.Comma c ∷ more) (occurrence x at ∷ xs) rest

mutual
  -- type: `Int`, `Unit`, `Qbit`, `Op` `(` 1, 2 or 3 `)`, or `^` `[` [type (`,` type)*] `]`
  pub data IsType : List Token → TypeTree → List Token → Type 0 where
    int : {at : ℕ} {rest : List Token} → IsType (Reserved word.IntType at ∷ rest) int_type rest
    unit_ : {at : ℕ} {rest : List Token} → IsType (Reserved word.UnitType at ∷ rest) unit_type rest
    qbit_ : {at : ℕ} {rest : List Token} → IsType (Reserved word.QbitType at ∷ rest) qbit_type rest
    op_ : {at o v n c : ℕ} {rest : List Token} → IsPlaceCount v
        → IsType (Reserved word.OpType at ∷ Symbol symbol.Open o ∷ Number v n
        ∷ Symbol symbol.Close c ∷ rest)
        (op_type v) rest
    chan_none : {at o c : ℕ} {rest : List Token}
        → IsType (Symbol symbol.Caret at ∷ Symbol symbol.OpenList o ∷ Symbol symbol.CloseList c
        ∷ rest)
        (chan_type no_types) rest
    chan_some : {at o c : ℕ} {more rest : List Token} {ts : TypeTrees}
        → IsTypes more ts (Symbol symbol.CloseList c ∷ rest)
        → IsType (Symbol symbol.Caret at ∷ Symbol symbol.OpenList o ∷ more) (chan_type ts) rest

  -- type (`,` type)*
  pub data IsTypes : List Token → TypeTrees → List Token → Type 0 where
    one_type : {t : TypeTree} {tokens rest : List Token} → IsType tokens t rest
        → IsTypes tokens (type_and t no_types) rest
    more_types : {t : TypeTree} {ts : TypeTrees} {c : ℕ} {tokens more rest : List Token}
        → IsType tokens t (Symbol symbol.Comma c ∷ more) → IsTypes more ts rest
        → IsTypes tokens (type_and t ts) rest

-- params: name `:` type (`,` name `:` type)*
pub data IsParams : List Token → List Parameter → List Token → Type 0 where
  one_param : {x : List ℕ} {at c : ℕ} {t : TypeTree} {more rest : List Token} → IsType more t rest
      → IsParams (Name x at ∷ Symbol symbol.Colon c ∷ more) (parameter (occurrence x at) t
      ∷ []) rest
  more_params : {x : List ℕ} {at c d : ℕ} {t : TypeTree} {ps : List Parameter}
      {more after rest : List Token} → IsType more t (Symbol symbol.Comma d ∷ after)
      → IsParams after ps rest
      → IsParams (Name x at ∷ Symbol symbol.Colon c ∷ more) (parameter (occurrence x at) t
      ∷ ps) rest

-- the word of a gate
abbrev pub gate_word : Op → ReservedWord
gate_word op.I = word.I
gate_word op.X = word.X
gate_word op.Y = word.Y
gate_word op.Z = word.Z
gate_word op.H = word.H
gate_word op.S = word.S
gate_word op.T = word.T
gate_word op.CNot = word.CNot
gate_word op.CZ = word.CZ
gate_word op.Swap = word.Swap
gate_word op.Toffoli = word.Toffoli

-- the gate of a reserved word, where it is that of one
abbrev pub gate_of_word : ReservedWord → Option Op
gate_of_word word.I = Some op.I
gate_of_word word.X = Some op.X
gate_of_word word.Y = Some op.Y
gate_of_word word.Z = Some op.Z
gate_of_word word.H = Some op.H
gate_of_word word.S = Some op.S
gate_of_word word.T = Some op.T
gate_of_word word.CNot = Some op.CNot
gate_of_word word.CZ = Some op.CZ
gate_of_word word.Swap = Some op.Swap
gate_of_word word.Toffoli = Some op.Toffoli
gate_of_word k = None

-- the tokens begin with a name
abbrev pub StartsWithName : List Token → Type 0
StartsWithName (Name x at ∷ rest) = Unit {0}
StartsWithName _ = ⊥

-- the tokens begin with `measure`
abbrev pub StartsWithMeasure : List Token → Type 0
StartsWithMeasure (Reserved word.Measure at ∷ rest) = Unit {0}
StartsWithMeasure _ = ⊥

-- where the first operand of an application stands
abbrev pub first_at : List Occurrence → ℕ
first_at [] = 0
first_at (x ∷ xs) = x.at

mutual
  -- names `*=` sum, or item
  pub data IsExpr : List Token → ExprTree → List Token → Type 0 where
    applied : {tokens more rest : List Token} {xs : List Occurrence} {c : ℕ} {e : ExprTree}
        → IsNames tokens xs (Symbol symbol.Applies c ∷ more) → IsSum more e rest
        → IsExpr tokens (apply (first_at xs) xs e) rest
    plain : {tokens rest : List Token} {e : ExprTree} → IsItem tokens e rest → IsExpr tokens e rest

  -- `measure` names, or sum
  pub data IsItem : List Token → ExprTree → List Token → Type 0 where
    measured : {at : ℕ} {more rest : List Token} {xs : List Occurrence} → IsNames more xs rest
        → IsItem (Reserved word.Measure at ∷ more) (measure at xs) rest
    summed : {tokens rest : List Token} {e : ExprTree} → IsSum tokens e rest → IsItem tokens e rest

  -- atom (`+` atom)*
  pub data IsSum : List Token → ExprTree → List Token → Type 0 where
    one_atom : {tokens rest : List Token} {e : ExprTree} → IsAtom tokens e rest
        → IsSum tokens e rest
    more_atoms : {tokens more rest : List Token} {e f : ExprTree} {at : ℕ}
        → IsSum tokens e (Symbol symbol.Plus at ∷ more) → IsAtom more f rest
        → IsSum tokens (add at e f) rest

  -- a number, `unit`, a name, a gate, `sig` `(` expr `)`, or `(` expr `)`
  pub data IsAtom : List Token → ExprTree → List Token → Type 0 where
    a_number : {v at : ℕ} {rest : List Token} → IsAtom (Number v at ∷ rest) (number at v) rest
    a_unit : {at : ℕ} {rest : List Token}
        → IsAtom (Reserved word.UnitValue at ∷ rest) (unit at) rest
    a_name : {x : List ℕ} {at : ℕ} {rest : List Token} → IsAtom (Name x at ∷ rest) (name at x) rest
    a_gate : {k : ReservedWord} {at : ℕ} {rest : List Token} {u : Op} → k ≡ gate_word u
        → IsAtom (Reserved k at ∷ rest) (gate at u) rest
    a_sig : {at o c : ℕ} {more rest : List Token} {e : ExprTree}
        → IsExpr more e (Symbol symbol.Close c ∷ rest)
        → IsAtom (Reserved word.Sig at ∷ Symbol symbol.Open o ∷ more) (sig at e) rest
    a_group : {o c : ℕ} {more rest : List Token} {e : ExprTree}
        → IsExpr more e (Symbol symbol.Close c ∷ rest) → IsAtom (Symbol symbol.Open o ∷ more) e rest

-- item (`,` item)*, where `measure` takes as many names as follow
pub data IsItems : List Token → ExprTrees → List Token → Type 0 where
  one_item : {tokens rest : List Token} {e : ExprTree} → IsItem tokens e rest
      → IsItems tokens (expr_and e no_exprs) rest
  more_items : {tokens more rest : List Token} {e : ExprTree} {es : ExprTrees} {c : ℕ}
      → IsItem tokens e (Symbol symbol.Comma c ∷ more)
      → (StartsWithMeasure tokens → StartsWithName more → ⊥) → IsItems more es rest
      → IsItems tokens (expr_and e es) rest

mutual
  -- prefix, or prefix `|` process
  pub data IsProcess : List Token → ProcessTree → List Token → Type 0 where
    alone : {tokens rest : List Token} {p : ProcessTree} → IsPrefix tokens p rest
        → IsProcess tokens p rest
    beside : {tokens more rest : List Token} {p q : ProcessTree} {at : ℕ}
        → IsPrefix tokens p (Symbol symbol.Bar at ∷ more) → IsProcess more q rest
        → IsProcess tokens (par at p q) rest

  -- `0`, a process in parentheses, a binder, an action, an input, an output, a call, or a branch
  pub data IsPrefix : List Token → ProcessTree → List Token → Type 0 where
    zero_ : {at : ℕ} {rest : List Token} → IsPrefix (Number 0 at ∷ rest) (nil at) rest
    group : {o c : ℕ} {more rest : List Token} {p : ProcessTree}
        → IsProcess more p (Symbol symbol.Close c ∷ rest)
        → IsPrefix (Symbol symbol.Open o ∷ more) p rest
    new_ : {o n at d c : ℕ} {x : List ℕ} {ty : TypeTree} {more after rest : List Token}
        {p : ProcessTree} → IsType more ty (Symbol symbol.Close c ∷ after) → IsPrefix after p rest
        → IsPrefix (Symbol symbol.Open o ∷ Reserved word.New n ∷ Name x at ∷ Symbol symbol.Colon d
        ∷ more)
        (new o (occurrence x at) ty p) rest
    qbit_ : {o n at c : ℕ} {x : List ℕ} {after rest : List Token} {p : ProcessTree}
        → IsPrefix after p rest
        → IsPrefix (Symbol symbol.Open o ∷ Reserved word.MakeQbit n ∷ Name x at
        ∷ Symbol symbol.Close c ∷ after)
        (qbit o (occurrence x at) p) rest
    act_ : {o c d : ℕ} {more after rest : List Token} {e : ExprTree} {p : ProcessTree}
        → IsExpr more e (Symbol symbol.CloseAct c ∷ Symbol symbol.Dot d ∷ after)
        → IsPrefix after p rest
        → IsPrefix (Symbol symbol.OpenAct o ∷ more) (act o e p) rest
    input_none : {x : List ℕ} {at q o c d : ℕ} {after rest : List Token} {p : ProcessTree}
        → IsPrefix after p rest
        → IsPrefix (Name x at ∷ Symbol symbol.Question q ∷ Symbol symbol.OpenList o
        ∷ Symbol symbol.CloseList c
        ∷ Symbol symbol.Dot d ∷ after)
        (input at (occurrence x at) [] p) rest
    input_some : {x : List ℕ} {at q o c d : ℕ} {ps : List Parameter} {more after rest : List Token}
        {p : ProcessTree} → IsParams more ps (Symbol symbol.CloseList c ∷ Symbol symbol.Dot d
        ∷ after)
        → IsPrefix after p rest
        → IsPrefix (Name x at ∷ Symbol symbol.Question q ∷ Symbol symbol.OpenList o ∷ more)
        (input at (occurrence x at) ps p) rest
    output_none : {x : List ℕ} {at q o c d : ℕ} {after rest : List Token} {p : ProcessTree}
        → IsPrefix after p rest
        → IsPrefix (Name x at ∷ Symbol symbol.Bang q ∷ Symbol symbol.OpenList o
        ∷ Symbol symbol.CloseList c
        ∷ Symbol symbol.Dot d ∷ after)
        (output at (occurrence x at) no_exprs p) rest
    output_some : {x : List ℕ} {at q o c d : ℕ} {es : ExprTrees} {more after rest : List Token}
        {p : ProcessTree} → IsItems more es (Symbol symbol.CloseList c ∷ Symbol symbol.Dot d
        ∷ after)
        → IsPrefix after p rest
        → IsPrefix (Name x at ∷ Symbol symbol.Bang q ∷ Symbol symbol.OpenList o ∷ more)
        (output at (occurrence x at) es p) rest
    call_none : {x : List ℕ} {at o c : ℕ} {rest : List Token}
        → IsPrefix (Name x at ∷ Symbol symbol.Open o ∷ Symbol symbol.Close c
        ∷ rest) (call at x []) rest
    call_some : {x : List ℕ} {at o c : ℕ} {xs : List Occurrence} {more rest : List Token}
        → IsNames more xs (Symbol symbol.Close c ∷ rest)
        → IsPrefix (Name x at ∷ Symbol symbol.Open o ∷ more) (call at x xs) rest
    if_ : {at q t l : ℕ} {tokens more then_ else_ rest : List Token} {e f : ExprTree}
        {p r : ProcessTree} → IsItem tokens e (Symbol symbol.Equals q ∷ more)
        → IsItem more f (Reserved word.Then t ∷ then_)
        → IsPrefix then_ p (Reserved word.Else l ∷ else_)
        → IsPrefix else_ r rest → IsPrefix (Reserved word.If at ∷ tokens) (branch at e f p r) rest

-- `def` name `(` [params] `)` `=` process `;`
pub data IsDefs : List Token → List DefinitionTree → List Token → Type 0 where
  no_defs : {rest : List Token} → IsDefs rest [] rest
  def_none : {f : ℕ} {x : List ℕ} {at o c q s : ℕ} {more after rest : List Token} {p : ProcessTree}
      {ds : List DefinitionTree} → IsProcess more p (Symbol symbol.Semicolon s ∷ after)
      → IsDefs after ds rest
      → IsDefs (Reserved word.Def f ∷ Name x at ∷ Symbol symbol.Open o ∷ Symbol symbol.Close c
      ∷ Symbol symbol.Equals q ∷ more)
      (definition (occurrence x at) [] p ∷ ds) rest
  def_some : {f : ℕ} {x : List ℕ} {at o c q s : ℕ} {ps : List Parameter}
      {tokens more after rest : List Token} {p : ProcessTree} {ds : List DefinitionTree}
      → IsParams tokens ps (Symbol symbol.Close c ∷ Symbol symbol.Equals q ∷ more)
      → IsProcess more p (Symbol symbol.Semicolon s ∷ after) → IsDefs after ds rest
      → IsDefs (Reserved word.Def f ∷ Name x at ∷ Symbol symbol.Open o ∷ tokens)
      (definition (occurrence x at) ps p ∷ ds) rest

-- def* process end
pub data IsProgram : List Token → ProgramTree → Type 0 where
  program : {tokens more : List Token} {ds : List DefinitionTree} {p : ProcessTree} {e : ℕ}
      → IsDefs tokens ds more → IsProcess more p (End e ∷ [])
      → IsProgram tokens (record { defs = ds; main = p })
