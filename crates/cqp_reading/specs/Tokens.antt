-- What a token does, by what is awaited: where a reading stands behind it, or none: it is refused.
-- No public clause cites this module.
use Rattle.std.specs.Prelude.{ℕ, zero, suc, [], ◌∷◌, ◌++◌, Option, Some, None}
use Rattle.std.specs.Option.{option_map}
use Rattle.cqp_grammar.specs.declared.token.Token.{Token}
use Rattle.cqp_grammar.specs.declared.token.Token.TheVariants.{Name, Number, Reserved, Symbol, Bad}
use Rattle.cqp_grammar.specs.declared.token.Token.TheVariants.{End}
use Rattle.cqp_grammar.specs.declared.token.ReservedWord.{ReservedWord}
use Rattle.cqp_grammar.specs.declared.token.ReservedWord.TheVariants as word
use Rattle.cqp_grammar.specs.Grammar.{gate_of_word}
use Rattle.cqp_grammar.specs.declared.token.SymbolKind.{SymbolKind}
use Rattle.cqp_grammar.specs.declared.token.SymbolKind.TheVariants as symbol
use Rattle.cqp_syntax.specs.declared.op.Op.{Op}
use Rattle.cqp_syntax.specs.declared.ty.Ty.TheVariants as ty
use Rattle.cqp_program.specs.declared.program.Occ.{Occ}
use Rattle.cqp_program.specs.declared.fragment.Kind.TheVariants as kind
use Rattle.cqp_reading.specs.declared.frame.Frame.{Frame}
use Rattle.cqp_reading.specs.declared.frame.Frame.TheVariants as frame
use Rattle.cqp_reading.specs.declared.awaits.Awaits.{Awaits}
use Rattle.cqp_reading.specs.declared.awaits.Awaits.TheVariants as awaits
use Rattle.cqp_reading.specs.DraftLists.{DraftLists, opened, top, popped, emitted, Stand, stand}
use Rattle.cqp_reading.specs.Closing.{prefix_read, process_read, prefix_place, item_place}
use Rattle.cqp_reading.specs.Closing.{atom_place, atom, expr_read, type_place, word_type}
use Rattle.cqp_reading.specs.Symbols.{at_open, at_close, at_open_list, at_close_list}
use Rattle.cqp_reading.specs.Symbols.{act_read, at_equals, at_comma, at_colon, at_semicolon}
use Rattle.cqp_reading.specs.Symbols.{at_applies, at_bar, at_plus, mark_place}

-- a name in a list of names
abbrev pub listed : Awaits → Occ → Option Awaits
listed (awaits.CallFirst f) x = Some (awaits.CallAfter f (x ∷ []))
listed (awaits.CallWanted f xs) x = Some (awaits.CallAfter f (xs ++ x ∷ []))
listed (awaits.AppliedWanted xs) x = Some (awaits.AppliedAfter (xs ++ x ∷ []))
listed (awaits.MeasuredWanted at xs) x = Some (awaits.MeasuredAfter at (xs ++ x ∷ []))
listed (awaits.MeasuredComma at xs) x = Some (awaits.MeasuredAfter at (xs ++ x ∷ []))
listed p x = None

-- a name that begins something
abbrev pub bound : Awaits → Occ → Option Awaits
bound awaits.DefName x = Some (awaits.DefOpen x)
bound awaits.ParamsFirst x = Some (awaits.ParamColon [] x)
bound (awaits.ParamWanted ps) x = Some (awaits.ParamColon ps x)
bound (awaits.NewName at) x = Some (awaits.NewColon at x)
bound (awaits.QbitName at) x = Some (awaits.QbitClose at x)
bound awaits.ExprWanted x = Some (awaits.ExprNamed x)
bound p x = listed p x

-- a name
abbrev pub at_name : Awaits → DraftLists → Occ → Option Stand
at_name awaits.Definitions s x = Some (stand (awaits.Named x) s)
at_name awaits.PrefixWanted s x = Some (stand (awaits.Named x) s)
at_name (awaits.Opened at) s x = Some (stand (awaits.Named x) (opened frame.Group s))
at_name awaits.ItemWanted s x = atom x.at (kind.Name x.name) (Some s)
at_name awaits.AtomWanted s x = atom x.at (kind.Name x.name) (Some s)
at_name awaits.OutputFirst s x = atom x.at (kind.Name x.name) (Some s)
at_name p s x = option_map (λ a. stand a s) (bound p x)

-- how many places an `Op` has
abbrev pub op_place : ℕ → Option Awaits
op_place (suc zero) = Some (awaits.OpClose 1)
op_place (suc (suc zero)) = Some (awaits.OpClose 2)
op_place (suc (suc (suc zero))) = Some (awaits.OpClose 3)
op_place v = None

-- `0` as a process
abbrev pub nil_read : ℕ → ℕ → Option DraftLists → Option Stand
nil_read zero at (Some s) = Some (prefix_read (emitted at kind.Nil s))
nil_read v at s = None

-- a number
abbrev pub at_number : Awaits → DraftLists → ℕ → ℕ → Option Stand
at_number awaits.OpNumber s v at = option_map (λ a. stand a s) (op_place v)
at_number awaits.Definitions s v at = nil_read v at (prefix_place awaits.Definitions s)
at_number awaits.PrefixWanted s v at = nil_read v at (prefix_place awaits.PrefixWanted s)
at_number (awaits.Opened n) s v at = nil_read v at (prefix_place (awaits.Opened n) s)
at_number p s v at = atom at (kind.Num v) (atom_place p s)

-- `def`, `new` and `qbit`
abbrev pub word_place : Awaits → ReservedWord → Option Awaits
word_place awaits.Definitions word.Def = Some awaits.DefName
word_place (awaits.Opened at) word.New = Some (awaits.NewName at)
word_place (awaits.Opened at) word.MakeQbit = Some (awaits.QbitName at)
word_place p k = None

-- `then`
abbrev pub right_read : Option (Frame × DraftLists) → Option Stand
right_read (Some (frame.RightSide at, s)) =
    Some (stand awaits.PrefixWanted (opened (frame.Then at) s))
right_read f = None

-- `else`
abbrev pub else_read : Option Frame → DraftLists → Option Stand
else_read (Some (frame.Then at)) s = Some (stand awaits.PrefixWanted (opened (frame.Else at) s))
else_read f s = None

-- `else`
abbrev pub at_else : Awaits → DraftLists → Option Stand
at_else awaits.ElseWanted s = else_read (top s) (popped s)
at_else p s = None

-- a gate, where an atom may begin
abbrev pub gate_read : Option Op → ℕ → Option DraftLists → Option Stand
gate_read None at s = None
gate_read (Some u) at s = atom at (kind.Gate u) s

-- a word of a choice, of a type, and of an expression
abbrev pub branch_word : Awaits → DraftLists → ReservedWord → ℕ → Option Stand
branch_word p s word.If at =
    option_map (λ t. stand awaits.ItemWanted (opened (frame.Left at) t)) (prefix_place p s)
branch_word p s word.Then at = right_read (expr_read p s)
branch_word p s word.Else at = at_else p s
branch_word p s k at = None

-- a word of a type
abbrev pub type_word : Awaits → DraftLists → ReservedWord → Option Stand
type_word p s word.IntType = word_type ty.Int (type_place p s)
type_word p s word.UnitType = word_type ty.Unit (type_place p s)
type_word p s word.QbitType = word_type ty.Qbit (type_place p s)
type_word p s word.OpType = option_map (stand awaits.OpOpen) (type_place p s)
type_word p s k = None

-- a word of an expression
abbrev pub expr_word : Awaits → DraftLists → ReservedWord → ℕ → Option Stand
expr_word p s word.Measure at = option_map (stand (awaits.MeasuredWanted at [])) (item_place p s)
expr_word p s word.Sig at = option_map (stand (awaits.SigOpen at)) (atom_place p s)
expr_word p s word.UnitValue at = atom at kind.Unit (atom_place p s)
expr_word p s k at = gate_read (gate_of_word k) at (atom_place p s)

-- a reserved word
abbrev pub at_reserved : Awaits → DraftLists → ReservedWord → ℕ → Option Stand
at_reserved p s word.Def at = option_map (λ a. stand a s) (word_place p word.Def)
at_reserved p s word.New at = option_map (λ a. stand a s) (word_place p word.New)
at_reserved p s word.MakeQbit at = option_map (λ a. stand a s) (word_place p word.MakeQbit)
at_reserved p s word.If at = branch_word p s word.If at
at_reserved p s word.Then at = branch_word p s word.Then at
at_reserved p s word.Else at = branch_word p s word.Else at
at_reserved p s word.IntType at = type_word p s word.IntType
at_reserved p s word.UnitType at = type_word p s word.UnitType
at_reserved p s word.QbitType at = type_word p s word.QbitType
at_reserved p s word.OpType at = type_word p s word.OpType
at_reserved p s k at = expr_word p s k at

-- a bracket
abbrev pub at_bracket : Awaits → DraftLists → SymbolKind → ℕ → Option Stand
at_bracket p s symbol.Open at = at_open p s at
at_bracket p s symbol.Close at = at_close p s
at_bracket p s symbol.OpenList at = at_open_list p s
at_bracket p s symbol.CloseList at = at_close_list p s
at_bracket p s symbol.OpenAct at =
    option_map (λ t. stand awaits.ExprWanted (opened (frame.Braces at) t)) (prefix_place p s)
at_bracket p s symbol.CloseAct at = act_read (expr_read p s)
at_bracket p s m at = None

-- a symbol that parts what it stands between, and one that joins it
abbrev pub at_separator : Awaits → DraftLists → SymbolKind → Option Stand
at_separator p s symbol.Comma = at_comma p s
at_separator p s symbol.Colon = at_colon p s
at_separator p s symbol.Semicolon = at_semicolon p s
at_separator p s symbol.Equals = at_equals p s
at_separator p s m = None

-- a symbol that joins
abbrev pub at_operator : Awaits → DraftLists → SymbolKind → ℕ → Option Stand
at_operator p s symbol.Applies at = at_applies p s
at_operator p s symbol.Bar at = at_bar p s at
at_operator p s symbol.Caret at = option_map (stand awaits.ChanOpen) (type_place p s)
at_operator p s symbol.Plus at = at_plus p s at
at_operator p s m at = option_map (λ a. stand a s) (mark_place p m)

-- a symbol
abbrev pub at_symbol : Awaits → DraftLists → SymbolKind → ℕ → Option Stand
at_symbol p s symbol.Open at = at_bracket p s symbol.Open at
at_symbol p s symbol.Close at = at_bracket p s symbol.Close at
at_symbol p s symbol.OpenList at = at_bracket p s symbol.OpenList at
at_symbol p s symbol.CloseList at = at_bracket p s symbol.CloseList at
at_symbol p s symbol.OpenAct at = at_bracket p s symbol.OpenAct at
at_symbol p s symbol.CloseAct at = at_bracket p s symbol.CloseAct at
at_symbol p s symbol.Comma at = at_separator p s symbol.Comma
at_symbol p s symbol.Colon at = at_separator p s symbol.Colon
at_symbol p s symbol.Semicolon at = at_separator p s symbol.Semicolon
at_symbol p s symbol.Equals at = at_separator p s symbol.Equals
at_symbol p s m at = at_operator p s m at

-- the end of the text
abbrev pub all_read : Option Frame → DraftLists → Option Stand
all_read None s = Some (stand awaits.Finished s)
all_read (Some f) s = None

-- the main process that was read
abbrev pub main_read : DraftLists → Option Stand
main_read s = all_read (top s) (popped s)

-- the end of the text
abbrev pub at_end : Awaits → DraftLists → Option Stand
at_end awaits.AfterPrefix s = main_read (process_read s)
at_end p s = None

-- a token
abbrev pub token_read : Awaits → DraftLists → Token → Option Stand
token_read p s (Name x at) = at_name p s (record { name = x; at = at })
token_read p s (Number v at) = at_number p s v at
token_read p s (Reserved k at) = at_reserved p s k at
token_read p s (Symbol m at) = at_symbol p s m at
token_read p s (Bad at) = None
token_read p s (End at) = at_end p s
