-- The parser as a machine on tokens: where a reading stands after one token more. No public clause
-- cites this module.
use Rattle.std.specs.Prelude.{ℕ, zero, suc, List, [], ◌∷◌, ◌++◌, Option, Some, None}
use Rattle.cqp_syntax.specs.declared.op.Op.TheVariants as op
use Rattle.cqp_syntax.specs.TypeTrees.{TypeTree, int_type, unit_type, qbit_type, op_type, chan_type}
use Rattle.cqp_syntax.specs.TypeTrees.{TypeTrees, no_types, type_and}
use Rattle.cqp_grammar.specs.declared.token.Token.{Token}
use Rattle.cqp_grammar.specs.declared.token.Token.TheVariants.{Name, Number, Reserved, Symbol, End}
use Rattle.cqp_grammar.specs.declared.token.ReservedWord.TheVariants as word
use Rattle.cqp_grammar.specs.declared.token.SymbolKind.TheVariants as symbol
use Rattle.cqp_grammar.specs.Trees.{occurrence, parameter, definition}
use Rattle.cqp_grammar.specs.Trees.{Occurrence, Parameter, ExprTree, number, unit, name, gate, sig}
use Rattle.cqp_grammar.specs.Trees.{add, apply, measure, ExprTrees, no_exprs, expr_and, ProcessTree}
use Rattle.cqp_grammar.specs.Trees.{nil, par, new, qbit, act, input, output, branch, call}
use Rattle.cqp_grammar.specs.Grammar.{first_at}
use Rattle.cqp_grammar.specs.Stacks.{PrefixStack, in_process, in_new, in_qbit, in_act, in_input}
use Rattle.cqp_grammar.specs.Stacks.{in_output, in_then, in_else, ProcessStack, in_group, in_right}
use Rattle.cqp_grammar.specs.Stacks.{in_body, in_main, ExprStack, in_braces, in_sig, in_parens}
use Rattle.cqp_grammar.specs.Stacks.{ItemStack, in_left, in_right_side, in_list, in_expr, SumStack}
use Rattle.cqp_grammar.specs.Stacks.{in_item, in_operator, AtomStack, in_first, in_plus}
use Rattle.cqp_grammar.specs.Stacks.{ParamsStack}
use Rattle.cqp_grammar.specs.Stacks.{in_heading, in_params, TypeStack, in_annotation, in_param}
use Rattle.cqp_grammar.specs.Stacks.{in_types}
use Rattle.cqp_grammar.specs.ParserStates.{ParserState, definitions, def_name, def_open, def_equals}
use Rattle.cqp_grammar.specs.ParserStates.{params_first, param_wanted, param_colon, type_wanted}
use Rattle.cqp_grammar.specs.ParserStates.{op_open}
use Rattle.cqp_grammar.specs.ParserStates.{op_number, op_close, chan_open, chan_first, after_type}
use Rattle.cqp_grammar.specs.ParserStates.{prefix_wanted, opened, new_name, new_colon, qbit_name}
use Rattle.cqp_grammar.specs.ParserStates.{qbit_close, named, input_open, output_open, output_first}
use Rattle.cqp_grammar.specs.ParserStates.{call_first, call_wanted, call_after, dot_wanted}
use Rattle.cqp_grammar.specs.ParserStates.{else_wanted}
use Rattle.cqp_grammar.specs.ParserStates.{expr_wanted, expr_named, applied_wanted, applied_after}
use Rattle.cqp_grammar.specs.ParserStates.{item_wanted, measured_wanted, measured_after}
use Rattle.cqp_grammar.specs.ParserStates.{measured_comma}
use Rattle.cqp_grammar.specs.ParserStates.{atom_wanted, sig_open, after_sum, after_prefix, finished}

-- types after types
abbrev pub types_append : TypeTrees → TypeTrees → TypeTrees
types_append no_types us = us
types_append (type_and t ts) us = type_and t (types_append ts us)

-- expressions after expressions
abbrev pub exprs_append : ExprTrees → ExprTrees → ExprTrees
exprs_append no_exprs fs = fs
exprs_append (expr_and e es) fs = expr_and e (exprs_append es fs)

-- one type more
abbrev pub type_last : TypeTrees → TypeTree → TypeTrees
type_last ts t = types_append ts (type_and t no_types)

-- one expression more
abbrev pub expr_last : ExprTrees → ExprTree → ExprTrees
expr_last es e = exprs_append es (expr_and e no_exprs)

-- after a prefix, where all that it ends is put together
abbrev pub prefix_read : PrefixStack → ProcessTree → ParserState
prefix_read (in_process k) p = after_prefix p k
prefix_read (in_new at x ty k) p = prefix_read k (new at x ty p)
prefix_read (in_qbit at x k) p = prefix_read k (qbit at x p)
prefix_read (in_act at e k) p = prefix_read k (act at e p)
prefix_read (in_input c ps k) p = prefix_read k (input c.at c ps p)
prefix_read (in_output c es k) p = prefix_read k (output c.at c es p)
prefix_read (in_then at e f k) p = else_wanted at e f p k
prefix_read (in_else at e f q k) p = prefix_read k (branch at e f q p)

-- after a process, at a `)`, a `;` or the end
abbrev pub process_read : ProcessStack → ProcessTree → Token → Option ParserState
process_read (in_group k) p (Symbol symbol.Close at) = Some (prefix_read k p)
process_read (in_right at q k) p t = process_read k (par at q p) t
process_read (in_body x ps ds) p (Symbol symbol.Semicolon at) =
    Some (definitions (ds ++ definition x ps p ∷ []))
process_read (in_main ds) p (End at) = Some (finished (record { defs = ds; main = p }))
process_read k p t = None

-- after an atom
abbrev pub atom_read : AtomStack → ExprTree → ParserState
atom_read (in_first k) e = after_sum e k
atom_read (in_plus f at k) e = after_sum (add at f e) k

-- after an expression
abbrev pub expr_read : ExprStack → ExprTree → Token → Option ParserState
expr_read (in_braces at k) e (Symbol symbol.CloseAct c) = Some (dot_wanted (in_act at e k))
expr_read (in_sig at k) e (Symbol symbol.Close c) = Some (atom_read k (sig at e))
expr_read (in_parens k) e (Symbol symbol.Close c) = Some (atom_read k e)
expr_read k e t = None

-- after an item
abbrev pub item_read : ItemStack → ExprTree → Token → Option ParserState
item_read (in_left at k) e (Symbol symbol.Equals c) = Some (item_wanted (in_right_side at e k))
item_read (in_right_side at e k) f (Reserved word.Then c) = Some (prefix_wanted (in_then at e f k))
item_read (in_list x es k) e (Symbol symbol.Comma c) =
    Some (item_wanted (in_list x (expr_last es e) k))
item_read (in_list x es k) e (Symbol symbol.CloseList c) =
    Some (dot_wanted (in_output x (expr_last es e) k))
item_read (in_expr k) e t = expr_read k e t
item_read k e t = None

-- after a sum
abbrev pub sum_read : SumStack → ExprTree → Token → Option ParserState
sum_read (in_item k) e t = item_read k e t
sum_read (in_operator xs k) e t = expr_read k (apply (first_at xs) xs e) t

-- after parameters
abbrev pub params_read : ParamsStack → List Parameter → Token → Option ParserState
params_read (in_heading x ds) ps (Symbol symbol.Close c) = Some (def_equals x ps ds)
params_read (in_params x k) ps (Symbol symbol.CloseList c) = Some (dot_wanted (in_input x ps k))
params_read k ps t = None

-- after a type
abbrev pub type_read : TypeStack → TypeTree → Token → Option ParserState
type_read (in_annotation at x k) ty (Symbol symbol.Close c) =
    Some (prefix_wanted (in_new at x ty k))
type_read (in_param ps x k) ty (Symbol symbol.Comma c) =
    Some (param_wanted (ps ++ parameter x ty ∷ []) k)
type_read (in_param ps x k) ty t = params_read k (ps ++ parameter x ty ∷ []) t
type_read (in_types ts k) ty (Symbol symbol.Comma c) =
    Some (type_wanted (in_types (type_last ts ty) k))
type_read (in_types ts k) ty (Symbol symbol.CloseList c) =
    Some (after_type (chan_type (type_last ts ty)) k)
type_read k ty t = None

-- at the first token of a type
abbrev pub type_start : TypeStack → Token → Option ParserState
type_start k (Reserved word.IntType at) = Some (after_type int_type k)
type_start k (Reserved word.UnitType at) = Some (after_type unit_type k)
type_start k (Reserved word.QbitType at) = Some (after_type qbit_type k)
type_start k (Reserved word.OpType at) = Some (op_open k)
type_start k (Symbol symbol.Caret at) = Some (chan_open k)
type_start k t = None

-- at the first token of an atom
abbrev pub atom_start : AtomStack → Token → Option ParserState
atom_start k (Number v at) = Some (atom_read k (number at v))
atom_start k (Reserved word.UnitValue at) = Some (atom_read k (unit at))
atom_start k (Name x at) = Some (atom_read k (name at x))
atom_start k (Reserved word.I at) = Some (atom_read k (gate at op.I))
atom_start k (Reserved word.X at) = Some (atom_read k (gate at op.X))
atom_start k (Reserved word.Y at) = Some (atom_read k (gate at op.Y))
atom_start k (Reserved word.Z at) = Some (atom_read k (gate at op.Z))
atom_start k (Reserved word.H at) = Some (atom_read k (gate at op.H))
atom_start k (Reserved word.S at) = Some (atom_read k (gate at op.S))
atom_start k (Reserved word.T at) = Some (atom_read k (gate at op.T))
atom_start k (Reserved word.CNot at) = Some (atom_read k (gate at op.CNot))
atom_start k (Reserved word.CZ at) = Some (atom_read k (gate at op.CZ))
atom_start k (Reserved word.Swap at) = Some (atom_read k (gate at op.Swap))
atom_start k (Reserved word.Toffoli at) = Some (atom_read k (gate at op.Toffoli))
atom_start k (Reserved word.Sig at) = Some (sig_open at k)
atom_start k (Symbol symbol.Open at) = Some (expr_wanted (in_parens k))
atom_start k t = None

-- at the first token of an item
abbrev pub item_start : ItemStack → Token → Option ParserState
item_start k (Reserved word.Measure at) = Some (measured_wanted at [] k)
item_start k t = atom_start (in_first (in_item k)) t

-- at the first token of an expression
abbrev pub expr_start : ExprStack → Token → Option ParserState
expr_start k (Name x at) = Some (expr_named (occurrence x at) k)
expr_start k t = item_start (in_expr k) t

-- at the first token of a prefix
abbrev pub prefix_start : PrefixStack → Token → Option ParserState
prefix_start k (Number zero at) = Some (prefix_read k (nil at))
prefix_start k (Symbol symbol.Open at) = Some (opened at k)
prefix_start k (Symbol symbol.OpenAct at) = Some (expr_wanted (in_braces at k))
prefix_start k (Name x at) = Some (named (occurrence x at) k)
prefix_start k (Reserved word.If at) = Some (item_wanted (in_left at k))
prefix_start k t = None

-- after a comma behind measured qubits
abbrev pub measure_goes_on : ℕ → List Occurrence → ItemStack → ParserState
measure_goes_on at xs (in_list x es k) = measured_comma at xs x es k
measure_goes_on at xs k = measured_wanted at xs k

-- one token more
abbrev pub token_read : ParserState → Token → Option ParserState
token_read (definitions ds) (Reserved word.Def at) = Some (def_name ds)
token_read (definitions ds) t = prefix_start (in_process (in_main ds)) t
token_read (def_name ds) (Name x at) = Some (def_open (occurrence x at) ds)
token_read (def_open x ds) (Symbol symbol.Open at) = Some (params_first (in_heading x ds))
token_read (def_equals x ps ds) (Symbol symbol.Equals at) =
    Some (prefix_wanted (in_process (in_body x ps ds)))
token_read (params_first k) (Name x at) = Some (param_colon [] (occurrence x at) k)
token_read (params_first k) t = params_read k [] t
token_read (param_wanted ps k) (Name x at) = Some (param_colon ps (occurrence x at) k)
token_read (param_colon ps x k) (Symbol symbol.Colon at) = Some (type_wanted (in_param ps x k))
token_read (type_wanted k) t = type_start k t
token_read (op_open k) (Symbol symbol.Open at) = Some (op_number k)
token_read (op_number k) (Number (suc zero) at) = Some (op_close 1 k)
token_read (op_number k) (Number (suc (suc zero)) at) = Some (op_close 2 k)
token_read (op_number k) (Number (suc (suc (suc zero))) at) = Some (op_close 3 k)
token_read (op_close v k) (Symbol symbol.Close at) = Some (after_type (op_type v) k)
token_read (chan_open k) (Symbol symbol.OpenList at) = Some (chan_first k)
token_read (chan_first k) (Symbol symbol.CloseList at) = Some (after_type (chan_type no_types) k)
token_read (chan_first k) t = type_start (in_types no_types k) t
token_read (after_type ty k) t = type_read k ty t
token_read (prefix_wanted k) t = prefix_start k t
token_read (opened o k) (Reserved word.New at) = Some (new_name o k)
token_read (opened o k) (Reserved word.MakeQbit at) = Some (qbit_name o k)
token_read (opened o k) t = prefix_start (in_process (in_group k)) t
token_read (new_name o k) (Name x at) = Some (new_colon o (occurrence x at) k)
token_read (new_colon o x k) (Symbol symbol.Colon at) = Some (type_wanted (in_annotation o x k))
token_read (qbit_name o k) (Name x at) = Some (qbit_close o (occurrence x at) k)
token_read (qbit_close o x k) (Symbol symbol.Close at) = Some (prefix_wanted (in_qbit o x k))
token_read (named x k) (Symbol symbol.Question at) = Some (input_open x k)
token_read (named x k) (Symbol symbol.Bang at) = Some (output_open x k)
token_read (named x k) (Symbol symbol.Open at) = Some (call_first x k)
token_read (input_open x k) (Symbol symbol.OpenList at) = Some (params_first (in_params x k))
token_read (output_open x k) (Symbol symbol.OpenList at) = Some (output_first x k)
token_read (output_first x k) (Symbol symbol.CloseList at) =
    Some (dot_wanted (in_output x no_exprs k))
token_read (output_first x k) t = item_start (in_list x no_exprs k) t
token_read (call_first x k) (Name y at) = Some (call_after x (occurrence y at ∷ []) k)
token_read (call_first x k) (Symbol symbol.Close at) = Some (prefix_read k (call x.at x.name []))
token_read (call_wanted x ys k) (Name y at) = Some (call_after x (ys ++ occurrence y at ∷ []) k)
token_read (call_after x ys k) (Symbol symbol.Comma at) = Some (call_wanted x ys k)
token_read (call_after x ys k) (Symbol symbol.Close at) = Some (prefix_read k (call x.at x.name ys))
token_read (dot_wanted k) (Symbol symbol.Dot at) = Some (prefix_wanted k)
token_read (else_wanted at e f p k) (Reserved word.Else c) =
    Some (prefix_wanted (in_else at e f p k))
token_read (expr_wanted k) t = expr_start k t
token_read (expr_named x k) (Symbol symbol.Comma at) = Some (applied_wanted (x ∷ []) k)
token_read (expr_named x k) (Symbol symbol.Applies at) =
    Some (atom_wanted (in_first (in_operator (x ∷ []) k)))
token_read (expr_named x k) (Symbol symbol.Plus at) =
    Some (atom_wanted (in_plus (name x.at x.name) at (in_item (in_expr k))))
token_read (expr_named x k) t = expr_read k (name x.at x.name) t
token_read (applied_wanted xs k) (Name x at) = Some (applied_after (xs ++ occurrence x at ∷ []) k)
token_read (applied_after xs k) (Symbol symbol.Comma at) = Some (applied_wanted xs k)
token_read (applied_after xs k) (Symbol symbol.Applies at) =
    Some (atom_wanted (in_first (in_operator xs k)))
token_read (item_wanted k) t = item_start k t
token_read (measured_wanted at xs k) (Name x n) = Some (measured_after at (xs ++ occurrence x n
    ∷ []) k)
token_read (measured_after at xs k) (Symbol symbol.Comma c) = Some (measure_goes_on at xs k)
token_read (measured_after at xs k) t = item_read k (measure at xs) t
token_read (measured_comma at xs x es k) (Name y n) =
    Some (measured_after at (xs ++ occurrence y n ∷ []) (in_list x es k))
token_read (measured_comma at xs x es k) t =
    item_start (in_list x (expr_last es (measure at xs)) k) t
token_read (atom_wanted k) t = atom_start k t
token_read (sig_open at k) (Symbol symbol.Open c) = Some (expr_wanted (in_sig at k))
token_read (after_sum e k) (Symbol symbol.Plus at) = Some (atom_wanted (in_plus e at k))
token_read (after_sum e k) t = sum_read k e t
token_read (after_prefix p k) (Symbol symbol.Bar at) =
    Some (prefix_wanted (in_process (in_right at p k)))
token_read (after_prefix p k) t = process_read k p t
token_read c t = None
