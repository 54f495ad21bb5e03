-- Each step behind parameters and types can be taken.
use Rattle.std.proofs.Common.{ℕ, List, [], ◌∷◌, ◌++◌, ◌≡◌, inl, inr, refl}
use Rattle.std.proofs.Common.{subst, append_assoc, Some}
use Rattle.cqp_syntax.specs.TypeTrees.{TypeTree, no_types, int_type, unit_type, qbit_type, op_type}
use Rattle.cqp_syntax.specs.TypeTrees.{chan_type}
use Rattle.cqp_grammar.specs.declared.token.Token.{Token}
use Rattle.cqp_grammar.specs.declared.token.Token.TheVariants.{Reserved, Symbol}
use Rattle.cqp_grammar.specs.declared.token.ReservedWord.TheVariants as word
use Rattle.cqp_grammar.specs.declared.token.SymbolKind.TheVariants as symbol
use Rattle.cqp_grammar.specs.Trees.{Parameter}
use Rattle.cqp_grammar.specs.Trees.{ProgramTree}
use Rattle.cqp_grammar.specs.Grammar.{IsType}
use Rattle.cqp_grammar.specs.Grammar.{IsTypes, int, unit_, qbit_ as type_qbit}
use Rattle.cqp_grammar.specs.Grammar.{op_}
use Rattle.cqp_grammar.specs.Grammar.{chan_none, chan_some}
use Rattle.cqp_grammar.specs.Stacks.{in_new, in_input}
use Rattle.cqp_grammar.specs.Stacks.{ParamsStack, in_heading, in_params}
use Rattle.cqp_grammar.specs.Stacks.{TypeStack, in_annotation, in_param, in_types}
use Rattle.cqp_grammar.specs.ParserStates.{ParserState, def_equals, param_wanted, type_wanted}
use Rattle.cqp_grammar.specs.ParserStates.{op_open, chan_open, after_type, prefix_wanted}
use Rattle.cqp_grammar.specs.ParserStates.{dot_wanted}
use Rattle.cqp_grammar.specs.Moves.{type_last}
use Rattle.cqp_grammar.specs.Moves.{params_read}
use Rattle.cqp_grammar.specs.Trees.{parameter}
use Rattle.cqp_grammar.specs.Moves.{type_read, type_start}
use Rattle.cqp_grammar.specs.Completes.{ThenSymbol, Reads}
use Rattle.cqp_grammar.specs.Completes.{ParamsEnds, TypeEnds, Completes}
use Rattle.cqp_grammar.proofs.Ends.{types_assoc}
use Rattle.cqp_grammar.proofs.Ends.{wanted_types}
use Rattle.cqp_grammar.proofs.StepsBack.{arrives}

-- after parameters
pub params_read_back : (t : ProgramTree) (k : ParamsStack) (ps : List Parameter) (tok : Token) (d : ParserState) (ts : List Token) → params_read k ps tok
    ≡ Some d
    → Completes d ts t → ParamsEnds t k ps (tok ∷ ts)
params_read_back t (in_heading x ds) ps (Symbol symbol.Close at) d ts same h = (at, ts, refl, arrives t ts (def_equals x ps ds) d same h)
params_read_back t (in_heading x ds) ps tok d ts same h = absurd (cc same)
params_read_back t (in_params x k) ps (Symbol symbol.CloseList at) d ts same h = (at, ts, refl, arrives t ts (dot_wanted (in_input x ps k)) d same h)
params_read_back t (in_params x k) ps tok d ts same h = absurd (cc same)

-- at the first token of a type
places_back : (t : ProgramTree) (k : TypeStack) (at : ℕ) (ts : List Token) → Completes (op_open k) ts t
    → Reads IsType (TypeEnds t k) (Reserved word.OpType at ∷ ts)
places_back t k at ts (o, m1, is1, (v, n, m2, is2, which, (c, m3, is3, e))) = rw (is1, is2, is3) (op_type v, m3, op_ which, e)

-- the parts behind `^` complete a type
chan_back : (t : ProgramTree) (k : TypeStack) (at : ℕ) (ts : List Token) → Completes (chan_open k) ts t
    → Reads IsType (TypeEnds t k) (Symbol symbol.Caret at ∷ ts)
chan_back t k at ts (o, m1, is1, inl (c, m2, is2, e)) = rw (is1, is2) (chan_type no_types, m2, chan_none, e)
chan_back t k at ts (o, m1, is1, inr (us, r, h, (c, m2, is2, e))) = rw is1 (chan_type us, m2, chan_some (subst (λ r. IsTypes m1 us r) is2 h), e)

-- what completes the first step of a type completes the type
pub type_back : (t : ProgramTree) (k : TypeStack) (tok : Token) (d : ParserState) (ts : List Token) → type_start k tok ≡ Some d → Completes d ts t
    → Reads IsType (TypeEnds t k) (tok ∷ ts)
type_back t k (Reserved word.IntType at) d ts same h = (int_type, ts, int, arrives t ts (after_type int_type k) d same h)
type_back t k (Reserved word.UnitType at) d ts same h = (unit_type, ts, unit_, arrives t ts (after_type unit_type k) d same h)
type_back t k (Reserved word.QbitType at) d ts same h = (qbit_type, ts, type_qbit, arrives t ts (after_type qbit_type k) d same h)
type_back t k (Reserved word.OpType at) d ts same h = places_back t k at ts (arrives t ts (op_open k) d same h)
type_back t k (Symbol symbol.Caret at) d ts same h = chan_back t k at ts (arrives t ts (chan_open k) d same h)
type_back t k tok d ts same h = absurd (cc same)

-- after a type
pub type_read_back : (t : ProgramTree) (k : TypeStack) (ty : TypeTree) (tok : Token) (d : ParserState) (ts : List Token) → type_read k ty tok ≡ Some d
    → Completes d ts t → TypeEnds t k ty (tok ∷ ts)
type_read_back t (in_annotation n x k) ty (Symbol symbol.Close at) d ts same h = (at, ts, refl, arrives t ts (prefix_wanted (in_new n x ty k)) d same h)
type_read_back t (in_annotation n x k) ty tok d ts same h = absurd (cc same)
type_read_back t (in_param ps x k) ty (Symbol symbol.Comma at) d ts same h =
    let (qs, rest, more, ends) = arrives t ts (param_wanted (ps ++ parameter x ty ∷ []) k) d same h in
    inr (at, ts, refl, (qs, rest, more, subst (λ l. ParamsEnds t k l rest) (append_assoc ps _ qs) ends))
type_read_back t (in_param ps x k) ty tok d ts same h = inl (params_read_back t k (ps ++ parameter x ty ∷ []) tok d ts same h)
type_read_back t (in_types us k) ty (Symbol symbol.Comma at) d ts same h =
    let (vs, rest, more, ends) = wanted_types t (type_last us ty) k (arrives t ts (type_wanted (in_types (type_last us ty) k)) d same h) in
    inr (at, ts, refl, (vs, rest, more, subst (λ l. ThenSymbol symbol.CloseList (λ r. TypeEnds t k (chan_type l) r) rest) (types_assoc us ty vs) ends))
type_read_back t (in_types us k) ty (Symbol symbol.CloseList at) d ts same h =
    inl (at, ts, refl, arrives t ts (after_type (chan_type (type_last us ty)) k) d same h)
type_read_back t (in_types us k) ty tok d ts same h = absurd (cc same)
