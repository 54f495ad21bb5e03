-- Each canonical token of a printable tree has a spelling.
use Rattle.std.proofs.Common.{ℕ, ◌<◌, ◌^◌, List, [], ◌∷◌, ◌++◌, inl, inr, Bool, true}
use Rattle.std.proofs.Common.{false, arith}
use Rattle.std.specs.Prelude.{if◌then◌else◌}
use Rattle.cqp_syntax.specs.Gates.{IsPlaceCount}
use Rattle.cqp_syntax.specs.TypeTrees.{TypeTree, int_type, unit_type, qbit_type, op_type, chan_type}
use Rattle.cqp_syntax.specs.TypeTrees.{TypeTrees, no_types, type_and}
use Rattle.cqp_grammar.specs.declared.token.Token.{Token}
use Rattle.cqp_grammar.specs.declared.token.Token.TheVariants.{Name}
use Rattle.cqp_grammar.specs.Trees.{Occurrence, Parameter, ExprTree, number, unit, name, gate, sig}
use Rattle.cqp_grammar.specs.Trees.{add, apply, measure, ExprTrees, no_exprs, expr_and, ProcessTree}
use Rattle.cqp_grammar.specs.Trees.{nil, par, new, qbit, act, input, output, branch, call}
use Rattle.cqp_grammar.specs.Trees.{DefinitionTree, ProgramTree}
use Rattle.cqp_grammar.specs.Canonical.{in_parentheses, names_tokens, type_tokens, types_tokens}
use Rattle.cqp_grammar.specs.Canonical.{params_tokens, Position, enclosed, last, inner, behind_plus}
use Rattle.cqp_grammar.specs.Canonical.{has_parentheses, expr_tokens, expr_at, placed, items_tokens}
use Rattle.cqp_grammar.specs.Canonical.{as_body, process_tokens, definition_tokens}
use Rattle.cqp_grammar.specs.Canonical.{definitions_tokens, program_tokens}
use Rattle.cqp_grammar.specs.CanonicalTrees.{AreNames, AreSomeNames, IsPrintableType}
use Rattle.cqp_grammar.specs.CanonicalTrees.{ArePrintableTypes, ArePrintableParams, IsPrintableExpr}
use Rattle.cqp_grammar.specs.CanonicalTrees.{ArePrintableExprs, IsPrintableProcess}
use Rattle.cqp_grammar.specs.CanonicalTrees.{ArePrintableDefinitions, IsPrintable}
use Rattle.cqp_grammar.proofs.CanonicalLexes.{IsSpelled, AreSpelled}

-- spelled in a row
joined : (ts us : List Token) → AreSpelled ts → AreSpelled us → AreSpelled (ts ++ us)
joined [] us none more = more
joined (t ∷ ts) us all more = (all.0, joined ts us all.1 more)

-- parentheses round spelled tokens are spelled
in_parentheses_spelled : (ts : List Token) → AreSpelled ts → AreSpelled (in_parentheses ts)
in_parentheses_spelled ts all = (tt, joined ts _ all (tt, tt))

-- the tokens of each kind of printable tree have spellings
names_spelled : (xs : List Occurrence) → AreNames xs → AreSpelled (names_tokens xs)
names_spelled [] ok = tt
names_spelled (x ∷ []) ok = (ok.0, tt)
names_spelled (x ∷ y ∷ ys) ok = (ok.0, (tt, names_spelled (y ∷ ys) ok.1))

-- the tokens of names are spelled
some_names_spelled : (xs : List Occurrence) → AreSomeNames xs → AreSpelled (names_tokens xs)
some_names_spelled [] ok = absurd ok
some_names_spelled (x ∷ xs) ok = names_spelled (x ∷ xs) ok

-- how many places a gate has is a number of a text
place_count_small : (n : ℕ) → IsPlaceCount n → n < 2 ^ 32
place_count_small n (inl one) = omega (arith, one)
place_count_small n (inr (inl two)) = omega (arith, two)
place_count_small n (inr (inr three)) = omega (arith, three)

mutual
  -- the tokens of a type are spelled
  type_spelled : (t : TypeTree) → IsPrintableType t → AreSpelled (type_tokens t)
  type_spelled int_type ok = (tt, tt)
  type_spelled unit_type ok = (tt, tt)
  type_spelled qbit_type ok = (tt, tt)
  type_spelled (op_type places) ok = (tt, (tt, (place_count_small places ok, (tt, tt))))
  type_spelled (chan_type us) ok = (tt, (tt, joined (types_tokens us) _ (types_spelled us ok) (tt, tt)))

  -- the tokens of types are spelled
  types_spelled : (us : TypeTrees) → ArePrintableTypes us → AreSpelled (types_tokens us)
  types_spelled no_types ok = tt
  types_spelled (type_and t no_types) ok = type_spelled t ok.0
  types_spelled (type_and t (type_and u us)) ok = joined (type_tokens t) _ (type_spelled t ok.0) (tt, types_spelled (type_and u us) ok.1)

-- the tokens of parameters are spelled
params_spelled : (ps : List Parameter) → ArePrintableParams ps → AreSpelled (params_tokens ps)
params_spelled [] ok = tt
params_spelled (p ∷ []) ok = (ok.0, (tt, type_spelled p.ty ok.1))
params_spelled (p ∷ q ∷ qs) ok = (ok.0, (tt, joined (type_tokens p.ty) _ (type_spelled p.ty ok.1) (tt, params_spelled (q ∷ qs) ok.2)))

-- with parentheses or without
chosen_spelled : (grouped : Bool) (ts : List Token) → AreSpelled ts → AreSpelled (if grouped then in_parentheses ts else ts)
chosen_spelled true ts all = in_parentheses_spelled ts all
chosen_spelled false ts all = all

-- at each position the tokens of an expression stay spelled
placed_spelled : (position : Position) (e : ExprTree) (ts : List Token) → AreSpelled ts → AreSpelled (placed position e ts)
placed_spelled position e ts all = chosen_spelled (has_parentheses e position) ts all

-- the tokens of an expression are spelled
expr_spelled : (e : ExprTree) → IsPrintableExpr e → AreSpelled (expr_tokens e)
expr_spelled (number at v) ok = (ok, tt)
expr_spelled (unit at) ok = (tt, tt)
expr_spelled (name at x) ok = (ok, tt)
expr_spelled (gate at u) ok = (tt, tt)
expr_spelled (sig at e) ok = (tt, in_parentheses_spelled (expr_tokens e) (expr_spelled e ok))
expr_spelled (add at e f) ok = joined (expr_at inner e) _ (placed_spelled inner e (expr_tokens e) (expr_spelled e ok.0))
    (tt, placed_spelled behind_plus f (expr_tokens f) (expr_spelled f ok.1))
expr_spelled (apply at xs e) ok = joined (names_tokens xs) _ (some_names_spelled xs ok.0) (tt, placed_spelled inner e (expr_tokens e) (expr_spelled e ok.1))
expr_spelled (measure at xs) ok = (tt, some_names_spelled xs ok)

-- the tokens of an expression at a position are spelled
expr_at_spelled : (position : Position) (e : ExprTree) → IsPrintableExpr e → AreSpelled (expr_at position e)
expr_at_spelled position e ok = placed_spelled position e (expr_tokens e) (expr_spelled e ok)

-- the tokens of items are spelled
items_spelled : (es : ExprTrees) → ArePrintableExprs es → AreSpelled (items_tokens es)
items_spelled no_exprs ok = tt
items_spelled (expr_and e no_exprs) ok = expr_at_spelled last e ok.0
items_spelled (expr_and e (expr_and f fs)) ok = joined (expr_at inner e) _ (expr_at_spelled inner e ok.0) (tt, items_spelled (expr_and f fs) ok.1)

-- the tokens of a body are spelled, with parentheses or without
body_spelled : (p : ProcessTree) (ts : List Token) → AreSpelled ts → AreSpelled (as_body p ts)
body_spelled (par at p q) ts all = in_parentheses_spelled ts all
body_spelled (nil at) ts all = all
body_spelled (new at x ty p) ts all = all
body_spelled (qbit at x p) ts all = all
body_spelled (act at e p) ts all = all
body_spelled (input at c ps p) ts all = all
body_spelled (output at c es p) ts all = all
body_spelled (branch at e f p q) ts all = all
body_spelled (call at f xs) ts all = all

-- the tokens of a process are spelled
process_spelled : (p : ProcessTree) → IsPrintableProcess p → AreSpelled (process_tokens p)
process_spelled (nil at) ok = (omega arith, tt)
process_spelled (par at p q) ok = joined (as_body p (process_tokens p)) _ (body_spelled p _ (process_spelled p ok.0)) (tt, process_spelled q ok.1)
process_spelled (new at x ty p) ok =
    (tt, (tt, (ok.0, (tt, joined (type_tokens ty) _ (type_spelled ty ok.1) (tt, body_spelled p _ (process_spelled p ok.2))))))
process_spelled (qbit at x p) ok = (tt, (tt, (ok.0, (tt, body_spelled p _ (process_spelled p ok.1)))))
process_spelled (act at e p) ok = (tt, joined (expr_at enclosed e) _ (expr_at_spelled enclosed e ok.0) (tt, (tt, body_spelled p _ (process_spelled p ok.1))))
process_spelled (input at c ps p) ok =
    (ok.0, (tt, (tt, joined (params_tokens ps) _ (params_spelled ps ok.1) (tt, (tt, body_spelled p _ (process_spelled p ok.2))))))
process_spelled (output at c es p) ok =
    (ok.0, (tt, (tt, joined (items_tokens es) _ (items_spelled es ok.1) (tt, (tt, body_spelled p _ (process_spelled p ok.2))))))
process_spelled (branch at e f p q) ok = (
  tt,
  joined (expr_at last e) _ (expr_at_spelled last e ok.0) (
    tt,
    joined (expr_at last f) _ (expr_at_spelled last f ok.1)
        (tt, joined (as_body p (process_tokens p)) _ (body_spelled p _ (process_spelled p ok.2)) (tt, body_spelled q _ (process_spelled q ok.3))),
  ),
)
process_spelled (call at f xs) ok = (ok.0, in_parentheses_spelled (names_tokens xs) (names_spelled xs ok.1))

-- the tokens of a definition are spelled
definition_spelled : (d : DefinitionTree) → ArePrintableParams d.params → IsPrintableProcess d.body
    → IsSpelled (Name d.name 0) → AreSpelled (definition_tokens d)
definition_spelled d ps body named = (
  tt,
  (
    named,
    (
      tt,
      joined (params_tokens d.params) _ (params_spelled d.params ps)
          (tt, (tt, joined (process_tokens d.body) _ (process_spelled d.body body) (tt, tt))),
    ),
  ),
)

-- the tokens of definitions are spelled
definitions_spelled : (ds : List DefinitionTree) → ArePrintableDefinitions ds → AreSpelled (definitions_tokens ds)
definitions_spelled [] ok = tt
definitions_spelled (d ∷ ds) ok = joined (definition_tokens d) _ (definition_spelled d ok.1 ok.2 ok.0) (definitions_spelled ds ok.3)

-- the tokens of a printable program have spellings
pub program_spelled : (t : ProgramTree) → IsPrintable t → AreSpelled (program_tokens t)
program_spelled t ok = joined (definitions_tokens t.defs) _ (definitions_spelled t.defs ok.defs) (process_spelled t.main ok.main)
