-- The canonical tokens of names, types, parameters and expressions are derivable, at any offsets.
use Rattle.std.proofs.Common.{ℕ, List, [], ◌∷◌, ◌≡◌, refl, ap, ap₂, subst, map}
use Rattle.cqp_syntax.specs.declared.op.Op.{Op}
use Rattle.cqp_syntax.specs.declared.op.Op.TheVariants as op
use Rattle.cqp_syntax.specs.TypeTrees.{TypeTree, int_type, unit_type, qbit_type, op_type, chan_type}
use Rattle.cqp_syntax.specs.TypeTrees.{TypeTrees, no_types, type_and}
use Rattle.cqp_grammar.specs.declared.token.Token.{Token}
use Rattle.cqp_grammar.specs.declared.token.Token.TheVariants.{Reserved, Symbol}
use Rattle.cqp_grammar.specs.declared.token.ReservedWord.TheVariants as word
use Rattle.cqp_grammar.specs.declared.token.SymbolKind.TheVariants as symbol
use Rattle.cqp_grammar.specs.Trees.{Occurrence, Parameter, ExprTree, number, unit, name, gate, sig}
use Rattle.cqp_grammar.specs.Trees.{add, apply, measure, ExprTrees, no_exprs, expr_and}
use Rattle.cqp_grammar.specs.Grammar.{gate_word, StartsWithMeasure, IsNames, one_name, more_names}
use Rattle.cqp_grammar.specs.Grammar.{IsType, int, unit_, qbit_, op_, chan_none, chan_some, IsTypes}
use Rattle.cqp_grammar.specs.Grammar.{one_type, more_types, IsParams, one_param, more_params}
use Rattle.cqp_grammar.specs.Grammar.{IsExpr, applied, plain, IsItem, measured, summed, IsSum}
use Rattle.cqp_grammar.specs.Grammar.{one_atom, more_atoms, IsAtom, a_number, a_unit, a_name}
use Rattle.cqp_grammar.specs.Grammar.{a_gate, a_sig, a_group, IsItems, one_item, more_items}
use Rattle.cqp_grammar.specs.Canonical.{in_parentheses, names_tokens, type_tokens, types_tokens}
use Rattle.cqp_grammar.specs.Canonical.{params_tokens, Position, enclosed, last, inner, behind_plus}
use Rattle.cqp_grammar.specs.Canonical.{expr_tokens, expr_at, items_tokens}
use Rattle.cqp_grammar.specs.CanonicalTrees.{IsPrintableType, ArePrintableTypes, ArePrintableParams}
use Rattle.cqp_grammar.specs.CanonicalTrees.{IsPrintableExpr, ArePrintableExprs, unplaced_name}
use Rattle.cqp_grammar.specs.CanonicalTrees.{unplaced_param, unplaced_expr, unplaced_exprs}
use Rattle.cqp_grammar.proofs.CanonicalKinds.{Leads, ends, goes, like_name, like_number, like_reserved}
use Rattle.cqp_grammar.proofs.CanonicalKinds.{like_symbol, leads_symbol}

-- some names
pub names_derive : (x : Occurrence) (xs : List Occurrence) {ts rest : List Token} → Leads (names_tokens (x ∷ xs)) ts rest
    → (ys : List Occurrence) × IsNames ts ys rest × (map unplaced_name ys ≡ map unplaced_name (x ∷ xs))
names_derive x [] (goes like_name ends) = (_, one_name, refl)
names_derive x (y ∷ ys) (goes like_name (goes like_symbol h)) =
    let (zs, is, same) = names_derive y ys h in (_, more_names is, ap (λ os. unplaced_name x ∷ os) same)

-- what is derivable of a list of types: nothing of the empty one
abbrev TypesDerive : TypeTrees → List Token → List Token → Type 0
TypesDerive no_types ts rest = Unit {0}
TypesDerive (type_and u us) ts rest = IsTypes ts (type_and u us) rest

-- a channel's type with its brackets
chan_ends : {us : TypeTrees} {at o c : ℕ} {ts more rest : List Token} → IsTypes ts us (Symbol symbol.CloseList c ∷ more)
    → Leads [] more rest → IsType (Symbol symbol.Caret at ∷ Symbol symbol.OpenList o ∷ ts) (chan_type us) rest
chan_ends is ends = chan_some is

mutual
  -- the tokens of a printable type are read as that type
  pub type_derives : (t : TypeTree) {ts rest : List Token} → IsPrintableType t → Leads (type_tokens t) ts rest → IsType ts t rest
  type_derives int_type ok (goes like_reserved ends) = int
  type_derives unit_type ok (goes like_reserved ends) = unit_
  type_derives qbit_type ok (goes like_reserved ends) = qbit_
  type_derives (op_type places) ok (goes like_reserved (goes like_symbol (goes like_number (goes like_symbol ends)))) = op_ ok
  type_derives (chan_type no_types) ok (goes like_symbol (goes like_symbol (goes like_symbol ends))) = chan_none
  type_derives (chan_type (type_and u us)) ok (goes like_symbol (goes like_symbol h)) =
      let (at, more, front, back) = leads_symbol (types_tokens (type_and u us)) h in
      chan_ends (types_derive (type_and u us) ok front) back

  -- the tokens of printable types are read as those types
  types_derive : (us : TypeTrees) {ts rest : List Token} → ArePrintableTypes us → Leads (types_tokens us) ts rest → TypesDerive us ts rest
  types_derive no_types ok h = tt
  types_derive (type_and t no_types) ok h = one_type (type_derives t ok.0 h)
  types_derive (type_and t (type_and u us)) ok h =
      let (at, more, front, back) = leads_symbol (type_tokens t) h in
      more_types (type_derives t ok.0 front) (types_derive (type_and u us) ok.1 back)

-- some parameters
pub params_derive : (p : Parameter) (ps : List Parameter) {ts rest : List Token} → ArePrintableParams (p ∷ ps) → Leads (params_tokens (p ∷ ps)) ts rest
    → (qs : List Parameter) × IsParams ts qs rest × (map unplaced_param qs ≡ map unplaced_param (p ∷ ps))
params_derive p [] ok (goes like_name (goes like_symbol h)) = (_, one_param (type_derives p.ty ok.1 h), refl)
params_derive p (q ∷ qs) ok (goes like_name (goes like_symbol h)) =
    let (at, more, front, back) = leads_symbol (type_tokens p.ty) h in
    let (rs, is, same) = params_derive q qs ok.2 back in
    (_, more_params (type_derives p.ty ok.1 front) is, ap (λ os. unplaced_param p ∷ os) same)

-- the rule of an expression at a position
abbrev pub IsAt : Position → List Token → ExprTree → List Token → Type 0
IsAt enclosed ts e rest = IsExpr ts e rest
IsAt last ts e rest = IsItem ts e rest
IsAt inner ts e rest = IsSum ts e rest
IsAt behind_plus ts e rest = IsAtom ts e rest

-- where the expression stands without parentheses
abbrev pub offset_of : ExprTree → Position
offset_of (apply at xs e) = enclosed
offset_of (measure at xs) = last
offset_of (add at e f) = inner
offset_of e = behind_plus

-- derivable there, as a tree that is the same but for offsets
abbrev pub ExprAt : Position → ExprTree → List Token → List Token → Type 0
ExprAt position e ts rest = (f : ExprTree) × IsAt position ts f rest × (unplaced_expr f ≡ unplaced_expr e)

-- what stands anywhere stands in `{ }`
to_expr : (position : Position) {ts rest : List Token} {e : ExprTree} → IsAt position ts e rest → IsExpr ts e rest
to_expr enclosed is = is
to_expr last is = plain is
to_expr inner is = plain (summed is)
to_expr behind_plus is = plain (summed (one_atom is))

-- an atom stands anywhere
of_atom : (position : Position) {ts rest : List Token} {e : ExprTree} → IsAtom ts e rest → IsAt position ts e rest
of_atom enclosed is = plain (summed (one_atom is))
of_atom last is = summed (one_atom is)
of_atom inner is = one_atom is
of_atom behind_plus is = is

-- the tokens of an expression are derivable where it needs no parentheses
abbrev pub Derives : ExprTree → Type 0
Derives e = (ts rest : List Token) → Leads (expr_tokens e) ts rest → ExprAt (offset_of e) e ts rest

-- an expression in parentheses
closes : {e : ExprTree} {o c : ℕ} {ts more rest : List Token}
    → IsExpr ts e (Symbol symbol.Close c ∷ more) → Leads [] more rest → IsAtom (Symbol symbol.Open o ∷ ts) e rest
closes is ends = a_group is

-- `sig` with its parentheses
sig_closes : {e : ExprTree} {at o c : ℕ} {ts more rest : List Token} → IsExpr ts e (Symbol symbol.Close c ∷ more) → Leads [] more rest
    → IsAtom (Reserved word.Sig at ∷ Symbol symbol.Open o ∷ ts) (sig at e) rest
sig_closes is ends = a_sig is

-- in parentheses it stands anywhere
grouped : (position : Position) (e : ExprTree) {ts rest : List Token} → Derives e → Leads (in_parentheses (expr_tokens e)) ts rest → ExprAt position e ts rest
grouped position e d (goes like_symbol h) =
    let (at, more, front, back) = leads_symbol (expr_tokens e) h in
    let (f, is, same) = d _ _ front in
    (f, of_atom position (closes (to_expr (offset_of e) is) back), same)

-- an atom at a position
from_atom : (position : Position) (e : ExprTree) {ts rest : List Token} → ExprAt behind_plus e ts rest → ExprAt position e ts rest
from_atom position e (f, is, same) = (f, of_atom position is, same)

-- an expression at a position
pub at_place : (position : Position) (e : ExprTree) {ts rest : List Token} → Derives e → Leads (expr_at position e) ts rest → ExprAt position e ts rest
at_place enclosed (apply at xs e) d h = d _ _ h
at_place last (apply at xs e) d h = grouped last (apply at xs e) d h
at_place inner (apply at xs e) d h = grouped inner (apply at xs e) d h
at_place behind_plus (apply at xs e) d h = grouped behind_plus (apply at xs e) d h
at_place enclosed (measure at xs) d h = let (f, is, same) = d _ _ h in (f, plain is, same)
at_place last (measure at xs) d h = d _ _ h
at_place inner (measure at xs) d h = grouped inner (measure at xs) d h
at_place behind_plus (measure at xs) d h = grouped behind_plus (measure at xs) d h
at_place enclosed (add at e f) d h = let (g, is, same) = d _ _ h in (g, plain (summed is), same)
at_place last (add at e f) d h = let (g, is, same) = d _ _ h in (g, summed is, same)
at_place inner (add at e f) d h = d _ _ h
at_place behind_plus (add at e f) d h = grouped behind_plus (add at e f) d h
at_place position e d h = from_atom position e (d _ _ h)

-- each expression without parentheses of its own
pub expr_derives : (e : ExprTree) → IsPrintableExpr e → Derives e
expr_derives (number at v) ok _ _ (goes like_number ends) = (_, a_number, refl)
expr_derives (unit at) ok _ _ (goes like_reserved ends) = (_, a_unit, refl)
expr_derives (name at x) ok _ _ (goes like_name ends) = (_, a_name, refl)
expr_derives (gate at u) ok _ _ (goes like_reserved ends) = (_, a_gate refl, refl)
expr_derives (sig at e) ok _ _ (goes like_reserved (goes like_symbol h)) =
    let (c, more, front, back) = leads_symbol (expr_tokens e) h in
    let (f, is, same) = expr_derives e ok _ _ front in
    (_, sig_closes (to_expr (offset_of e) is) back, ap (sig 0) same)
expr_derives (add at e f) ok _ _ h =
    let (plus, more, front, back) = leads_symbol (expr_at inner e) h in
    let (g, left, same) = at_place inner e (expr_derives e ok.0) front in
    let (r, right, also) = at_place behind_plus f (expr_derives f ok.1) back in
    (_, more_atoms left right, ap₂ (add 0) same also)
expr_derives (apply at [] e) ok _ _ h = absurd ok.0
expr_derives (apply at (x ∷ xs) e) ok _ _ h =
    let (c, more, front, back) = leads_symbol (names_tokens (x ∷ xs)) h in
    let (ys, names, same) = names_derive x xs front in
    let (f, is, also) = at_place inner e (expr_derives e ok.1) back in
    (_, applied names is, ap₂ (apply 0) same also)
expr_derives (measure at []) ok _ _ h = absurd ok
expr_derives (measure at (x ∷ xs)) ok _ _ (goes like_reserved h) = let (ys, names, same) = names_derive x xs h in (_, measured names, ap (measure 0) same)

-- an expression at a position, of its tokens
pub expr_at_derives : (position : Position) (e : ExprTree) {ts rest : List Token} → IsPrintableExpr e → Leads (expr_at position e) ts rest
    → ExprAt position e ts rest
expr_at_derives position e ok h = at_place position e (expr_derives e ok) h

-- a sum doesn't begin with `measure`
gate_is_other : (u : Op) (at : ℕ) (rest : List Token) → StartsWithMeasure (Reserved (gate_word u) at ∷ rest) → ⊥
gate_is_other op.I at rest h = h
gate_is_other op.X at rest h = h
gate_is_other op.Y at rest h = h
gate_is_other op.Z at rest h = h
gate_is_other op.H at rest h = h
gate_is_other op.S at rest h = h
gate_is_other op.T at rest h = h
gate_is_other op.CNot at rest h = h
gate_is_other op.CZ at rest h = h
gate_is_other op.Swap at rest h = h
gate_is_other op.Toffoli at rest h = h

-- an atom doesn't begin with `measure`
atom_is_other : {ts rest : List Token} {e : ExprTree} → IsAtom ts e rest → StartsWithMeasure ts → ⊥
atom_is_other a_number h = h
atom_is_other a_unit h = h
atom_is_other a_name h = h
atom_is_other (a_gate {at = at} {rest = rest} {u = u} same) h = gate_is_other u at rest (subst (λ k. StartsWithMeasure (Reserved k at ∷ rest)) same h)
atom_is_other (a_sig is) h = h
atom_is_other (a_group is) h = h

-- a sum doesn't begin with `measure`
sum_is_other : {ts rest : List Token} {e : ExprTree} → IsSum ts e rest → StartsWithMeasure ts → ⊥
sum_is_other (one_atom is) h = atom_is_other is h
sum_is_other (more_atoms is more) h = sum_is_other is h

-- some items
pub items_derive : (e : ExprTree) (es : ExprTrees) {ts rest : List Token} → ArePrintableExprs (expr_and e es) → Leads (items_tokens (expr_and e es)) ts rest
    → (fs : ExprTrees) × IsItems ts fs rest × (unplaced_exprs fs ≡ unplaced_exprs (expr_and e es))
items_derive e no_exprs ok h = let (f, is, same) = expr_at_derives last e ok.0 h in (_, one_item is, ap (λ g. expr_and g no_exprs) same)
items_derive e (expr_and f fs) ok h =
    let (c, more, front, back) = leads_symbol (expr_at inner e) h in
    let (g, is, same) = expr_at_derives inner e ok.0 front in
    let (gs, are, also) = items_derive f fs ok.1 back in
    (_, more_items (summed is) (λ begins named. sum_is_other is begins) are, ap₂ expr_and same also)
