-- Which trees have a text, and when trees or tokens are the same but for offsets.
use Rattle.std.specs.Prelude.{◌≡◌, ◌^◌, ◌<◌, List, [], ◌∷◌, map}
use Rattle.cqp_syntax.specs.Gates.{IsPlaceCount}
use Rattle.cqp_syntax.specs.TypeTrees.{TypeTree, op_type, chan_type, TypeTrees, no_types, type_and}
use Rattle.cqp_grammar.specs.declared.token.Token.{Token}
use Rattle.cqp_grammar.specs.declared.token.Token.TheVariants.{Name, Number, Reserved, Symbol, Bad}
use Rattle.cqp_grammar.specs.declared.token.Token.TheVariants.{End}
use Rattle.cqp_grammar.specs.Spelling.{IsName}
use Rattle.cqp_grammar.specs.Trees.{Occurrence, Parameter, ExprTree, number, unit, name, gate, sig}
use Rattle.cqp_grammar.specs.Trees.{add, apply, measure, ExprTrees, no_exprs, expr_and, ProcessTree}
use Rattle.cqp_grammar.specs.Trees.{nil, par, new, qbit, act, input, output, branch, call}
use Rattle.cqp_grammar.specs.Trees.{DefinitionTree, ProgramTree}

-- each of the words is a name
abbrev pub AreNames : List Occurrence → Type 0
AreNames [] = Unit {0}
AreNames (x ∷ xs) = IsName x.name × AreNames xs

-- there is one at least, and each is a name
abbrev pub AreSomeNames : List Occurrence → Type 0
AreSomeNames [] = ⊥
AreSomeNames (x ∷ xs) = IsName x.name × AreNames xs

abbrev mutual
  -- each `Op` has one, two or three places
  pub IsPrintableType : TypeTree → Type 0
  IsPrintableType (op_type places) = IsPlaceCount places
  IsPrintableType (chan_type ts) = ArePrintableTypes ts
  IsPrintableType t = Unit {0}

  -- each of the types is so
  pub ArePrintableTypes : TypeTrees → Type 0
  ArePrintableTypes no_types = Unit {0}
  ArePrintableTypes (type_and t ts) = IsPrintableType t × ArePrintableTypes ts

-- names, and types that are printable
abbrev pub ArePrintableParams : List Parameter → Type 0
ArePrintableParams [] = Unit {0}
ArePrintableParams (p ∷ ps) = IsName p.name × IsPrintableType p.ty × ArePrintableParams ps

-- numbers are below 2^32, and what is applied or measured has an operand
abbrev pub IsPrintableExpr : ExprTree → Type 0
IsPrintableExpr (number at v) = v < 2 ^ 32
IsPrintableExpr (name at x) = IsName x
IsPrintableExpr (sig at e) = IsPrintableExpr e
IsPrintableExpr (add at e f) = IsPrintableExpr e × IsPrintableExpr f
IsPrintableExpr (apply at xs e) = AreSomeNames xs × IsPrintableExpr e
IsPrintableExpr (measure at xs) = AreSomeNames xs
IsPrintableExpr e = Unit {0}

-- each of the expressions is printable
abbrev pub ArePrintableExprs : ExprTrees → Type 0
ArePrintableExprs no_exprs = Unit {0}
ArePrintableExprs (expr_and e es) = IsPrintableExpr e × ArePrintableExprs es

-- each name, type, number and expression in it is printable
abbrev pub IsPrintableProcess : ProcessTree → Type 0
IsPrintableProcess (nil at) = Unit {0}
IsPrintableProcess (par at p q) = IsPrintableProcess p × IsPrintableProcess q
IsPrintableProcess (new at x ty p) = IsName x.name × IsPrintableType ty × IsPrintableProcess p
IsPrintableProcess (qbit at x p) = IsName x.name × IsPrintableProcess p
IsPrintableProcess (act at e p) = IsPrintableExpr e × IsPrintableProcess p
IsPrintableProcess (input at c ps p) =
    IsName c.name × ArePrintableParams ps × IsPrintableProcess p
IsPrintableProcess (output at c es p) =
    IsName c.name × ArePrintableExprs es × IsPrintableProcess p
IsPrintableProcess (branch at e f p q) =
    IsPrintableExpr e × IsPrintableExpr f × IsPrintableProcess p × IsPrintableProcess q
IsPrintableProcess (call at f xs) = IsName f × AreNames xs

-- names, parameters and bodies that are printable
abbrev pub ArePrintableDefinitions : List DefinitionTree → Type 0
ArePrintableDefinitions [] = Unit {0}
ArePrintableDefinitions (d ∷ ds) = IsName d.name × ArePrintableParams d.params
    × IsPrintableProcess d.body × ArePrintableDefinitions ds

-- the tree has a text
pub record IsPrintable (t : ProgramTree) : Type 0 where
  pub defs : ArePrintableDefinitions t.defs
  pub main : IsPrintableProcess t.main

-- 0 for each offset: in a name, a parameter, expressions, processes and definitions
abbrev pub unplaced_name : Occurrence → Occurrence
unplaced_name x = record { name = x.name; at = 0 }

-- a parameter at offset 0
abbrev pub unplaced_param : Parameter → Parameter
unplaced_param p = record { name = p.name; at = 0; ty = p.ty }

-- an expression at offset 0
abbrev pub unplaced_expr : ExprTree → ExprTree
unplaced_expr (number at v) = number 0 v
unplaced_expr (unit at) = unit 0
unplaced_expr (name at x) = name 0 x
unplaced_expr (gate at u) = gate 0 u
unplaced_expr (sig at e) = sig 0 (unplaced_expr e)
unplaced_expr (add at e f) = add 0 (unplaced_expr e) (unplaced_expr f)
unplaced_expr (apply at xs e) = apply 0 (map unplaced_name xs) (unplaced_expr e)
unplaced_expr (measure at xs) = measure 0 (map unplaced_name xs)

-- expressions at offset 0
abbrev pub unplaced_exprs : ExprTrees → ExprTrees
unplaced_exprs no_exprs = no_exprs
unplaced_exprs (expr_and e es) = expr_and (unplaced_expr e) (unplaced_exprs es)

-- a process at offset 0
abbrev pub unplaced_process : ProcessTree → ProcessTree
unplaced_process (nil at) = nil 0
unplaced_process (par at p q) = par 0 (unplaced_process p) (unplaced_process q)
unplaced_process (new at x ty p) = new 0 (unplaced_name x) ty (unplaced_process p)
unplaced_process (qbit at x p) = qbit 0 (unplaced_name x) (unplaced_process p)
unplaced_process (act at e p) = act 0 (unplaced_expr e) (unplaced_process p)
unplaced_process (input at c ps p) =
    input 0 (unplaced_name c) (map unplaced_param ps) (unplaced_process p)
unplaced_process (output at c es p) =
    output 0 (unplaced_name c) (unplaced_exprs es) (unplaced_process p)
unplaced_process (branch at e f p q) =
    branch 0 (unplaced_expr e) (unplaced_expr f) (unplaced_process p) (unplaced_process q)
unplaced_process (call at f xs) = call 0 f (map unplaced_name xs)

-- a definition at offset 0
abbrev pub unplaced_definition : DefinitionTree → DefinitionTree
unplaced_definition d = record
    { name = d.name; at = 0; params = map unplaced_param d.params; body = unplaced_process d.body }

-- the tree with 0 for each offset
abbrev pub unplaced : ProgramTree → ProgramTree
unplaced t = record { defs = map unplaced_definition t.defs; main = unplaced_process t.main }

-- the trees differ in offsets alone
abbrev pub SameButOffsets : ProgramTree → ProgramTree → Type 0
SameButOffsets a b = unplaced a ≡ unplaced b

-- the token at offset 0
abbrev pub unplaced_token : Token → Token
unplaced_token (Name text at) = Name text 0
unplaced_token (Number v at) = Number v 0
unplaced_token (Reserved k at) = Reserved k 0
unplaced_token (Symbol s at) = Symbol s 0
unplaced_token (Bad at) = Bad 0
unplaced_token (End at) = End 0

-- the tokens differ in offsets alone
abbrev pub SameTokensButOffsets : List Token → List Token → Type 0
SameTokensButOffsets ts us = map unplaced_token ts ≡ map unplaced_token us
