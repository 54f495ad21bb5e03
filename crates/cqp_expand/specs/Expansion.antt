-- The process that a program without scope faults stands for: each call is replaced by a copy of
-- its definition's body, with the arguments in the places of the parameters, and binders are
-- numbered in preorder.
use Rattle.std.specs.Prelude.{ℕ, ◌+◌, ◌-◌, List, [], ◌∷◌, ◌++◌, map, length, Option, Some, None}
use Rattle.std.specs.Prelude.{if◌then◌else◌, bytes_eq, nat_lt, slice_index}
use Rattle.cqp_syntax.specs.declared.val.Val.TheVariants as val
use Rattle.cqp_syntax.specs.TypeTrees.{qbit_type}
use Rattle.cqp_syntax.specs.Trees.{named, Expr, slot, sig, add, apply, measure, value}
use Rattle.cqp_syntax.specs.Trees.{Binder, Process, nil, par, new, qbit, act, input, output, branch}
use Rattle.cqp_syntax.specs.Binders.{binders_of}
use Rattle.cqp_grammar.specs.Trees as tree
use Rattle.cqp_grammar.specs.Trees.{Occurrence, Parameter, ExprTree, ExprTrees, ProcessTree}
use Rattle.cqp_grammar.specs.Trees.{DefinitionTree, ProgramTree}
use Rattle.cqp_program.specs.Listing.{expr_offsets, exprs_offsets}
use Rattle.cqp_expand.specs.Scopes.{Bound, Scope, find, below, below_all}
use Rattle.cqp_expand.specs.Renaming.{rename}

-- the number of a bound name
abbrev pub number_of : Option Bound → ℕ
number_of None = 0
number_of (Some b) = b.number

-- the number of a name in a scope
abbrev pub number_in : Scope → List ℕ → ℕ
number_in s x = number_of (find s x)

-- the numbers of names in a scope
abbrev pub numbers_in : Scope → List Occurrence → List ℕ
numbers_in s xs = map (λ x. number_in s x.name) xs

-- an expression in a scope
abbrev mutual
  pub expr_in : Scope → ExprTree → Expr
  expr_in s (tree.number at v) = value (val.Num v)
  expr_in s (tree.unit at) = value val.Unit
  expr_in s (tree.name at x) = slot (named (number_in s x))
  expr_in s (tree.gate at op) = value (val.Gate op)
  expr_in s (tree.sig at e) = sig (expr_in s e)
  expr_in s (tree.add at e f) = add (expr_in s e) (expr_in s f)
  expr_in s (tree.apply at xs e) = apply (map named (numbers_in s xs)) (expr_in s e)
  expr_in s (tree.measure at xs) = measure (map named (numbers_in s xs))

  pub exprs_in : Scope → ExprTrees → List Expr
  exprs_in s tree.no_exprs = []
  exprs_in s (tree.expr_and e es) = expr_in s e ∷ exprs_in s es

-- parameters as binders, the first with number n
abbrev pub binders_from : ℕ → List Parameter → List Binder
binders_from n [] = []
binders_from n (p ∷ ps) = record { name = n; ty = p.ty } ∷ binders_from (n + 1) ps

-- a definition as a process, with its parameters numbered from 0 and its binders behind them, and
-- the offsets of the nodes
pub record Template : Type 0 where
  pub text : List ℕ
  pub arity : ℕ
  pub body : Process
  pub at : List ℕ

-- the first template of the name; the last definition stands first
abbrev pub template_of : List Template → List ℕ → Option Template
template_of [] f = None
template_of (t ∷ ts) f = if bytes_eq t.text f then Some t else template_of ts f

-- the arguments in the places of the parameters, and binders numbered from n on
abbrev pub argument_or_later : List ℕ → ℕ → ℕ → ℕ
argument_or_later args n x =
    if nat_lt x (length args) then slice_index args x else n + (x - length args)

-- a copy of a template's body
abbrev pub copy_of : List ℕ → ℕ → Option Template → Process
copy_of args n None = nil
copy_of args n (Some t) = rename (argument_or_later args n) t.body

-- the offsets of a template's nodes
abbrev pub offsets_of : Option Template → List ℕ
offsets_of None = []
offsets_of (Some t) = t.at

-- how many names a process binds
abbrev pub binder_count : Process → ℕ
binder_count p = length (binders_of p)

-- a process in a scope, with the templates of the definitions before it; its first binder has
-- number n
abbrev pub process_in : List Template → Scope → ℕ → ProcessTree → Process
process_in ts s n (tree.nil at) = nil
process_in ts s n (tree.par at p q) =
    let left = process_in ts s n p in
    par left (process_in ts s (n + binder_count left) q)
process_in ts s n (tree.new at x t p) =
    new (record { name = n; ty = t }) (process_in ts (below s n x.name t) (n + 1) p)
process_in ts s n (tree.qbit at x p) =
    qbit n (process_in ts (below s n x.name qbit_type) (n + 1) p)
process_in ts s n (tree.act at e p) = act (expr_in s e) (process_in ts s n p)
process_in ts s n (tree.input at c ps p) =
    input (named (number_in s c.name)) (binders_from n ps)
    (process_in ts (below_all s n ps) (n + length ps) p)
process_in ts s n (tree.output at c es p) =
    output (named (number_in s c.name)) (exprs_in s es) (process_in ts s n p)
process_in ts s n (tree.branch at e f p q) =
    let first = process_in ts s n p in
    branch (expr_in s e) (expr_in s f) first (process_in ts s (n + binder_count first) q)
process_in ts s n (tree.call at f xs) = copy_of (numbers_in s xs) n (template_of ts f)

-- the offsets of its nodes; a copied node keeps its offset in the definition
abbrev pub offsets_in : List Template → ProcessTree → List ℕ
offsets_in ts (tree.nil at) = at ∷ []
offsets_in ts (tree.par at p q) = at ∷ (offsets_in ts p ++ offsets_in ts q)
offsets_in ts (tree.new at x t p) = at ∷ offsets_in ts p
offsets_in ts (tree.qbit at x p) = at ∷ offsets_in ts p
offsets_in ts (tree.act at e p) = at ∷ (expr_offsets e ++ offsets_in ts p)
offsets_in ts (tree.input at c ps p) = at ∷ offsets_in ts p
offsets_in ts (tree.output at c es p) = at ∷ (exprs_offsets es ++ offsets_in ts p)
offsets_in ts (tree.branch at e f p q) =
    at ∷ (expr_offsets e ++ (expr_offsets f ++ (offsets_in ts p ++ offsets_in ts q)))
offsets_in ts (tree.call at f xs) = offsets_of (template_of ts f)

-- the template of a definition behind others
abbrev pub template : List Template → DefinitionTree → Template
template ts d = record {
  text = d.name;
  arity = length d.params;
  body = process_in ts (below_all [] 0 d.params) (length d.params) d.body;
  at = offsets_in ts d.body;
}

-- the templates of definitions, the last one first
abbrev pub templates_after : List Template → List DefinitionTree → List Template
templates_after ts [] = ts
templates_after ts (d ∷ ds) = templates_after (template ts d ∷ ts) ds

-- the process of a program, and the offsets of its nodes
abbrev pub expansion : ProgramTree → Process
expansion t = process_in (templates_after [] t.defs) [] 0 t.main

-- the offsets of its nodes
abbrev pub expansion_offsets : ProgramTree → List ℕ
expansion_offsets t = offsets_in (templates_after [] t.defs) t.main
