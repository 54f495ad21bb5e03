-- The faults of scope: names under no binder, calls of unknown definitions or with other arguments
-- than the parameters, and names that stand twice.
use Rattle.std.specs.Prelude.{ℕ, List, [], ◌∷◌, ◌++◌, Bool, true, false, nat_eq, length, map}
use Rattle.std.specs.Prelude.{Option, Some, None, if◌then◌else◌, bytes_eq}
use Rattle.std.specs.List.{list_any}
use Rattle.cqp_syntax.specs.TypeTrees.{TypeTree, qbit_type, same_type}
use Rattle.cqp_grammar.specs.Trees as tree
use Rattle.cqp_grammar.specs.Trees.{Occurrence, Parameter, ExprTree, ExprTrees, ProcessTree}
use Rattle.cqp_grammar.specs.Trees.{DefinitionTree, ProgramTree}
use Rattle.cqp_expand.specs.declared.fault.ScopeFault.{ScopeFault}
use Rattle.cqp_expand.specs.declared.fault.FaultKind.{FaultKind}
use Rattle.cqp_expand.specs.declared.fault.FaultKind.TheVariants as kind
use Rattle.cqp_expand.specs.Scopes.{Bound, Scope, find, below, below_all}

-- what a call needs to know of a definition
pub record Signature : Type 0 where
  pub text : List ℕ
  pub params : List TypeTree

-- the last definition of the name; the last one stands first
abbrev pub signature_of : List Signature → List ℕ → Option Signature
signature_of [] f = None
signature_of (d ∷ ds) f = if bytes_eq d.text f then Some d else signature_of ds f

-- the fault of the kind at the offset, where the test fails
abbrev pub unless : Bool → FaultKind → ℕ → List ScopeFault
unless true k n = []
unless false k n = record { at = n; kind = k } ∷ []

-- a name under no binder
abbrev pub unbound_at : Option Bound → ℕ → List ScopeFault
unbound_at None n = record { at = n; kind = kind.Unbound } ∷ []
unbound_at (Some b) n = []

-- of a name where it stands
abbrev pub name_faults : Scope → Occurrence → List ScopeFault
name_faults s x = unbound_at (find s x.name) x.at

-- of names, one after the other
abbrev pub names_faults : Scope → List Occurrence → List ScopeFault
names_faults s [] = []
names_faults s (x ∷ xs) = name_faults s x ++ names_faults s xs

-- of the names in an expression
abbrev pub expr_faults : Scope → ExprTree → List ScopeFault
expr_faults s (tree.name at x) = unbound_at (find s x) at
expr_faults s (tree.sig at e) = expr_faults s e
expr_faults s (tree.add at e f) = expr_faults s e ++ expr_faults s f
expr_faults s (tree.apply at xs e) = names_faults s xs ++ expr_faults s e
expr_faults s (tree.measure at xs) = names_faults s xs
expr_faults s e = []

-- of the names in expressions
abbrev pub exprs_faults : Scope → ExprTrees → List ScopeFault
exprs_faults s tree.no_exprs = []
exprs_faults s (tree.expr_and e es) = expr_faults s e ++ exprs_faults s es

-- an argument with another type than the parameter
abbrev pub type_faults : Option Bound → TypeTree → ℕ → List ScopeFault
type_faults None t n = []
type_faults (Some b) t n = unless (same_type b.ty t) kind.ParamType n

-- of arguments and parameters that stand at one place
abbrev pub types_faults : Scope → List Occurrence → List TypeTree → List ScopeFault
types_faults s (x ∷ xs) (t ∷ ts) = type_faults (find s x.name) t x.at ++ types_faults s xs ts
types_faults s xs ts = []

-- a call at the offset
abbrev pub call_faults : Scope → ℕ → List Occurrence → Option Signature → List ScopeFault
call_faults s n xs None = record { at = n; kind = kind.UnknownDef } ∷ []
call_faults s n xs (Some d) =
    unless (nat_eq (length xs) (length d.params)) kind.Arity n ++ types_faults s xs d.params

-- the names of a parameter list that repeat an earlier one
abbrev pub repeats : List (List ℕ) → List Parameter → List ScopeFault
repeats earlier [] = []
repeats earlier (p ∷ ps) =
    (if list_any (bytes_eq p.name) earlier then record { at = p.at; kind = kind.Twice } ∷ []
    else []) ++ repeats (p.name ∷ earlier) ps

-- a process in a scope, behind these definitions; the numbers of binders do not matter here
abbrev pub process_faults : List Signature → Scope → ProcessTree → List ScopeFault
process_faults ds s (tree.nil at) = []
process_faults ds s (tree.par at p q) = process_faults ds s p ++ process_faults ds s q
process_faults ds s (tree.new at x t p) = process_faults ds (below s 0 x.name t) p
process_faults ds s (tree.qbit at x p) = process_faults ds (below s 0 x.name qbit_type) p
process_faults ds s (tree.act at e p) = expr_faults s e ++ process_faults ds s p
process_faults ds s (tree.input at c ps p) =
    name_faults s c ++ (repeats [] ps ++ process_faults ds (below_all s 0 ps) p)
process_faults ds s (tree.output at c es p) =
    name_faults s c ++ (exprs_faults s es ++ process_faults ds s p)
process_faults ds s (tree.branch at e f p q) =
    expr_faults s e ++ (expr_faults s f ++ (process_faults ds s p ++ process_faults ds s q))
process_faults ds s (tree.call at f xs) =
    names_faults s xs ++ call_faults s at xs (signature_of ds f)

-- what calls know of a definition
abbrev pub signature : DefinitionTree → Signature
signature d = record { text = d.name; params = map (λ p. p.ty) d.params }

-- a definition behind others
abbrev pub definition_faults : List Signature → DefinitionTree → List ScopeFault
definition_faults ds d =
    (if list_any (λ e. bytes_eq d.name e.text) ds then record { at = d.at; kind = kind.Twice } ∷ []
    else []) ++ (repeats [] d.params ++ process_faults ds (below_all [] 0 d.params) d.body)

-- of definitions behind others, and of the main process
abbrev pub program_faults : List Signature → List DefinitionTree → ProcessTree → List ScopeFault
program_faults ds [] main = process_faults ds [] main
program_faults ds (d ∷ more) main =
    definition_faults ds d ++ program_faults (signature d ∷ ds) more main

-- the faults of a program; each definition is tested, called or not
abbrev pub scope_faults : ProgramTree → List ScopeFault
scope_faults t = program_faults [] t.defs t.main
