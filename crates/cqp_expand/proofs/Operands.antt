-- Law: what is applied or measured in a program's process has an operand.
use Rattle.std.proofs.Common.{◌≡◌, ℕ, ◌+◌, ◌<◌, List, [], ◌∷◌, ◌++◌, map, length, Bool, true, false, nat_lt, bytes_eq, refl, arith}
use Rattle.std.proofs.lemmas.List.{length-map}
use Rattle.std.proofs.lemmas.Bool.Decides.{nat_tests}
use Rattle.std.specs.List.{list_all}
use Rattle.cqp_syntax.specs.declared.node.Node.{Node}
use Rattle.cqp_syntax.specs.declared.val.Val.TheVariants as val
use Rattle.cqp_syntax.specs.TypeTrees.{qbit_type}
use Rattle.cqp_syntax.specs.Trees.{Slot, named, valued, Expr, slot, sig, add, apply, measure, Process, nil, par, new, qbit, act, input, output, branch}
use Rattle.cqp_syntax.specs.Preorder.{name_of, expr_nodes, exprs_nodes, process_nodes}
use Rattle.cqp_syntax.specs.Listing.{has_operands}
use Rattle.cqp_grammar.specs.Trees as tree
use Rattle.cqp_grammar.specs.Trees.{Occurrence, ExprTree, ExprTrees, ProcessTree, DefinitionTree, ProgramTree}
use Rattle.cqp_grammar.specs.CanonicalTrees.{AreSomeNames, IsPrintableExpr, ArePrintableExprs, IsPrintableProcess, ArePrintableDefinitions, IsPrintable}
use Rattle.cqp_expand.specs.Scopes.{Scope, below, below_all}
use Rattle.cqp_expand.specs.Renaming.{rename_slot, rename_expr, rename}
use Rattle.cqp_expand.specs.Expansion.{Template, template_of, template, templates_after, binder_count, argument_or_later, numbers_in, expr_in, exprs_in}
use Rattle.cqp_expand.specs.Expansion.{process_in, copy_of, expansion}

-- the expression has operands
abbrev FullExpr : Expr → Type 0
FullExpr (slot s) = Unit {0}
FullExpr (sig e) = FullExpr e
FullExpr (add e f) = FullExpr e × FullExpr f
FullExpr (apply qs e) = (0 < length qs) × FullExpr e
FullExpr (measure qs) = 0 < length qs

-- so do expressions
abbrev FullExprs : List Expr → Type 0
FullExprs [] = Unit {0}
FullExprs (e ∷ es) = FullExpr e × FullExprs es

-- each expression of the process has operands
abbrev Full : Process → Type 0
Full nil = Unit {0}
Full (par p q) = Full p × Full q
Full (new b p) = Full p
Full (qbit x p) = Full p
Full (act e p) = FullExpr e × Full p
Full (input c bs p) = Full p
Full (output c es p) = FullExprs es × Full p
Full (branch e f p q) = FullExpr e × (FullExpr f × (Full p × Full q))

-- a list that is mapped is not empty
as_many : {X Y : Type 0} (f : X → Y) (xs : List X) → 0 < length xs → 0 < length (map f xs)
as_many f xs h = omega (arith, h, length-map xs f)

-- a printable expression in a scope
some_names : (s : Scope) (xs : List Occurrence) → AreSomeNames xs → 0 < length (map named (numbers_in s xs))
some_names s [] h = absurd h
some_names s (x ∷ xs) h = omega arith

-- an expression
full_expr : (s : Scope) (e : ExprTree) → IsPrintableExpr e → FullExpr (expr_in s e)
full_expr s (tree.number at v) h = tt
full_expr s (tree.unit at) h = tt
full_expr s (tree.name at x) h = tt
full_expr s (tree.gate at op) h = tt
full_expr s (tree.sig at e) h = full_expr s e h
full_expr s (tree.add at e f) h = (full_expr s e h.0, full_expr s f h.1)
full_expr s (tree.apply at xs e) h = (some_names s xs h.0, full_expr s e h.1)
full_expr s (tree.measure at xs) h = some_names s xs h

-- expressions
full_exprs : (s : Scope) (es : ExprTrees) → ArePrintableExprs es → FullExprs (exprs_in s es)
full_exprs s tree.no_exprs h = tt
full_exprs s (tree.expr_and e es) h = (full_expr s e h.0, full_exprs s es h.1)

module _ (r : ℕ → ℕ) where
  -- a renamed expression
  expr_renamed : (e : Expr) → FullExpr e → FullExpr (rename_expr r e)
  expr_renamed (slot s) h = tt
  expr_renamed (sig e) h = expr_renamed e h
  expr_renamed (add e f) h = (expr_renamed e h.0, expr_renamed f h.1)
  expr_renamed (apply qs e) h = (as_many (rename_slot r) qs h.0, expr_renamed e h.1)
  expr_renamed (measure qs) h = as_many (rename_slot r) qs h

  -- renamed expressions
  exprs_renamed : (es : List Expr) → FullExprs es → FullExprs (map (rename_expr r) es)
  exprs_renamed [] h = tt
  exprs_renamed (e ∷ es) h = (expr_renamed e h.0, exprs_renamed es h.1)

  -- a renamed process has operands too
  renamed : (p : Process) → Full p → Full (rename r p)
  renamed nil h = tt
  renamed (par p q) h = (renamed p h.0, renamed q h.1)
  renamed (new b p) h = renamed p h
  renamed (qbit x p) h = renamed p h
  renamed (act e p) h = (expr_renamed e h.0, renamed p h.1)
  renamed (input c bs p) h = renamed p h
  renamed (output c es p) h = (exprs_renamed es h.0, renamed p h.1)
  renamed (branch e f p q) h = (expr_renamed e h.0, (expr_renamed f h.1.0, (renamed p h.1.1.0, renamed q h.1.1.1)))

-- the templates have operands
abbrev AllFull : List Template → Type 0
AllFull [] = Unit {0}
AllFull (t ∷ ts) = Full t.body × AllFull ts

-- a call's copy has operands
full_copy : (args : List ℕ) (n : ℕ) (ts : List Template) (f : List ℕ) → AllFull ts → Full (copy_of args n (template_of ts f))
full_copy args n [] f a = tt
full_copy args n (t ∷ ts) f a = by (bytes_eq t.text f) refl (full_copy args n ts f a.1)
  where
    by : (b : Bool) → bytes_eq t.text f ≡ b → Full (copy_of args n (template_of ts f)) → Full (copy_of args n (template_of (t ∷ ts) f))
    by true e later = rw e (renamed (argument_or_later args n) t.body a.0)
    by false e later = rw e later

-- a printable process in a scope
full_process : (ts : List Template) (s : Scope) (n : ℕ) (p : ProcessTree) → AllFull ts → IsPrintableProcess p → Full (process_in ts s n p)
full_process ts s n (tree.nil at) a h = tt
full_process ts s n (tree.par at p q) a h = (full_process ts s n p a h.0, full_process ts s (n + binder_count (process_in ts s n p)) q a h.1)
full_process ts s n (tree.new at x t p) a h = full_process ts (below s n x.name t) (n + 1) p a h.2
full_process ts s n (tree.qbit at x p) a h = full_process ts (below s n x.name qbit_type) (n + 1) p a h.1
full_process ts s n (tree.act at e p) a h = (full_expr s e h.0, full_process ts s n p a h.1)
full_process ts s n (tree.input at c ps p) a h = full_process ts (below_all s n ps) (n + length ps) p a h.2
full_process ts s n (tree.output at c es p) a h = (full_exprs s es h.1, full_process ts s n p a h.2)
full_process ts s n (tree.branch at e f p q) a h =
    (full_expr s e h.0, (full_expr s f h.1, (full_process ts s n p a h.2, full_process ts s (n + binder_count (process_in ts s n p)) q a h.3)))
full_process ts s n (tree.call at f xs) a h = full_copy (numbers_in s xs) n ts f a

-- the templates of printable definitions
full_templates : (ts : List Template) (defs : List DefinitionTree) → AllFull ts → ArePrintableDefinitions defs → AllFull (templates_after ts defs)
full_templates ts [] a h = a
full_templates ts (d ∷ defs) a h = full_templates (template ts d ∷ ts) defs (full_process ts (below_all [] 0 d.params) (length d.params) d.body a h.2, a) h.3

-- the test of two parts
both : (xs ys : List Node) → list_all has_operands xs ≡ true → list_all has_operands ys ≡ true → list_all has_operands (xs ++ ys) ≡ true
both [] ys h g = g
both (x ∷ xs) ys h g = by (has_operands x) refl (λ l. both xs ys l g)
  where
    fails : false ≡ true → ⊥
    fails e = cc

    by : (b : Bool) → has_operands x ≡ b → (list_all has_operands xs ≡ true → list_all has_operands (xs ++ ys) ≡ true)
        → list_all has_operands (x ∷ (xs ++ ys)) ≡ true
    by true e later = rw e (later (rw e at h))
    by false e later = absurd (fails (rw e at h))

-- a number above 0 passes the test
passes : (n : ℕ) → 0 < n → nat_lt 0 n ≡ true
passes n h = grind (arith, nat_tests)

-- the names of operands
named_operands : (qs : List Slot) → 0 < length qs → nat_lt 0 (length (map name_of qs)) ≡ true
named_operands qs h = passes (length (map name_of qs)) (as_many name_of qs h)

-- the nodes of an expression
expr_operands : (e : Expr) (i : ℕ) → FullExpr e → list_all has_operands (expr_nodes i e) ≡ true
expr_operands (slot (named x)) i h = refl
expr_operands (slot (valued (val.Num v))) i h = refl
expr_operands (slot (valued val.Unit)) i h = refl
expr_operands (slot (valued (val.Gate op))) i h = refl
expr_operands (slot (valued (val.Qubit q))) i h = refl
expr_operands (slot (valued (val.Chan c))) i h = refl
expr_operands (sig e) i h = expr_operands e _ h
expr_operands (add e f) i h = both (expr_nodes _ e) (expr_nodes _ f) (expr_operands e _ h.0) (expr_operands f _ h.1)
expr_operands (apply qs e) i h = rw (named_operands qs h.0) (expr_operands e _ h.1)
expr_operands (measure qs) i h = rw (named_operands qs h) refl

-- the nodes of expressions
exprs_operands : (es : List Expr) (i : ℕ) → FullExprs es → list_all has_operands (exprs_nodes i es) ≡ true
exprs_operands [] i h = refl
exprs_operands (e ∷ es) i h = both (expr_nodes _ e) (exprs_nodes _ es) (expr_operands e _ h.0) (exprs_operands es _ h.1)

-- the nodes of a process
operands : (p : Process) (i : ℕ) → Full p → list_all has_operands (process_nodes i p) ≡ true
operands nil i h = refl
operands (par p q) i h = both (process_nodes _ p) (process_nodes _ q) (operands p _ h.0) (operands q _ h.1)
operands (new b p) i h = operands p _ h
operands (qbit x p) i h = operands p _ h
operands (act e p) i h = both (expr_nodes _ e) (process_nodes _ p) (expr_operands e _ h.0) (operands p _ h.1)
operands (input c bs p) i h = operands p _ h
operands (output c es p) i h = both (exprs_nodes _ es) (process_nodes _ p) (exprs_operands es _ h.0) (operands p _ h.1)
operands (branch e f p q) i h =
    both (expr_nodes _ e) _ (expr_operands e _ h.0) (both (expr_nodes _ f) _ (expr_operands f _ h.1.0) (both (process_nodes _ p) (process_nodes _ q)
    (operands p _ h.1.1.0) (operands q _ h.1.1.1)))

-- what is applied or measured in a program's process has an operand
pub expansion_operands : (t : ProgramTree) → IsPrintable t → list_all has_operands (process_nodes 0 (expansion t)) ≡ true
expansion_operands t h = operands (expansion t) 0 (full_process (templates_after [] t.defs) [] 0 t.main (full_templates [] t.defs tt h.defs) h.main)
