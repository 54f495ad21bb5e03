-- The faults of a part are its own and those of what is left behind its node. The numbers of the
-- binders in a scope do not matter for them.
use Rattle.std.proofs.Common.{◌≡◌, ℕ, ◌+◌, List, [], ◌∷◌, ◌++◌, length, nat_eq, Bool, true, false}
use Rattle.std.proofs.Common.{bytes_eq, Option, Some, None, refl, sym, ◌∙◌, ap, ap₂, append_assoc}
use Rattle.std.proofs.Common.{append-nil}
use Rattle.std.specs.Prelude.{if◌then◌else◌}
use Rattle.std.specs.Option.{option_map}
use Rattle.cqp_syntax.specs.TypeTrees.{TypeTree, qbit_type}
use Rattle.cqp_grammar.specs.Trees.{Occurrence, Parameter, ExprTree, ExprTrees, number, unit, name, gate}
use Rattle.cqp_grammar.specs.Trees.{sig, add, apply, measure, no_exprs, expr_and, ProcessTree, nil, par}
use Rattle.cqp_grammar.specs.Trees.{new, qbit, act, input, output, branch, call}
use Rattle.cqp_expand.specs.declared.fault.FaultKind.TheVariants as kind
use Rattle.cqp_expand.specs.Scopes.{Bound, Scope, find, below, below_all}
use Rattle.cqp_expand.specs.Faults.{Signature, signature_of, unless, unbound_at, name_faults, names_faults}
use Rattle.cqp_expand.specs.Faults.{expr_faults, exprs_faults, type_faults, types_faults, call_faults, repeats, process_faults}
use Rattle.cqp_expand.proofs.Subtrees.{Subtree, process, expr, faults_of, bound_at, own_faults}
use Rattle.cqp_expand.proofs.Kids.{items, args, kids, left_faults}

-- scopes that differ in numbers alone
abbrev pub Alike : Scope → Scope → Type 0
Alike [] [] = Unit {0}
Alike (a ∷ s) (b ∷ u) = (a.text ≡ b.text) × (a.ty ≡ b.ty) × Alike s u
Alike s u = ⊥

-- a scope and itself
pub alike_same : (s : Scope) → Alike s s
alike_same [] = tt
alike_same (b ∷ s) = (refl, refl, alike_same s)

-- below the same parameters they differ in numbers alone
pub alike_below : (s u : Scope) (m n : ℕ) (ps : List Parameter) → Alike s u → Alike (below_all s m ps) (below_all u n ps)
alike_below s u m n [] a = a
alike_below s u m n (p ∷ ps) a = alike_below (below s m p.name p.ty) (below u n p.name p.ty) (m + 1) (n + 1) ps (refl, refl, a)

-- what a name means but for its number
abbrev type_in : Scope → List ℕ → Option TypeTree
type_in s x = option_map (λ b. b.ty) (find s x)

-- the type of what is chosen
chosen : (t : Bool) (b : Bound) (o : Option Bound) → option_map (λ y. y.ty) (if t then Some b else o) ≡ (if t then Some b.ty else option_map (λ y. y.ty) o)
chosen true b o = refl
chosen false b o = refl

-- a name has the same type in both
types_alike : (s u : Scope) (x : List ℕ) → Alike s u → type_in s x ≡ type_in u x
types_alike [] [] x a = refl
types_alike [] (b ∷ u) x a = absurd a
types_alike (b ∷ s) [] x a = absurd a
types_alike (b ∷ s) (c ∷ u) x a =
    chosen (bytes_eq b.text x) b (find s x)
    ∙ ap₂ (λ (t : List ℕ) (r : Option TypeTree). if bytes_eq t x then Some b.ty else r) a.0 (types_alike s u x a.2)
    ∙ ap (λ (r : TypeTree). if bytes_eq c.text x then Some r else type_in u x) a.1 ∙ sym (chosen (bytes_eq c.text x) c (find u x))

-- whether a name is bound does not turn on its number
unbound_same : (o r : Option Bound) (n : ℕ) → option_map (λ b. b.ty) o ≡ option_map (λ b. b.ty) r → unbound_at o n ≡ unbound_at r n
unbound_same None None n e = refl
unbound_same (Some b) (Some c) n e = refl
unbound_same None (Some c) n e = absurd (cc)
unbound_same (Some b) None n e = absurd (cc)

-- nor does its type
type_same : (o r : Option Bound) (t : TypeTree) (n : ℕ) → option_map (λ b. b.ty) o ≡ option_map (λ b. b.ty) r → type_faults o t n ≡ type_faults r t n
type_same None None t n e = refl
type_same (Some b) (Some c) t n e = let same : b.ty ≡ c.ty = cc e in rw same refl
type_same None (Some c) t n e = absurd (cc)
type_same (Some b) None t n e = absurd (cc)

module _ (s u : Scope) (a : Alike s u) where
  -- the faults of a name
  name_alike : (x : Occurrence) → name_faults s x ≡ name_faults u x
  name_alike x = unbound_same (find s x.name) (find u x.name) x.at (types_alike s u x.name a)

  -- of names
  names_alike : (xs : List Occurrence) → names_faults s xs ≡ names_faults u xs
  names_alike [] = refl
  names_alike (x ∷ xs) = ap₂ (λ f g. f ++ g) (name_alike x) (names_alike xs)

  -- of an expression
  expr_alike : (e : ExprTree) → expr_faults s e ≡ expr_faults u e
  expr_alike (number at v) = refl
  expr_alike (unit at) = refl
  expr_alike (name at x) = unbound_same (find s x) (find u x) at (types_alike s u x a)
  expr_alike (gate at op) = refl
  expr_alike (sig at e) = expr_alike e
  expr_alike (add at e f) = ap₂ (λ f g. f ++ g) (expr_alike e) (expr_alike f)
  expr_alike (apply at xs e) = ap₂ (λ f g. f ++ g) (names_alike xs) (expr_alike e)
  expr_alike (measure at xs) = names_alike xs

  -- of expressions
  exprs_alike : (es : ExprTrees) → exprs_faults s es ≡ exprs_faults u es
  exprs_alike no_exprs = refl
  exprs_alike (expr_and e es) = ap₂ (λ f g. f ++ g) (expr_alike e) (exprs_alike es)

  -- of arguments
  types_faults_alike : (xs : List Occurrence) (ts : List TypeTree) → types_faults s xs ts ≡ types_faults u xs ts
  types_faults_alike [] ts = refl
  types_faults_alike (x ∷ xs) [] = refl
  types_faults_alike (x ∷ xs) (t ∷ ts) =
      ap₂ (λ f g. f ++ g) (type_same (find s x.name) (find u x.name) t x.at (types_alike s u x.name a)) (types_faults_alike xs ts)

  -- and of a call
  call_alike : (n : ℕ) (xs : List Occurrence) (o : Option Signature) → call_faults s n xs o ≡ call_faults u n xs o
  call_alike n xs None = refl
  call_alike n xs (Some d) = ap (λ l. unless (nat_eq (length xs) (length d.params)) kind.Arity n ++ l) (types_faults_alike xs d.params)

-- such scopes have the same faults
pub process_alike : (ds : List Signature) (s u : Scope) (p : ProcessTree) → Alike s u → process_faults ds s p ≡ process_faults ds u p
process_alike ds s u (nil at) a = refl
process_alike ds s u (par at p q) a = ap₂ (λ f g. f ++ g) (process_alike ds s u p a) (process_alike ds s u q a)
process_alike ds s u (new at x t p) a = process_alike ds (below s 0 x.name t) (below u 0 x.name t) p (refl, refl, a)
process_alike ds s u (qbit at x p) a = process_alike ds (below s 0 x.name qbit_type) (below u 0 x.name qbit_type) p (refl, refl, a)
process_alike ds s u (act at e p) a = ap₂ (λ f g. f ++ g) (expr_alike s u a e) (process_alike ds s u p a)
process_alike ds s u (input at c ps p) a =
    ap₂ (λ f g. f ++ (repeats [] ps ++ g)) (name_alike s u a c) (process_alike ds (below_all s 0 ps) (below_all u 0 ps) p (alike_below s u 0 0 ps a))
process_alike ds s u (output at c es p) a =
    ap₂ (λ f g. f ++ g) (name_alike s u a c) (ap₂ (λ f g. f ++ g) (exprs_alike s u a es) (process_alike ds s u p a))
process_alike ds s u (branch at e f p q) a =
    ap₂ (λ f g. f ++ g) (expr_alike s u a e)
    (ap₂ (λ f g. f ++ g) (expr_alike s u a f) (ap₂ (λ f g. f ++ g) (process_alike ds s u p a) (process_alike ds s u q a)))
process_alike ds s u (call at f xs) a = ap₂ (λ f g. f ++ g) (names_alike s u a xs) (call_alike s u a at xs (signature_of ds f))

-- the faults of what an output sends, and of its body
sent : (ds : List Signature) (s : Scope) (es : ExprTrees) (p : ProcessTree)
    → exprs_faults s es ++ process_faults ds s p ≡ left_faults ds (items s (args es ++ process p ∷ []))
sent ds s no_exprs p = sym (append-nil (process_faults ds s p))
sent ds s (expr_and e es) p =
    append_assoc (expr_faults s e) (exprs_faults s es) (process_faults ds s p) ∙ ap (λ l. expr_faults s e ++ l) (sent ds s es p)

-- the faults of a part are its own and those of what is left, whichever numbers its binders have
pub faults-kids : (ds : List Signature) (s : Scope) (n : ℕ) (t : Subtree)
    → faults_of ds s t ≡ own_faults ds s t ++ left_faults ds (items (below_all s n (bound_at t)) (kids t))
faults-kids ds s n (process (nil at)) = refl
faults-kids ds s n (process (par at p q)) = ap (λ l. process_faults ds s p ++ l) (sym (append-nil (process_faults ds s q)))
faults-kids ds s n (process (new at x t p)) =
    process_alike ds (below s 0 x.name t) (below s n x.name t) p (refl, refl, alike_same s) ∙ sym (append-nil (process_faults ds (below s n x.name t) p))
faults-kids ds s n (process (qbit at x p)) =
    process_alike ds (below s 0 x.name qbit_type) (below s n x.name qbit_type) p (refl, refl, alike_same s)
    ∙ sym (append-nil (process_faults ds (below s n x.name qbit_type) p))
faults-kids ds s n (process (act at e p)) = ap (λ l. expr_faults s e ++ l) (sym (append-nil (process_faults ds s p)))
faults-kids ds s n (process (input at c ps p)) =
    ap (λ l. name_faults s c ++ (repeats [] ps ++ l))
    (process_alike ds (below_all s 0 ps) (below_all s n ps) p (alike_below s s 0 n ps (alike_same s))
    ∙ sym (append-nil (process_faults ds (below_all s n ps) p)))
    ∙ sym (append_assoc (name_faults s c) (repeats [] ps) (process_faults ds (below_all s n ps) p ++ []))
faults-kids ds s n (process (output at c es p)) = ap (λ l. name_faults s c ++ l) (sent ds s es p)
faults-kids ds s n (process (branch at e f p q)) =
    ap (λ l. expr_faults s e ++ (expr_faults s f ++ (process_faults ds s p ++ l))) (sym (append-nil (process_faults ds s q)))
faults-kids ds s n (process (call at f xs)) = sym (append-nil (own_faults ds s (process (call at f xs))))
faults-kids ds s n (expr (number at v)) = refl
faults-kids ds s n (expr (unit at)) = refl
faults-kids ds s n (expr (name at x)) = sym (append-nil (unbound_at (find s x) at))
faults-kids ds s n (expr (gate at op)) = refl
faults-kids ds s n (expr (sig at e)) = sym (append-nil (expr_faults s e))
faults-kids ds s n (expr (add at e f)) = ap (λ l. expr_faults s e ++ l) (sym (append-nil (expr_faults s f)))
faults-kids ds s n (expr (apply at xs e)) = ap (λ l. names_faults s xs ++ l) (sym (append-nil (expr_faults s e)))
faults-kids ds s n (expr (measure at xs)) = sym (append-nil (names_faults s xs))
