-- The law: a closed process is derivable exactly where no node fails.
use Rattle.std.proofs.Common.{◌≡◌, ℕ, zero, suc, ◌+◌, ◌<◌, List, [], ◌∷◌, ◌++◌, map, length, true, refl, sym, ◌∙◌, subst, arith, ◌≤◌, le_refl, zero-add, None}
use Rattle.std.proofs.Common.{false, not, cond, ◌==◌, ◌↔◌}
use Rattle.std.specs.List.{range_with_len, AllByRecursion}
use Rattle.cqp_syntax.specs.declared.val.Val.TheVariants as val
use Rattle.cqp_syntax.specs.Trees.{named, valued, Expr, slot, sig, add, apply, measure, Binder, Process, nil, par, new, qbit, act, input, output, branch}
use Rattle.cqp_syntax.specs.Terms.{Term}
use Rattle.cqp_syntax.specs.Subterms.{expr_terms, exprs_terms, process_terms}
use Rattle.cqp_syntax.specs.Binders.{binders_of, HasDistinctBinders}
use Rattle.cqp_syntax.specs.Scope.{is_scoped}
use Rattle.cqp_syntax.specs.Listing.{Listing, IsListing, type_of_name, term_at, root}
use Rattle.cqp_syntax.specs.Numbered.{IsNumbered}
use Rattle.cqp_types.specs.declared.kind.Kind.{Kind}
use Rattle.cqp_types.specs.Derivations.{IsDerivable}
use Rattle.cqp_types.specs.Faults.{Annotation, fault, HasNoFault, IsLeastFault}
use Rattle.cqp_types.specs.Laws.{annotation_of, NoneFails}
use Rattle.cqp_syntax.specs.Lists.{stands_in, is_distinct}
use Rattle.cqp_syntax.proofs.Bools.{both, neither, not_true, number_same}
use Rattle.cqp_syntax.proofs.UsedAt.{listed_at}
use Rattle.cqp_types.proofs.Clean.{ExprClean, ExprsClean, ProcessClean, Annotates}
use Rattle.cqp_types.proofs.Faultless.{Agrees, process_clean}
use Rattle.cqp_types.proofs.Derivable.{process_typed}
use Rattle.cqp_syntax.proofs.Scoped.{closed}

-- both directions for a tree
pub clean_derivable : (ty : Annotation) (p : Process) → Annotates ty (binders_of p) → is_scoped [] p ≡ true → ProcessClean ty p → IsDerivable p
clean_derivable ty p a scoped c = process_typed ty [] p a (λ s i. absurd (closed p scoped s i)) c

-- the empty context has only types that numbers, `unit` and gates have
agrees_empty : (ty : Annotation) → Agrees [] ty
agrees_empty ty (named x) t is = absurd (cc is)
agrees_empty ty (valued (val.Num v)) t is = cc
agrees_empty ty (valued val.Unit) t is = cc
agrees_empty ty (valued (val.Gate o)) t is = cc
agrees_empty ty (valued (val.Qubit q)) t is = absurd (cc is)
agrees_empty ty (valued (val.Chan c)) t is = absurd (cc is)

-- no node of a derivable process fails
pub derivable_clean : (ty : Annotation) (p : Process) → Annotates ty (binders_of p) → IsDerivable p → ProcessClean ty p
derivable_clean ty p a d = process_clean ty [] (agrees_empty ty) a d

module _ (ty : Annotation) where
  -- none of these terms fails
  abbrev NoneFail : List Term → Type 0
  NoneFail ts = AllByRecursion (λ t. fault ty t ≡ None) ts

  -- of two lists in which no term fails, no term of both fails
  join : (ss ts : List Term) → NoneFail ss → NoneFail ts → NoneFail (ss ++ ts)
  join [] ts a b = b
  join (s ∷ ss) ts a b = (a.0, join ss ts a.1 b)

  -- nor of the first
  first : (ss ts : List Term) → NoneFail (ss ++ ts) → NoneFail ss
  first [] ts a = tt
  first (s ∷ ss) ts a = (a.0, first ss ts a.1)

  -- nor of the second
  rest : (ss ts : List Term) → NoneFail (ss ++ ts) → NoneFail ts
  rest [] ts a = a
  rest (s ∷ ss) ts a = rest ss ts a.1

  -- an expression of which no node fails has no term that fails
  expr_none : (e : Expr) → ExprClean ty e → NoneFail (expr_terms e)
  expr_none (slot s) c = (refl, tt)
  expr_none (sig e) c = (c.0, expr_none e c.1)
  expr_none (add e f) c = (c.0, join (expr_terms e) (expr_terms f) (expr_none e c.1) (expr_none f c.2))
  expr_none (apply qs e) c = (c.0, expr_none e c.1)
  expr_none (measure qs) c = (c, tt)

  -- nor have several
  exprs_none : (es : List Expr) → ExprsClean ty es → NoneFail (exprs_terms es)
  exprs_none [] c = tt
  exprs_none (e ∷ es) c = join (expr_terms e) (exprs_terms es) (expr_none e c.0) (exprs_none es c.1)

  -- nor has a process
  process_none : (p : Process) → ProcessClean ty p → NoneFail (process_terms p)
  process_none nil c = (refl, tt)
  process_none (par p q) c = (c.0, join (process_terms p) (process_terms q) (process_none p c.1) (process_none q c.2))
  process_none (new b p) c = (c.0, process_none p c.1)
  process_none (qbit x p) c = (refl, process_none p c)
  process_none (act e p) c = (refl, join (expr_terms e) (process_terms p) (expr_none e c.0) (process_none p c.1))
  process_none (input d bs p) c = (c.0, process_none p c.1)
  process_none (output d es p) c = (c.0, join (exprs_terms es) (process_terms p) (exprs_none es c.1) (process_none p c.2))
  process_none (branch e f p q) c = (
    c.0,
    join (expr_terms e) (expr_terms f ++ (process_terms p ++ process_terms q)) (expr_none e c.1)
        (join (expr_terms f) (process_terms p ++ process_terms q) (expr_none f c.2)
        (join (process_terms p) (process_terms q) (process_none p c.3) (process_none q c.4))),
  )

  -- where no term of an expression fails, no node of it fails
  none_expr : (e : Expr) → NoneFail (expr_terms e) → ExprClean ty e
  none_expr (slot s) n = tt
  none_expr (sig e) n = (n.0, none_expr e n.1)
  none_expr (add e f) n = (n.0, none_expr e (first (expr_terms e) (expr_terms f) n.1), none_expr f (rest (expr_terms e) (expr_terms f) n.1))
  none_expr (apply qs e) n = (n.0, none_expr e n.1)
  none_expr (measure qs) n = n.0

  -- nor of several
  none_exprs : (es : List Expr) → NoneFail (exprs_terms es) → ExprsClean ty es
  none_exprs [] n = tt
  none_exprs (e ∷ es) n = (none_expr e (first (expr_terms e) (exprs_terms es) n), none_exprs es (rest (expr_terms e) (exprs_terms es) n))

  -- nor of a process
  none_process : (p : Process) → NoneFail (process_terms p) → ProcessClean ty p
  none_process nil n = tt
  none_process (par p q) n =
      (n.0, none_process p (first (process_terms p) (process_terms q) n.1), none_process q (rest (process_terms p) (process_terms q) n.1))
  none_process (new b p) n = (n.0, none_process p n.1)
  none_process (qbit x p) n = none_process p n.1
  none_process (act e p) n =
      (none_expr e (first (expr_terms e) (process_terms p) n.1), none_process p (rest (expr_terms e) (process_terms p) n.1))
  none_process (input d bs p) n = (n.0, none_process p n.1)
  none_process (output d es p) n =
      (n.0, none_exprs es (first (exprs_terms es) (process_terms p) n.1), none_process p (rest (exprs_terms es) (process_terms p) n.1))
  none_process (branch e f p q) n =
      let bodies = process_terms p ++ process_terms q in
      let more = rest (expr_terms e) (expr_terms f ++ bodies) n.1 in
      let ends = rest (expr_terms f) bodies more in (
        n.0,
        none_expr e (first (expr_terms e) (expr_terms f ++ bodies) n.1),
        none_expr f (first (expr_terms f) bodies more),
        none_process p (first (process_terms p) (process_terms q) ends),
        none_process q (rest (process_terms p) (process_terms q) ends),
      )

-- what holds at each number holds of the list of all, and back
pub all_listed : (at : ℕ → Term) (P : Term → Type 0) (a k : ℕ) → ((n : ℕ) → a ≤ n → n < a + k → P (at n)) → AllByRecursion P (map at (range_with_len a k))
all_listed at P a zero h = tt
all_listed at P a (suc k) h = (h a (le_refl a) (omega arith), all_listed at P (a + 1) k (λ n low high. h n (omega arith) (omega arith)))

module _ (l : Listing) (listed : IsListing l (root l)) (numbers : IsNumbered l) where
  -- a process of which no node fails is derivable
  pub faultless_derivable : HasNoFault l → IsDerivable (root l)
  faultless_derivable none =
      let ty = type_of_name l in
      let all = all_listed (term_at l) (λ t. fault ty t ≡ None) 0 (length l.nodes) (λ n low high. none n (omega arith)) in
      let terms = subst (λ ts. AllByRecursion (λ t. fault ty t ≡ None) ts) numbers.terms all in
      clean_derivable ty (root l) numbers.types listed.scoped (none_process ty (root l) terms)

  -- a derivation leaves no failing node
  pub derivable_faultless : IsDerivable (root l) → HasNoFault l
  derivable_faultless d n within =
      let ty = type_of_name l in
      let terms = process_none ty (root l) (derivable_clean ty (root l) numbers.types d) in
      let all = subst (λ ts. AllByRecursion (λ t. fault ty t ≡ None) ts) (sym numbers.terms) terms in
      listed_at (term_at l) (λ t. fault ty t ≡ None) 0 (length l.nodes) all n n (zero-add n) within

  -- where a node fails, no derivation exists
  pub fault_underivable : (n : ℕ) (k : Kind) → IsLeastFault l n k → IsDerivable (root l) → ⊥
  fault_underivable n k f d = let e = sym f.fails ∙ derivable_faultless d n f.within in absurd (cc e)

-- a binder of another name leaves the types of names
unchanged : (b : Binder) (ty : Annotation) (cs : List Binder) → stands_in (map (λ c. c.name) cs) b.name ≡ false → Annotates ty cs
    → Annotates (λ x. cond (b.name == x) b.ty (ty x)) cs
unchanged b ty [] n a = tt
unchanged b ty (c ∷ cs) n a =
    let parts = neither (b.name == c.name) (stands_in (map (λ d. d.name) cs) b.name) n in
    (rw parts.0 a.0, unchanged b ty cs parts.1 a.1)

-- distinct binders have the types that their names have
annotated : (bs : List Binder) → is_distinct (map (λ b. b.name) bs) ≡ true → Annotates (annotation_of bs) bs
annotated [] d = tt
annotated (b ∷ bs) d =
    let names = map (λ c. c.name) bs in
    let parts = both (not (stands_in names b.name)) (is_distinct names) d in
    (rw (number_same b.name) refl, unchanged b (annotation_of bs) bs (not_true (stands_in names b.name) parts.0) (annotated bs parts.1))

-- the law: a closed process with distinct binders is derivable exactly where no node fails
pub derivable_where_none_fails : (p : Process) → is_scoped [] p ≡ true → HasDistinctBinders p → IsDerivable p ↔ NoneFails p
derivable_where_none_fails p scoped distinct =
    let ty = annotation_of (binders_of p) in
    let a = annotated (binders_of p) distinct in
    (λ d. process_none ty p (derivable_clean ty p a d), λ none. clean_derivable ty p a scoped (none_process ty p none))
