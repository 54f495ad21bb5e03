-- A prefix stays typed where a value takes the place of its redex.
use Rattle.std.proofs.Common.{◌≡◌, ℕ, List, [], ◌∷◌, ◌++◌, Bool, true, false, refl, sym, ap, ◌∙◌, subst}
use Rattle.std.specs.Prelude.{Some, None, Option, is_some, if◌then◌else◌}
use Rattle.cqp_syntax.specs.declared.val.Val.{Val}
use Rattle.cqp_syntax.specs.declared.val.Val.TheVariants as val
use Rattle.cqp_syntax.specs.TypeTrees.{TypeTrees, qbit_type, type_and}
use Rattle.cqp_syntax.specs.Trees.{Slot, named, valued, Expr, slot, sig, add, apply, measure, Process, nil, par, new, qbit, act, input, output, branch, value}
use Rattle.cqp_syntax.specs.Binders.{binders_of}
use Rattle.cqp_syntax.specs.Free.{is_among, expr_slots, exprs_slots, free_slots}
use Rattle.cqp_types.specs.Contexts.{Context, type_in, Has, is_twice, leaving}
use Rattle.cqp_types.specs.Derivations.{sent, is_qbit, sent_under, Fits, no_argument}
use Rattle.cqp_types.specs.Derivations.{sent_name, other_argument, Derives, nil_, par_, new_, qbit_, act_, input_, output_, branch_}
use Rattle.cqp_syntax.proofs.Slots.{among_either, among_left, among_right}
use Rattle.cqp_types.proofs.Relevance.{sent_first}
use Rattle.cqp_cells.specs.Redex.{Redex, or_else, next_redex, next_redex_of, redex_of, reduced, reduced_in, reduced_prefix}
use Rattle.cqp_cells.specs.Owners.{holds}
use Rattle.cqp_paths.proofs.Reduced.{IsPlain, Replaces, no_lone, reduced_typed, plain_unsent, reduced_slots, reduced_in_slots}
use Rattle.cqp_cells.proofs.Options.{none_is_some}
use Rattle.cqp_paths.proofs.Values.{only_one}

-- what has a redex is no argument that is sent
node_unsent : (f : Slot → Bool) (v : Val) (r : Redex) (e : Expr) → Replaces v r → next_redex e ≡ Some r → sent f (e ∷ []) ≡ []
node_unsent f v r (slot (named x)) by_ h = no_lone v r x by_ h
node_unsent f v r (slot (valued u)) by_ h = absurd (none_is_some h)
node_unsent f v r (sig e) by_ h = refl
node_unsent f v r (add e d) by_ h = refl
node_unsent f v r (apply qs e) by_ h = refl
node_unsent f v r (measure qs) by_ h = refl

-- a plain value is no argument that is sent
value_unsent : (g : Context) (v : Val) → IsPlain v → sent_under g (value v ∷ []) ≡ []
value_unsent g v plain = rw (plain_unsent g v plain) refl

-- an expression whose redex a plain value replaced is no argument that is sent
reduced_unsent : (g : Context) (v : Val) (e : Expr) → IsPlain v → sent_under g (reduced v e ∷ []) ≡ []
reduced_unsent g v (slot s) plain = value_unsent g v plain
reduced_unsent g v (sig e) plain = by_sig (is_some (next_redex e))
  where
    by_sig : (b : Bool) → sent_under g ((if b then sig (reduced v e) else value v) ∷ []) ≡ []
    by_sig true = refl
    by_sig false = value_unsent g v plain
reduced_unsent g v (add e f) plain = by_left (is_some (next_redex e)) (is_some (next_redex f))
  where
    by_left : (b c : Bool) → sent_under g ((if b then add (reduced v e) f else (if c then add e (reduced v f) else value v)) ∷ []) ≡ []
    by_left true c = refl
    by_left false true = refl
    by_left false false = value_unsent g v plain
reduced_unsent g v (apply qs e) plain = by_operator (is_some (next_redex e))
  where
    by_operator : (b : Bool) → sent_under g ((if b then apply qs (reduced v e) else value v) ∷ []) ≡ []
    by_operator true = refl
    by_operator false = value_unsent g v plain
reduced_unsent g v (measure qs) plain = value_unsent g v plain

-- the same arguments are sent where a value takes the place of a redex
pub reduced_in_sent : (g : Context) (v : Val) (r : Redex) (es : List Expr) → Replaces v r → next_redex_of es ≡ Some r
    → sent_under g (reduced_in v es) ≡ sent_under g es
reduced_in_sent g v r [] by_ h = refl
reduced_in_sent g v r (e ∷ es) by_ h = by_first (next_redex e) refl h (λ k. reduced_in_sent g v r es by_ k)
  where
    by_first : (o : Option Redex) → next_redex e ≡ o → or_else o (next_redex_of es) ≡ Some r
        → (next_redex_of es ≡ Some r → sent_under g (reduced_in v es) ≡ sent_under g es)
        → sent_under g (if is_some o then reduced v e ∷ es else e ∷ reduced_in v es) ≡ sent_under g (e ∷ es)
    by_first None at k more =
        sent_first (λ s. is_qbit (type_in g s)) e (reduced_in v es) ∙ ap (λ ss. sent_under g (e ∷ []) ++ ss) (more k)
        ∙ sym (sent_first (λ s. is_qbit (type_in g s)) e es)
    by_first (Some s) at k more =
        sent_first (λ s. is_qbit (type_in g s)) (reduced v e) es ∙ ap (λ ss. ss ++ sent_under g es) (reduced_unsent g v e by_.plain)
        ∙ ap (λ ss. ss ++ sent_under g es) (sym (node_unsent (λ s. is_qbit (type_in g s)) v r e by_ (at ∙ k)))
        ∙ sym (sent_first (λ s. is_qbit (type_in g s)) e es)

-- arguments fit the same types where a value takes the place of a redex
fits_reduced : {g rest : Context} {es : List Expr} {ts : TypeTrees} (v : Val) (r : Redex) → Replaces v r → next_redex_of es ≡ Some r → Fits g rest es ts
    → Fits g rest (reduced_in v es) ts
fits_reduced v r by_ h no_argument = no_argument
fits_reduced v r by_ h (sent_name {g = g} {rest = rest} {s = s} {es = es} {ts = ts} is more) = of_slot s is h (λ k. fits_reduced v r by_ k more)
  where
    of_slot : (s : Slot) → Has g s qbit_type → next_redex_of (slot s ∷ es) ≡ Some r → (next_redex_of es ≡ Some r → Fits g rest (reduced_in v es) ts)
        → Fits g rest (reduced_in v (slot s ∷ es)) (type_and qbit_type ts)
    of_slot (named x) has k go = no_lone v r x by_ k
    of_slot (valued u) has k go = sent_name has (go k)
fits_reduced v r by_ h (other_argument {g = g} {rest = rest} {e = e} {t = t} {es = es} {ts = ts} unsent d more) = by_first (next_redex e) refl h
    (λ k. fits_reduced v r by_ k more)
  where
    by_first : (o : Option Redex) → next_redex e ≡ o → or_else o (next_redex_of es) ≡ Some r → (next_redex_of es ≡ Some r → Fits g rest (reduced_in v es) ts)
        → Fits g rest (if is_some o then reduced v e ∷ es else e ∷ reduced_in v es) (type_and t ts)
    by_first None at k go = other_argument unsent d (go k)
    by_first (Some s) at k go = other_argument (reduced_unsent g v e by_.plain) (reduced_typed v r by_ (at ∙ k) d) more

-- a prefix stays typed where a value takes the place of its redex
pub prefix_typed : {g : Context} {p : Process} (v : Val) (r : Redex) → Replaces v r → redex_of p ≡ Some r → Derives g p → Derives g (reduced_prefix v p)
prefix_typed v r by_ h nil_ = absurd (none_is_some h)
prefix_typed v r by_ h (par_ splits a b) = absurd (none_is_some h)
prefix_typed v r by_ h (new_ d) = absurd (none_is_some h)
prefix_typed v r by_ h (qbit_ d) = absurd (none_is_some h)
prefix_typed v r by_ h (input_ is d) = absurd (none_is_some h)
prefix_typed v r by_ h (act_ {e = e} t d) = act_ (reduced_typed v r by_ (only_one (next_redex e) r h) t) d
prefix_typed v r by_ h (output_ {g = g} {es = es} {ts = ts} {p = p} is once fits d) =
    let same = sym (reduced_in_sent g v r es by_ h) in
    output_ is (subst (λ ss. is_twice ss ≡ false) same once)
    (subst (λ ss. Fits g (leaving ss g) (reduced_in v es) ts) same (fits_reduced v r by_ h fits))
    (subst (λ ss. Derives (leaving ss g) p) same d)
prefix_typed v r by_ h (branch_ {g = g} {e = e} {f = f} {p = p} {q = q} a b c d) = by_left (next_redex e) (next_redex f) refl refl h
  where
    by_left : (o u : Option Redex) → next_redex e ≡ o → next_redex f ≡ u → or_else o (or_else u None) ≡ Some r
        → Derives g (if is_some o then branch (reduced v e) f p q else branch e (reduced v f) p q)
    by_left None None at there k = absurd (none_is_some k)
    by_left None (Some s) at there k = branch_ a (reduced_typed v r by_ (there ∙ k) b) c d
    by_left (Some s) u at there k = branch_ (reduced_typed v r by_ (at ∙ k) a) b c d

-- a prefix binds the same names where a value takes the place of its redex
pub prefix_binders : (v : Val) (p : Process) → binders_of (reduced_prefix v p) ≡ binders_of p
prefix_binders v nil = refl
prefix_binders v (par p q) = refl
prefix_binders v (new b p) = refl
prefix_binders v (qbit x p) = refl
prefix_binders v (act e p) = refl
prefix_binders v (input c bs p) = refl
prefix_binders v (output c es p) = refl
prefix_binders v (branch e f p q) = by_test (is_some (next_redex e))
  where
    by_test : (b : Bool) → binders_of (if b then branch (reduced v e) f p q else branch e (reduced v f) p q) ≡ binders_of p ++ binders_of q
    by_test true = refl
    by_test false = refl

-- a prefix holds no further qubit where a plain value takes the place of its redex
pub prefix_holds : (q : ℕ) (v : Val) (p : Process) → IsPlain v → holds q (reduced_prefix v p) ≡ true → holds q p ≡ true
prefix_holds q v nil plain h = h
prefix_holds q v (par p s) plain h = h
prefix_holds q v (new b p) plain h = h
prefix_holds q v (qbit x p) plain h = h
prefix_holds q v (input c bs p) plain h = h
prefix_holds q v (act e p) plain h =
    among_either (valued (val.Qubit q)) (expr_slots (reduced v e)) (free_slots p) h
    (λ i. among_left (valued (val.Qubit q)) (expr_slots e) (free_slots p) (reduced_slots q v plain e i))
    (λ i. among_right (valued (val.Qubit q)) (expr_slots e) (free_slots p) i)
prefix_holds q v (output c es p) plain h =
    among_either (valued (val.Qubit q)) (c ∷ exprs_slots (reduced_in v es)) (free_slots p) h
    (λ i. among_left (valued (val.Qubit q)) (c ∷ exprs_slots es) (free_slots p)
    (among_either (valued (val.Qubit q)) (c ∷ []) (exprs_slots (reduced_in v es)) i
    (λ j. among_left (valued (val.Qubit q)) (c ∷ []) (exprs_slots es) j)
    (λ j. among_right (valued (val.Qubit q)) (c ∷ []) (exprs_slots es) (reduced_in_slots q v plain es j))))
    (λ i. among_right (valued (val.Qubit q)) (c ∷ exprs_slots es) (free_slots p) i)
prefix_holds q v (branch e f p s) plain h = by_test (is_some (next_redex e)) h
  where
    by_test : (b : Bool) → is_among (valued (val.Qubit q)) (free_slots (if b then branch (reduced v e) f p s else branch e (reduced v f) p s)) ≡ true
        → is_among (valued (val.Qubit q)) (expr_slots e ++ (expr_slots f ++ (free_slots p ++ free_slots s))) ≡ true
    by_test true k =
        among_either (valued (val.Qubit q)) (expr_slots (reduced v e)) (expr_slots f ++ (free_slots p ++ free_slots s)) k
        (λ i. among_left (valued (val.Qubit q)) (expr_slots e) (expr_slots f ++ (free_slots p ++ free_slots s)) (reduced_slots q v plain e i))
        (λ i. among_right (valued (val.Qubit q)) (expr_slots e) (expr_slots f ++ (free_slots p ++ free_slots s)) i)
    by_test false k =
        among_either (valued (val.Qubit q)) (expr_slots e) (expr_slots (reduced v f) ++ (free_slots p ++ free_slots s)) k
        (λ i. among_left (valued (val.Qubit q)) (expr_slots e) (expr_slots f ++ (free_slots p ++ free_slots s)) i)
        (λ i. among_right (valued (val.Qubit q)) (expr_slots e) (expr_slots f ++ (free_slots p ++ free_slots s))
        (among_either (valued (val.Qubit q)) (expr_slots (reduced v f)) (free_slots p ++ free_slots s) i
        (λ j. among_left (valued (val.Qubit q)) (expr_slots f) (free_slots p ++ free_slots s) (reduced_slots q v plain f j))
        (λ j. among_right (valued (val.Qubit q)) (expr_slots f) (free_slots p ++ free_slots s) j)))
