-- The expressions of a part's process are its prefix's with bindings and results, so its next redex is the
-- one of their number.
use Rattle.std.proofs.Common.{◌≡◌, ℕ, true, List, [], ◌∷◌, map, ◌+◌, ◌-◌, ◌≤◌, ◌<◌, length, is_some, slice_get, if◌then◌else◌, Option, Some, None, refl, sym}
use Rattle.std.proofs.Common.{ap, subst, arith, ◌∙◌, ⊎_elim}
use Rattle.std.proofs.lemmas.Bool.{and_parts, cases_lt, lt-ltb, le-ltb}
use Rattle.std.specs.List.{list_all}
use Rattle.cqp_syntax.specs.declared.val.Val.{Val}
use Rattle.cqp_syntax.specs.Trees.{Expr, slot, sig, add, apply, measure, value, Process, nil, par, new, qbit, act, input, output, branch}
use Rattle.cqp_syntax.specs.Terms.{expr, as_expr}
use Rattle.cqp_syntax.specs.Listing.{Listing, process_at, expr_at}
use Rattle.cqp_syntax.specs.Numbered.{IsNumbered}
use Rattle.cqp_cells.specs.Redex.{Redex, exprs_of, redex_of, next_redex, next_redex_of, reduced, reduced_in}
use Rattle.cqp_parts.specs.declared.bind.Bind.{Bind}
use Rattle.cqp_parts.specs.declared.part.Part.{Part}
use Rattle.cqp_syntax.specs.Measures.{expr_steps}
use Rattle.cqp_results.specs.Results.{is_closed, nth_redex, count_of, nth_redex_of, operands, redex_with}
use Rattle.cqp_parts.specs.Bound.{expr_bound}
use Rattle.cqp_parts.specs.Parts.{process_of_part}
use Rattle.cqp_redexes.specs.Evaluation.{redexes_at}
use Rattle.cqp_standing.specs.Stands.{Stands, IsRedexAt}
use Rattle.cqp_standing.proofs.Bindings.{count_bound, exprs_in, count_of_bound, nth_of_bound}
use Rattle.cqp_standing.proofs.Closing.{prefix_closed}
use Rattle.cqp_parts.proofs.Shapes.{Two, reduced_two, results_two, shape, shaped}
use Rattle.cqp_parts.specs.Bound.{results_exprs}
use Rattle.cqp_results.proofs.OneLess.{is_left, none_left, zero_or, one_less}
use Rattle.cqp_results.proofs.ResultLists.{results_first, next_after_all, all_values, nth_of_closed, nth_of_within}
use Rattle.cqp_redexes.proofs.RedexPlaces.{kth_redex, no_redex, within_if_expr}

-- the two of a choice, as a list
abbrev pub both_of : Two → List Expr
both_of t = t.left ∷ t.right ∷ []

-- a result goes into the left one, or into the right one
left_reduced : (v : Val) (e f : Expr) → is_some (next_redex e) ≡ true
    → reduced_two v (record { left = e; right = f }) ≡ record { left = reduced v e; right = f }
left_reduced v e f h = ap (λ b. if b then record { left = reduced v e; right = f } else record { left = e; right = reduced v f }) h

-- where the first expression has no redex a result goes into the second
right_reduced : (v : Val) (e f : Expr) → next_redex e ≡ None → reduced_two v (record { left = e; right = f }) ≡ record { left = e; right = reduced v f }
right_reduced v e f h = ap (λ (o : Option Redex). if is_some o then record { left = reduced v e; right = f } else record { left = e; right = reduced v f }) h

-- a choice's expressions are a list of two
two_same : (vs : List Val) (e f : Expr) → is_closed e ≡ true → is_closed f ≡ true → length vs ≤ expr_steps e + expr_steps f
    → both_of (results_two vs (record { left = e; right = f })) ≡ results_exprs vs (e ∷ f ∷ [])
two_same [] e f a b h = refl
two_same (v ∷ vs) e f a b h = ⊎_elim
    (λ (z : expr_steps e ≡ 0).
    let some : 0 < expr_steps f = omega arith in
    let less = one_less v f b some in
    let here : reduced_in v (e ∷ f ∷ []) ≡ e ∷ reduced v f ∷ [] = rw (none_left e a z, is_left f b some) refl in
    ap (λ t. both_of (results_two vs t)) (right_reduced v e f (none_left e a z))
    ∙ (two_same vs e (reduced v f) a less.closed (omega (arith, less.count)) ∙ ap (results_exprs vs) (sym here)))
    (λ (z : 0 < expr_steps e).
    let less = one_less v e a z in
    let here : reduced_in v (e ∷ f ∷ []) ≡ reduced v e ∷ f ∷ [] = rw (is_left e a z) refl in
    ap (λ t. both_of (results_two vs t)) (left_reduced v e f (is_left e a z))
    ∙ (two_same vs (reduced v e) f less.closed b (omega (arith, less.count)) ∙ ap (results_exprs vs) (sym here)))
    (zero_or (expr_steps e))

-- no result goes into no expression
none_reduced : (vs : List Val) → results_exprs vs [] ≡ []
none_reduced [] = refl
none_reduced (v ∷ vs) = none_reduced vs

-- the expressions of a prefix with bindings and results
exprs_shaped : (vs : List Val) (bs : List Bind) (p : Process) → list_all is_closed (map (expr_bound bs) (exprs_of p)) ≡ true
    → length vs ≤ count_of (exprs_of p) → exprs_of (shape vs bs p) ≡ results_exprs vs (map (expr_bound bs) (exprs_of p))
exprs_shaped vs bs nil c h = sym (none_reduced vs)
exprs_shaped vs bs (par p q) c h = sym (none_reduced vs)
exprs_shaped vs bs (new b p) c h = sym (none_reduced vs)
exprs_shaped vs bs (qbit x p) c h = sym (none_reduced vs)
exprs_shaped vs bs (input d xs p) c h = sym (none_reduced vs)
exprs_shaped vs bs (act e p) c h =
    let closed = and_parts (is_closed (expr_bound bs e)) true c in
    sym (results_first vs (expr_bound bs e) [] closed.0 (omega (arith, count_bound bs e)))
exprs_shaped vs bs (output d es p) c h = ap (results_exprs vs) (exprs_in bs es)
exprs_shaped vs bs (branch e f p q) c h =
    let first = and_parts (is_closed (expr_bound bs e)) (list_all is_closed (expr_bound bs f ∷ [])) c in
    let second = and_parts (is_closed (expr_bound bs f)) true first.1 in
    two_same vs (expr_bound bs e) (expr_bound bs f) first.0 second.0 (omega (arith, count_bound bs e, count_bound bs f))

-- a redex has one itself
nth_itself : (e : Expr) (k : ℕ) → k < expr_steps e → 0 < expr_steps (nth_redex e k)
nth_itself (slot s) k h = absurd (omega arith)
nth_itself (sig e) k h = ⊎_elim
    (λ (t : k < expr_steps e). rw (lt-ltb k (expr_steps e) t) (nth_itself e k t))
    (λ (t : expr_steps e ≤ k). rw (le-ltb k (expr_steps e) t) (omega arith))
    (cases_lt k (expr_steps e))
nth_itself (apply qs e) k h = ⊎_elim
    (λ (t : k < expr_steps e). rw (lt-ltb k (expr_steps e) t) (nth_itself e k t))
    (λ (t : expr_steps e ≤ k). rw (le-ltb k (expr_steps e) t) (omega arith))
    (cases_lt k (expr_steps e))
nth_itself (measure qs) k h = omega arith
nth_itself (add e f) k h = ⊎_elim
    (λ (t : k < expr_steps e). rw (lt-ltb k (expr_steps e) t) (nth_itself e k t))
    (λ (t : expr_steps e ≤ k). rw (le-ltb k (expr_steps e) t) (⊎_elim
    (λ (u : k < expr_steps e + expr_steps f). rw (lt-ltb k (expr_steps e + expr_steps f) u) (nth_itself f (k - expr_steps e) (omega arith)))
    (λ (u : expr_steps e + expr_steps f ≤ k). rw (le-ltb k (expr_steps e + expr_steps f) u) (omega arith))
    (cases_lt k (expr_steps e + expr_steps f))))
    (cases_lt k (expr_steps e))

-- a redex is one
nth_some : (es : List Expr) (k : ℕ) → k < count_of es → 0 < expr_steps (nth_redex_of es k)
nth_some [] k h = absurd (omega arith)
nth_some (e ∷ es) k h = ⊎_elim
    (λ (t : k < expr_steps e). rw (lt-ltb k (expr_steps e) t) (nth_itself e k t))
    (λ (t : expr_steps e ≤ k). rw (le-ltb k (expr_steps e) t) (nth_some es (k - expr_steps e) (omega arith)))
    (cases_lt k (expr_steps e))

-- values have no redex
none_of_values : (us : List Val) → next_redex_of (map value us) ≡ None
none_of_values [] = refl
none_of_values (u ∷ us) = none_of_values us

module _ (l : Listing) (part : Part) (stands : Stands l part) where
  -- the expressions of the prefix
  abbrev pub own_exprs : List Expr
  own_exprs = exprs_of (process_at l part.node)

  -- the same with the part's bindings
  abbrev pub bound_exprs : List Expr
  bound_exprs = map (expr_bound part.env) own_exprs

  -- no name is left in them
  pub closed : list_all is_closed bound_exprs ≡ true
  closed = prefix_closed part.env (process_at l part.node) stands.bound

  -- the expressions of the part's process are they, with its results
  pub exprs_are : exprs_of (process_of_part l part) ≡ results_exprs part.vals bound_exprs
  exprs_are = ap exprs_of (shaped part.vals part.env (process_at l part.node)) ∙ exprs_shaped part.vals part.env (process_at l part.node) closed stands.results

  -- the next redex is at the number of that place
  pub redex_at : IsNumbered l → (m : ℕ) → slice_get (redexes_at l part.node) (length part.vals) ≡ Some m → IsRedexAt l part m
  redex_at numbers m found =
      let k = length part.vals in
      let kth = kth_redex l numbers part.node (length part.vals) m stands.within stands.is found in
      let here : length part.vals < count_of bound_exprs = omega (arith, kth.0, count_of_bound part.env own_exprs) in
      let same : nth_redex_of bound_exprs (length part.vals) ≡ expr_bound part.env (expr_at l m) =
      nth_of_bound part.env own_exprs (length part.vals) ∙ ap (λ t. expr_bound part.env (as_expr t)) (sym kth.1) in
      let some : 0 < expr_steps (nth_redex_of own_exprs (length part.vals)) = nth_some own_exprs (length part.vals) kth.0 in
      record {
        within = within_if_expr l numbers m (nth_redex_of own_exprs (length part.vals)) kth.1;
        is = kth.1 ∙ ap (λ t. expr (as_expr t)) (sym kth.1);
        some = subst (λ t. 0 < expr_steps (as_expr t)) (sym kth.1) some;
        closed = subst (λ e. is_closed e ≡ true) same (nth_of_closed bound_exprs (length part.vals) closed);
        results =
            subst (λ n. n ≤ length part.vals + 1) (ap expr_steps same ∙ count_bound part.env (expr_at l m)) (nth_of_within bound_exprs (length part.vals) here);
        next = ap next_redex_of exprs_are ∙ (next_after_all bound_exprs part.vals closed here ∙ ap (λ e. Some (redex_with part.vals e)) same);
      }

  -- there is no redex where there is none at that place
  pub none_at : IsNumbered l → slice_get (redexes_at l part.node) (length part.vals) ≡ None → length part.vals ≡ count_of own_exprs
  none_at numbers found = omega (arith, no_redex l numbers part.node (length part.vals) found, stands.results)

  -- after all results they are values
  pub values_at : length part.vals ≡ count_of own_exprs → exprs_of (process_of_part l part) ≡ map value (operands part.vals bound_exprs)
  values_at full = exprs_are ∙ all_values bound_exprs part.vals closed (omega (arith, full, count_of_bound part.env own_exprs))

  -- then no redex is left
  pub none_left_at : length part.vals ≡ count_of own_exprs → redex_of (process_of_part l part) ≡ None
  none_left_at full = ap next_redex_of (values_at full) ∙ none_of_values (operands part.vals bound_exprs)
