-- The parts in the place of a part that stands well do so too, where the deed suits its process.
use Rattle.std.proofs.Common.{◌≡◌, ℕ, true, false, Bool, List, [], ◌∷◌, ◌++◌, map, ◌==◌, ◌≤◌, ◌<◌, length, length-append, is_some, refl, sym, ap, subst, arith}
use Rattle.std.proofs.Common.{◌∙◌, ⊎_elim}
use Rattle.std.proofs.lemmas.Bool.{and_parts, or_cases, or_left, or_right, cases_lt, eqb-true}
use Rattle.std.proofs.lemmas.List.{map-append}
use Rattle.std.proofs.lemmas.List.Folds.{list_any-append}
use Rattle.std.specs.List.{AllByRecursion}
use Rattle.cqp_syntax.specs.TypeTrees.{TypeTree}
use Rattle.cqp_syntax.specs.declared.val.Val.{Val}
use Rattle.cqp_syntax.specs.declared.val.Val.TheVariants as val
use Rattle.cqp_syntax.specs.declared.node.Node.{Node}
use Rattle.cqp_syntax.specs.declared.node.Node.TheVariants as node
use Rattle.cqp_syntax.specs.Trees.{named, Binder, Process}
use Rattle.cqp_syntax.specs.Binders.{binders_of}
use Rattle.cqp_syntax.specs.Scope.{is_bound, is_scoped_expr, is_scoped}
use Rattle.cqp_syntax.specs.Listing.{Listing, IsProc, Unfolds, process_at, expr_at, type_of_name, root}
use Rattle.cqp_syntax.proofs.Unfolding.{has_root}
use Rattle.cqp_trace.specs.declared.deed.Deed.{Deed}
use Rattle.cqp_trace.specs.declared.deed.Deed.TheVariants as deed
use Rattle.cqp_cells.specs.Redex.{redex_of, exprs_of}
use Rattle.cqp_parts.specs.declared.bind.Bind.{Bind}
use Rattle.cqp_parts.specs.declared.part.Part.{Part}
use Rattle.cqp_parts.specs.Parts.{process_of_part, with_bindings, with_results, node_at, goes_on_from, parts_after, parts_after_input, opening_parts, body_of}
use Rattle.cqp_parts.specs.Parts.{branch_of, bound_by, bound_to, received_by, with_result_of, IsProcessAt}
use Rattle.cqp_results.specs.Results.{count_of}
use Rattle.cqp_standing.specs.Stands.{Stands, names_of, binder_names, RiseFrom}
use Rattle.cqp_standing.specs.Suits.{is_qbit, is_new, is_act, is_output, is_branch, suits, takes}
use Rattle.cqp_standing.proofs.Behind.{from_well}
use Rattle.cqp_parts.proofs.Shapes.{shape, shaped}
use Rattle.cqp_standing.proofs.PartRedexes.{none_left_at}
use Rattle.cqp_standing.proofs.Rises.{both_rise, more_rise, range_rises}
use Rattle.cqp_standing.proofs.ScopeLemmas.{has, scoped_more}
use Rattle.cqp_parts.proofs.TreeLemmas.{unfolds_at, node_tree, tree_at}

-- further bindings bind their names
behind : (env more : List Bind) (p : Process) → is_scoped (names_of more ++ names_of env) p ≡ true → is_scoped (names_of (env ++ more)) p ≡ true
behind env more p h = scoped_more (names_of more ++ names_of env) (names_of (env ++ more)) p
    (λ x t u. ap (has x) (map-append (λ b. b.name) env more) ∙ (list_any-append (λ y. x == y) (names_of env) (names_of more) ∙ ⊎_elim
    (λ (a : has x (names_of more) ≡ true). or_right (has x (names_of env)) (has x (names_of more)) a)
    (λ (a : has x (names_of env) ≡ true). or_left (has x (names_of env)) (has x (names_of more)) a)
    (or_cases (has x (names_of more)) (has x (names_of env)) (sym (list_any-append (λ y. x == y) (names_of more) (names_of env)) ∙ u)))) h

-- the names of an input
bound_names : (xs : List ℕ) (vs : List Val) → length xs ≡ length vs → names_of (bound_to xs vs) ≡ xs
bound_names [] vs h = refl
bound_names (x ∷ xs) [] h = absurd (omega arith)
bound_names (x ∷ xs) (v ∷ vs) h = ap (λ ys. x ∷ ys) (bound_names xs vs (omega arith))

-- binders of these names
abbrev pub binders : (ℕ → TypeTree) → List ℕ → List Binder
binders ty xs = map (λ x. record { name = x; ty = ty x }) xs

-- have these names
pub binder_names_are : (ty : ℕ → TypeTree) (xs : List ℕ) → map (λ (b : Binder). b.name) (binders ty xs) ≡ xs
binder_names_are ty [] = refl
binder_names_are ty (x ∷ xs) = ap (λ ys. x ∷ ys) (binder_names_are ty xs)

-- and are as many
length_binders : (ty : ℕ → TypeTree) (xs : List ℕ) → length (binders ty xs) ≡ length xs
length_binders ty [] = refl
length_binders ty (x ∷ xs) = let e = length_binders ty xs in omega arith

module _ (l : Listing) (sound : IsProc l) (part : Part) (w : Stands l part) where
  -- the node of the part
  abbrev here : Node
  here = node_at l part.node

  -- the process of the part, by its node, and what is bound there
  by_node : process_of_part l part ≡ shape part.vals part.env (node_tree l sound here)
  by_node = ap (λ p. with_results part.vals (with_bindings part.env p)) (tree_at l sound part.node) ∙ shaped part.vals part.env (node_tree l sound here)

  -- names are bound at a node, and rise
  record Fits (x : Node) : Type 0 where
    pub unfolds : Unfolds l part.node x
    pub bound : is_scoped (names_of part.env) (node_tree l sound x) ≡ true
    pub order : RiseFrom 0 (length l.ty_of) (names_of part.env ++ binder_names (node_tree l sound x))

  -- the part's own node fits
  fits_here : Fits here
  fits_here = record {
    unfolds = unfolds_at l sound part.node w.within;
    bound = ap (is_scoped (names_of part.env)) (sym (tree_at l sound part.node)) ∙ w.bound;
    order = subst (λ r. RiseFrom 0 (length l.ty_of) (names_of part.env ++ binder_names r)) (tree_at l sound part.node) w.order;
  }

  -- so the parts behind it stand well where what they need is bound
  on : (more : List Bind) (n : ℕ) → IsProcessAt l n → is_scoped (names_of more ++ names_of part.env) (process_at l n) ≡ true
      → RiseFrom 0 (length l.ty_of) (names_of part.env ++ (names_of more ++ binder_names (process_at l n)))
      → AllByRecursion (Stands l) (goes_on_from l part more n)
  on more n there h a = from_well l sound (part.env ++ more) n (record {
    there = there;
    bound = behind part.env more (process_at l n) h;
    order = more_rise (length l.ty_of) part.env more (binder_names (process_at l n)) a;
  })

  -- behind a binder of a qubit
  qbit_well : (q : ℕ) (x : Node) → is_qbit (shape part.vals part.env (node_tree l sound x)) ≡ true → Fits x
      → AllByRecursion (Stands l) (goes_on_from l part (bound_by x (val.Qubit q)) (body_of x))
  qbit_well q (node.Qbit y body) s f =
      on (bound_by (node.Qbit y body) (val.Qubit q)) body (f.unfolds.bodies.0.within, f.unfolds.bodies.0.is) f.bound f.order
  qbit_well q x s f = absurd (cc s)

  -- behind a binder of a channel
  new_well : (k : ℕ) (x : Node) → is_new (shape part.vals part.env (node_tree l sound x)) ≡ true → Fits x
      → AllByRecursion (Stands l) (goes_on_from l part (bound_by x (val.Chan k)) (body_of x))
  new_well k (node.New y body) s f =
      on (bound_by (node.New y body) (val.Chan k)) body (f.unfolds.bodies.0.within, f.unfolds.bodies.0.is) f.bound f.order
  new_well k x s f = absurd (cc s)

  -- behind an action
  act_well : (x : Node) → is_act (shape part.vals part.env (node_tree l sound x)) ≡ true → Fits x
      → AllByRecursion (Stands l) (goes_on_from l part [] (body_of x))
  act_well (node.Act e body) s f =
      let parts = and_parts (is_scoped_expr (names_of part.env) (expr_at l e)) (is_scoped (names_of part.env) (process_at l body)) f.bound in
      on [] body (f.unfolds.bodies.0.within, f.unfolds.bodies.0.is) parts.1 f.order
  act_well x s f = absurd (cc s)

  -- behind an output
  sent_well : (x : Node) → is_output (shape part.vals part.env (node_tree l sound x)) ≡ true → Fits x
      → AllByRecursion (Stands l) (goes_on_from l part [] (body_of x))
  sent_well (node.Out c es body) s f =
      let parts = and_parts _ (is_scoped (names_of part.env) (process_at l body)) f.bound in
      on [] body (f.unfolds.bodies.0.within, f.unfolds.bodies.0.is) parts.1 f.order
  sent_well x s f = absurd (cc s)

  -- behind a choice
  if_well : (b : Bool) (x : Node) → is_branch (shape part.vals part.env (node_tree l sound x)) ≡ true → Fits x
      → AllByRecursion (Stands l) (goes_on_from l part [] (branch_of x b))
  if_well true (node.If left right first other) s f =
      let parts = and_parts _ (is_scoped (names_of part.env) (process_at l other)) f.bound in
      let three = and_parts _ (is_scoped (names_of part.env) (process_at l first)) parts.0 in
      let order = both_rise (length l.ty_of) (names_of part.env) (binders_of (process_at l first)) (binders_of (process_at l other)) f.order in
      on [] first (f.unfolds.bodies.0.within, f.unfolds.bodies.0.is) three.1 order.0
  if_well false (node.If left right first other) s f =
      let parts = and_parts _ (is_scoped (names_of part.env) (process_at l other)) f.bound in
      let order = both_rise (length l.ty_of) (names_of part.env) (binders_of (process_at l first)) (binders_of (process_at l other)) f.order in
      on [] other (f.unfolds.bodies.1.0.within, f.unfolds.bodies.1.0.is) parts.1 order.1
  if_well b x s f = absurd (cc s)

  -- behind an input
  received_well : (vs : List Val) (x : Node) → takes (shape part.vals part.env (node_tree l sound x)) vs ≡ true → Fits x
      → AllByRecursion (Stands l) (goes_on_from l part (received_by x vs) (body_of x))
  received_well vs (node.In c xs body) s f =
      let bs = binders (type_of_name l) xs in
      let size : length xs ≡ length vs = sym (length_binders (type_of_name l) xs) ∙ eqb-true (length bs) (length vs) s in
      let inner =
      (and_parts (is_bound (names_of part.env) (named c)) (is_scoped (map (λ (b : Binder). b.name) bs ++ names_of part.env) (process_at l body)) f.bound).1 in
      let names : map (λ (b : Binder). b.name) bs ≡ names_of (bound_to xs vs) = binder_names_are (type_of_name l) xs ∙ sym (bound_names xs vs size) in
      let apart = map-append (λ (b : Binder). b.name) bs (binders_of (process_at l body)) in
      let order = subst (λ ys. RiseFrom 0 (length l.ty_of) (names_of part.env ++ ys)) apart f.order in
      on (bound_to xs vs) body (f.unfolds.bodies.0.within, f.unfolds.bodies.0.is)
      (subst (λ ys. is_scoped (ys ++ names_of part.env) (process_at l body) ≡ true) names inner)
      (subst (λ ys. RiseFrom 0 (length l.ty_of) (names_of part.env ++ (ys ++ binder_names (process_at l body)))) names order)
  received_well vs x s f = absurd (cc s)

  -- one result more, where a redex is left
  result_well : (v : Val) → is_some (redex_of (process_of_part l part)) ≡ true → AllByRecursion (Stands l) (with_result_of part v ∷ [])
  result_well v some = ⊎_elim
      (λ (t : length part.vals < count_of (exprs_of (process_at l part.node))). (
        record {
          within = w.within;
          is = w.is;
          prefix = w.prefix;
          names = w.names;
          rising = w.rising;
          order = w.order;
          bound = w.bound;
          free = w.free;
          results = omega (arith, length-append part.vals (v ∷ []));
        },
        tt,
      ))
      (λ (t : count_of (exprs_of (process_at l part.node)) ≤ length part.vals).
      let full : length part.vals ≡ count_of (exprs_of (process_at l part.node)) = omega (arith, w.results) in
      let no : false ≡ true = sym (ap is_some (none_left_at l part w full)) ∙ some in absurd (cc no))
      (cases_lt (length part.vals) (count_of (exprs_of (process_at l part.node))))

  -- the parts after a deed, and after sending, stand well
  pub stands_after : (d : Deed) → suits (process_of_part l part) d ≡ true → AllByRecursion (Stands l) (parts_after l part d)
  stands_after (deed.Qbit q) s = qbit_well q here (ap is_qbit (sym by_node) ∙ s) fits_here
  stands_after (deed.New k) s = new_well k here (ap is_new (sym by_node) ∙ s) fits_here
  stands_after deed.Act s = act_well here (ap is_act (sym by_node) ∙ s) fits_here
  stands_after (deed.If b) s = if_well b here (ap is_branch (sym by_node) ∙ s) fits_here
  stands_after (deed.Com to chan) s = sent_well here (ap is_output (sym by_node) ∙ s) fits_here
  stands_after (deed.Add v) s = result_well (val.Num v) s
  stands_after (deed.Pick o) s = result_well (val.Gate o) s
  stands_after (deed.Gate o qs) s = result_well val.Unit s
  stands_after (deed.Measure qs m) s = result_well (val.Num m) s

  -- the parts stand well after values were received
  pub stands_received : (vs : List Val) → takes (process_of_part l part) vs ≡ true → AllByRecursion (Stands l) (parts_after_input l part vs)
  stands_received vs s = received_well vs here (ap (λ p. takes p vs) (sym by_node) ∙ s) fits_here

-- at the opening, where no name is bound, all stand well
pub stands_opening : (l : Listing) → IsProc l → AllByRecursion (Stands l) (opening_parts l)
stands_opening l sound =
    let root = has_root l (root l) sound.listed in
    from_well l sound [] 0 (record {
      there = (root.some, root.is);
      bound = sound.listed.scoped;
      order = subst (RiseFrom 0 (length l.ty_of)) (sym sound.listed.names) (range_rises 0 (length l.ty_of) (length l.ty_of) (omega arith));
    })
