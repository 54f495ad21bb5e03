-- Names in nodes are numbers below the count of names, which is at most that of nodes.
use Rattle.std.proofs.Common.{◌≡◌, ℕ, suc, ◌+◌, ◌<◌, ◌≤◌, Bool, true, false, ◌==◌, ◌&&◌, ◌||◌, nat_lt, List, [], ◌∷◌, ◌++◌, map, length, length-append}
use Rattle.std.proofs.Common.{refl, sym, ◌∙◌, ap, ap₂, subst, arith, sum_by, slice_get, Some, le_refl, zero-add}
use Rattle.std.specs.List.{list_all, list_any, AllByRecursion, range_with_len}
use Rattle.std.proofs.lemmas.List.{length-map}
use Rattle.std.proofs.lemmas.List.Sums.{sum_by-append, sum_by-cons}
use Rattle.std.proofs.lemmas.Bool.Decides.{nat_tests}
use Rattle.cqp_syntax.specs.declared.node.Node.{Node}
use Rattle.cqp_syntax.specs.declared.node.Node.TheVariants as node
use Rattle.cqp_syntax.specs.declared.val.Val.TheVariants as val
use Rattle.cqp_syntax.specs.Trees.{Slot, named, valued, Expr, slot, sig, add, apply, measure, Binder, Process}
use Rattle.cqp_syntax.specs.Trees.{nil, par, new, qbit, act, input, output, branch}
use Rattle.cqp_syntax.specs.Preorder.{expr_size, exprs_size, process_size, numbers_from, name_of, expr_nodes, exprs_nodes, process_nodes}
use Rattle.cqp_syntax.specs.Binders.{binders_of}
use Rattle.cqp_syntax.specs.Scope.{is_bound, is_scoped_expr, is_scoped}
use Rattle.cqp_syntax.specs.NodeNames.{binds_in, uses_in, NamesWithin}
use Rattle.cqp_syntax.specs.Listing.{Listing, IsListing, root, breadth_of, node_count}
use Rattle.cqp_syntax.proofs.Numbered.{AllFrom, join_from, at_from, all_front, all_back}
use Rattle.cqp_syntax.proofs.Sizes.{end_of_expr, end_of_exprs, end_of_process}
use Rattle.cqp_syntax.proofs.Bools.{fails, both}

-- binders stand in nodes
breadths : (xs ys : List Node) → sum_by breadth_of (xs ++ ys) ≡ sum_by breadth_of xs + sum_by breadth_of ys
breadths = sum_by-append breadth_of

-- a process binds no more names than it counts as
binders_within : (n : ℕ) (p : Process) → length (binders_of p) ≤ sum_by breadth_of (process_nodes n p)
binders_within n nil = omega arith
binders_within n (par p q) =
    let right = n + 1 + process_size p in
    omega (
      arith,
      length-append (binders_of p) (binders_of q),
      sum_by-cons breadth_of (node.Par (n + 1) right) (process_nodes (n + 1) p ++ process_nodes right q),
      breadths (process_nodes (n + 1) p) (process_nodes right q),
      binders_within (n + 1) p,
      binders_within right q,
    )
binders_within n (new b p) = omega (arith, sum_by-cons breadth_of (node.New b.name (n + 1)) (process_nodes (n + 1) p), binders_within (n + 1) p)
binders_within n (qbit x p) = omega (arith, sum_by-cons breadth_of (node.Qbit x (n + 1)) (process_nodes (n + 1) p), binders_within (n + 1) p)
binders_within n (act e p) =
    let body = n + 1 + expr_size e in
    omega (arith, sum_by-cons breadth_of (node.Act (n + 1) body) (expr_nodes (n + 1) e ++ process_nodes body p), breadths (expr_nodes (n + 1) e) (process_nodes body p), binders_within body p)
binders_within n (input c bs p) =
    omega (arith, sum_by-cons breadth_of (node.In (name_of c) (map (λ b. b.name) bs) (n + 1)) (process_nodes (n + 1) p), binders_within (n + 1) p, length-append bs (binders_of p), length-map bs (λ b. b.name))
binders_within n (output c es p) =
    let body = n + 1 + exprs_size es in
    omega (arith, sum_by-cons breadth_of (node.Out (name_of c) (numbers_from (n + 1) es) body) (exprs_nodes (n + 1) es ++ process_nodes body p), breadths (exprs_nodes (n + 1) es) (process_nodes body p), binders_within body p)
binders_within n (branch e f p q) =
    let right = n + 1 + expr_size e in
    let first = right + expr_size f in
    let other = first + process_size p in
    let bodies = process_nodes first p ++ process_nodes other q in
    omega (
      arith,
      length-append (binders_of p) (binders_of q),
      sum_by-cons breadth_of (node.If (n + 1) right first other) (expr_nodes (n + 1) e ++ (expr_nodes right f ++ bodies)),
      breadths (expr_nodes (n + 1) e) (expr_nodes right f ++ bodies),
      breadths (expr_nodes right f) bodies,
      breadths (process_nodes first p) (process_nodes other q),
      binders_within first p,
      binders_within other q,
    )

-- there are no more names than a process counts as
pub names_within : (l : Listing) (p : Process) → IsListing l p → length l.ty_of ≤ node_count l
names_within l p is =
    let names : length (binders_of p) ≡ length l.ty_of = sym (length-map (binders_of p) (λ b. b.ty)) ∙ ap length is.types ∙ length-map l.ty_of _ in
    omega (arith, binders_within 0 p, ap (sum_by breadth_of) is.nodes)

-- each of the names is below the count
abbrev Below : ℕ → List ℕ → Type 0
Below k xs = AllByRecursion (λ x. x < k) xs

-- a name among names below k is below k
bound_below : (k x : ℕ) (bound : List ℕ) → Below k bound → list_any (λ y. x == y) bound ≡ true → x < k
bound_below k x [] b h = absurd (fails h)
bound_below k x (y ∷ ys) b h = go (λ i. bound_below k x ys b.1 i) (x == y) refl h
  where
    go : (list_any (λ y. x == y) ys ≡ true → x < k) → (t : Bool) → (x == y) ≡ t → (t || list_any (λ y. x == y) ys) ≡ true → x < k
    go more true e i = let same : x ≡ y = grind (arith, e) in omega (arith, b.0, same)
    go more false e i = more i

-- the name of a bound slot is below k
slot_below : (k : ℕ) (bound : List ℕ) (s : Slot) → Below k bound → is_bound bound s ≡ true → name_of s < k
slot_below k bound (named x) b h = bound_below k x bound b h
slot_below k bound (valued v) b h = absurd (fails h)

-- so are those of bound slots
slots_below : (k : ℕ) (bound : List ℕ) (qs : List Slot) → Below k bound → list_all (is_bound bound) qs ≡ true → Below k (map name_of qs)
slots_below k bound [] b h = tt
slots_below k bound (q ∷ qs) b h =
    let parts = both (is_bound bound q) (list_all (is_bound bound) qs) h in (slot_below k bound q b parts.0, slots_below k bound qs b parts.1)

-- names of two lists below k are below k together
both_below : (k : ℕ) (xs ys : List ℕ) → Below k xs → Below k ys → Below k (xs ++ ys)
both_below k [] ys a b = b
both_below k (x ∷ xs) ys a b = (a.0, both_below k xs ys a.1 b)

-- the names of binders that are below k are names below k
names_below : (k : ℕ) (bs : List Binder) → AllByRecursion (λ b. b.name < k) bs → Below k (map (λ b. b.name) bs)
names_below k [] a = tt
names_below k (b ∷ bs) a = (a.0, names_below k bs a.1)

module _ (k : ℕ) where
  abbrev Named : ℕ → Node → Type 0
  Named n x = Below k (uses_in x) × Below k (binds_in x)

  expr_named : (bound : List ℕ) (n : ℕ) (e : Expr) → Below k bound → is_scoped_expr bound e ≡ true → AllFrom Named n (expr_nodes n e)
  expr_named bound n (slot (named x)) b h = (((bound_below k x bound b h, tt), tt), tt)
  expr_named bound n (slot (valued (val.Num v))) b h = ((tt, tt), tt)
  expr_named bound n (slot (valued val.Unit)) b h = ((tt, tt), tt)
  expr_named bound n (slot (valued (val.Gate o))) b h = ((tt, tt), tt)
  expr_named bound n (slot (valued (val.Qubit q))) b h = absurd (fails h)
  expr_named bound n (slot (valued (val.Chan c))) b h = absurd (fails h)
  expr_named bound n (sig e) b h = ((tt, tt), expr_named bound (n + 1) e b h)
  expr_named bound n (add e f) b h =
      let right = n + 1 + expr_size e in
      let parts = both (is_scoped_expr bound e) (is_scoped_expr bound f) h in (
        (tt, tt),
        join_from Named (n + 1) right (expr_nodes (n + 1) e) (expr_nodes right f) (end_of_expr (n + 1) e)
            (expr_named bound (n + 1) e b parts.0) (expr_named bound right f b parts.1),
      )
  expr_named bound n (apply qs e) b h =
      let parts = both (list_all (is_bound bound) qs) (is_scoped_expr bound e) h in
      ((slots_below k bound qs b parts.0, tt), expr_named bound (n + 1) e b parts.1)
  expr_named bound n (measure qs) b h = ((slots_below k bound qs b h, tt), tt)

  exprs_named : (bound : List ℕ) (n : ℕ) (es : List Expr) → Below k bound → list_all (is_scoped_expr bound) es ≡ true → AllFrom Named n (exprs_nodes n es)
  exprs_named bound n [] b h = tt
  exprs_named bound n (e ∷ es) b h =
      let next = n + expr_size e in
      let parts = both (is_scoped_expr bound e) (list_all (is_scoped_expr bound) es) h in
      join_from Named n next (expr_nodes n e) (exprs_nodes next es) (end_of_expr n e) (expr_named bound n e b parts.0) (exprs_named bound next es b parts.1)

  process_named : (bound : List ℕ) (n : ℕ) (p : Process) → Below k bound → AllByRecursion (λ c. c.name < k) (binders_of p) → is_scoped bound p ≡ true
      → AllFrom Named n (process_nodes n p)
  process_named bound n nil b a h = ((tt, tt), tt)
  process_named bound n (par p q) b a h =
      let right = n + 1 + process_size p in
      let parts = both (is_scoped bound p) (is_scoped bound q) h in (
        (tt, tt),
        join_from Named (n + 1) right (process_nodes (n + 1) p) (process_nodes right q) (end_of_process (n + 1) p)
            (process_named bound (n + 1) p b (all_front _ (binders_of p) (binders_of q) a) parts.0)
            (process_named bound right q b (all_back _ (binders_of p) (binders_of q) a) parts.1),
      )
  process_named bound n (new c p) b a h = ((tt, (a.0, tt)), process_named (c.name ∷ bound) (n + 1) p (a.0, b) a.1 h)
  process_named bound n (qbit x p) b a h = ((tt, (a.0, tt)), process_named (x ∷ bound) (n + 1) p (a.0, b) a.1 h)
  process_named bound n (act e p) b a h =
      let body = n + 1 + expr_size e in
      let parts = both (is_scoped_expr bound e) (is_scoped bound p) h in (
        (tt, tt),
        join_from Named (n + 1) body (expr_nodes (n + 1) e) (process_nodes body p) (end_of_expr (n + 1) e)
            (expr_named bound (n + 1) e b parts.0) (process_named bound body p b a parts.1),
      )
  process_named bound n (input c bs p) b a h =
      let inner = map (λ d. d.name) bs ++ bound in
      let parts = both (is_bound bound c) (is_scoped inner p) h in
      let own = names_below k bs (all_front _ bs (binders_of p) a) in (
        ((slot_below k bound c b parts.0, tt), own),
        process_named inner (n + 1) p (both_below k (map (λ d. d.name) bs) bound own b) (all_back _ bs (binders_of p) a) parts.1,
      )
  process_named bound n (output c es p) b a h =
      let body = n + 1 + exprs_size es in
      let parts = both (is_bound bound c && list_all (is_scoped_expr bound) es) (is_scoped bound p) h in
      let front = both (is_bound bound c) (list_all (is_scoped_expr bound) es) parts.0 in (
        ((slot_below k bound c b front.0, tt), tt),
        join_from Named (n + 1) body (exprs_nodes (n + 1) es) (process_nodes body p) (end_of_exprs (n + 1) es)
            (exprs_named bound (n + 1) es b front.1) (process_named bound body p b a parts.1),
      )
  process_named bound n (branch e f p q) b a h =
      let right = n + 1 + expr_size e in
      let first = right + expr_size f in
      let other = first + process_size p in
      let bodies = process_nodes first p ++ process_nodes other q in
      let parts = both (is_scoped_expr bound e && is_scoped_expr bound f && is_scoped bound p) (is_scoped bound q) h in
      let three = both (is_scoped_expr bound e && is_scoped_expr bound f) (is_scoped bound p) parts.0 in
      let two = both (is_scoped_expr bound e) (is_scoped_expr bound f) three.0 in
      let ends = join_from Named first other (process_nodes first p) (process_nodes other q) (end_of_process first p)
      (process_named bound first p b (all_front _ (binders_of p) (binders_of q) a) three.1)
      (process_named bound other q b (all_back _ (binders_of p) (binders_of q) a) parts.1) in
      let more = join_from Named right first (expr_nodes right f) bodies (end_of_expr right f) (expr_named bound right f b two.1) ends in (
        (tt, tt),
        join_from Named (n + 1) right (expr_nodes (n + 1) e) (expr_nodes right f ++ bodies) (end_of_expr (n + 1) e)
            (expr_named bound (n + 1) e b two.0) more,
      )

-- numbers from a on are below the end
range_below : (k a : ℕ) (bs : List Binder) → map (λ b. b.name) bs ≡ range_with_len a (length bs) → a + length bs ≤ k → AllByRecursion (λ b. b.name < k) bs
range_below k a [] e h = tt
range_below k a (b ∷ bs) e h =
    let own : b.name ≡ a = cc in
    (omega arith, range_below k (a + 1) bs (tail b.name a _ _ e) (omega arith))
  where
    tail : (x y : ℕ) (xs ys : List ℕ) → x ∷ xs ≡ y ∷ ys → xs ≡ ys
    tail x y xs ys e = cc

-- the names in a node of a process's listing
pub node_named : (l : Listing) (p : Process) → IsListing l p → (n : ℕ) (x : Node) → slice_get l.nodes n ≡ Some x → NamesWithin l x
node_named l p is n x found =
    let count : length (binders_of p) ≡ length l.ty_of = sym (length-map (binders_of p) (λ b. b.ty)) ∙ ap length is.types ∙ length-map l.ty_of _ in
    let names = is.names ∙ ap (range_with_len 0) (sym count) in
    let all = process_named (length l.ty_of) [] 0 p tt (range_below (length l.ty_of) 0 (binders_of p) names (omega arith)) is.scoped in
    let here : slice_get (process_nodes 0 p) n ≡ Some x = ap (λ xs. slice_get xs n) (sym is.nodes) ∙ found in
    let both = at_from (Named (length l.ty_of)) (process_nodes 0 p) 0 n n x (zero-add n) here all in
    record { uses = both.0; binds = both.1 }
