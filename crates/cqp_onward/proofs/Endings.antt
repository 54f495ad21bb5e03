-- Where the prefix of a part that stands ends, names rise, and its node binds each or it was free there.
use Rattle.std.proofs.Common.{◌≡◌, ℕ, true, Bool, List, [], ◌∷◌, ◌++◌, ◌==◌, length, append_assoc, refl, sym, ap, subst, ◌∙◌, ◌⊎◌, ⊎_elim}
use Rattle.std.proofs.lemmas.Bool.{eq-eqb, or_left, or_right}
use Rattle.std.proofs.lemmas.List.{map-append}
use Rattle.std.specs.List.{AllByRecursion, list_any}
use Rattle.cqp_syntax.specs.declared.val.Val.{Val}
use Rattle.cqp_syntax.specs.declared.node.Node.{Node}
use Rattle.cqp_syntax.specs.declared.node.Node.TheVariants as node
use Rattle.cqp_syntax.specs.NodeNames.{binds_in}
use Rattle.cqp_syntax.specs.Binders.{binders_of}
use Rattle.cqp_syntax.specs.Trees.{Binder}
use Rattle.cqp_syntax.specs.Listing.{Listing, IsProc, process_at, type_of_name}
use Rattle.cqp_parts.specs.declared.bind.Bind.{Bind}
use Rattle.cqp_parts.specs.declared.part.Part.{Part}
use Rattle.cqp_parts.specs.Free.{is_free}
use Rattle.cqp_parts.specs.Parts.{bound_to, node_at}
use Rattle.cqp_parts.proofs.TreeLemmas.{node_tree, tree_at}
use Rattle.cqp_standing.specs.Stands.{Stands, RiseFrom, binder_names, names_of}
use Rattle.cqp_standing.proofs.Rises.{more_rise, names_rise}
use Rattle.cqp_standing.proofs.StandLemmas.{binders, binder_names_are}
use Rattle.cqp_onward.specs.Forgetting.{PrefixEnds, is_known}
use Rattle.cqp_onward.proofs.Pushes.{all_both}

-- the binding's name is one of these
abbrev is_one : List ℕ → Bind → Bool
is_one xs b = list_any (λ y. y == b.name) xs

-- what is one of these is one of more
one_of_more : (x : ℕ) (xs : List ℕ) (env : List Bind) → AllByRecursion (λ b. is_one xs b ≡ true) env → AllByRecursion (λ b. is_one (x ∷ xs) b ≡ true) env
one_of_more x xs [] a = tt
one_of_more x xs (b ∷ env) a = (or_right (x == b.name) (list_any (λ y. y == b.name) xs) a.0, one_of_more x xs env a.1)

-- a binding to one of the names is one of them
bound_are : (xs : List ℕ) (vs : List Val) → AllByRecursion (λ b. is_one xs b ≡ true) (bound_to xs vs)
bound_are [] vs = tt
bound_are (x ∷ xs) [] = tt
bound_are (x ∷ xs) (v ∷ vs) = (
  or_left (x == x) (list_any (λ y. y == x) xs) (eq-eqb x x refl),
  one_of_more x xs (bound_to xs vs) (bound_are xs vs),
)

-- they are bound in order, as far as there are values
bound_front : (xs : List ℕ) (vs : List Val) → (more : List ℕ) × (xs ≡ names_of (bound_to xs vs) ++ more)
bound_front [] vs = ([], refl)
bound_front (x ∷ xs) [] = (x ∷ xs, refl)
bound_front (x ∷ xs) (v ∷ vs) = let rest = bound_front xs vs in (rest.0, ap (λ ys. x ∷ ys) rest.1)

module _ (l : Listing) (sound : IsProc l) (part : Part) (w : Stands l part) where
  -- the names that the part's node binds come first among those that its process binds
  binds_first : (x : Node) → (rest : List ℕ) × (binder_names (node_tree l sound x) ≡ binds_in x ++ rest)
  binds_first (node.New y body) = (binder_names (process_at l body), refl)
  binds_first (node.Qbit y body) = (binder_names (process_at l body), refl)
  binds_first (node.In c xs body) = (
    binder_names (process_at l body),
    map-append (λ (b : Binder). b.name) (binders (type_of_name l) xs) (binders_of (process_at l body))
        ∙ ap (λ ys. ys ++ binder_names (process_at l body)) (binder_names_are (type_of_name l) xs),
  )
  binds_first x = (binder_names (node_tree l sound x), refl)

  -- names that are free at the node
  all_free_known : (env : List Bind) → AllByRecursion (λ b. is_free b.name (process_at l part.node) ≡ true) env
      → AllByRecursion (λ b. is_known l part.node b.name ≡ true) env
  all_free_known [] a = tt
  all_free_known (b ∷ env) a = (or_left (is_free b.name (process_at l part.node)) _ a.0, all_free_known env a.1)

  -- and names that it binds
  all_bound_known : (env : List Bind) → AllByRecursion (λ b. is_one (binds_in (node_at l part.node)) b ≡ true) env
      → AllByRecursion (λ b. is_known l part.node b.name ≡ true) env
  all_bound_known [] a = tt
  all_bound_known (b ∷ env) a = (or_right (is_free b.name (process_at l part.node)) _ a.0, all_bound_known env a.1)

  -- its prefix may end with names bound that its node binds
  pub may_bind : (xs : List ℕ) (vs : List Val) → binds_in (node_at l part.node) ≡ xs → PrefixEnds l part.node (part.env ++ bound_to xs vs)
  may_bind xs vs is =
      let env = part.env in
      let all = binds_first (node_at l part.node) in
      let front = bound_front xs vs in
      let names : binder_names (process_at l part.node) ≡ names_of (bound_to xs vs) ++ (front.0 ++ all.0) =
      ap binder_names (tree_at l sound part.node)
      ∙ (all.1 ∙ (ap (λ ys. ys ++ all.0) (is ∙ front.1) ∙ append_assoc (names_of (bound_to xs vs)) front.0 all.0)) in
      let before = subst (λ ys. RiseFrom 0 (length l.ty_of) (names_of env ++ ys)) names w.order in
      let order = more_rise (length l.ty_of) env (bound_to xs vs) (front.0 ++ all.0) before in
      record {
        there = (w.within, w.is);
        rising = names_rise 0 (length l.ty_of) (env ++ bound_to xs vs) (front.0 ++ all.0) order;
        known = all_both (λ b. is_known l part.node b.name ≡ true) env (bound_to xs vs) (all_free_known env w.free)
            (all_bound_known (bound_to xs vs) (subst (λ ys. AllByRecursion (λ b. is_one ys b ≡ true) (bound_to xs vs)) (sym is) (bound_are xs vs)));
      }

  -- as a binder's does with its name bound
  pub may_bind_name : (x : Node) (y : ℕ) (v : Val) → node_at l part.node ≡ x
      → ((body : ℕ) × (x ≡ node.New y body)) ⊎ ((body : ℕ) × (x ≡ node.Qbit y body))
      → PrefixEnds l part.node (part.env ++ record { name = y; val = v } ∷ [])
  may_bind_name x y v there is =
      let bound : binds_in x ≡ y ∷ [] = ⊎_elim
      (λ (t : (body : ℕ) × (x ≡ node.New y body)). ap binds_in t.1)
      (λ (t : (body : ℕ) × (x ≡ node.Qbit y body)). ap binds_in t.1)
      is in
      may_bind (y ∷ []) (v ∷ []) (ap binds_in there ∙ bound)
