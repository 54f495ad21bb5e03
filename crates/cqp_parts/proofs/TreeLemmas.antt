-- The tree at a number is that of its node, and the prefixes side by side in it are found by nodes.
use Rattle.std.proofs.Common.{◌≡◌, ℕ, true, false, List, [], ◌∷◌, map, ◌+◌, ◌-◌, ◌≤◌, ◌<◌, length, nat_lt, get_or, slice_get, Some, None, refl, sym, ap, arith}
use Rattle.std.proofs.Common.{subst, ◌∙◌, ⊎_elim}
use Rattle.std.proofs.lemmas.Bool.{cases_Bool}
use Rattle.std.proofs.lemmas.List.{map-append}
use Rattle.std.proofs.lemmas.Option.{slice_get_cases}
use Rattle.std.proofs.Math.ListN.{get_or-eq_default}
use Rattle.cqp_syntax.specs.declared.node.Node.{Node}
use Rattle.cqp_syntax.specs.declared.node.Node.TheVariants as node
use Rattle.cqp_syntax.specs.TypeTrees.{TypeTree}
use Rattle.cqp_syntax.specs.Trees.{Process, nil, par, new, qbit, act, input, output, branch}
use Rattle.cqp_syntax.specs.Terms.{process, as_process, term_of, terms_of}
use Rattle.cqp_syntax.specs.Listing.{Listing, IsProc, Unfolds, type_of_name, term_at, process_at, root}
use Rattle.cqp_syntax.proofs.Unfolding.{node_unfolds}
use Rattle.cqp_cells.specs.Config.{flattened}
use Rattle.cqp_parts.specs.declared.bind.Bind.{Bind}
use Rattle.cqp_parts.specs.Parts.{node_at, or_nil, left_of, right_of, prefixes_of, prefixes_at, parts_from, begins_at, process_of_part, with_bindings}
use Rattle.cqp_parts.proofs.PartLemmas.{flattened-bound}
use Rattle.cqp_parts.proofs.FreeLemmas.{kept_bound}

-- as many terms as nodes
length-terms : (ty : ℕ → TypeTree) (n : ℕ) (xs : List Node) → length (terms_of ty n xs) ≡ length xs
length-terms ty n [] = refl
length-terms ty n (x ∷ xs) = omega (arith, length-terms ty (n + 1) xs)

-- past the nodes there is nothing
pub nothing_past : (l : Listing) (n : ℕ) → length l.nodes ≤ n → term_at l n ≡ process nil
nothing_past l n h =
    let terms = terms_of (type_of_name l) 0 l.nodes in
    let past : length (terms_of (type_of_name l) 0 l.nodes) ≤ n - 0 = omega (arith, length-terms (type_of_name l) 0 l.nodes) in
    ⊎_elim
    (λ (t : nat_lt n 0 ≡ true). rw t refl)
    (λ (t : nat_lt n 0 ≡ false). rw t (get_or-eq_default (terms_of (type_of_name l) 0 l.nodes) (process nil) past))
    (cases_Bool (nat_lt n 0))

module _ (l : Listing) (sound : IsProc l) where
  -- what a node stands for
  abbrev pub node_tree : Node → Process
  node_tree x = as_process (term_of (type_of_name l) (term_at l) x)

  -- the process at a number is what the node there stands for
  pub tree_at : (n : ℕ) → process_at l n ≡ node_tree (node_at l n)
  tree_at n = ⊎_elim
      (λ (t : (x : Node) × (n < length l.nodes) × (slice_get l.nodes n ≡ Some x) × (get_or l.nodes n x ≡ x)).
      let same : node_at l n ≡ t.0 = ap or_nil t.2 in
      ap as_process (node_unfolds l (root l) sound.listed n t.0 t.2).tree ∙ ap node_tree (sym same))
      (λ (t : (length l.nodes ≤ n) × (slice_get l.nodes n ≡ None)).
      let same : node_at l n ≡ node.Nil = ap or_nil t.1 in
      ap as_process (nothing_past l n t.0) ∙ ap node_tree (sym same))
      (slice_get_cases l.nodes n).1

  -- a parallel composition stands at a node that is one
  pub par_sides : (x : Node) (p q : Process) → node_tree x ≡ par p q → (process_at l (left_of x) ≡ p) × (process_at l (right_of x) ≡ q)
  par_sides (node.Par left right) p q h = (cc, cc)
  par_sides node.Nil p q h = (cc, cc)
  par_sides (node.New x body) p q h = (cc, cc)
  par_sides (node.Qbit x body) p q h = (cc, cc)
  par_sides (node.Act e body) p q h = (cc, cc)
  par_sides (node.In c xs body) p q h = (cc, cc)
  par_sides (node.Out c es body) p q h = (cc, cc)
  par_sides (node.If left right first other) p q h = (cc, cc)
  par_sides (node.Num v) p q h = (cc, cc)
  par_sides node.Unit p q h = (cc, cc)
  par_sides (node.Name x) p q h = (cc, cc)
  par_sides (node.Gate op) p q h = (cc, cc)
  par_sides (node.Sig e) p q h = (cc, cc)
  par_sides (node.Add left right) p q h = (cc, cc)
  par_sides (node.Apply qs e) p q h = (cc, cc)
  par_sides (node.Measure qs) p q h = (cc, cc)

  -- the prefixes at the numbers side by side
  prefixes_stand : (n : ℕ) (p : Process) → process_at l n ≡ p → map (process_at l) (prefixes_of l n p) ≡ flattened p
  prefixes_stand n nil h = refl
  prefixes_stand n (par p q) h =
      let sides = par_sides (node_at l n) p q (sym (tree_at n) ∙ h) in
      map-append (process_at l) (prefixes_of l (left_of (node_at l n)) p) (prefixes_of l (right_of (node_at l n)) q)
      ∙ rw (prefixes_stand (left_of (node_at l n)) p sides.0, prefixes_stand (right_of (node_at l n)) q sides.1) refl
  prefixes_stand n (new b p) h = rw h refl
  prefixes_stand n (qbit x p) h = rw h refl
  prefixes_stand n (act e p) h = rw h refl
  prefixes_stand n (input c bs p) h = rw h refl
  prefixes_stand n (output c es p) h = rw h refl
  prefixes_stand n (branch e f p q) h = rw h refl

  -- a part that begins at a prefix stands for it, with the bindings put in
  begins_for : (env : List Bind) (ns : List ℕ) → map (process_of_part l) (map (begins_at l env) ns) ≡ map (with_bindings env) (map (process_at l) ns)
  begins_for env [] = refl
  begins_for env (n ∷ ns) = rw (kept_bound l n env, begins_for env ns) refl

  -- the parts side by side at a number stand for the processes side by side there
  pub parts_stand : (env : List Bind) (n : ℕ) → map (process_of_part l) (parts_from l env n) ≡ flattened (with_bindings env (process_at l n))
  parts_stand env n =
      begins_for env (prefixes_at l n)
      ∙ ap (map (with_bindings env)) (prefixes_stand n (process_at l n) refl)
      ∙ sym (flattened-bound env (process_at l n))

-- the node at a number unfolds the tree there
pub unfolds_at : (l : Listing) → IsProc l → (m : ℕ) → m < length l.nodes → Unfolds l m (node_at l m)
unfolds_at l is m within = ⊎_elim
    (λ (t : (x : Node) × (m < length l.nodes) × (slice_get l.nodes m ≡ Some x) × (get_or l.nodes m x ≡ x)).
    let same : node_at l m ≡ t.0 = ap or_nil t.2 in
    subst (λ x. Unfolds l m x) (sym same) (node_unfolds l (root l) is.listed m t.0 t.2))
    (λ (t : (length l.nodes ≤ m) × (slice_get l.nodes m ≡ None)). absurd (omega (arith, t.0)))
    (slice_get_cases l.nodes m).1
