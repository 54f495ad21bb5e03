-- The prefixes side by side in a process stand one behind the other within its subtree.
use Rattle.std.proofs.Common.{◌≡◌, ℕ, List, [], ◌∷◌, ◌++◌, map, ◌-◌, ◌≤◌, ◌<◌, length, take, drop, slice_index_or, slice_get, get_or, Some, None, refl, sym, ap, subst, arith, ◌∙◌, ⊎_elim}
use Rattle.std.proofs.lemmas.Option.{slice_get_cases}
use Rattle.std.specs.List.{AllByRecursion}
use Rattle.cqp_syntax.specs.Ends.{end_at}
use Rattle.cqp_syntax.specs.declared.node.Node.{Node}
use Rattle.cqp_syntax.specs.declared.node.Node.TheVariants as node
use Rattle.cqp_syntax.specs.Trees.{Process, nil, par, new, qbit, act, input, output, branch}
use Rattle.cqp_syntax.specs.Preorder.{process_size}
use Rattle.cqp_syntax.specs.Subterms.{term_size, term_node}
use Rattle.cqp_syntax.specs.Listing.{Listing, IsProc, Unfolds, term_at, process_at}
use Rattle.cqp_syntax.proofs.Parts.{left_behind, right_behind, par_ends}
use Rattle.cqp_syntax.proofs.Spreads.{node_is}
use Rattle.cqp_parts.specs.declared.bind.Bind.{Bind}
use Rattle.cqp_parts.specs.declared.part.Part.{Part}
use Rattle.cqp_parts.specs.Parts.{begins_at, node_at, or_nil, left_of, right_of, prefixes_of, prefixes_at, IsProcessAt}
use Rattle.cqp_parts.proofs.Lists.{take_all}
use Rattle.cqp_parts.proofs.TreeLemmas.{unfolds_at, node_tree, tree_at, par_sides}
use Rattle.cqp_onward.specs.Leads.{LeadsTo}
use Rattle.cqp_onward.specs.Sharing.{StandApart}

-- numbers that stand apart do so from a lesser number on
from_less : (l : Listing) (a b c : ℕ) (ns : List ℕ) → a ≤ b → StandApart l b c ns → StandApart l a c ns
from_less l a b c [] h s = omega arith
from_less l a b c (n ∷ ns) h s = (omega (arith, s.0), s.1)

-- and to a greater one
to_more : (l : Listing) (a b c : ℕ) (ns : List ℕ) → StandApart l a b ns → b ≤ c → StandApart l a c ns
to_more l a b c [] s h = omega arith
to_more l a b c (n ∷ ns) s h = (s.0, to_more l (end_at l n) b c ns s.1 h)

-- two lists, the second behind the first
both_apart : (l : Listing) (a b c d : ℕ) (ms ns : List ℕ) → b ≤ c → StandApart l a b ms → StandApart l c d ns → StandApart l a d (ms ++ ns)
both_apart l a b c d [] ns h s t = from_less l a c d ns (omega arith) t
both_apart l a b c d (m ∷ ms) ns h s t = (s.0, both_apart l (end_at l m) b c d ms ns h s.1 t)

-- the sides of a parallel composition: the right one stands behind the left one, and both within
record Sides (l : Listing) (m left right : ℕ) : Type 0 where
  pub first : IsProcessAt l left
  pub second : IsProcessAt l right
  pub starts : m ≤ left
  pub meets : end_at l left ≤ right
  pub ends : end_at l right ≤ end_at l m

-- a node of the list is that of its term
own_node : (l : Listing) → IsProc l → (m : ℕ) → m < length l.nodes → node_at l m ≡ term_node m (term_at l m)
own_node l is m within = ⊎_elim
    (λ (t : (x : Node) × (m < length l.nodes) × (slice_get l.nodes m ≡ Some x) × (get_or l.nodes m x ≡ x)).
    let same : node_at l m ≡ t.0 = ap or_nil t.2 in same ∙ node_is l is.listed m t.0 t.2)
    (λ (t : (length l.nodes ≤ m) × (slice_get l.nodes m ≡ None)). absurd (omega (arith, t.0)))
    (slice_get_cases l.nodes m).1

module _ (l : Listing) (is : IsProc l) where
  -- they are the sides of its node
  sides : (m : ℕ) (x : Node) (p q : Process) → IsProcessAt l m → Unfolds l m x → x ≡ term_node m (term_at l m) → node_tree l is x ≡ par p q
      → Sides l m (left_of x) (right_of x)
  sides m (node.Par left right) p q there u own h =
      let starts = left_behind l m left right u own in
      let meets = right_behind l m (node.Par left right) left right u own refl in
      let size : term_size (term_at l left) ≡ process_size (process_at l left) = ap term_size u.bodies.0.is in
      record {
        first = (u.bodies.0.within, u.bodies.0.is);
        second = (u.bodies.1.0.within, u.bodies.1.0.is);
        starts = omega (arith, starts);
        meets = omega (arith, starts, meets, size);
        ends = omega (arith, par_ends l m left right u own);
      }
  sides m x p q there u own h = absurd (cc h)

  -- the prefixes of a process at a number
  prefixes_apart : (m : ℕ) (p : Process) → process_at l m ≡ p → IsProcessAt l m → StandApart l m (end_at l m) (prefixes_of l m p)
  prefixes_apart m nil h there = omega arith
  prefixes_apart m (par p q) h there =
      let tree = sym (tree_at l is m) ∙ h in
      let are = par_sides l is (node_at l m) p q tree in
      let s = sides m (node_at l m) p q there (unfolds_at l is m there.0) (own_node l is m there.0) tree in
      let left = left_of (node_at l m) in
      let right = right_of (node_at l m) in
      let first = from_less l m left (end_at l left) (prefixes_of l left p) s.starts (prefixes_apart left p are.0 s.first) in
      let second = prefixes_apart right q are.1 s.second in
      let both = both_apart l m (end_at l left) right (end_at l right) (prefixes_of l left p) (prefixes_of l right q) s.meets first second in
      to_more l m (end_at l right) (end_at l m) (prefixes_of l left p ++ prefixes_of l right q) both s.ends
  prefixes_apart m (new b p) h there = (omega arith, omega arith)
  prefixes_apart m (qbit x p) h there = (omega arith, omega arith)
  prefixes_apart m (act e p) h there = (omega arith, omega arith)
  prefixes_apart m (input c bs p) h there = (omega arith, omega arith)
  prefixes_apart m (output c es p) h there = (omega arith, omega arith)
  prefixes_apart m (branch e f p q) h there = (omega arith, omega arith)

  -- those side by side at a number
  pub stand_apart : (m : ℕ) → IsProcessAt l m → StandApart l m (end_at l m) (prefixes_at l m)
  stand_apart m there = prefixes_apart m (process_at l m) refl there

-- the first of them, and parts at the others, lead on from there
pub leads : (l : Listing) → IsProc l → (env : List Bind) (n : ℕ) → IsProcessAt l n → (ns : List ℕ) → ns ≡ prefixes_at l n → AllByRecursion (IsProcessAt l) ns
    → 0 < length ns → (others : List Part) → ((a b : ℕ) → AllByRecursion (IsProcessAt l) (take (length ns - 1) (drop 1 ns))
    → StandApart l a b (take (length ns - 1) (drop 1 ns)) → others ≡ map (begins_at l env) (take (length ns - 1) (drop 1 ns)))
    → LeadsTo l env n (record { first = Some (slice_index_or ns 0 0); others = others })
leads l is env n there [] e each some others told = absurd (omega arith)
leads l is env n there (x ∷ xs) e each some others told =
    let same : take (length (x ∷ xs) - 1) xs ≡ xs = take_all xs (length (x ∷ xs) - 1) (omega arith) in
    let apart : StandApart l n (end_at l n) (x ∷ xs) = subst (StandApart l n (end_at l n)) (sym e) (stand_apart l is n there) in
    let there_all = subst (AllByRecursion (IsProcessAt l)) (sym same) each.1 in
    let begun = told (end_at l x) (end_at l n) there_all (subst (StandApart l (end_at l x) (end_at l n)) (sym same) apart.1) in
    record {
      first = (each.0, tt);
      all = ap (λ ps. begins_at l env x ∷ ps) (begun ∙ ap (map (begins_at l env)) same) ∙ ap (map (begins_at l env)) e;
    }
