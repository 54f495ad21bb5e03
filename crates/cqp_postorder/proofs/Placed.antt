-- The lists of a tree while its fragments are placed, from the last to the first.
use Rattle.std.proofs.Common.{◌≡◌, ℕ, ◌+◌, ◌^◌, ◌<◌, ◌≤◌, List, [], ◌∷◌, ◌++◌, length, set}
use Rattle.std.proofs.Common.{replicate, refl, sym, ◌∙◌, ap, subst, append_assoc, length-append}
use Rattle.std.proofs.Common.{length-set, arith}
use Rattle.std.proofs.lemmas.List.{length-replicate, same_from_push}
use Rattle.cqp_program.specs.declared.tree.TreeNode.{TreeNode}
use Rattle.cqp_program.specs.declared.fragment.Fragment.{Fragment}
use Rattle.cqp_postorder.specs.Subtrees.{part_count, node_with, Subtree, over}
use Rattle.cqp_postorder.specs.Subtrees.{length_of, size_of, sizes_of, numbers_of}
use Rattle.cqp_postorder.specs.Subtrees.{nodes_of, all_nodes_of, offsets_of, all_offsets_of}
use Rattle.cqp_postorder.specs.Subtrees.{fragments_of, all_fragments_of, fragment_sizes, all_fragment_sizes}
use Rattle.cqp_postorder.specs.Subtrees.{IsCounted, Pending, nothing, behind}
use Rattle.cqp_postorder.specs.Subtrees.{pending_numbers, pending_fragments}
use Rattle.cqp_postorder.specs.Subtrees.{pending_sizes, EndIn}
use Rattle.cqp_postorder.specs.Placing.{written, filled, offsets_from, ArePlaced, PlacesRest}
use Rattle.cqp_postorder.specs.Placing.{PlacesNode}
use Rattle.cqp_postorder.proofs.Parts.{length-fragment_sizes}
use Rattle.cqp_postorder.proofs.Filling.{written-set, written_whole, spread}
use Rattle.cqp_postorder.proofs.Filling.{pending_numbers-spread}
use Rattle.cqp_postorder.proofs.Filling.{pending_fragments-spread, pending_sizes-spread}
use Rattle.cqp_postorder.proofs.Filling.{placed_spread, filled-spread}
use Rattle.cqp_postorder.proofs.Counts.{length-nodes_of, length-fragments_of, length-offsets_of}
use Rattle.cqp_postorder.proofs.Counts.{length_within_sizes, length-numbers_of}

-- at first the whole tree is pending
pub whole_pending : (t : Subtree) (left : List Fragment) (sizes : List ℕ) (n : ℕ)
    (node : TreeNode) → IsCounted t → left ≡ fragments_of t → sizes ≡ fragment_sizes t
    → n ≡ length left → n < 2 ^ 31
    → PlacesRest t left sizes (0 ∷ []) (replicate n node) (replicate n 0)
whole_pending t left sizes n node counted e f many few =
    let size : n ≡ size_of t = omega (arith, ap length e, length-fragments_of t) in
    record {
      rest = behind nothing 0 t;
      fragments = e;
      sized = f;
      numbered = refl;
      nodes_full = written_whole (nodes_of 0 t) node n (size ∙ sym (length-nodes_of 0 t));
      offsets_full = written_whole (offsets_of t) 0 n (size ∙ sym (length-offsets_of t));
      placed = (omega (arith, length-replicate n node), counted, tt);
      same = length-replicate n 0 ∙ sym (length-replicate n node);
      few = omega (arith, length-replicate n node);
    }

-- where no fragment is left, the lists are those of the tree
all_at : (t : Subtree) (nodes : List TreeNode) (offsets : List ℕ) (rest : Pending)
    → [] ≡ pending_fragments rest → filled nodes_of rest nodes ≡ nodes_of 0 t
    → filled offsets_from rest offsets ≡ offsets_of t
    → (nodes ≡ nodes_of 0 t) × (offsets ≡ offsets_of t)
all_at t nodes offsets nothing e f g = (f, g)
all_at t nodes offsets (behind ps n (over k at ts)) e f g =
    absurd (omega (
      arith,
      ap length e,
      length-append (pending_fragments ps) (fragments_of (over k at ts)),
      length-fragments_of (over k at ts),
    ))

-- where no fragment is left, the lists are those of the tree
pub none_left : (t : Subtree) (sizes numbers : List ℕ) (nodes : List TreeNode)
    (offsets : List ℕ) → PlacesRest t [] sizes numbers nodes offsets
    → (nodes ≡ nodes_of 0 t) × (offsets ≡ offsets_of t)
none_left t sizes numbers nodes offsets p =
    all_at t nodes offsets p.rest p.fragments p.nodes_full p.offsets_full

-- what is known where a fragment is left, before it is taken
pub record OneLeft (x : Fragment) (sizes numbers : List ℕ) (count : ℕ) : Type 0 where
  pub some_size : 0 < length sizes
  pub some_number : 0 < length numbers
  pub few_parts : part_count x.kind < count

-- a fragment that is left has a size and a number
one_left_at : (left : List Fragment) (x : Fragment) (sizes numbers : List ℕ) (count : ℕ)
    (rest : Pending) → left ++ x ∷ [] ≡ pending_fragments rest → sizes ≡ pending_sizes rest
    → numbers ≡ pending_numbers rest → ArePlaced count rest → OneLeft x sizes numbers count
one_left_at left x sizes numbers count nothing e f g placed =
    absurd (omega (arith, ap length e, length-append left (x ∷ [])))
one_left_at left x sizes numbers count (behind ps n (over k at ts)) e f g placed =
    let t = over k at ts in
    let root : Fragment = record { kind = k; at = at } in
    let split =
    same_from_push left (pending_fragments ps ++ all_fragments_of ts) x root
    (e ∙ sym (append_assoc (pending_fragments ps) (all_fragments_of ts) (root ∷ []))) in
    let parts : part_count x.kind ≡ length_of ts =
    ap (λ y. part_count y.kind) split.1 ∙ sym placed.1.0 in
    record {
      some_size =
          omega (
            arith,
            ap length f,
            length-append (pending_sizes ps) (fragment_sizes t),
            length-fragment_sizes t,
          );
      some_number = omega (arith, ap length g, length-append (pending_numbers ps) (n ∷ []));
      few_parts = omega (arith, placed.0, length_within_sizes ts);
    }

-- a fragment that is left has a size and a number that is in range
pub one_left : (t : Subtree) (left : List Fragment) (x : Fragment) (sizes numbers : List ℕ)
    (nodes : List TreeNode) (offsets : List ℕ)
    → PlacesRest t (left ++ x ∷ []) sizes numbers nodes offsets
    → OneLeft x sizes numbers (length nodes)
one_left t left x sizes numbers nodes offsets p =
    one_left_at left x sizes numbers (length nodes) p.rest p.fragments p.sized p.numbered p.placed

-- x is the last fragment, its size and its number are taken, and its node is to be placed
pub record Taken (t : Subtree) (left : List Fragment) (x : Fragment) (size n : ℕ)
    (sizes numbers : List ℕ) (nodes : List TreeNode) (offsets : List ℕ) : Type 0 where
  pub found : List ℕ
  pub node : PlacesNode t left x n found sizes numbers nodes offsets
  pub whole : size ≡ 1 + sizes_of node.parts

-- the fragment that is taken is the root of the last subtree that is left
taken_at : (t : Subtree) (left : List Fragment) (x : Fragment) (size n : ℕ)
    (sizes numbers : List ℕ) (nodes : List TreeNode) (offsets : List ℕ) (rest : Pending)
    → left ++ x ∷ [] ≡ pending_fragments rest → sizes ++ size ∷ [] ≡ pending_sizes rest
    → numbers ++ n ∷ [] ≡ pending_numbers rest → filled nodes_of rest nodes ≡ nodes_of 0 t
    → filled offsets_from rest offsets ≡ offsets_of t → ArePlaced (length nodes) rest
    → length offsets ≡ length nodes → length nodes < 2 ^ 31
    → Taken t left x size n sizes numbers nodes offsets
taken_at t left x size n sizes numbers nodes offsets nothing e sized numbered f g placed same few =
    absurd (omega (arith, ap length e, length-append left (x ∷ [])))
taken_at t left x size n sizes numbers nodes offsets (behind ps m (over k at ts)) e sized numbered
    f g placed same few =
    let root : Fragment = record { kind = k; at = at } in
    let whole = 1 + sizes_of ts in
    let split =
    same_from_push left (pending_fragments ps ++ all_fragments_of ts) x root
    (e ∙ sym (append_assoc (pending_fragments ps) (all_fragments_of ts) (root ∷ []))) in
    let size_split =
    same_from_push sizes (pending_sizes ps ++ all_fragment_sizes ts) size whole
    (sized ∙ sym (append_assoc (pending_sizes ps) (all_fragment_sizes ts) (whole ∷ []))) in
    let number_split = same_from_push numbers (pending_numbers ps) n m numbered in
    subst (λ y. Taken t left y size n sizes numbers nodes offsets) (sym split.1)
    (subst (λ l. Taken t left root size l sizes numbers nodes offsets) (sym number_split.1)
    (record {
      found = numbers_of (m + 1) ts;
      node = record {
        rest = ps;
        parts = ts;
        numbers_found = refl;
        fragments = split.0;
        sized = size_split.0;
        numbered = number_split.0;
        many = placed.1.0;
        counted = placed.1.1;
        within = placed.0;
        nodes_full = f;
        offsets_full = g;
        placed = placed.2;
        same = same;
        few = few;
      };
      whole = size_split.1;
    }))

-- the last size and the last number are those of the last fragment
pub taken : (t : Subtree) (left : List Fragment) (x : Fragment) (size n : ℕ)
    (all_sizes sizes all_numbers numbers : List ℕ) (nodes : List TreeNode) (offsets : List ℕ)
    → all_sizes ≡ sizes ++ size ∷ [] → all_numbers ≡ numbers ++ n ∷ []
    → PlacesRest t (left ++ x ∷ []) all_sizes all_numbers nodes offsets
    → Taken t left x size n sizes numbers nodes offsets
taken t left x size n all_sizes sizes all_numbers numbers nodes offsets f g p =
    taken_at t left x size n sizes numbers nodes offsets p.rest p.fragments (sym f ∙ p.sized)
    (sym g ∙ p.numbered) p.nodes_full p.offsets_full p.placed p.same p.few

module _ (t : Subtree) (left : List Fragment) (x : Fragment) (size n : ℕ) (sizes numbers : List ℕ)
    (nodes : List TreeNode) (offsets : List ℕ)
    (p : Taken t left x size n sizes numbers nodes offsets) where
  -- its node ends within the lists
  pub ends_within : n + size < 2 ^ 31
  ends_within = omega (arith, p.whole, p.node.within, p.node.few)

  -- its parts are the last of those that are left
  pub parts_last : (last : List ℕ) (count : ℕ) → last ≡ sizes → count ≡ part_count x.kind
      → EndIn last count p.node.parts
  parts_last last count e g = record {
    before = pending_sizes p.node.rest;
    are = e ∙ p.node.sized;
    many = p.node.many ∙ sym g;
  }

  -- their nodes stand right behind its own, and end where it ends
  pub parts_end : n + 1 + sizes_of p.node.parts ≡ n + size
  parts_end = omega (arith, p.whole)

module _ (t : Subtree) (left : List Fragment) (x : Fragment) (n : ℕ)
    (found sizes numbers : List ℕ) (nodes : List TreeNode) (offsets : List ℕ)
    (p : PlacesNode t left x n found sizes numbers nodes offsets) where
  -- the node has as many parts as its kind says
  pub found_many : length found ≡ part_count x.kind
  found_many = ap length p.numbers_found ∙ length-numbers_of (n + 1) p.parts ∙ p.many

  -- it stands within the lists
  pub stands_within : n < length nodes
  stands_within = omega (arith, p.within)

  -- once its node and offset stand at its number, its parts are pending
  pub node_placed : (node : TreeNode) → node ≡ node_with x.kind found
      → PlacesRest t left sizes (numbers ++ found) (set nodes n node) (set offsets n x.at)
  node_placed node g =
      let next = n + 1 in
      let node_is : node ≡ node_with x.kind (numbers_of next p.parts) =
      g ∙ ap (node_with x.kind) p.numbers_found in
      let long : length (set nodes n node) ≡ length nodes = length-set nodes n node in
      let within : next + sizes_of p.parts ≤ length nodes = omega (arith, p.within) in
      let placed = placed_spread (length nodes) p.rest next p.parts within p.counted p.placed in
      let nodes_spread =
      filled-spread nodes_of all_nodes_of (λ n. refl) (λ n u us. refl) length-nodes_of p.rest
      next p.parts (set nodes n node) in
      let offsets_spread =
      filled-spread offsets_from (λ n. all_offsets_of) (λ n. refl) (λ n u us. refl)
      (λ n. length-offsets_of) p.rest next p.parts (set offsets n x.at) in
      let node_first : written next (all_nodes_of next p.parts) (set nodes n node)
      ≡ written n (node_with x.kind (numbers_of next p.parts) ∷ all_nodes_of next p.parts) nodes =
      rw node_is (written-set next n (all_nodes_of next p.parts) nodes _ (omega arith)) in
      let offset_first : written next (all_offsets_of p.parts) (set offsets n x.at)
      ≡ written n (x.at ∷ all_offsets_of p.parts) offsets =
      written-set next n (all_offsets_of p.parts) offsets x.at (omega arith) in
      record {
        rest = spread p.rest next p.parts;
        fragments = p.fragments ∙ sym (pending_fragments-spread p.rest next p.parts);
        sized = p.sized ∙ sym (pending_sizes-spread p.rest next p.parts);
        numbered =
            ap (λ xs. xs ++ found) p.numbered
            ∙ ap (λ xs. pending_numbers p.rest ++ xs) p.numbers_found
            ∙ sym (pending_numbers-spread p.rest next p.parts);
        nodes_full = nodes_spread ∙ ap (λ o. filled nodes_of p.rest o) node_first ∙ p.nodes_full;
        offsets_full =
            offsets_spread ∙ ap (λ o. filled offsets_from p.rest o) offset_first ∙ p.offsets_full;
        placed = subst (λ k. ArePlaced k (spread p.rest next p.parts)) (sym long) placed;
        same = length-set offsets n x.at ∙ p.same ∙ sym long;
        few = omega (arith, p.few);
      }
