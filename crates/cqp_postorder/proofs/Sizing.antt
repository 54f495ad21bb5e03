-- The sizes of a tree's fragments, found from the first fragment to the last.
use Rattle.std.proofs.Common.{◌≡◌, ℕ, ◌+◌, ◌-◌, ◌<◌, ◌≤◌, List, [], ◌∷◌, ◌++◌, length, get_or, take}
use Rattle.std.proofs.Common.{refl, sym, ◌∙◌, ap, append_assoc}
use Rattle.std.proofs.Common.{length-append, arith, inl, inr, ◌⊎◌}
use Rattle.std.proofs.lemmas.Bool.{cases_lt}
use Rattle.std.proofs.lemmas.List.{take_at, take_all, take_more, get_or_at, get_or_append_left}
use Rattle.std.proofs.lemmas.List.{get_or-append_right}
use Rattle.cqp_program.specs.declared.fragment.Fragment.{Fragment}
use Rattle.cqp_postorder.specs.Subtrees.{part_count, Subtree, over, Subtrees, no_parts, part_and}
use Rattle.cqp_postorder.specs.Subtrees.{length_of, size_of, sizes_of, fragments_of, all_fragments_of}
use Rattle.cqp_postorder.specs.Subtrees.{fragment_sizes, all_fragment_sizes, IsCounted, AreCounted}
use Rattle.cqp_postorder.specs.Subtrees.{EndIn}
use Rattle.cqp_postorder.proofs.Counts.{length-fragments_of, length-all_fragments_of}
use Rattle.cqp_postorder.proofs.Counts.{length_within_sizes}
use Rattle.cqp_postorder.proofs.Parts.{length-fragment_sizes, length-all_fragment_sizes}

-- a number is below another, or it is not
below_or_not : {C : Type 0} (a b : ℕ) → (a < b → C) → (b ≤ a → C) → C
below_or_not {C = C} a b f g = by_cases (cases_lt a b)
  where
    by_cases : (a < b) ⊎ (b ≤ a) → C
    by_cases (inl h) = f h
    by_cases (inr h) = g h

-- behind the sizes of its parts, which are so many, a fragment has its own size at i
pub record NodeAt (all : List ℕ) (i count : ℕ) : Type 0 where
  pub before : List ℕ
  pub parts : Subtrees
  pub after : List ℕ
  pub are : all ≡ (before ++ all_fragment_sizes parts) ++ (1 + sizes_of parts) ∷ after
  pub place : length (before ++ all_fragment_sizes parts) ≡ i
  pub many : length_of parts ≡ count

-- also where more sizes follow
node_then : (all more : List ℕ) (i count : ℕ) → NodeAt all i count → NodeAt (all ++ more) i count
node_then all more i count h =
    let front = h.before ++ all_fragment_sizes h.parts in
    record {
      before = h.before;
      parts = h.parts;
      after = h.after ++ more;
      are =
          ap (λ l. l ++ more) h.are
          ∙ append_assoc front ((1 + sizes_of h.parts) ∷ h.after) more;
      place = h.place;
      many = h.many;
    }

-- also behind other sizes
node_behind : (front all : List ℕ) (i j count : ℕ) → NodeAt all j count → i ≡ length front + j
    → NodeAt (front ++ all) i count
node_behind front all i j count h e =
    let own = h.before ++ all_fragment_sizes h.parts in
    let joined : front ++ own ≡ (front ++ h.before) ++ all_fragment_sizes h.parts =
    sym (append_assoc front h.before (all_fragment_sizes h.parts)) in
    record {
      before = front ++ h.before;
      parts = h.parts;
      after = h.after;
      are =
          ap (λ l. front ++ l) h.are
          ∙ sym (append_assoc front own ((1 + sizes_of h.parts) ∷ h.after))
          ∙ ap (λ l. l ++ (1 + sizes_of h.parts) ∷ h.after) joined;
      place = omega (arith, h.place, ap length joined, length-append front own);
      many = h.many;
    }

mutual
  -- so it is at each fragment of a tree
  node_in : (t : Subtree) (i : ℕ) (x : Fragment) → IsCounted t → i < size_of t
      → x ≡ get_or (fragments_of t) i x → NodeAt (fragment_sizes t) i (part_count x.kind)
  node_in (over k at ts) i x counted within is =
      let root : Fragment = record { kind = k; at = at } in
      let long = length-all_fragments_of ts in
      below_or_not i (sizes_of ts)
      (λ h. node_then (all_fragment_sizes ts) ((1 + sizes_of ts) ∷ []) i (part_count x.kind)
      (node_among ts i x counted.1 h
      (is ∙ get_or_append_left (all_fragments_of ts) (root ∷ []) x i (omega arith))))
      (λ h.
      let place : length (all_fragments_of ts) ≡ i = omega arith in
      let root_is : x ≡ root = is ∙ get_or_at (all_fragments_of ts) root [] x i place in
      record {
        before = [];
        parts = ts;
        after = [];
        are = refl;
        place = omega (arith, length-all_fragment_sizes ts);
        many = counted.0 ∙ sym (ap (λ y. part_count y.kind) root_is);
      })

  -- and at each of subtrees
  node_among : (ts : Subtrees) (i : ℕ) (x : Fragment) → AreCounted ts → i < sizes_of ts
      → x ≡ get_or (all_fragments_of ts) i x → NodeAt (all_fragment_sizes ts) i (part_count x.kind)
  node_among no_parts i x counted within is = absurd (omega arith)
  node_among (part_and t ts) i x counted within is =
      let long = length-fragments_of t in
      let own = length-fragment_sizes t in
      below_or_not i (size_of t)
      (λ h. node_then (fragment_sizes t) (all_fragment_sizes ts) i (part_count x.kind)
      (node_in t i x counted.0 h
      (is ∙ get_or_append_left (fragments_of t) (all_fragments_of ts) x i (omega arith))))
      (λ h. node_behind (fragment_sizes t) (all_fragment_sizes ts) i (i - size_of t)
      (part_count x.kind)
      (node_among ts (i - size_of t) x counted.1 (omega arith)
      (is ∙ get_or-append_right (fragments_of t) (all_fragments_of ts) (size_of t) i x long h))
      (omega arith))

-- the sizes so far end in those of the next fragment's parts, and its own is the next
pub record NextSize (sizes next : List ℕ) (count : ℕ) : Type 0 where
  pub parts : Subtrees
  pub last : EndIn sizes count parts
  pub more : next ≡ sizes ++ (1 + sizes_of parts) ∷ []
  pub few : count ≤ length sizes
  pub within : sizes_of parts ≤ length sizes

-- so it is at each fragment x
pub next_size : (t : Subtree) (all : List Fragment) (sizes : List ℕ) (i : ℕ) (x : Fragment)
    → IsCounted t → all ≡ fragments_of t → i < length all → x ≡ get_or all i x
    → sizes ≡ take i (fragment_sizes t)
    → NextSize sizes (take (i + 1) (fragment_sizes t)) (part_count x.kind)
next_size t all sizes i x counted e within is so_far =
    let inside : i < size_of t = omega (arith, ap length e, length-fragments_of t) in
    let node = node_in t i x counted inside (is ∙ ap (λ l. get_or l i x) e) in
    let front = node.before ++ all_fragment_sizes node.parts in
    let root = 1 + sizes_of node.parts in
    let sizes_are : sizes ≡ front =
    so_far ∙ ap (take i) node.are ∙ take_at front (root ∷ node.after) i node.place in
    let root_is : get_or (fragment_sizes t) i 0 ≡ root =
    ap (λ l. get_or l i 0) node.are ∙ get_or_at front root node.after 0 i node.place in
    let long : length sizes ≡ length node.before + sizes_of node.parts =
    ap length sizes_are ∙ length-append node.before (all_fragment_sizes node.parts)
    ∙ ap (λ n. length node.before + n) (length-all_fragment_sizes node.parts) in
    record {
      parts = node.parts;
      last = record { before = node.before; are = sizes_are; many = node.many };
      more =
          take_more (fragment_sizes t) i 0 (omega (arith, length-fragment_sizes t))
          ∙ ap (λ l. l ++ get_or (fragment_sizes t) i 0 ∷ []) (sym so_far)
          ∙ ap (λ n. sizes ++ n ∷ []) root_is;
      few = omega (arith, node.many, length_within_sizes node.parts);
      within = omega arith;
    }

-- where no fragment is left, all sizes are found
pub sizes_end : (t : Subtree) (all : List Fragment) (i : ℕ) → all ≡ fragments_of t → length all ≤ i
    → take i (fragment_sizes t) ≡ fragment_sizes t
sizes_end t all i e past =
    take_all i (fragment_sizes t)
    (omega (arith, ap length e, length-fragments_of t, length-fragment_sizes t))
