-- How many nodes, fragments and offsets a subtree has, and how many numbers its parts.
use Rattle.std.proofs.Common.{◌≡◌, ℕ, ◌+◌, ◌≤◌, [], ◌∷◌, length, refl}
use Rattle.std.proofs.Common.{length-append, arith}
use Rattle.cqp_postorder.specs.Subtrees.{Subtree, over, Subtrees, no_parts, part_and, length_of}
use Rattle.cqp_postorder.specs.Subtrees.{size_of, sizes_of, nodes_of, all_nodes_of, offsets_of}
use Rattle.cqp_postorder.specs.Subtrees.{all_offsets_of, fragments_of, all_fragments_of, numbers_of}

mutual
  -- a subtree has as many nodes as its size says
  pub length-nodes_of : (n : ℕ) (t : Subtree) → length (nodes_of n t) ≡ size_of t
  length-nodes_of n (over k at ts) = omega (arith, length-all_nodes_of (n + 1) ts)

  -- subtrees have as many nodes as their sizes say
  pub length-all_nodes_of : (n : ℕ) (ts : Subtrees) → length (all_nodes_of n ts) ≡ sizes_of ts
  length-all_nodes_of n no_parts = refl
  length-all_nodes_of n (part_and t ts) =
      omega (
        arith,
        length-append (nodes_of n t) (all_nodes_of (n + size_of t) ts),
        length-nodes_of n t,
        length-all_nodes_of (n + size_of t) ts,
      )

mutual
  -- and as many fragments
  pub length-fragments_of : (t : Subtree) → length (fragments_of t) ≡ size_of t
  length-fragments_of (over k at ts) =
      omega (
        arith,
        length-append (all_fragments_of ts) ((record { kind = k; at = at }) ∷ []),
        length-all_fragments_of ts,
      )

  -- subtrees have as many fragments as their sizes say
  pub length-all_fragments_of : (ts : Subtrees) → length (all_fragments_of ts) ≡ sizes_of ts
  length-all_fragments_of no_parts = refl
  length-all_fragments_of (part_and t ts) =
      omega (
        arith,
        length-append (fragments_of t) (all_fragments_of ts),
        length-fragments_of t,
        length-all_fragments_of ts,
      )

mutual
  -- and as many offsets
  pub length-offsets_of : (t : Subtree) → length (offsets_of t) ≡ size_of t
  length-offsets_of (over k at ts) = omega (arith, length-all_offsets_of ts)

  -- subtrees have as many offsets as their sizes say
  pub length-all_offsets_of : (ts : Subtrees) → length (all_offsets_of ts) ≡ sizes_of ts
  length-all_offsets_of no_parts = refl
  length-all_offsets_of (part_and t ts) =
      omega (
        arith,
        length-append (offsets_of t) (all_offsets_of ts),
        length-offsets_of t,
        length-all_offsets_of ts,
      )

-- a subtree has at least one node
pub length_within_sizes : (ts : Subtrees) → length_of ts ≤ sizes_of ts
length_within_sizes no_parts = omega arith
length_within_sizes (part_and (over k at us) ts) = omega (arith, length_within_sizes ts)

-- parts that stand behind one another have as many numbers
pub length-numbers_of : (n : ℕ) (ts : Subtrees) → length (numbers_of n ts) ≡ length_of ts
length-numbers_of n no_parts = refl
length-numbers_of n (part_and t ts) = omega (arith, length-numbers_of (n + size_of t) ts)
