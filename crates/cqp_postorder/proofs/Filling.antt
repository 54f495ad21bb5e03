-- Lists that are filled at the places of pending subtrees.
use Rattle.std.proofs.Common.{◌≡◌, ◌≢◌, ℕ, ◌+◌, ◌<◌, ◌≤◌, List, [], ◌∷◌, ◌++◌, length, set}
use Rattle.std.proofs.Common.{replicate, refl, sym, ◌∙◌, ap, append_assoc, append-nil}
use Rattle.std.proofs.Common.{length-append, arith}
use Rattle.std.proofs.lemmas.List.{set_comm, set_at}
use Rattle.cqp_postorder.specs.Subtrees.{Subtree, Subtrees, no_parts, part_and, size_of}
use Rattle.cqp_postorder.specs.Subtrees.{sizes_of, numbers_of, fragments_of, all_fragments_of}
use Rattle.cqp_postorder.specs.Subtrees.{fragment_sizes, all_fragment_sizes, AreCounted}
use Rattle.cqp_postorder.specs.Subtrees.{Pending, behind, pending_numbers}
use Rattle.cqp_postorder.specs.Subtrees.{pending_fragments, pending_sizes}
use Rattle.cqp_postorder.specs.Placing.{written, filled, ArePlaced}

-- two lists of items are written one after another
pub written-append : {X : Type 0} (n : ℕ) (xs ys out : List X)
    → written n (xs ++ ys) out ≡ written n xs (written (n + length xs) ys out)
written-append n [] ys out = let e : n ≡ n + 0 = omega arith in ap (λ k. written k ys out) e
written-append n (x ∷ xs) ys out =
    let e : n + 1 + length xs ≡ n + length (x ∷ xs) = omega arith in
    ap (λ o. set o n x)
    (written-append (n + 1) xs ys out ∙ ap (λ k. written (n + 1) xs (written k ys out)) e)

-- an item before all others may be written first
pub written-set : {X : Type 0} (n m : ℕ) (xs out : List X) (x : X) → m < n
    → written n xs (set out m x) ≡ set (written n xs out) m x
written-set n m [] out x h = refl
written-set n m (y ∷ ys) out x h =
    let apart : m ≢ n = omega arith in
    ap (λ o. set o n y) (written-set (n + 1) m ys out x (omega arith))
    ∙ set_comm (written (n + 1) ys out) m n x y apart

-- behind what stands there, a list is written over as many items
written_behind : {X : Type 0} (front xs : List X) (d : X) (n : ℕ) → length front ≡ n
    → written n xs (front ++ replicate (length xs) d) ≡ front ++ xs
written_behind front [] d n h = refl
written_behind front (x ∷ xs) d n h =
    let more : front ++ replicate (length (x ∷ xs)) d
    ≡ (front ++ d ∷ []) ++ replicate (length xs) d =
    sym (append_assoc front (d ∷ []) (replicate (length xs) d)) in
    let long : length (front ++ d ∷ []) ≡ n + 1 = omega (arith, length-append front (d ∷ [])) in
    let rest = written_behind (front ++ d ∷ []) xs d (n + 1) long in
    ap (λ o. set (written (n + 1) xs o) n x) more
    ∙ ap (λ o. set o n x) (rest ∙ append_assoc front (d ∷ []) xs) ∙ set_at front d xs x n h

-- a list that is written over as many items
pub written_whole : {X : Type 0} (xs : List X) (d : X) (n : ℕ) → n ≡ length xs
    → written 0 xs (replicate n d) ≡ xs
written_whole xs d n h = ap (λ k. written 0 xs (replicate k d)) h ∙ written_behind [] xs d 0 refl

-- these subtrees too, the first at n and each behind the one before it
abbrev pub spread : Pending → ℕ → Subtrees → Pending
spread ps n no_parts = ps
spread ps n (part_and t ts) = spread (behind ps n t) (n + size_of t) ts

-- their numbers
pub pending_numbers-spread : (ps : Pending) (n : ℕ) (ts : Subtrees)
    → pending_numbers (spread ps n ts) ≡ pending_numbers ps ++ numbers_of n ts
pending_numbers-spread ps n no_parts = sym (append-nil (pending_numbers ps))
pending_numbers-spread ps n (part_and t ts) =
    pending_numbers-spread (behind ps n t) (n + size_of t) ts
    ∙ append_assoc (pending_numbers ps) (n ∷ []) (numbers_of (n + size_of t) ts)

-- their fragments
pub pending_fragments-spread : (ps : Pending) (n : ℕ) (ts : Subtrees)
    → pending_fragments (spread ps n ts) ≡ pending_fragments ps ++ all_fragments_of ts
pending_fragments-spread ps n no_parts = sym (append-nil (pending_fragments ps))
pending_fragments-spread ps n (part_and t ts) =
    pending_fragments-spread (behind ps n t) (n + size_of t) ts
    ∙ append_assoc (pending_fragments ps) (fragments_of t) (all_fragments_of ts)

-- the sizes of these
pub pending_sizes-spread : (ps : Pending) (n : ℕ) (ts : Subtrees)
    → pending_sizes (spread ps n ts) ≡ pending_sizes ps ++ all_fragment_sizes ts
pending_sizes-spread ps n no_parts = sym (append-nil (pending_sizes ps))
pending_sizes-spread ps n (part_and t ts) =
    pending_sizes-spread (behind ps n t) (n + size_of t) ts
    ∙ append_assoc (pending_sizes ps) (fragment_sizes t) (all_fragment_sizes ts)

-- parts that end within the limit too
pub placed_spread : (limit : ℕ) (ps : Pending) (n : ℕ) (ts : Subtrees) → n + sizes_of ts ≤ limit
    → AreCounted ts → ArePlaced limit ps
    → ArePlaced limit (spread ps n ts)
placed_spread limit ps n no_parts fits counted h = h
placed_spread limit ps n (part_and t ts) fits counted h =
    placed_spread limit (behind ps n t) (n + size_of t) ts (omega arith) counted.1
    (omega arith, counted.0, h)

-- to fill at parts is to write what all gives of them
module _ {X : Type 0} (f : ℕ → Subtree → List X) (all : ℕ → Subtrees → List X) where
  pub filled-spread : ((n : ℕ) → all n no_parts ≡ [])
      → ((n : ℕ) (t : Subtree) (ts : Subtrees) → all n (part_and t ts) ≡ f n t ++ all (n + size_of t) ts)
      → ((n : ℕ) (t : Subtree) → length (f n t) ≡ size_of t)
      → (ps : Pending) (n : ℕ) (ts : Subtrees) (out : List X)
      → filled f (spread ps n ts) out ≡ filled f ps (written n (all n ts) out)
  filled-spread none more long ps n no_parts out =
      sym (ap (λ xs. filled f ps (written n xs out)) (none n))
  filled-spread none more long ps n (part_and t ts) out =
      let next = n + size_of t in
      let place : n + length (f n t) ≡ next = ap (λ k. n + k) (long n t) in
      let joined : written n (all n (part_and t ts)) out ≡ written n (f n t) (written next (all next ts) out) =
      ap (λ xs. written n xs out) (more n t ts) ∙ written-append n (f n t) (all next ts) out
      ∙ ap (λ k. written n (f n t) (written k (all next ts) out)) place in
      filled-spread none more long (behind ps n t) next ts out
      ∙ ap (λ o. filled f ps o) (sym joined)
