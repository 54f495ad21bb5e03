-- The sizes of a node's parts and their numbers, found from the last to the first.
use Rattle.std.proofs.Common.{◌≡◌, ℕ, zero, suc, ◌+◌, ◌-◌, ◌<◌, ◌≤◌, List, [], ◌∷◌, ◌++◌, length, get_or}
use Rattle.std.proofs.Common.{take, drop, refl, sym, ◌∙◌, ap, append_assoc, length-append, arith}
use Rattle.std.proofs.Common.{reverse, append-nil}
use Rattle.std.proofs.lemmas.List.{get_or_at, take_at, drop_at, drop_all, drop_more}
use Rattle.std.proofs.lemmas.List.{reverse-append, reverse-reverse}
use Rattle.cqp_postorder.specs.Subtrees.{Subtree, over, Subtrees, no_parts, part_and, length_of}
use Rattle.cqp_postorder.specs.Subtrees.{size_of, sizes_of, numbers_of, fragment_sizes}
use Rattle.cqp_postorder.specs.Subtrees.{all_fragment_sizes, EndIn}
use Rattle.cqp_postorder.proofs.Counts.{length-numbers_of}

mutual
  -- a subtree has as many sizes of fragments as its own size says
  pub length-fragment_sizes : (t : Subtree) → length (fragment_sizes t) ≡ size_of t
  length-fragment_sizes (over k at ts) =
      omega (
        arith,
        length-append (all_fragment_sizes ts) ((1 + sizes_of ts) ∷ []),
        length-all_fragment_sizes ts,
      )

  -- subtrees have as many sizes of fragments as their sizes say
  pub length-all_fragment_sizes : (ts : Subtrees) → length (all_fragment_sizes ts) ≡ sizes_of ts
  length-all_fragment_sizes no_parts = refl
  length-all_fragment_sizes (part_and t ts) =
      omega (
        arith,
        length-append (fragment_sizes t) (all_fragment_sizes ts),
        length-fragment_sizes t,
        length-all_fragment_sizes ts,
      )

-- how many nodes the subtrees behind the first so many have
abbrev pub size_behind : ℕ → Subtrees → ℕ
size_behind zero ts = sizes_of ts
size_behind (suc i) no_parts = 0
size_behind (suc i) (part_and t ts) = size_behind i ts

-- behind all of them there are none
size_behind_all : (ts : Subtrees) → size_behind (length_of ts) ts ≡ 0
size_behind_all no_parts = refl
size_behind_all (part_and t ts) =
    let next : 1 + length_of ts ≡ suc (length_of ts) = omega arith in rw next (size_behind_all ts)

-- those behind are some of all
size_behind_within : (i : ℕ) (ts : Subtrees) → size_behind i ts ≤ sizes_of ts
size_behind_within zero ts = omega arith
size_behind_within (suc i) no_parts = omega arith
size_behind_within (suc i) (part_and t ts) = omega (arith, size_behind_within i ts)

-- each has a node
size_behind_less : (i : ℕ) (ts : Subtrees) → i < length_of ts
    → size_behind (suc i) ts < size_behind i ts
size_behind_less i no_parts h = absurd (omega arith)
size_behind_less zero (part_and (over k at us) ts) h = omega arith
size_behind_less (suc i) (part_and t ts) h = size_behind_less i ts (omega arith)

-- right before the sizes of those behind it stands the size of a subtree
size_at : (all before : List ℕ) (i : ℕ) (ts : Subtrees) → all ≡ before ++ all_fragment_sizes ts
    → i < length_of ts
    → size_behind (suc i) ts + get_or all (length all - 1 - size_behind (suc i) ts) 0
    ≡ size_behind i ts
size_at all before i no_parts e h = absurd (omega arith)
size_at all before zero (part_and (over k at us) ts) e h =
    let front = before ++ all_fragment_sizes us in
    let root = 1 + sizes_of us in
    let split : all ≡ front ++ root ∷ all_fragment_sizes ts = rw e (simp append_assoc) in
    let place : length front ≡ length all - 1 - sizes_of ts =
    omega (
      arith,
      ap length split,
      length-append front (root ∷ all_fragment_sizes ts),
      length-all_fragment_sizes ts,
    ) in
    let read : get_or all (length all - 1 - sizes_of ts) 0 ≡ root =
    ap (λ l. get_or l (length all - 1 - sizes_of ts) 0) split
    ∙ get_or_at front root (all_fragment_sizes ts) 0 _ place in
    omega (arith, read)
size_at all before (suc i) (part_and t ts) e h =
    size_at all (before ++ fragment_sizes t) i ts
    (e ∙ sym (append_assoc before (fragment_sizes t) (all_fragment_sizes ts))) (omega arith)

-- a part ends where the nodes of those behind it begin
number_at : (n i : ℕ) (ts : Subtrees) → i < length_of ts
    → get_or (numbers_of n ts) i 0 + size_behind i ts ≡ n + sizes_of ts
number_at n i no_parts h = absurd (omega arith)
number_at n zero (part_and t ts) h = refl
number_at n (suc i) (part_and t ts) h =
    omega (arith, number_at (n + size_of t) i ts (omega arith))

-- at first no part is gone over
pub none_gone : (sizes : List ℕ) (count j : ℕ) (ts : Subtrees) → EndIn sizes count ts → j ≡ count
    → 0 ≡ size_behind j ts
none_gone sizes count j ts h e =
    rw (e ∙ sym h.many) (sym (size_behind_all ts))

-- the part before those that were gone over, and how many nodes both have
pub record NextPart (sizes : List ℕ) (total i : ℕ) (ts : Subtrees) : Type 0 where
  pub some : total < length sizes
  pub next : total + get_or sizes (length sizes - 1 - total) 0 ≡ size_behind i ts
  pub within : size_behind i ts ≤ sizes_of ts
  pub fits : sizes_of ts ≤ length sizes

-- where a part is left, its size is the next
pub next_part : (sizes : List ℕ) (count i j total : ℕ) (ts : Subtrees) → EndIn sizes count ts
    → i + 1 ≡ j → j ≤ count → total ≡ size_behind j ts → NextPart sizes total i ts
next_part sizes count i j total ts h e left is =
    let less : i < length_of ts = omega (arith, h.many) in
    let next : j ≡ suc i = omega arith in
    let behind : total ≡ size_behind (suc i) ts = rw next at is in
    let long : length sizes ≡ length h.before + sizes_of ts =
    omega (
      arith,
      ap length h.are,
      length-append h.before (all_fragment_sizes ts),
      length-all_fragment_sizes ts,
    ) in
    let within = size_behind_within i ts in
    record {
      some = omega (arith, size_behind_less i ts less);
      next = rw behind (size_at sizes h.before i ts h.are less);
      within = within;
      fits = omega arith;
    }

-- at first no number is found
pub none_found : (sizes : List ℕ) (count j n : ℕ) (ts : Subtrees) → EndIn sizes count ts → j ≡ count
    → (old : List ℕ) → old ≡ old ++ reverse (drop j (numbers_of n ts))
none_found sizes count j n ts h e old =
    let none : drop j (numbers_of n ts) ≡ [] =
    drop_all j (numbers_of n ts) (omega (arith, length-numbers_of n ts, h.many)) in
    rw none (sym (append-nil old))

-- the number of the next part stands behind those of the parts behind it
pub one_found : (sizes : List ℕ) (count i j n end : ℕ) (ts : Subtrees) → EndIn sizes count ts
    → n + sizes_of ts ≡ end → i + 1 ≡ j → j ≤ count → (old numbers : List ℕ)
    → numbers ≡ old ++ reverse (drop j (numbers_of n ts))
    → numbers ++ (end - size_behind i ts) ∷ [] ≡ old ++ reverse (drop i (numbers_of n ts))
one_found sizes count i j n end ts h ends e left old numbers is =
    let ns = numbers_of n ts in
    let less : i < length_of ts = omega (arith, h.many) in
    let number : get_or ns i 0 ≡ end - size_behind i ts = omega (arith, number_at n i ts less) in
    let next : reverse (drop i ns) ≡ reverse (drop j ns) ++ get_or ns i 0 ∷ [] =
    ap reverse (drop_more ns i 0 (omega (arith, length-numbers_of n ts)))
    ∙ reverse-append (get_or ns i 0 ∷ []) (drop (i + 1) ns)
    ∙ ap (λ k. reverse (drop k ns) ++ get_or ns i 0 ∷ []) e in
    rw (is, next, number) (append_assoc old (reverse (drop j ns)) ((end - size_behind i ts) ∷ []))

-- where all are found, they are turned round
pub all_found : (j n first : ℕ) (ts : Subtrees) → j ≡ 0 → (old numbers : List ℕ)
    → first ≡ length old → numbers ≡ old ++ reverse (drop j (numbers_of n ts))
    → take first numbers ++ reverse (drop first numbers) ≡ old ++ numbers_of n ts
all_found j n first ts e old numbers f is =
    let ns = numbers_of n ts in
    let all : numbers ≡ old ++ reverse ns = rw e at is in
    let front = ap (take first) all ∙ take_at old (reverse ns) first (sym f) in
    let found = ap (drop first) all ∙ drop_at old (reverse ns) first (sym f) in
    rw (front, found, reverse-reverse) refl

-- a node with no part has no number of a part
pub no_numbers : (n : ℕ) (ts : Subtrees) → length_of ts ≡ 0 → numbers_of n ts ≡ []
no_numbers n no_parts h = refl
no_numbers n (part_and t ts) h = absurd (omega arith)

-- the only part has the first number
pub one_number : (n : ℕ) (ts : Subtrees) → length_of ts ≡ 1 → numbers_of n ts ≡ n ∷ []
one_number n no_parts h = absurd (omega arith)
one_number n (part_and t no_parts) h = refl
one_number n (part_and t (part_and u ts)) h = absurd (omega arith)

-- of two parts the second has a number that the last size tells
pub record TwoNumbers (sizes : List ℕ) (n end : ℕ) (ts : Subtrees) : Type 0 where
  pub some : 0 < length sizes
  pub fits : get_or sizes (length sizes - 1 - 0) 0 ≤ end
  pub are : numbers_of n ts ≡ n ∷ (end - get_or sizes (length sizes - 1 - 0) 0) ∷ []

-- so it is where the sizes end in theirs
pub two_numbers : (sizes : List ℕ) (n end : ℕ) (ts : Subtrees) → EndIn sizes 2 ts
    → n + sizes_of ts ≡ end → TwoNumbers sizes n end ts
two_numbers sizes n end no_parts h ends = absurd (omega (arith, h.many))
two_numbers sizes n end (part_and t no_parts) h ends = absurd (omega (arith, h.many))
two_numbers sizes n end (part_and t (part_and u no_parts)) h ends =
    let ts = part_and t (part_and u no_parts) in
    let part = next_part sizes 2 1 2 0 ts h refl (omega arith) refl in
    let second : n + size_of t ≡ end - get_or sizes (length sizes - 1 - 0) 0 =
    omega (arith, part.next) in
    record {
      some = part.some;
      fits = omega (arith, part.next);
      are = ap (λ m. n ∷ m ∷ []) second;
    }
two_numbers sizes n end (part_and t (part_and u (part_and v ts))) h ends =
    absurd (omega (arith, h.many))
