-- The norm of the whole state is the product of the groups' norms, times the norm of the power of root 2.
use Rattle.std.proofs.Common.{◌≡◌, ◌≢◌, inl, ℕ, zero, suc, true, false, Bool, List, [], ◌∷◌, ◌==◌, ◌&&◌, ◌+◌, ◌*◌, ◌^◌, ◌≤◌, ◌<◌, length, filter, Option, Some}
use Rattle.std.proofs.Common.{None, refl, sym, ap, subst, arith, eq-eqb, ◌∙◌, ⊎_elim}
use Rattle.std.proofs.lemmas.Bool.{cases_Bool, or_left, or_right, eqb-true, both_ways, false_from_ne_true}
use Rattle.std.proofs.lemmas.List.FromFn.{length-range_with_len}
use Rattle.std.specs.List.{range_with_len}
use Rattle.cqp_ring.specs.declared.amp.Amp.{Amp}
use Rattle.cqp_ring.specs.declared.root.Root.{Root}
use Rattle.cqp_ring.specs.Root.{root_product, one_root, norm_of, norm_sum}
use Rattle.cqp_ring.proofs.NormLemmas.{norm_of-product}
use Rattle.cqp_vector.specs.State.{State, amp_at, qubit_bit}
use Rattle.cqp_vector.specs.Measurement.{outcome_after}
use Rattle.cqp_vector.proofs.Sums.{sum_from, norm_as_sum}
use Rattle.cqp_book.specs.Keys.{has}
use Rattle.cqp_machine.specs.Factors.{Held, index_of}
use Rattle.cqp_machine.specs.Cells.{Cells}
use Rattle.cqp_vector.specs.Least.{root2_power}
use Rattle.cqp_machine.specs.Sums.{product_below, root_below, amp_in, whole_amp, norm_in, norms}
use Rattle.cqp_places.specs.Places.{IsDistinct}
use Rattle.cqp_local.proofs.PlacedLemmas.{range_has, range_bounds}
use Rattle.cqp_fresh.specs.Partition.{IsPartition}
use Rattle.cqp_fresh.proofs.Partition.{name_made}
use Rattle.cqp_products.specs.Reads.{IsShaped, Reads}
use Rattle.cqp_places.proofs.Assignments.{Bits, sum_bits, value_of, places_summed, any_order}
use Rattle.cqp_norms.proofs.BitSums.{AreBits, LooksAt, IsOwned, product_summed, factor_out, same_on_bits, same_product, value_small, bit_of_value}
use Rattle.cqp_norms.specs.StateStands.{Covers}

-- numbers in a range are distinct
range_distinct : (a n : ℕ) → IsDistinct (range_with_len a n)
range_distinct a zero = tt
range_distinct a (suc n) = (
  false_from_ne_true (has a (range_with_len (a + 1) n)) (λ t. let b = range_bounds a (a + 1) n t in let low = b.0 in omega arith),
  range_distinct (a + 1) n,
)

-- a number's index among those from a on
range_index : (q a n : ℕ) → a ≤ q → q < a + n → index_of q (range_with_len a n) + a ≡ q
range_index q a zero low high = absurd (omega arith)
range_index q a (suc n) low high = ⊎_elim
    (λ (t : (q == a) ≡ true). let same = eqb-true q a t in rw t (omega arith))
    (λ (t : (q == a) ≡ false).
    let other : q ≢ a = λ e. both_ways (q == a) t (eq-eqb q a e) in
    rw t (omega (arith, range_index q (a + 1) n (omega arith) (omega arith))))
    (cases_Bool (q == a))

-- what a filtered list has
pub has-filter : (p : ℕ → Bool) (r : ℕ) (xs : List ℕ) → has r (filter p xs) ≡ (has r xs && p r)
has-filter p r [] = refl
has-filter p r (x ∷ xs) = ⊎_elim
    (λ (t : p x ≡ true). rw t (⊎_elim
    (λ (u : (r == x) ≡ true). let own : p r ≡ true = rw (eqb-true r x u) t in rw (u, own) refl)
    (λ (u : (r == x) ≡ false). rw u (has-filter p r xs))
    (cases_Bool (r == x))))
    (λ (t : p x ≡ false). rw t (⊎_elim
    (λ (u : (r == x) ≡ true). let own : p r ≡ false = rw (eqb-true r x u) t in rw (u, has-filter p r xs, own) (and_no (has r xs)))
    (λ (u : (r == x) ≡ false). rw u (has-filter p r xs))
    (cases_Bool (r == x))))
    (cases_Bool (p x))
  where
    and_no : (b : Bool) → (b && false) ≡ false
    and_no true = refl
    and_no false = refl

-- a filtered list of distinct numbers is distinct
pub filter_distinct : (p : ℕ → Bool) (xs : List ℕ) → IsDistinct xs → IsDistinct (filter p xs)
filter_distinct p [] d = tt
filter_distinct p (x ∷ xs) d = ⊎_elim
    (λ (t : p x ≡ true). rw t (has-filter p x xs ∙ rw d.0 refl, filter_distinct p xs d.1))
    (λ (t : p x ≡ false). rw t (filter_distinct p xs d.1))
    (cases_Bool (p x))

-- no number is in the empty list
filter_none : (xs : List ℕ) → filter (λ q. has q []) xs ≡ []
filter_none [] = refl
filter_none (x ∷ xs) = filter_none xs

-- the chosen qubits are the group's own
chosen_same : (qs xs : List ℕ) → ((r : ℕ) → has r qs ≡ true → has r xs ≡ true) → (r : ℕ) → has r (filter (λ q. has q qs) xs) ≡ has r qs
chosen_same qs xs h r = has-filter (λ q. has q qs) r xs ∙ ⊎_elim
    (λ (t : has r qs ≡ true). rw (h r t, t) refl)
    (λ (t : has r qs ≡ false). rw t (and_no (has r xs)))
    (cases_Bool (has r qs))
  where
    and_no : (b : Bool) → (b && false) ≡ false
    and_no true = refl
    and_no false = refl

-- a group's norm as a function of bits
abbrev pub group_norm : Option Held → Bits → Root
group_norm None b = one_root
group_norm (Some G) b = norm_of (amp_at G.nums (value_of 0 G.qubits b))

-- the qubits of a group that is there
abbrev pub qubits_in : Option Held → List ℕ
qubits_in None = []
qubits_in (Some G) = G.qubits

-- bits that agree on a list give one number
pub value_alike : (m : ℕ) (qs : List ℕ) (b c : Bits) → ((r : ℕ) → has r qs ≡ true → b r ≡ c r) → value_of m qs b ≡ value_of m qs c
value_alike m [] b c h = refl
value_alike m (q ∷ qs) b c h =
    ap (λ x. value_of (2 * m + x) qs b) (h q (or_left (q == q) (has q qs) (eq-eqb q q refl)))
    ∙ value_alike (2 * m + c q) qs b c (λ r t. h r (or_right (r == q) (has r qs) t))

-- a group's norm looks at its own qubits alone
group_looks : (x : Option Held) → LooksAt (qubits_in x) (group_norm x)
group_looks None b c h = refl
group_looks (Some G) b c h = ap (λ k. norm_of (amp_at G.nums k)) (value_alike 0 G.qubits b c h)

-- a list's place is the number of its qubits' bits
pub outcome_is_value : (m n : ℕ) (qs : List ℕ) (k : ℕ) (b : Bits) → ((q : ℕ) → has q qs ≡ true → qubit_bit n q k ≡ b q)
    → outcome_after m n qs k ≡ value_of m qs b
outcome_is_value m n [] k b h = refl
outcome_is_value m n (q ∷ qs) k b h =
    ap (λ x. outcome_after (2 * m + x) n qs k) (h q (or_left (q == q) (has q qs) (eq-eqb q q refl)))
    ∙ outcome_is_value (2 * m + b q) n qs k b (λ r t. h r (or_right (r == q) (has r qs) t))

-- norms of products
norm_of-below : (n : ℕ) (f : ℕ → Amp) → norm_of (product_below n f) ≡ root_below n (λ g. norm_of (f g))
norm_of-below zero f = refl
norm_of-below (suc n) f = norm_of-product (product_below n f) (f n) ∙ ap (λ t. root_product t (norm_of (f n))) (norm_of-below n f)

module _ (s : State) (c : Cells) (own : ℕ → ℕ) (p : IsPartition s.qubits c.groups own) (covers : Covers s c own)
    (shaped : (g : ℕ) (G : Held) → c.groups g ≡ Some G → IsShaped G) (e : ℕ) (h : Reads s c e) (whole : length s.nums ≡ 2 ^ s.qubits) where
  -- how many qubits there are
  abbrev n : ℕ
  n = s.qubits

  -- the qubits below n
  abbrev all : List ℕ
  all = range_with_len 0 s.qubits

  -- all bits 0
  abbrev none : Bits
  none r = 0

  -- each qubit that was made is among them
  made : (q : ℕ) → q < s.qubits → has q (range_with_len 0 s.qubits) ≡ true
  made q small = range_has q 0 s.qubits (omega arith) (omega arith)

  -- the bits of a place that was made of bits
  pub bit_at : (b : Bits) → AreBits b → (q : ℕ) → q < s.qubits → qubit_bit s.qubits q (value_of 0 (range_with_len 0 s.qubits) b) ≡ b q
  bit_at b k q small =
      let index : index_of q (range_with_len 0 s.qubits) ≡ q = omega (arith, range_index q 0 s.qubits (omega arith) (omega arith)) in
      (λ i. qubit_bit (sym (length-range_with_len 0 s.qubits) i) (sym index i) (value_of 0 (range_with_len 0 s.qubits) b))
      ∙ bit_of_value q (range_with_len 0 s.qubits) b k (made q small)

  -- a group's numerator at the place of the bits
  group_at : (b : Bits) → AreBits b → (g : ℕ) (x : Option Held) → c.groups g ≡ x
      → norm_of (amp_in s.qubits (value_of 0 (range_with_len 0 s.qubits) b) x) ≡ group_norm x b
  group_at b k g None t = refl
  group_at b k g (Some G) t =
      ap (λ j. norm_of (amp_at G.nums j))
      (outcome_is_value 0 s.qubits G.qubits (value_of 0 (range_with_len 0 s.qubits) b) b (λ q z. bit_at b k q ((p.each g G t).made q z)))

  -- the whole's numerator there
  whole_at : (b : Bits) → AreBits b → norm_of (amp_at s.nums (value_of 0 (range_with_len 0 s.qubits) b))
      ≡ root_product (norm_of (root2_power e)) (root_below s.qubits (λ g. group_norm (c.groups g) b))
  whole_at b k =
      let place = value_of 0 (range_with_len 0 s.qubits) b in
      let small : value_of 0 (range_with_len 0 s.qubits) b < 2 ^ s.qubits =
      subst (λ m. value_of 0 (range_with_len 0 s.qubits) b < 2 ^ m) (length-range_with_len 0 s.qubits) (value_small (range_with_len 0 s.qubits) b k) in
      ap norm_of (h (value_of 0 (range_with_len 0 s.qubits) b) small)
      ∙ (norm_of-product (root2_power e) (whole_amp s.qubits c (value_of 0 (range_with_len 0 s.qubits) b))
      ∙ ap (root_product (norm_of (root2_power e)))
      (norm_of-below s.qubits (λ g. amp_in s.qubits (value_of 0 (range_with_len 0 s.qubits) b) (c.groups g))
      ∙ same_product s.qubits (λ g. norm_of (amp_in s.qubits (value_of 0 (range_with_len 0 s.qubits) b) (c.groups g))) (λ g. group_norm (c.groups g) b)
      (λ g t. group_at b k g (c.groups g) refl)))

  -- each qubit is looked at by its owner alone
  not_in : (q g : ℕ) (x : Option Held) → c.groups g ≡ x → g ≢ own q → has q (qubits_in x) ≡ false
  not_in q g None t other = refl
  not_in q g (Some G) t other = false_from_ne_true (has q G.qubits) (λ z. other (sym ((p.each g G t).owned q z)))

  -- the norm of a group's numerator at its own bits
  abbrev f : ℕ → Bits → Root
  f g = group_norm (c.groups g)

  -- a group's qubits
  abbrev q_of : ℕ → List ℕ
  q_of g = qubits_in (c.groups g)

  -- it looks at them alone
  looks : (g : ℕ) → LooksAt (q_of g) (f g)
  looks g = group_looks (c.groups g)

  -- each qubit is in its owner's group
  owned : (q : ℕ) → has q (range_with_len 0 s.qubits) ≡ true → IsOwned s.qubits f q_of own looks q
  owned q t =
      let bounds = range_bounds q 0 s.qubits t in
      let high = bounds.1 in
      let cover = covers q (omega arith) in
      record {
        below = name_made s.qubits c.groups own p (own q) cover.0 cover.1;
        there = rw cover.1 cover.2;
        alone = λ g other. not_in q g (c.groups g) refl other;
      }

  -- the sum over a group's qubits is its norm
  own_norm : (g : ℕ) (x : Option Held) → c.groups g ≡ x
      → sum_bits (filter (λ q. has q (qubits_in x)) (range_with_len 0 s.qubits)) none (group_norm x) ≡ norm_in x
  own_norm g None t = ap (λ xs. sum_bits xs none (λ b. one_root)) (filter_none (range_with_len 0 s.qubits))
  own_norm g (Some G) t =
      let shape = shaped g G t in
      let start : 0 * 2 ^ length G.qubits ≡ 0 = omega arith in
      any_order (filter (λ q. has q G.qubits) (range_with_len 0 s.qubits)) G.qubits none (group_norm (Some G))
      (filter_distinct (λ q. has q G.qubits) (range_with_len 0 s.qubits) (range_distinct 0 s.qubits)) shape.distinct
      (chosen_same G.qubits (range_with_len 0 s.qubits) (λ r z. made r ((p.each g G t).made r z)))
      ∙ (places_summed G.qubits shape.distinct 0 none (λ k. norm_of (amp_at G.nums k))
      ∙ (ap (λ a. sum_from a (2 ^ length G.qubits) (λ k. norm_of (amp_at G.nums k))) start
      ∙ (ap (λ m. sum_from 0 m (λ k. norm_of (amp_at G.nums k))) (sym shape.whole) ∙ sym (norm_as_sum G.nums))))

  -- the norm of the whole is the product of the groups' norms, but for the power of root 2
  pub whole_norm : norm_sum s.nums ≡ root_product (norm_of (root2_power e)) (norms s.qubits c)
  whole_norm =
      let start : 0 * 2 ^ length (range_with_len 0 s.qubits) ≡ 0 = omega arith in
      let size : 2 ^ length (range_with_len 0 s.qubits) ≡ 2 ^ s.qubits = ap (λ m. 2 ^ m) (length-range_with_len 0 s.qubits) in
      let places = places_summed (range_with_len 0 s.qubits) (range_distinct 0 s.qubits) 0 none (λ k. norm_of (amp_at s.nums k)) in
      let first : sum_bits (range_with_len 0 s.qubits) none (λ b. norm_of (amp_at s.nums (value_of 0 (range_with_len 0 s.qubits) b))) ≡ norm_sum s.nums =
      places
      ∙ ((λ i. sum_from (start i) (size i) (λ k. norm_of (amp_at s.nums k)))
      ∙ (ap (λ m. sum_from 0 m (λ k. norm_of (amp_at s.nums k))) (sym whole) ∙ sym (norm_as_sum s.nums))) in
      sym first
      ∙ (same_on_bits (range_with_len 0 s.qubits) none (λ b. norm_of (amp_at s.nums (value_of 0 (range_with_len 0 s.qubits) b)))
      (λ b. root_product (norm_of (root2_power e)) (root_below s.qubits (λ g. f g b))) (λ r. inl refl) whole_at
      ∙ (factor_out (range_with_len 0 s.qubits) none (norm_of (root2_power e)) (λ b. root_below s.qubits (λ g. f g b))
      ∙ ap (root_product (norm_of (root2_power e)))
      (product_summed s.qubits f q_of own looks (range_with_len 0 s.qubits) none owned
      ∙ same_product s.qubits _ (λ g. norm_in (c.groups g)) (λ g t. own_norm g (c.groups g) refl))))
