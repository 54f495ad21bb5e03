-- A sum over the bits of all qubits, of a product of functions that each look at qubits of their own.
use Rattle.std.proofs.Common.{◌≡◌, ◌≢◌, ◌⊎◌, inl, inr, ℕ, zero, suc, true, false, List, [], ◌∷◌, ◌==◌, ◌+◌, ◌*◌, ◌/◌, ◌%◌, ◌^◌, ◌<◌, if◌then◌else◌, length}
use Rattle.std.proofs.Common.{filter, refl, sym, ap, subst, arith, eq-eqb, ne_eqb, ◌∙◌, ⊎_elim}
use Rattle.std.proofs.lemmas.Bool.{cases_Bool, or_left, or_right, eqb-true, both_ways, false_from_ne_true}
use Rattle.std.proofs.lemmas.Int.{ints}
use Rattle.std.proofs.lemmas.Nat.{pow_pos}
use mathlib.Core.Logic.{dite}
use native.Mathlib.Decide.{ℕ_discrete}
use Rattle.cqp_ring.specs.declared.root.Root.{Root}
use Rattle.cqp_ring.specs.Root.{root_sum, root_product, one_root}
use Rattle.cqp_ring.proofs.Integers.{same_root}
use Rattle.cqp_ring.proofs.OrderProducts.{root_product_comm, root_product_assoc, root_product_distributes}
use Rattle.cqp_vector.specs.State.{weight_of, qubit_bit}
use Rattle.cqp_vector.proofs.Pairs.{whole, weight_positive}
use Rattle.cqp_book.specs.Keys.{has}
use Rattle.cqp_machine.specs.Factors.{index_of}
use Rattle.cqp_machine.specs.Sums.{root_below}
use Rattle.cqp_places.proofs.PlaceLemmas.{one_longer, first_index, later_bit, first_weight, later_weight, index_within}
use Rattle.cqp_places.proofs.Assignments.{Bits, put, sum_bits, value_of, put_in, put_out}

-- 1 times a number
times_one : (x : Root) → root_product x one_root ≡ x
times_one x = same_root (omega (arith, ints)) (omega (arith, ints))

-- a function that is 1 at one number
abbrev pub without : ℕ → (ℕ → Root) → ℕ → Root
without i f g = if g == i then one_root else f g

-- products of functions that agree below n are equal
pub same_product : (n : ℕ) (f h : ℕ → Root) → ((g : ℕ) → g < n → f g ≡ h g) → root_below n f ≡ root_below n h
same_product zero f h e = refl
same_product (suc n) f h e =
    let first = same_product n f h (λ g t. e g (omega arith)) in
    let last = e n (omega arith) in
    ap (λ t. root_product t (f n)) first ∙ ap (root_product (root_below n h)) last

-- a product is one factor and the product of the others
pub one_out : (n i : ℕ) (f : ℕ → Root) → i < n → root_below n f ≡ root_product (f i) (root_below n (without i f))
one_out zero i f h = absurd (omega arith)
one_out (suc n) i f h = dite (ℕ_discrete n i)
    (λ (e : n ≡ i).
    let same = same_product n f (without i f) (λ g t. sym (rw (ne_eqb g i (λ z. omega arith)) refl)) in
    let last : without i f n ≡ one_root = rw (eq-eqb n i e) refl in
    let all : root_product (root_below n (without i f)) (without i f n) ≡ root_below n f =
    ap (root_product (root_below n (without i f))) last ∙ (times_one (root_below n (without i f)) ∙ sym same) in
    root_product_comm (root_below n f) (f n)
    ∙ (ap (λ t. root_product (f t) (root_below n f)) e ∙ ap (root_product (f i)) (sym all)))
    (λ (e : n ≢ i).
    let later = one_out n i f (omega arith) in
    let last : without i f n ≡ f n = rw (ne_eqb n i e) refl in
    ap (λ t. root_product t (f n)) later
    ∙ (root_product_assoc (f i) (root_below n (without i f)) (f n)
    ∙ ap (λ t. root_product (f i) (root_product (root_below n (without i f)) t)) (sym last)))

-- a common factor of two products
two_products : (x y r : Root) → root_sum (root_product x r) (root_product y r) ≡ root_product (root_sum x y) r
two_products x y r =
    (λ i. root_sum (root_product_comm x r i) (root_product_comm y r i))
    ∙ (sym (root_product_distributes r x y) ∙ root_product_comm r (root_sum x y))

-- a constant factor comes out of a sum
pub factor_out : (qs : List ℕ) (b : Bits) (r : Root) (f : Bits → Root) → sum_bits qs b (λ c. root_product r (f c)) ≡ root_product r (sum_bits qs b f)
factor_out [] b r f = refl
factor_out (q ∷ qs) b r f =
    let low = factor_out qs (put q 0 b) r f in
    let high = factor_out qs (put q 1 b) r f in
    (λ i. root_sum (low i) (high i)) ∙ sym (root_product_distributes r (sum_bits qs (put q 0 b) f) (sum_bits qs (put q 1 b) f))

-- bits are 0 or 1
abbrev pub AreBits : Bits → Type 0
AreBits b = (r : ℕ) → (b r ≡ 0) ⊎ (b r ≡ 1)

-- bits with another bit put are bits
put_bits : (q x : ℕ) (b : Bits) → (x ≡ 0) ⊎ (x ≡ 1) → AreBits b → AreBits (put q x b)
put_bits q x b h k r = dite (ℕ_discrete r q)
    (λ (e : r ≡ q). rw (put_in q x r b e) h)
    (λ (e : r ≢ q). rw (put_out q x r b (ne_eqb r q e)) (k r))

-- functions that agree on bits have one sum
pub same_on_bits : (qs : List ℕ) (b : Bits) (f g : Bits → Root) → AreBits b → ((c : Bits) → AreBits c → f c ≡ g c) → sum_bits qs b f ≡ sum_bits qs b g
same_on_bits [] b f g k h = h b k
same_on_bits (q ∷ qs) b f g k h =
    let low = same_on_bits qs (put q 0 b) f g (put_bits q 0 b (inl refl) k) h in
    let high = same_on_bits qs (put q 1 b) f g (put_bits q 1 b (inr refl) k) h in
    λ i. root_sum (low i) (high i)

-- a function that looks at bits of these qubits alone
abbrev pub LooksAt : List ℕ → (Bits → Root) → Type 0
LooksAt qs f = (b c : Bits) → ((r : ℕ) → has r qs ≡ true → b r ≡ c r) → f b ≡ f c

-- a function that looks at other qubits alone has one sum for bits that agree there
alike : (qs xs : List ℕ) (f : Bits → Root) → LooksAt qs f → (b c : Bits) → ((r : ℕ) → has r qs ≡ true → b r ≡ c r) → sum_bits xs b f ≡ sum_bits xs c f
alike qs [] f l b c h = l b c h
alike qs (x ∷ xs) f l b c h =
    let more : (y r : ℕ) → has r qs ≡ true → put x y b r ≡ put x y c r = λ y r t. dite (ℕ_discrete r x)
    (λ (e : r ≡ x). put_in x y r b e ∙ sym (put_in x y r c e))
    (λ (e : r ≢ x). put_out x y r b (ne_eqb r x e) ∙ (h r t ∙ sym (put_out x y r c (ne_eqb r x e)))) in
    let low = alike qs xs f l (put x 0 b) (put x 0 c) (more 0) in
    let high = alike qs xs f l (put x 1 b) (put x 1 c) (more 1) in
    λ i. root_sum (low i) (high i)

module _ (n : ℕ) (f : ℕ → Bits → Root) (q_of : ℕ → List ℕ) (own : ℕ → ℕ) (looks : (g : ℕ) → LooksAt (q_of g) (f g)) where
  -- the qubits of a list that a function looks at
  abbrev pub chosen : ℕ → List ℕ → List ℕ
  chosen g xs = filter (λ q. has q (q_of g)) xs

  -- each qubit of the list is looked at by its owner alone
  pub record IsOwned (q : ℕ) : Type 0 where
    pub below : own q < n
    pub there : has q (q_of (own q)) ≡ true
    pub alone : (g : ℕ) → g ≢ own q → has q (q_of g) ≡ false

  -- each qubit of a list is in one function's list
  abbrev pub AllOwned : List ℕ → Type 0
  AllOwned xs = (q : ℕ) → has q xs ≡ true → IsOwned q

  -- what is left of the others
  rest_same : (i : ℕ) (g h : ℕ → Root) → ((k : ℕ) → k ≢ i → g k ≡ h k) → root_below n (without i g) ≡ root_below n (without i h)
  rest_same i g h e = same_product n (without i g) (without i h) (λ k t. dite (ℕ_discrete k i)
      (λ (z : k ≡ i). let left : without i g k ≡ one_root = rw (eq-eqb k i z) refl in let right : without i h k ≡ one_root = rw (eq-eqb k i z) refl in left
      ∙ sym right)
      (λ (z : k ≢ i). let left : without i g k ≡ g k = rw (ne_eqb k i z) refl in let right : without i h k ≡ h k = rw (ne_eqb k i z) refl in left
      ∙ (e k z ∙ sym right)))

  -- the sum for one function, with the bit of a qubit put
  abbrev with_bit : ℕ → List ℕ → ℕ → Bits → ℕ → Root
  with_bit q xs x b g = sum_bits (chosen g xs) (put q x b) (f g)

  -- the sum of each function over those of its qubits that are in the list
  abbrev before : List ℕ → Bits → ℕ → Root
  before xs b g = sum_bits (chosen g xs) b (f g)

  -- with one more bit put only its owner's sum changes
  with_bit_out : (q : ℕ) (xs : List ℕ) (x : ℕ) (b : Bits) (o : IsOwned q)
      → root_below n (with_bit q xs x b) ≡ root_product (with_bit q xs x b (own q)) (root_below n (without (own q) (before xs b)))
  with_bit_out q xs x b o =
      one_out n (own q) (with_bit q xs x b) o.below
      ∙ ap (root_product (with_bit q xs x b (own q))) (rest_same (own q) (with_bit q xs x b) (before xs b) (λ g other.
      alike (q_of g) (chosen g xs) (f g) (looks g) (put q x b) b
      (λ r t. put_out q x r b
      (false_from_ne_true (r == q) (λ z. both_ways (has q (q_of g)) (o.alone g other) (subst (λ y. has y (q_of g) ≡ true) (eqb-true r q z) t))))))

  -- one more qubit is summed in its owner's sum alone
  longer_out : (q : ℕ) (xs : List ℕ) (b : Bits) (o : IsOwned q)
      → root_below n (before (q ∷ xs) b) ≡ root_product (root_sum (with_bit q xs 0 b (own q)) (with_bit q xs 1 b (own q)))
      (root_below n (without (own q) (before xs b)))
  longer_out q xs b o =
      let mine : before (q ∷ xs) b (own q) ≡ root_sum (with_bit q xs 0 b (own q)) (with_bit q xs 1 b (own q)) = rw o.there refl in
      one_out n (own q) (before (q ∷ xs) b) o.below
      ∙ (ap (λ t. root_product t (root_below n (without (own q) (before (q ∷ xs) b)))) mine
      ∙ ap (root_product (root_sum (with_bit q xs 0 b (own q)) (with_bit q xs 1 b (own q))))
      (rest_same (own q) (before (q ∷ xs) b) (before xs b) (λ g other. rw (o.alone g other) refl)))

  -- the sum of a product over all bits is the product of the sums over each one's own
  pub product_summed : (xs : List ℕ) (b : Bits) → AllOwned xs → sum_bits xs b (λ c. root_below n (λ g. f g c)) ≡ root_below n (before xs b)
  product_summed [] b h = refl
  product_summed (q ∷ xs) b h =
      let o = h q (or_left (q == q) (has q xs) (eq-eqb q q refl)) in
      let rest : AllOwned xs = λ r t. h r (or_right (r == q) (has r xs) t) in
      let low = product_summed xs (put q 0 b) rest ∙ with_bit_out q xs 0 b o in
      let high = product_summed xs (put q 1 b) rest ∙ with_bit_out q xs 1 b o in
      (λ i. root_sum (low i) (high i))
      ∙ (two_products (with_bit q xs 0 b (own q)) (with_bit q xs 1 b (own q)) (root_below n (without (own q) (before xs b))) ∙ sym (longer_out q xs b o))

-- bits behind a number
value_behind : (m : ℕ) (qs : List ℕ) (b : Bits) → value_of m qs b ≡ m * 2 ^ length qs + value_of 0 qs b
value_behind m [] b = omega arith
value_behind m (q ∷ qs) b =
    let one = value_behind (2 * m + b q) qs b in
    let two = value_behind (2 * 0 + b q) qs b in
    one ∙ (spread m (b q) (2 ^ length qs) (2 ^ length (q ∷ qs)) (value_of 0 qs b) (one_longer q qs) ∙ ap (λ t. m * 2 ^ length (q ∷ qs) + t) (sym two))
  where
    spread : (m x p d y : ℕ) → d ≡ 2 * p → (2 * m + x) * p + y ≡ m * d + ((2 * 0 + x) * p + y)
    spread m x p d y e = rw e (omega arith)

-- the first bit of a number in binary
value_first : (q : ℕ) (qs : List ℕ) (b : Bits) → value_of 0 (q ∷ qs) b ≡ b q * 2 ^ length qs + value_of 0 qs b
value_first q qs b = value_behind (2 * 0 + b q) qs b ∙ omega arith

-- a number of bits is below as many places
pub value_small : (qs : List ℕ) (b : Bits) → AreBits b → value_of 0 qs b < 2 ^ length qs
value_small [] b h = omega arith
value_small (q ∷ qs) b h =
    within (b q) (2 ^ length qs) (2 ^ length (q ∷ qs)) (value_of 0 qs b) (value_of 0 (q ∷ qs) b) (one_longer q qs) (h q) (value_small qs b h)
    (value_first q qs b)
  where
    within : (x p d y v : ℕ) → d ≡ 2 * p → (x ≡ 0) ⊎ (x ≡ 1) → y < p → v ≡ x * p + y → v < d
    within x p d y v e (inl z) k f = let g : x * p ≡ 0 = rw z (omega arith) in omega arith
    within x p d y v e (inr z) k f = let g : x * p ≡ p = rw z (omega arith) in omega arith

-- the bits of that number are those that it was made of
pub bit_of_value : (q : ℕ) (qs : List ℕ) (b : Bits) → AreBits b → has q qs ≡ true → qubit_bit (length qs) (index_of q qs) (value_of 0 qs b) ≡ b q
bit_of_value q [] b k h = cc
bit_of_value q (x ∷ qs) b k h = ⊎_elim
    (λ (t : (q == x) ≡ true).
    rw (t, value_first x qs b)
    (first_index (b x) (value_of 0 qs b) (2 ^ length qs) (weight_of (length (x ∷ qs)) 0) (first_weight x qs) (pow_pos (length qs)) (value_small qs b k) (k x)
    ∙ ap b (sym (eqb-true q x t))))
    (λ (t : (q == x) ≡ false).
    let there : has q qs ≡ true = rw t at h in
    let within = index_within q qs there in
    rw (t, value_first x qs b)
    (ap (λ w. (b x * 2 ^ length qs + value_of 0 qs b) / w % 2) (later_weight x (index_of q qs) qs)
    ∙ (later_bit (b x) (2 ^ length qs) (weight_of (length qs) (index_of q qs)) (2 ^ index_of q qs) (value_of 0 qs b)
    (whole (length qs) (index_of q qs) within) (weight_positive (length qs) (index_of q qs))
    ∙ bit_of_value q qs b k there)))
    (cases_Bool (q == x))
