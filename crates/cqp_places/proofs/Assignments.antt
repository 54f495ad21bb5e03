-- Sums over the bits of qubits, in whatever order the qubits are taken.
use Rattle.std.proofs.Common.{◌≡◌, ◌≢◌, ℕ, true, false, List, [], ◌∷◌, ◌==◌, ◌||◌, ◌+◌, ◌*◌, ◌^◌, if◌then◌else◌, length, refl, sym, ap, arith, eq-eqb, ne_eqb}
use Rattle.std.proofs.Common.{◌∙◌, ⊎_elim, pow-add}
use Rattle.std.proofs.lemmas.Bool.{cases_Bool, or_parts, or_left, eqb-true, eqb-false, both_ways}
use mathlib.Core.Logic.{dite}
use native.Mathlib.Decide.{ℕ_discrete}
use Rattle.cqp_ring.specs.declared.root.Root.{Root}
use Rattle.cqp_ring.specs.Root.{root_sum}
use Rattle.cqp_vector.proofs.Sums.{sum_from, sum_split, middle_four}
use Rattle.cqp_ring.proofs.OrderSums.{sum-zero}
use Rattle.cqp_book.specs.Keys.{has}
use Rattle.cqp_places.specs.Places.{IsDistinct}

-- a bit for each qubit, and the same with one bit put
abbrev pub Bits : Type 0
Bits = ℕ → ℕ

-- the bits with this one at a qubit
abbrev pub put : ℕ → ℕ → Bits → Bits
put q x b r = if r == q then x else b r

-- the sum over all bits of these qubits
abbrev pub sum_bits : List ℕ → Bits → (Bits → Root) → Root
sum_bits [] b f = f b
sum_bits (q ∷ qs) b f = root_sum (sum_bits qs (put q 0 b) f) (sum_bits qs (put q 1 b) f)

-- a number in binary with these qubits' bits behind it
abbrev pub value_of : ℕ → List ℕ → Bits → ℕ
value_of m [] b = m
value_of m (q ∷ qs) b = value_of (2 * m + b q) qs b

-- the bit that is put is there
pub put_in : (q x r : ℕ) (b : Bits) → r ≡ q → put q x b r ≡ x
put_in q x r b e = rw (eq-eqb r q e) refl

-- the other bits stay
pub put_out : (q x r : ℕ) (b : Bits) → (r == q) ≡ false → put q x b r ≡ b r
put_out q x r b e = rw e refl

-- the same bits but of these qubits
abbrev pub AgreeOut : List ℕ → Bits → Bits → Type 0
AgreeOut qs b c = (r : ℕ) → has r qs ≡ false → c r ≡ b r

-- bits that agree but for some qubits agree but for one more
agree_more : (q x : ℕ) (qs : List ℕ) (b c : Bits) → AgreeOut qs (put q x b) c → AgreeOut (q ∷ qs) b c
agree_more q x qs b c h r t =
    let parts = or_parts (r == q) (has r qs) t in h r parts.1 ∙ put_out q x r b parts.0

-- functions that are alike on the bits in question have one sum
pub same_bits : (qs : List ℕ) (b : Bits) (f g : Bits → Root) → ((c : Bits) → AgreeOut qs b c → f c ≡ g c) → sum_bits qs b f ≡ sum_bits qs b g
same_bits [] b f g h = h b (λ r t. refl)
same_bits (q ∷ qs) b f g h =
    let zero_side = same_bits qs (put q 0 b) f g (λ c t. h c (agree_more q 0 qs b c t)) in
    let one_side = same_bits qs (put q 1 b) f g (λ c t. h c (agree_more q 1 qs b c t)) in
    ap (λ x. root_sum x (sum_bits qs (put q 1 b) f)) zero_side ∙ ap (root_sum (sum_bits qs (put q 0 b) g)) one_side

-- the sum over the bits of a list is the sum over its places
block_of : (m n p : ℕ) → n ≡ p + p → (m * n ≡ (2 * m + 0) * p) × (m * n + p ≡ (2 * m + 1) * p)
block_of m n p e = (rw e (omega arith), rw e (omega arith))

-- the sum over all bits of qubits is the sum over the places of their list
pub places_summed : (qs : List ℕ) → IsDistinct qs → (m : ℕ) (b : Bits) (h : ℕ → Root)
    → sum_bits qs b (λ c. h (value_of m qs c)) ≡ sum_from (m * 2 ^ length qs) (2 ^ length qs) h
places_summed [] d m b h = let e : m ≡ m * 1 = omega arith in ap h e ∙ sym (sum-zero (h (m * 1)))
places_summed (q ∷ qs) d m b h =
    let up : length (q ∷ qs) ≡ 1 + length qs = omega arith in
    let size : 2 ^ length (q ∷ qs) ≡ 2 ^ length qs + 2 ^ length qs = ap (λ t. 2 ^ t) up ∙ (pow-add 2 1 (length qs) ∙ omega arith) in
    let places = block_of m (2 ^ length (q ∷ qs)) (2 ^ length qs) size in
    let zero_side : sum_bits qs (put q 0 b) (λ c. h (value_of (2 * m + c q) qs c)) ≡ sum_from ((2 * m + 0) * 2 ^ length qs) (2 ^ length qs) h =
    same_bits qs (put q 0 b) (λ c. h (value_of (2 * m + c q) qs c)) (λ c. h (value_of (2 * m + 0) qs c))
    (λ c t. ap (λ x. h (value_of (2 * m + x) qs c)) (t q d.0 ∙ put_in q 0 q b refl))
    ∙ places_summed qs d.1 (2 * m + 0) (put q 0 b) h in
    let one_side : sum_bits qs (put q 1 b) (λ c. h (value_of (2 * m + c q) qs c)) ≡ sum_from ((2 * m + 1) * 2 ^ length qs) (2 ^ length qs) h =
    same_bits qs (put q 1 b) (λ c. h (value_of (2 * m + c q) qs c)) (λ c. h (value_of (2 * m + 1) qs c))
    (λ c t. ap (λ x. h (value_of (2 * m + x) qs c)) (t q d.0 ∙ put_in q 1 q b refl))
    ∙ places_summed qs d.1 (2 * m + 1) (put q 1 b) h in
    let halves : sum_from (m * 2 ^ length (q ∷ qs)) (2 ^ length qs + 2 ^ length qs) h
    ≡ root_sum (sum_from ((2 * m + 0) * 2 ^ length qs) (2 ^ length qs) h) (sum_from ((2 * m + 1) * 2 ^ length qs) (2 ^ length qs) h) =
    sum_split (2 ^ length qs) (m * 2 ^ length (q ∷ qs)) (2 ^ length qs) h
    ∙ (ap (λ a. root_sum (sum_from a (2 ^ length qs) h) (sum_from (m * 2 ^ length (q ∷ qs) + 2 ^ length qs) (2 ^ length qs) h)) places.0
    ∙ ap (λ a. root_sum (sum_from ((2 * m + 0) * 2 ^ length qs) (2 ^ length qs) h) (sum_from a (2 ^ length qs) h)) places.1) in
    ap (λ x. root_sum x (sum_bits qs (put q 1 b) (λ c. h (value_of (2 * m + c q) qs c)))) zero_side
    ∙ (ap (root_sum (sum_from ((2 * m + 0) * 2 ^ length qs) (2 ^ length qs) h)) one_side
    ∙ (sym halves ∙ ap (λ n. sum_from (m * 2 ^ length (q ∷ qs)) n h) (sym size)))

-- bits of two qubits are put in either order
put_two : (p q x y : ℕ) (b : Bits) → p ≢ q → (r : ℕ) → put q y (put p x b) r ≡ put p x (put q y b) r
put_two p q x y b n r = dite (ℕ_discrete r q)
    (λ (e : r ≡ q).
    let other : (r == p) ≡ false = ne_eqb r p (λ z. n (sym z ∙ e)) in
    put_in q y r (put p x b) e ∙ sym (put_out p x r (put q y b) other ∙ put_in q y r b e))
    (λ (e : r ≢ q).
    put_out q y r (put p x b) (ne_eqb r q e) ∙ dite (ℕ_discrete r p)
    (λ (z : r ≡ p). put_in p x r b z ∙ sym (put_in p x r (put q y b) z))
    (λ (z : r ≢ p). put_out p x r b (ne_eqb r p z) ∙ sym (put_out p x r (put q y b) (ne_eqb r p z) ∙ put_out q y r b (ne_eqb r q e))))

-- two qubits may be summed over in either order
swap_two : (p q : ℕ) (qs : List ℕ) (b : Bits) (f : Bits → Root) → p ≢ q → sum_bits (p ∷ q ∷ qs) b f ≡ sum_bits (q ∷ p ∷ qs) b f
swap_two p q qs b f n =
    let at : (x y : ℕ) → sum_bits qs (put q y (put p x b)) f ≡ sum_bits qs (put p x (put q y b)) f =
    λ x y. ap (λ c. sum_bits qs c f) (λ i r. put_two p q x y b n r i) in
    middle_four (sum_bits qs (put q 0 (put p 0 b)) f) (sum_bits qs (put q 1 (put p 0 b)) f) (sum_bits qs (put q 0 (put p 1 b)) f)
    (sum_bits qs (put q 1 (put p 1 b)) f)
    ∙ (λ i. root_sum (root_sum (at 0 0 i) (at 1 0 i)) (root_sum (at 0 1 i) (at 1 1 i)))

-- a list without a qubit
abbrev pub removed : ℕ → List ℕ → List ℕ
removed q [] = []
removed q (x ∷ xs) = if x == q then xs else x ∷ removed q xs

-- a list without a qubit has the others
has-removed : (r q : ℕ) (xs : List ℕ) → (r == q) ≡ false → has r (removed q xs) ≡ has r xs
has-removed r q [] h = refl
has-removed r q (x ∷ xs) h = ⊎_elim
    (λ (t : (x == q) ≡ true). let other : (r == x) ≡ false = rw (eqb-true x q t) h in rw (t, other) refl)
    (λ (t : (x == q) ≡ false). rw t (ap (λ z. (r == x) || z) (has-removed r q xs h)))
    (cases_Bool (x == q))

-- it hasn't that qubit
removed_has : (q : ℕ) (xs : List ℕ) → IsDistinct xs → has q (removed q xs) ≡ false
removed_has q [] d = refl
removed_has q (x ∷ xs) d = ⊎_elim
    (λ (t : (x == q) ≡ true). rw t (rw (sym (eqb-true x q t)) d.0))
    (λ (t : (x == q) ≡ false).
    let other : (q == x) ≡ false = ne_eqb q x (λ z. eqb-false x q t (sym z)) in
    rw (t, other) (removed_has q xs d.1))
    (cases_Bool (x == q))

-- its qubits are distinct
removed_distinct : (q : ℕ) (xs : List ℕ) → IsDistinct xs → IsDistinct (removed q xs)
removed_distinct q [] d = tt
removed_distinct q (x ∷ xs) d = ⊎_elim
    (λ (t : (x == q) ≡ true). rw t d.1)
    (λ (t : (x == q) ≡ false). rw t (has-removed x q xs t ∙ d.0, removed_distinct q xs d.1))
    (cases_Bool (x == q))

-- any qubit of a list may be taken first
first_taken : (q : ℕ) (xs : List ℕ) (b : Bits) (f : Bits → Root) → has q xs ≡ true → sum_bits xs b f ≡ sum_bits (q ∷ removed q xs) b f
first_taken q [] b f h = cc
first_taken q (x ∷ xs) b f h = ⊎_elim
    (λ (t : (x == q) ≡ true). rw (t, sym (eqb-true x q t)) refl)
    (λ (t : (x == q) ≡ false).
    let other : (q == x) ≡ false = ne_eqb q x (λ z. eqb-false x q t (sym z)) in
    let there : has q xs ≡ true = rw other at h in
    let zero_side = first_taken q xs (put x 0 b) f there in
    let one_side = first_taken q xs (put x 1 b) f there in
    let both : sum_bits (x ∷ xs) b f ≡ sum_bits (x ∷ q ∷ removed q xs) b f = λ i. root_sum (zero_side i) (one_side i) in
    rw t (both ∙ swap_two x q (removed q xs) b f (eqb-false x q t)))
    (cases_Bool (x == q))

-- lists of the same qubits have one sum
pub any_order : (qs xs : List ℕ) (b : Bits) (f : Bits → Root) → IsDistinct qs → IsDistinct xs → ((r : ℕ) → has r qs ≡ has r xs)
    → sum_bits qs b f ≡ sum_bits xs b f
any_order [] [] b f d e same = refl
any_order [] (x ∷ xs) b f d e same =
    let here : has x (x ∷ xs) ≡ true = or_left (x == x) (has x xs) (eq-eqb x x refl) in
    absurd (both_ways (has x (x ∷ xs)) (sym (same x)) here)
any_order (q ∷ qs) xs b f d e same =
    let here : has q (q ∷ qs) ≡ true = or_left (q == q) (has q qs) (eq-eqb q q refl) in
    let there : has q xs ≡ true = sym (same q) ∙ here in
    let rest : (r : ℕ) → has r qs ≡ has r (removed q xs) = λ r. ⊎_elim
    (λ (t : (r == q) ≡ true). rw (eqb-true r q t) (d.0 ∙ sym (removed_has q xs e)))
    (λ (t : (r == q) ≡ false).
    let one : has r (q ∷ qs) ≡ has r qs = rw t refl in
    sym one ∙ (same r ∙ sym (has-removed r q xs t)))
    (cases_Bool (r == q)) in
    let zero_side = any_order qs (removed q xs) (put q 0 b) f d.1 (removed_distinct q xs e) rest in
    let one_side = any_order qs (removed q xs) (put q 1 b) f d.1 (removed_distinct q xs e) rest in
    (λ i. root_sum (zero_side i) (one_side i)) ∙ sym (first_taken q xs b f there)
