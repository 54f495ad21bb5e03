-- A join changes nothing of the whole state.
use Rattle.std.proofs.Common.{◌≡◌, ◌≢◌, ◌⊎◌, inl, inr, ℕ, suc, true, false, List, [], ◌∷◌, ◌++◌, ◌+◌, ◌-◌, ◌*◌, ◌/◌, ◌%◌, ◌^◌, ◌≤◌, ◌<◌, length, nat_lt, Some}
use Rattle.std.proofs.Common.{None, refl, sym, ap, subst, arith, eq-eqb, ne_eqb, ◌∙◌, ⊎_elim}
use Rattle.std.proofs.lemmas.Bool.{cases_Bool}
use Rattle.std.proofs.lemmas.Nat.{div-mul-add}
use Rattle.std.proofs.lemmas.List.FromFn.{get_or-map-range_with_len}
use Rattle.std.proofs.Math.Nat.{mul-le-mul_right}
use mathlib.Core.Logic.{dite}
use native.Mathlib.Decide.{ℕ_discrete}
use Rattle.cqp_ring.specs.declared.amp.Amp.{Amp}
use Rattle.cqp_ring.specs.Amp.{zero_amp, one_amp, amp_product}
use Rattle.cqp_ring.proofs.NormLemmas.{amp_product_assoc}
use Rattle.cqp_vector.specs.State.{State, amp_at, qubit_bit}
use Rattle.cqp_vector.specs.Measurement.{outcome_at, outcome_after}
use Rattle.cqp_vector.specs.Group.{product_of}
use Rattle.cqp_machine.specs.Factors.{Held, joined}
use Rattle.cqp_machine.specs.Cells.{Cells, with_at}
use Rattle.cqp_machine.specs.After.{lesser}
use Rattle.cqp_vector.specs.Least.{root2_power}
use Rattle.cqp_machine.specs.Sums.{whole_amp, amp_in, product_below}
use Rattle.cqp_places.proofs.PlaceLemmas.{outcome_small, outcome_behind}
use Rattle.cqp_fresh.specs.Partition.{Groups, IsPartition}
use Rattle.cqp_fresh.proofs.Partition.{name_made}
use Rattle.cqp_products.proofs.ProductHalf.{without, one_out, same_product, power_sum}
use Rattle.cqp_products.proofs.LeastHalf.{least_reads}
use Rattle.cqp_local.proofs.PlacedLemmas.{with_at_in, with_at_out}
use Rattle.cqp_products.specs.Reads.{IsShaped, Reads}

-- the place of two lists of qubits
after-append : (m n : ℕ) (xs ys : List ℕ) (k : ℕ) → outcome_after m n (xs ++ ys) k ≡ outcome_after (outcome_after m n xs k) n ys k
after-append m n [] ys k = refl
after-append m n (x ∷ xs) ys k = after-append (2 * m + qubit_bit n x k) n xs ys k

-- the place of two lists one behind the other
outcome-append : (n : ℕ) (xs ys : List ℕ) (k : ℕ) → outcome_at n (xs ++ ys) k ≡ outcome_at n xs k * 2 ^ length ys + outcome_at n ys k
outcome-append n xs ys k = after-append 0 n xs ys k ∙ outcome_behind (outcome_at n xs k) n ys k

-- the product at a place
mod_of : (a p b : ℕ) → b < p → (a * p + b) % p ≡ b
mod_of a p b h = let d = div-mul-add a p b h in remainder (a * p + b) p a b d (omega arith)
  where
    remainder : (x p a b : ℕ) → x / p ≡ a → x ≡ a * p + b → x % p ≡ b
    remainder x p a b d e =
        let f : p * (x / p) + x % p ≡ x = omega arith in
        let g : p * (x / p) ≡ p * a = ap (λ t. p * t) d in
        omega arith

-- the product of two groups at a place is the product of their numerators
products_at : (xs ys : List Amp) (a b : ℕ) → a < length xs → b < length ys
    → amp_at (product_of xs ys) (a * length ys + b) ≡ amp_product (amp_at xs a) (amp_at ys b)
products_at xs ys a b ha hb =
    let more : suc a ≤ length xs = omega arith in
    let block : suc a * length ys ≤ length xs * length ys = mul-le-mul_right (length ys) more in
    let within : a * length ys + b < length xs * length ys = omega arith in
    get_or-map-range_with_len (λ k. amp_product (amp_at xs (k / length ys)) (amp_at ys (k % length ys))) 0 (length xs * length ys)
    (a * length ys + b) (a * length ys + b) zero_amp within (omega arith)
    ∙ (ap (λ t. amp_product (amp_at xs t) (amp_at ys ((a * length ys + b) % length ys))) (div-mul-add a (length ys) b hb)
    ∙ ap (λ t. amp_product (amp_at xs a) (amp_at ys t)) (mod_of a (length ys) b hb))

-- a factor that is 1 may be left out
without_one : (n i : ℕ) (f : ℕ → Amp) → f i ≡ one_amp → product_below n f ≡ product_below n (without i f)
without_one n i f h = same_product n f (without i f) (λ g t. dite (ℕ_discrete g i)
    (λ (e : g ≡ i). let here : without i f g ≡ one_amp = rw (eq-eqb g i e) refl in ap f e ∙ (h ∙ sym here))
    (λ (e : g ≢ i). sym (rw (ne_eqb g i e) refl)))

-- a function without one number is the same elsewhere
without_out : (i g : ℕ) (f : ℕ → Amp) → g ≢ i → without i f g ≡ f g
without_out i g f h = rw (ne_eqb g i h) refl

-- at that number it is 1
without_in : (i g : ℕ) (f : ℕ → Amp) → g ≡ i → without i f g ≡ one_amp
without_in i g f h = rw (eq-eqb g i h) refl

-- two functions that agree but at two numbers, of which the second has 1 at one of them
two_out : (n i j : ℕ) (f : ℕ → Amp) → i < n → j < n → j ≢ i
    → product_below n f ≡ amp_product (f i) (amp_product (f j) (product_below n (without j (without i f))))
two_out n i j f hi hj x =
    one_out n i f hi
    ∙ ap (amp_product (f i)) (one_out n j (without i f) hj ∙ ap (λ t. amp_product t (product_below n (without j (without i f)))) (without_out i j f x))

-- a product in which two factors were merged into one of them
merged : (n l r i : ℕ) (f u : ℕ → Amp) → l < n → r < n → r ≢ l → (i ≡ l) ⊎ (i ≡ r) → ((g : ℕ) → g ≢ l → g ≢ r → u g ≡ f g)
    → ((g : ℕ) → (g ≡ l) ⊎ (g ≡ r) → g ≢ i → u g ≡ one_amp)
    → product_below n u ≡ amp_product (u i) (product_below n (without r (without l f)))
merged n l r i f u hl hr x c same one =
    let hi : i < n = ⊎_elim (λ (e : i ≡ l). omega arith) (λ (e : i ≡ r). omega arith) c in
    one_out n i u hi ∙ ap (amp_product (u i)) (same_product n (without i u) (without r (without l f)) (λ g t. dite (ℕ_discrete g i)
    (λ (e : g ≡ i). without_in i g u e ∙ sym (gone g (⊎_elim (λ (z : i ≡ l). inl (e ∙ z)) (λ (z : i ≡ r). inr (e ∙ z)) c)))
    (λ (e : g ≢ i). without_out i g u e ∙ dite (ℕ_discrete g r)
    (λ (z : g ≡ r). one g (inr z) e ∙ sym (gone g (inr z)))
    (λ (z : g ≢ r). dite (ℕ_discrete g l)
    (λ (w : g ≡ l). one g (inl w) e ∙ sym (gone g (inl w)))
    (λ (w : g ≢ l). same g w z ∙ sym (without_out r g (without l f) z ∙ without_out l g f w))))))
  where
    gone : (g : ℕ) → (g ≡ l) ⊎ (g ≡ r) → without r (without l f) g ≡ one_amp
    gone g (inr z) = without_in r g (without l f) z
    gone g (inl z) = dite (ℕ_discrete g r)
        (λ (w : g ≡ r). without_in r g (without l f) w)
        (λ (w : g ≢ r). without_out r g (without l f) w ∙ without_in l g f z)

-- the power of root 2 that making the product least takes out
merge : (w c a b rest p x cp u : Amp) → w ≡ amp_product c (amp_product a (amp_product b rest)) → amp_product a b ≡ amp_product p x
    → amp_product c p ≡ cp → u ≡ amp_product x rest → w ≡ amp_product cp u
merge w c a b rest p x cp u h e f g =
    h ∙ (ap (amp_product c) (sym (amp_product_assoc a b rest) ∙ (ap (λ t. amp_product t rest) e ∙ amp_product_assoc p x rest))
    ∙ (sym (amp_product_assoc c p (amp_product x rest)) ∙ (ap (λ t. amp_product t (amp_product x rest)) f ∙ ap (amp_product cp) (sym g))))

module _ (s : State) (c : Cells) (own : ℕ → ℕ) (p : IsPartition s.qubits c.groups own) (e : ℕ) (h : Reads s c e)
    (l r : ℕ) (apart : l ≢ r) (G H : Held) (first : c.groups l ≡ Some G) (second : c.groups r ≡ Some H) (own_shape : IsShaped G) (shape_too : IsShaped H) where
  -- the groups after the join
  abbrev after : Groups
  after = with_at (lesser l r) (Some (joined G H)) (with_at l None (with_at r None c.groups))

  -- the numerators of the groups before
  abbrev f : ℕ → ℕ → Amp
  f k g = amp_in s.qubits k (c.groups g)

  -- numerators after the join
  abbrev u : ℕ → ℕ → Amp
  u k g = amp_in s.qubits k (after g)

  -- the joined group has the name of one of both
  lesser_is : (lesser l r ≡ l) ⊎ (lesser l r ≡ r)
  lesser_is = ⊎_elim (λ (t : nat_lt l r ≡ true). inl (rw t refl)) (λ (t : nat_lt l r ≡ false). inr (rw t refl)) (cases_Bool (nat_lt l r))

  -- the other groups have the same numerators
  others_same : (k g : ℕ) → g ≢ l → g ≢ r → u k g ≡ f k g
  others_same k g x y =
      let z : g ≢ lesser l r = λ w. ⊎_elim (λ (t : lesser l r ≡ l). x (w ∙ t)) (λ (t : lesser l r ≡ r). y (w ∙ t)) lesser_is in
      ap (amp_in s.qubits k)
      (with_at_out (lesser l r) g (Some (joined G H)) (with_at l None (with_at r None c.groups)) (ne_eqb g (lesser l r) z)
      ∙ (with_at_out l g None (with_at r None c.groups) (ne_eqb g l x) ∙ with_at_out r g None c.groups (ne_eqb g r y)))

  -- the name that ends counts as 1
  ended_one : (k g : ℕ) → (g ≡ l) ⊎ (g ≡ r) → g ≢ lesser l r → u k g ≡ one_amp
  ended_one k g c' z = ap (amp_in s.qubits k)
      (with_at_out (lesser l r) g (Some (joined G H)) (with_at l None (with_at r None c.groups)) (ne_eqb g (lesser l r) z)
      ∙ dite (ℕ_discrete g l)
      (λ (w : g ≡ l). with_at_in l g None (with_at r None c.groups) (eq-eqb g l w))
      (λ (w : g ≢ l). with_at_out l g None (with_at r None c.groups) (ne_eqb g l w)
      ∙ with_at_in r g None c.groups (eq-eqb g r (⊎_elim (λ (t : g ≡ l). absurd (w t)) (λ (t : g ≡ r). t) c'))))

  -- the product's numerator at its own place
  own_product : (k : ℕ) → amp_product (amp_at G.nums (outcome_at s.qubits G.qubits k)) (amp_at H.nums (outcome_at s.qubits H.qubits k))
      ≡ amp_product (root2_power (G.h + H.h - (joined G H).h)) (amp_at (joined G H).nums (outcome_at s.qubits (G.qubits ++ H.qubits) k))
  own_product k =
      let a = outcome_at s.qubits G.qubits k in
      let b = outcome_at s.qubits H.qubits k in
      let small : outcome_at s.qubits G.qubits k < length G.nums =
      subst (λ n. outcome_at s.qubits G.qubits k < n) (sym own_shape.whole) (outcome_small s.qubits G.qubits k) in
      let small_too : outcome_at s.qubits H.qubits k < length H.nums =
      subst (λ n. outcome_at s.qubits H.qubits k < n) (sym shape_too.whole) (outcome_small s.qubits H.qubits k) in
      let place : outcome_at s.qubits G.qubits k * length H.nums + outcome_at s.qubits H.qubits k ≡ outcome_at s.qubits (G.qubits ++ H.qubits) k =
      ap (λ n. outcome_at s.qubits G.qubits k * n + outcome_at s.qubits H.qubits k) shape_too.whole ∙ sym (outcome-append s.qubits G.qubits H.qubits k) in
      sym (products_at G.nums H.nums (outcome_at s.qubits G.qubits k) (outcome_at s.qubits H.qubits k) small small_too)
      ∙ (ap (amp_at (product_of G.nums H.nums)) place
      ∙ least_reads (product_of G.nums H.nums) (G.h + H.h) (outcome_at s.qubits (G.qubits ++ H.qubits) k))

  -- a join, made least, changes nothing of the whole
  pub join_event : Reads s (record c { groups = after }) (e + (G.h + H.h - (joined G H).h))
  join_event k small =
      let below = name_made s.qubits c.groups own p l G first in
      let below_too = name_made s.qubits c.groups own p r H second in
      let other : r ≢ l = λ z. apart (sym z) in
      let named : u k (lesser l r) ≡ amp_at (joined G H).nums (outcome_at s.qubits (G.qubits ++ H.qubits) k) =
      ap (amp_in s.qubits k)
      (with_at_in (lesser l r) (lesser l r) (Some (joined G H)) (with_at l None (with_at r None c.groups)) (eq-eqb (lesser l r) (lesser l r) refl)) in
      let before : whole_amp s.qubits c k ≡ amp_product (amp_at G.nums (outcome_at s.qubits G.qubits k))
      (amp_product (amp_at H.nums (outcome_at s.qubits H.qubits k)) (product_below s.qubits (without r (without l (f k))))) =
      two_out s.qubits l r (f k) below below_too other
      ∙ (ap (λ z. amp_product (amp_in s.qubits k z) (amp_product (f k r) (product_below s.qubits (without r (without l (f k)))))) first
      ∙ ap
      (λ z. amp_product (amp_at G.nums (outcome_at s.qubits G.qubits k))
      (amp_product (amp_in s.qubits k z) (product_below s.qubits (without r (without l (f k)))))) second) in
      let later : whole_amp s.qubits (record c { groups = after }) k
      ≡ amp_product (amp_at (joined G H).nums (outcome_at s.qubits (G.qubits ++ H.qubits) k)) (product_below s.qubits (without r (without l (f k)))) =
      merged s.qubits l r (lesser l r) (f k) (u k) below below_too other lesser_is (others_same k) (ended_one k)
      ∙ ap (λ z. amp_product z (product_below s.qubits (without r (without l (f k))))) named in
      merge (amp_at s.nums k) (root2_power e) (amp_at G.nums (outcome_at s.qubits G.qubits k)) (amp_at H.nums (outcome_at s.qubits H.qubits k))
      (product_below s.qubits (without r (without l (f k)))) (root2_power (G.h + H.h - (joined G H).h))
      (amp_at (joined G H).nums (outcome_at s.qubits (G.qubits ++ H.qubits) k)) (root2_power (e + (G.h + H.h - (joined G H).h)))
      (whole_amp s.qubits (record c { groups = after }) k)
      (h k small ∙ ap (amp_product (root2_power e)) before) (own_product k) (power_sum e (G.h + H.h - (joined G H).h)) later
