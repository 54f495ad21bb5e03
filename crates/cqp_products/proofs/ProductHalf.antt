-- The product of all groups' numerators, with one group taken out.
use Rattle.std.proofs.Common.{◌≡◌, ◌≢◌, ℕ, zero, suc, true, false, List, [], ◌∷◌, ◌==◌, ◌+◌, ◌<◌, if◌then◌else◌, Option, Some, None, refl, sym, ap, arith}
use Rattle.std.proofs.Common.{eq-eqb, ne_eqb, ◌∙◌}
use Rattle.std.proofs.lemmas.Bool.{or_left, or_right, false_from_ne_true}
use Rattle.std.proofs.lemmas.Int.{ints}
use mathlib.Core.Logic.{dite}
use native.Mathlib.Decide.{ℕ_discrete}
use Rattle.cqp_ring.specs.declared.amp.Amp.{Amp}
use Rattle.cqp_ring.specs.Amp.{one_amp, amp_product, root2_amp}
use Rattle.cqp_ring.proofs.Integers.{same_amp}
use Rattle.cqp_ring.proofs.NormLemmas.{amp_product_comm, amp_product_assoc}
use Rattle.cqp_book.specs.Keys.{has}
use Rattle.cqp_vector.specs.State.{amp_at, with_zero, with_one}
use Rattle.cqp_vector.specs.Measurement.{outcome_at}
use Rattle.cqp_machine.specs.Factors.{Held}
use Rattle.cqp_machine.specs.Cells.{Cells, with_at}
use Rattle.cqp_vector.specs.Least.{root2_power}
use Rattle.cqp_machine.specs.Sums.{product_below, amp_in, whole_amp}
use Rattle.cqp_places.specs.Places.{AreBelow}
use Rattle.cqp_places.proofs.PlaceLemmas.{zero_keeps, one_keeps}
use Rattle.cqp_fresh.specs.Partition.{Groups, IsPartition}

-- 1 times a numerator is the numerator
pub one_times : (x : Amp) → amp_product one_amp x ≡ x
one_times x = same_amp (omega (arith, ints)) (omega (arith, ints)) (omega (arith, ints)) (omega (arith, ints))

-- so is a numerator times 1
pub times_one : (x : Amp) → amp_product x one_amp ≡ x
times_one x = amp_product_comm x one_amp ∙ one_times x

-- everywhere but at i
abbrev pub without : ℕ → (ℕ → Amp) → ℕ → Amp
without i f g = if g == i then one_amp else f g

-- products of functions that agree below n
pub same_product : (n : ℕ) (f h : ℕ → Amp) → ((g : ℕ) → g < n → f g ≡ h g) → product_below n f ≡ product_below n h
same_product zero f h e = refl
same_product (suc n) f h e =
    let first = same_product n f h (λ g t. e g (omega arith)) in
    let last = e n (omega arith) in
    ap (λ t. amp_product t (f n)) first ∙ ap (amp_product (product_below n h)) last

-- one factor comes out
pub one_out : (n i : ℕ) (f : ℕ → Amp) → i < n → product_below n f ≡ amp_product (f i) (product_below n (without i f))
one_out zero i f h = absurd (omega arith)
one_out (suc n) i f h = dite (ℕ_discrete n i)
    (λ (e : n ≡ i).
    let same = same_product n f (without i f) (λ g t. sym (rw (ne_eqb g i (λ z. omega arith)) refl)) in
    let last : without i f n ≡ one_amp = rw (eq-eqb n i e) refl in
    let all : amp_product (product_below n (without i f)) (without i f n) ≡ product_below n f =
    ap (amp_product (product_below n (without i f))) last ∙ (times_one (product_below n (without i f)) ∙ sym same) in
    amp_product_comm (product_below n f) (f n)
    ∙ (ap (λ t. amp_product (f t) (product_below n f)) e ∙ ap (amp_product (f i)) (sym all)))
    (λ (e : n ≢ i).
    let later = one_out n i f (omega arith) in
    let last : without i f n ≡ f n = rw (ne_eqb n i e) refl in
    ap (λ t. amp_product t (f n)) later
    ∙ (amp_product_assoc (f i) (product_below n (without i f)) (f n)
    ∙ ap (λ t. amp_product (f i) (amp_product (product_below n (without i f)) t)) (sym last)))

-- the numerators of all groups but g at a place of n qubits
abbrev pub rest_amp : ℕ → ℕ → Groups → ℕ → Amp
rest_amp n g m k = product_below n (without g (λ h. amp_in n k (m h)))

-- a list whose numbers are below n
pub all_below : (n : ℕ) (qs : List ℕ) → ((q : ℕ) → has q qs ≡ true → q < n) → AreBelow n qs
all_below n [] h = tt
all_below n (x ∷ qs) h = (h x (or_left (x == x) (has x qs) (eq-eqb x x refl)), all_below n qs (λ q t. h q (or_right (q == x) (has q qs) t)))

-- a group's numerator comes out of the product of all
pub group_comes_out : (n : ℕ) (c : Cells) (g : ℕ) (G : Held) → g < n → c.groups g ≡ Some G → (k : ℕ)
    → whole_amp n c k ≡ amp_product (amp_at G.nums (outcome_at n G.qubits k)) (rest_amp n g c.groups k)
group_comes_out n c g G below h k =
    one_out n g (λ h. amp_in n k (c.groups h)) below ∙ ap (λ x. amp_product (amp_in n k x) (rest_amp n g c.groups k)) h

module _ (n : ℕ) (m : Groups) (own : ℕ → ℕ) (p : IsPartition n m own) where
  -- the product of all is one group's numerator times the rest
  pub group_out : (c : Cells) → c.groups ≡ m → (g : ℕ) (G : Held) → m g ≡ Some G → (k : ℕ)
      → whole_amp n c k ≡ amp_product (amp_at G.nums (outcome_at n G.qubits k)) (rest_amp n g m k)
  group_out c e g G h k =
      let below = (p.each g G h).made g (p.each g G h).named in
      ap (λ (x : Groups). product_below n (λ h. amp_in n k (x h))) e
      ∙ (one_out n g (λ h. amp_in n k (m h)) below ∙ ap (λ x. amp_product (amp_in n k x) (rest_amp n g m k)) h)

  -- another group has none of its qubits
  not_in_other : (g : ℕ) (G : Held) → m g ≡ Some G → (q : ℕ) → has q G.qubits ≡ true → (h : ℕ) (H : Held) → m h ≡ Some H → h ≢ g → has q H.qubits ≡ false
  not_in_other g G there q t h H other x = false_from_ne_true (has q H.qubits)
      (λ u. x (sym ((p.each h H other).owned q u) ∙ (p.each g G there).owned q t))

  -- so the rest doesn't depend on the bits of its qubits
  module _ (g : ℕ) (G : Held) (there : m g ≡ Some G) (q : ℕ) (t : has q G.qubits ≡ true) (k : ℕ) where
    -- a bit of another group's qubit doesn't count for a group
    zero_same : (h : ℕ) (x : Option Held) → m h ≡ x → h ≢ g → amp_in n (with_zero n q k) x ≡ amp_in n k x
    zero_same h None e other = refl
    zero_same h (Some H) e other =
        ap (amp_at H.nums)
        (zero_keeps n q H.qubits k ((p.each g G there).made q t) (all_below n H.qubits (p.each h H e).made) (not_in_other g G there q t h H e other))

    -- so a 1 that is put
    one_same : (h : ℕ) (x : Option Held) → m h ≡ x → h ≢ g → amp_in n (with_one n q k) x ≡ amp_in n k x
    one_same h None e other = refl
    one_same h (Some H) e other =
        ap (amp_at H.nums)
        (one_keeps n q H.qubits k ((p.each g G there).made q t) (all_below n H.qubits (p.each h H e).made) (not_in_other g G there q t h H e other))

    -- functions that agree but at g agree without g
    but_at : (f u : ℕ → Amp) → ((h : ℕ) → h ≢ g → f h ≡ u h) → (h : ℕ) → without g f h ≡ without g u h
    but_at f u e h = dite (ℕ_discrete h g)
        (λ (z : h ≡ g). rw (eq-eqb h g z) refl)
        (λ (z : h ≢ g). rw (ne_eqb h g z) (e h z))

    -- the other groups don't see a 0 that is put for a qubit of the group
    pub rest_zero : rest_amp n g m (with_zero n q k) ≡ rest_amp n g m k
    rest_zero = same_product n _ _ (λ h z. but_at (λ h. amp_in n (with_zero n q k) (m h)) (λ h. amp_in n k (m h)) (λ h other. zero_same h (m h) refl other) h)

    -- nor a 1
    pub rest_one : rest_amp n g m (with_one n q k) ≡ rest_amp n g m k
    rest_one = same_product n _ _ (λ h z. but_at (λ h. amp_in n (with_one n q k) (m h)) (λ h. amp_in n k (m h)) (λ h other. one_same h (m h) refl other) h)

-- the rest is the same where the group becomes another
pub rest_changed : (n g : ℕ) (m : Groups) (x : Option Held) (k : ℕ) → rest_amp n g (with_at g x m) k ≡ rest_amp n g m k
rest_changed n g m x k = same_product n _ _ (λ h z. dite (ℕ_discrete h g)
    (λ (e : h ≡ g). rw (eq-eqb h g e) refl)
    (λ (e : h ≢ g). rw (ne_eqb h g e) refl))

-- powers of root 2
pub power_sum : (a b : ℕ) → amp_product (root2_power a) (root2_power b) ≡ root2_power (a + b)
power_sum zero b = let none : b ≡ 0 + b = omega arith in one_times (root2_power b) ∙ ap root2_power none
power_sum (suc a) b =
    let up : suc a + b ≡ suc (a + b) = omega arith in
    amp_product_assoc root2_amp (root2_power a) (root2_power b) ∙ (ap (amp_product root2_amp) (power_sum a b) ∙ ap root2_power (sym up))
