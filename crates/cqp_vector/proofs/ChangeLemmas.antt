-- A gate that is made pair by pair.
use Rattle.std.proofs.Common.{◌≡◌, ◌≢◌, ℕ, ◌+◌, ◌^◌, ◌<◌, ◌≤◌, List, length, map}
use Rattle.std.proofs.Common.{sym, ap, ◌∙◌, arith, true, false, inl, inr, ◌⊎◌, subst, set}
use Rattle.std.proofs.Common.{get_or-set_other, get_or-set_same}
use Rattle.std.specs.Prelude.{◌==◌, nat_lt, not, if◌then◌else◌, Bool, pos, ◌≤ℤ◌}
use Rattle.std.specs.List.{range_with_len}
use Rattle.std.proofs.lemmas.Bool.{and_parts, eq-eqb, ne_eqb, cases_eq, lt-ltb, le-ltb, not-true, and_cases, not-false, eqb-true, cases_order, eqb-false}
use Rattle.std.proofs.lemmas.List.{length-set}
use Rattle.std.proofs.lemmas.List.FromFn.{fill_by_all}
use Rattle.cqp_ring.specs.declared.amp.Amp.{Amp}
use Rattle.cqp_ring.specs.Amp.{zero_amp}
use Rattle.cqp_ring.specs.Root.{norm_sum}
use Rattle.cqp_syntax.specs.declared.op.Op.{Op}
use Rattle.cqp_vector.specs.State.{amp_at, weight_of, qubit_bit, with_zero}
use Rattle.cqp_vector.specs.Gate.{after_controlled, are_ones}
use Rattle.cqp_vector.specs.Group.{IsSmall}
use Rattle.cqp_vector.specs.Pairs.{AreControls, low_after, high_after, begins, IsPairStep}
use Rattle.cqp_vector.specs.Pairs.{IsChangedBelow}
use Rattle.cqp_vector.proofs.Bits.{bit_cases, low_place, high_place, low_bit_of}
use Rattle.cqp_vector.proofs.Bounds.{small_at}
use Rattle.cqp_vector.proofs.Pairs.{partner_above, weight_positive}
use Rattle.cqp_vector.proofs.Partners.{ArePartners, partners_from, down_from, controlled_low, controlled_high, ones_same}

-- one of two by a comparison
pub choose_same : {A : Type 0} (m n : ℕ) (x y : A) → m ≡ n → (if m == n then x else y) ≡ x
choose_same m n x y e = ap (λ b. if b then x else y) (eq-eqb m n e)

-- the test of two different numbers fails
pub choose_other : {A : Type 0} (m n : ℕ) (x y : A) → m ≢ n → (if m == n then x else y) ≡ y
choose_other m n x y e = ap (λ b. if b then x else y) (ne_eqb m n e)

-- the test of less passes for a lesser number
pub choose_less : {A : Type 0} (m n : ℕ) (x y : A) → m < n → (if nat_lt m n then x else y) ≡ x
choose_less m n x y h = ap (λ b. if b then x else y) (lt-ltb m n h)

-- and fails for one that isn't
pub choose_more : {A : Type 0} (m n : ℕ) (x y : A) → n ≤ m → (if nat_lt m n then x else y) ≡ y
choose_more m n x y h = ap (λ b. if b then x else y) (le-ltb m n h)

-- a test that passes chooses the first
pub choose_true : {A : Type 0} (b : Bool) (x y : A) → b ≡ true → (if b then x else y) ≡ x
choose_true b x y e = ap (λ t. if t then x else y) e

-- a test that fails chooses the second
pub choose_false : {A : Type 0} (b : Bool) (x y : A) → b ≡ false → (if b then x else y) ≡ y
choose_false b x y e = ap (λ t. if t then x else y) e

-- ---- where a pair begins
-- a bit that isn't 1 is 0
zero_bit : (n q k : ℕ) → not (qubit_bit n q k == 1) ≡ true → qubit_bit n q k ≡ 0
zero_bit n q k e = by_cases (bit_cases n q k)
  where
    by_cases : (qubit_bit n q k ≡ 0) ⊎ (qubit_bit n q k ≡ 1) → qubit_bit n q k ≡ 0
    by_cases (inl f) = f
    by_cases (inr f) = absurd (eqb-false (qubit_bit n q k) 1 (not-true _ e) f)

-- where a pair begins, the qubit's bit is 0
pub begins_low : (n : ℕ) (cs : List ℕ) (q k : ℕ) → begins n cs q k ≡ true → qubit_bit n q k ≡ 0
begins_low n cs q k e = zero_bit n q k (and_parts _ _ e).0

-- where a pair begins, the controls' bits are 1
begins_ones : (n : ℕ) (cs : List ℕ) (q k : ℕ) → begins n cs q k ≡ true → are_ones n cs k ≡ true
begins_ones n cs q k e = (and_parts _ _ e).1

-- the high place of a pair is a place
pub begins_within : (n : ℕ) (cs : List ℕ) (q k : ℕ) → q < n → k < 2 ^ n → begins n cs q k ≡ true → k + weight_of n q < 2 ^ n
begins_within n cs q k made small e = partner_above n q k made small (begins_low n cs q k e)

-- the low place of a pair's high place is where it begins
pub low_of_high : (n q k : ℕ) → qubit_bit n q k ≡ 0 → with_zero n q (k + weight_of n q) ≡ k
low_of_high n q k e = down_from n q k (k + weight_of n q) (partners_from n q k e)

-- ---- one pair
module _ (o : Op) (n : ℕ) (cs : List ℕ) (q : ℕ) (c : AreControls n cs q) where
  -- the pair at k is changed
  pub step_made : (k : ℕ) (old new : List Amp) → k < 2 ^ n → length old ≡ 2 ^ n → begins n cs q k ≡ true
      → new ≡ set (set old k (low_after o (amp_at old k) (amp_at old (k + weight_of n q)))) (k + weight_of n q)
      (high_after o (amp_at old k) (amp_at old (k + weight_of n q)))
      → IsPairStep n cs q o k old new
  step_made k old new small whole b e i h = by_cases (cases_eq (with_zero n q i) k) (bit_cases n q i)
    where
      w : ℕ
      w = weight_of n q

      low : Amp
      low = low_after o (amp_at old k) (amp_at old (k + weight_of n q))

      high : Amp
      high = high_after o (amp_at old k) (amp_at old (k + weight_of n q))

      zero : qubit_bit n q k ≡ 0
      zero = begins_low n cs q k b

      within : k + weight_of n q < 2 ^ n
      within = begins_within n cs q k c.made small b

      partners : ArePartners n q k (k + weight_of n q)
      partners = partners_from n q k zero

      apart : k ≢ k + weight_of n q
      apart f = let p : 0 < weight_of n q = weight_positive n q in absurd (omega arith)

      new_low : amp_at new k ≡ low_after o (amp_at old k) (amp_at old (k + weight_of n q))
      new_low =
          let room : k < length old = omega arith in
          ap (λ t. amp_at t k) e
          ∙ get_or-set_other (set old k (low_after o (amp_at old k) (amp_at old (k + weight_of n q)))) (k + weight_of n q) k _ zero_amp apart
          ∙ get_or-set_same old k _ zero_amp room

      new_high : amp_at new (k + weight_of n q) ≡ high_after o (amp_at old k) (amp_at old (k + weight_of n q))
      new_high =
          let inside : k + weight_of n q < 2 ^ n = within in
          let room : k + weight_of n q < length (set old k (low_after o (amp_at old k) (amp_at old (k + weight_of n q)))) =
          omega (arith, length-set old k (low_after o (amp_at old k) (amp_at old (k + weight_of n q)))) in
          ap (λ t. amp_at t (k + weight_of n q)) e ∙ get_or-set_same _ (k + weight_of n q) _ zero_amp room

      new_other : (j : ℕ) → j ≢ k → j ≢ k + weight_of n q → amp_at new j ≡ amp_at old j
      new_other j f g =
          ap (λ t. amp_at t j) e
          ∙ get_or-set_other (set old k (low_after o (amp_at old k) (amp_at old (k + weight_of n q)))) (k + weight_of n q) j _ zero_amp g
          ∙ get_or-set_other old k j _ zero_amp f

      at_low : amp_at new k ≡ after_controlled o n cs q old k
      at_low = new_low ∙ sym (controlled_low o n cs q old k (k + weight_of n q) partners ∙ choose_true _ _ _ (begins_ones n cs q k b))

      at_high : amp_at new (k + weight_of n q) ≡ after_controlled o n cs q old (k + weight_of n q)
      at_high = new_high ∙ sym (controlled_high o n cs q old k (k + weight_of n q) c partners ∙ choose_true _ _ _ (begins_ones n cs q k b))

      by_cases : (with_zero n q i ≡ k) ⊎ (with_zero n q i ≢ k) → (qubit_bit n q i ≡ 0) ⊎ (qubit_bit n q i ≡ 1)
          → amp_at new i ≡ (if with_zero n q i == k then after_controlled o n cs q old i else amp_at old i)
      by_cases (inl f) (inl z) =
          let same : i ≡ k = sym (low_place n q i z) ∙ f in
          ap (amp_at new) same ∙ at_low ∙ ap (after_controlled o n cs q old) (sym same) ∙ sym (choose_same _ k _ _ f)
      by_cases (inl f) (inr z) =
          let same : i ≡ k + weight_of n q = high_place n q i z ∙ ap (λ t. t + weight_of n q) f in
          ap (amp_at new) same ∙ at_high ∙ ap (after_controlled o n cs q old) (sym same) ∙ sym (choose_same _ k _ _ f)
      by_cases (inr f) z =
          let not_low : i ≢ k = λ g. f (ap (with_zero n q) g ∙ low_place n q k zero) in
          let not_high : i ≢ k + weight_of n q = λ g. f (ap (with_zero n q) g ∙ low_of_high n q k zero) in
          new_other i not_low not_high ∙ sym (choose_other _ k _ _ f)

  -- nothing is to be changed at k
  pub step_left : (k : ℕ) (old : List Amp) → begins n cs q k ≡ false → IsPairStep n cs q o k old old
  step_left k old b i h = by_cases (cases_eq (with_zero n q i) k)
    where
      closed : with_zero n q i ≡ k → are_ones n cs k ≡ false
      closed f = by_side (and_cases _ _ b)
        where
          zero : qubit_bit n q k ≡ 0
          zero = ap (qubit_bit n q) (sym f) ∙ low_bit_of n q i

          by_side : (not (qubit_bit n q k == 1) ≡ false) ⊎ (are_ones n cs k ≡ false) → are_ones n cs k ≡ false
          by_side (inl g) = let one : qubit_bit n q k ≡ 1 = eqb-true _ _ (not-false _ g) in let none : qubit_bit n q k ≡ 0 = zero in absurd (omega arith)
          by_side (inr g) = g

      ones_at : with_zero n q i ≡ k → (qubit_bit n q i ≡ 0) ⊎ (qubit_bit n q i ≡ 1) → are_ones n cs i ≡ false
      ones_at f (inl z) = ap (are_ones n cs) (sym (low_place n q i z) ∙ f) ∙ closed f
      ones_at f (inr z) =
          ap (are_ones n cs) (high_place n q i z ∙ ap (λ t. t + weight_of n q) f)
          ∙ ones_same n cs q k c (ap (qubit_bit n q) (sym f) ∙ low_bit_of n q i) ∙ closed f

      by_cases : (with_zero n q i ≡ k) ⊎ (with_zero n q i ≢ k) → amp_at old i ≡ (if with_zero n q i == k then after_controlled o n cs q old i else amp_at old i)
      by_cases (inl f) = sym (choose_same _ k _ _ f ∙ choose_false _ _ _ (ones_at f (bit_cases n q i)))
      by_cases (inr f) = sym (choose_other _ k _ _ f)

  -- ---- pair by pair
  -- both places of a pair are within
  pair_within : (i : ℕ) → i < 2 ^ n → with_zero n q i + weight_of n q < 2 ^ n
  pair_within i h = partner_above n q (with_zero n q i) c.made (omega arith) (low_bit_of n q i)

  -- what a gate makes of a place depends on its pair alone
  controlled_same : (xs ys : List Amp) (i : ℕ) → amp_at xs (with_zero n q i) ≡ amp_at ys (with_zero n q i)
      → amp_at xs (with_zero n q i + weight_of n q) ≡ amp_at ys (with_zero n q i + weight_of n q)
      → after_controlled o n cs q xs i ≡ after_controlled o n cs q ys i
  controlled_same xs ys i e f = by_cases (bit_cases n q i)
    where
      k : ℕ
      k = with_zero n q i

      partners : ArePartners n q (with_zero n q i) (with_zero n q i + weight_of n q)
      partners = partners_from n q (with_zero n q i) (low_bit_of n q i)

      lows : after_controlled o n cs q xs (with_zero n q i) ≡ after_controlled o n cs q ys (with_zero n q i)
      lows =
          controlled_low o n cs q xs _ _ partners
          ∙ ap (λ t. if are_ones n cs (with_zero n q i) then low_after o t (amp_at xs (with_zero n q i + weight_of n q)) else t) e
          ∙ ap (λ t. if are_ones n cs (with_zero n q i) then low_after o (amp_at ys (with_zero n q i)) t else amp_at ys (with_zero n q i)) f
          ∙ sym (controlled_low o n cs q ys _ _ partners)

      highs : after_controlled o n cs q xs (with_zero n q i + weight_of n q) ≡ after_controlled o n cs q ys (with_zero n q i + weight_of n q)
      highs =
          controlled_high o n cs q xs _ _ c partners
          ∙ ap (λ t. if are_ones n cs (with_zero n q i) then high_after o t (amp_at xs (with_zero n q i + weight_of n q)) else amp_at xs
          (with_zero n q i + weight_of n q)) e
          ∙ ap (λ t. if are_ones n cs (with_zero n q i) then high_after o (amp_at ys (with_zero n q i)) t else t) f
          ∙ sym (controlled_high o n cs q ys _ _ c partners)

      by_cases : (qubit_bit n q i ≡ 0) ⊎ (qubit_bit n q i ≡ 1) → after_controlled o n cs q xs i ≡ after_controlled o n cs q ys i
      by_cases (inl z) = subst (λ j. after_controlled o n cs q xs j ≡ after_controlled o n cs q ys j) (low_place n q i z) lows
      by_cases (inr z) = subst (λ j. after_controlled o n cs q xs j ≡ after_controlled o n cs q ys j) (sym (high_place n q i z)) highs

  -- what isn't reached yet is as it was
  untouched : (k : ℕ) (old new : List Amp) → IsChangedBelow n cs q o k old new → (i : ℕ) → i < 2 ^ n → k ≤ with_zero n q i → amp_at new i ≡ amp_at old i
  untouched k old new done i h more = done i h ∙ choose_more (with_zero n q i) k _ _ more

  pub small_pair : (k : ℕ) (old new : List Amp) → (norm_sum old).p ≤ℤ pos (2 ^ 90) → IsChangedBelow n cs q o k old new → k < 2 ^ n
      → (i : ℕ) → with_zero n q i ≡ k → IsSmall (amp_at new i)
  small_pair k old new bound done less i e =
      subst IsSmall (sym (untouched k old new done i (inside (bit_cases n q i)) (omega arith))) (small_at old i bound)
    where
      zero : qubit_bit n q k ≡ 0
      zero = ap (qubit_bit n q) (sym e) ∙ low_bit_of n q i

      inside : (qubit_bit n q i ≡ 0) ⊎ (qubit_bit n q i ≡ 1) → i < 2 ^ n
      inside (inl z) = let f : with_zero n q i ≡ i = low_place n q i z in omega arith
      inside (inr z) =
          let f : i ≡ with_zero n q i + weight_of n q = high_place n q i z in
          let g : k + weight_of n q < 2 ^ n = partner_above n q k c.made less zero in
          omega arith

  pub changed_none : (old : List Amp) → IsChangedBelow n cs q o 0 old old
  changed_none old i h = sym (choose_more (with_zero n q i) 0 _ _ (omega arith))

  pub changed_more : (k : ℕ) (old mid new : List Amp) → IsChangedBelow n cs q o k old mid → IsPairStep n cs q o k mid new
      → IsChangedBelow n cs q o (k + 1) old new
  changed_more k old mid new done step i h = by_cases (cases_order (with_zero n q i) k)
    where
      by_cases : (with_zero n q i ≡ k) ⊎ ((with_zero n q i < k) ⊎ (k < with_zero n q i))
          → amp_at new i ≡ (if nat_lt (with_zero n q i) (k + 1) then after_controlled o n cs q old i else amp_at old i)
      by_cases (inl e) =
          let low : with_zero n q i < 2 ^ n = omega arith in
          let high = pair_within i h in
          let zero : qubit_bit n q (with_zero n q i) ≡ 0 = low_bit_of n q i in
          let here : k ≤ with_zero n q (with_zero n q i) = omega (arith, low_place n q (with_zero n q i) zero) in
          let there : k ≤ with_zero n q (with_zero n q i + weight_of n q) = omega (arith, low_of_high n q (with_zero n q i) zero) in
          step i h ∙ choose_same _ k _ _ e
          ∙ controlled_same mid old i (untouched k old mid done _ low here) (untouched k old mid done _ high there)
          ∙ sym (choose_less _ (k + 1) _ _ (omega arith))
      by_cases (inr (inl less)) =
          let other : with_zero n q i ≢ k = λ e. absurd (omega arith) in
          step i h ∙ choose_other _ k _ _ other ∙ done i h ∙ choose_less _ k _ _ less ∙ sym (choose_less _ (k + 1) _ _ (omega arith))
      by_cases (inr (inr more)) =
          let other : with_zero n q i ≢ k = λ e. absurd (omega arith) in
          step i h ∙ choose_other _ k _ _ other ∙ done i h ∙ choose_more _ k _ _ (omega arith) ∙ sym (choose_more _ (k + 1) _ _ (omega arith))

  pub changed_all : (old new : List Amp) → length new ≡ 2 ^ n → IsChangedBelow n cs q o (2 ^ n) old new
      → new ≡ map (after_controlled o n cs q old) (range_with_len 0 (2 ^ n))
  changed_all old new whole done = fill_by_all (after_controlled o n cs q old) new (2 ^ n) zero_amp whole
      (λ i h. done i h ∙ choose_less _ (2 ^ n) _ _ (omega arith))
