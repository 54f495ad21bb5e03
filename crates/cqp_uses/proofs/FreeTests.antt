-- A name is free at a number exactly where the first of its users from there on is within the subtree.
use Rattle.std.proofs.Common.{◌≡◌, ◌⊎◌, inl, inr, ℕ, zero, suc, true, false, Bool, List, [], ◌∷◌, ◌+◌, ◌≤◌, ◌<◌, nat_lt, length, slice_index_or, slice_get, Some, None}
use Rattle.std.proofs.Common.{refl, sym, subst, arith, ◌∙◌, ⊎_elim}
use Rattle.std.proofs.lemmas.Bool.{cases_Bool, cases_lt, lt-ltb, le-ltb, ltb-true, ltb-false, or_left, or_right, or_from}
use Rattle.std.specs.List.{list_any, range_with_len, AllByRecursion}
use Rattle.cqp_syntax.specs.Listing.{Listing}
use Rattle.cqp_uses.specs.Users.{first_from}
use Rattle.cqp_uses.proofs.FreeUses.{uses_at}
use Rattle.cqp_parts.proofs.Lists.{any_default}
use Rattle.cqp_uses.proofs.UserLists.{RiseFrom, IsIn, AreUsers}

-- numbers that rise, by places
pub first_least : (a : ℕ) (ms : List ℕ) (i : ℕ) → RiseFrom a ms → i < length ms → a ≤ slice_index_or ms i 0
first_least a [] i r h = absurd (omega arith)
first_least a (m ∷ ms) zero r h = r.0
first_least a (m ∷ ms) (suc i) r h = omega (arith, r.0, first_least m ms i r.1 (omega arith))

-- numbers that rise do so from place to place
pub rising_at : (a : ℕ) (ms : List ℕ) (i j : ℕ) → RiseFrom a ms → i ≤ j → j < length ms → slice_index_or ms i 0 ≤ slice_index_or ms j 0
rising_at a [] i j r h w = absurd (omega arith)
rising_at a (m ∷ ms) zero zero r h w = omega arith
rising_at a (m ∷ ms) zero (suc j) r h w = first_least m ms j r.1 (omega arith)
rising_at a (m ∷ ms) (suc i) zero r h w = absurd (omega arith)
rising_at a (m ∷ ms) (suc i) (suc j) r h w = rising_at m ms i j r.1 (omega arith) (omega arith)

-- a test that passes in a range, and one that passes nowhere there
pub any_here : (q : ℕ → Bool) (n k m : ℕ) → n ≤ m → m < n + k → q m ≡ true → list_any q (range_with_len n k) ≡ true
any_here q n zero m low up h = absurd (omega arith)
any_here q n (suc k) m low up h = ⊎_elim
    (λ (t : n < m). or_right (q n) (list_any q (range_with_len (n + 1) k)) (any_here q (n + 1) k m (omega arith) (omega arith) h))
    (λ (t : m ≤ n). let same : m ≡ n = omega arith in or_left (q n) (list_any q (range_with_len (n + 1) k)) (subst (λ j. q j ≡ true) same h))
    (cases_lt n m)

-- what no number of a range passes none passes
any_none : (q : ℕ → Bool) (n k : ℕ) → ((m : ℕ) → n ≤ m → m < n + k → q m ≡ false) → list_any q (range_with_len n k) ≡ false
any_none q n zero h = refl
any_none q n (suc k) h =
    or_from (q n) (list_any q (range_with_len (n + 1) k)) (h n (omega arith) (omega arith)) (any_none q (n + 1) k (λ m low up. h m (omega arith) (omega arith)))

-- what holds of all numbers holds of one that is there
all_there : (P : ℕ → Type 0) (ms : List ℕ) (m : ℕ) → AllByRecursion P ms → IsIn m ms → P m
all_there P [] m a i = elim i [ ]
all_there P (k ∷ ms) m a (inl e) = subst P e a.0
all_there P (k ∷ ms) m a (inr i) = all_there P ms m a.1 i

-- none that is there is below the least
least_in : (a m : ℕ) (ms : List ℕ) → RiseFrom a ms → IsIn m ms → a ≤ m
least_in a m [] r i = elim i [ ]
least_in a m (k ∷ ms) r (inl e) = omega (arith, r.0, e)
least_in a m (k ∷ ms) r (inr i) = omega (arith, r.0, least_in k m ms r.1 i)

-- a place behind the numbers below n has the first from n on
pub first_at : (n at : ℕ) (us : List ℕ) → ((i : ℕ) → i < at → i < length us → nat_lt (slice_index_or us i 0) n ≡ true)
    → ((i : ℕ) → at ≤ i → i < length us → nat_lt (slice_index_or us i 0) n ≡ false) → slice_get us at ≡ first_from n us
first_at n zero [] below above = refl
first_at n (suc at) [] below above = refl
first_at n zero (m ∷ ms) below above = rw (above 0 (omega arith) (omega arith)) refl
first_at n (suc at) (m ∷ ms) below above =
    rw (below 0 (omega arith) (omega arith))
    (first_at n at ms (λ i h w. below (suc i) (omega arith) (omega arith)) (λ i h w. above (suc i) (omega arith) (omega arith)))

-- past a number below n the first stands among the others, and another number is the first itself
past : (n k : ℕ) (us : List ℕ) → (nat_lt k n ≡ true) ⊎ (nat_lt k n ≡ false)
    → ((k < n) × (first_from n (k ∷ us) ≡ first_from n us)) ⊎ ((n ≤ k) × (first_from n (k ∷ us) ≡ Some k))
past n k us (inl t) = inl (ltb-true k n t, rw t refl)
past n k us (inr t) = inr (ltb-false k n t, rw t refl)

-- a number is there, from n on, and no other that is there is between
pub record IsFirst (n m : ℕ) (us : List ℕ) : Type 0 where
  pub is : IsIn m us
  pub least : n ≤ m
  pub before : (j : ℕ) → IsIn j us → n ≤ j → m ≤ j

-- such is the first from n on, where numbers rise
pub first_is : (a n m : ℕ) (us : List ℕ) → RiseFrom a us → first_from n us ≡ Some m → IsFirst n m us
first_is a n m [] r h = absurd (cc h)
first_is a n m (k ∷ us) r h = ⊎_elim
    (λ (t : (k < n) × (first_from n (k ∷ us) ≡ first_from n us)).
    let later = first_is k n m us r.1 (sym t.1 ∙ h) in record {
      is = inr later.is;
      least = later.least;
      before = λ j i low. ⊎_elim (λ (e : k ≡ j). absurd (omega (arith, t.0, e, low))) (λ (s : IsIn j us). later.before j s low) i;
    })
    (λ (t : (n ≤ k) × (first_from n (k ∷ us) ≡ Some k)).
    let both : Some k ≡ Some m = sym t.1 ∙ h in let same : k ≡ m = cc both in record {
      is = inl same;
      least = omega (arith, t.0);
      before = λ j i low. ⊎_elim (λ (e : k ≡ j). omega (arith, same, e)) (λ (s : IsIn j us). omega (arith, least_in k j us r.1 s, same)) i;
    })
    (past n k us (cases_Bool (nat_lt k n)))

-- where there is no first, all that are there are below n
pub none_from : (n j : ℕ) (us : List ℕ) → first_from n us ≡ None → IsIn j us → j < n
none_from n j [] h i = elim i [ ]
none_from n j (k ∷ us) h i = ⊎_elim
    (λ (t : (k < n) × (first_from n (k ∷ us) ≡ first_from n us)).
    ⊎_elim (λ (e : k ≡ j). omega (arith, t.0, e)) (λ (s : IsIn j us). none_from n j us (sym t.1 ∙ h) s) i)
    (λ (t : (n ≤ k) × (first_from n (k ∷ us) ≡ Some k)). let both : Some k ≡ None = sym t.1 ∙ h in absurd (cc both))
    (past n k us (cases_Bool (nat_lt k n)))

module _ (l : Listing) (x n k size : ℕ) (us : List ℕ) (are : AreUsers l x (length l.nodes) us) (from : n ≤ k) (fits : k + size ≤ length l.nodes) where
  -- up to the first user from n on, a name is used from k on exactly where that user is within
  pub used_first : (m : ℕ) → first_from n us ≡ Some m → k ≤ m → list_any (uses_at l x) (range_with_len k size) ≡ nat_lt m (k + size)
  used_first m h low =
      let first = first_is 0 n m us are.rise h in
      ⊎_elim
      (λ (t : m < k + size). any_here (uses_at l x) k size m low t (all_there (λ j. uses_at l x j ≡ true) us m are.uses first.is) ∙ sym (lt-ltb m (k + size) t))
      (λ (t : k + size ≤ m).
      any_none (uses_at l x) k size (λ j a b. ⊎_elim
      (λ (u : uses_at l x j ≡ true). absurd (omega (arith, first.before j (are.all j (omega arith) u) (omega arith))))
      (λ (u : uses_at l x j ≡ false). u)
      (cases_Bool (uses_at l x j))) ∙ sym (le-ltb m (k + size) t))
      (cases_lt m (k + size))

  -- where there is none, it is used nowhere from k on
  pub used_none : first_from n us ≡ None → list_any (uses_at l x) (range_with_len k size) ≡ false
  used_none h = any_none (uses_at l x) k size (λ j a b. ⊎_elim
      (λ (u : uses_at l x j ≡ true). absurd (omega (arith, none_from n j us h (are.all j (omega arith) u))))
      (λ (u : uses_at l x j ≡ false). u)
      (cases_Bool (uses_at l x j)))

-- users are parted by a test against a number
pub users_parted : (us : List ℕ) (n : ℕ) → RiseFrom 0 us → (i j d : ℕ) → i ≤ j → j < length us → nat_lt (slice_index_or us j d) n ≡ true
    → nat_lt (slice_index_or us i d) n ≡ true
users_parted us n r i j d low w h =
    let first = any_default us i d 0 (omega arith) in
    let second = any_default us j d 0 w in
    lt-ltb (slice_index_or us i d) n (omega (arith, rising_at 0 us i j r low w, ltb-true (slice_index_or us j d) n h, first, second))
