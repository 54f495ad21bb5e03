-- Norms that are added up outcome by outcome.
use Rattle.std.proofs.Common.{◌≡◌, ◌≢◌, ℕ, zero, suc, ◌+◌, ◌^◌, ◌<◌, ◌≤◌, List, [], ◌∷◌, ◌++◌, length, map, take}
use Rattle.std.proofs.Common.{refl, sym, ap, ◌∙◌, arith, subst, true, false, inl, inr, ◌⊎◌, set}
use Rattle.std.proofs.Common.{get_or-set_other, get_or-set_same}
use Rattle.std.specs.Prelude.{◌==◌, not, if◌then◌else◌, Bool, ℤ, pos, negsuc, ◌≤ℤ◌, filter, replicate, cond}
use Rattle.std.specs.List.{range_with_len, list_all}
use Rattle.std.proofs.lemmas.Bool.{cases_eq, cases_Bool, and_parts, eq-eqb, ne_eqb, true≢false}
use Rattle.std.proofs.Common.{zero-add}
use Rattle.std.proofs.lemmas.List.{append-nil, map-append, take_more}
use Rattle.std.proofs.lemmas.List.Elements.{filter-append}
use Rattle.std.proofs.lemmas.List.FromFn.{map-range_with_len_more}
use Rattle.cqp_ring.specs.declared.amp.Amp.{Amp}
use Rattle.cqp_ring.specs.declared.root.Root.{Root}
use Rattle.cqp_ring.specs.Amp.{zero_amp}
use Rattle.cqp_ring.specs.Root.{RootFits, norm_of, norm_sum, root_at, root_sum, zero_root}
use Rattle.cqp_vector.specs.declared.odds.Odd.{Odd}
use Rattle.cqp_vector.specs.State.{State, amp_at, norm_of_state}
use Rattle.cqp_vector.specs.Measurement.{is_zero_amp, is_zero_int, is_outcome, projected, likelihood_of}
use Rattle.cqp_vector.specs.Odds.{is_zero_root, odd_of, odds_of, odds_in}
use Rattle.cqp_vector.proofs.Bounds.{squares_of, all_squares}
use Rattle.cqp_vector.proofs.Filters.{range_more}
use Rattle.cqp_vector.proofs.Masks.{masked, none_by_norm}
use Rattle.cqp_ring.proofs.Integers.{same_root}
use Rattle.cqp_ring.proofs.OrderSums.{sum-zero, zero-sum}
use Rattle.cqp_vector.proofs.SumBounds.{fits_by_squares, squares_within, norm_sum_push, take_squares}

-- ---- one numerator more
-- one more place adds its numerator, or 0
pub masked_more : (p : ℕ → Bool) (nums : List Amp) (k : ℕ)
    → norm_sum (map (masked p nums) (range_with_len 0 (k + 1))) ≡ root_sum (norm_sum (map (masked p nums) (range_with_len 0 k))) (norm_of (masked p nums k))
masked_more p nums k =
    ap norm_sum (map-range_with_len_more (masked p nums) 0 k k (omega arith))
    ∙ norm_sum_push (map (masked p nums) (range_with_len 0 k)) (masked p nums k)

-- the squares of one more numerator add to the sum
squares_push : (xs : List Amp) (x : Amp) → all_squares (xs ++ x ∷ []) ≡ all_squares xs + squares_of x
unfolding all_squares
squares_push [] x = omega arith
squares_push (y ∷ ys) x = let h = squares_push ys x in omega (arith, h)

-- 0 put for a numerator raises no square
one_masked : (b : Bool) (x : Amp) → squares_of (if b then x else zero_amp) ≤ squares_of x
one_masked true x = omega arith
one_masked false x = omega arith

-- 0 put where a test fails raises no sum of squares
masked_squares : (p : ℕ → Bool) (nums : List Amp) (k : ℕ) → k ≤ length nums → all_squares (map (masked p nums) (range_with_len 0 k)) ≤ all_squares (take k nums)
unfolding all_squares
masked_squares p nums zero h = omega arith
masked_squares p nums (suc k) h =
    let e : suc k ≡ k + 1 = omega arith in
    let less : k < length nums = omega arith in
    let f = ap all_squares (map-range_with_len_more (masked p nums) 0 k k (omega arith))
    ∙ squares_push (map (masked p nums) (range_with_len 0 k)) (masked p nums k) in
    let g = ap all_squares (take_more nums k zero_amp less) ∙ squares_push (take k nums) (amp_at nums k) in
    let i = masked_squares p nums k (omega arith) in
    let j = one_masked (p k) (amp_at nums k) in
    subst (λ n. all_squares (map (masked p nums) (range_with_len 0 n)) ≤ all_squares (take n nums)) (sym e) (omega (arith, f, g, i, j))

-- so its norm fits in 128 bits
pub masked_fits : (p : ℕ → Bool) (nums : List Amp) (k : ℕ) → k ≤ length nums → (norm_sum nums).p ≤ℤ pos (2 ^ 90)
    → RootFits (norm_sum (map (masked p nums) (range_with_len 0 k)))
masked_fits p nums k h bound =
    let most = squares_within nums bound in
    let part = take_squares k nums in
    let few = masked_squares p nums k h in
    fits_by_squares (map (masked p nums) (range_with_len 0 k)) (omega arith)

-- the norm at the outcome of place k
masked_here : (o : ℕ → ℕ) (nums : List Amp) (k : ℕ) → norm_of (masked (λ j. o j == o k) nums k) ≡ norm_of (amp_at nums k)
masked_here o nums k = ap (λ b. norm_of (if b then amp_at nums k else zero_amp)) (eq-eqb (o k) (o k) refl)

-- a place with another outcome adds 0
masked_there : (o : ℕ → ℕ) (nums : List Amp) (k m : ℕ) → o k ≢ m → norm_of (masked (λ j. o j == m) nums k) ≡ zero_root
masked_there o nums k m n = ap (λ b. norm_of (if b then amp_at nums k else zero_amp)) (ne_eqb (o k) m n)

-- a place adds its norm to its own outcome's
pub here_more : (o : ℕ → ℕ) (nums : List Amp) (k : ℕ)
    → root_sum (norm_sum (map (masked (λ j. o j == o k) nums) (range_with_len 0 k))) (norm_of (amp_at nums k))
    ≡ norm_sum (map (masked (λ j. o j == o k) nums) (range_with_len 0 (k + 1)))
here_more o nums k =
    sym (masked_more (λ j. o j == o k) nums k ∙ ap (root_sum (norm_sum (map (masked (λ j. o j == o k) nums) (range_with_len 0 k)))) (masked_here o nums k))

-- and changes no other's
there_more : (o : ℕ → ℕ) (nums : List Amp) (k m : ℕ) → o k ≢ m
    → norm_sum (map (masked (λ j. o j == m) nums) (range_with_len 0 k)) ≡ norm_sum (map (masked (λ j. o j == m) nums) (range_with_len 0 (k + 1)))
there_more o nums k m n =
    sym (masked_more (λ j. o j == m) nums k
    ∙ ap (root_sum (norm_sum (map (masked (λ j. o j == m) nums) (range_with_len 0 k)))) (masked_there o nums k m n)
    ∙ sum-zero (norm_sum (map (masked (λ j. o j == m) nums) (range_with_len 0 k))))

-- what the table has at m, where it has the norms of the numerators before k
abbrev pub HasNorms : (ℕ → ℕ) → List Amp → ℕ → ℕ → List Root → Type 0
HasNorms o nums n k table = (m : ℕ) → m < n → root_at table m ≡ norm_sum (map (masked (λ j. o j == m) nums) (range_with_len 0 k))

-- so the table of norms goes on with the place's norm added at its outcome
pub norms_more : (o : ℕ → ℕ) (nums : List Amp) (n k at : ℕ) (norm : Root) (table new : List Root) → HasNorms o nums n k table → length table ≡ n
    → at ≡ o k → at < n → norm ≡ norm_of (amp_at nums k)
    → new ≡ set table at (root_sum (root_at table at) norm) → HasNorms o nums n (k + 1) new
norms_more o nums n k at norm table new has size e inside f g m less = by_cases (cases_eq m at)
  where
    value : root_sum (root_at table at) norm ≡ norm_sum (map (masked (λ j. o j == at) nums) (range_with_len 0 (k + 1)))
    value =
        ap (root_sum (root_at table at)) f ∙ ap (λ t. root_sum t (norm_of (amp_at nums k))) (has at inside)
        ∙ subst (λ t. root_sum (norm_sum (map (masked (λ j. o j == t) nums) (range_with_len 0 k))) (norm_of (amp_at nums k))
        ≡ norm_sum (map (masked (λ j. o j == t) nums) (range_with_len 0 (k + 1))))
        (sym e) (here_more o nums k)

    by_cases : (m ≡ at) ⊎ (m ≡ at → ⊥) → root_at new m ≡ norm_sum (map (masked (λ j. o j == m) nums) (range_with_len 0 (k + 1)))
    by_cases (inl i) =
        let room : at < length table = omega arith in
        subst (λ t. root_at new t ≡ norm_sum (map (masked (λ j. o j == t) nums) (range_with_len 0 (k + 1)))) (sym i)
        (ap (λ t. root_at t at) g ∙ get_or-set_same table at _ zero_root room ∙ value)
    by_cases (inr i) =
        ap (λ t. root_at t m) g ∙ get_or-set_other table at m _ zero_root i ∙ has m less ∙ there_more o nums k m (λ j. i (sym (e ∙ j)))

-- and the new norm fits in 128 bits
pub norm_fits : (o : ℕ → ℕ) (nums : List Amp) (n k at : ℕ) (norm : Root) (table : List Root) → HasNorms o nums n k table → at ≡ o k → at < n
    → norm ≡ norm_of (amp_at nums k)
    → k < length nums → (norm_sum nums).p ≤ℤ pos (2 ^ 90) → RootFits (root_sum (root_at table at) norm)
norm_fits o nums n k at norm table has e inside f less bound =
    subst RootFits (sym (
    ap (root_sum (root_at table at)) f ∙ ap (λ t. root_sum t (norm_of (amp_at nums k))) (has at inside)
    ∙ subst (λ t. root_sum (norm_sum (map (masked (λ j. o j == t) nums) (range_with_len 0 k))) (norm_of (amp_at nums k))
    ≡ norm_sum (map (masked (λ j. o j == t) nums) (range_with_len 0 (k + 1))))
    (sym e) (here_more o nums k)))
    (masked_fits (λ j. o j == at) nums (k + 1) (omega arith) bound)

-- ---- the outcomes in a table
-- the last norm is told where it isn't 0
last_odd : (b : Bool) (m : ℕ) (r : Root) (table : List Root) (xs : List Odd)
    → xs ++ map (λ i. let o : Odd = record { outcome = i; norm = root_at table i } in o) (cond (not b) (m ∷ []) [])
    ≡ (if b then xs else xs ++ (record { outcome = m; norm = root_at table m } ∷ []))
last_odd true m r table xs = append-nil xs
last_odd false m r table xs = refl

-- so of one more row of the table
pub odds_more : (table : List Root) (m : ℕ) → odds_in table (m + 1) ≡
    (if is_zero_root (root_at table m) then odds_in table m else odds_in table m ++ (record { outcome = m; norm = root_at table m } ∷ []))
odds_more table m =
    let next : m + 1 ≡ suc m = omega arith in
    ap (odds_in table) next
    ∙ ap (λ t. map (λ i. let o : Odd = record { outcome = i; norm = root_at table i } in o) (filter (λ i. not (is_zero_root (root_at table i))) t))
    (range_more 0 m ∙ ap (λ t. range_with_len 0 m ++ t ∷ []) (zero-add m))
    ∙ ap (map (λ i. let o : Odd = record { outcome = i; norm = root_at table i } in o))
    (filter-append (λ i. not (is_zero_root (root_at table i))) (range_with_len 0 m) (m ∷ []))
    ∙ map-append (λ i. let o : Odd = record { outcome = i; norm = root_at table i } in
    o) (filter (λ i. not (is_zero_root (root_at table i))) (range_with_len 0 m)) (filter (λ i. not (is_zero_root (root_at table i))) (m ∷ []))
    ∙ last_odd (is_zero_root (root_at table m)) m zero_root table (odds_in table m)

-- ---- which outcomes there are
-- a number that passes the test of 0 is 0
int_none : (z : ℤ) → is_zero_int z ≡ true → z ≡ pos 0
int_none (pos zero) e = refl
int_none (pos (suc n)) e = cc
int_none (negsuc n) e = cc

-- a norm that passes the test of 0 is 0
pub root_none : (r : Root) → is_zero_root r ≡ true → r ≡ zero_root
root_none r e = let t = and_parts _ _ e in same_root (int_none r.p t.0) (int_none r.q t.1)

-- a numerator that passes it has norm 0
amp_none : (x : Amp) → is_zero_amp x ≡ true → norm_of x ≡ zero_root
amp_none x e =
    let t = and_parts _ _ e in
    let u = and_parts _ _ t.0 in
    let v = and_parts _ _ u.0 in
    rw (int_none x.a v.0, int_none x.b v.1, int_none x.c u.1, int_none x.d t.1) refl

-- so do numerators that all pass it
amps_none : (xs : List Amp) → list_all is_zero_amp xs ≡ true → norm_sum xs ≡ zero_root
amps_none [] e = refl
amps_none (x ∷ xs) e =
    let t = and_parts _ _ e in
    ap (λ u. root_sum u (norm_sum xs)) (amp_none x t.0) ∙ zero-sum (norm_sum xs) ∙ amps_none xs t.1

-- all numerators are 0 where the norm is
pub none_test : (xs : List Amp) → list_all is_zero_amp xs ≡ is_zero_root (norm_sum xs)
none_test xs = by_cases (cases_Bool (list_all is_zero_amp xs)) (cases_Bool (is_zero_root (norm_sum xs)))
  where
    by_cases : (list_all is_zero_amp xs ≡ true) ⊎ (list_all is_zero_amp xs ≡ false) → (is_zero_root (norm_sum xs) ≡ true) ⊎ (is_zero_root (norm_sum xs) ≡ false)
        → list_all is_zero_amp xs ≡ is_zero_root (norm_sum xs)
    by_cases (inl e) (inl f) = e ∙ sym f
    by_cases (inl e) (inr f) = absurd (true≢false (sym (ap is_zero_root (amps_none xs e)) ∙ f))
    by_cases (inr e) (inl f) = absurd (true≢false (sym (none_by_norm xs (root_none (norm_sum xs) f)) ∙ e))
    by_cases (inr e) (inr f) = e ∙ sym f

-- two ways to test and to make outcomes, alike below n
one_odd : (u v : ℕ → Odd) (a : ℕ) (b c : Bool) (p q : List ℕ) → b ≡ c → u a ≡ v a → map u p ≡ map v q → map u (cond b (a ∷ p) p) ≡ map v (cond c (a ∷ q) q)
one_odd u v a true true p q e h i = ap (λ t. t ∷ map u p) h ∙ ap (λ t. v a ∷ t) i
one_odd u v a true false p q e h i = absurd (true≢false e)
one_odd u v a false true p q e h i = absurd (true≢false (sym e))
one_odd u v a false false p q e h i = i

-- equal tests and values below n make equal lists
same_odds : (f g : ℕ → Bool) (u v : ℕ → Odd) (n a : ℕ) → ((m : ℕ) → m < a + n → f m ≡ g m) → ((m : ℕ) → m < a + n → u m ≡ v m)
    → map u (filter f (range_with_len a n)) ≡ map v (filter g (range_with_len a n))
same_odds f g u v zero a s t = refl
same_odds f g u v (suc n) a s t =
    one_odd u v a (f a) (g a) (filter f (range_with_len (a + 1) n)) (filter g (range_with_len (a + 1) n)) (s a (omega arith)) (t a (omega arith))
    (same_odds f g u v n (a + 1) (λ m h. s m (omega arith)) (λ m h. t m (omega arith)))

-- two maps one after the other are one
pub fused : {A B C : Type 0} (f : B → C) (g : A → B) (xs : List A) → map f (map g xs) ≡ map (λ x. f (g x)) xs
fused f g [] = refl
fused f g (x ∷ xs) = ap (λ t. f (g x) ∷ t) (fused f g xs)

-- equal norms make equal odds
same_odd : (m : ℕ) (r s : Root) → r ≡ s → let x : Odd = record { outcome = m; norm = r } in let y : Odd = record { outcome = m; norm = s } in x ≡ y
same_odd m r s e = cc

-- the rows that aren't 0 of a table of the projections' norms are the odds
pub odds_are : (ps : List ℕ) (s : State) (table : List Root) → length table ≡ 2 ^ length ps
    → ((m : ℕ) → m < 2 ^ length ps → root_at table m ≡ norm_of_state (projected ps m s)) → odds_in table (length table) ≡ odds_of ps s
odds_are ps s table size has =
    ap (odds_in table) size
    ∙ same_odds (λ m. not (is_zero_root (root_at table m))) (is_outcome ps s) (λ m. record { outcome = m; norm = root_at table m })
    (λ m. odd_of (likelihood_of ps s m)) (2 ^ length ps) 0
    (λ m h. ap (λ r. not (is_zero_root r)) (has m (inside m h)) ∙ ap not (sym (none_test (projected ps m s).nums)))
    (λ m h. same_odd m (root_at table m) (norm_of_state (projected ps m s)) (has m (inside m h)))
    ∙ sym (fused odd_of (likelihood_of ps s) (filter (is_outcome ps s) (range_with_len 0 (2 ^ length ps))))
  where
    inside : (m : ℕ) → m < 0 + 2 ^ length ps → m < 2 ^ length ps
    inside m h = omega arith

-- ---- a table of zeros
-- a table that was just made has 0 at each place
pub blank_at : (n m : ℕ) → root_at (replicate n zero_root) m ≡ zero_root
blank_at zero m = refl
blank_at (suc n) zero = refl
blank_at (suc n) (suc m) = blank_at n m
