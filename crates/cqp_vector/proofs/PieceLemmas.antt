-- The pieces of a projected group keep what each `Factor` keeps.
use Rattle.std.proofs.Common.{◌≡◌, ◌≢◌, ℕ, zero, suc, ◌+◌, ◌*◌, ◌^◌, ◌<◌, ◌≤◌, List, [], ◌∷◌, ◌++◌, length, map}
use Rattle.std.proofs.Common.{refl, sym, ap, ◌∙◌, arith, subst, true, false, inl, inr, ◌⊎◌}
use Rattle.std.specs.Prelude.{◌==◌, ◌&&◌, if◌then◌else◌, Bool, filter, cond, slice_index, pos}
use Rattle.std.specs.List.{range_with_len, list_all}
use Rattle.std.proofs.lemmas.Int.{ints}
use Rattle.std.proofs.lemmas.Bool.{cases_lt, and_parts, ne_eqb, ltb-true}
use Rattle.std.proofs.lemmas.List.{length-map}
use Rattle.std.proofs.lemmas.Nat.{pow_pos}
use Rattle.cqp_ring.specs.declared.amp.Amp.{Amp}
use Rattle.cqp_ring.specs.declared.root.Root.{Root}
use Rattle.cqp_ring.specs.Amp.{zero_amp, one_amp}
use Rattle.cqp_ring.specs.Parity.{is_root2_times}
use Rattle.cqp_ring.specs.Root.{norm_of, norm_sum, root_sum, zero_root}
use Rattle.cqp_vector.specs.State.{amp_at}
use Rattle.cqp_vector.specs.Measurement.{outcome_at}
use Rattle.cqp_vector.specs.Group.{Group, IsGroup, IsWithin}
use Rattle.cqp_vector.specs.Least.{IsLeastOver}
use Rattle.cqp_vector.specs.Pieces.{single, singles, pieces_of, agreeing, rest_of}
use Rattle.cqp_vector.specs.Pieces.{IsProjectedOn, IsScalar}
use Rattle.cqp_syntax.specs.Lists.{are_below}
use Rattle.cqp_vector.specs.Places.{ArePlaces}
use Rattle.cqp_vector.proofs.ChangeLemmas.{choose_same, choose_other}
use Rattle.cqp_vector.proofs.OutcomeCounts.{outcome_count, outcome_range}
use Rattle.cqp_ring.proofs.OrderSums.{sum-zero, zero-sum}

-- ---- one qubit
-- the numerators of one qubit with x at its bit
unfoldable pub single_nums : (b : Bool) (x : Amp) → List Amp
single_nums b x = if b then zero_amp ∷ x ∷ [] else x ∷ zero_amp ∷ []

-- the norm of one qubit alone is that of its one numerator
single_norm : (b : Bool) (x : Amp) → norm_sum (single_nums b x) ≡ norm_of x
unfolding single_nums
single_norm true x = zero-sum (root_sum (norm_of x) zero_root) ∙ sum-zero (norm_of x)
single_norm false x = ap (root_sum (norm_of x)) (zero-sum zero_root) ∙ sum-zero (norm_of x)

-- one qubit alone has two numerators
single_length : (b : Bool) (x : Amp) → length (single_nums b x) ≡ 2
unfolding single_nums
single_length true x = refl
single_length false x = refl

-- root 2 divides its numerators where it divides that one
single_least : (b : Bool) (x : Amp) → list_all is_root2_times (single_nums b x) ≡ is_root2_times x
unfolding single_nums
single_least true x = and_true (is_root2_times x)
  where
    and_true : (t : Bool) → (t && true) ≡ t
    and_true true = refl
    and_true false = refl
single_least false x = and_true (is_root2_times x)
  where
    and_true : (t : Bool) → (t && true) ≡ t
    and_true true = refl
    and_true false = refl

-- one qubit with a scalar keeps what each factor keeps
pub single_group : (q b : ℕ) (x : Amp) (h : ℕ) → IsScalar x h → IsGroup (single q b x h)
unfolding single_nums
single_group q b x h s = record {
  some = omega arith;
  few = omega arith;
  distinct = refl;
  whole = single_length (b == 1) x;
  limit = s.limit;
  least = by_least s.least;
  nonzero = subst (λ t. t ≢ zero_root) (sym (single_norm (b == 1) x)) s.nonzero;
  bound = subst (λ t. IsWithin t h) (sym (single_norm (b == 1) x)) s.bound;
}
  where
    by_least : (h ≡ 0) ⊎ (is_root2_times x ≡ false) → IsLeastOver (single q b x h).nums h
    by_least (inl e) = inl e
    by_least (inr e) = inr (single_least (b == 1) x ∙ e)

-- 1 over 1 is a scalar
pub one_scalar : IsScalar one_amp 0
one_scalar = record {
  limit = omega arith;
  least = inl refl;
  nonzero = λ e. let f : pos 1 ≡ pos 0 = ap (λ (t : Root). t.p) e in cc;
  bound = record {
    at_least = inl (omega (arith, ints), omega (arith, ints));
    at_most = inl (omega (arith, ints), omega (arith, ints));
    other_at_least = inl (omega (arith, ints), omega (arith, ints));
    other_at_most = inl (omega (arith, ints), omega (arith, ints));
  };
}

-- ---- the numerators that agree
-- a place that is kept adds its norm, one that isn't adds that of 0
kept_norm_one : (b : Bool) (k : ℕ) (f : ℕ → Amp) (xs : List ℕ)
    → norm_sum (map f (cond b (k ∷ xs) xs)) ≡ root_sum (norm_of (if b then f k else zero_amp)) (norm_sum (map f xs))
kept_norm_one true k f xs = refl
kept_norm_one false k f xs = sym (zero-sum (norm_sum (map f xs)))

-- the norm of the places that pass is that of the list with 0 at the others
kept_norms : (p : ℕ → Bool) (f : ℕ → Amp) (n a : ℕ)
    → norm_sum (map f (filter p (range_with_len a n))) ≡ norm_sum (map (λ k. if p k then f k else zero_amp) (range_with_len a n))
kept_norms p f zero a = refl
kept_norms p f (suc n) a = kept_norm_one (p a) a f (filter p (range_with_len (a + 1) n))
    ∙ ap (root_sum (norm_of (if p a then f a else zero_amp))) (kept_norms p f n (a + 1))

-- a test that 0 passes holds of one more place where it does or where the place is left out
kept_all_one : (t : Amp → Bool) → t zero_amp ≡ true → (b : Bool) (k : ℕ) (f : ℕ → Amp) (xs : List ℕ)
    → list_all t (map f (cond b (k ∷ xs) xs)) ≡ (t (if b then f k else zero_amp) && list_all t (map f xs))
kept_all_one t e true k f xs = refl
kept_all_one t e false k f xs = sym (ap (λ u. u && list_all t (map f xs)) e)

-- a test that 0 passes holds of the places that pass exactly where it does of the list with 0s
pub kept_all : (t : Amp → Bool) → t zero_amp ≡ true → (p : ℕ → Bool) (f : ℕ → Amp) (n a : ℕ)
    → list_all t (map f (filter p (range_with_len a n))) ≡ list_all t (map (λ k. if p k then f k else zero_amp) (range_with_len a n))
kept_all t e p f zero a = refl
kept_all t e p f (suc n) a = kept_all_one t e (p a) a f (filter p (range_with_len (a + 1) n))
    ∙ ap (λ u. t (if p a then f a else zero_amp) && u) (kept_all t e p f n (a + 1))

-- the agreeing numerators of a projected group have its norm
pub agreeing_norm : (ps : List ℕ) (m : ℕ) (g : Group) → IsProjectedOn ps m g → norm_sum (agreeing ps m g) ≡ norm_sum g.nums
agreeing_norm ps m g e =
    kept_norms (λ k. outcome_at (length g.qubits) ps k == m) (amp_at g.nums) (2 ^ length g.qubits) 0 ∙ ap (λ (t : Group). norm_sum t.nums) e

-- a test that 0 passes holds of them exactly where it does of the group's
pub agreeing_all : (t : Amp → Bool) → t zero_amp ≡ true → (ps : List ℕ) (m : ℕ) (g : Group) → IsProjectedOn ps m g
    → list_all t (agreeing ps m g) ≡ list_all t g.nums
agreeing_all t z ps m g e =
    kept_all t z (λ k. outcome_at (length g.qubits) ps k == m) (amp_at g.nums) (2 ^ length g.qubits) 0 ∙ ap (λ (u : Group). list_all t u.nums) e

-- where no place passes, none is kept
none_pass : (f : ℕ → Bool) (n a : ℕ) → ((k : ℕ) → f k ≡ false) → filter f (range_with_len a n) ≡ []
none_pass f zero a e = refl
none_pass f (suc n) a e = ap (λ b. cond b (a ∷ filter f (range_with_len (a + 1) n)) (filter f (range_with_len (a + 1) n))) (e a) ∙ none_pass f n (a + 1) e

-- the outcome is one of those that there are
pub outcome_below : (ps : List ℕ) (m : ℕ) (g : Group) → IsGroup g → IsProjectedOn ps m g → m < 2 ^ length ps
outcome_below ps m g i e = by_cases (cases_lt m (2 ^ length ps))
  where
    other : 2 ^ length ps ≤ m → (k : ℕ) → (outcome_at (length g.qubits) ps k == m) ≡ false
    other more k = ne_eqb (outcome_at (length g.qubits) ps k) m (λ f. let h = (outcome_range (length g.qubits) ps 0 k).1 in absurd (omega arith))

    by_cases : (m < 2 ^ length ps) ⊎ (2 ^ length ps ≤ m) → m < 2 ^ length ps
    by_cases (inl less) = less
    by_cases (inr more) =
        absurd (i.nonzero (sym (agreeing_norm ps m g e)
        ∙ ap (λ xs. norm_sum (map (amp_at g.nums) xs)) (none_pass (λ k. outcome_at (length g.qubits) ps k == m) (2 ^ length g.qubits) 0 (other more))))

-- there are 2^n over 2^r agreeing places for r of n qubits
pub agreeing_count : (ps : List ℕ) (m : ℕ) (g : Group) → IsGroup g → ArePlaces (length g.qubits) ps → IsProjectedOn ps m g
    → length (agreeing ps m g) * 2 ^ length ps ≡ 2 ^ length g.qubits
agreeing_count ps m g i p e =
    let below = outcome_below ps m g i e in
    ap (λ t. t * 2 ^ length ps) (length-map (filter (λ k. outcome_at (length g.qubits) ps k == m) (range_with_len 0 (2 ^ length g.qubits))) (amp_at g.nums))
    ∙ outcome_count (length g.qubits) ps 0 m p.below p.distinct (omega arith) (omega arith)

-- ---- where all qubits are measured
-- a list of one numerator is that numerator
pub only_one : (xs : List Amp) → length xs ≡ 1 → xs ≡ amp_at xs 0 ∷ []
only_one [] e = absurd (omega arith)
only_one (x ∷ []) e = refl
only_one (x ∷ y ∷ xs) e = absurd (omega arith)

-- a test and one that passes is the test
pub and_true : (t : Bool) → (t && true) ≡ t
and_true true = refl
and_true false = refl

-- where all qubits are measured, the first agreeing numerator is a scalar
pub scalar_of : (ps : List ℕ) (m : ℕ) (g : Group) → IsGroup g → ArePlaces (length g.qubits) ps → IsProjectedOn ps m g → length ps ≡ length g.qubits
    → IsScalar (amp_at (agreeing ps m g) 0) g.h
scalar_of ps m g i p e all =
    let count = agreeing_count ps m g i p e in
    let one : length (agreeing ps m g) ≡ 1 = one_from (length (agreeing ps m g)) (2 ^ length g.qubits) (pow_pos (length g.qubits))
    (ap (λ r. length (agreeing ps m g) * 2 ^ r) (sym all) ∙ count) in
    let alone = only_one (agreeing ps m g) one in
    let norm : norm_of (amp_at (agreeing ps m g) 0) ≡ norm_sum g.nums = sym (sum-zero (norm_of (amp_at (agreeing ps m g) 0)))
    ∙ ap norm_sum (sym alone) ∙ agreeing_norm ps m g e in
    let divides : is_root2_times (amp_at (agreeing ps m g) 0) ≡ list_all is_root2_times g.nums =
    sym (and_true (is_root2_times (amp_at (agreeing ps m g) 0))) ∙ ap (list_all is_root2_times) (sym alone) ∙ agreeing_all is_root2_times refl ps m g e in
    record {
      limit = i.limit;
      least = by_least divides i.least;
      nonzero = subst (λ t. t ≢ zero_root) (sym norm) i.nonzero;
      bound = subst (λ t. IsWithin t g.h) (sym norm) i.bound;
    }
  where
    one_from : (x y : ℕ) → 0 < y → x * y ≡ y → x ≡ 1
    one_from zero y some f = absurd (omega arith)
    one_from (suc zero) y some f = refl
    one_from (suc (suc x)) y some f = absurd (omega arith)

    by_least : is_root2_times (amp_at (agreeing ps m g) 0) ≡ list_all is_root2_times g.nums → (g.h ≡ 0) ⊎ (list_all is_root2_times g.nums ≡ false)
        → (g.h ≡ 0) ⊎ (is_root2_times (amp_at (agreeing ps m g) 0) ≡ false)
    by_least d (inl f) = inl f
    by_least d (inr f) = inr (d ∙ f)

-- ---- the measured places
-- each measured place is below the number of qubits
pub place_below : (n : ℕ) (ps : List ℕ) (i : ℕ) → are_below n ps ≡ true → i < length ps → slice_index ps i < n
place_below n [] i b h = absurd (omega arith)
place_below n (p ∷ ps) zero b h = ltb-true p n (and_parts _ _ b).0
place_below n (p ∷ ps) (suc i) b h = place_below n ps i (and_parts _ _ b).1 (omega arith)

-- ---- what the code makes
-- a group made of one qubit and its numerators keeps what each factor keeps
pub single_made : (q b : ℕ) (x : Amp) (h : ℕ) (qs : List ℕ) (nums : List Amp) → IsScalar x h → qs ≡ q ∷ []
    → nums ≡ (if b == 1 then zero_amp ∷ x ∷ [] else x ∷ zero_amp ∷ []) → IsGroup (record { qubits = qs; nums = nums; h = h })
single_made q b x h qs nums s e f =
    subst (λ t. IsGroup (record { qubits = t; nums = nums; h = h })) (sym e)
    (subst (λ t. IsGroup (record { qubits = q ∷ []; nums = t; h = h })) (sym f) (single_group q b x h s))

-- some place agrees with the outcome
pub some_agree : (ps : List ℕ) (m : ℕ) (g : Group) → IsGroup g → ArePlaces (length g.qubits) ps → IsProjectedOn ps m g → 0 < length (agreeing ps m g)
some_agree ps m g i p e = positive (length (agreeing ps m g)) (2 ^ length ps) (2 ^ length g.qubits) (pow_pos (length g.qubits)) (agreeing_count ps m g i p e)
  where
    positive : (x y z : ℕ) → 0 < z → x * y ≡ z → 0 < x
    positive zero y z some f = absurd (omega arith)
    positive (suc x) y z some f = omega arith

-- where all are measured, the pieces are the singles with the scalar
pub pieces_whole : (ps : List ℕ) (m : ℕ) (g : Group) → length ps ≡ length g.qubits → singles ps m g.qubits (amp_at (agreeing ps m g) 0) g.h ≡ pieces_of ps m g
pieces_whole ps m g e = sym (choose_same (length ps) (length g.qubits) _ _ e)

-- where some aren't, they are the singles with 1 and then the rest
pub pieces_apart : (ps : List ℕ) (m : ℕ) (g : Group) → length ps ≢ length g.qubits → singles ps m g.qubits one_amp 0 ++ rest_of ps m g ∷ [] ≡ pieces_of ps m g
pieces_apart ps m g e = sym (choose_other (length ps) (length g.qubits) _ _ e)

-- a group made of the rest's parts is the rest
pub rest_made : (ps : List ℕ) (m : ℕ) (g : Group) (qs : List ℕ) (nums : List Amp) → qs ≡ (rest_of ps m g).qubits → nums ≡ agreeing ps m g
    → let x : Group = record { qubits = qs; nums = nums; h = g.h } in x ≡ rest_of ps m g
rest_made ps m g qs nums e f =
    ap (λ (t : List ℕ). let x : Group = record { qubits = t; nums = nums; h = g.h } in x) e
    ∙ ap (λ (t : List Amp). let x : Group = record { qubits = (rest_of ps m g).qubits; nums = t; h = g.h } in x) f
