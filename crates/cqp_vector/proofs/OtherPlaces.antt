-- The places that aren't measured, and the rest of a group that is split.
use Rattle.std.proofs.Common.{◌≡◌, ◌≢◌, ℕ, zero, suc, ◌+◌, ◌*◌, ◌^◌, ◌<◌, ◌≤◌, List, [], ◌∷◌, length, map}
use Rattle.std.proofs.Common.{refl, sym, ap, ◌∙◌, arith, subst, true, false, inl, inr, ◌⊎◌, zero-add, add-zero, pow-add}
use Rattle.std.specs.Prelude.{◌==◌, ◌&&◌, ◌||◌, not, Bool, filter, cond, slice_index}
use Rattle.std.specs.List.{range_with_len, list_all}
use Rattle.std.proofs.lemmas.Bool.{cases_eq, and_parts, and_from, or_parts, or_from, not-true, not_from_false, eq-eqb, ne_eqb, ltb-true}
use Rattle.std.proofs.lemmas.List.{length-map}
use Rattle.std.proofs.lemmas.Nat.{pow_pos}
use Rattle.std.proofs.Math.Nat.{mul-div_cancel}
use Rattle.std.proofs.Common.{◌/◌}
use Rattle.cqp_ring.specs.Parity.{is_root2_times}
use Rattle.cqp_ring.specs.Root.{zero_root}
use Rattle.cqp_vector.specs.Group.{Group, IsGroup, IsWithin}
use Rattle.cqp_vector.specs.Least.{IsLeastOver}
use Rattle.cqp_vector.specs.Pieces.{agreeing, other_places, rest_of}
use Rattle.cqp_vector.specs.Pieces.{IsProjectedOn}
use Rattle.cqp_syntax.specs.Lists.{are_below, is_distinct, stands_in}
use Rattle.cqp_vector.specs.Places.{ArePlaces}
use Rattle.cqp_vector.proofs.Counting.{places_at_most}
use Rattle.cqp_vector.proofs.PieceLemmas.{agreeing_norm, agreeing_all, agreeing_count, and_true}
use Rattle.cqp_vector.proofs.OutcomeCounts.{same_tests, all_pass}

-- ---- the other places
-- one number less passes where one that passed is left out
remove_one : (f : ℕ → Bool) (x n a : ℕ) → a ≤ x → x < a + n → f x ≡ true
    → length (filter (λ y. f y && not (y == x)) (range_with_len a n)) + 1 ≡ length (filter f (range_with_len a n))
remove_one f x zero a low high e = absurd (omega arith)
remove_one f x (suc n) a low high e = by_cases (remove_one f x n (a + 1)) (cases_eq a x)
  where
    later : (k c : ℕ) → x < c → filter (λ y. f y && not (y == x)) (range_with_len c k) ≡ filter f (range_with_len c k)
    later zero c less = refl
    later (suc k) c less =
        let other : c ≢ x = λ g. absurd (omega arith) in
        let same : (f c && not (c == x)) ≡ f c = ap (λ t. f c && not t) (ne_eqb c x other) ∙ and_true (f c) in
        ap (λ b. cond b (c ∷ filter (λ y. f y && not (y == x)) (range_with_len (c + 1) k)) (filter (λ y. f y && not (y == x)) (range_with_len (c + 1) k))) same
        ∙ ap (λ t. cond (f c) (c ∷ t) t) (later k (c + 1) (omega arith))

    one_more : (b : Bool) (xs ys : List ℕ) → length xs + 1 ≡ length ys → length (cond b (a ∷ xs) xs) + 1 ≡ length (cond b (a ∷ ys) ys)
    one_more true xs ys g = omega arith
    one_more false xs ys g = g

    by_cases : (a + 1 ≤ x → x < a + 1 + n → f x ≡ true → length (filter (λ y. f y && not (y == x)) (range_with_len (a + 1) n)) + 1
        ≡ length (filter f (range_with_len (a + 1) n)))
        → (a ≡ x) ⊎ (a ≡ x → ⊥)
        → length (filter (λ y. f y && not (y == x)) (range_with_len a (suc n))) + 1 ≡ length (filter f (range_with_len a (suc n)))
    by_cases h (inl g) =
        let pass : f a ≡ true = ap f g ∙ e in
        let gone : (f a && not (a == x)) ≡ false = ap (λ t. t && not (a == x)) pass ∙ ap not (eq-eqb a x g) in
        ap (λ b. length (cond b (a ∷ filter (λ y. f y && not (y == x)) (range_with_len (a + 1) n))
        (filter (λ y. f y && not (y == x)) (range_with_len (a + 1) n))) + 1) gone
        ∙ ap (λ t. length t + 1) (later n (a + 1) (omega arith)) ∙ add_one_is (length (filter f (range_with_len (a + 1) n)))
        ∙ sym (ap (λ b. length (cond b (a ∷ filter f (range_with_len (a + 1) n)) (filter f (range_with_len (a + 1) n)))) pass)
      where
        add_one_is : (k : ℕ) → k + 1 ≡ suc k
        add_one_is k = omega arith
    by_cases h (inr g) =
        let same : (f a && not (a == x)) ≡ f a = ap (λ t. f a && not t) (ne_eqb a x g) ∙ and_true (f a) in
        ap (λ b. length (cond b (a ∷ filter (λ y. f y && not (y == x)) (range_with_len (a + 1) n))
        (filter (λ y. f y && not (y == x)) (range_with_len (a + 1) n))) + 1) same
        ∙ one_more (f a) _ _ (h (omega arith) (omega arith) e)

-- neither of two is not the first and not the second
not_or : (a b : Bool) → not (a || b) ≡ (not b && not a)
not_or true true = refl
not_or true false = refl
not_or false true = refl
not_or false false = refl

-- the places that aren't measured and those that are, are all
pub others_count : (n : ℕ) (ps : List ℕ) → are_below n ps ≡ true → is_distinct ps ≡ true → length (other_places n ps) + length ps ≡ n
others_count n [] b d = add-zero _ ∙ all_pass (λ p. not (stands_in [] p)) n 0 (λ k. refl)
others_count n (p ∷ ps) b d =
    let t = and_parts _ _ b in
    let u = and_parts _ _ d in
    let less : p < n = ltb-true p n t.0 in
    let h = others_count n ps t.1 u.1 in
    let one = remove_one (λ q. not (stands_in ps q)) p n 0 (omega arith) (omega arith) u.0 in
    let same : filter (λ q. not (stands_in (p ∷ ps) q)) (range_with_len 0 n) ≡ filter (λ q. not (stands_in ps q) && not (q == p)) (range_with_len 0 n) =
    same_tests (λ q. not (stands_in (p ∷ ps) q)) (λ q. not (stands_in ps q) && not (q == p)) (range_with_len 0 n) (λ q. not_or (q == p) (stands_in ps q)) in
    let size = ap length same in
    omega (arith, h, one, size)

-- ---- the qubits of the rest
-- the items of a list at the places that pass, counted from a
picked : (ℕ → Bool) → ℕ → List ℕ → List ℕ
picked p a [] = []
picked p a (q ∷ qs) = cond (p a) (q ∷ picked p (a + 1) qs) (picked p (a + 1) qs)

-- places that pass, read from a list, are the list's picked items
picked_is : (h : ℕ → ℕ) (p : ℕ → Bool) (qs : List ℕ) (a : ℕ) → ((k : ℕ) → h (a + k) ≡ slice_index qs k)
    → map h (filter p (range_with_len a (length qs))) ≡ picked p a qs
unfolding picked
picked_is h p [] a e = refl
picked_is h p (q ∷ qs) a e =
    one (p a) (filter p (range_with_len (a + 1) (length qs))) (ap h (sym (add-zero a)) ∙ e 0)
    ∙ ap (λ t. cond (p a) (q ∷ t) t) (picked_is h p qs (a + 1) (λ k. let f : a + 1 + k ≡ a + suc k = omega arith in ap h f ∙ e (suc k)))
  where
    one : (b : Bool) (xs : List ℕ) → h a ≡ q → map h (cond b (a ∷ xs) xs) ≡ cond b (q ∷ map h xs) (map h xs)
    one true xs f = ap (λ t. t ∷ map h xs) f
    one false xs f = refl

-- what stands in no list stands in no picked part of it
picked_absent : (p : ℕ → Bool) (x : ℕ) (qs : List ℕ) (a : ℕ) → stands_in qs x ≡ false → stands_in (picked p a qs) x ≡ false
unfolding picked
picked_absent p x [] a e = refl
picked_absent p x (q ∷ qs) a e = one (p a) (picked_absent p x qs (a + 1) (or_parts _ _ e).1)
  where
    one : (b : Bool) → stands_in (picked p (a + 1) qs) x ≡ false → stands_in (cond b (q ∷ picked p (a + 1) qs) (picked p (a + 1) qs)) x ≡ false
    one true f = or_from _ _ (or_parts _ _ e).0 f
    one false f = f

-- picked items of a distinct list are distinct
picked_distinct : (p : ℕ → Bool) (qs : List ℕ) (a : ℕ) → is_distinct qs ≡ true → is_distinct (picked p a qs) ≡ true
unfolding picked
picked_distinct p [] a e = refl
picked_distinct p (q ∷ qs) a e = one (p a) (picked_distinct p qs (a + 1) (and_parts _ _ e).1) (picked_absent p q qs (a + 1) (not-true _ (and_parts _ _ e).0))
  where
    one : (b : Bool) → is_distinct (picked p (a + 1) qs) ≡ true → stands_in (picked p (a + 1) qs) q ≡ false
        → is_distinct (cond b (q ∷ picked p (a + 1) qs) (picked p (a + 1) qs)) ≡ true
    one true f g = and_from _ _ (not_from_false _ g) f
    one false f g = f

-- the qubits that aren't measured are distinct
pub rest_distinct : (qs ps : List ℕ) → is_distinct qs ≡ true → is_distinct (map (slice_index qs) (other_places (length qs) ps)) ≡ true
rest_distinct qs ps e =
    ap is_distinct (picked_is (slice_index qs) (λ p. not (stands_in ps p)) qs 0 (λ k. ap (slice_index qs) (zero-add k)))
    ∙ picked_distinct (λ p. not (stands_in ps p)) qs 0 e

-- ---- the rest
-- the rest keeps what each factor keeps
pub rest_group : (ps : List ℕ) (m : ℕ) (g : Group) → IsGroup g → ArePlaces (length g.qubits) ps → IsProjectedOn ps m g → length ps ≢ length g.qubits
    → IsGroup (rest_of ps m g)
rest_group ps m g i p e some =
    let few = places_at_most (length g.qubits) ps p in
    let size : length (rest_of ps m g).qubits ≡ length (other_places (length g.qubits) ps) =
    length-map (other_places (length g.qubits) ps) (slice_index g.qubits) in
    let others = others_count (length g.qubits) ps p.below p.distinct in
    let count = agreeing_count ps m g i p e in
    let norm = agreeing_norm ps m g e in
    let divides = agreeing_all is_root2_times refl ps m g e in
    record {
      some = omega (arith, size, others);
      few = let t = i.few in omega (arith, size, others);
      distinct = rest_distinct g.qubits ps i.distinct;
      whole = same_power (length (agreeing ps m g)) (length (rest_of ps m g).qubits) (length ps) (length g.qubits) count (omega (arith, size, others));
      limit = i.limit;
      least = by_least divides i.least;
      nonzero = subst (λ t. t ≢ zero_root) (sym norm) i.nonzero;
      bound = subst (λ t. IsWithin t g.h) (sym norm) i.bound;
    }
  where
    cancel : (x y c : ℕ) → 0 < c → x * c ≡ y * c → x ≡ y
    cancel x y c some f = sym (mul-div_cancel x some) ∙ ap (λ t. t / c) f ∙ mul-div_cancel y some

    same_power : (x a r n : ℕ) → x * 2 ^ r ≡ 2 ^ n → a + r ≡ n → x ≡ 2 ^ a
    same_power x a r n f h = cancel x (2 ^ a) (2 ^ r) (pow_pos r) (f ∙ ap (λ t. 2 ^ t) (sym h) ∙ pow-add 2 a r)

    by_least : list_all is_root2_times (agreeing ps m g) ≡ list_all is_root2_times g.nums → IsLeastOver g.nums g.h → IsLeastOver (agreeing ps m g) g.h
    by_least d (inl f) = inl f
    by_least d (inr f) = inr (d ∙ f)
