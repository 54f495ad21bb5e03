-- The places that a word reaches.
use Rattle.std.proofs.Common.{◌≡◌, ◌≢◌, ℕ, zero, suc, ◌+◌, ◌-◌, ◌*◌, ◌<◌, ◌≤◌, ◌^◌, List, length}
use Rattle.std.proofs.Common.{take, arith, sym, ap, ◌∙◌, subst, inl, inr, ◌⊎◌}
use Rattle.std.proofs.lemmas.Int.{ints, unsigned_abs-mul}
use Rattle.std.proofs.Math.Nat.{mul-le-mul}
use Rattle.std.specs.Prelude.{ℤ, pos, nat_abs, ◌-ℤ◌, ◌*ℤ◌}
use Rattle.cqp_ring.specs.declared.root.Root.{Root}
use Rattle.cqp_ring.specs.Root.{IsAtLeastZero, IsAtMost, IsLess, IsProportional, root_at}
use Rattle.cqp_ring.specs.Root.{root_difference, root_product, root_sum, root_total, whole_root}
use Rattle.cqp_ring.specs.Root.{zero_root}
use Rattle.cqp_choose.specs.Odds.{IsFair}
use Rattle.cqp_choose.specs.Picks.{IsBornIndex, IsReached}
use Rattle.cqp_choose.proofs.OddsLemmas.{same_root, one_more, all_of_them, total_apart, total_above}

-- so many times a norm, and its parts
times_parts : (k : ℕ) (x : Root) → let y : Root = record { p = pos k *ℤ x.p; q = pos k *ℤ x.q } in root_product (whole_root (pos k)) x ≡ y
times_parts k x = same_root (omega (arith, ints)) (omega (arith, ints))

-- the laws of norms that the crate below gives
pub record Laws : Type 0 where
  pub commutes : (x y : Root) → root_product x y ≡ root_product y x
  pub associates : (x y z : Root) → root_product (root_product x y) z ≡ root_product x (root_product y z)
  pub distributes : (x y z : Root) → root_product x (root_sum y z) ≡ root_sum (root_product x y) (root_product x z)
  pub total : (x y : Root) → IsAtMost x y ⊎ IsAtMost y x
  pub both : (x y : Root) → IsAtMost x y → IsAtMost y x → x ≡ y
  pub products : (x y z : Root) → IsAtMost x y → IsAtLeastZero z → IsAtMost (root_product z x) (root_product z y)
  pub sum : (x y : Root) → IsAtLeastZero x → IsAtLeastZero y → IsAtLeastZero (root_sum x y)
  pub cancelled : (n x y : Root) → n ≢ zero_root → root_product n x ≡ root_product n y → x ≡ y

-- norms whose difference is 0 are the same
no_difference : (x y : Root) → root_difference y x ≡ zero_root → x ≡ y
no_difference x y e = let f : y.p -ℤ x.p ≡ pos 0 = ap (λ (t : Root). t.p) e in let g : y.q -ℤ x.q ≡ pos 0 = ap (λ (t : Root). t.q) e in
    same_root (omega (arith, ints)) (omega (arith, ints))

-- the same norms differ by 0
difference_none : (x y : Root) → x ≡ y → root_difference x y ≡ zero_root
difference_none x y e =
    let f : x.p ≡ y.p = ap (λ (t : Root). t.p) e in
    let g : x.q ≡ y.q = ap (λ (t : Root). t.q) e in
    same_root (omega (arith, ints)) (omega (arith, ints))

-- ---- the last place
-- what is left of so many times a norm
rest_parts : (n k : ℕ) (x : Root)
    → root_product (whole_root (pos n)) x ≡ root_difference (root_product (whole_root (pos (n + k))) x) (root_product (whole_root (pos k)) x)
rest_parts n k x = same_root (omega (arith, ints)) (omega (arith, ints))

-- a number of which some times are 0 is 0
times_zero : (n : ℕ) (z : ℤ) → 0 < n → pos n *ℤ z ≡ pos 0 → z ≡ pos 0
times_zero n z some e =
    let f : n * nat_abs z ≡ 0 = sym (unsigned_abs-mul (pos n) z) ∙ ap nat_abs e in
    let g : 1 * nat_abs z ≤ n * nat_abs z = mul-le-mul {n₁ = 1} {m₁ = nat_abs z} {n₂ = n} {m₂ = nat_abs z} some (omega arith) in
    omega (arith, ints)

-- some times a norm that isn't 0 aren't 0
times_apart : (n : ℕ) (x : Root) → 0 < n → x ≢ zero_root → root_product (whole_root (pos n)) x ≢ zero_root
times_apart n x some apart e =
    let f = sym (times_parts n x) ∙ e in
    apart (same_root (times_zero n x.p some (ap (λ (t : Root). t.p) f)) (times_zero n x.q some (ap (λ (t : Root). t.q) f)))

-- fewer times a norm above 0 are less
share_of_rest : ((x y : Root) → IsAtLeastZero x → IsAtLeastZero y → IsAtLeastZero (root_product x y)) → (n k : ℕ) (x : Root) → 0 < n → IsAtLeastZero x
    → x ≢ zero_root
    → IsLess (root_product (whole_root (pos k)) x) (root_product (whole_root (pos (n + k))) x)
share_of_rest product n k x some above apart = record {
  at_least = subst IsAtLeastZero (rest_parts n k x) (product (whole_root (pos n)) x (inl (omega (arith, ints), omega (arith, ints))) above);
  other = λ e. times_apart n x some apart (rest_parts n k x ∙ e);
}

-- a word's share of a norm above 0 is less than the whole
pub share_less : ((x y : Root) → IsAtLeastZero x → IsAtLeastZero y → IsAtLeastZero (root_product x y)) → (k : ℕ) (x : Root) → k < 2 ^ 32
    → IsAtLeastZero x → x ≢ zero_root
    → IsLess (root_product (whole_root (pos k)) x) (root_product (whole_root (pos (2 ^ 32))) x)
share_less product k x h above apart =
    let e : 2 ^ 32 - k + k ≡ 2 ^ 32 = omega arith in
    subst (λ t. IsLess (root_product (whole_root (pos k)) x) (root_product (whole_root (pos t)) x)) e
    (share_of_rest product (2 ^ 32 - k) k x (omega arith) above apart)

-- the last place is reached
pub last_reached : ((x y : Root) → IsAtLeastZero x → IsAtLeastZero y → IsAtLeastZero (root_sum x y))
    → ((x y : Root) → IsAtLeastZero x → IsAtLeastZero y → IsAtLeastZero (root_product x y))
    → (word : ℕ) (odds : List Root) → word < 2 ^ 32 → IsFair odds → IsReached word odds (length odds - 1)
last_reached sum product word odds h fair =
    let e : length odds ≡ length odds - 1 + 1 = omega (arith, fair.some) in
    subst (λ t. IsLess (root_product (whole_root (pos word)) (root_total odds)) (root_product (whole_root (pos (2 ^ 32))) t))
    (sym (all_of_them odds) ∙ ap (λ n. root_total (take n odds)) e)
    (share_less product word (root_total odds) h (total_above sum odds fair.each) (total_apart odds fair))

-- the comparison that the code makes
pub reached_by : (word : ℕ) (odds : List Root) (i : ℕ) (total sum : Root) → total ≡ root_total odds → sum ≡ root_total (take (i + 1) odds)
    → IsLess (root_product (whole_root (pos word)) total) (root_product (whole_root (pos (2 ^ 32))) sum) → IsReached word odds i
reached_by word odds i total sum e f h =
    subst (λ t. IsLess (root_product (whole_root (pos word)) t) (root_product (whole_root (pos (2 ^ 32))) (root_total (take (i + 1) odds)))) e
    (subst (λ t. IsLess (root_product (whole_root (pos word)) total) (root_product (whole_root (pos (2 ^ 32))) t)) f h)

-- the other way round: a place that is reached passes the comparison
pub reached_so : (word : ℕ) (odds : List Root) (i : ℕ) (total sum : Root) → total ≡ root_total odds → sum ≡ root_total (take (i + 1) odds)
    → IsReached word odds i → IsLess (root_product (whole_root (pos word)) total) (root_product (whole_root (pos (2 ^ 32))) sum)
reached_so word odds i total sum e f h =
    subst (λ t. IsLess (root_product (whole_root (pos word)) t) (root_product (whole_root (pos (2 ^ 32))) sum)) (sym e)
    (subst (λ t. IsLess (root_product (whole_root (pos word)) (root_total odds)) (root_product (whole_root (pos (2 ^ 32))) t)) (sym f) h)

-- ---- proportional odds
module _ (laws : Laws) where
  -- any norm times 0 is 0
  product-zero : (x : Root) → root_product x zero_root ≡ zero_root
  product-zero x = same_root (omega (arith, ints)) (omega (arith, ints))

  -- 0 times any norm is 0
  zero-product : (x : Root) → root_product zero_root x ≡ zero_root
  zero-product x = same_root (omega (arith, ints)) (omega (arith, ints))

  -- products distribute from the right, too
  times_sum : (x y z : Root) → root_product (root_sum x y) z ≡ root_sum (root_product x z) (root_product y z)
  times_sum x y z =
      laws.commutes (root_sum x y) z ∙ laws.distributes z x y ∙ ap (λ t. root_sum t (root_product z y)) (laws.commutes z x)
      ∙ ap (root_sum (root_product x z)) (laws.commutes z y)

  -- one odd and a sum of the first
  row : (xs ys : List Root) (i n : ℕ) → IsProportional xs ys → i < length xs → n ≤ length xs
      → root_product (root_at xs i) (root_total (take n ys)) ≡ root_product (root_total (take n xs)) (root_at ys i)
  row xs ys i zero h below small = product-zero (root_at xs i) ∙ sym (zero-product (root_at ys i))
  row xs ys i (suc n) h below small =
      let m : suc n ≡ n + 1 = omega arith in
      ap (λ t. root_product (root_at xs i) (root_total (take t ys))) m
      ∙ ap (root_product (root_at xs i)) (one_more ys n)
      ∙ laws.distributes (root_at xs i) (root_total (take n ys)) (root_at ys n)
      ∙ ap (λ t. root_sum t (root_product (root_at xs i) (root_at ys n))) (row xs ys i n h below (omega arith))
      ∙ ap (root_sum (root_product (root_total (take n xs)) (root_at ys i))) (h.crossed i n below (omega arith))
      ∙ sym (times_sum (root_total (take n xs)) (root_at xs n) (root_at ys i))
      ∙ sym (ap (λ t. root_product t (root_at ys i)) (one_more xs n))
      ∙ sym (ap (λ t. root_product (root_total (take t xs)) (root_at ys i)) m)

  -- two sums of the first
  grid : (xs ys : List Root) (m n : ℕ) → IsProportional xs ys → m ≤ length xs → n ≤ length xs
      → root_product (root_total (take m xs)) (root_total (take n ys)) ≡ root_product (root_total (take n xs)) (root_total (take m ys))
  grid xs ys zero n h small below = zero-product (root_total (take n ys)) ∙ sym (product-zero (root_total (take n xs)))
  grid xs ys (suc m) n h small below =
      let e : suc m ≡ m + 1 = omega arith in
      ap (λ t. root_product (root_total (take t xs)) (root_total (take n ys))) e
      ∙ ap (λ t. root_product t (root_total (take n ys))) (one_more xs m)
      ∙ times_sum (root_total (take m xs)) (root_at xs m) (root_total (take n ys))
      ∙ ap (λ t. root_sum t (root_product (root_at xs m) (root_total (take n ys)))) (grid xs ys m n h (omega arith) below)
      ∙ ap (root_sum (root_product (root_total (take n xs)) (root_total (take m ys)))) (row xs ys m n h (omega arith) below)
      ∙ sym (laws.distributes (root_total (take n xs)) (root_total (take m ys)) (root_at ys m))
      ∙ sym (ap (root_product (root_total (take n xs))) (one_more ys m))
      ∙ sym (ap (λ t. root_product (root_total (take n xs)) (root_total (take t ys))) e)

  -- the sum of the first, and the sum of all
  share : (xs ys : List Root) (n : ℕ) → IsProportional xs ys → n ≤ length xs
      → root_product (root_total (take n xs)) (root_total ys) ≡ root_product (root_total xs) (root_total (take n ys))
  share xs ys n h below =
      ap (root_product (root_total (take n xs))) (sym (all_of_them ys) ∙ ap (λ t. root_total (take t ys)) (sym h.same_length))
      ∙ grid xs ys n (length xs) h below (omega arith)
      ∙ ap (λ t. root_product t (root_total (take n ys))) (all_of_them xs)

  -- a comparison of k a and m b, where both are proportional to those of c and d
  carried : (k m a b c d : Root) → root_product b c ≡ root_product a d → IsAtLeastZero a → a ≢ zero_root → IsAtLeastZero c → c ≢ zero_root
      → IsLess (root_product k a) (root_product m b) → IsLess (root_product k c) (root_product m d)
  carried k m a b c d e a_above a_apart c_above c_apart less = by_order (laws.total (root_product k c) (root_product m d))
    where
      left : root_product c (root_product k a) ≡ root_product a (root_product k c)
      left =
          laws.commutes c (root_product k a) ∙ laws.associates k a c ∙ ap (root_product k) (laws.commutes a c) ∙ sym (laws.associates k c a)
          ∙ laws.commutes (root_product k c) a

      right : root_product c (root_product m b) ≡ root_product a (root_product m d)
      right =
          laws.commutes c (root_product m b) ∙ laws.associates m b c ∙ ap (root_product m) (e ∙ laws.commutes a d) ∙ sym (laws.associates m d a)
          ∙ laws.commutes (root_product m d) a

      apart : root_product a (root_product k c) ≡ root_product a (root_product m d) → ⊥
      apart f =
          less.other (difference_none (root_product m b) (root_product k a) (sym (laws.cancelled c (root_product k a) (root_product m b) c_apart (left
          ∙ f ∙ sym right))))

      by_order : IsAtMost (root_product k c) (root_product m d) ⊎ IsAtMost (root_product m d) (root_product k c) → IsLess (root_product k c) (root_product m d)
      by_order (inl h) = record { at_least = h; other = λ f. apart (ap (root_product a) (no_difference (root_product k c) (root_product m d) f)) }
      by_order (inr h) =
          let low : IsAtMost (root_product a (root_product m d)) (root_product a (root_product k c)) = laws.products (root_product m d)
          (root_product k c) a h a_above in
          let high : IsAtMost (root_product c (root_product k a)) (root_product c (root_product m b)) = laws.products (root_product k a)
          (root_product m b) c less.at_least c_above in
          let turned : IsAtMost (root_product a (root_product k c)) (root_product a (root_product m d)) = subst
          (λ t. IsAtMost (root_product a (root_product k c)) t) right (subst (λ t. IsAtMost t (root_product c (root_product m b))) left high) in
          absurd (apart (laws.both (root_product a (root_product k c)) (root_product a (root_product m d)) turned low))

  -- a place is reached in proportional odds too
  reached_alike : (word : ℕ) (xs ys : List Root) (i : ℕ) → IsFair xs → IsFair ys → IsProportional xs ys → i < length xs → IsReached word xs i
      → IsReached word ys i
  reached_alike word xs ys i fair also h below =
      carried (whole_root (pos word)) (whole_root (pos (2 ^ 32))) (root_total xs) (root_total (take (i + 1) xs)) (root_total ys) (root_total (take (i + 1) ys))
      (share xs ys (i + 1) h (omega arith)) (total_above laws.sum xs fair.each) (total_apart xs fair) (total_above laws.sum ys also.each) (total_apart ys also)

  -- the place of a word is the same in proportional odds
  pub born_alike : (word : ℕ) (xs ys : List Root) (i : ℕ) → IsFair xs → IsFair ys → IsProportional xs ys → IsProportional ys xs
      → IsBornIndex word xs i → IsBornIndex word ys i
  born_alike word xs ys i fair also h back born = record {
    in_range = omega (arith, h.same_length, born.in_range);
    reached = reached_alike word xs ys i fair also h born.in_range born.reached;
    first = λ j before reached. born.first j before (reached_alike word ys xs j also fair back (omega (arith, h.same_length, born.in_range)) reached);
  }
