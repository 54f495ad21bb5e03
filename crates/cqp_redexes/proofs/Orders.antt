-- The redexes of a prefix among all redexes.
use Rattle.std.proofs.Common.{◌≡◌, ℕ, zero, suc, List, [], ◌∷◌, ◌++◌, ◌+◌, ◌-◌, ◌≤◌, ◌<◌, length, length-append, slice_get, slice_index_or, append_assoc, Some}
use Rattle.std.proofs.Common.{None, refl, sym, ap, subst, arith, ◌∙◌}
use Rattle.std.proofs.lemmas.Option.{slice_get_past, slice_get_read}
use Rattle.std.specs.List.{AllByRecursion}
use Rattle.cqp_syntax.specs.Listing.{Listing}
use Rattle.cqp_redexes.specs.Evaluation.{RedexTables, AreRedexes, redexes_at, redexes_below}
use Rattle.cqp_parts.proofs.Lists.{any_default, flat_step, flat_front}
use Rattle.cqp_redexes.proofs.RedexPlaces.{get_second}

module _ (l : Listing) where
  -- the redexes below the next number are those below this one and the ones here
  pub below_step : (n : ℕ) → redexes_below l (n + 1) ≡ redexes_below l n ++ redexes_at l n
  below_step n = flat_step (redexes_at l) n

  -- the length of what is there
  pub length_there : (n : ℕ) → length (redexes_below l (n + 1)) ≡ length (redexes_below l n) + length (redexes_at l n)
  length_there n = ap length (below_step n) ∙ length-append (redexes_below l n) (redexes_at l n)

  -- the k-th of them in the list of all
  pub get_there : (n count k : ℕ) → n < count → k < length (redexes_at l n)
      → slice_get (redexes_below l count) (length (redexes_below l n) + k) ≡ slice_get (redexes_at l n) k
  get_there n count k h w =
      let more = flat_front (redexes_at l) (n + 1) (count - (n + 1)) in
      let same : n + 1 + (count - (n + 1)) ≡ count = omega arith in
      let apart : redexes_below l count ≡ (redexes_below l n ++ redexes_at l n) ++ more.0 =
      ap (redexes_below l) (sym same) ∙ (more.1 ∙ ap (λ xs. xs ++ more.0) (below_step n)) in
      let all : redexes_below l count ≡ redexes_below l n ++ (redexes_at l n ++ more.0) = apart ∙ append_assoc (redexes_below l n) (redexes_at l n) more.0 in
      ap (λ xs. slice_get xs (length (redexes_below l n) + k)) all
      ∙ (get_second (redexes_below l n) (redexes_at l n ++ more.0) (length (redexes_below l n) + k) k refl
      ∙ in_front (redexes_at l n) more.0 k w)
    where
      in_front : (xs ys : List ℕ) (j : ℕ) → j < length xs → slice_get (xs ++ ys) j ≡ slice_get xs j
      in_front [] ys j v = absurd (omega arith)
      in_front (x ∷ xs) ys zero v = refl
      in_front (x ∷ xs) ys (suc j) v = in_front xs ys j (omega arith)

-- what an order answers
module _ (l : Listing) (o : RedexTables) (is : AreRedexes l o) (n k from end : ℕ) (within : n < length l.nodes)
    (starts : from ≡ slice_index_or o.starts n from) (ends : end ≡ slice_index_or o.starts (n + 1) end) where
  -- the prefix's redexes begin behind all before
  from_is : from ≡ length (redexes_below l n)
  from_is = starts ∙ (any_default o.starts n from 0 (omega (arith, is.start_count)) ∙ is.starts n (omega arith))

  -- they end behind as many as it has
  end_is : end ≡ length (redexes_below l n) + length (redexes_at l n)
  end_is = ends ∙ (any_default o.starts (n + 1) end 0 (omega (arith, is.start_count)) ∙ (is.starts (n + 1) (omega arith) ∙ length_there l n))

  -- the redex that the table has at a place is the prefix's own
  pub order_some : (x : ℕ) → k < end - from → x ≡ slice_index_or o.redexes (from + k) x → Some x ≡ slice_get (redexes_at l n) k
  order_some x h e =
      let all = is.redexes in
      let w : k < length (redexes_at l n) = omega (arith, from_is, end_is) in
      let total : length (redexes_below l n) + length (redexes_at l n) ≤ length o.redexes =
      subst (λ m. m ≤ length o.redexes) (is.starts (n + 1) (omega arith) ∙ length_there l n) (within_all (n + 1) (omega (arith, is.start_count))) in
      let here : slice_get o.redexes (from + k) ≡ Some x = slice_get_read o.redexes (length o.redexes) (from + k) x refl (omega (arith, total, from_is)) e in
      sym here
      ∙ (ap (λ xs. slice_get xs (from + k)) all
      ∙ (ap (λ m. slice_get (redexes_below l (length l.nodes)) (m + k)) from_is ∙ get_there l n (length l.nodes) k within w))
    where
      within_all : (i : ℕ) → i < length o.starts → slice_index_or o.starts i 0 ≤ length o.redexes
      within_all i v = each o.starts i v is.within
        where
          each : (xs : List ℕ) (j : ℕ) → j < length xs → AllByRecursion (λ at. at ≤ length o.redexes) xs → slice_index_or xs j 0 ≤ length o.redexes
          each [] j v a = absurd (omega arith)
          each (x ∷ xs) zero v a = a.0
          each (x ∷ xs) (suc j) v a = each xs j (omega arith) a.1

  -- past the last the prefix has none
  pub order_none : end - from ≤ k → None ≡ slice_get (redexes_at l n) k
  order_none h = sym (slice_get_past (redexes_at l n) k (omega (arith, from_is, end_is)))
