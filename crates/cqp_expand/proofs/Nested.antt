-- Binders that hide one another: the depth of the innermost one of a text, and how it changes.
use Rattle.std.proofs.Common.{◌≡◌, ℕ, zero, suc, ◌+◌, ◌<◌, ◌≤◌, List, [], ◌∷◌, ◌++◌, length, reverse, get_or, drop}
use Rattle.std.proofs.Common.{Bool, true, false, bytes_eq, nat_lt, Option, Some, None, refl, sym, ◌∙◌, ap, subst, arith}
use Rattle.std.specs.Prelude.{◌||◌, if◌then◌else◌, IsSome}
use Rattle.std.specs.Prelude as list
use Rattle.std.specs.Borrow.{Bor}
use Rattle.std.specs.List.{list_any}
use Rattle.std.proofs.lemmas.Bool.Decides.{nat_tests}
use Rattle.std.proofs.lemmas.Slice.Eq.{bytes_eq-Decides}
use Rattle.std.proofs.lemmas.List.{length-map, map-append, reverse-append, drop_all}
use Rattle.std.proofs.lemmas.List.Folds.{list_any-append}
use Rattle.std.proofs.Math.ListN.{get_or-append, length-reverse}
use Rattle.std.proofs.Math.Seq.{get_or-append_seam, drop-append-le}
use Rattle.indexmap.specs.IndexMap.{get_by}
use Rattle.cqp_expand.specs.declared.nest.NestedBinder.{NestedBinder}
use Rattle.cqp_expand.specs.declared.nest.Nest.{Nest}
use Rattle.cqp_expand.specs.Binds.{has_text, bounds, depth_in, depth_or_none, AreLinked, IsNested, Sets}

-- one more binder stands first from the end
last_first : (xs : List NestedBinder) (b : NestedBinder) → reverse (xs ++ b ∷ []) ≡ b ∷ reverse xs
last_first xs b = reverse-append xs (b ∷ [])

-- and last in order
first_last : (bs : List NestedBinder) (b : NestedBinder) → reverse (b ∷ bs) ≡ reverse bs ++ b ∷ []
first_last bs b = reverse-append (b ∷ []) bs

module _ (x : List ℕ) where
  -- a depth is one of the binders
  pub depth_below : (bs : List NestedBinder) → depth_in x bs ≤ length bs
  depth_below [] = omega arith
  depth_below (b ∷ bs) = by (has_text x b.bound) refl (depth_below bs)
    where
      by : (t : Bool) → has_text x b.bound ≡ t → depth_in x bs ≤ length bs → depth_in x (b ∷ bs) ≤ length (b ∷ bs)
      by true e h = rw e (omega arith)
      by false e h = rw e (omega (arith, h))

  -- without a depth there is no binder of the text
  pub depth_none : (bs : List NestedBinder) → depth_in x bs ≡ 0 → list.find (has_text x) (bounds bs) ≡ None
  depth_none [] h = refl
  depth_none (b ∷ bs) h = by (has_text x b.bound) refl (λ g. depth_none bs g)
    where
      by : (t : Bool) → has_text x b.bound ≡ t → (depth_in x bs ≡ 0 → list.find (has_text x) (bounds bs) ≡ None)
          → list.find (has_text x) (bounds (b ∷ bs)) ≡ None
      by true e later = let some : length bs + 1 ≡ 0 = rw e at h in absurd (omega (arith, some))
      by false e later = let none : depth_in x bs ≡ 0 = rw e at h in rw e (later none)

  -- at its depth stands the first of the text
  pub depth_some : (bs : List NestedBinder) (k : ℕ) (d : NestedBinder) → depth_in x bs ≡ k + 1
      → Some (get_or (reverse bs) k d).bound ≡ list.find (has_text x) (bounds bs)
  depth_some [] k d h = absurd (omega (arith, h))
  depth_some (b ∷ bs) k d h = by (has_text x b.bound) refl (λ g. depth_some bs k d g)
    where
      at_end : get_or (reverse (b ∷ bs)) k d ≡ get_or (reverse bs ++ b ∷ []) k d
      at_end = ap (λ l. get_or l k d) (first_last bs b)

      by : (t : Bool) → has_text x b.bound ≡ t
          → (depth_in x bs ≡ k + 1 → Some (get_or (reverse bs) k d).bound ≡ list.find (has_text x) (bounds bs))
          → Some (get_or (reverse (b ∷ bs)) k d).bound ≡ list.find (has_text x) (bounds (b ∷ bs))
      by true e later =
          let here : length bs + 1 ≡ k + 1 = rw e at h in
          let depth : length (reverse bs) ≡ k = length-reverse bs ∙ omega (arith, here) in
          let same : get_or (reverse (b ∷ bs)) k d ≡ b = at_end ∙ ap (λ n. get_or (reverse bs ++ b ∷ []) n d) (sym depth)
          ∙ get_or-append_seam (reverse bs) b [] d in
          rw e (ap (λ (y : NestedBinder). Some y.bound) same)
      by false e later =
          let other : depth_in x bs ≡ k + 1 = rw e at h in
          let below = depth_below bs in
          let less : k < length (reverse bs) = omega (arith, other, below, length-reverse bs) in
          let same : get_or (reverse (b ∷ bs)) k d ≡ get_or (reverse bs) k d = at_end ∙ get_or-append (reverse bs) (b ∷ []) d k less in
          rw e (ap (λ (y : NestedBinder). Some y.bound) same ∙ later other)

  -- the binders in order, without the last
  in_order : (bs : List NestedBinder) (b : NestedBinder) → bounds (reverse (b ∷ bs)) ≡ bounds (reverse bs) ++ b.bound ∷ []
  in_order bs b = ap bounds (first_last bs b) ∙ map-append (λ (y : NestedBinder). y.bound) (reverse bs) (b ∷ [])

  -- as many as binders
  many : (bs : List NestedBinder) → length (bounds (reverse bs)) ≡ length bs
  many bs = length-map (reverse bs) (λ (y : NestedBinder). y.bound) ∙ length-reverse bs

  -- the text stands behind so many binders where its depth does
  pub depth_behind : (bs : List NestedBinder) (n : ℕ) → n ≤ length bs → nat_lt n (depth_in x bs) ≡ list_any (has_text x) (drop n (bounds (reverse bs)))
  depth_behind [] zero h = refl
  depth_behind [] (suc n) h = absurd (omega (arith, h))
  depth_behind (b ∷ bs) n h = by_end (nat_lt (length bs) n) refl (λ l. depth_behind bs n l)
    where
      whole : list_any (has_text x) (drop n (bounds (reverse (b ∷ bs)))) ≡ list_any (has_text x) (drop n (bounds (reverse bs) ++ b.bound ∷ []))
      whole = ap (λ l. list_any (has_text x) (drop n l)) (in_order bs b)

      parts : n ≤ length bs → list_any (has_text x) (drop n (bounds (reverse (b ∷ bs))))
          ≡ (list_any (has_text x) (drop n (bounds (reverse bs))) || (has_text x b.bound || false))
      parts l =
          whole ∙ ap (list_any (has_text x)) (drop-append-le n (bounds (reverse bs)) (b.bound ∷ []) (let m = many bs in omega (arith, l, m)))
          ∙ list_any-append (has_text x) (drop n (bounds (reverse bs))) (b.bound ∷ [])

      or_true : (c : Bool) → (c || (true || false)) ≡ true
      or_true true = refl
      or_true false = refl

      or_false : (c : Bool) → (c || (false || false)) ≡ c
      or_false true = refl
      or_false false = refl

      by : (t : Bool) → has_text x b.bound ≡ t → n ≤ length bs
          → nat_lt n (depth_in x bs) ≡ list_any (has_text x) (drop n (bounds (reverse bs)))
          → nat_lt n (depth_in x (b ∷ bs)) ≡ list_any (has_text x) (drop n (bounds (reverse (b ∷ bs))))
      by true e l later =
          let less : nat_lt n (length bs + 1) ≡ true = grind (arith, nat_tests) in
          let all = ap (λ t. list_any (has_text x) (drop n (bounds (reverse bs))) || (t || false)) e
          ∙ or_true (list_any (has_text x) (drop n (bounds (reverse bs)))) in
          ap (λ t. nat_lt n (if t then length bs + 1 else depth_in x bs)) e ∙ less ∙ sym (parts l ∙ all)
      by false e l later =
          let all = ap (λ t. list_any (has_text x) (drop n (bounds (reverse bs))) || (t || false)) e
          ∙ or_false (list_any (has_text x) (drop n (bounds (reverse bs)))) in
          ap (λ t. nat_lt n (if t then length bs + 1 else depth_in x bs)) e ∙ later ∙ sym (parts l ∙ all)

      by_end : (t : Bool) → nat_lt (length bs) n ≡ t
          → (n ≤ length bs → nat_lt n (depth_in x bs) ≡ list_any (has_text x) (drop n (bounds (reverse bs))))
          → nat_lt n (depth_in x (b ∷ bs)) ≡ list_any (has_text x) (drop n (bounds (reverse (b ∷ bs))))
      by_end true e later =
          let below = depth_below (b ∷ bs) in
          let more : length bs < n = grind (arith, nat_tests) in
          let none : nat_lt n (depth_in x (b ∷ bs)) ≡ false = grind (arith, nat_tests) in
          let m = many (b ∷ bs) in
          none ∙ sym (ap (list_any (has_text x)) (drop_all n (bounds (reverse (b ∷ bs))) (omega (arith, m, more))))
      by_end false e later =
          let less : n ≤ length bs = grind (arith, nat_tests) in
          by (has_text x b.bound) refl less (later less)

-- equal texts
texts_equal : (x y : List ℕ) → bytes_eq x y ≡ true → x ≡ y
texts_equal x y e = (bytes_eq-Decides x y).0 e

-- without the last binder, whose outer depth is set, it is known again
pub nested_less : (n m : Nest) (b : NestedBinder) → IsNested n → n.binders.items ≡ m.binders.items ++ b ∷ []
    → Sets b.bound.text.now b.outer n.depths m.depths → IsNested m
nested_less n m b k e s =
    let all : reverse n.binders.items ≡ b ∷ reverse m.binders.items = ap reverse e ∙ last_first m.binders.items b in
    let linked = subst AreLinked all k.linked in
    record {
      linked = linked.1;
      depths = λ x. s x ∙ by x (bytes_eq b.bound.text.now x.now) refl (k.depths x ∙ ap (depth_in x.now) all) linked.0;
    }
  where
    by : (x : Bor (List ℕ)) (t : Bool) → bytes_eq b.bound.text.now x.now ≡ t
        → depth_or_none (get_by (λ y. bytes_eq x.now y.now) n.depths) ≡ depth_in x.now (b ∷ reverse m.binders.items)
        → b.outer ≡ depth_in b.bound.text.now (reverse m.binders.items)
        → (if bytes_eq b.bound.text.now x.now then b.outer else depth_or_none (get_by (λ y. bytes_eq x.now y.now) n.depths))
        ≡ depth_in x.now (reverse m.binders.items)
    by x true g old o = rw g (o ∙ ap (λ y. depth_in y (reverse m.binders.items)) (texts_equal b.bound.text.now x.now g))
    by x false g old o =
        let kept = ap (λ t. if t then length (reverse m.binders.items) + 1 else depth_in x.now (reverse m.binders.items)) g in
        ap (λ t. if t then b.outer else depth_or_none (get_by (λ y. bytes_eq x.now y.now) n.depths)) g ∙ old ∙ kept

-- the text of the last binder is a key
pub last_known : (n : Nest) (xs : List NestedBinder) (b : NestedBinder) → IsNested n → n.binders.items ≡ xs ++ b ∷ []
    → IsSome (get_by (λ y. bytes_eq b.bound.text.now y.now) n.depths)
last_known n xs b k e =
    let all : reverse n.binders.items ≡ b ∷ reverse xs = ap reverse e ∙ last_first xs b in
    let own : bytes_eq b.bound.text.now b.bound.text.now ≡ true = (bytes_eq-Decides b.bound.text.now b.bound.text.now).1 refl in
    let depth : depth_or_none (get_by (λ y. bytes_eq b.bound.text.now y.now) n.depths) ≡ length (reverse xs) + 1 = k.depths b.bound.text
    ∙ ap (depth_in b.bound.text.now) all
    ∙ ap (λ t. if t then length (reverse xs) + 1 else depth_in b.bound.text.now (reverse xs)) own in
    some (get_by (λ y. bytes_eq b.bound.text.now y.now) n.depths) (length (reverse xs)) depth
  where
    some : (o : Option ℕ) (n : ℕ) → depth_or_none o ≡ n + 1 → IsSome o
    some None n h = absurd (omega (arith, h))
    some (Some m) n h = refl
