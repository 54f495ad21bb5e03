-- Laws of a table of types: one more type at its end, and the type trees that stand in a list.
use Rattle.std.proofs.Common.{◌≡◌, ℕ, suc, zero, ◌+◌, ◌<◌, ◌≤◌, ◌^◌, List, [], ◌∷◌, ◌++◌, length, true, nat_lt, slice_get, get_or, slice_index_or, Some}
use Rattle.std.proofs.Common.{None, refl, ap, ap₂, sym, ◌∙◌, subst, arith, length-append, inl, inr, ◌⊎◌}
use Rattle.std.proofs.lemmas.Bool.Decides.{nat_tests}
use Rattle.std.proofs.lemmas.Option.{slice_get-get_or}
use Rattle.std.specs.List.{list_all, AllByRecursion}
use Rattle.cqp_syntax.specs.declared.ty.Ty.{Ty}
use Rattle.cqp_syntax.specs.declared.ty.Ty.TheVariants as ty
use Rattle.cqp_syntax.specs.TypeTrees.{TypeTree, int_type, chan_type, type_and, trees_at, tree_of}
use Rattle.cqp_syntax.specs.TypeTrees.{tree_in, trees_after, type_at, parts_of, has_parts_before}
use Rattle.cqp_expand.specs.Tables.{IsTable, Extends}
use Rattle.cqp_syntax.proofs.Bools.{both, both_hold}
use Rattle.cqp_expand.proofs.TypesOnce.{one_type}

-- the trees of types in two parts
trees-append : (trees : List TypeTree) (xs ys : List Ty) → trees_after trees (xs ++ ys) ≡ trees_after (trees_after trees xs) ys
trees-append trees [] ys = refl
trees-append trees (x ∷ xs) ys = trees-append (trees ++ tree_of (tree_in trees) x ∷ []) xs ys

-- as many trees as types
length-trees : (trees : List TypeTree) (xs : List Ty) → length (trees_after trees xs) ≡ length trees + length xs
length-trees trees [] = omega arith
length-trees trees (x ∷ xs) =
    let later = length-trees (trees ++ tree_of (tree_in trees) x ∷ []) xs in
    omega (arith, later, length-append trees (tree_of (tree_in trees) x ∷ []))

-- a tree of the first part
or_within : (xs ys : List TypeTree) (k : ℕ) (d : TypeTree) → k < length xs → slice_index_or (xs ++ ys) k d ≡ slice_index_or xs k d
or_within [] ys k d h = absurd (omega (arith, h))
or_within (x ∷ xs) ys zero d h = refl
or_within (x ∷ xs) ys (suc k) d h = or_within xs ys k d (omega arith)

-- the tree behind the first part
or_behind : (xs ys : List TypeTree) (k : ℕ) (y d : TypeTree) → k ≡ length xs → slice_index_or (xs ++ y ∷ ys) k d ≡ y
or_behind [] ys zero y d e = refl
or_behind [] ys (suc k) y d e = absurd (omega (arith, e))
or_behind (x ∷ xs) ys zero y d e = absurd (omega (arith, e))
or_behind (x ∷ xs) ys (suc k) y d e = or_behind xs ys k y d (omega arith)

-- one more type leaves the others
pub type_before : (types : List Ty) (t : Ty) (k : ℕ) → k < length types → type_at (types ++ t ∷ []) k ≡ type_at types k
type_before types t k h =
    let trees = trees_after [] types in
    let count = length-trees [] types in
    ap (λ z. tree_in z k) (trees-append [] types (t ∷ [])) ∙ or_within trees (tree_of (tree_in trees) t ∷ []) k int_type (omega (arith, h, count))

-- and has the tree of its parts
pub type_last : (types : List Ty) (t : Ty) (k : ℕ) → k ≡ length types → type_at (types ++ t ∷ []) k ≡ tree_of (type_at types) t
type_last types t k e =
    let trees = trees_after [] types in
    let count = length-trees [] types in
    ap (λ z. tree_in z k) (trees-append [] types (t ∷ [])) ∙ or_behind trees [] k (tree_of (tree_in trees) t) int_type (omega (arith, e, count))

-- numbers below n pass the test
pub parts_test : (n : ℕ) (xs : List ℕ) → AllByRecursion (λ k. k < n) xs → list_all (λ k. nat_lt k n) xs ≡ true
parts_test n [] h = refl
parts_test n (x ∷ xs) h =
    let less = h.0 in
    let test : nat_lt x n ≡ true = grind (arith, nat_tests) in
    rw test (parts_test n xs h.1)

-- and those that pass are below
parts_hold : (n : ℕ) (xs : List ℕ) → list_all (λ k. nat_lt k n) xs ≡ true → AllByRecursion (λ k. k < n) xs
parts_hold n [] h = tt
parts_hold n (x ∷ xs) h =
    let two = both (nat_lt x n) (list_all (λ k. nat_lt k n) xs) h in
    (less x n two.0, parts_hold n xs two.1)
  where
    less : (x n : ℕ) → nat_lt x n ≡ true → x < n
    less x n h = grind (arith, nat_tests)

-- parts stand before one more type
parts_more : (n : ℕ) (types : List Ty) (t : Ty) → has_parts_before n types ≡ true → AllByRecursion (λ k. k < n + length types) (parts_of t)
    → has_parts_before n (types ++ t ∷ []) ≡ true
parts_more n [] t h p = both_hold _ _ (parts_test n (parts_of t) (subst (λ m. AllByRecursion (λ k. k < m) (parts_of t)) (add_none n) p)) refl
  where
    add_none : (a : ℕ) → a + 0 ≡ a
    add_none a = omega arith
parts_more n (x ∷ types) t h p =
    let two = both (list_all (λ k. nat_lt k n) (parts_of x)) (has_parts_before (n + 1) types) h in
    let is : n + length (x ∷ types) ≡ n + 1 + length types = omega arith in
    both_hold _ _ two.0 (parts_more (n + 1) types t two.1 (subst (λ m. AllByRecursion (λ k. k < m) (parts_of t)) is p))

-- the type at a place has its parts before it
parts_at : (n k : ℕ) (types : List Ty) (t : Ty) → has_parts_before n types ≡ true → slice_get types k ≡ Some t → AllByRecursion (λ j. j < n + k) (parts_of t)
parts_at n k [] t h e = absurd (none_some t e)
  where
    none_some : (t : Ty) → None ≡ Some t → ⊥
    none_some t e = cc
parts_at n zero (x ∷ types) t h e =
    let two = both (list_all (λ k. nat_lt k n) (parts_of x)) (has_parts_before (n + 1) types) h in
    let is : n ≡ n + 0 = omega arith in
    subst (λ m. AllByRecursion (λ j. j < m) (parts_of t)) is (subst (λ z. AllByRecursion (λ j. j < n) (parts_of z)) (same x t e) (parts_hold n
    (parts_of x) two.0))
  where
    same : (x t : Ty) → Some x ≡ Some t → x ≡ t
    same x t e = cc
parts_at n (suc k) (x ∷ types) t h e =
    let two = both (list_all (λ k. nat_lt k n) (parts_of x)) (has_parts_before (n + 1) types) h in
    let is : n + 1 + k ≡ n + suc k = omega arith in
    subst (λ m. AllByRecursion (λ j. j < m) (parts_of t)) is (parts_at (n + 1) k types t two.1 e)

-- trees that are there stay
tree_keeps : (trees : List TypeTree) (types : List Ty) (k : ℕ) → k < length trees → tree_in (trees_after trees types) k ≡ tree_in trees k
tree_keeps trees [] k h = refl
tree_keeps trees (x ∷ types) k h =
    let own = tree_of (tree_in trees) x in
    tree_keeps (trees ++ own ∷ []) types k (omega (arith, h, length-append trees (own ∷ []))) ∙ or_within trees (own ∷ []) k int_type h

-- trees at numbers below n
trees_alike : (f g : ℕ → TypeTree) (xs : List ℕ) (n : ℕ) → AllByRecursion (λ k. k < n) xs → ((k : ℕ) → k < n → f k ≡ g k) → trees_at f xs ≡ trees_at g xs
trees_alike f g [] n h e = refl
trees_alike f g (x ∷ xs) n h e = ap₂ type_and (e x h.0) (trees_alike f g xs n h.1 e)

-- a type's tree is of those of its parts
pub tree_alike : (f g : ℕ → TypeTree) (t : Ty) (n : ℕ) → AllByRecursion (λ k. k < n) (parts_of t) → ((k : ℕ) → k < n → f k ≡ g k) → tree_of f t ≡ tree_of g t
tree_alike f g ty.Int n h e = refl
tree_alike f g ty.Unit n h e = refl
tree_alike f g ty.Qbit n h e = refl
tree_alike f g (ty.Op places) n h e = refl
tree_alike f g (ty.Chan of) n h e = ap chan_type (trees_alike f g of n h e)

-- the tree of the type at a place
pub type_there : (trees : List TypeTree) (types : List Ty) (n k : ℕ) (t : Ty) → n ≡ length trees → has_parts_before n types ≡ true → slice_get types k ≡ Some t
    → tree_in (trees_after trees types) (n + k) ≡ tree_of (tree_in (trees_after trees types)) t
type_there trees [] n k t e h g = absurd (none_some t g)
  where
    none_some : (t : Ty) → None ≡ Some t → ⊥
    none_some t e = cc
type_there trees (x ∷ types) n zero t e h g =
    let own = tree_of (tree_in trees) x in
    let two = both (list_all (λ k. nat_lt k n) (parts_of x)) (has_parts_before (n + 1) types) h in
    let here : n + 0 ≡ n = omega arith in
    let longer = length-append trees (own ∷ []) in
    ap (tree_in (trees_after (trees ++ own ∷ []) types)) here ∙ tree_keeps (trees ++ own ∷ []) types n (omega (arith, e, longer))
    ∙ or_behind trees [] n own int_type e
    ∙ tree_alike (tree_in trees) (tree_in (trees_after (trees
    ++ own ∷ []) types)) x n (parts_hold n (parts_of x) two.0) (λ j l. sym (tree_keeps (trees ++ own ∷ []) types j (omega (arith, e, l, longer))
    ∙ or_within trees (own ∷ []) j int_type (omega (arith, e, l))))
    ∙ ap (tree_of (tree_in (trees_after (trees ++ own ∷ []) types))) (same x t g)
  where
    same : (x t : Ty) → Some x ≡ Some t → x ≡ t
    same x t e = cc
type_there trees (x ∷ types) n (suc k) t e h g =
    let own = tree_of (tree_in trees) x in
    let two = both (list_all (λ k. nat_lt k n) (parts_of x)) (has_parts_before (n + 1) types) h in
    let is : n + suc k ≡ n + 1 + k = omega arith in
    ap (tree_in (trees_after (trees ++ own ∷ []) types)) is
    ∙ type_there (trees ++ own ∷ []) types (n + 1) k t (omega (arith, e, length-append trees (own ∷ []))) two.1 g

-- the tree of the type at a place of a table
pub type_of_index : (types : List Ty) (k : ℕ) (t : Ty) → IsTable types → slice_get types k ≡ Some t → type_at types k ≡ tree_of (type_at types) t
type_of_index types k t i e = let is : 0 + k ≡ k = omega arith in ap (type_at types) (sym is) ∙ type_there [] types 0 k t refl i.parts_first e

-- a table with one more type, which was not there, is one
pub table_more : (types : List Ty) (t : Ty) → IsTable types → AllByRecursion (λ k. k < length types) (parts_of t) → ((n : ℕ)
    → slice_get types n ≡ Some t → ⊥) → length types + 1 < 2 ^ 32 → IsTable (types ++ t ∷ [])
table_more types t i p missing few = record {
  parts_first = parts_more 0 types t i.parts_first (subst (λ m. AllByRecursion (λ k. k < m) (parts_of t)) (add_first (length types)) p);
  one_number = λ m n h g e. one m n (last_or (omega (arith, h, longer))) (last_or (omega (arith, g, longer))) e;
  few = omega (arith, few, longer);
}
  where
    add_first : (a : ℕ) → a ≡ 0 + a
    add_first a = omega arith

    longer : length (types ++ t ∷ []) ≡ length types + 1
    longer = length-append types (t ∷ [])

    last_or : {m : ℕ} → m < length types + 1 → (m < length types) ⊎ (m ≡ length types)
    last_or {m} h = split m (length types) h
      where
        split : (m n : ℕ) → m < n + 1 → (m < n) ⊎ (m ≡ n)
        split m zero h = inr (omega arith)
        split zero (suc n) h = inl (omega arith)
        split (suc m) (suc n) h = elim (split m n (omega arith)) [
          | inl l ↦ inl (omega (arith, l))
          | inr e ↦ inr (omega (arith, e))
        ]

    new : (m : ℕ) → m < length types → type_at types m ≡ tree_of (type_at types) t → ⊥
    new m h e =
        let here = slice_get-get_or types m t h in
        let u = get_or types m t in
        let own = type_of_index types m u i here in
        let parts = parts_at 0 m types u i.parts_first here in
        let within = smaller (0 + m) (length types) (omega (arith, h)) (parts_of u) parts in
        let same = one_type (type_at types) (length types) i.one_number u t within p (sym own ∙ e) in
        missing m (here ∙ ap Some same)
      where
        smaller : (a b : ℕ) → a ≤ b → (xs : List ℕ) → AllByRecursion (λ k. k < a) xs → AllByRecursion (λ k. k < b) xs
        smaller a b l [] h = tt
        smaller a b l (x ∷ xs) h = let less = h.0 in (omega (arith, less, l), smaller a b l xs h.1)

    one : (m n : ℕ) → (m < length types) ⊎ (m ≡ length types) → (n < length types) ⊎ (n ≡ length types)
        → type_at (types ++ t ∷ []) m ≡ type_at (types ++ t ∷ []) n → m ≡ n
    one m n (inl h) (inl g) e = i.one_number m n h g (sym (type_before types t m h) ∙ e ∙ type_before types t n g)
    one m n (inl h) (inr g) e = absurd (new m h (sym (type_before types t m h) ∙ e ∙ type_last types t n g))
    one m n (inr h) (inl g) e = absurd (new n g (sym (type_before types t n g) ∙ sym e ∙ type_last types t m h))
    one m n (inr h) (inr g) e = h ∙ sym g

-- one more type extends a table
pub extends_more : (types : List Ty) (t : Ty) → Extends types (types ++ t ∷ [])
extends_more types t = record { more = let longer = length-append types (t ∷ []) in omega (arith, longer); same = λ k h. type_before types t k h }

-- a table extends itself
pub extends_self : (types : List Ty) → Extends types types
extends_self types = record { more = omega arith; same = λ k h. refl }

-- extensions in turn
pub extends_twice : (xs ys zs : List Ty) → Extends xs ys → Extends ys zs → Extends xs zs
extends_twice xs ys zs e f =
    let one = e.more in
    let two = f.more in
    record { more = omega (arith, one, two); same = λ k h. f.same k (omega (arith, h, one)) ∙ e.same k h }

-- no types
pub table_none : IsTable []
table_none = record { parts_first = refl; one_number = λ m n h g e. absurd (omega (arith, h)); few = omega arith }
