-- The tree of a type of a list is that of its parts' trees.
use Rattle.std.proofs.Common.{◌≡◌, ℕ, zero, suc, ◌+◌, ◌<◌, ◌≤◌, Bool, true, ◌&&◌, nat_lt, List, [], ◌∷◌, ◌++◌, length, length-append}
use Rattle.std.proofs.Common.{refl, sym, ◌∙◌, ap, ap₂, subst, arith, slice_get, Some, None, slice_index_or, get_or}
use Rattle.std.specs.List.{list_all, AllByRecursion}
use Rattle.std.proofs.Math.ListN.{get_or-append}
use Rattle.std.proofs.Math.Seq.{get_or-append_seam}
use Rattle.std.proofs.lemmas.Bool.Decides.{nat_tests}
use Rattle.cqp_syntax.specs.declared.ty.Ty.{Ty}
use Rattle.cqp_syntax.specs.declared.ty.Ty.TheVariants as ty
use Rattle.cqp_syntax.specs.TypeTrees.{TypeTree, int_type, op_type, chan_type, type_and, trees_at, tree_of, tree_in, trees_after, type_at, parts_of, has_parts_before}
use Rattle.cqp_syntax.proofs.Bools.{both}

-- trees that stand stay
tree_kept : (trees : List TypeTree) (ts : List Ty) (k : ℕ) → k < length trees → tree_in (trees_after trees ts) k ≡ tree_in trees k
tree_kept trees [] k h = refl
tree_kept trees (t ∷ ts) k h =
    let more = tree_of (tree_in trees) t ∷ [] in
    tree_kept (trees ++ more) ts k (omega (arith, length-append trees more)) ∙ get_or-append trees more int_type k h

-- trees at numbers are the same where the trees are
same_trees : (f g : ℕ → TypeTree) (n : ℕ) → ((k : ℕ) → k < n → f k ≡ g k) → (ks : List ℕ) → list_all (λ k. nat_lt k n) ks ≡ true → trees_at f ks ≡ trees_at g ks
same_trees f g n same [] h = refl
same_trees f g n same (k ∷ ks) h =
    let parts = both (nat_lt k n) (list_all (λ k. nat_lt k n) ks) h in
    let below : k < n = grind (arith, nat_tests, parts.0) in
    ap₂ type_and (same k below) (same_trees f g n same ks parts.1)

-- a type whose parts are below n has one tree over trees that agree below n
same_tree : (f g : ℕ → TypeTree) (n : ℕ) → ((k : ℕ) → k < n → f k ≡ g k) → (t : Ty) → list_all (λ k. nat_lt k n) (parts_of t) ≡ true → tree_of f t ≡ tree_of g t
same_tree f g n same ty.Int h = refl
same_tree f g n same ty.Unit h = refl
same_tree f g n same ty.Qbit h = refl
same_tree f g n same (ty.Op places) h = refl
same_tree f g n same (ty.Chan of) h = ap chan_type (same_trees f g n same of h)

-- the tree of a type is made of those before it
tree_after : (trees : List TypeTree) (ts : List Ty) (k : ℕ) (t : Ty) → has_parts_before (length trees) ts ≡ true → slice_get ts k ≡ Some t
    → tree_in (trees_after trees ts) (length trees + k) ≡ tree_of (tree_in (trees_after trees ts)) t
tree_after trees [] k t h found = let e : None ≡ Some t = found in absurd (cc e)
tree_after trees (s ∷ ts) zero t h found =
    let parts = both (list_all (λ k. nat_lt k (length trees)) (parts_of s)) (has_parts_before (length trees + 1) ts) h in
    let own = tree_of (tree_in trees) s in
    let all = trees_after (trees ++ own ∷ []) ts in
    let place : length trees + 0 ≡ length trees = omega arith in
    let longer : length trees < length (trees ++ own ∷ []) = omega (arith, length-append trees (own ∷ [])) in
    let is : s ≡ t = cc found in
    ap (tree_in all) place
    ∙ tree_kept (trees ++ own ∷ []) ts (length trees) longer
    ∙ get_or-append_seam trees own [] int_type
    ∙ same_tree (tree_in trees) (tree_in all) (length trees) (λ k below. sym (tree_kept trees (s ∷ ts) k below)) s parts.0
    ∙ ap (tree_of (tree_in all)) is
tree_after trees (s ∷ ts) (suc k) t h found =
    let parts = both (list_all (λ k. nat_lt k (length trees)) (parts_of s)) (has_parts_before (length trees + 1) ts) h in
    let own = tree_of (tree_in trees) s in
    let longer : length (trees ++ own ∷ []) ≡ length trees + 1 = length-append trees (own ∷ []) in
    let place : length trees + suc k ≡ length (trees ++ own ∷ []) + k = omega arith in
    ap (tree_in (trees_after (trees ++ own ∷ []) ts)) place
    ∙ tree_after (trees ++ own ∷ []) ts k t (subst (λ n. has_parts_before n ts ≡ true) (sym longer) parts.1) found

-- the tree of the type with a number is made of those of its parts
pub tree_at : (types : List Ty) (n : ℕ) (t : Ty) → has_parts_before 0 types ≡ true → slice_get types n ≡ Some t → type_at types n ≡ tree_of (type_at types) t
tree_at types n t h found = let place : 0 + n ≡ n = omega arith in ap (type_at types) (sym place) ∙ tree_after [] types n t h found

-- the parts of a type of the list are numbers of the list
numbers_below : (m k : ℕ) (ks : List ℕ) → m ≤ k → list_all (λ j. nat_lt j m) ks ≡ true → AllByRecursion (λ j. j < k) ks
numbers_below m k [] h e = tt
numbers_below m k (j ∷ js) h e =
    let parts = both (nat_lt j m) (list_all (λ j. nat_lt j m) js) e in
    let below : j < m = grind (arith, nat_tests, parts.0) in
    (omega arith, numbers_below m k js h parts.1)

-- the parts of a type stand before it
parts_after : (a : ℕ) (ts : List Ty) (n count : ℕ) (t : Ty) → has_parts_before a ts ≡ true → slice_get ts n ≡ Some t → a + length ts ≤ count
    → AllByRecursion (λ j. j < count) (parts_of t)
parts_after a [] n count t h found e = let none : None ≡ Some t = found in absurd (cc none)
parts_after a (s ∷ ts) zero count t h found e =
    let parts = both (list_all (λ k. nat_lt k a) (parts_of s)) (has_parts_before (a + 1) ts) h in
    let is : s ≡ t = cc found in
    subst (λ u. AllByRecursion (λ j. j < count) (parts_of u)) is (numbers_below a count (parts_of s) (omega arith) parts.0)
parts_after a (s ∷ ts) (suc n) count t h found e =
    let parts = both (list_all (λ k. nat_lt k a) (parts_of s)) (has_parts_before (a + 1) ts) h in
    parts_after (a + 1) ts n count t parts.1 found (omega arith)

-- the parts of a type are numbers of types
pub parts_at : (types : List Ty) (n : ℕ) (t : Ty) → has_parts_before 0 types ≡ true → slice_get types n ≡ Some t → AllByRecursion (λ j. j < length types) (parts_of t)
parts_at types n t h found = parts_after 0 types n (length types) t h found (omega arith)
