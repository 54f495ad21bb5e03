-- Numbers that fit members: those of the arguments and, behind them, of the binders in turn; and nodes
-- counted up.
use Rattle.std.proofs.Common.{◌≡◌, ℕ, suc, zero, ◌+◌, ◌<◌, ◌≤◌, List, [], ◌∷◌, ◌++◌, length, take, sum_by, slice_index, refl, ap, ap₂, sym, ◌∙◌, subst}
use Rattle.std.proofs.Common.{arith, length-append, append_assoc}
use Rattle.std.proofs.lemmas.List.Sums.{sum_by-cons}
use Rattle.std.specs.List.{range_with_len, AllByRecursion}
use Rattle.cqp_expand.specs.declared.outline.Member.{Member}
use Rattle.cqp_expand.specs.declared.outline.Member.TheVariants.{Own, Call}
use Rattle.cqp_expand.specs.Expansion.{Template}
use Rattle.cqp_expand.specs.Spread.{member_binds, member_size, member_names, CountUp, Fits}
use Rattle.cqp_expand.proofs.ScopedMembers.{Scoped}
use Rattle.cqp_expand.proofs.Small.{length-range}

-- the numbers of the names that members bind, the next of which is n
abbrev pub numbers_of : List Template → ℕ → List Member → List ℕ
numbers_of all n [] = []
numbers_of all n (x ∷ xs) = range_with_len n (length (member_binds x)) ++ numbers_of all (n + member_names all x) xs

-- the element behind others
pub index_behind : (xs ys : List ℕ) (k y : ℕ) → k ≡ length xs → slice_index (xs ++ y ∷ ys) k ≡ y
index_behind [] ys zero y e = refl
index_behind [] ys (suc k) y e = absurd (omega (arith, e))
index_behind (x ∷ xs) ys zero y e = absurd (omega (arith, e))
index_behind (x ∷ xs) ys (suc k) y e = index_behind xs ys k y (omega arith)

-- an element of the first part
pub index_within : (xs ys : List ℕ) (k : ℕ) → k < length xs → slice_index (xs ++ ys) k ≡ slice_index xs k
index_within [] ys k h = absurd (omega (arith, h))
index_within (x ∷ xs) ys zero h = refl
index_within (x ∷ xs) ys (suc k) h = index_within xs ys k (omega arith)

-- numbers that count up stand where names do
range_counts : (xs ys : List ℕ) (k n c : ℕ) → k ≡ length xs → CountUp (slice_index (xs ++ (range_with_len n c ++ ys))) n (range_with_len k c)
range_counts xs ys k n zero e = tt
range_counts xs ys k n (suc c) e =
    let longer : k + 1 ≡ length (xs ++ n ∷ []) = omega (arith, e, length-append xs (n ∷ [])) in
    let more = range_counts (xs ++ n ∷ []) ys (k + 1) (n + 1) c longer in
    let is : (xs ++ n ∷ []) ++ (range_with_len (n + 1) c ++ ys) ≡ xs ++ (n ∷ (range_with_len (n + 1) c
    ++ ys)) = append_assoc xs (n ∷ []) (range_with_len (n + 1) c ++ ys) in
    (index_behind xs (range_with_len (n + 1) c ++ ys) k n e, subst (λ zs. CountUp (slice_index zs) (n + 1) (range_with_len (k + 1) c)) is more)

-- binders count up
abbrev pub Counted : List Template → (ℕ → ℕ) → ℕ → List Member → Type 0
Counted all r n [] = Unit {0}
Counted all r n (x ∷ xs) = CountUp r n (member_binds x) × Counted all r (n + member_names all x) xs

-- nodes stand behind one another
abbrev pub Started : List Template → (ℕ → ℕ) → ℕ → List Member → Type 0
Started all m i [] = Unit {0}
Started all m i (x ∷ xs) = (m (i + 1) ≡ m i + member_size all x) × Started all m (i + 1) xs

-- such numbers fit
pub fits_both : (all : List Template) (r m : ℕ → ℕ) (n i : ℕ) (xs : List Member) → Counted all r n xs → Started all m i xs → Fits all r m n i xs
fits_both all r m n i [] c s = tt
fits_both all r m n i (x ∷ xs) c s = (c.0, s.0, fits_both all r m (n + member_names all x) (i + 1) xs c.1 s.1)

-- the binders of the first member count up
own_range : (all : List Template) (defs nodes total k : ℕ) (x : Member) (xs : List Member) → Scoped all defs nodes total k (x ∷ xs)
    → member_binds x ≡ range_with_len k (length (member_binds x))
own_range all defs nodes total k (Own x) xs h = h.0.bound
own_range all defs nodes total k (Call def args) xs h = refl

-- the binders of members behind k names, the numbers of which are given
pub counts_made : (all : List Template) (defs nodes total k n : ℕ) (ys : List ℕ) (xs : List Member) → k ≡ length ys → Scoped all defs nodes total k xs
    → Counted all (slice_index (ys ++ numbers_of all n xs)) n xs
counts_made all defs nodes total k n ys [] e h = tt
counts_made all defs nodes total k n ys (x ∷ xs) e h =
    let c = length (member_binds x) in
    let own = range_with_len n c in
    let more = numbers_of all (n + member_names all x) xs in
    let longer : k + c ≡ length (ys ++ own) = omega (arith, e, length-append ys own, length-range n c) in
    let first = range_counts ys more k n c e in
    let later = counts_made all defs nodes total (k + c) (n + member_names all x) (ys ++ own) xs longer h.1 in (
      subst (λ z. CountUp (slice_index (ys ++ (own ++ more))) n z) (sym (own_range all defs nodes total k x xs h)) first,
      subst (λ z. Counted all (slice_index z) (n + member_names all x) xs) (append_assoc ys own more) later,
    )

-- nodes that are numbered by sums
pub starts_made : (all : List Template) (m : ℕ → ℕ) (f : Member → ℕ) (i c : ℕ) (xs : List Member) → AllByRecursion (λ x. f x ≡ member_size all x) xs
    → ((k : ℕ) → k ≤ length xs → m (i + k) ≡ c + sum_by f (take k xs)) → Started all m i xs
starts_made all m f i c [] a h = tt
starts_made all m f i c (x ∷ xs) a h =
    let here : i + 0 ≡ i = omega arith in
    let there : c + 0 ≡ c = omega arith in
    let start : m i ≡ c = ap m (sym here) ∙ h 0 (omega arith) ∙ there in
    let next : m (i + 1) ≡ c + f x = h 1 (omega arith) ∙ ap (λ z. c + z) (sum_by-cons f x [] ∙ add_none (f x)) in
    (next ∙ ap₂ (λ u v. u + v) (sym start) a.0, starts_made all m f (i + 1) (c + f x) xs a.1 (λ k g. later k g))
  where
    add_none : (a : ℕ) → a + 0 ≡ a
    add_none a = omega arith

    later : (k : ℕ) → k ≤ length xs → m (i + 1 + k) ≡ c + f x + sum_by f (take k xs)
    later k g =
        let is : i + 1 + k ≡ i + suc k = omega arith in
        let sum : c + sum_by f (take (suc k) (x ∷ xs)) ≡ c + f x + sum_by f (take k xs) = omega (arith, sum_by-cons f x (take k xs)) in
        ap m is ∙ h (suc k) (omega arith) ∙ sum
