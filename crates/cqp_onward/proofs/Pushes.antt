-- Bindings pushed one after another.
use Rattle.std.proofs.Common.{◌≡◌, ℕ, zero, suc, List, [], ◌∷◌, ◌++◌, ◌+◌, ◌≤◌, ◌<◌, length, take, drop, slice_index_or, ◌⊎◌, inl, inr, refl, sym, ap, ap₂}
use Rattle.std.proofs.Common.{arith, ◌∙◌}
use Rattle.std.specs.List.{AllByRecursion}
use Rattle.cqp_syntax.specs.declared.val.Val.{Val}
use Rattle.cqp_parts.specs.declared.bind.Bind.{Bind}
use Rattle.cqp_parts.specs.Parts.{bound_to}
use Rattle.cqp_parts.proofs.Lists.{drop_first}

-- the front stays
pub front_stays : {X : Type 0} (n : ℕ) (xs ys : List X) → n ≤ length xs → take n (xs ++ ys) ≡ take n xs
front_stays zero xs ys h = refl
front_stays (suc n) [] ys h = absurd (omega arith)
front_stays (suc n) (x ∷ xs) ys h = ap (λ zs. x ∷ zs) (front_stays n xs ys (omega arith))

-- one binding more
pub bound_step : (names : List ℕ) (vals : List Val) (i x : ℕ) (v : Val) → i < length names → i < length vals → slice_index_or names i x ≡ x
    → slice_index_or vals i v ≡ v
    → bound_to (drop i names) (drop i vals) ≡ (record { name = x; val = v }) ∷ bound_to (drop (i + 1) names) (drop (i + 1) vals)
bound_step names vals i x v h k e f =
    ap₂ bound_to (drop_first names i x h ∙ ap (λ y. y ∷ drop (i + 1) names) e) (drop_first vals i v k ∙ ap (λ w. w ∷ drop (i + 1) vals) f)

-- nothing is left past the end
drop_past : {X : Type 0} (xs : List X) (i : ℕ) → length xs ≤ i → drop i xs ≡ []
drop_past [] zero h = refl
drop_past [] (suc i) h = refl
drop_past (x ∷ xs) zero h = absurd (omega arith)
drop_past (x ∷ xs) (suc i) h = drop_past xs i (omega arith)

-- without values no name is bound
none_without_values : (xs : List ℕ) → bound_to xs [] ≡ []
none_without_values [] = refl
none_without_values (x ∷ xs) = refl

-- none is left behind the shorter of the two lists
pub bound_done : (names : List ℕ) (vals : List Val) (i : ℕ) → (length names ≤ i) ⊎ (length vals ≤ i) → bound_to (drop i names) (drop i vals) ≡ []
bound_done names vals i (inl h) = ap (λ xs. bound_to xs (drop i vals)) (drop_past names i h)
bound_done names vals i (inr h) = ap (bound_to (drop i names)) (drop_past vals i h) ∙ none_without_values (drop i names)

-- nothing behind a list
pub unchanged : (xs ys : List Bind) → ys ≡ [] → xs ≡ xs ++ ys
unchanged [] ys h = sym h
unchanged (x ∷ xs) ys h = ap (λ zs. x ∷ zs) (unchanged xs ys h)

-- what holds of both holds of all
pub all_both : (P : Bind → Type 0) (xs ys : List Bind) → AllByRecursion P xs → AllByRecursion P ys → AllByRecursion P (xs ++ ys)
all_both P [] ys a b = b
all_both P (x ∷ xs) ys a b = (a.0, all_both P xs ys a.1 b)

-- names that are below n are so in their bindings
pub bound_within : (n : ℕ) (names : List ℕ) (vals : List Val) → AllByRecursion (λ x. x < n) names
    → AllByRecursion (λ (b : Bind). b.name < n) (bound_to names vals)
bound_within n [] vals a = tt
bound_within n (x ∷ xs) [] a = tt
bound_within n (x ∷ xs) (v ∷ vs) a = (a.0, bound_within n xs vs a.1)

-- the front of two lists
pub front_of : {X : Type 0} (xs ys : List X) → take (length xs) (xs ++ ys) ≡ xs
front_of [] ys = refl
front_of (x ∷ xs) ys = ap (λ zs. x ∷ zs) (front_of xs ys)
