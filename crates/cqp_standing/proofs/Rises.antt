-- Numbers that rise: what is left of them rises too.
use Rattle.std.proofs.Common.{◌≡◌, ℕ, zero, suc, true, false, Bool, List, [], ◌∷◌, ◌++◌, map, filter, ◌+◌, ◌≤◌, ◌<◌, nat_lt, append_assoc, refl, sym, ap, subst}
use Rattle.std.proofs.Common.{arith, ◌∙◌, ⊎_elim}
use Rattle.std.proofs.lemmas.Bool.{cases_Bool, and_from, lt-ltb}
use Rattle.std.proofs.lemmas.List.{map-append}
use Rattle.std.specs.List.{list_all, range_with_len, AllByRecursion}
use Rattle.cqp_syntax.specs.Trees.{Binder}
use Rattle.cqp_parts.specs.declared.bind.Bind.{Bind}
use Rattle.cqp_standing.specs.Stands.{names_of, RiseFrom, has_rising_names}

-- they rise from a lesser number on
pub from_less : (j k n : ℕ) (xs : List ℕ) → j ≤ k → RiseFrom k n xs → RiseFrom j n xs
from_less j k n [] h a = tt
from_less j k n (x ∷ xs) h a = (record { least = omega (arith, a.0.least); below = a.0.below }, a.1)

-- the end left out
without_end : (k n : ℕ) (xs ys : List ℕ) → RiseFrom k n (xs ++ ys) → RiseFrom k n xs
without_end k n [] ys a = tt
without_end k n (x ∷ xs) ys a = (a.0, without_end (x + 1) n xs ys a.1)

-- the beginning left out
without_start : (k n : ℕ) (xs ys : List ℕ) → RiseFrom k n (xs ++ ys) → RiseFrom k n ys
without_start k n [] ys a = a
without_start k n (x ∷ xs) ys a = from_less k (x + 1) n ys (omega (arith, a.0.least)) (without_start (x + 1) n xs ys a.1)

-- behind a front, the first of two
pub first_behind : (k n : ℕ) (xs ys zs : List ℕ) → RiseFrom k n (xs ++ (ys ++ zs)) → RiseFrom k n (xs ++ ys)
first_behind k n [] ys zs a = without_end k n ys zs a
first_behind k n (x ∷ xs) ys zs a = (a.0, first_behind (x + 1) n xs ys zs a.1)

-- and the second
pub second_behind : (k n : ℕ) (xs ys zs : List ℕ) → RiseFrom k n (xs ++ (ys ++ zs)) → RiseFrom k n (xs ++ zs)
second_behind k n [] ys zs a = without_start k n ys zs a
second_behind k n (x ∷ xs) ys zs a = (a.0, second_behind (x + 1) n xs ys zs a.1)

-- bindings that are kept
pub kept_rise : (keep : Bind → Bool) (k n : ℕ) (env : List Bind) (ys : List ℕ) → RiseFrom k n (names_of env ++ ys)
    → RiseFrom k n (names_of (filter keep env) ++ ys)
kept_rise keep k n [] ys a = a
kept_rise keep k n (b ∷ env) ys a = ⊎_elim
    (λ (t : keep b ≡ true). rw t (a.0, kept_rise keep (b.name + 1) n env ys a.1))
    (λ (t : keep b ≡ false). rw t
    (from_less k (b.name + 1) n (names_of (filter keep env) ++ ys) (omega (arith, a.0.least)) (kept_rise keep (b.name + 1) n env ys a.1)))
    (cases_Bool (keep b))

-- a lesser number is less than each
less_than_all : (x k n : ℕ) (env : List Bind) → x < k → RiseFrom k n (names_of env) → list_all (λ c. nat_lt x c.name) env ≡ true
less_than_all x k n [] h a = refl
less_than_all x k n (b ∷ env) h a =
    and_from (nat_lt x b.name) (list_all (λ c. nat_lt x c.name) env) (lt-ltb x b.name (omega (arith, a.0.least)))
    (less_than_all x (b.name + 1) n env (omega (arith, a.0.least)) a.1)

-- so the bindings' names rise
rising_names : (k n : ℕ) (env : List Bind) → RiseFrom k n (names_of env) → has_rising_names env ≡ true
rising_names k n [] a = refl
rising_names k n (b ∷ env) a =
    and_from (list_all (λ c. nat_lt b.name c.name) env) (has_rising_names env) (less_than_all b.name (b.name + 1) n env (omega arith) a.1)
    (rising_names (b.name + 1) n env a.1)

-- names of bindings that rise with others rise by themselves
pub names_rise : (k n : ℕ) (env : List Bind) (ys : List ℕ) → RiseFrom k n (names_of env ++ ys) → has_rising_names env ≡ true
names_rise k n env ys a = rising_names k n env (without_end k n (names_of env) ys a)

-- and are below the end
pub names_below : (k n : ℕ) (env : List Bind) (ys : List ℕ) → RiseFrom k n (names_of env ++ ys) → AllByRecursion (λ (b : Bind). b.name < n) env
names_below k n [] ys a = tt
names_below k n (b ∷ env) ys a = (a.0.below, names_below (b.name + 1) n env ys a.1)

-- numbers one behind the other rise
pub range_rises : (k m n : ℕ) → k + m ≤ n → RiseFrom k n (range_with_len k m)
range_rises k zero n h = tt
range_rises k (suc m) n h = (record { least = omega arith; below = omega arith }, range_rises (k + 1) m n (omega arith))

-- the names of binders on two sides
pub both_rise : (n : ℕ) (xs : List ℕ) (bs cs : List Binder) → RiseFrom 0 n (xs ++ map (λ (b : Binder). b.name) (bs ++ cs))
    → RiseFrom 0 n (xs ++ map (λ (b : Binder). b.name) bs) × RiseFrom 0 n (xs ++ map (λ (b : Binder). b.name) cs)
both_rise n xs bs cs a =
    let name = λ (b : Binder). b.name in
    let apart = subst (λ ys. RiseFrom 0 n (xs ++ ys)) (map-append (λ (b : Binder). b.name) bs cs) a in (
      first_behind 0 n xs (map (λ (b : Binder). b.name) bs) (map (λ (b : Binder). b.name) cs) apart,
      second_behind 0 n xs (map (λ (b : Binder). b.name) bs) (map (λ (b : Binder). b.name) cs) apart,
    )

-- further bindings behind
pub more_rise : (n : ℕ) (env more : List Bind) (ys : List ℕ) → RiseFrom 0 n (names_of env ++ (names_of more ++ ys))
    → RiseFrom 0 n (names_of (env ++ more) ++ ys)
more_rise n env more ys a =
    subst (RiseFrom 0 n) (sym (append_assoc (names_of env) (names_of more) ys) ∙ ap (λ xs. xs ++ ys) (sym (map-append (λ (b : Bind). b.name) env more))) a
