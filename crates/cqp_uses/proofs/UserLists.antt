-- The users of a name are the numbers of the nodes that use it, and rise.
use Rattle.std.proofs.Common.{◌≡◌, ℕ, zero, suc, true, false, Bool, List, [], ◌∷◌, ◌++◌, ◌+◌, ◌≤◌, ◌<◌, ◌==◌, ◌||◌, ◌⊎◌, inl, inr, refl, sym, ap, subst, arith}
use Rattle.std.proofs.Common.{◌∙◌, ⊎_elim}
use Rattle.std.proofs.lemmas.Bool.{cases_Bool, cases_lt}
use Rattle.std.specs.List.{list_any, AllByRecursion}
use Rattle.cqp_syntax.specs.NodeNames.{uses_in}
use Rattle.cqp_syntax.specs.Listing.{Listing}
use Rattle.cqp_parts.specs.Parts.{node_at}
use Rattle.cqp_uses.specs.Users.{used_in, users_below}
use Rattle.cqp_uses.proofs.FreeUses.{uses_at}
use Rattle.cqp_parts.proofs.Lists.{flat_step}

-- numbers that rise, none of them below the first
abbrev pub RiseFrom : ℕ → List ℕ → Type 0
RiseFrom a [] = Unit {0}
RiseFrom a (m ∷ ms) = (a ≤ m) × RiseFrom m ms

-- all of them are below
abbrev pub Below : ℕ → List ℕ → Type 0
Below n ms = AllByRecursion (λ m. m < n) ms

-- a number that is there
abbrev pub IsIn : ℕ → List ℕ → Type 0
IsIn m [] = ⊥
IsIn m (k ∷ ks) = (k ≡ m) ⊎ IsIn m ks

-- numbers below n are below the next
below_more : (n : ℕ) (ms : List ℕ) → Below n ms → Below (n + 1) ms
below_more n [] h = tt
below_more n (m ∷ ms) h = (omega (arith, h.0), below_more n ms h.1)

-- two lists below n are below n together
both_below : (n : ℕ) (ms ks : List ℕ) → Below n ms → Below n ks → Below n (ms ++ ks)
both_below n [] ks a b = b
both_below n (m ∷ ms) ks a b = (a.0, both_below n ms ks a.1 b)

-- two lists that rise, the first below the second, rise together
both_rise : (a n : ℕ) (ms ks : List ℕ) → a ≤ n → RiseFrom a ms → Below (n + 1) ms → RiseFrom n ks → RiseFrom a (ms ++ ks)
both_rise a n [] [] h r b s = tt
both_rise a n [] (k ∷ ks) h r b s = (omega (arith, s.0), s.1)
both_rise a n (m ∷ ms) ks h r b s = (r.0, both_rise m n ms ks (omega (arith, b.0)) r.1 b.1 s)

-- what is in the first list is in both
in_first : (m : ℕ) (ms ks : List ℕ) → IsIn m ms → IsIn m (ms ++ ks)
in_first m [] ks i = elim i [ ]
in_first m (k ∷ ms) ks (inl e) = inl e
in_first m (k ∷ ms) ks (inr i) = inr (in_first m ms ks i)

-- so is what is in the second
in_second : (m : ℕ) (ms ks : List ℕ) → IsIn m ks → IsIn m (ms ++ ks)
in_second m [] ks i = i
in_second m (k ∷ ms) ks i = inr (in_second m ms ks i)

-- the uses of one node
module _ (x n : ℕ) where
  -- a node's own number is below the next
  own_below : (ys : List ℕ) → Below (n + 1) (used_in x n ys)
  own_below [] = tt
  own_below (y ∷ ys) = ⊎_elim
      (λ (t : (y == x) ≡ true). rw t (omega arith, own_below ys))
      (λ (t : (y == x) ≡ false). rw t (own_below ys))
      (cases_Bool (y == x))

  -- it is at least itself
  own_rise : (ys : List ℕ) → RiseFrom n (used_in x n ys)
  own_rise [] = tt
  own_rise (y ∷ ys) = ⊎_elim
      (λ (t : (y == x) ≡ true). rw t (omega arith, own_rise ys))
      (λ (t : (y == x) ≡ false). rw t (own_rise ys))
      (cases_Bool (y == x))

  -- where it stands the node uses the name
  own_used : (ys : List ℕ) (u : Bool) → list_any (λ y. y == x) ys ≡ u → AllByRecursion (λ m. u ≡ true) (used_in x n ys)
  own_used [] u h = tt
  own_used (y ∷ ys) u h = ⊎_elim
      (λ (t : (y == x) ≡ true). let yes_ : u ≡ true = sym h ∙ ap (λ b. b || list_any (λ z. z == x) ys) t in rw t (yes_, all_so (used_in x n ys) yes_))
      (λ (t : (y == x) ≡ false). let rest : list_any (λ z. z == x) ys ≡ u = ap (λ b. b || list_any (λ z. z == x) ys) (sym t) ∙ h in rw t (own_used ys u rest))
      (cases_Bool (y == x))
    where
      all_so : (ms : List ℕ) → u ≡ true → AllByRecursion (λ m. u ≡ true) ms
      all_so [] k = tt
      all_so (m ∷ ms) k = (k, all_so ms k)

  -- where the node uses the name it stands
  own_in : (ys : List ℕ) → list_any (λ y. y == x) ys ≡ true → IsIn n (used_in x n ys)
  own_in [] h = absurd (cc h)
  own_in (y ∷ ys) h = ⊎_elim
      (λ (t : (y == x) ≡ true). rw t (inl refl))
      (λ (t : (y == x) ≡ false). let rest : list_any (λ z. z == x) ys ≡ true = ap (λ b. b || list_any (λ z. z == x) ys) (sym t) ∙ h in rw t (own_in ys rest))
      (cases_Bool (y == x))

-- what a list of users is
pub record AreUsers (l : Listing) (x n : ℕ) (ms : List ℕ) : Type 0 where
  pub below : Below n ms
  pub rise : RiseFrom 0 ms
  pub uses : AllByRecursion (λ m. uses_at l x m ≡ true) ms
  pub all : (m : ℕ) → m < n → uses_at l x m ≡ true → IsIn m ms

-- what holds of two lists holds of both together
both_use : (p : ℕ → Type 0) (ms ks : List ℕ) → AllByRecursion p ms → AllByRecursion p ks → AllByRecursion p (ms ++ ks)
both_use p [] ks a b = b
both_use p (m ∷ ms) ks a b = (a.0, both_use p ms ks a.1 b)

-- numbers that are n are those of users
use_here : (l : Listing) (x n : ℕ) (ms : List ℕ) → Below (n + 1) ms → RiseFrom n ms → AllByRecursion (λ m. uses_at l x n ≡ true) ms
    → AllByRecursion (λ m. uses_at l x m ≡ true) ms
use_here l x n [] b r a = tt
use_here l x n (m ∷ ms) b r a =
    let same : n ≡ m = omega (arith, b.0, r.0) in
    (subst (λ k. uses_at l x k ≡ true) same a.0, use_here l x n ms b.1 (subst (λ k. RiseFrom k ms) (sym same) r.1) a.1)

-- the users below a number are all of them, in order
pub are_users : (l : Listing) (x n : ℕ) → AreUsers l x n (users_below l n x)
are_users l x zero = record { below = tt; rise = tt; uses = tt; all = λ m h u. absurd (omega arith) }
are_users l x (suc n) =
    let before = are_users l x n in
    let own = used_in x n (uses_in (node_at l n)) in
    let below = own_below x n (uses_in (node_at l n)) in
    let next : suc n ≡ n + 1 = omega arith in
    let joined : users_below l (suc n) x ≡ users_below l n x ++ own =
    ap (λ k. users_below l k x) next ∙ flat_step (λ m. used_in x m (uses_in (node_at l m))) n in
    let old : Below (n + 1) (users_below l n x) = below_more n (users_below l n x) before.below in
    rw joined (record {
      below = subst (λ k. Below k (users_below l n x ++ own)) (sym next) (both_below (n + 1) (users_below l n x) own old below);
      rise = both_rise 0 n (users_below l n x) own (omega arith) before.rise old (own_rise x n (uses_in (node_at l n)));
      uses = both_use (λ m. uses_at l x m ≡ true) (users_below l n x) own before.uses
          (use_here l x n own below (own_rise x n (uses_in (node_at l n))) (own_used x n (uses_in (node_at l n)) (uses_at l x n) refl));
      all = λ m h u. ⊎_elim
          (λ (t : m < n). in_first m (users_below l n x) own (before.all m t u))
          (λ (t : n ≤ m). let same : n ≡ m = omega arith in in_second m (users_below l n x) own
          (subst (λ k. IsIn k own) same (own_in x n (uses_in (node_at l n)) (subst (λ k. uses_at l x k ≡ true) (sym same) u))))
          (cases_lt m n);
    })
