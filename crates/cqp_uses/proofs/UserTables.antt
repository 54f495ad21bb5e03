-- The table of users with one node more.
use Rattle.std.proofs.Common.{◌≡◌, ◌≢◌, ℕ, zero, suc, true, false, List, [], ◌∷◌, ◌++◌, ◌+◌, ◌<◌, ◌==◌, length, slice_index_or, replicate, append_assoc, refl}
use Rattle.std.proofs.Common.{sym, ap, subst, arith, ◌∙◌, ⊎_elim, get_or-set_other, get_or-set_same, length-set}
use Rattle.std.proofs.lemmas.Bool.{cases_Bool, eqb-true, eq-eqb}
use Rattle.std.specs.List.{AllByRecursion}
use Rattle.cqp_syntax.specs.NodeNames.{uses_in}
use Rattle.cqp_syntax.specs.Listing.{Listing}
use Rattle.cqp_parts.specs.Parts.{node_at}
use Rattle.cqp_uses.specs.Users.{used_in, with_user, with_users, UsersBelow}
use Rattle.cqp_parts.proofs.Lists.{flat_step}

-- the users of a name in a table
abbrev users_at : List (List ℕ) → ℕ → List ℕ
users_at us x = slice_index_or us x []

-- nothing behind a list changes it
nothing_behind : (xs : List ℕ) → xs ≡ xs ++ []
nothing_behind [] = refl
nothing_behind (x ∷ xs) = ap (λ ys. x ∷ ys) (nothing_behind xs)

-- one use more
one_more : (n y x : ℕ) (us : List (List ℕ)) → y < length us → users_at (with_user n y us) x ≡ users_at us x ++ used_in x n (y ∷ [])
one_more n y x us h = ⊎_elim
    (λ (t : (y == x) ≡ true).
    let e : y ≡ x = eqb-true y x t in
    let put : users_at (with_user n y us) y ≡ users_at us y ++ n ∷ [] = rw get_or-set_same refl in
    subst (λ k. users_at (with_user n y us) k ≡ users_at us k ++ n ∷ []) e put ∙ rw t refl)
    (λ (t : (y == x) ≡ false).
    let other : x ≢ y = λ e. let same : (y == x) ≡ true = eq-eqb y x (sym e) in absurd (cc (sym t ∙ same)) in
    let put : users_at (with_user n y us) x ≡ users_at us x = rw get_or-set_other refl in
    put ∙ rw t (nothing_behind (users_at us x)))
    (cases_Bool (y == x))

-- a user more changes no count of names
pub length_with : (n y : ℕ) (us : List (List ℕ)) → length (with_user n y us) ≡ length us
length_with n y us = length-set us y (users_at us y ++ n ∷ [])

-- the uses of a node name by name
used_both : (x n y : ℕ) (ys : List ℕ) → used_in x n (y ∷ []) ++ used_in x n ys ≡ used_in x n (y ∷ ys)
used_both x n y ys = ⊎_elim (λ (t : (y == x) ≡ true). rw t refl) (λ (t : (y == x) ≡ false). rw t refl) (cases_Bool (y == x))

-- the users of a name with those of one node more
all_more : (n x : ℕ) (ys : List ℕ) (us : List (List ℕ)) → AllByRecursion (λ y. y < length us) ys
    → users_at (with_users n ys us) x ≡ users_at us x ++ used_in x n ys
all_more n x [] us a = nothing_behind (users_at us x)
all_more n x (y ∷ ys) us a =
    let within = subst (λ k. AllByRecursion (λ z. z < k) ys) (sym (length_with n y us)) a.1 in
    all_more n x ys (with_user n y us) within ∙ (ap (λ zs. zs ++ used_in x n ys) (one_more n y x us a.0)
    ∙ (append_assoc (users_at us x) (used_in x n (y ∷ [])) (used_in x n ys) ∙ ap (λ zs. users_at us x ++ zs) (used_both x n y ys)))

-- users more change no count of names
pub length_with_all : (n : ℕ) (ys : List ℕ) (us : List (List ℕ)) → length (with_users n ys us) ≡ length us
length_with_all n [] us = refl
length_with_all n (y ∷ ys) us = length_with_all n ys (with_user n y us) ∙ length_with n y us

-- with the users of one node more
pub users_more : (l : Listing) (us : List (List ℕ)) (n : ℕ) → UsersBelow l us n → AllByRecursion (λ y. y < length l.ty_of) (uses_in (node_at l n))
    → UsersBelow l (with_users n (uses_in (node_at l n)) us) (n + 1)
users_more l us n before within =
    let all = subst (λ k. AllByRecursion (λ y. y < k) (uses_in (node_at l n))) (sym before.count) within in
    record {
      count = length_with_all n (uses_in (node_at l n)) us ∙ before.count;
      each = λ x h. all_more n x (uses_in (node_at l n)) us all ∙ (ap (λ zs. zs ++ used_in x n (uses_in (node_at l n))) (before.each x h)
          ∙ sym (flat_step (λ m. used_in x m (uses_in (node_at l m))) n));
    }

-- no user at first
none_at : (count x : ℕ) → users_at (replicate count []) x ≡ []
none_at zero x = refl
none_at (suc count) zero = refl
none_at (suc count) (suc x) = none_at count x

-- so many names have no user
length_none : (count : ℕ) → length (replicate {A = List ℕ} count []) ≡ count
length_none zero = refl
length_none (suc count) = omega (arith, length_none count)

-- a table without users is that of no node
pub users_begin : (l : Listing) (us : List (List ℕ)) → us ≡ replicate (length l.ty_of) [] → UsersBelow l us 0
users_begin l us h = record { count = ap length h ∙ length_none (length l.ty_of); each = λ x w. ap (λ ts. users_at ts x) h ∙ none_at (length l.ty_of) x }
