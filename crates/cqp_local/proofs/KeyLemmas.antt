-- Keys of parts, channels and groups stand apart, and each is that of one number.
use Rattle.std.proofs.Common.{◌≡◌, ℕ, true, false, Bool, List, [], ◌∷◌, ◌++◌, map, ◌==◌, ◌||◌, refl, ap, arith, eq-eqb, ne_eqb, ◌∙◌}
use mathlib.Core.Logic.{dite}
use native.Mathlib.Decide.{ℕ_discrete}
use Rattle.cqp_book.specs.Keys.{has}
use Rattle.cqp_machine.specs.Keys.{part_key, chan_key, group_key}
use Rattle.cqp_machine.specs.Touched.{keys_of}

-- a key in two lists, one behind the other
pub has-append : (k : ℕ) (xs ys : List ℕ) → has k (xs ++ ys) ≡ (has k xs || has k ys)
has-append k [] ys = refl
has-append k (x ∷ xs) ys = ap (λ b. (k == x) || b) (has-append k xs ys) ∙ or_assoc (k == x) (has k xs) (has k ys)
  where
    or_assoc : (a b c : Bool) → (a || (b || c)) ≡ ((a || b) || c)
    or_assoc true b c = refl
    or_assoc false b c = refl

-- numbers of one kind are told apart by their keys
has_in : (key : ℕ → ℕ) → ((m n : ℕ) → key m ≡ key n → m ≡ n) → (n : ℕ) (xs : List ℕ) → has (key n) (map key xs) ≡ has n xs
has_in key one n [] = refl
has_in key one n (x ∷ xs) = dite (ℕ_discrete n x)
    (λ (e : n ≡ x). rw (eq-eqb n x e, eq-eqb (key n) (key x) (ap key e)) refl)
    (λ (e : n ≡ x → ⊥). rw (ne_eqb n x e, ne_eqb (key n) (key x) (λ z. e (one n x z))) (has_in key one n xs))

-- and none is of another kind
has_none : (key : ℕ → ℕ) (k : ℕ) → ((n : ℕ) → k ≡ key n → ⊥) → (xs : List ℕ) → has k (map key xs) ≡ false
has_none key k other [] = refl
has_none key k other (x ∷ xs) = rw (ne_eqb k (key x) (other x)) (has_none key k other xs)

-- nothing beside a test changes it
or_false : (b : Bool) → (b || false) ≡ b
or_false true = refl
or_false false = refl

-- among keys of all kinds
has_three : (k : ℕ) (ps cs gs : List ℕ) → has k (keys_of ps cs gs) ≡ (has k (map part_key ps) || (has k (map chan_key cs) || has k (map group_key gs)))
has_three k ps cs gs =
    has-append k (map part_key ps) (map chan_key cs ++ map group_key gs)
    ∙ ap (λ b. has k (map part_key ps) || b) (has-append k (map chan_key cs) (map group_key gs))

-- a part's key is among keys of all kinds where the part is among the parts
pub has_part : (n : ℕ) (ps cs gs : List ℕ) → has (part_key n) (keys_of ps cs gs) ≡ has n ps
has_part n ps cs gs =
    let own = has_in part_key (λ a b e. omega arith) n ps in
    let no_chan = has_none chan_key (part_key n) (λ m e. omega arith) cs in
    let no_group = has_none group_key (part_key n) (λ m e. omega arith) gs in
    has_three (part_key n) ps cs gs ∙ rw (own, no_chan, no_group) (or_false (has n ps))

-- so is a channel's
pub has_chan : (n : ℕ) (ps cs gs : List ℕ) → has (chan_key n) (keys_of ps cs gs) ≡ has n cs
has_chan n ps cs gs =
    let own = has_in chan_key (λ a b e. omega arith) n cs in
    let no_part = has_none part_key (chan_key n) (λ m e. omega arith) ps in
    let no_group = has_none group_key (chan_key n) (λ m e. omega arith) gs in
    has_three (chan_key n) ps cs gs ∙ rw (own, no_part, no_group) (or_false (has n cs))

-- so is a group's
pub has_group : (n : ℕ) (ps cs gs : List ℕ) → has (group_key n) (keys_of ps cs gs) ≡ has n gs
has_group n ps cs gs =
    let own = has_in group_key (λ a b e. omega arith) n gs in
    let no_part = has_none part_key (group_key n) (λ m e. omega arith) ps in
    let no_chan = has_none chan_key (group_key n) (λ m e. omega arith) cs in
    has_three (group_key n) ps cs gs ∙ rw (own, no_part, no_chan) refl
