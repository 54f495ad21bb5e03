-- Tables filled from the last number to the first.
use Rattle.std.proofs.Common.{◌≡◌, ◌≢◌, ℕ, ◌+◌, ◌<◌, ◌≤◌, List, length, slice_index, set, ◌∙◌, subst, arith, ⊎_elim, refl, get_or-set_other, get_or-set_same}
use Rattle.std.proofs.lemmas.Bool.{cases_lt}

-- an entry of a table in which one more was filled in
pub entry : (xs : List ℕ) (n v m : ℕ) (f : ℕ → ℕ) → n < length xs → v ≡ f n → n ≤ m → (n + 1 ≤ m → slice_index xs m ≡ f m) → slice_index (set xs n v) m ≡ f m
entry xs n v m f within is low later = ⊎_elim
    (λ (more : n < m). let other : m ≢ n = omega arith in rw get_or-set_other (later (omega arith)))
    (λ (same : m ≤ n). let e : n ≡ m = omega arith in
    let put : slice_index (set xs n v) n ≡ v = rw get_or-set_same refl in
    subst (λ k. slice_index (set xs n v) k ≡ f k) e (put ∙ is))
    (cases_lt n m)

-- what holds here and later holds from here on
pub from_here : (P : ℕ → Type 0) (n m : ℕ) → n ≤ m → P n → (n + 1 ≤ m → P m) → P m
from_here P n m low here later = ⊎_elim
    (λ (more : n < m). later (omega arith))
    (λ (same : m ≤ n). let e : n ≡ m = omega arith in subst P e here)
    (cases_lt n m)
