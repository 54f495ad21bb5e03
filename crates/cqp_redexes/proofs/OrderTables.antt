-- The table of an order with one start more.
use Rattle.std.proofs.Common.{◌≡◌, ℕ, List, [], ◌∷◌, ◌++◌, ◌+◌, ◌≤◌, ◌<◌, length, slice_index, ap, arith, ◌∙◌, ⊎_elim}
use Rattle.std.proofs.lemmas.Bool.{cases_lt}
use Rattle.std.proofs.lemmas.List.{get_or_append_left, get_or_push}
use Rattle.std.specs.List.{AllByRecursion}

-- one start more stands last
pub more_starts : (xs : List ℕ) (n x : ℕ) (f : ℕ → ℕ) → length xs ≡ n → ((k : ℕ) → k < n → slice_index xs k ≡ f k) → x ≡ f n → (k : ℕ) → k < n + 1
    → slice_index (xs ++ x ∷ []) k ≡ f k
more_starts xs n x f count before last k h = ⊎_elim
    (λ (t : k < n). get_or_append_left xs (x ∷ []) 0 k (omega (arith, count)) ∙ before k t)
    (λ (t : n ≤ k). let same : n ≡ k = omega arith in get_or_push xs x 0 k (count ∙ same) ∙ (last ∙ ap f same))
    (cases_lt k n)

-- starts that are within stay so with one more
pub more_within : (a b x : ℕ) (xs : List ℕ) → a ≤ b → x ≤ b → AllByRecursion (λ at. at ≤ a) xs → AllByRecursion (λ at. at ≤ b) (xs ++ x ∷ [])
more_within a b x [] h k all = (k, tt)
more_within a b x (y ∷ ys) h k all = (omega (arith, all.0), more_within a b x ys h k all.1)
