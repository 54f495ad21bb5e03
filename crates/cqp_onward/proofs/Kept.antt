-- Bindings kept in place, one after another.
use Rattle.std.proofs.Common.{◌≡◌, ℕ, true, false, Bool, List, [], ◌∷◌, ◌++◌, ◌+◌, ◌≤◌, ◌<◌, length, take, drop, filter, slice_index_or, slice_set}
use Rattle.std.proofs.Common.{if◌then◌else◌, refl, sym, ap, arith, ◌∙◌}
use Rattle.cqp_parts.specs.declared.bind.Bind.{Bind}
use Rattle.cqp_parts.proofs.Lists.{take_step, take_put, drop_put, length_put, filter_yes, filter_no}

-- the next of them
abbrev pub put_at : List Bind → ℕ → Bind → Bool → List Bind
put_at xs at b stays = if stays then slice_set xs at b else xs

-- and the next place
abbrev pub next_at : ℕ → Bool → ℕ
next_at at stays = if stays then at + 1 else at

-- the next place is no further on than the next binding
pub next_low : (at i : ℕ) (stays : Bool) → at ≤ i → next_at at stays ≤ i + 1
next_low at i true h = omega arith
next_low at i false h = omega arith

-- as many bindings as before
pub put_count : (xs : List Bind) (at : ℕ) (b : Bind) (stays : Bool) → length (put_at xs at b stays) ≡ length xs
put_count xs at b true = length_put xs at b
put_count xs at b false = refl

-- those further on are as they were
pub put_rest : (xs : List Bind) (at i : ℕ) (b : Bind) (stays : Bool) → at ≤ i → drop (i + 1) (put_at xs at b stays) ≡ drop (i + 1) xs
put_rest xs at i b true h = drop_put xs at (i + 1) b (omega arith)
put_rest xs at i b false h = refl

-- an element that was tested
pub kept_step : (p : Bind → Bool) (xs ys : List Bind) (at i : ℕ) (b : Bind) (stays : Bool) → at < length xs → i < length ys → b ≡ slice_index_or ys i b
    → stays ≡ p b
    → take at xs ≡ filter p (take i ys) → take (next_at at stays) (put_at xs at b stays) ≡ filter p (take (i + 1) ys)
kept_step p xs ys at i b true h w e t told =
    take_put xs at b h
    ∙ (ap (λ zs. zs ++ b ∷ []) told ∙ (sym (filter_yes p (take i ys) b (sym t)) ∙ ap (filter p) (ap (λ c. take i ys ++ c ∷ []) e ∙ sym (take_step ys i b w))))
kept_step p xs ys at i b false h w e t told =
    told ∙ (sym (filter_no p (take i ys) b (sym t)) ∙ ap (filter p) (ap (λ c. take i ys ++ c ∷ []) e ∙ sym (take_step ys i b w)))
