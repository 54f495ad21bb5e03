-- Bytes that are copied to the front of a list, or into its middle.
use Rattle.std.proofs.Common.{◌≡◌, ℕ, ◌+◌, ◌-◌, List, ◌++◌, take, drop, length, sym, ap, ◌∙◌}
use Rattle.std.proofs.Common.{length-drop}
use Rattle.std.proofs.Math.Seq.{take-length, take-append_seam}
use Rattle.std.proofs.lemmas.List.{take-append-drop, drop-drop}

-- The part from i to the end is the list without its first i.
pub whole_rest : (bs : List ℕ) (i : ℕ) → take (length bs - i) (drop i bs) ≡ drop i bs
whole_rest bs i = ap (λ n. take n (drop i bs)) (sym (length-drop i bs)) ∙ take-length (drop i bs)

-- As many bytes as were put in front of a list are its front.
pub front_put : (front rest : List ℕ) (n : ℕ) → length front ≡ n → take n (front ++ rest) ≡ front
front_put front rest n size = ap (λ k. take k (front ++ rest)) (sym size) ∙ take-append_seam front rest

-- The n bytes of a list from i on, moved to the front of another, and the list from i + n on, are the list from i on.
pub front_moved : (bs front rest : List ℕ) (i n : ℕ) → length front ≡ n → front ≡ take n (drop i bs)
    → drop i bs ≡ take n (front ++ rest) ++ drop (i + n) bs
front_moved bs front rest i n size same =
    sym (take-append-drop n (drop i bs)) ∙ ap (λ l. l ++ drop n (drop i bs)) (sym (front_put front rest n size ∙ same))
    ∙ ap (λ l. take n (front ++ rest) ++ l) (drop-drop n i bs)
