-- Parts at the places of their numbers.
use Rattle.std.proofs.Common.{◌≡◌, ◌≢◌, ℕ, ◌+◌, ◌<◌, List, [], ◌∷◌, ◌++◌, length, Option, Some, None, sym, ap, ◌∙◌, arith, eq-eqb, ne_eqb, ◌==◌, refl}
use Rattle.std.proofs.Common.{false}
use Rattle.std.specs.Prelude.{slice_set}
use Rattle.std.specs.Option.{option_to_list}
use Rattle.std.proofs.lemmas.List.{get_or-set_same, get_or-set_other, set-set, set-get_or}
use mathlib.Core.Logic.{dite}
use native.Mathlib.Decide.{ℕ_discrete}
use Rattle.cqp_parts.specs.declared.part.Part.{Part}
use Rattle.cqp_machine.specs.After.{placed, placed_from}
use Rattle.cqp_machine.specs.Cells.{with_at}
use Rattle.cqp_local.proofs.PlacedLemmas.{placed_alike, placed_at, placed_from_alike, with_at_in, with_at_out}
use Rattle.cqp_stepper.specs.Slots.{part_in}

-- what stands at each number after a change
pub put_at : (s : List (Option Part)) (n : ℕ) (x : Option Part) → n < length s → (m : ℕ)
    → part_in (slice_set s n x) m ≡ with_at n x (part_in s) m
put_at s n x h m = dite (ℕ_discrete m n)
    (λ (e : m ≡ n). ap (part_in (slice_set s n x)) e ∙ (get_or-set_same s n x None h ∙ sym (with_at_in n m x (part_in s) (eq-eqb m n e))))
    (λ (e : m ≢ n). get_or-set_other s n m x None e ∙ sym (with_at_out n m x (part_in s) (ne_eqb m n e)))

-- what was taken out and put back is there again
pub put_back : (s : List (Option Part)) (n : ℕ) (x : Option Part) → part_in s n ≡ x → slice_set (slice_set s n None) n x ≡ s
put_back s n x h = set-set s n None x ∙ (ap (slice_set s n) (sym h) ∙ set-get_or s n None)

-- changes at two numbers, in either order
two_changes : (a b m : ℕ) (x y : Option Part) (f : ℕ → Option Part) → a ≢ b → with_at a x (with_at b y f) m ≡ with_at b y (with_at a x f) m
two_changes a b m x y f apart = dite (ℕ_discrete m a)
    (λ (e : m ≡ a).
    let other : (m == b) ≡ false = ne_eqb m b (λ z. apart (sym e ∙ z)) in
    rw (eq-eqb m a e, other) refl)
    (λ (e : m ≢ a). rw (ne_eqb m a e) refl)

-- the last part may be put in its place first
pub placed_last : (n : ℕ) (ps : List Part) (p : Part) (f : ℕ → Option Part) (m : ℕ)
    → placed_from n (ps ++ p ∷ []) f m ≡ placed_from n ps (with_at (n + length ps) (Some p) f) m
placed_last n [] p f m = let same : n ≡ n + 0 = omega arith in ap (λ k. with_at k (Some p) f m) same
placed_last n (q ∷ ps) p f m =
    let count : n + 1 + length ps ≡ n + length (q ∷ ps) = omega arith in
    let apart : n + length (q ∷ ps) ≢ n = λ e. omega arith in
    placed_last (n + 1) ps p (with_at n (Some q) f) m
    ∙ (ap (λ k. placed_from (n + 1) ps (with_at k (Some p) (with_at n (Some q) f)) m) count
    ∙ placed_from_alike (n + 1) ps _ _ m (two_changes (n + length (q ∷ ps)) n m (Some p) (Some q) f apart))

-- the first part at its number and the others behind are all in their places
pub first_and_others : (n next : ℕ) (parts others : List Part) (first : Option Part) (f : ℕ → Option Part) (m : ℕ)
    → parts ≡ option_to_list first ++ others → (first ≡ None → parts ≡ [])
    → placed_from next others (with_at n first f) m ≡ placed n next parts f m
first_and_others n next parts others (Some p) f m is ended = rw is refl
first_and_others n next parts [] None f m is ended = rw is refl
first_and_others n next parts (q ∷ others) None f m is ended = let none = ended refl in cc

-- parts in the place of one that was taken out are in its place
pub placed_over : (s : List (Option Part)) (n f : ℕ) (ps : List Part) (m : ℕ) → n < length s
    → placed n f ps (part_in (slice_set s n None)) m ≡ placed n f ps (part_in s) m
placed_over s n f ps m below = dite (ℕ_discrete m n)
    (λ (e : m ≡ n). placed_at n f ps _ _ m (eq-eqb m n e))
    (λ (e : m ≢ n). placed_alike n f ps _ _ m (put_at s n None below m ∙ with_at_out n m None (part_in s) (ne_eqb m n e)))
