-- A walk over the deques that a lane reaches, with one change.
use Rattle.std.proofs.Common.{◌≡◌, ℕ, zero, suc, ◌+◌, ◌<◌, ◌≤◌, List, [], ◌∷◌, ◌++◌, All, length}
use Rattle.std.proofs.Common.{take, get_or, set, sym, refl, ap, ◌∙◌, subst, arith}
use Rattle.std.specs.List.{sum_by}
use Rattle.std.proofs.Math.Seq.{take-length}
use Rattle.std.proofs.lemmas.List.Sums.{sum_by-append, sum_by-cons}
use Rattle.std.proofs.lemmas.List.{take_more, set-get_or, map-append}
use Rattle.std.proofs.lemmas.List.Elements.{All-push}
use Rattle.cqp_pool.specs.Often.{AsOften}
use Rattle.cqp_pool.specs.Tallies.{tally, WasEmpty}
use Rattle.cqp_pool.specs.Parts.{Reached, stolen, deques_of, passes_of}

-- a way in written over by another into the same deque leads to the same deques
pub deques_of-set : (row : List Reached) (k : ℕ) (r d : Reached) → r.deque ≡ (get_or row k d).deque → deques_of (set row k r) ≡ deques_of row
deques_of-set [] k r d same = refl
deques_of-set (x ∷ xs) zero r d same = ap (λ y. y ∷ deques_of xs) same
deques_of-set (x ∷ xs) (suc k) r d same = ap (λ l. x.deque ∷ l) (deques_of-set xs k r d same)

-- what was stolen, after one steal more
sum_by-stolen-set : (weight : ℕ → ℕ) (row : List Reached) (k : ℕ) (r d : Reached) (n : ℕ) → k < length row → r.taken ≡ (get_or row k d).taken ++ n ∷ []
    → sum_by weight (stolen (set row k r)) ≡ sum_by weight (stolen row) + weight n
sum_by-stolen-set weight [] k r d n in_range more = absurd (omega arith)
sum_by-stolen-set weight (x ∷ xs) zero r d n in_range more =
    let a = sum_by-append weight r.taken (stolen xs) in
    let b = sum_by-append weight x.taken (stolen xs) in
    let s = ap (sum_by weight) more in
    omega (arith, sum_by-append weight x.taken (n ∷ []), sum_by-cons weight n [])
sum_by-stolen-set weight (x ∷ xs) (suc k) r d n in_range more =
    let a = sum_by-append weight x.taken (stolen (set xs k r)) in
    let b = sum_by-append weight x.taken (stolen xs) in
    let s = sum_by-stolen-set weight xs k r d n (omega arith) more in
    omega arith

-- one steal more adds its number to what was stolen, in some order
pub stolen_one_more : (row was : List Reached) (k : ℕ) (r d : Reached) (n : ℕ) → row ≡ was → k < length was → r.taken ≡ (get_or row k d).taken ++ n ∷ []
    → AsOften (stolen (set row k r)) (n ∷ stolen was)
stolen_one_more row was k r d n same in_range more weight =
    let w = ap (λ l. sum_by weight (stolen l)) same in
    let s = sum_by-stolen-set weight row k r d n (rw same in_range) more in
    omega (arith, sum_by-cons weight n (stolen was))

-- what is written back as it was changes nothing
pub set_unchanged : {X : Type 0} (xs was : List X) (k : ℕ) (x d : X) → xs ≡ was → x ≡ get_or xs k d → set xs k x ≡ was
set_unchanged {X} xs was k x d same is = ap (λ (y : X). set xs k y) is ∙ set-get_or xs k d ∙ same

-- one deque more was seen empty
pub looked_at_one_more : (row : List Reached) (k : ℕ) (d : Reached) → k < length row → All WasEmpty (passes_of (take k row))
    → WasEmpty (tally 1 [] (get_or row k d).taken) → All WasEmpty (passes_of (take (k + 1) row))
looked_at_one_more row k d in_range before here =
    let more : passes_of (take (k + 1) row) ≡ passes_of (take k row) ++ tally 1 [] (get_or row k d).taken ∷ [] =
    ap passes_of (take_more row k d in_range) ∙ map-append (λ (r : Reached). tally 1 [] r.taken) (take k row) (get_or row k d ∷ []) in
    subst (All WasEmpty) (sym more) (All-push WasEmpty (passes_of (take k row)) (tally 1 [] (get_or row k d).taken) before here)

-- at the end of the walk each was seen empty
pub looked_at_all : (row was : List Reached) (k : ℕ) → row ≡ was → length was ≤ k → k ≤ length was → All WasEmpty (passes_of (take k row))
    → All WasEmpty (passes_of was)
looked_at_all row was k same low high all =
    let end : k ≡ length was = omega arith in
    let P : List Reached → Type 0 = λ l. All WasEmpty (passes_of l) in
    subst P (ap (λ l. take k l) same ∙ ap (λ n. take n was) end ∙ take-length was) all
