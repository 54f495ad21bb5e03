-- Measures of parts, added up: what it changes to place parts in the place of one, and the opening's sum.
use Rattle.std.proofs.Common.{◌≡◌, ◌≢◌, ℕ, suc, false, List, [], ◌∷◌, map, ◌+◌, ◌-◌, ◌≤◌, ◌<◌, length, Option, Some, None, refl, sym, ap, arith, eq-eqb, ne_eqb}
use Rattle.std.proofs.Common.{◌∙◌, ⊎_elim}
use Rattle.std.proofs.lemmas.Bool.{cases_lt, false_from_ne_true}
use Rattle.std.specs.List.{range_with_len}
use mathlib.Core.Logic.{dite}
use native.Mathlib.Decide.{ℕ_discrete}
use Rattle.cqp_book.specs.Keys.{has, find}
use Rattle.cqp_syntax.specs.Trees.{Process}
use Rattle.cqp_syntax.specs.Listing.{Listing, IsProc, root}
use Rattle.cqp_cells.specs.Config.{flattened}
use Rattle.cqp_parts.specs.declared.part.Part.{Part}
use Rattle.cqp_machine.specs.Keys.{part_key}
use Rattle.cqp_parts.specs.Parts.{process_of_part, more_than_one, one_if_none, opening_parts}
use Rattle.cqp_machine.specs.Cells.{cells_in, as_part, with_at}
use Rattle.cqp_machine.specs.After.{placed_from, placed}
use Rattle.cqp_machine.specs.Machine.{part_pairs}
use Rattle.cqp_machine.specs.Sums.{sum_below}
use Rattle.cqp_machine.specs.Shown.{process_in}
use Rattle.cqp_steps.specs.Making.{of_process}
use Rattle.cqp_cells.proofs.Options.{none_is_some}
use Rattle.cqp_local.proofs.PlacedLemmas.{with_at_in, with_at_out, placed_from_alike, placed_from_out, range_bounds}
use Rattle.cqp_parts.proofs.TreeLemmas.{parts_stand}
use Rattle.cqp_machine.proofs.SumLemmas.{same_sum, sum_changed}
use Rattle.cqp_steps.proofs.Potentials.{total}

-- parts that are made and gone, by how many there are in the place of one
pub more_is : (ps : List Part) → more_than_one ps ≡ length ps - 1
more_is [] = refl
more_is (p ∷ ps) = omega arith

-- those in the place and those gone are one and those made
pub in_place : (ps : List Part) → length ps + one_if_none ps ≡ 1 + more_than_one ps
in_place [] = refl
in_place (p ∷ ps) = omega arith

-- a part that is there has a number below those that weren't reached
pub there_below : (n : ℕ) (parts : ℕ → Option Part) → ((j : ℕ) → n ≤ j → parts j ≡ None) → (i : ℕ) (p : Part) → parts i ≡ Some p → i < n
there_below n parts k i p t = ⊎_elim (λ (z : i < n). z) (λ (z : n ≤ i). absurd (none_is_some {x = p} (sym (k i z) ∙ t))) (cases_lt i n)

-- the opening's parts, by number
pub find_placed : (n : ℕ) (ps : List Part) (j : ℕ) → as_part (find (part_pairs n ps) (part_key j)) ≡ placed_from n ps (λ i. None) j
find_placed n [] j = refl
find_placed n (p ∷ ps) j = dite (ℕ_discrete j n)
    (λ (e : j ≡ n).
    let out : has j (range_with_len (n + 1) (length ps)) ≡ false =
    false_from_ne_true _ (λ t. let b = range_bounds j (n + 1) (length ps) t in let low = b.0 in omega arith) in
    let found : as_part (find (part_pairs n (p ∷ ps)) (part_key j)) ≡ Some p = rw (eq-eqb (part_key j) (part_key n) (ap part_key e)) refl in
    found ∙ sym (placed_from_out (n + 1) ps (with_at n (Some p) (λ i. None)) j out ∙ with_at_in n j (Some p) (λ i. None) (eq-eqb j n e)))
    (λ (e : j ≢ n).
    let found : as_part (find (part_pairs n (p ∷ ps)) (part_key j)) ≡ as_part (find (part_pairs (n + 1) ps) (part_key j)) =
    rw (ne_eqb (part_key j) (part_key n) (λ z. e (omega arith))) refl in
    found ∙ (find_placed (n + 1) ps j
    ∙ placed_from_alike (n + 1) ps (λ i. None) (with_at n (Some p) (λ i. None)) j (sym (with_at_out n j (Some p) (λ i. None) (ne_eqb j n e)))))

module _ (l : Listing) (m : Process → ℕ) where
  -- the measure of a part that may be there, and of all below n
  abbrev pub weight : Option Part → ℕ
  weight x = of_process m (process_in l x)

  -- of all below n
  abbrev pub left : ℕ → (ℕ → Option Part) → ℕ
  left n parts = sum_below n (λ i. weight (parts i))

  -- of a list
  abbrev pub weights : List Part → ℕ
  weights ps = total m (map (process_of_part l) ps)

  -- parts that are placed from n on are added
  placed_from_sum : (n : ℕ) (ps : List Part) (parts : ℕ → Option Part) → left (n + length ps) (placed_from n ps parts) ≡ left n parts + weights ps
  placed_from_sum n [] parts = let e : n + 0 ≡ n = omega arith in ap (λ k. left k parts) e ∙ omega arith
  placed_from_sum n (p ∷ ps) parts =
      let e : n + length (p ∷ ps) ≡ n + 1 + length ps = omega arith in
      let up : n + 1 ≡ suc n = omega arith in
      let later = placed_from_sum (n + 1) ps (with_at n (Some p) parts) in
      let old : left n (with_at n (Some p) parts) ≡ left n parts =
      same_sum n (λ i. weight (with_at n (Some p) parts i)) (λ i. weight (parts i)) (λ i t. ap weight (with_at_out n i (Some p) parts (ne_eqb i n
      (λ z. omega arith)))) in
      let here : weight (with_at n (Some p) parts n) ≡ m (process_of_part l p) = ap weight (with_at_in n n (Some p) parts (eq-eqb n n refl)) in
      let one : left (n + 1) (with_at n (Some p) parts) ≡ left n (with_at n (Some p) parts) + weight (with_at n (Some p) parts n) =
      ap (λ k. left k (with_at n (Some p) parts)) up in
      ap (λ k. left k (placed_from (n + 1) ps (with_at n (Some p) parts))) e ∙ omega arith

  -- and in the place of a part, whose own measure goes out
  pub placed_sum : (i n : ℕ) (ps : List Part) (parts : ℕ → Option Part) → i < n
      → left (n + more_than_one ps) (placed i n ps parts) + weight (parts i) ≡ left n parts + weights ps
  placed_sum i n [] parts h =
      let e : n + 0 ≡ n = omega arith in
      let sum =
      sum_changed n i (λ j. weight (parts j)) (λ j. weight (with_at i None parts j)) h (λ j x. ap weight (with_at_out i j None parts (ne_eqb j i x))) in
      let here : weight (with_at i None parts i) ≡ 0 = ap weight (with_at_in i i None parts (eq-eqb i i refl)) in
      ap (λ k. left k (with_at i None parts) + weight (parts i)) e ∙ omega arith
  placed_sum i n (p ∷ ps) parts h =
      let from = placed_from_sum n ps (with_at i (Some p) parts) in
      let sum =
      sum_changed n i (λ j. weight (parts j)) (λ j. weight (with_at i (Some p) parts j)) h (λ j x. ap weight (with_at_out i j (Some p) parts (ne_eqb j i x))) in
      let here : weight (with_at i (Some p) parts i) ≡ m (process_of_part l p) = ap weight (with_at_in i i (Some p) parts (eq-eqb i i refl)) in
      omega arith

  -- below 0 there is nothing
  nothing_before : (ps : List Part) → left 0 (λ i. None) + weights ps ≡ weights ps
  nothing_before ps = omega arith

  -- the opening has that of the processes side by side
  pub opening_left : IsProc l → left (length (opening_parts l)) (cells_in (find (part_pairs 0 (opening_parts l)))).parts ≡ total m (flattened (root l))
  opening_left sound =
      let same = same_sum (length (opening_parts l)) (λ j. weight ((cells_in (find (part_pairs 0 (opening_parts l)))).parts j))
      (λ j. weight (placed_from 0 (opening_parts l) (λ i. None) j)) (λ j t. ap weight (find_placed 0 (opening_parts l) j)) in
      let none : 0 + length (opening_parts l) ≡ length (opening_parts l) = omega arith in
      same ∙ (ap (λ n. left n (placed_from 0 (opening_parts l) (λ i. None))) (sym none)
      ∙ (placed_from_sum 0 (opening_parts l) (λ i. None) ∙ (nothing_before (opening_parts l) ∙ ap (total m) (parts_stand l sound [] 0))))
