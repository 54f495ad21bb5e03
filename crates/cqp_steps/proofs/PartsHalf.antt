-- A step is a reduction of the parts that the cells stand for.
use Rattle.std.proofs.Common.{◌≡◌, ◌≢◌, inl, inr, ℕ, List, [], ◌∷◌, map, ◌==◌, ◌+◌, ◌≤◌, ◌<◌, Option, Some, None, refl, sym, ap, arith, eq-eqb, ne_eqb, ◌∙◌}
use Rattle.std.proofs.Common.{⊎_elim}
use mathlib.Core.Logic.{dite}
use native.Mathlib.Decide.{ℕ_discrete}
use Rattle.std.proofs.lemmas.Bool.{cases_lt}
use Rattle.std.proofs.lemmas.List.{length-map}
use Rattle.cqp_syntax.specs.Trees.{Process}
use Rattle.cqp_syntax.specs.Listing.{Listing}
use Rattle.cqp_cells.specs.Config.{numbered, goes_on, numbers_taken, replaced, part_at}
use Rattle.cqp_parts.specs.declared.part.Part.{Part}
use Rattle.cqp_parts.specs.Parts.{process_of_part, more_than_one}
use Rattle.cqp_machine.specs.Cells.{with_at}
use Rattle.cqp_machine.specs.After.{placed_from, placed}
use Rattle.cqp_machine.specs.Shown.{process_in}
use Rattle.cqp_cells.proofs.Options.{none_is_some}
use Rattle.cqp_local.proofs.PlacedLemmas.{with_at_in, with_at_out}
use Rattle.cqp_steps.proofs.ConfigLemmas.{or_other, unless, AreDistinct, AreNew, part_at-replaced, replaced_distinct, at_first, at_later, numbered_below}
use Rattle.cqp_steps.proofs.ConfigLemmas.{numbered_beyond, numbered_distinct}

module _ (l : Listing) where
  -- parts that are placed from n on stand for the numbered processes
  stand_placed_from : (n : ℕ) (ps : List Part) (m : ℕ → Option Part) (j : ℕ)
      → process_in l (placed_from n ps m j) ≡ or_other (part_at j (numbered n (map (process_of_part l) ps))) (process_in l (m j))
  stand_placed_from n [] m j = refl
  stand_placed_from n (p ∷ ps) m j = dite (ℕ_discrete n j)
      (λ (e : n ≡ j).
      let first = at_first j n (process_of_part l p) (numbered (n + 1) (map (process_of_part l) ps)) e in
      let later = numbered_below j (n + 1) (map (process_of_part l) ps) (omega arith) in
      let here = with_at_in n j (Some p) m (eq-eqb j n (sym e)) in
      stand_placed_from (n + 1) ps (with_at n (Some p) m) j ∙ rw (first, later, here) refl)
      (λ (e : n ≢ j).
      let first = at_later j n (process_of_part l p) (numbered (n + 1) (map (process_of_part l) ps)) e in
      let here = with_at_out n j (Some p) m (ne_eqb j n (λ z. e (sym z))) in
      stand_placed_from (n + 1) ps (with_at n (Some p) m) j ∙ rw (first, here) refl)

  -- and in the place of part i, for what it goes on as
  stand_placed : (i n : ℕ) (ps : List Part) (m : ℕ → Option Part) (j : ℕ) → i < n
      → process_in l (placed i n ps m j) ≡ or_other (part_at j (goes_on i n (map (process_of_part l) ps))) (unless (j == i) (process_in l (m j)))
  stand_placed i n [] m j h = dite (ℕ_discrete j i)
      (λ (e : j ≡ i). rw (eq-eqb j i e) refl)
      (λ (e : j ≢ i). rw (ne_eqb j i e) refl)
  stand_placed i n (p ∷ ps) m j h = dite (ℕ_discrete j i)
      (λ (e : j ≡ i).
      let first = at_first j i (process_of_part l p) (numbered n (map (process_of_part l) ps)) (sym e) in
      let later = numbered_below j n (map (process_of_part l) ps) (omega arith) in
      let here = with_at_in i j (Some p) m (eq-eqb j i e) in
      stand_placed_from n ps (with_at i (Some p) m) j ∙ rw (first, later, here) refl)
      (λ (e : j ≢ i).
      let first = at_later j i (process_of_part l p) (numbered n (map (process_of_part l) ps)) (λ z. e (sym z)) in
      let here = with_at_out i j (Some p) m (ne_eqb j i e) in
      stand_placed_from n ps (with_at i (Some p) m) j ∙ rw (first, here, ne_eqb j i e) refl)

-- what part i goes on as has new numbers, and they are distinct
goes_on_distinct : (i n : ℕ) (ps : List Process) → i < n → AreDistinct (goes_on i n ps)
goes_on_distinct i n [] h = tt
goes_on_distinct i n (p ∷ ps) h = (numbered_below i n ps h, numbered_distinct n ps)

-- a continuation has no part at another number that was in use
goes_on_below : (i n : ℕ) (ps : List Process) (j : ℕ) → j ≢ i → j < n → part_at j (goes_on i n ps) ≡ None
goes_on_below i n [] j x h = refl
goes_on_below i n (p ∷ ps) j x h = at_later j i p (numbered n ps) (λ z. x (sym z)) ∙ numbered_below j n ps h

-- nor beyond the numbers that it takes
goes_on_beyond : (i n : ℕ) (ps : List Process) (j : ℕ) → j ≢ i → n + numbers_taken ps ≤ j → part_at j (goes_on i n ps) ≡ None
goes_on_beyond i n [] j x h = refl
goes_on_beyond i n (p ∷ ps) j x h = at_later j i p (numbered n ps) (λ z. x (sym z)) ∙ numbered_beyond j n ps h

-- parts that stand for those of a configuration, of which n numbers were used
pub record PartsStand (l : Listing) (n : ℕ) (m : ℕ → Option Part) (ps : List Rattle.cqp_cells.specs.Config.Part) : Type 0 where
  pub parts : (j : ℕ) → part_at j ps ≡ process_in l (m j)
  pub distinct : AreDistinct ps
  pub below : (j : ℕ) → n ≤ j → part_at j ps ≡ None

-- numbers that were taken are as many as the parts beyond the first
pub taken_alike : (f : Part → Process) (ps : List Part) (qs : List Process) → map f ps ≡ qs → numbers_taken qs ≡ more_than_one ps
taken_alike f [] qs h = ap numbers_taken (sym h)
taken_alike f (p ∷ ps) qs h = ap numbers_taken (sym h) ∙ length-map ps f

module _ (l : Listing) (n : ℕ) (m : ℕ → Option Part) (cs : List Rattle.cqp_cells.specs.Config.Part) (s : PartsStand l n m cs) where
  -- a part that is there stands for the configuration's
  pub stands_there : (i : ℕ) (p : Part) → m i ≡ Some p → part_at i cs ≡ Some (process_of_part l p)
  stands_there i p h = s.parts i ∙ ap (process_in l) h

  -- a part that is there has a number in use
  number_below : (i : ℕ) (p : Process) → part_at i cs ≡ Some p → i < n
  number_below i p h = ⊎_elim
      (λ (t : i < n). t)
      (λ (t : n ≤ i). absurd (none_is_some {x = p} (sym (s.below i t) ∙ h)))
      (cases_lt i n)

  -- the numbers of a continuation are new but for its own
  are_new : (i : ℕ) (qs : List Process) → AreNew i (goes_on i n qs) cs
  are_new i qs j x = ⊎_elim
      (λ (t : j < n). inl (goes_on_below i n qs j x t))
      (λ (t : n ≤ j). inr (s.below j t))
      (cases_lt j n)

  -- when one of them goes on, the parts in its place stand for what it goes on as
  pub one_goes_on : (i : ℕ) (p : Process) (ps : List Part) (qs : List Process) → part_at i cs ≡ Some p → map (process_of_part l) ps ≡ qs
      → PartsStand l (n + more_than_one ps) (placed i n ps m) (replaced i (goes_on i n qs) cs)
  one_goes_on i p ps qs there same =
      let below_n = number_below i p there in
      let replaced_at = part_at-replaced i (goes_on i n qs) cs p s.distinct there (are_new i qs) in
      record {
        parts = λ j.
            part_at-replaced i (goes_on i n qs) cs p s.distinct there (are_new i qs) j
            ∙ sym (stand_placed l i n ps m j below_n ∙ rw (same, sym (s.parts j)) refl);
        distinct = replaced_distinct i (goes_on i n qs) cs p s.distinct (goes_on_distinct i n qs below_n) there (are_new i qs);
        below = λ j h.
            let x : j ≢ i = λ e. omega arith in
            let gone = goes_on_beyond i n qs j x (omega (arith, taken_alike (process_of_part l) ps qs same)) in
            part_at-replaced i (goes_on i n qs) cs p s.distinct there (are_new i qs) j ∙ rw (gone, ne_eqb j i x) (s.below j (omega arith));
      }

  -- the others keep their processes
  pub others_keep : (i : ℕ) (p : Process) (qs : List Process) (j : ℕ) (q : Process) → part_at i cs ≡ Some p → j ≢ i → part_at j cs ≡ Some q
      → part_at j (replaced i (goes_on i n qs) cs) ≡ Some q
  others_keep i p qs j q there x h =
      let gone = goes_on_below i n qs j x (number_below j q h) in
      part_at-replaced i (goes_on i n qs) cs p s.distinct there (are_new i qs) j ∙ rw (gone, ne_eqb j i x) h
