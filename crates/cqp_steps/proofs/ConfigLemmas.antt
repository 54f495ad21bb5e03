-- Parts of a configuration with distinct numbers, and what stands in the place of one.
use Rattle.std.proofs.Common.{◌≡◌, ◌≢◌, ◌⊎◌, inl, inr, ℕ, true, false, Bool, List, [], ◌∷◌, ◌++◌, ◌==◌, ◌+◌, ◌≤◌, ◌<◌, length, Option, Some, None, refl, sym}
use Rattle.std.proofs.Common.{arith, eq-eqb, ne_eqb, ◌∙◌, ⊎_elim}
use mathlib.Core.Logic.{dite}
use native.Mathlib.Decide.{ℕ_discrete}
use Rattle.cqp_syntax.specs.Trees.{Process}
use Rattle.cqp_cells.specs.Config.{Part, numbered, replaced, part_at}
use Rattle.cqp_cells.proofs.Options.{none_is_some}

-- the first, or else the second
abbrev pub or_other : Option Process → Option Process → Option Process
or_other (Some p) q = Some p
or_other None q = q

-- a process unless the test passes
abbrev pub unless : Bool → Option Process → Option Process
unless true p = None
unless false p = p

-- no number stands twice
abbrev pub AreDistinct : List Part → Type 0
AreDistinct [] = Unit {0}
AreDistinct (p ∷ ps) = (part_at p.number ps ≡ None) × AreDistinct ps

-- the part with a number, first in a list or not
pub at_first : (i n : ℕ) (p : Process) (ps : List Part) → n ≡ i → part_at i ((record { number = n; process = p }) ∷ ps) ≡ Some p
at_first i n p ps e = rw (eq-eqb n i e) refl

-- a part with another number doesn't count
pub at_later : (i n : ℕ) (p : Process) (ps : List Part) → n ≢ i → part_at i ((record { number = n; process = p }) ∷ ps) ≡ part_at i ps
at_later i n p ps e = rw (ne_eqb n i e) refl

-- in two lists
part_at-append : (i : ℕ) (ps qs : List Part) → part_at i (ps ++ qs) ≡ or_other (part_at i ps) (part_at i qs)
part_at-append i [] qs = refl
part_at-append i (p ∷ ps) qs = dite (ℕ_discrete p.number i)
    (λ (e : p.number ≡ i). rw (eq-eqb p.number i e) refl)
    (λ (e : p.number ≢ i). rw (ne_eqb p.number i e) (part_at-append i ps qs))

-- numbers from n on
pub numbered_below : (i n : ℕ) (ps : List Process) → i < n → part_at i (numbered n ps) ≡ None
numbered_below i n [] h = refl
numbered_below i n (p ∷ ps) h = at_later i n p (numbered (n + 1) ps) (λ e. omega arith) ∙ numbered_below i (n + 1) ps (omega arith)

-- no part is numbered beyond the last
pub numbered_beyond : (i n : ℕ) (ps : List Process) → n + length ps ≤ i → part_at i (numbered n ps) ≡ None
numbered_beyond i n [] h = refl
numbered_beyond i n (p ∷ ps) h = at_later i n p (numbered (n + 1) ps) (λ e. omega arith) ∙ numbered_beyond i (n + 1) ps (omega arith)

-- numbered parts have distinct numbers
pub numbered_distinct : (n : ℕ) (ps : List Process) → AreDistinct (numbered n ps)
numbered_distinct n [] = tt
numbered_distinct n (p ∷ ps) = (numbered_below n (n + 1) ps (omega arith), numbered_distinct (n + 1) ps)

-- a list behind another, where no number stands in both
append_distinct : (ps qs : List Part) → AreDistinct ps → AreDistinct qs → ((i : ℕ) → (part_at i ps ≡ None) ⊎ (part_at i qs ≡ None)) → AreDistinct (ps ++ qs)
append_distinct [] qs d e apart = e
append_distinct (p ∷ ps) qs d e apart = (
  part_at-append p.number ps qs ∙ rw d.0 (⊎_elim
      (λ (t : part_at p.number (p ∷ ps) ≡ None). absurd (none_is_some {x = p.process} (sym t ∙ at_first p.number p.number p.process ps refl)))
      (λ (t : part_at p.number qs ≡ None). t)
      (apart p.number)),
  append_distinct ps qs d.1 e (λ i. ⊎_elim
      (λ (t : part_at i (p ∷ ps) ≡ None). inl (dite (ℕ_discrete p.number i)
      (λ (u : p.number ≡ i). absurd (none_is_some {x = p.process} (sym t ∙ at_first i p.number p.process ps u)))
      (λ (u : p.number ≢ i). sym (at_later i p.number p.process ps u) ∙ t)))
      (λ (t : part_at i qs ≡ None). inr t)
      (apart i)),
)

-- what stands in the place of part i
module _ (i : ℕ) (now : List Part) where
  -- no number of these stands among the parts, but i
  abbrev pub AreNew : List Part → Type 0
  AreNew ps = (j : ℕ) → j ≢ i → (part_at j now ≡ None) ⊎ (part_at j ps ≡ None)

  -- where the first isn't there it is the second
  none_or : (x y : Option Process) → x ≡ None → or_other x y ≡ y
  none_or x y h = rw h refl

  -- where the second isn't there it is the first
  or_none : (x : Option Process) → or_other x None ≡ x
  or_none None = refl
  or_none (Some p) = refl

  -- the parts behind the first are new beside it too
  new_rest : (p : Part) (ps : List Part) → AreNew (p ∷ ps) → AreNew ps
  new_rest p ps new j x = ⊎_elim
      (λ (t : part_at j now ≡ None). inl t)
      (λ (t : part_at j (p ∷ ps) ≡ None). dite (ℕ_discrete p.number j)
      (λ (u : p.number ≡ j). absurd (none_is_some {x = p.process} (sym t ∙ at_first j p.number p.process ps u)))
      (λ (u : p.number ≢ j). inr (sym (at_later j p.number p.process ps u) ∙ t)))
      (new j x)

  -- the part with a number after one part was replaced
  pub part_at-replaced : (ps : List Part) (q : Process) → AreDistinct ps → part_at i ps ≡ Some q → AreNew ps → (j : ℕ)
      → part_at j (replaced i now ps) ≡ or_other (part_at j now) (unless (j == i) (part_at j ps))
  part_at-replaced [] q d there new j = absurd (none_is_some {x = q} there)
  part_at-replaced (p ∷ ps) q d there new j = dite (ℕ_discrete p.number i)
      (λ (e : p.number ≡ i). rw (eq-eqb p.number i e) (part_at-append j now ps ∙ dite (ℕ_discrete j i)
      (λ (u : j ≡ i).
      let none : part_at j ps ≡ None = rw (u ∙ sym e) d.0 in
      rw (eq-eqb j i u, none) refl)
      (λ (u : j ≢ i).
      let other : (p.number == j) ≡ false = ne_eqb p.number j (λ z. u (sym z ∙ e)) in
      rw (ne_eqb j i u, other) refl)))
      (λ (e : p.number ≢ i). rw (ne_eqb p.number i e) (dite (ℕ_discrete p.number j)
      (λ (u : p.number ≡ j).
      let x : j ≢ i = λ z. e (u ∙ z) in
      let gone : part_at j now ≡ None = ⊎_elim
      (λ (t : part_at j now ≡ None). t)
      (λ (t : part_at j (p ∷ ps) ≡ None). absurd (none_is_some {x = p.process} (sym t ∙ at_first j p.number p.process ps u)))
      (new j x) in
      rw (eq-eqb p.number j u, ne_eqb j i x, gone) refl)
      (λ (u : p.number ≢ j).
      rw (ne_eqb p.number j u)
      (part_at-replaced ps q d.1 (sym (at_later i p.number p.process ps e) ∙ there) (new_rest p ps new) j))))

  -- and the numbers stay distinct
  pub replaced_distinct : (ps : List Part) (q : Process) → AreDistinct ps → AreDistinct now → part_at i ps ≡ Some q → AreNew ps
      → AreDistinct (replaced i now ps)
  replaced_distinct [] q d n there new = tt
  replaced_distinct (p ∷ ps) q d n there new = dite (ℕ_discrete p.number i)
      (λ (e : p.number ≡ i). rw (eq-eqb p.number i e) (append_distinct now ps n d.1 (λ j. dite (ℕ_discrete j i)
      (λ (u : j ≡ i). inr (rw (u ∙ sym e) d.0))
      (λ (u : j ≢ i). new_rest p ps new j u))))
      (λ (e : p.number ≢ i).
      let there' = sym (at_later i p.number p.process ps e) ∙ there in
      let here : part_at p.number now ≡ None = ⊎_elim
      (λ (t : part_at p.number now ≡ None). t)
      (λ (t : part_at p.number (p ∷ ps) ≡ None). absurd (none_is_some {x = p.process} (sym t ∙ at_first p.number p.number p.process ps refl)))
      (new p.number e) in
      rw (ne_eqb p.number i e) (
        part_at-replaced ps q d.1 there' (new_rest p ps new) p.number ∙ rw (here, ne_eqb p.number i e) d.0,
        replaced_distinct ps q d.1 n there' (new_rest p ps new),
      ))
