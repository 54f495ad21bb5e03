-- What an enabled event leaves of a store is what it makes of the store's cells.
use Rattle.std.proofs.Common.{◌≡◌, ℕ, true, false, Bool, List, [], ◌∷◌, ◌==◌, ◌||◌, ◌+◌, if◌then◌else◌, Option, Some, refl, sym, ap, ◌∙◌, ⊎_elim}
use Rattle.std.proofs.lemmas.Bool.{or_parts, or_cases}
use Rattle.std.specs.List.{range_with_len}
use Rattle.cqp_book.specs.Keys.{has, Store}
use Rattle.cqp_syntax.specs.Listing.{Listing}
use Rattle.cqp_trace.specs.declared.deed.Deed.{Deed}
use Rattle.cqp_trace.specs.declared.deed.Deed.TheVariants as deed
use Rattle.cqp_parts.specs.declared.part.Part.{Part}
use Rattle.cqp_machine.specs.declared.front.Front.{Front}
use Rattle.cqp_machine.specs.declared.event.Event.{Event}
use Rattle.cqp_machine.specs.declared.event.Event.TheVariants as event
use Rattle.cqp_machine.specs.declared.cell.Cell.{Cell}
use Rattle.cqp_parts.specs.Parts.{parts_after, parts_after_input, more_than_one}
use Rattle.cqp_machine.specs.Cells.{cells_in}
use Rattle.cqp_machine.specs.Touched.{parts_needed}
use Rattle.cqp_machine.specs.Enabled.{IsEnabled, FitsStep, Moves}
use Rattle.cqp_machine.specs.After.{cells_after, placed, from_part, parts_by, values_from, values_in}
use Rattle.cqp_machine.specs.Machine.{seen_by, factored}
use Rattle.cqp_local.proofs.StoreLemmas.{part_touched, after_part, seen_part, is_there}
use Rattle.cqp_local.proofs.PlacedLemmas.{placed_alike, placed_at, placed_in, placed_out, range_first, range_second, range_either}

-- a choice where both sides are one
pub either_way : {X : Type 0} (t : Bool) (x y z : X) → (t ≡ true → x ≡ z) → (t ≡ false → y ≡ z) → (if t then x else y) ≡ z
either_way true x y z h k = h refl
either_way false x y z h k = k refl

-- what one part leaves in a map, of which only that part was seen
own_parts : (seen whole : ℕ → Option Part) (i m made : ℕ) (ps : List Part) → made ≡ more_than_one ps → (n : ℕ)
    → (if ((n == i) || false) || has n (range_with_len m made) then placed i m ps seen n else whole n) ≡ placed i m ps whole n
own_parts seen whole i m made ps makes n = either_way _ _ _ _
    (λ t. ⊎_elim
    (λ (here : ((n == i) || false) ≡ true). placed_at i m ps seen whole n (⊎_elim (λ z. z) (λ z. cc) (or_cases (n == i) false here)))
    (λ (new : has n (range_with_len m made) ≡ true). placed_in i m ps seen whole n (rw makes at new))
    (or_cases ((n == i) || false) (has n (range_with_len m made)) t))
    (λ t.
    let out = or_parts ((n == i) || false) (has n (range_with_len m made)) t in
    sym (placed_out i m ps whole n (or_parts (n == i) false out.0).0 (rw makes at out.1)))

-- what two parts leave
two_parts : (seen whole : ℕ → Option Part) (i to m made : ℕ) (ps qs : List Part) → made ≡ more_than_one ps + more_than_one qs → (n : ℕ)
    → (if ((n == i) || ((n == to) || false)) || has n (range_with_len m made)
    then placed to (m + more_than_one ps) qs (placed i m ps seen) n else whole n)
    ≡ placed to (m + more_than_one ps) qs (placed i m ps whole) n
two_parts seen whole i to m made ps qs makes n = either_way _ _ _ _
    (λ t. ⊎_elim
    (λ (here : ((n == i) || ((n == to) || false)) ≡ true). ⊎_elim
    (λ (first : (n == i) ≡ true). placed_alike to (m + more_than_one ps) qs _ _ n (placed_at i m ps seen whole n first))
    (λ (second : ((n == to) || false) ≡ true).
    placed_at to (m + more_than_one ps) qs _ _ n (⊎_elim (λ z. z) (λ z. cc) (or_cases (n == to) false second)))
    (or_cases (n == i) ((n == to) || false) here))
    (λ (new : has n (range_with_len m made) ≡ true). ⊎_elim
    (λ (first : has n (range_with_len m (more_than_one ps)) ≡ true).
    placed_alike to (m + more_than_one ps) qs _ _ n (placed_in i m ps seen whole n first))
    (λ (second : has n (range_with_len (m + more_than_one ps) (more_than_one qs)) ≡ true). placed_in to (m + more_than_one ps) qs _ _ n second)
    (range_either n m (more_than_one ps) (more_than_one qs) (rw makes at new)))
    (or_cases ((n == i) || ((n == to) || false)) (has n (range_with_len m made)) t))
    (λ t.
    let out = or_parts ((n == i) || ((n == to) || false)) (has n (range_with_len m made)) t in
    let here = or_parts (n == i) ((n == to) || false) out.0 in
    let there = or_parts (n == to) false here.1 in
    let new = rw makes at out.1 in
    let first = placed_out i m ps whole n here.0 (range_first n m (more_than_one ps) (more_than_one qs) new) in
    let second = placed_out to (m + more_than_one ps) qs (placed i m ps whole) n there.0 (range_second n m (more_than_one ps) (more_than_one qs) new) in
    sym (second ∙ first))

-- the same, where the parts in its place are those of the part that was seen
own_step : (F : Part → List Part) (seen whole : ℕ → Option Part) (i m made : ℕ) (part : Part) → seen i ≡ Some part → whole i ≡ Some part
    → made ≡ more_than_one (F part) → (n : ℕ)
    → (if ((n == i) || false) || has n (range_with_len m made) then placed i m (from_part F (seen i)) seen n else whole n)
    ≡ placed i m (from_part F (whole i)) whole n
own_step F seen whole i m made part h k makes n = rw (h, k) (own_parts seen whole i m made (F part) makes n)

-- the same for a sender and a receiver
two_step : (F : Part → List Part) (G : Option Part → Part → List Part) (seen whole : ℕ → Option Part) (i to m made : ℕ) (p q : Part)
    → seen i ≡ Some p → whole i ≡ Some p → seen to ≡ Some q → whole to ≡ Some q
    → made ≡ more_than_one (F p) + more_than_one (G (Some p) q) → (n : ℕ)
    → (if ((n == i) || ((n == to) || false)) || has n (range_with_len m made)
    then placed to (m + more_than_one (from_part F (seen i))) (from_part (G (seen i)) (seen to)) (placed i m (from_part F (seen i)) seen) n
    else whole n)
    ≡ placed to (m + more_than_one (from_part F (whole i))) (from_part (G (whole i)) (whole to)) (placed i m (from_part F (whole i)) whole) n
two_step F G seen whole i to m made p q hp kp hq kq makes n =
    rw (hp, kp, hq, kq) (two_parts seen whole i to m made (F p) (G (Some p) q) makes n)

module _ (l : Listing) (f : Front) (s : Store Cell) where
  -- the part that an event sees is there
  pub part_there : (e : Event) (n : ℕ) (p : Part) → (seen_by e s).parts n ≡ Some p → (cells_in s).parts n ≡ Some p
  part_there e n p h = is_there (has n (parts_needed e)) ((cells_in s).parts n) ((seen_by e s).parts n) p (seen_part s e n) h

  module _ (i group made gone woke level : ℕ) where
    -- the step of this part
    abbrev E : Deed → Event
    E d = event.Step (record { part = i; deed = d }) group made gone woke level

    -- the choice that a step's store makes for a number of a part
    abbrev StepParts : Deed → ℕ → Type 0
    StepParts d n =
        (if part_touched f (E d) n then parts_by l f (seen_by (E d) s) i d n else (cells_in s).parts n) ≡ parts_by l f (cells_in s) i d n

    -- a part that moves by itself leaves what it makes of its place
    own : (d : Deed) (m : Moves l f (seen_by (E d) s) (record { part = i; deed = d }) made gone) → (n : ℕ)
        → (if ((n == i) || false) || has n (range_with_len f.parts made)
        then placed i f.parts (from_part (λ p. parts_after l p d) ((seen_by (E d) s).parts i)) (seen_by (E d) s).parts n
        else (cells_in s).parts n)
        ≡ placed i f.parts (from_part (λ p. parts_after l p d) ((cells_in s).parts i)) (cells_in s).parts n
    own d m n =
        own_step (λ p. parts_after l p d) (seen_by (E d) s).parts (cells_in s).parts i f.parts made m.part m.there
        (part_there (E d) i m.part m.there) m.makes n

    -- a step leaves of each part what it makes of it
    step_parts : (d : Deed) → FitsStep l f (seen_by (E d) s) i d group made gone woke level → (n : ℕ) → StepParts d n
    step_parts (deed.Qbit q) fits n = own (deed.Qbit q) fits.0 n
    step_parts (deed.New c) fits n = own (deed.New c) fits.0 n
    step_parts deed.Act fits n = own deed.Act fits.0 n
    step_parts (deed.Add v) fits n = own (deed.Add v) fits.0 n
    step_parts (deed.Pick o) fits n = own (deed.Pick o) fits.0 n
    step_parts (deed.Gate o qs) fits n = own (deed.Gate o qs) fits.0 n
    step_parts (deed.Measure qs m) fits n = own (deed.Measure qs m) fits.0 n
    step_parts (deed.If answer) fits n = own (deed.If answer) fits.0 n
    step_parts (deed.Com to chan) fits n =
        let meets = fits.0 in
        two_step (λ p. parts_after l p (deed.Com to chan)) (λ x q. parts_after_input l q (values_from l chan x))
        (seen_by (E (deed.Com to chan)) s).parts (cells_in s).parts i to f.parts made meets.sender meets.receiver meets.sender_there
        (part_there (E (deed.Com to chan)) i meets.sender meets.sender_there) meets.receiver_there
        (part_there (E (deed.Com to chan)) to meets.receiver meets.receiver_there)
        (meets.makes ∙ ap (λ vs. more_than_one (parts_after l meets.sender (deed.Com to chan)) + more_than_one (parts_after_input l meets.receiver vs))
        (sym (ap values_in meets.sends))) n

  -- a part that was seen, and no other
  one_seen : (e : Event) (i n : ℕ) → parts_needed e ≡ i ∷ [] → ((n == i) || false) ≡ true → (seen_by e s).parts n ≡ (cells_in s).parts n
  one_seen e i n needs h = seen_part s e n ∙ rw (needs, h) refl

  -- the parts that an event leaves
  pub whole_parts : (e : Event) → IsEnabled l f (seen_by e s) e → (n : ℕ)
      → (cells_in (factored.after l f s e)).parts n ≡ (cells_after l f (cells_in s) e).parts n
  whole_parts (event.Step e group made gone woke level) on n =
      after_part l f s (event.Step e group made gone woke level) n ∙ step_parts e.part group made gone woke level e.deed on.fits n
  whole_parts (event.Park i chan) on n =
      after_part l f s (event.Park i chan) n
      ∙ either_way _ _ _ _ (λ t. one_seen (event.Park i chan) i n refl (⊎_elim (λ z. z) (λ z. cc) (or_cases _ false t))) (λ t. refl)
  whole_parts (event.Halt i) on n =
      after_part l f s (event.Halt i) n
      ∙ either_way _ _ _ _ (λ t. one_seen (event.Halt i) i n refl (⊎_elim (λ z. z) (λ z. cc) (or_cases _ false t))) (λ t. refl)
  whole_parts (event.Join left right) on n = after_part l f s (event.Join left right) n
  whole_parts (event.Split group qubits rest) on n = after_part l f s (event.Split group qubits rest) n
