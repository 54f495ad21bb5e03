-- Each event keeps the channels' lists right, and the count of the parts that are ready.
use Rattle.std.proofs.Common.{◌≡◌, ◌≢◌, ℕ, true, false, Bool, List, [], ◌∷◌, ◌+◌, ◌-◌, ◌≤◌, ◌<◌, map, length, Option, Some, None, refl, sym, ap, arith, ◌∙◌}
use Rattle.std.proofs.lemmas.Bool.{false_from_ne_true}
use Rattle.std.proofs.lemmas.List.{length-map}
use Rattle.cqp_syntax.specs.Trees.{Process}
use Rattle.cqp_syntax.specs.Listing.{Listing}
use Rattle.cqp_trace.specs.declared.deed.Deed.{Deed}
use Rattle.cqp_parts.specs.declared.part.Part.{Part}
use Rattle.cqp_machine.specs.declared.front.Front.{Front}
use Rattle.cqp_parts.specs.Parts.{process_of_part, parts_after, one_if_none}
use Rattle.cqp_machine.specs.Cells.{Channel, Cells}
use Rattle.cqp_machine.specs.Fronts.{counts_of}
use Rattle.cqp_machine.specs.Enabled.{Moves, waits_for}
use Rattle.cqp_machine.specs.After.{placed, from_part}
use Rattle.cqp_machine.specs.Sums.{sum_below}
use Rattle.cqp_waiting.specs.Waiting.{is_parked, one_if_ready, one_if, waiters}
use Rattle.cqp_cells.proofs.Options.{none_is_some, same_some}
use Rattle.cqp_machine.proofs.SumLemmas.{same_sum, sum_both, sum_longer, sum_at}
use Rattle.cqp_steps.proofs.Potentials.{total}
use Rattle.cqp_steps.proofs.PartSums.{left, weights, weight, in_place, there_below}
use Rattle.cqp_steps.proofs.StepSums.{stays_there, own_sum}
use Rattle.cqp_waiting.proofs.Waits.{waits_idle}
use Rattle.cqp_waiting.proofs.ParkedLemmas.{Parked, parked_there}
use Rattle.cqp_waiting.proofs.WaitingLists.{Lists, parked_ready, OldOrNew, lists_kept, same_parked}

-- how many parts live
abbrev pub one_each : Process → ℕ
one_each p = 1

-- how many live below n
abbrev pub living : Listing → ℕ → (ℕ → Option Part) → ℕ
living l n parts = left l one_each n parts

-- ones are counted
pub total_ones : (ps : List Process) → total one_each ps ≡ length ps
total_ones [] = refl
total_ones (p ∷ ps) = let e = total_ones ps in omega arith

-- a list of parts weighs its length
pub weights_ones : (l : Listing) (ps : List Part) → weights l one_each ps ≡ length ps
weights_ones l ps = total_ones (map (process_of_part l) ps) ∙ length-map ps (process_of_part l)

-- at most one is gone in one place
pub one_at_most : (ps : List Part) → one_if_none ps ≤ 1
one_at_most [] = omega arith
one_at_most (p ∷ ps) = omega arith

-- no part and no channel beyond those that the front counts
pub record IsWithin (f : Front) (c : Cells) : Type 0 where
  pub new_parts : (j : ℕ) → f.parts ≤ j → c.parts j ≡ None
  pub new_chans : (j : ℕ) → f.chans ≤ j → c.chans j ≡ None

-- the lists are right, and those who are ready and those who wait are all that live
pub record Waiting (l : Listing) (f : Front) (c : Cells) : Type 0 where
  pub lists : Lists l c
  pub count : f.ready + waiters f.parts f.chans c ≡ living l f.parts c.parts

-- a part counts as ready or as one who waits
ready_or_waits : (l : Listing) (x : Option Part) (b : Bool) → (b ≡ true → (p : Part) × (x ≡ Some p)) → one_if_ready x b + one_if b ≡ weight l one_each x
ready_or_waits l (Some p) true h = refl
ready_or_waits l (Some p) false h = refl
ready_or_waits l None false h = refl
ready_or_waits l None true h = absurd (none_is_some {x = (h refl).0} (h refl).1)

module _ (l : Listing) (f : Front) (c : Cells) (w : IsWithin f c) (h : Waiting l f c) where
  -- one who waits is there
  waits_there : (i : ℕ) → is_parked f.chans c i ≡ true → (p : Part) × (c.parts i ≡ Some p)
  waits_there i t = let s = parked_ready l c h.lists i (parked_there f.chans c i t) in (s.part, s.there)

  -- so `ready` counts the others
  pub ready_is : f.ready ≡ sum_below f.parts (λ i. one_if_ready (c.parts i) (is_parked f.chans c i))
  ready_is =
      let both = sum_both f.parts (λ i. one_if_ready (c.parts i) (is_parked f.chans c i)) (λ i. one_if (is_parked f.chans c i)) in
      let all = same_sum f.parts (λ i. one_if_ready (c.parts i) (is_parked f.chans c i) + one_if (is_parked f.chans c i)) (λ i. weight l one_each (c.parts i))
      (λ i t. ready_or_waits l (c.parts i) (is_parked f.chans c i) (waits_there i)) in
      let count = h.count in
      omega arith

  -- and is at least 1 where a part is there that doesn't wait
  pub one_ready : (i : ℕ) (p : Part) → c.parts i ≡ Some p → is_parked f.chans c i ≡ false → 1 ≤ f.ready
  one_ready i p there idle =
      let one : one_if_ready (c.parts i) (is_parked f.chans c i) ≡ 1 = rw (there, idle) refl in
      let at = sum_at f.parts i (λ j. one_if_ready (c.parts j) (is_parked f.chans c j)) (there_below f.parts c.parts w.new_parts i p there) in
      let all = ready_is in
      omega arith

  -- one who waits has a number below those that weren't reached
  parked_below : (j : ℕ) → is_parked f.chans c j ≡ true → j < f.parts
  parked_below j t = let x = waits_there j t in there_below f.parts c.parts w.new_parts j x.0 x.1

  -- beyond the numbers that were reached none waits
  pub none_beyond : (j : ℕ) → f.parts ≤ j → is_parked f.chans c j ≡ false
  none_beyond j up = false_from_ne_true _ (λ t. let low = parked_below j t in omega arith)

  -- where the same parts wait, with further numbers
  pub same_waiters : (made chans : ℕ) (e : Cells) → ((j : ℕ) → is_parked chans e j ≡ is_parked f.chans c j)
      → waiters (f.parts + made) chans e ≡ waiters f.parts f.chans c
  same_waiters made chans e same =
      same_sum (f.parts + made) (λ j. one_if (is_parked chans e j)) (λ j. one_if (is_parked f.chans c j)) (λ j t. ap one_if (same j))
      ∙ sum_longer f.parts made (λ j. one_if (is_parked f.chans c j)) (λ j up. ap one_if (none_beyond j up))

  -- after a deed of a part's own
  module _ (i made gone : ℕ) (d : Deed) (x : Moves l f c (record { part = i; deed = d }) made gone) where
    -- the parts behind the deed
    abbrev own_parts : ℕ → Option Part
    own_parts = placed i f.parts (from_part (λ p. parts_after l p d) (c.parts i)) c.parts

    -- its part doesn't wait
    mover_free : (j : ℕ) → Parked c.chans j → j ≢ i
    mover_free j y e =
        let s = parked_ready l c h.lists j y in
        let same : s.part ≡ x.part = same_some {x = s.part} {y = x.part} (sym s.there ∙ (ap c.parts e ∙ x.there)) in
        waits_idle (counts_of f) y.chan (process_of_part l x.part) d x.process y.channel.outward
        (sym (ap (λ p. waits_for y.chan (process_of_part l p)) same) ∙ s.ready) x.moves

    -- so those who wait stay
    pub own_stay : (j : ℕ) → Parked c.chans j → own_parts j ≡ c.parts j
    own_stay j y =
        let s = parked_ready l c h.lists j y in
        stays_there i f.parts (from_part (λ p. parts_after l p d) (c.parts i)) c.parts j (mover_free j y)
        (there_below f.parts c.parts w.new_parts j s.part s.there)

    -- by the test too
    mover_idle : is_parked f.chans c i ≡ false
    mover_idle = false_from_ne_true _ (λ t. mover_free i (parked_there f.chans c i t) refl)

    -- so one is ready
    pub own_ready : 1 ≤ f.ready
    own_ready = one_ready i x.part x.there mover_idle

    -- and at most one goes
    pub own_gone : gone ≤ 1
    own_gone = let few = one_at_most (parts_after l x.part d) in let ends = x.ends in omega arith

    -- what lives, with those that are gone
    pub own_living : living l (f.parts + made) own_parts + gone ≡ living l f.parts c.parts + made
    own_living =
        let sum = own_sum l one_each f c w.new_parts i made gone d x in
        let size = weights_ones l (parts_after l x.part d) in
        let e = in_place (parts_after l x.part d) in
        let some = x.makes in
        let none = x.ends in
        omega arith

    -- the lists stay right, and the count with them
    pub own_waits : (g : Front) (e : Cells) → g.parts ≡ f.parts + made → g.ready ≡ f.ready + made + 0 - gone → f.chans ≤ g.chans
        → e.parts ≡ own_parts → OldOrNew c.chans e.chans → ((k : ℕ) (y : Channel) → c.chans k ≡ Some y → e.chans k ≡ Some y) → Waiting l g e
    own_waits g e parts ready chans placed_are old stays =
        let lists = lists_kept l c e h.lists old (λ j y. ap (λ m. m j) placed_are ∙ own_stay j y) in
        let same = same_waiters made g.chans e (same_parked l c e h.lists old g.chans f.chans chans w.new_chans stays) in
        let waiting : waiters g.parts g.chans e ≡ waiters f.parts f.chans c = ap (λ n. waiters n g.chans e) parts ∙ same in
        let live : living l g.parts e.parts ≡ living l (f.parts + made) own_parts =
        ap (λ n. living l n e.parts) parts ∙ ap (living l (f.parts + made)) placed_are in
        let sum = own_living in
        let some = own_ready in
        let few = own_gone in
        let count = h.count in
        record { lists = lists; count = omega arith }
