-- How parts stand is noted rightly, whatever changes.
use Rattle.std.proofs.Common.{◌≡◌, ℕ, ◌<◌, ◌≤◌, List, true, false, Bool, Option, Some, None, refl, sym, ap, arith, ◌∙◌, ⊎_elim, ◌⊎◌, ◌==◌, ◌||◌}
use Rattle.std.proofs.Common.{◌+◌, ◌^◌, IsSome, inl, inr, nat_le, eq-eqb, subst}
use Rattle.cqp_syntax.proofs.Same.{same_number}
use Rattle.std.proofs.lemmas.Bool.{cases_lt, le-leb, lt-leb, or_left, or_parts, or_right}
use Rattle.std.specs.Option.{option_map}
use Rattle.std.specs.Prelude.{Result, Ok, Err, OnErr, OnOk}
use Rattle.cqp_book.specs.Keys.{find}
use Rattle.cqp_book.specs.Run.{IsRun}
use Rattle.cqp_cells.specs.Config.{Config, part_at}
use Rattle.cqp_cells.proofs.Options.{none_is_some}
use Rattle.cqp_fresh.proofs.SoundStores.{sound_opening, sound_run}
use Rattle.cqp_machine.specs.declared.event.Event.{Event}
use Rattle.cqp_machine.specs.Fronts.{counts_of, opening_front}
use Rattle.cqp_machine.specs.Machine.{factored, part_pairs}
use Rattle.cqp_machine.specs.Shown.{cells_of, front_of, process_in}
use Rattle.cqp_meeting.specs.Tables.{IsTable, stand_in}
use Rattle.cqp_order.specs.declared.stand.Stand.{Stand}
use Rattle.cqp_order.specs.Stands.{IsChange, stand_at}
use Rattle.cqp_parts.specs.declared.part.Part.{Part}
use Rattle.cqp_parts.specs.Parts.{opening_parts, process_of_part}
use Rattle.cqp_short.proofs.FrontBounds.{small_after}
use Rattle.cqp_steps.proofs.PartSums.{there_below}
use Rattle.cqp_syntax.specs.Listing.{Listing}
use Rattle.cqp_trace.specs.declared.entry.Entry.{Entry}
use Rattle.cqp_stepper.specs.declared.cells.Cells.{Cells}
use Rattle.cqp_stepper.specs.declared.cells.Unseen.{Unseen}
use Rattle.cqp_stepper.specs.Here.{IsHere}
use Rattle.cqp_stepper.specs.Kept.{AreNoted, IsAllSeen, IsKept, IsNoted, is_that, is_unseen, stand_of}
use Rattle.cqp_stepper.specs.Slots.{part_in}
use Rattle.cqp_stepper.specs.Steps.{made_in}

-- what is there
pub by_some : {X : Type 0} (o : Option X) → IsSome o → (x : X) × (o ≡ Some x)
by_some None is = cc
by_some (Some x) is = (x, refl)

-- the first of the unseen is one of them
pub first_unseen : (u : Unseen) (m : ℕ) → u.first ≡ Some m → is_unseen u m ≡ true
first_unseen u m is = rw is (or_left (m == m || is_that u.second m) _ (or_left (m == m) _ (eq-eqb m m refl)))

-- so is the second
pub second_unseen : (u : Unseen) (m : ℕ) → u.second ≡ Some m → is_unseen u m ≡ true
second_unseen u m is = rw is (or_left (is_that u.first m || m == m) _ (or_right (is_that u.first m) _ (eq-eqb m m refl)))

-- and the least of those behind
pub next_unseen : (u : Unseen) → is_unseen u u.from ≡ true
next_unseen u = or_right (is_that u.first u.from || is_that u.second u.from) _ (le-leb u.from u.from (omega arith))

-- the first is forgotten alone
pub first_less : (u : Unseen) (m n : ℕ) → u.first ≡ Some m → is_unseen (record u { first = None }) n ≡ false
    → (is_unseen u n ≡ false) ⊎ (m ≡ n)
first_less u m n is known = by_test (m == n) refl
  where
    by_test : (b : Bool) → (m == n) ≡ b → (is_unseen u n ≡ false) ⊎ (m ≡ n)
    by_test true e = inr (same_number m n e)
    by_test false e = inl (ap (λ o. is_that o n || is_that u.second n || nat_le u.from n) is ∙ (ap (λ z. z || is_that u.second n || nat_le u.from n) e ∙ known))

-- so is the second
pub second_less : (u : Unseen) (m n : ℕ) → u.second ≡ Some m → is_unseen (record u { second = None }) n ≡ false
    → (is_unseen u n ≡ false) ⊎ (m ≡ n)
second_less u m n is known = by_test (m == n) refl
  where
    by_test : (b : Bool) → (m == n) ≡ b → (is_unseen u n ≡ false) ⊎ (m ≡ n)
    by_test true e = inr (same_number m n e)
    by_test false e = inl (ap (λ o. is_that u.first n || is_that o n || nat_le u.from n) is ∙ (ap (λ z. is_that u.first n || z || nat_le u.from n) e ∙ known))

-- and the least of those behind
pub next_less : (u : Unseen) (n : ℕ) → is_unseen (record u { from = u.from + 1 }) n ≡ false → (is_unseen u n ≡ false) ⊎ (u.from ≡ n)
next_less u n known = by_test (nat_le u.from n) refl
  where
    by_test : (b : Bool) → nat_le u.from n ≡ b → (is_unseen u n ≡ false) ⊎ (u.from ≡ n)
    by_test false e = inl (ap (λ z. is_that u.first n || is_that u.second n || z) e
        ∙ ap (λ z. z || false) (or_parts (is_that u.first n || is_that u.second n) (nat_le (u.from + 1) n) known).0)
    by_test true e =
        let far = (or_parts (is_that u.first n || is_that u.second n) (nat_le (u.from + 1) n) known).1 in
        inr (grind arith)

-- a part of a run has a number below the front's
pub part_below : (l : Listing) (es : List Event) → IsRun factored l es → (n : ℕ) (part : Part) → (cells_of l es).parts n ≡ Some part
    → n < (front_of l es).parts
part_below l es run =
    let sound = sound_run l (opening_front l) (find (part_pairs 0 (opening_parts l))) es run (sound_opening l) in
    there_below (front_of l es).parts (cells_of l es).parts sound.keeps.kept.new_parts

module _ (l : Listing) (entries : List Entry) (s : Cells) (k : IsKept l entries s) where
  -- the counts are those of the front
  pub same_made : made_in s ≡ counts_of (front_of l k.events)
  same_made = rw (k.groups.places, k.chan_count) refl

  -- a part that is kept has a number below theirs
  pub kept_below : (n : ℕ) (part : Part) → part_in s.slots n ≡ Some part → n < s.counts.parts
  kept_below n part h =
      let below = part_below l k.events k.settled.run n part (sym (k.parts n) ∙ h) in
      let count = k.part_count in
      omega arith

  -- where none is unseen, how each part stands was noted
  pub all_noted : IsAllSeen s → (n : ℕ) → IsNoted l s n
  all_noted seen n = ⊎_elim (λ (below : n < s.counts.parts). k.noted.right n (seen n below))
      (λ (least : s.counts.parts ≤ n). none least (part_in s.slots n) (stand_at s.order.0 n) refl refl)
      (cases_lt n s.counts.parts)
    where
      -- a number that wasn't made has no part, and none is noted
      none : s.counts.parts ≤ n → (o : Option Part) (w : Option Stand) → part_in s.slots n ≡ o → stand_at s.order.0 n ≡ w → IsNoted l s n
      none least None None there at = at ∙ ap (option_map (λ p. stand_in (process_of_part l p))) (sym there)
      none least None (Some stand) there at = let below = k.noted.made n stand at in absurd (omega arith)
      none least (Some part) w there at = let below = kept_below n part there in absurd (omega arith)

  -- what stands somehow is there
  part_of : (n : ℕ) (stand : Stand) → stand_of l s n ≡ Some stand → (part : Part) × (part_in s.slots n ≡ Some part)
  part_of n stand at = by_part (part_in s.slots n) refl
    where
      by_part : (o : Option Part) → part_in s.slots n ≡ o → (part : Part) × (part_in s.slots n ≡ Some part)
      by_part (Some part) there = (part, there)
      by_part None there =
          absurd (none_is_some {x = stand} (sym (ap (option_map (λ p. stand_in (process_of_part l p))) there) ∙ at))

  -- so it was made
  pub stands_below : (n : ℕ) (stand : Stand) → stand_of l s n ≡ Some stand → n < s.counts.parts
  stands_below n stand at = let part = part_of n stand at in kept_below n part.0 part.1

  -- and a part that is noted is there
  pub noted_part : IsAllSeen s → (n : ℕ) (stand : Stand) → stand_at s.order.0 n ≡ Some stand → (part : Part) × (part_in s.slots n ≡ Some part)
  noted_part seen n stand at = part_of n stand (sym (all_noted seen n) ∙ at)

  -- and the notes are the configuration's table
  pub noted_table : (last : Config) → IsHere l k.events last → IsAllSeen s → IsTable (stand_at s.order.0) last
  noted_table last here seen = record { stands = each; operands = here.safe.operands }
    where
      -- part by part
      shown_stand : (o : Option Part) → option_map (λ p. stand_in (process_of_part l p)) o ≡ option_map stand_in (process_in l o)
      shown_stand None = refl
      shown_stand (Some part) = refl

      -- number by number
      each : (n : ℕ) → stand_at s.order.0 n ≡ option_map stand_in (part_at n last.parts)
      each n =
          all_noted seen n
          ∙ (shown_stand (part_in s.slots n)
          ∙ ap (λ o. option_map stand_in o) (ap (process_in l) (k.parts n) ∙ sym (here.shows.stands.parts n)))

  -- notes stay right but of the unseen
  pub noted_after : (t : Cells) (taken : ℕ → Bool)
      → IsAllSeen s
      → ((n : ℕ) → taken n ≡ false → n < s.counts.parts → part_in t.slots n ≡ part_in s.slots n)
      → t.order ≡ s.order
      → s.counts.parts ≤ t.counts.parts
      → ((n : ℕ) → taken n ≡ true → is_unseen t.unseen n ≡ true)
      → ((n : ℕ) → s.counts.parts ≤ n → is_unseen t.unseen n ≡ true)
      → AreNoted l t
  noted_after t taken seen stays order more first behind = record { right = right; made = made }
    where
      -- a part that isn't taken stands as before
      by_taken : (b : Bool) (n : ℕ) → taken n ≡ b → n < s.counts.parts → is_unseen t.unseen n ≡ false → IsNoted l t n
      by_taken true n is below known = let unseen = first n is in cc
      by_taken false n is below known =
          ap (λ o. stand_at o.0 n) order
          ∙ (k.noted.right n (seen n below) ∙ ap (option_map (λ p. stand_in (process_of_part l p))) (sym (stays n is below)))

      -- and one that is new is unseen
      right : (n : ℕ) → is_unseen t.unseen n ≡ false → IsNoted l t n
      right n known = ⊎_elim (λ (below : n < s.counts.parts). by_taken (taken n) n refl below known)
          (λ (least : s.counts.parts ≤ n). let unseen = behind n least in cc)
          (cases_lt n s.counts.parts)

      -- those that are noted were made before
      made : (n : ℕ) (stand : Stand) → stand_at t.order.0 n ≡ Some stand → n < t.counts.parts
      made n stand at = let below = k.noted.made n stand (sym (ap (λ o. stand_at o.0 n) order) ∙ at) in omega arith

  -- where nothing is noted as unseen, no part that was made is
  pub all_seen : s.unseen.first ≡ None → s.unseen.second ≡ None → s.counts.parts ≤ s.unseen.from → IsAllSeen s
  all_seen first second least n below =
      let far : nat_le s.unseen.from n ≡ false = lt-leb s.unseen.from n (omega arith) in
      rw (first, second, far) refl

  -- the numbers of parts fit in 32 bits
  pub few_parts : s.counts.parts < 2 ^ 32
  few_parts = let count = k.part_count in let few = (small_after l k.events k.settled.process k.settled.run).parts in omega arith

  -- how one of the unseen stands is noted anew
  pub noted_one : (n : ℕ) (w : Option Stand) (order : List (ℕ × Stand) × ℕ) → is_unseen s.unseen n ≡ true
      → ((stand : Stand) → w ≡ Some stand → n < s.counts.parts) → IsChange s.order.0 order.0 n w → order.1 ≡ s.order.1
      → IsKept l entries (record s { order = order })
  noted_one n w order unseen below change room = record {
    events = k.events;
    settled = k.settled;
    checked = k.checked;
    shows = k.shows;
    parts = k.parts;
    groups = k.groups;
    due = k.due;
    part_count = k.part_count;
    chan_count = k.chan_count;
    measured = k.measured;
    turn_count = k.turn_count;
    room = k.room;
    order_room = room ∙ k.order_room;
    noted = record { right = λ m known. others (n == m) m refl known; made = λ m stand at. by_number (n == m) m stand refl at };
  }
    where
      -- those of others are as before
      others : (b : Bool) (m : ℕ) → (n == m) ≡ b → is_unseen s.unseen m ≡ false → stand_at order.0 m ≡ stand_of l s m
      others true m is known = let same = ap (is_unseen s.unseen) (same_number n m is) in cc
      others false m is known =
          let stays : stand_at order.0 m ≡ stand_at s.order.0 m = change m ∙ rw is refl in stays ∙ k.noted.right m known

      -- and it was made
      by_number : (b : Bool) (m : ℕ) (stand : Stand) → (n == m) ≡ b → stand_at order.0 m ≡ Some stand → m < s.counts.parts
      by_number true m stand is at =
          let put : stand_at order.0 m ≡ w = change m ∙ rw is refl in
          subst (λ i. i < s.counts.parts) (same_number n m is) (below stand (sym put ∙ at))
      by_number false m stand is at =
          let stays : stand_at order.0 m ≡ stand_at s.order.0 m = change m ∙ rw is refl in k.noted.made m stand (sym stays ∙ at)

  -- or it is not there, for want of memory
  pub noted_renewed : {U E : Type 0} (n : ℕ) (w : Option Stand) (order : List (ℕ × Stand) × ℕ) (r : Result U E) → is_unseen s.unseen n ≡ true
      → ((stand : Stand) → w ≡ Some stand → n < s.counts.parts) → OnOk r (IsChange s.order.0 order.0 n w)
      → OnErr r (IsChange s.order.0 order.0 n None) → order.1 ≡ s.order.1 → IsKept l entries (record s { order = order })
  noted_renewed n w order (Ok u) unseen below done gone room = noted_one n w order unseen below done room
  noted_renewed n w order (Err e) unseen below done gone room =
      noted_one n None order unseen (λ stand none. absurd (none_is_some {x = stand} none)) gone room

  -- numbers may be forgotten that were noted
  pub unseen_less : (u : Unseen) → ((n : ℕ) → is_unseen u n ≡ false → (is_unseen s.unseen n ≡ false) ⊎ IsNoted l s n)
      → IsKept l entries (record s { unseen = u })
  unseen_less u less = record {
    events = k.events;
    settled = k.settled;
    checked = k.checked;
    shows = k.shows;
    parts = k.parts;
    groups = k.groups;
    due = k.due;
    part_count = k.part_count;
    chan_count = k.chan_count;
    measured = k.measured;
    turn_count = k.turn_count;
    room = k.room;
    order_room = k.order_room;
    noted = record {
      right = λ n known. ⊎_elim
          (λ (is : is_unseen s.unseen n ≡ false). k.noted.right n is)
          (λ (noted : IsNoted l s n). noted)
          (less n known);
      made = k.noted.made;
    };
  }
