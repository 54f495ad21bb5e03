-- A part that parks waits: the lists stay right, and the count of the parts that are ready.
use Rattle.std.proofs.Common.{◌≡◌, ◌≢◌, ℕ, true, false, Bool, [], ◌∷◌, ◌++◌, ◌==◌, ◌||◌, ◌+◌, ◌-◌, ◌≤◌, Some, refl, sym, ap, arith, eq-eqb, ne_eqb, ◌∙◌, ⊎_elim}
use Rattle.cqp_book.specs.Keys.{has}
use Rattle.cqp_syntax.specs.Listing.{Listing}
use Rattle.cqp_machine.specs.declared.front.Front.{Front}
use Rattle.cqp_parts.specs.Parts.{process_of_part}
use Rattle.cqp_machine.specs.Cells.{Channel, Cells}
use Rattle.cqp_machine.specs.Enabled.{MayPark}
use Rattle.cqp_machine.specs.After.{channel_of}
use Rattle.cqp_waiting.specs.Waiting.{is_parked, StandsReady, one_if, waiters}
use Rattle.cqp_machine.proofs.SumLemmas.{sum_changed}
use Rattle.cqp_steps.proofs.PartSums.{there_below}
use Rattle.cqp_waiting.proofs.Waits.{chan_at, waits_at}
use Rattle.cqp_waiting.proofs.ParkedLemmas.{has-snoc, distinct-snoc, there_parked}
use Rattle.cqp_waiting.proofs.WaitingLists.{Lists, parked_here, chan_below, ChangedAt, lists_changed, same_waits}
use Rattle.cqp_waiting.proofs.WaitingSteps.{living, IsWithin, Waiting, one_ready}
use Rattle.std.proofs.lemmas.Bool.{or_cases, eqb-true}
use Rattle.cqp_waiting.proofs.WaitingCom.{keeps_direction, no_direction}

module _ (l : Listing) (f : Front) (c : Cells) (w : IsWithin f c) (h : Waiting l f c) where
  module _ (i chan : ℕ) (x : MayPark l c i chan) where
    -- the channel with the part at its end
    abbrev now : Channel
    now = channel_of x.outward (x.channel.waiting ++ i ∷ [])

    -- the part is at the channel
    waiter_here : chan_at (process_of_part l x.part) ≡ Some chan
    waiter_here = waits_at chan (process_of_part l x.part) x.outward x.ready

    -- it did not wait
    was_free : is_parked f.chans c i ≡ false
    was_free = parked_here l c h.lists f.chans w.new_chans i x.part x.there chan x.channel x.channel_there waiter_here ∙ x.not_yet

    -- so it was ready
    pub park_ready : 1 ≤ f.ready
    park_ready = one_ready l f c w h i x.part x.there was_free

    -- now it stands in the list
    i_now : has i now.waiting ≡ true
    i_now = has-snoc i i x.channel.waiting ∙ or_same (has i x.channel.waiting) (i == i) (eq-eqb i i refl)
      where
        or_same : (a b : Bool) → b ≡ true → (a || b) ≡ true
        or_same true b e = refl
        or_same false b e = e

    module _ (e : Cells) (parts_are : e.parts ≡ c.parts) (y : ChangedAt c e chan x.channel now) where
      -- those who waited stand in the part's direction
      same_way : (j : ℕ) → has j x.channel.waiting ≡ true → x.channel.outward ≡ x.outward
      same_way j t = ⊎_elim
          (λ (u : x.channel.waiting ≡ []). let none : false ≡ true = sym (ap (has j) u) ∙ t in cc)
          (λ (u : x.channel.outward ≡ x.outward). u)
          x.none_other

      -- all in the list stand ready
      stands_now : (j : ℕ) → has j now.waiting ≡ true → StandsReady l e chan now j
      stands_now j t =
          let way : now.outward ≡ x.outward = keeps_direction x.outward j (x.channel.waiting ++ i ∷ []) t in
          ⊎_elim
          (λ (u : has j x.channel.waiting ≡ true).
          let s = h.lists.stand chan x.channel j x.channel_there u in
          record { part = s.part; there = ap (λ m. m j) parts_are ∙ s.there; ready = s.ready ∙ ap Some (same_way j u ∙ sym way) })
          (λ (u : (j == i) ≡ true).
          let same = eqb-true j i u in
          record { part = x.part; there = ap (λ m. m j) parts_are ∙ (ap c.parts same ∙ x.there); ready = x.ready ∙ ap Some (sym way) })
          (or_cases (has j x.channel.waiting) (j == i) (sym (has-snoc j i x.channel.waiting) ∙ t))

      -- the lists are right afterwards
      park_lists : Lists l e
      park_lists = lists_changed l c e h.lists chan x.channel now y stands_now
          (distinct-snoc i x.channel.waiting (h.lists.once chan x.channel x.channel_there) x.not_yet)
          (no_direction x.outward (x.channel.waiting ++ i ∷ []))
          (λ j z other. ap (λ m. m j) parts_are)

      -- all others wait as before
      others_park : (j : ℕ) → j ≢ i → is_parked f.chans e j ≡ is_parked f.chans c j
      others_park j other = same_waits l c e h.lists chan x.channel now y f.chans w.new_chans j
          (has-snoc j i x.channel.waiting ∙ (ap (λ b. has j x.channel.waiting || b) (ne_eqb j i other) ∙ or_none (has j x.channel.waiting)))
        where
          or_none : (b : Bool) → (b || false) ≡ b
          or_none true = refl
          or_none false = refl

      -- the part waits
      parked_now : is_parked f.chans e i ≡ true
      parked_now = there_parked f.chans e i (record { chan = chan; channel = now; there = y.is; waits = i_now })
          (chan_below f.chans c.chans w.new_chans chan x.channel x.channel_there)

      -- so one more waits
      one_more : waiters f.parts f.chans e ≡ waiters f.parts f.chans c + 1
      one_more =
          let sum = sum_changed f.parts i (λ j. one_if (is_parked f.chans c j)) (λ j. one_if (is_parked f.chans e j))
          (there_below f.parts c.parts w.new_parts i x.part x.there) (λ j other. ap one_if (others_park j other)) in
          let first : one_if (is_parked f.chans c i) ≡ 0 = ap one_if was_free in
          let second : one_if (is_parked f.chans e i) ≡ 1 = ap one_if parked_now in
          omega arith

      -- the lists stay right, and the count with them
      pub park_waits : (g : Front) → g.parts ≡ f.parts → g.ready ≡ f.ready - 1 → g.chans ≡ f.chans → Waiting l g e
      park_waits g parts ready chans =
          let waiting : waiters g.parts g.chans e ≡ waiters f.parts f.chans e = ap (λ n. waiters n g.chans e) parts ∙ ap (λ n. waiters f.parts n e) chans in
          let live : living l g.parts e.parts ≡ living l f.parts c.parts = ap (λ n. living l n e.parts) parts ∙ ap (living l f.parts) parts_are in
          let some = park_ready in
          let more = one_more in
          let count = h.count in
          record { lists = park_lists; count = omega arith }
