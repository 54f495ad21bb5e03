-- A communication wakes one part: the lists stay right, and the count of the parts that are ready.
use Rattle.std.proofs.Common.{◌≡◌, ◌≢◌, ℕ, true, false, Bool, List, [], ◌∷◌, ◌&&◌, not, nat_lt, ◌+◌, ◌-◌, ◌≤◌, ◌<◌, ◌⊎◌, inl, inr, length, Some, refl, sym, ap}
use Rattle.std.proofs.Common.{arith, ◌∙◌, ⊎_elim}
use Rattle.std.proofs.lemmas.Bool.{false_from_ne_true, lt-ltb}
use Rattle.cqp_book.specs.Keys.{has}
use Rattle.cqp_syntax.specs.Listing.{Listing}
use Rattle.cqp_trace.specs.declared.deed.Deed.TheVariants as deed
use Rattle.cqp_machine.specs.declared.front.Front.{Front}
use Rattle.cqp_parts.specs.Parts.{process_of_part, parts_after, parts_after_input, more_than_one}
use Rattle.cqp_machine.specs.Cells.{Channel, Cells}
use Rattle.cqp_machine.specs.Enabled.{Meets}
use Rattle.cqp_machine.specs.After.{placed, parts_by, values_in, values_from, channel_of, without_two}
use Rattle.cqp_waiting.specs.Waiting.{is_parked, StandsReady, one_if, waiters}
use Rattle.cqp_steps.proofs.PartSums.{in_place, there_below}
use Rattle.cqp_steps.proofs.StepSums.{two_apart, stays_there, com_sum}
use Rattle.cqp_machine.proofs.SumLemmas.{sum_longer, sum_two_gone}
use Rattle.cqp_waiting.proofs.Waits.{chan_at, sender_at, receiver_at, one_chan}
use Rattle.cqp_waiting.proofs.ParkedLemmas.{Parked, parked_there, same_test, without_was, was_without, distinct-without}
use Rattle.cqp_waiting.proofs.WaitingLists.{Lists, parked_ready, parked_at, parked_here, ChangedAt, lists_changed, changed_parked, same_waits}
use Rattle.cqp_waiting.proofs.WaitingSteps.{one_each, living, weights_ones, one_at_most, IsWithin, Waiting, one_ready, none_beyond}

-- a list in which someone stands has a direction
some_in : (j : ℕ) (xs : List ℕ) → has j xs ≡ true → nat_lt 0 (length xs) ≡ true
some_in j [] h = cc
some_in j (x ∷ xs) h = lt-ltb 0 (length (x ∷ xs)) (omega arith)

-- a test that passes changes no other
and_true : (a b : Bool) → b ≡ true → (a && b) ≡ a
and_true true b h = h
and_true false b h = refl

-- so where someone stands the direction stays
pub keeps_direction : (outward : Bool) (j : ℕ) (xs : List ℕ) → has j xs ≡ true → (channel_of outward xs).outward ≡ outward
keeps_direction outward j xs h = and_true outward (nat_lt 0 (length xs)) (some_in j xs h)

-- and an empty one has none
and_false : (b : Bool) → (b && false) ≡ false
and_false true = refl
and_false false = refl

-- and where none stands it is false
pub no_direction : (outward : Bool) (xs : List ℕ) → xs ≡ [] → (channel_of outward xs).outward ≡ false
no_direction outward xs e = ap (λ z. outward && nat_lt 0 (length z)) e ∙ and_false outward

-- of two tests, one passes
one_of_two : (a b : Bool) → a ≡ not b → one_if a + one_if b ≡ 1
one_of_two true true h = cc
one_of_two true false h = refl
one_of_two false true h = refl
one_of_two false false h = cc

module _ (l : Listing) (f : Front) (c : Cells) (w : IsWithin f c) (h : Waiting l f c) where
  module _ (i to chan made gone : ℕ) (x : Meets l c i to chan made gone) where
    -- the channel without the two
    abbrev met : Channel
    met = channel_of x.channel.outward (without_two i to x.channel.waiting)

    -- the sender is at the channel
    sender_here : chan_at (process_of_part l x.sender) ≡ Some chan
    sender_here = sender_at chan (process_of_part l x.sender) x.sending x.sends

    -- and the receiver
    receiver_here : chan_at (process_of_part l x.receiver) ≡ Some chan
    receiver_here = receiver_at chan x.sending.values (process_of_part l x.receiver) x.process x.receives

    -- they are two
    apart : to ≢ i
    apart = two_apart l c i to chan made gone x

    -- with numbers below those that were not reached
    low : i < f.parts
    low = there_below f.parts c.parts w.new_parts i x.sender x.sender_there

    -- both of them
    high : to < f.parts
    high = there_below f.parts c.parts w.new_parts to x.receiver x.receiver_there

    -- the parts of others stay
    com_stay : (j : ℕ) → j ≢ i → j ≢ to → j < f.parts → parts_by l f c i (deed.Com to chan) j ≡ c.parts j
    com_stay j first second below =
        let ps = parts_after l x.sender (deed.Com to chan) in
        let vs : values_from l chan (c.parts i) ≡ x.sending.values = ap (values_from l chan) x.sender_there ∙ ap values_in x.sends in
        let out : placed to (f.parts + more_than_one (parts_after l x.sender (deed.Com to chan))) (parts_after_input l x.receiver x.sending.values)
        (placed i f.parts (parts_after l x.sender (deed.Com to chan)) c.parts) j ≡ c.parts j =
        stays_there to (f.parts + more_than_one (parts_after l x.sender (deed.Com to chan))) (parts_after_input l x.receiver x.sending.values)
        (placed i f.parts (parts_after l x.sender (deed.Com to chan)) c.parts) j second (omega arith)
        ∙ stays_there i f.parts (parts_after l x.sender (deed.Com to chan)) c.parts j first below in
        rw (vs, x.sender_there, x.receiver_there) out

    -- so has each who waits
    parked_low : (j : ℕ) → Parked c.chans j → j < f.parts
    parked_low j y = let s = parked_ready l c h.lists j y in there_below f.parts c.parts w.new_parts j s.part s.there

    -- who waits at another channel is neither of the two
    elsewhere : (j : ℕ) (y : Parked c.chans j) → y.chan ≢ chan → (j ≢ i) × (j ≢ to)
    elsewhere j y other = (
      λ e. other (one_chan (process_of_part l x.sender) y.chan chan (parked_at l c h.lists j x.sender (ap c.parts e ∙ x.sender_there) y) sender_here),
      λ e. other (one_chan (process_of_part l x.receiver) y.chan chan (parked_at l c h.lists j x.receiver (ap c.parts e ∙ x.receiver_there) y) receiver_here),
    )

    -- before, one of the two waits
    one_was : one_if (is_parked f.chans c i) + one_if (is_parked f.chans c to) ≡ 1
    one_was =
        let first = parked_here l c h.lists f.chans w.new_chans i x.sender x.sender_there chan x.channel x.channel_there sender_here in
        let second = parked_here l c h.lists f.chans w.new_chans to x.receiver x.receiver_there chan x.channel x.channel_there receiver_here in
        one_of_two (is_parked f.chans c i) (is_parked f.chans c to) (first ∙ (x.one_waits ∙ ap not (sym second)))

    -- so one is ready
    pub com_ready : 1 ≤ f.ready
    com_ready = ⊎_elim
        (λ (t : is_parked f.chans c i ≡ false). one_ready l f c w h i x.sender x.sender_there t)
        (λ (t : is_parked f.chans c to ≡ false). one_ready l f c w h to x.receiver x.receiver_there t)
        (one_free (is_parked f.chans c i) (is_parked f.chans c to) one_was)
      where
        one_free : (a b : Bool) → one_if a + one_if b ≡ 1 → (a ≡ false) ⊎ (b ≡ false)
        one_free false b h = inl refl
        one_free true false h = inr refl
        one_free true true h = absurd (omega arith)

    -- at most two go
    pub com_gone : gone ≤ 2
    com_gone =
        let first = one_at_most (parts_after l x.sender (deed.Com to chan)) in
        let second = one_at_most (parts_after_input l x.receiver x.sending.values) in
        let ends = x.ends in
        omega arith

    -- what lives, with those that are gone
    pub com_living : living l (f.parts + made) (parts_by l f c i (deed.Com to chan)) + gone ≡ living l f.parts c.parts + made
    com_living =
        let sum = com_sum l one_each f c w.new_parts i to chan made gone x in
        let size = weights_ones l (parts_after l x.sender (deed.Com to chan)) in
        let size_too = weights_ones l (parts_after_input l x.receiver x.sending.values) in
        let e = in_place (parts_after l x.sender (deed.Com to chan)) in
        let e_too = in_place (parts_after_input l x.receiver x.sending.values) in
        let some = x.makes in
        let none = x.ends in
        omega arith

    module _ (e : Cells) (parts_are : e.parts ≡ parts_by l f c i (deed.Com to chan)) (y : ChangedAt c e chan x.channel met) where
      stands_on : (j : ℕ) → has j met.waiting ≡ true → StandsReady l e chan met j
      stands_on j t =
          let still = without_was i to j x.channel.waiting t in
          let s = h.lists.stand chan x.channel j x.channel_there still.was in
          let below = there_below f.parts c.parts w.new_parts j s.part s.there in
          record {
            part = s.part;
            there = ap (λ m. m j) parts_are ∙ (com_stay j still.not_first still.not_second below ∙ s.there);
            ready = s.ready ∙ ap Some (sym (keeps_direction x.channel.outward j (without_two i to x.channel.waiting) t));
          }

      -- the lists are right afterwards
      com_lists : Lists l e
      com_lists = lists_changed l c e h.lists chan x.channel met y stands_on (distinct-without i to x.channel.waiting
          (h.lists.once chan x.channel x.channel_there))
          (no_direction x.channel.outward (without_two i to x.channel.waiting))
          (λ j z other. let two = elsewhere j z other in ap (λ m. m j) parts_are ∙ com_stay j two.0 two.1 (parked_low j z))

      -- afterwards neither waits, and the others as before
      not_first : is_parked f.chans e i ≡ false
      not_first = false_from_ne_true _ (λ t. ⊎_elim
          (λ (u : has i met.waiting ≡ true). (without_was i to i x.channel.waiting u).not_first refl)
          (λ (u : (z : Parked c.chans i) × (z.chan ≢ chan)). (elsewhere i u.0 u.1).0 refl)
          (changed_parked l c e h.lists chan x.channel met y i (parked_there f.chans e i t)))

      -- nor does the receiver
      not_second : is_parked f.chans e to ≡ false
      not_second = false_from_ne_true _ (λ t. ⊎_elim
          (λ (u : has to met.waiting ≡ true). (without_was i to to x.channel.waiting u).not_second refl)
          (λ (u : (z : Parked c.chans to) × (z.chan ≢ chan)). (elsewhere to u.0 u.1).1 refl)
          (changed_parked l c e h.lists chan x.channel met y to (parked_there f.chans e to t)))

      -- all others wait as before
      others_wait : (j : ℕ) → j ≢ i → j ≢ to → is_parked f.chans e j ≡ is_parked f.chans c j
      others_wait j first second = same_waits l c e h.lists chan x.channel met y f.chans w.new_chans j
          (same_test (has j met.waiting) (has j x.channel.waiting)
          (λ t. (without_was i to j x.channel.waiting t).was)
          (λ t. was_without i to j x.channel.waiting (record { was = t; not_first = first; not_second = second })))

      -- so one fewer waits
      one_fewer : waiters (f.parts + made) f.chans e + 1 ≡ waiters f.parts f.chans c
      one_fewer =
          let longer = sum_longer f.parts made (λ j. one_if (is_parked f.chans e j))
          (λ j up. ap one_if (others_wait j (λ z. omega (arith, low)) (λ z. omega (arith, high)) ∙ none_beyond l f c w h j up)) in
          let fewer = sum_two_gone f.parts i to (λ j. one_if (is_parked f.chans c j)) (λ j. one_if (is_parked f.chans e j)) low high apart
          (ap one_if not_first) (ap one_if not_second) (λ j first second. ap one_if (others_wait j first second)) in
          let one = one_was in
          omega arith

      -- the lists stay right, and the count with them
      pub com_waits : (g : Front) → g.parts ≡ f.parts + made → g.ready ≡ f.ready + made + 1 - gone → g.chans ≡ f.chans → Waiting l g e
      com_waits g parts ready chans =
          let waiting : waiters g.parts g.chans e ≡ waiters (f.parts + made) f.chans e =
          ap (λ n. waiters n g.chans e) parts ∙ ap (λ n. waiters (f.parts + made) n e) chans in
          let live : living l g.parts e.parts ≡ living l (f.parts + made) (parts_by l f c i (deed.Com to chan)) =
          ap (λ n. living l n e.parts) parts ∙ ap (living l (f.parts + made)) parts_are in
          let sum = com_living in
          let some = com_ready in
          let few = com_gone in
          let fewer = one_fewer in
          let count = h.count in
          record { lists = com_lists; count = omega arith }
