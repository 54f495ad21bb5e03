-- The least turn, none, and the meeting of the least part with its least partner.
use Rattle.std.proofs.Common.{◌≡◌, ◌⊎◌, ℕ, ◌≤◌, Bool, true, false, refl, sym, ap, subst, ◌∙◌, inl, inr, min, max, arith}
use Rattle.std.specs.Prelude.{Some, None, Option, IsSome}
use Rattle.cqp_syntax.specs.Trees.{Process}
use Rattle.cqp_trace.specs.declared.deed.Deed.TheVariants as deed
use Rattle.cqp_trace.specs.declared.entry.Entry.{Entry}
use Rattle.cqp_cells.specs.Config.{Config, part_at}
use Rattle.cqp_cells.specs.Examples.{by}
use Rattle.cqp_cells.specs.Waiting.{IsActive, IsStuck, MeetEither, MeetsSome, is_waiting, meets_on}
use Rattle.cqp_cells.specs.Order.{least_part, greatest_part}
use Rattle.cqp_cells.specs.Step.{next}
use Rattle.cqp_cells.proofs.Options.{none_is_some, same_some, yes_is_no}
use Rattle.cqp_order.specs.declared.stand.Stand.{Stand}
use Rattle.cqp_order.specs.declared.stand.Stand.TheVariants.{Alone, Sends, Receives}
use Rattle.cqp_order.specs.Least.{IsLeast}
use Rattle.cqp_order.specs.Stands.{Meets, MeetsOn, IsActive as IsActiveBy}
use Rattle.cqp_meeting.specs.Laws.{StuckLaw, LeastLaw, PairedLaw, PartnerLaw}
use Rattle.cqp_meeting.specs.Meetings.{IsFirstMeeting, communication}
use Rattle.cqp_meeting.specs.Tables.{IsTable}
use Rattle.cqp_meeting.proofs.Active.{active_law, alone_law, meets_by, there_so}
use Rattle.cqp_meeting.proofs.Meeting.{stands_fit}

-- what isn't false is true
not_false : (b : Bool) → (b ≡ false → ⊥) → b ≡ true
not_false true h = refl
not_false false h = absurd (h refl)

-- what isn't true is false
not_true : (b : Bool) → (b ≡ true → ⊥) → b ≡ false
not_true true h = absurd (h refl)
not_true false h = refl

-- where no part is active each waits, and no two meet
none_stuck : {at : ℕ → Option Stand} {c : Config} → IsTable at c → ((i : ℕ) → IsActiveBy at i → ⊥) → IsStuck c
none_stuck {at} {c} t none = record {
  waits = λ i p there. not_false (is_waiting p) (λ h. here i (record { process = p; there = there; goes = inl h }));
  apart = λ i j k p q there too. not_true (meets_on k p q) (λ h.
      here i (record { process = p; there = there; goes = inr (record { other = j; process = q; there = too; chan = k; meets = inl h }) }));
}
  where
    here : (i : ℕ) → IsActive c i → ⊥
    here i active = none i ((active_law at c t i).1 active)

-- where each part waits and no two meet, none is active
stuck_none : {at : ℕ → Option Stand} {c : Config} → IsTable at c → IsStuck c → (i : ℕ) → IsActiveBy at i → ⊥
stuck_none {at} {c} t stuck i h = by_kind active.goes
  where
    active : IsActive c i
    active = (active_law at c t i).0 h

    by_side : (some : MeetsSome c active.process) → MeetEither some.chan active.process some.process → ⊥
    by_side some (inl meets) = yes_is_no (sym meets ∙ stuck.apart i some.other some.chan active.process some.process active.there some.there)
    by_side some (inr meets) = yes_is_no (sym meets ∙ stuck.apart some.other i some.chan some.process active.process some.there active.there)

    by_kind : (is_waiting active.process ≡ false) ⊎ MeetsSome c active.process → ⊥
    by_kind (inl goes) = yes_is_no (sym (stuck.waits i active.process active.there) ∙ goes)
    by_kind (inr some) = by_side some some.meets

-- no part is active by its table exactly where each waits and no two meet
pub stuck_law : StuckLaw
stuck_law at c t = (none_stuck t, stuck_none t)

-- the least turn is that of the least part that takes part in some reduction
pub least_law : LeastLaw
least_law at c t turn is = ((active_law at c t turn.part).0 is.0, λ j active. is.1 j ((active_law at c t j).1 active))

-- those that meet by a table meet either way round
swapped : (at : ℕ → Option Stand) (i j : ℕ) → Meets at i j → Meets at j i
swapped at i j (k, inl both) = (k, inr (both.1, both.0))
swapped at i j (k, inr both) = (k, inl (both.1, both.0))

-- a part stands in one way
one_stand : {o : Option Stand} {s u : Stand} → o ≡ Some s → o ≡ Some u → s ≡ u
one_stand h g = cc

-- the lesser of two, whichever comes first
min_is : (i j : ℕ) → i ≤ j → min i j ≡ i
min_is i j h = grind arith

min_other : (i j : ℕ) → i ≤ j → min j i ≡ i
min_other i j h = grind arith

-- the greater of two, the other way round
max_other : (i j : ℕ) → max j i ≡ max i j
max_other i j = grind arith

-- an input waits, and a ready output does
waits_so : {at : ℕ → Option Stand} {c : Config} → IsTable at c → (i j : ℕ) → Meets at i j → (p : Process) → part_at i c.parts ≡ Some p → is_waiting p ≡ true
waits_so {at} {c} t i j (k, meets) p there = not_false (is_waiting p) (λ h. by_side ((alone_law at c t i p there).1 h) meets)
  where
    by_side : at i ≡ Some Alone → MeetsOn at k i j → ⊥
    by_side alone (inl both) = cc (one_stand alone both.0)
    by_side alone (inr both) = cc (one_stand alone both.0)

-- the first meeting of a part that meets by a table, where its communication fits
meeting_of : {at : ℕ → Option Stand} {c : Config} → IsTable at c → (i j : ℕ) → IsLeast (Meets at i) (Some j) → (e : Entry) → IsSome (next c e)
    → least_part e ≡ i → greatest_part e ≡ max i j
    → (p : Process) → part_at i c.parts ≡ Some p → IsFirstMeeting c i j e
meeting_of t i j first e fits least greatest p there = record {
  process = p;
  there = there;
  waits = waits_so t i j first.0 p there;
  fits = fits;
  least = least;
  greatest = greatest;
  first = λ n k q at meets. first.1 n (meets_by t i n k p q there at meets);
}

-- the communication of a part that stands so with the part that it meets
by_stand : {at : ℕ → Option Stand} {c : Config} → IsTable at c → (i j : ℕ) → IsLeast (Meets at i) (Some j) → i ≤ j → (s : Stand) → at i ≡ Some s
    → (e : Entry) → communication i j s ≡ Some e → IsFirstMeeting c i j e
by_stand t i j first low Alone stands e h = absurd (none_is_some h)
by_stand {at} {c} t i j first low (Sends k) stands e h = subst (IsFirstMeeting c i j) (same_some h) (by_side first.0)
  where
    by_side : Meets at i j → IsFirstMeeting c i j (by i (deed.Com j k))
    by_side (m, inl both) =
        let same : Sends m ≡ Sends k = one_stand both.0 stands in
        let chan : m ≡ k = cc same in
        let (p, there, is) = there_so t i (Sends k) stands in
        let fits = stands_fit t i j k stands (both.1 ∙ ap (λ n. Some (Receives n)) chan) in
        meeting_of t i j first (by i (deed.Com j k)) fits (min_is i j low) refl p there
    by_side (m, inr both) = absurd (cc (one_stand both.0 stands))
by_stand {at} {c} t i j first low (Receives k) stands e h = subst (IsFirstMeeting c i j) (same_some h) (by_side first.0)
  where
    by_side : Meets at i j → IsFirstMeeting c i j (by j (deed.Com i k))
    by_side (m, inl both) = absurd (cc (one_stand both.0 stands))
    by_side (m, inr both) =
        let same : Receives m ≡ Receives k = one_stand both.0 stands in
        let chan : m ≡ k = cc same in
        let (p, there, is) = there_so t i (Receives k) stands in
        let fits = stands_fit t j i k (both.1 ∙ ap (λ n. Some (Sends n)) chan) stands in
        meeting_of t i j first (by j (deed.Com i k)) fits (min_other i j low) (max_other i j) p there

-- where the least turn has a partner, the communication of both is the first meeting
pub partner_law : PartnerLaw
partner_law at c t turn is j partner s stands e h =
    let first : IsLeast (Meets at turn.part) (Some j) = subst (IsLeast (Meets at turn.part)) partner is.2 in
    let low : turn.part ≤ j = is.1 j (inr (turn.part, swapped at turn.part j first.0)) in
    by_stand t turn.part j first low s stands e h

-- who stands alone meets nobody
alone_meets : (at : ℕ → Option Stand) (i : ℕ) → at i ≡ Some Alone → (j : ℕ) → Meets at i j → ⊥
alone_meets at i h j (k, inl both) = cc (one_stand h both.0)
alone_meets at i h j (k, inr both) = cc (one_stand h both.0)

-- who is active and meets nobody stands alone
stands_alone : (at : ℕ → Option Stand) (i : ℕ) → IsActiveBy at i → ((j : ℕ) → Meets at i j → ⊥) → at i ≡ Some Alone
stands_alone at i (inl alone) none = alone
stands_alone at i (inr some) none = absurd (none some.0 some.1)

-- who stands alone has no partner
no_partner : (at : ℕ → Option Stand) (i : ℕ) → at i ≡ Some Alone → (o : Option ℕ) → IsLeast (Meets at i) o → o ≡ None
no_partner at i h None least = refl
no_partner at i h (Some j) least = absurd (alone_meets at i h j least.0)

-- the least turn has a partner exactly where its part doesn't stand alone
pub paired_law : PairedLaw
paired_law at turn is = (
  λ h. stands_alone at turn.part is.0 (subst (IsLeast (Meets at turn.part)) h is.2),
  λ h. no_partner at turn.part h turn.partner is.2,
)
