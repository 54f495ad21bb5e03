-- What the least part does next is the next entry in plain order, and is picked.
use Rattle.std.proofs.Common.{◌≡◌, ◌⊎◌, ℕ, ◌<◌, ◌≤◌, List, length, max, get_or, true, refl, sym, ap, subst, inl, inr, ◌∙◌, arith}
use Rattle.std.specs.Borrow.{Bor}
use Rattle.std.specs.Prelude.{Some, IsSome}
use Rattle.std.proofs.lemmas.List.{get_or-map, length-map}
use Rattle.std.proofs.lemmas.Option.{slice_get-get_or}
use Rattle.cqp_ring.specs.declared.root.Root.{Root}
use Rattle.cqp_syntax.specs.Trees.{Process}
use Rattle.cqp_trace.specs.declared.deed.Deed.{Deed}
use Rattle.cqp_trace.specs.declared.deed.Deed.TheVariants as deed
use Rattle.cqp_trace.specs.declared.entry.Entry.{Entry}
use Rattle.cqp_vector.specs.declared.odds.Odd.{Odd}
use Rattle.cqp_vector.specs.State.{State}
use Rattle.cqp_cells.specs.Config.{Config, part_at}
use Rattle.cqp_cells.specs.Examples.{by}
use Rattle.cqp_cells.specs.Order.{IsPlainNext, least_part, least_with, greatest_part}
use Rattle.cqp_cells.specs.Rows.{Fits, fits_measure}
use Rattle.cqp_cells.specs.Step.{next}
use Rattle.cqp_cells.specs.Waiting.{IsActive, MeetEither, is_waiting}
use Rattle.cqp_paths.specs.Follows.{Pick, IsPickedIn, measure_count, outcomes_of}
use Rattle.cqp_engine.specs.PlainRuns.{IsChosen, answers_of}
use Rattle.cqp_engine.specs.Upcoming.{AreOddsOf, IsLeastMeeting, IsLeastPart, IsMeasuring, IsOwnEntry, told_norms}
use Rattle.cqp_engine.proofs.Outcomes.{listed_outcome}
use Rattle.cqp_engine.proofs.Tried.{some_of}

-- what is asked of c: the entry of the least active part alone is the next in plain order
abbrev pub AloneIsNext : Config → Type 0
AloneIsNext c =
    (i : ℕ) (p : Process) (d : Deed) → part_at i c.parts ≡ Some p → Fits c.state c.chans p d → ((j : ℕ) → IsActive c j → i ≤ j) → IsPlainNext c (by i d)

-- so is its communication with the least partner
abbrev pub MeetingIsNext : Config → Type 0
MeetingIsNext c =
    (i j : ℕ) (p : Process) (e : Entry) → part_at i c.parts ≡ Some p → is_waiting p ≡ true → IsSome (next c e) → least_part e ≡ i
    → greatest_part e ≡ max i j → ((n : ℕ) → IsActive c n → i ≤ n)
    → ((n k : ℕ) (q : Process) → part_at n c.parts ≡ Some q → MeetEither k p q → j ≤ n) → IsPlainNext c e

-- and who takes part in a reduction is active
abbrev pub TakersAreActive : Config → Type 0
TakersAreActive c = (e : Entry) (d : Config) → next c e ≡ Some d → IsActive c (least_part e)

-- a count of one is not none
one_is_none : (n : ℕ) → n ≡ 1 → n ≡ 0 → ⊥
one_is_none n one none = omega (arith, one, none)

-- what is no measurement has nothing to pick
unpicked : (pick : Pick) (turn : ℕ) (s : State) (d : Deed) → measure_count d ≡ 0 → IsPickedIn pick turn s d
unpicked pick turn s (deed.Measure qs m) h = absurd (one_is_none 1 refl h)
unpicked pick turn s d h = tt

-- the least part of an entry is at most the part that it names
least_named : (i : ℕ) (d : Deed) → least_with i d ≤ i
least_named i (deed.Com to chan) = grind arith
least_named i d = omega arith

-- an entry of the least part alone is chosen
own_chosen : (pick : Pick) (turn : ℕ) (c : Config) (i : ℕ) (e : Entry) → AloneIsNext c → TakersAreActive c → IsLeastPart c i → measure_count e.deed ≡ 0
    → IsOwnEntry c i e → IsChosen pick turn c i e
own_chosen pick turn c i e alone takers is other own = record { plain = plain; first = first; picked = unpicked pick turn c.state e.deed other }
  where
    plain : IsPlainNext c e
    plain =
        alone e.part own.process e.deed (subst (λ n. part_at n c.parts ≡ Some own.process) (sym own.part) own.there) own.fits
        (λ j active. subst (λ n. n ≤ j) (sym own.part) (is.least j active))

    first : least_part e ≡ i
    first =
        let some = some_of (next c e) plain.fits in
        let low : i ≤ least_part e = is.least (least_part e) (takers e some.0 some.1) in
        let high : least_part e ≤ e.part = least_named e.part e.deed in
        let same : e.part ≡ i = own.part in
        omega (arith, low, high, same)

-- its communication with the least partner is chosen
meeting_chosen : (pick : Pick) (turn : ℕ) (c : Config) (i : ℕ) (e : Entry) → MeetingIsNext c → IsLeastPart c i → measure_count e.deed ≡ 0
    → IsLeastMeeting c i e → IsChosen pick turn c i e
meeting_chosen pick turn c i e meeting is other met = record {
  plain = meeting i met.partner met.process e met.there met.waits met.fits met.between.least met.between.greatest is.least met.first;
  first = met.between.least;
  picked = unpicked pick turn c.state e.deed other;
}

-- an entry that is upcoming is chosen
pub entry_chosen : (pick : Pick) (turn : ℕ) (c : Config) (i : ℕ) (e : Entry) → AloneIsNext c → MeetingIsNext c → TakersAreActive c → IsLeastPart c i
    → (measure_count e.deed ≡ 0) × (IsOwnEntry c i e ⊎ IsLeastMeeting c i e) → IsChosen pick turn c i e
entry_chosen pick turn c i e alone meeting takers is (other, inl own) = own_chosen pick turn c i e alone takers is other own
entry_chosen pick turn c i e alone meeting takers is (other, inr met) = meeting_chosen pick turn c i e meeting is other met

-- an outcome that stands in the distribution at an index that is answered is chosen
pub outcome_chosen : (pick : Pick) (turn : ℕ) (c : Config) (i : ℕ) (qs : List ℕ) (odds : List Odd) (index m : ℕ) → AloneIsNext c → IsLeastPart c i
    → IsMeasuring c i qs → AreOddsOf qs c.state odds → pick turn (told_norms odds) index → index < length (outcomes_of qs c.state)
    → get_or (outcomes_of qs c.state) index 0 ≡ m → IsChosen pick turn c i (by i (deed.Measure qs m))
outcome_chosen pick turn c i qs odds index m alone is measuring are answered inside stands =
    let one = listed_outcome qs c.state index inside in
    let here = subst (λ n. Fits c.state c.chans measuring.process (deed.Measure qs n)) stands
    (fits_measure measuring.redex measuring.qubits measuring.operands one.0 one.1) in
    record {
      plain = alone i measuring.process (deed.Measure qs m) measuring.there here is.least;
      first = refl;
      picked = record {
        odds = told_norms odds;
        lawful = are.lawful;
        proportional = are.proportional;
        index = index;
        answered = answered;
        stands = slice_get-get_or (outcomes_of qs c.state) index 0 inside ∙ ap Some stands;
      };
    }

-- a function that was asked with a slice of the odds is asked with the odds
pub asked : (post : ℕ → Bor (List Root) → ℕ → Type 0) (turn n : ℕ) (lent : Bor (List Root)) (odds : List Root) (index : ℕ) → turn ≡ n
    → lent.now ≡ odds → post turn lent index → answers_of post n odds index
asked post turn n lent odds index at same answered = (lent, same, subst (λ t. post t lent index) at answered)

-- what stands at an index of odds stands there in the distribution
pub told_outcome : (qs : List ℕ) (s : State) (odds : List Odd) (index : ℕ) (d : Odd) → AreOddsOf qs s odds → index < length odds
    → (index < length (outcomes_of qs s)) × (get_or (outcomes_of qs s) index 0 ≡ (get_or odds index d).outcome)
told_outcome qs s odds index d are inside = (
  subst (λ ms. index < length ms) are.outcomes (omega (arith, inside, length-map odds (λ (odd : Odd). odd.outcome))),
  ap (λ ms. get_or ms index 0) (sym are.outcomes) ∙ get_or-map (λ (odd : Odd). odd.outcome) odds index d 0 inside,
)

-- there are as many norms as odds
pub as_many : (odds : List Odd) (norms : List Root) (index : ℕ) → norms ≡ told_norms odds → index < length norms → index < length odds
as_many odds norms index same inside =
    let many : length norms ≡ length (told_norms odds) = ap length same in
    let told : length (told_norms odds) ≡ length odds = length-map odds (λ (odd : Odd). odd.norm) in
    omega (arith, inside, many, told)
