-- The deeds of a turn, and the entries that they are.
use Rattle.std.proofs.Common.{◌≡◌, ◌<◌, ℕ, List, Option, Some, None, IsSome, false, length, refl, sym, ap, subst, ◌∙◌}
use Rattle.cqp_syntax.specs.Listing.{Listing}
use Rattle.cqp_syntax.specs.Trees.{Process}
use Rattle.cqp_trace.specs.declared.deed.Deed.{Deed}
use Rattle.cqp_trace.specs.declared.deed.Deed.TheVariants as deed
use Rattle.cqp_trace.specs.declared.entry.Entry.{Entry}
use Rattle.cqp_vector.specs.State.{State}
use Rattle.cqp_cells.specs.Examples.{by}
use Rattle.cqp_cells.specs.Moves.{Counts as Made, moved}
use Rattle.cqp_cells.specs.Operands.{is_wrong}
use Rattle.cqp_cells.specs.Step.{counts_of, next}
use Rattle.cqp_cells.proofs.Options.{none_is_some, same_some}
use Rattle.cqp_fitting.specs.Deeds.{IsDeedOf}
use Rattle.cqp_fitting.specs.Laws.{EntryLaw, NoEntryLaw}
use Rattle.cqp_meeting.specs.Laws.{OwnLaw}
use Rattle.cqp_meeting.specs.Meetings.{is_communication}
use Rattle.cqp_order.specs.declared.stand.Stand.TheVariants.{Alone}
use Rattle.cqp_order.specs.Stands.{stand_at}
use Rattle.cqp_parts.specs.Parts.{process_of_part}
use Rattle.cqp_turns.specs.declared.turn.Turn.{Turn}
use Rattle.cqp_turns.specs.declared.turn.Turn.TheVariants as turn
use Rattle.cqp_turn_laws.specs.Deeds.{MovesBy}
use Rattle.cqp_turn_laws.specs.Laws.{MovesLaw, SomeQubitsLaw}
use Rattle.cqp_stepper.specs.declared.cells.Cells.{Cells}
use Rattle.cqp_stepper.specs.Here.{HereLaw}
use Rattle.cqp_stepper.specs.Kept.{IsAllSeen, IsKept}
use Rattle.cqp_stepper.specs.Own.{HasOutcomeBits, HasSomeQubits, HasOwnTurn, IsDeedOfTurn, StandsBy, deed_by, outcome_in}
use Rattle.cqp_stepper.specs.Steps.{MayMake, made_in}
use Rattle.cqp_stepper.proofs.Last.{kept_part, last, table_here}
use Rattle.cqp_stepper.proofs.Noted.{by_some, noted_part}
use Rattle.cqp_stepper.proofs.Tried.{made_here}
use Rattle.cqp_stepper.proofs.Unmade.{none_if}

-- a deed that says no outcome is the turn's where it is this
plain_deed : (n : Made) (t : Turn) (d e : Deed) → deed_by n (outcome_in d) t ≡ Some e → HasOutcomeBits e → d ≡ e → IsDeedOfTurn n t d
plain_deed n t d e by_turn bits same = record { is = by_turn ∙ ap Some (sym same); bits = subst HasOutcomeBits (sym same) bits }

-- what fits by a turn is the turn's
pub deed_of_turn : (s : State) (chans : ℕ) (t : Turn) (d : Deed) → IsDeedOf s chans t d → IsDeedOfTurn (counts_of s chans) t d
deed_of_turn s chans turn.Qbit d h = plain_deed (counts_of s chans) turn.Qbit d (deed.Qbit s.qubits) refl tt h
deed_of_turn s chans turn.New d h = plain_deed (counts_of s chans) turn.New d (deed.New chans) refl tt h
deed_of_turn s chans turn.Act d h = plain_deed (counts_of s chans) turn.Act d deed.Act refl tt h
deed_of_turn s chans (turn.Add v) d h = plain_deed (counts_of s chans) (turn.Add v) d (deed.Add v) refl tt h
deed_of_turn s chans (turn.Pick o) d h = plain_deed (counts_of s chans) (turn.Pick o) d (deed.Pick o) refl tt h
deed_of_turn s chans (turn.Gate o qs) d h = plain_deed (counts_of s chans) (turn.Gate o qs) d (deed.Gate o qs) refl tt h
deed_of_turn s chans (turn.Measure qs) d h =
    plain_deed (counts_of s chans) (turn.Measure qs) d (deed.Measure qs h.outcome) (ap (λ x. Some (deed.Measure qs (outcome_in x))) h.is) h.below h.is
deed_of_turn s chans (turn.Send k vs) d h = absurd h
deed_of_turn s chans (turn.Receive k) d h = absurd h
deed_of_turn s chans (turn.If answer) d h = plain_deed (counts_of s chans) (turn.If answer) d (deed.If answer) refl tt h

-- a process that moves by its turn moves by the turn's deed
pub moves_by : (n : Made) (p : Process) (t : Turn) (d : Deed) → MovesBy n p t → IsDeedOfTurn n t d → IsSome (moved n p d)
moves_by n p turn.Qbit d h x = subst (λ e. IsSome (moved n p e)) (same_some x.is) h
moves_by n p turn.New d h x = subst (λ e. IsSome (moved n p e)) (same_some x.is) h
moves_by n p turn.Act d h x = subst (λ e. IsSome (moved n p e)) (same_some x.is) h
moves_by n p (turn.Add v) d h x = subst (λ e. IsSome (moved n p e)) (same_some x.is) h
moves_by n p (turn.Pick o) d h x = subst (λ e. IsSome (moved n p e)) (same_some x.is) h
moves_by n p (turn.Gate o qs) d h x = subst (λ e. IsSome (moved n p e)) (same_some x.is) h
moves_by n p (turn.Measure qs) d h x =
    let same : deed.Measure qs (outcome_in d) ≡ d = same_some x.is in
    subst (λ e. IsSome (moved n p e)) same (h (outcome_in d) (subst HasOutcomeBits (sym same) x.bits))
moves_by n p (turn.Send k vs) d h x = absurd (none_is_some {x = d} x.is)
moves_by n p (turn.Receive k) d h x = absurd (none_is_some {x = d} x.is)
moves_by n p (turn.If answer) d h x = subst (λ e. IsSome (moved n p e)) (same_some x.is) h

-- a deed of a turn that measures some qubits does
some_by : (n : Made) (t : Turn) (d : Deed) → IsDeedOfTurn n t d → ((qs : List ℕ) → t ≡ turn.Measure qs → 0 < length qs) → HasSomeQubits d
some_by n t (deed.Qbit q) h some = tt
some_by n t (deed.New k) h some = tt
some_by n t deed.Act h some = tt
some_by n t (deed.Add v) h some = tt
some_by n t (deed.Pick o) h some = tt
some_by n t (deed.Gate o qs) h some = tt
some_by n t (deed.Com to k) h some = tt
some_by n t (deed.If answer) h some = tt
some_by n turn.Qbit (deed.Measure rs m) h some = let e = h.is in cc
some_by n turn.New (deed.Measure rs m) h some = let e = h.is in cc
some_by n turn.Act (deed.Measure rs m) h some = let e = h.is in cc
some_by n (turn.Add v) (deed.Measure rs m) h some = let e = h.is in cc
some_by n (turn.Pick o) (deed.Measure rs m) h some = let e = h.is in cc
some_by n (turn.Gate o qs) (deed.Measure rs m) h some = let e = h.is in cc
some_by n (turn.Measure qs) (deed.Measure rs m) h some =
    let e = h.is in
    let same : qs ≡ rs = cc in
    subst (λ z. 0 < length z) same (some qs refl)
some_by n (turn.Send k vs) (deed.Measure rs m) h some = let e = h.is in cc
some_by n (turn.Receive k) (deed.Measure rs m) h some = let e = h.is in cc
some_by n (turn.If answer) (deed.Measure rs m) h some = let e = h.is in cc

module _ (l : Listing) (here_law : HereLaw) (entries : List Entry) (s : Cells) (k : IsKept l entries s) where
  -- a part that doesn't stand alone has no deed of its own
  pub not_alone : OwnLaw → IsAllSeen s → (n : ℕ) (d : Deed) → is_communication d ≡ false
      → (stand_at s.order.0 n ≡ Some Alone → ⊥) → next (last l here_law entries s k) (by n d) ≡ None
  not_alone own seen n d alone not =
      none_if _ (λ some. not (own _ (last l here_law entries s k) (table_here l here_law entries s k seen) n d alone some))

  -- nor a part whose turn's deed is another
  pub other_deed : NoEntryLaw → (n : ℕ) (t : Turn) (d : Deed) → is_communication d ≡ false → StandsBy l s n t
      → (IsDeedOfTurn (made_in s) t d → ⊥) → next (last l here_law entries s k) (by n d) ≡ None
  other_deed law n t d alone stands not =
      let c = last l here_law entries s k in
      let here = kept_part l here_law entries s k n stands.part stands.there in
      (law c n (process_of_part l stands.part) t here.there here.right stands.takes d alone).1
      (λ h. not (subst (λ m. IsDeedOfTurn m t d) (sym (made_here l here_law entries s k)) (deed_of_turn c.state c.chans t d h)))

  -- a part of which an entry of its own leads on stands by its turn
  pub stands_by : OwnLaw → IsAllSeen s → (n : ℕ) (d : Deed) → is_communication d ≡ false
      → IsSome (next (last l here_law entries s k) (by n d)) → (t : Turn) × StandsBy l s n t
  stands_by own seen n d alone leads =
      let stands = own _ (last l here_law entries s k) (table_here l here_law entries s k seen) n d alone leads in
      let part = noted_part l entries s k seen n Alone stands in
      let turn = by_some _ (kept_part l here_law entries s k n part.0 part.1).takes in
      (turn.0, record { part = part.0; there = part.1; alone = stands; takes = turn.1 })

  -- its own deed it may make
  pub may_by : MovesLaw → (n : ℕ) (t : Turn) (d : Deed) → StandsBy l s n t → IsDeedOfTurn (made_in s) t d → MayMake l s n d
  may_by moves n t d stands is =
      let c = last l here_law entries s k in
      let p = process_of_part l stands.part in
      let here = kept_part l here_law entries s k n stands.part stands.there in
      let right : is_wrong (length s.groups) p ≡ false = subst (λ m. is_wrong m.qubits p ≡ false) (sym (made_here l here_law entries s k)) here.right in
      let told = by_some (moved (made_in s) p d) (moves_by (made_in s) p t d (moves (made_in s) p t right stands.takes) is) in
      record { part = stands.part; there = stands.there; process = told.0; moves = told.1 }

  -- a deed of its own that leads on is of that turn
  module _ (own : OwnLaw) (entry : EntryLaw) (seen : IsAllSeen s) (n : ℕ) (d : Deed) (alone : is_communication d ≡ false)
      (leads : IsSome (next (last l here_law entries s k) (by n d))) where
    its_turn : (t : Turn) × StandsBy l s n t
    its_turn = stands_by own seen n d alone leads

    its_deed : IsDeedOfTurn (made_in s) its_turn.0 d
    its_deed =
        let c = last l here_law entries s k in
        let here = kept_part l here_law entries s k n its_turn.1.part its_turn.1.there in
        let is = (entry c n (process_of_part l its_turn.1.part) its_turn.0 here.there here.right its_turn.1.takes d alone).0 leads in
        subst (λ m. IsDeedOfTurn m its_turn.0 d) (sym (made_here l here_law entries s k)) (deed_of_turn c.state c.chans its_turn.0 d is)

    -- so the part may make it
    pub may_next : MovesLaw → MayMake l s n d
    may_next moves = may_by moves n its_turn.0 d its_turn.1 its_deed

    -- and it measures some qubits, if it measures
    pub some_next : SomeQubitsLaw → HasSomeQubits d
    some_next some =
        some_by (made_in s) its_turn.0 d its_deed
        (λ qs is. some l its_turn.1.part k.settled.process (kept_part l here_law entries s k n its_turn.1.part its_turn.1.there).stands qs
        (its_turn.1.takes ∙ ap Some is))

-- without a turn a part doesn't stand alone
pub no_turn : (l : Listing) (s : Cells) (n : ℕ) (o : Option Turn) → ((t : Turn) → o ≡ Some t → ⊥) → HasOwnTurn l s n o
    → stand_at s.order.0 n ≡ Some Alone → ⊥
no_turn l s n None none h = h
no_turn l s n (Some t) none h = absurd (none t refl)

-- with one it stands by that
pub the_turn : (l : Listing) (s : Cells) (n : ℕ) (o : Option Turn) (t : Turn) → o ≡ Some t → HasOwnTurn l s n o → StandsBy l s n t
the_turn l s n o t is h = subst (HasOwnTurn l s n) is h
