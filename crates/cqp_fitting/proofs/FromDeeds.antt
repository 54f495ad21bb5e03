-- A deed of a process's turn fits it, where no operand is wrong.
use Rattle.std.proofs.Common.{◌≡◌, ◌⊎◌, ℕ, [], ◌∷◌, true, false, Option, Some, None, refl, sym, ap, subst, ◌∙◌, inl, inr}
use Rattle.std.specs.Prelude.{IsSome, is_some, if◌then◌else◌}
use Rattle.std.specs.Option.{option_map}
use Rattle.cqp_syntax.specs.Trees.{Process}
use Rattle.cqp_trace.specs.declared.deed.Deed.{Deed}
use Rattle.cqp_trace.specs.declared.deed.Deed.TheVariants as deed
use Rattle.cqp_vector.specs.State.{State}
use Rattle.cqp_cells.specs.Config.{Config, continued}
use Rattle.cqp_cells.specs.Examples.{by}
use Rattle.cqp_cells.specs.Moves.{moved}
use Rattle.cqp_cells.specs.Operands.{is_wrong}
use Rattle.cqp_cells.specs.Rows.{Fits, IsAlone, IsMeeting}
use Rattle.cqp_cells.specs.Step.{next, row_of, own_row, with_deed, has_outcome, counts_of}
use Rattle.cqp_cells.proofs.Inversion.{inverted}
use Rattle.cqp_cells.proofs.Options.{same_some, yes_is_no}
use Rattle.cqp_turn_laws.specs.Deeds.{MovesBy}
use Rattle.cqp_turn_laws.specs.Laws.{MovesLaw}
use Rattle.cqp_turns.specs.declared.turn.Turn.{Turn}
use Rattle.cqp_turns.specs.declared.turn.Turn.TheVariants as turn
use Rattle.cqp_turns.specs.Turns.{turn_in}
use Rattle.cqp_fitting.specs.Deeds.{IsDeedOf}

-- a configuration of one part
abbrev lone : State → ℕ → Process → Config
lone s chans p = record { state = s; chans = chans; made = 1; parts = (record { number = 0; process = p }) ∷ [] }

-- something comes of what is there
mapped : {X Y : Type 0} (f : X → Y) (o : Option X) → IsSome o → IsSome (option_map f o)
mapped f (Some x) h = refl
mapped f None h = absurd (yes_is_no (sym h))

-- a deed of one part that moves the process leads on
row_there : (s : State) (chans : ℕ) (p : Process) (d : Deed) → has_outcome s d ≡ true → IsSome (moved (counts_of s chans) p d)
    → IsSome (own_row (lone s chans p) 0 p d)
row_there s chans p d outcome moves =
    subst (λ b. IsSome (if b then option_map (λ r. continued 0 r (with_deed d (lone s chans p))) (moved (counts_of s chans) p d) else None)) (sym outcome)
    (mapped (λ r. continued 0 r (with_deed d (lone s chans p))) (moved (counts_of s chans) p d) moves)

-- a deed that moves the process, with an outcome if it measures, fits it
moves_fit : (s : State) (chans : ℕ) (p : Process) (d : Deed) → has_outcome s d ≡ true → IsSome (moved (counts_of s chans) p d)
    → row_of (lone s chans p) 0 p d ≡ own_row (lone s chans p) 0 p d → Fits s chans p d
moves_fit s chans p d outcome moves row = by_next (next (lone s chans p) (by 0 d)) refl (subst IsSome (sym row) (row_there s chans p d outcome moves))
  where
    by_row : (e : Config) → IsAlone (lone s chans p) (by 0 d) e ⊎ IsMeeting (lone s chans p) (by 0 d) e → Fits s chans p d
    by_row e (inl alone) = subst (λ q. Fits s chans q d) (sym (same_some alone.there)) alone.fits
    by_row e (inr met) = absurd (yes_is_no (sym (ap (λ x. is_some (moved (counts_of s chans) p x)) (sym met.deed_is) ∙ moves)))

    by_next : (o : Option Config) → next (lone s chans p) (by 0 d) ≡ o → is_some o ≡ true → Fits s chans p d
    by_next None at g = absurd (yes_is_no (sym g))
    by_next (Some e) at g = by_row e (inverted (lone s chans p) (by 0 d) e at)

-- a deed of the turn that moves the process fits it
moving_fits : (s : State) (chans : ℕ) (p : Process) (t : Turn) (d : Deed) → MovesBy (counts_of s chans) p t → IsDeedOf s chans t d → Fits s chans p d
moving_fits s chans p turn.Qbit d moves is = subst (Fits s chans p) (sym is) (moves_fit s chans p (deed.Qbit s.qubits) refl moves refl)
moving_fits s chans p turn.New d moves is = subst (Fits s chans p) (sym is) (moves_fit s chans p (deed.New chans) refl moves refl)
moving_fits s chans p turn.Act d moves is = subst (Fits s chans p) (sym is) (moves_fit s chans p deed.Act refl moves refl)
moving_fits s chans p (turn.Add v) d moves is = subst (Fits s chans p) (sym is) (moves_fit s chans p (deed.Add v) refl moves refl)
moving_fits s chans p (turn.Pick op) d moves is = subst (Fits s chans p) (sym is) (moves_fit s chans p (deed.Pick op) refl moves refl)
moving_fits s chans p (turn.Gate op qs) d moves is = subst (Fits s chans p) (sym is) (moves_fit s chans p (deed.Gate op qs) refl moves refl)
moving_fits s chans p (turn.Measure qs) d moves is =
    subst (Fits s chans p) (sym is.is) (moves_fit s chans p (deed.Measure qs is.outcome) is.likely (moves is.outcome is.below) refl)
moving_fits s chans p (turn.Send k vs) d moves is = absurd is
moving_fits s chans p (turn.Receive k) d moves is = absurd is
moving_fits s chans p (turn.If answer) d moves is = subst (Fits s chans p) (sym is) (moves_fit s chans p (deed.If answer) refl moves refl)

-- a deed of a process's turn fits it, where no operand is wrong
pub deed_fits : MovesLaw → (s : State) (chans : ℕ) (p : Process) (t : Turn) → is_wrong s.qubits p ≡ false → turn_in p ≡ Some t → (d : Deed)
    → IsDeedOf s chans t d → Fits s chans p d
deed_fits law s chans p t right h d is = moving_fits s chans p t d (law (counts_of s chans) p t right h) is
