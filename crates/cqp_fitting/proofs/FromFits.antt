-- What fits a process is a deed of its turn.
use Rattle.std.proofs.Common.{◌≡◌, ℕ, ◌+◌, ◌%◌, ◌^◌, ◌==◌, true, Some, refl, sym, ap, subst, ◌∙◌, arith}
use Rattle.std.proofs.lemmas.Bool.Decides.{nat_tests}
use Rattle.cqp_syntax.specs.Trees.{Process}
use Rattle.cqp_trace.specs.declared.deed.Deed.{Deed}
use Rattle.cqp_trace.specs.declared.deed.Deed.TheVariants as deed
use Rattle.cqp_vector.specs.State.{State}
use Rattle.cqp_cells.specs.Redex.{Redex, redex_of}
use Rattle.cqp_cells.specs.Rows.{Fits, fits_qbit, fits_new, fits_act, fits_add, fits_pick, fits_gate, fits_measure, fits_yes, fits_no}
use Rattle.cqp_cells.proofs.Options.{same_some}
use Rattle.cqp_turns.specs.declared.turn.Turn.{Turn}
use Rattle.cqp_turns.specs.declared.turn.Turn.TheVariants as turn
use Rattle.cqp_turns.specs.Turns.{turn_after, turn_in, gate_turn, look_turn}
use Rattle.cqp_fitting.specs.Deeds.{IsDeedOf}

-- a deed of the turn that a process is known to have
told : (s : State) (chans : ℕ) (p : Process) (t u : Turn) (d : Deed) → turn_in p ≡ Some t → turn_in p ≡ Some u → IsDeedOf s chans u d → IsDeedOf s chans t d
told s chans p t u d h is deed_is = subst (λ x. IsDeedOf s chans x d) (same_some (sym is ∙ h)) deed_is

-- a process's turn by its next redex
by_redex : (p : Process) (r : Redex) → redex_of p ≡ Some r → turn_in p ≡ turn_after (Some r) p
by_redex p r at = ap (λ o. turn_after o p) at

-- equal numbers pass the test
number_test : (u w : ℕ) → u ≡ w → (u == w) ≡ true
number_test u w h = grind (arith, nat_tests)

-- what fits a process is a deed of its turn
pub fits_deed : (s : State) (chans : ℕ) (p : Process) (t : Turn) (d : Deed) → turn_in p ≡ Some t → Fits s chans p d → IsDeedOf s chans t d
fits_deed s chans p t d h (fits_qbit same) = told s chans p t turn.Qbit d h refl (ap deed.Qbit same)
fits_deed s chans p t d h (fits_new same) = told s chans p t turn.New d h refl (ap deed.New same)
fits_deed s chans p t d h fits_act = told s chans p t turn.Act d h refl refl
fits_deed s chans p t d h (fits_add {u = u} {w = w} at same) =
    told s chans p t (turn.Add ((u + w) % 2 ^ 32)) d h (by_redex p _ at) (ap deed.Add same)
fits_deed s chans p t d h (fits_pick {u = u} at same) = told s chans p t (turn.Pick _) d h (by_redex p _ at) (ap deed.Pick same)
fits_deed s chans p t d h (fits_gate {ss = ss} {o = o} {qs = qs} at have places operands) =
    told s chans p t (turn.Gate o qs) d h (by_redex p _ at ∙ ap (gate_turn o) have) refl
fits_deed s chans p t d h (fits_measure {ss = ss} {qs = qs} {m = m} at have operands below outcome) =
    told s chans p t (turn.Measure qs) d h (by_redex p _ at ∙ ap look_turn have)
    (record { outcome = m; is = refl; below = below; likely = outcome })
fits_deed s chans p t d h (fits_yes {u = u} {w = w} same) =
    told s chans p t (turn.If (u == w)) d h refl (ap deed.If (sym (number_test u w same)))
fits_deed s chans p t d h (fits_no {u = u} {w = w} differs) = told s chans p t (turn.If (u == w)) d h refl (ap deed.If (sym differs))
