-- Of a part that doesn't wait something is upcoming.
use Rattle.std.proofs.Common.{◌≡◌, ◌⊎◌, ℕ, true, false, refl, sym, ap, inl, inr, ◌∙◌}
use Rattle.std.specs.Prelude.{Some, IsSome, is_none}
use Rattle.cqp_syntax.specs.Trees.{Process}
use Rattle.cqp_trace.specs.declared.deed.Deed.{Deed}
use Rattle.cqp_cells.specs.Config.{Config, part_at}
use Rattle.cqp_cells.specs.Examples.{by}
use Rattle.cqp_paths.specs.Follows.{measure_count}
use Rattle.cqp_cells.specs.Rows.{Fits, fits_qbit, fits_new, fits_act, fits_add, fits_pick, fits_gate, fits_measure, fits_yes, fits_no, IsAlone, IsMeeting}
use Rattle.cqp_cells.specs.Step.{next}
use Rattle.cqp_cells.specs.Waiting.{is_waiting}
use Rattle.cqp_cells.proofs.Inversion.{inverted}
use Rattle.cqp_cells.proofs.Options.{same_some, yes_is_no}
use Rattle.cqp_engine.proofs.Tried.{some_of}
use Rattle.cqp_paths.proofs.Progress.{values_ready}
use Rattle.cqp_engine.specs.declared.engine.Upcoming.{Upcoming}
use Rattle.cqp_engine.specs.declared.engine.Upcoming.TheVariants.{Entry, Measurement}
use Rattle.cqp_engine.specs.Upcoming.{IsUpcoming}

-- an entry that fits and is no measurement is upcoming
own : (c : Config) (i : ℕ) (p : Process) (d : Deed) → part_at i c.parts ≡ Some p → Fits c.state c.chans p d → measure_count d ≡ 0
    → (it : Upcoming) × IsUpcoming c i it
own c i p d there fits other = (Entry (by i d), (other, inl (record { part = refl; process = p; there = there; fits = fits })))

-- what fits a part is upcoming, a measurement with any outcome
fits_upcoming : (c : Config) (i : ℕ) {p : Process} {d : Deed} → part_at i c.parts ≡ Some p → Fits c.state c.chans p d → (it : Upcoming) × IsUpcoming c i it
fits_upcoming c i {p} {d} there (fits_qbit same) = own c i p d there (fits_qbit same) refl
fits_upcoming c i {p} {d} there (fits_new same) = own c i p d there (fits_new same) refl
fits_upcoming c i {p} {d} there fits_act = own c i p d there fits_act refl
fits_upcoming c i {p} {d} there (fits_add at same) = own c i p d there (fits_add at same) refl
fits_upcoming c i {p} {d} there (fits_pick at same) = own c i p d there (fits_pick at same) refl
fits_upcoming c i {p} {d} there (fits_gate at have places operands) = own c i p d there (fits_gate at have places operands) refl
fits_upcoming c i {p} {d} there (fits_measure {ss = ss} {qs = qs} at have operands below outcome) =
    (Measurement qs, record { process = p; there = there; slots = ss; redex = at; qubits = have; operands = operands })
fits_upcoming c i {p} {d} there (fits_yes same) = own c i p d there (fits_yes same) refl
fits_upcoming c i {p} {d} there (fits_no differs) = own c i p d there (fits_no differs) refl

-- of a part that doesn't wait something is upcoming
pub own_upcoming : (c : Config) (i : ℕ) (p : Process) (d : Deed) → part_at i c.parts ≡ Some p → is_waiting p ≡ false → IsSome (next c (by i d))
    → (it : Upcoming) × IsUpcoming c i it
own_upcoming c i p d there goes some = by_kind (some_of (next c (by i d)) some)
  where
    of_kind : (e : Config) → IsAlone c (by i d) e ⊎ IsMeeting c (by i d) e → (it : Upcoming) × IsUpcoming c i it
    of_kind e (inl alone) = fits_upcoming c i alone.there alone.fits
    of_kind e (inr met) =
        let ready : is_waiting p ≡ true =
        ap is_waiting (same_some (sym there ∙ met.sends)) ∙ ap is_none (values_ready met.exprs met.values met.are_values) in
        absurd (yes_is_no (sym ready ∙ goes))

    by_kind : (e : Config) × (next c (by i d) ≡ Some e) → (it : Upcoming) × IsUpcoming c i it
    by_kind have = of_kind have.0 (inverted c (by i d) have.0 have.1)
