-- Where a run may end.
use Rattle.std.proofs.Common.{◌≡◌, ◌⊎◌, ℕ, ◌≤◌, List, length, false, refl, sym, ap, subst, inl, inr, ◌∙◌, arith}
use Rattle.std.specs.Prelude.{Some, IsSome, IsTrue, nat_eq, nat_lt}
use Rattle.std.proofs.lemmas.Bool.Decides.{nat_tests}
use Rattle.cqp_syntax.specs.declared.op.Op.TheVariants as op
use Rattle.cqp_syntax.specs.Trees.{Process}
use Rattle.cqp_trace.specs.declared.deed.Deed.{Deed}
use Rattle.cqp_trace.specs.declared.deed.Deed.TheVariants as deed
use Rattle.cqp_trace.specs.declared.end.End.TheVariants.{Done, Stopped}
use Rattle.cqp_trace.specs.declared.entry.Entry.{Entry}
use Rattle.cqp_vector.specs.State.{State}
use Rattle.cqp_cells.specs.Config.{Config, part_at}
use Rattle.cqp_cells.specs.Exponent.{exponent_of}
use Rattle.cqp_cells.specs.Lawful.{AppliesH, IsBeforeH, IsRightEnd, exponent_after}
use Rattle.cqp_cells.specs.Order.{IsLeastActive, least_part, least_with}
use Rattle.cqp_cells.specs.Path.{h_total, is_below_limit}
use Rattle.cqp_cells.specs.Redex.{redex_of}
use Rattle.cqp_cells.specs.Rows.{Fits, fits_gate, IsAlone, IsMeeting}
use Rattle.cqp_cells.specs.Step.{next, ReductionIsLeft}
use Rattle.cqp_cells.proofs.Inversion.{inverted}
use Rattle.cqp_cells.proofs.Options.{yes_is_no}
use Rattle.cqp_paths.specs.Follows.{Pick}
use Rattle.cqp_engine.specs.declared.engine.Fit.{Fit}
use Rattle.cqp_engine.specs.declared.engine.Fit.TheVariants.{Made, NoStep, AtLimit}
use Rattle.cqp_engine.specs.PlainRuns.{IsChosen, IsPlainEnd}
use Rattle.cqp_engine.specs.Progress.{Progress, IsTried}
use Rattle.cqp_engine.proofs.Tried.{some_of}

-- the least active part makes a reduction
pub reduction_left : (c : Config) (i : ℕ) → IsLeastActive c i → ReductionIsLeft c
reduction_left c i least = record { entry = least.entry; fits = least.fits }

-- where no reduction is left, the run is done
pub done_end : (s : Progress) → (ReductionIsLeft s.last → ⊥) → IsPlainEnd s (Done (length s.last.parts))
done_end s none = record { right = (none, refl); stop = tt }

-- an H that finds no room
record IsLateH (k : ℕ) (s : State) (d : Deed) : Type 0 where
  qubits : List ℕ
  is : d ≡ deed.Gate op.H qubits
  late : 90 ≤ exponent_of k s

-- a deed that isn't below the limit is an H that finds no room
late_h : (k : ℕ) (s : State) (d : Deed) → is_below_limit k s d ≡ false → IsLateH k s d
late_h k s (deed.Gate op.H qs) h = record { qubits = qs; is = refl; late = late (exponent_of k s) h }
  where
    late : (e : ℕ) → nat_lt e 90 ≡ false → 90 ≤ e
    late e g = grind (arith, nat_tests)
late_h k s d h = absurd (yes_is_no h)

-- what fits an H is before one
before_h : {s : State} {k : ℕ} {p : Process} {d : Deed} (qs : List ℕ) → d ≡ deed.Gate op.H qs → Fits s k p d → AppliesH (redex_of p)
before_h {s} {k} {p} qs is fits = by_deed (subst (λ d. Fits s k p d) is fits)
  where
    by_deed : {s : State} {k : ℕ} {p : Process} {qs : List ℕ} → Fits s k p (deed.Gate op.H qs) → AppliesH (redex_of p)
    by_deed (fits_gate at have places operands) = subst AppliesH (sym at) refl

-- where the entry of the part is an H, the part is before one
h_is_next : (c d : Config) (i : ℕ) (e : Entry) (qs : List ℕ) → e.deed ≡ deed.Gate op.H qs → least_part e ≡ i → next c e ≡ Some d
    → IsBeforeH (part_at i c.parts)
h_is_next c d i e qs is first h = by_kind (inverted c e d h)
  where
    same : e.part ≡ i
    same = sym (ap (least_with e.part) is) ∙ first

    is_com : (to chan : ℕ) → deed.Gate op.H qs ≡ deed.Com to chan → ⊥
    is_com to chan g = cc

    by_kind : IsAlone c e d ⊎ IsMeeting c e d → IsBeforeH (part_at i c.parts)
    by_kind (inl alone) =
        let at : part_at i c.parts ≡ Some alone.process = subst (λ n. part_at n c.parts ≡ Some alone.process) same alone.there in
        subst IsBeforeH (sym at) (before_h qs is alone.fits)
    by_kind (inr met) = absurd (is_com met.to met.chan (sym is ∙ met.deed_is))

-- a plain run stops before an H that finds no room
late_end : (pick : Pick) (turn : ℕ) (s : Progress) (i : ℕ) (e : Entry) → exponent_after s.entries s.last ≤ 90 → IsChosen pick turn s.last i e
    → is_below_limit (h_total s.entries) s.last.state e.deed ≡ false → IsPlainEnd s (Stopped i)
late_end pick turn s i e most chosen late =
    let h = late_h (h_total s.entries) s.last.state e.deed late in
    let some = some_of (next s.last e) chosen.plain.fits in
    let exponent : exponent_after s.entries s.last ≡ 90 = omega (arith, most, h.late) in
    record {
      right = (exponent, h_is_next s.last some.0 i e h.qubits h.is chosen.first some.1);
      stop = subst (λ n. IsLeastActive s.last n) chosen.first chosen.plain.active;
    }

-- a chosen entry that isn't made is an H that finds no room, and the run stops
pub stopped_end : (pick : Pick) (turn : ℕ) (s t : Progress) (i : ℕ) (e : Entry) (fit : Fit) → exponent_after s.entries s.last ≤ 90
    → IsChosen pick turn s.last i e → IsTried s e fit t → (fit ≡ Made → ⊥) → (t ≡ s) × IsPlainEnd s (Stopped i)
stopped_end pick turn s t i e Made most chosen tried other = absurd (other refl)
stopped_end pick turn s t i e NoStep most chosen tried other = absurd (yes_is_no (sym (subst IsSome tried.0 chosen.plain.fits)))
stopped_end pick turn s t i e AtLimit most chosen tried other = (tried.2, late_end pick turn s i e most chosen tried.1)

-- where no reduction is left, `done` is right exactly with the count of the parts that are left
pub done_right : (c : Config) (h n left : ℕ) → (ReductionIsLeft c → ⊥) → n ≡ length c.parts
    → (IsTrue (nat_eq n left) → IsRightEnd c h (Done left)) × (IsRightEnd c h (Done left) → IsTrue (nat_eq n left))
done_right c h n left none many =
    (λ same. (none, sym many ∙ tested n left same), λ right. test n left (many ∙ right.1))
  where
    tested : (a b : ℕ) → IsTrue (nat_eq a b) → a ≡ b
    tested a b e = grind (arith, nat_tests)

    test : (a b : ℕ) → a ≡ b → IsTrue (nat_eq a b)
    test a b e = grind (arith, nat_tests)

-- where a reduction is left, `done` is wrong
pub undone_right : (c : Config) (h left : ℕ) → ReductionIsLeft c
    → (IsTrue false → IsRightEnd c h (Done left)) × (IsRightEnd c h (Done left) → IsTrue false)
undone_right c h left one = (λ e. absurd (yes_is_no (sym e)), λ right. absurd (right.0 one))
