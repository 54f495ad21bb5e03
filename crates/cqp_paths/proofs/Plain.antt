-- The least part that takes part in some reduction, and the next entry in plain order.
use Rattle.std.proofs.Common.{◌≡◌, ◌⊎◌, ℕ, ◌≤◌, min, max, true, false, refl, sym, ap, ◌∙◌, subst, arith, inl, inr}
use Rattle.std.specs.Prelude.{Some, None, Option, is_some, IsSome}
use Rattle.cqp_syntax.specs.declared.val.Val.TheVariants as val
use Rattle.cqp_syntax.specs.Trees.{Process, valued, input, output}
use Rattle.cqp_trace.specs.declared.deed.Deed.{Deed}
use Rattle.cqp_trace.specs.declared.deed.Deed.TheVariants as deed
use Rattle.cqp_trace.specs.declared.entry.Entry.{Entry}
use Rattle.cqp_vector.specs.State.{State}
use Rattle.cqp_cells.specs.Config.{Config, part_at}
use Rattle.cqp_cells.specs.Examples.{by}
use Rattle.cqp_cells.specs.Step.{next}
use Rattle.cqp_cells.specs.Order.{least_with, greatest_with, least_part, greatest_part, IsLeastActive, IsPlainNext}
use Rattle.cqp_cells.specs.Rows.{Fits, fits_qbit, fits_new, fits_act, fits_add, fits_pick, fits_gate, fits_measure, fits_yes, fits_no, IsAlone, IsMeeting}
use Rattle.cqp_cells.specs.Waiting.{is_waiting, meets_on, CanGoOn, MeetEither, MeetsSome, IsActive}
use Rattle.cqp_cells.proofs.Forward.{fits_next}
use Rattle.cqp_cells.proofs.Inversion.{inverted}
use Rattle.cqp_paths.proofs.Stuck.{fits_moves, meeting_meets}
use Rattle.cqp_cells.proofs.Options.{same_some, yes_is_no}

-- a part that acts alone is the least and the greatest that takes part
pub alone_least : {s : State} {k : ℕ} {p : Process} {d : Deed} (i : ℕ) → Fits s k p d → (least_with i d ≡ i) × (greatest_with i d ≡ i)
alone_least i (fits_qbit same) = (refl, refl)
alone_least i (fits_new same) = (refl, refl)
alone_least i fits_act = (refl, refl)
alone_least i (fits_add at same) = (refl, refl)
alone_least i (fits_pick at same) = (refl, refl)
alone_least i (fits_gate at have places operands) = (refl, refl)
alone_least i (fits_measure at have operands below outcome) = (refl, refl)
alone_least i (fits_yes same) = (refl, refl)
alone_least i (fits_no differs) = (refl, refl)

-- the least part of an entry is at most the part that it names first
least_below : (i : ℕ) (d : Deed) → least_with i d ≤ i
least_below i (deed.Com to chan) = omega arith
least_below i (deed.Qbit q) = omega arith
least_below i (deed.New k) = omega arith
least_below i deed.Act = omega arith
least_below i (deed.Add v) = omega arith
least_below i (deed.Pick o) = omega arith
least_below i (deed.Gate o qs) = omega arith
least_below i (deed.Measure qs m) = omega arith
least_below i (deed.If b) = omega arith

-- the lesser of two numbers is one of them
least_or_other : (i j : ℕ) → (min i j ≡ i) ⊎ (min i j ≡ j)
least_or_other i j = grind arith

-- the least part of an entry that fits is active
pub least_is_active : (c : Config) (e : Entry) (d : Config) → next c e ≡ Some d → IsActive c (least_part e)
least_is_active c e d h = by_row (inverted c e d h)
  where
    by_row : IsAlone c e d ⊎ IsMeeting c e d → IsActive c (least_part e)
    by_row (inl alone) =
        let here : IsActive c e.part = record { process = alone.process; there = alone.there; goes = inl (fits_moves alone.fits) } in
        subst (λ i. IsActive c i) (sym (alone_least e.part alone.fits).0) here
    by_row (inr met) = subst (λ i. IsActive c i) (sym least) (of_either (least_or_other e.part met.to))
      where
        least : least_part e ≡ min e.part met.to
        least = ap (λ b. least_with e.part b) met.deed_is

        sender : IsActive c e.part
        sender = record {
          process = output (valued (val.Chan met.chan)) met.exprs met.left;
          there = met.sends;
          goes = inr (record {
            other = met.to;
            process = input
                (valued (val.Chan met.chan)) met.binders met.right;
            there = met.receives;
            chan = met.chan;
            meets = inl (meeting_meets met);
          });
        }

        receiver : IsActive c met.to
        receiver = record {
          process = input (valued (val.Chan met.chan)) met.binders met.right;
          there = met.receives;
          goes = inr (record {
            other = e.part;
            process = output
                (valued (val.Chan met.chan)) met.exprs met.left;
            there = met.sends;
            chan = met.chan;
            meets = inr (meeting_meets met);
          });
        }

        of_either : (min e.part met.to ≡ e.part) ⊎ (min e.part met.to ≡ met.to) → IsActive c (min e.part met.to)
        of_either (inl is) = subst (λ i. IsActive c i) (sym is) sender
        of_either (inr is) = subst (λ i. IsActive c i) (sym is) receiver

-- an active part takes part in some entry that fits, if what can go on does
pub active_goes_on : (c : Config) (i : ℕ) → CanGoOn c → IsActive c i → (e : Entry) × IsSome (next c e) × (least_part e ≤ i)
active_goes_on c i can active = of_either active.goes
  where
    of_either : (is_waiting active.process ≡ false) ⊎ MeetsSome c active.process → (e : Entry) × IsSome (next c e) × (least_part e ≤ i)
    of_either (inl moves) = let (d, fits) = can.alone i active.process active.there moves in (by i d, fits, least_below i d)
    of_either (inr m) = of_side m.meets
      where
        of_side : (meets_on m.chan active.process m.process ≡ true) ⊎ (meets_on m.chan m.process active.process ≡ true)
            → (e : Entry) × IsSome (next c e) × (least_part e ≤ i)
        of_side (inl sends) =
            let low : min i m.other ≤ i = omega arith in
            (by i (deed.Com m.other m.chan), can.meeting i m.other m.chan active.process m.process active.there m.there sends, low)
        of_side (inr receives) =
            let low : min m.other i ≤ i = omega arith in
            (by m.other (deed.Com i m.chan), can.meeting m.other i m.chan m.process active.process m.there active.there receives, low)

-- an option that is some configuration is that of one
pub some_of : (o : Option Config) → is_some o ≡ true → (d : Config) × (o ≡ Some d)
some_of None h = absurd (yes_is_no (sym h))
some_of (Some d) h = (d, refl)

-- the least active part is the least that takes part in some reduction, if what can go on does
pub least_active : (c : Config) (i : ℕ) → CanGoOn c → IsActive c i → ((j : ℕ) → IsActive c j → i ≤ j) → IsLeastActive c i
least_active c i can active least =
    let (e, fits, low) = active_goes_on c i can active in
    let (d, is) = some_of (next c e) fits in
    let high : i ≤ least_part e = least (least_part e) (least_is_active c e d is) in
    let same : least_part e ≡ i = omega arith in
    record {
      entry = e;
      fits = fits;
      takes_part = same;
      least = λ other g. let (b, there) = some_of (next c other) g in least (least_part other) (least_is_active c other b there);
    }

-- the least part of an entry is at most its greatest
pub least_greatest : (i : ℕ) (d : Deed) → least_with i d ≤ greatest_with i d
least_greatest i (deed.Com to chan) = grind arith
least_greatest i (deed.Qbit q) = omega arith
least_greatest i (deed.New k) = omega arith
least_greatest i deed.Act = omega arith
least_greatest i (deed.Add v) = omega arith
least_greatest i (deed.Pick o) = omega arith
least_greatest i (deed.Gate o qs) = omega arith
least_greatest i (deed.Measure qs m) = omega arith
least_greatest i (deed.If b) = omega arith

-- an entry of the least active part that doesn't wait is the next in plain order
pub plain_alone : (c : Config) (i : ℕ) (p : Process) (d : Deed) → part_at i c.parts ≡ Some p → Fits c.state c.chans p d → ((j : ℕ) → IsActive c j → i ≤ j)
    → IsPlainNext c (by i d)
plain_alone c i p d at fits least = record {
  fits = here;
  active = record {
    entry = by i d;
    fits = here;
    takes_part = refl;
    least = λ other g. let (b, there) = some_of (next c other) g in omega
        (arith, least (least_part other) (least_is_active c other b there), (alone_least i fits).0);
  };
  partner = λ other g same. omega (arith, least_greatest other.part other.deed, (alone_least i fits).0, (alone_least i fits).1);
}
  where
    here : IsSome (next c (by i d))
    here = ap is_some (fits_next c i at fits)

-- a communication of the least active part, which waits, with its least partner is the next in plain order
pub plain_meeting : (c : Config) (i j : ℕ) (p : Process) (e : Entry) → part_at i c.parts ≡ Some p → is_waiting p ≡ true → IsSome (next c e)
    → least_part e ≡ i → greatest_part e ≡ max i j → ((n : ℕ) → IsActive c n → i ≤ n)
    → ((n k : ℕ) (q : Process) → part_at n c.parts ≡ Some q → MeetEither k p q → j ≤ n) → IsPlainNext c e
plain_meeting c i j p e at waits fits is_i is_j least partner = record {
  fits = fits;
  active = record {
    entry = e;
    fits = fits;
    takes_part = refl;
    least = λ other g. let (b, there) = some_of (next c other) g in omega (arith, least (least_part other) (least_is_active c other b there), is_i);
  };
  partner = λ other g same. let (b, there) = some_of (next c other) g in others other b (same ∙ is_i) (inverted c other b there);
}
  where
    others : (other : Entry) (b : Config) → least_part other ≡ i → IsAlone c other b ⊎ IsMeeting c other b → greatest_part e ≤ greatest_part other
    others other b is (inl alone) = absurd (yes_is_no (sym waits ∙ ap is_waiting here ∙ fits_moves alone.fits))
      where
        part_is : other.part ≡ i
        part_is = sym (alone_least other.part alone.fits).0 ∙ is

        here : p ≡ alone.process
        here = same_some (sym at ∙ ap (λ n. part_at n c.parts) (sym part_is) ∙ alone.there)
    others other b is (inr met) = of_either (least_or_other other.part met.to)
      where
        low : min other.part met.to ≡ i
        low = sym (ap (λ d. least_with other.part d) met.deed_is) ∙ is

        high : greatest_part other ≡ max other.part met.to
        high = ap (λ d. greatest_with other.part d) met.deed_is

        of_either : (min other.part met.to ≡ other.part) ⊎ (min other.part met.to ≡ met.to) → greatest_part e ≤ greatest_part other
        of_either (inl g) =
            let part_is : other.part ≡ i = sym g ∙ low in
            let mine : p ≡ output (valued (val.Chan met.chan)) met.exprs met.left = same_some (sym at ∙ ap (λ n. part_at n c.parts) (sym part_is)
            ∙ met.sends) in
            let bound : j ≤ met.to =
            partner met.to met.chan _ met.receives (inl (ap (λ r. meets_on met.chan r (input (valued (val.Chan met.chan)) met.binders met.right)) mine
            ∙ meeting_meets met)) in
            grind arith
        of_either (inr g) =
            let part_is : met.to ≡ i = sym g ∙ low in
            let mine : p ≡ input (valued (val.Chan met.chan)) met.binders met.right = same_some (sym at ∙ ap (λ n. part_at n c.parts) (sym part_is)
            ∙ met.receives) in
            let bound : j ≤ other.part =
            partner other.part met.chan _ met.sends (inr (ap (λ r. meets_on met.chan (output (valued (val.Chan met.chan)) met.exprs met.left) r) mine
            ∙ meeting_meets met)) in
            grind arith
