-- Which communications fit by a table, and of whom a deed of one part may.
use Rattle.std.proofs.Common.{◌≡◌, ◌⊎◌, ℕ, true, false, refl, sym, ap, ◌∙◌, inl, inr}
use Rattle.std.specs.Prelude.{Some, None, Option, is_some, is_none, IsSome}
use Rattle.cqp_syntax.specs.declared.val.Val.TheVariants as val
use Rattle.cqp_syntax.specs.Trees.{valued, Process, nil, par, new, qbit, act, input, output, branch}
use Rattle.cqp_trace.specs.declared.deed.Deed.{Deed}
use Rattle.cqp_trace.specs.declared.deed.Deed.TheVariants as deed
use Rattle.cqp_cells.specs.Config.{Config, part_at}
use Rattle.cqp_cells.specs.Examples.{by}
use Rattle.cqp_cells.specs.Redex.{Redex, redex_of}
use Rattle.cqp_cells.specs.Rows.{Fits, fits_qbit, fits_new, fits_act, fits_add, fits_pick, fits_gate, fits_measure, fits_yes, fits_no, IsAlone, IsMeeting}
use Rattle.cqp_cells.specs.Step.{next}
use Rattle.cqp_cells.specs.Waiting.{is_waiting}
use Rattle.cqp_cells.proofs.Forward.{meeting_next}
use Rattle.cqp_cells.proofs.Inversion.{inverted}
use Rattle.cqp_cells.proofs.Options.{none_is_some, yes_is_no}
use Rattle.cqp_order.specs.declared.stand.Stand.{Stand}
use Rattle.cqp_order.specs.declared.stand.Stand.TheVariants.{Alone, Sends, Receives}
use Rattle.cqp_meeting.specs.Laws.{FitLaw, OwnLaw}
use Rattle.cqp_meeting.specs.Meetings.{is_communication}
use Rattle.cqp_meeting.specs.Tables.{IsTable}
use Rattle.cqp_meeting.proofs.Active.{alone_law, stands_so, there_so}
use Rattle.cqp_meeting.proofs.Right.{as_many}
use Rattle.cqp_meeting.proofs.Told.{sends_is, receives_is, sender_stands, receiver_stands}
use Rattle.cqp_meeting.proofs.Values.{values_are, no_redex}

-- both stands, so the communication fits
pub stands_fit : {at : ℕ → Option Stand} {c : Config} → IsTable at c → (i j k : ℕ) → at i ≡ Some (Sends k) → at j ≡ Some (Receives k)
    → IsSome (next c (by i (deed.Com j k)))
stands_fit {at} {c} t i j k sends receives =
    let (p, there, is) = there_so t i (Sends k) sends in
    let (q, too, so) = there_so t j (Receives k) receives in
    let sender = sends_is k p is in
    let receiver = receives_is k q so in
    let from : part_at i c.parts ≡ Some (output (valued (val.Chan k)) sender.exprs sender.rest) = there ∙ ap Some sender.is in
    let into : part_at j c.parts ≡ Some (input (valued (val.Chan k)) receiver.binders receiver.rest) = too ∙ ap Some receiver.is in
    let (vs, are, count) = values_are sender.exprs sender.ready in
    let many = as_many c t.operands i j k sender.exprs sender.rest receiver.binders receiver.rest sender.ready from into in
    ap is_some (meeting_next c i j k sender.exprs sender.rest receiver.binders receiver.rest vs from into are (sym many ∙ count))

-- a process with a redex doesn't wait
redex_goes : (p : Process) (r : Redex) → redex_of p ≡ Some r → is_waiting p ≡ false
redex_goes nil r at = refl
redex_goes (par p q) r at = refl
redex_goes (new b p) r at = refl
redex_goes (qbit x p) r at = refl
redex_goes (act e p) r at = refl
redex_goes (input c bs p) r at = absurd (none_is_some at)
redex_goes (output c es p) r at = ap is_none at
redex_goes (branch e f p q) r at = refl

-- what fits a process alone is no communication, and the process doesn't wait
record IsOwn (p : Process) (d : Deed) : Type 0 where
  own : is_communication d ≡ false
  goes : is_waiting p ≡ false

fits_own : (c : Config) {p : Process} {d : Deed} → Fits c.state c.chans p d → IsOwn p d
fits_own c (fits_qbit same) = record { own = refl; goes = refl }
fits_own c (fits_new same) = record { own = refl; goes = refl }
fits_own c fits_act = record { own = refl; goes = refl }
fits_own c (fits_add {p = p} at same) = record { own = refl; goes = redex_goes p _ at }
fits_own c (fits_pick {p = p} at same) = record { own = refl; goes = redex_goes p _ at }
fits_own c (fits_gate {p = p} at have places operands) = record { own = refl; goes = redex_goes p _ at }
fits_own c (fits_measure {p = p} at have operands below outcome) = record { own = refl; goes = redex_goes p _ at }
fits_own c (fits_yes same) = record { own = refl; goes = refl }
fits_own c (fits_no differs) = record { own = refl; goes = refl }

-- what fits has both stands
fit_stands : {at : ℕ → Option Stand} {c : Config} → IsTable at c → (i j k : ℕ) → IsSome (next c (by i (deed.Com j k)))
    → (at i ≡ Some (Sends k)) × (at j ≡ Some (Receives k))
fit_stands {at} {c} t i j k h = by_next (next c (by i (deed.Com j k))) refl h
  where
    both : (m n : ℕ) → deed.Com j k ≡ deed.Com m n → (j ≡ m) × (k ≡ n)
    both m n e = (cc, cc)

    by_row : (d : Config) → IsAlone c (by i (deed.Com j k)) d ⊎ IsMeeting c (by i (deed.Com j k)) d → (at i ≡ Some (Sends k)) × (at j ≡ Some (Receives k))
    by_row d (inl alone) = absurd (yes_is_no (fits_own c alone.fits).own)
    by_row d (inr met) =
        let same = both met.to met.chan met.deed_is in (
          stands_so t i _ (Sends k) met.sends
              (sender_stands (record {
                exprs = met.exprs;
                rest = met.left;
                is = ap (λ n. output (valued (val.Chan n)) met.exprs met.left) (sym same.1);
                ready = no_redex met.exprs met.values met.are_values;
              })),
          stands_so t j _ (Receives k) (ap (λ n. part_at n c.parts) same.0 ∙ met.receives)
              (receiver_stands (record {
                binders = met.binders;
                rest = met.right;
                is = ap (λ n. input (valued (val.Chan n)) met.binders met.right) (sym same.1);
              })),
        )

    by_next : (o : Option Config) → next c (by i (deed.Com j k)) ≡ o → is_some o ≡ true → (at i ≡ Some (Sends k)) × (at j ≡ Some (Receives k))
    by_next None at g = absurd (yes_is_no (sym g))
    by_next (Some d) at g = by_row d (inverted c (by i (deed.Com j k)) d at)

-- a communication fits exactly where both stand so
pub fit_law : FitLaw
fit_law at c t i j k = (fit_stands t i j k, λ both. stands_fit t i j k both.0 both.1)

-- a deed of one part fits only where that stands alone
pub own_law : OwnLaw
own_law at c t i d own h = by_next (next c (by i d)) refl h
  where
    by_row : (e : Config) → IsAlone c (by i d) e ⊎ IsMeeting c (by i d) e → at i ≡ Some Alone
    by_row e (inl alone) = (alone_law at c t i alone.process alone.there).1 (fits_own c alone.fits).goes
    by_row e (inr met) = absurd (yes_is_no (sym (ap is_communication met.deed_is) ∙ own))

    by_next : (o : Option Config) → next c (by i d) ≡ o → is_some o ≡ true → at i ≡ Some Alone
    by_next None found g = absurd (yes_is_no (sym g))
    by_next (Some e) found g = by_row e (inverted c (by i d) e found)
