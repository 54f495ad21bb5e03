-- A receiver with the lesser number decides.
use Rattle.std.proofs.Common.{◌≡◌, ◌≢◌, ◌⊎◌, ℕ, ◌≤◌, min, max, refl, sym, ap, ◌∙◌, arith, inl, inr}
use Rattle.std.specs.Prelude.{Some}
use Rattle.cqp_syntax.specs.Trees.{nil}
use Rattle.cqp_trace.specs.declared.deed.Deed.TheVariants as deed
use Rattle.cqp_trace.specs.declared.entry.Entry.{Entry}
use Rattle.cqp_cells.specs.Cases.{receives}
use Rattle.cqp_cells.specs.Config.{Config, part_at}
use Rattle.cqp_cells.specs.Examples.{by}
use Rattle.cqp_cells.specs.Step.{next}
use Rattle.cqp_cells.specs.Repeated.{receiver_first}
use Rattle.cqp_cells.specs.Order.{least_with, greatest_with, least_part, greatest_part, IsPlainNext}
use Rattle.cqp_cells.specs.Rows.{IsAlone, IsMeeting}
use Rattle.cqp_cells.specs.Waiting.{is_waiting}
use Rattle.cqp_cells.proofs.Inversion.{inverted}
use Rattle.cqp_paths.proofs.Plain.{some_of, alone_least}
use Rattle.cqp_paths.proofs.Stuck.{fits_moves}
use Rattle.cqp_paths.proofs.Smaller.{partners_differ}
use Rattle.cqp_cells.proofs.Options.{same_some, yes_is_no}

-- part 0 waits, so a reduction in which it is the least is a communication
partner_is : (e : Entry) (d : Config) → least_part e ≡ 0 → IsAlone receiver_first e d ⊎ IsMeeting receiver_first e d → 1 ≤ greatest_part e
partner_is e d least (inl alone) = absurd (moves (sym here ∙ alone.there))
  where
    zero_ : e.part ≡ 0
    zero_ = sym (alone_least e.part alone.fits).0 ∙ least

    here : part_at e.part receiver_first.parts ≡ Some (receives 0 nil)
    here = ap (λ i. part_at i receiver_first.parts) zero_

    moves : Some (receives 0 nil) ≡ Some alone.process → ⊥
    moves g = yes_is_no (ap is_waiting (same_some g) ∙ fits_moves alone.fits)
partner_is e d least (inr met) =
    let least_is : min e.part met.to ≡ 0 = sym (ap (λ b. least_with e.part b) met.deed_is) ∙ least in
    let greatest_is : greatest_part e ≡ max e.part met.to = ap (λ b. greatest_with e.part b) met.deed_is in
    let other : met.to ≢ e.part = partners_differ met in
    grind arith

-- where the receiver has the lesser number, its communication is the next entry in plain order
pub receiver_next : IsPlainNext receiver_first (by 1 (deed.Com 0 0))
receiver_next = record {
  fits = refl;
  active = record { entry = by 1 (deed.Com 0 0); fits = refl; takes_part = refl; least = λ other fits. at_least (least_part other) };
  partner = λ other fits least. let (d, is) = some_of (next receiver_first other) fits in partner_is other d least (inverted receiver_first other d is);
}
  where
    at_least : (n : ℕ) → 0 ≤ n
    at_least n = omega arith
