-- The cells of the opening.
use Rattle.std.proofs.Common.{◌≡◌, ℕ, ◌==◌, ◌+◌, Bool, true, false, if◌then◌else◌, List, [], ◌∷◌, Option, Some, None, length, refl, sym, arith, ◌∙◌}
use Rattle.std.proofs.lemmas.Bool.{le-leb}
use Rattle.std.specs.List.{range_with_len}
use Rattle.cqp_book.specs.Keys.{has}
use Rattle.cqp_syntax.specs.Listing.{Listing}
use Rattle.cqp_cells.proofs.Options.{none_is_some}
use Rattle.cqp_types.specs.Checked.{IsChecked}
use Rattle.cqp_parts.specs.declared.part.Part.{Part}
use Rattle.cqp_parts.specs.Parts.{more_than_one, opening_parts}
use Rattle.cqp_machine.specs.After.{placed, placed_from}
use Rattle.cqp_machine.specs.Cells.{with_at}
use Rattle.cqp_fresh.proofs.SoundStores.{length-opening}
use Rattle.cqp_local.proofs.PlacedLemmas.{placed_alike, placed_from_out, range_bounds}
use Rattle.cqp_steps.proofs.PartSums.{find_placed}
use Rattle.cqp_groups.specs.RunLaws.{AreAfter}
use Rattle.cqp_events.specs.Settled.{IsSettled}
use Rattle.cqp_stepper.specs.Kept.{IsKept}
use Rattle.cqp_stepper.specs.Slots.{part_in}

-- nothing, whichever way
none_either : (b : Bool) (o : Option Part) → o ≡ None → (if b then None else o) ≡ None
none_either true o none = refl
none_either false o none = none

-- 0 is not among the numbers from 1 on
no_zero : (k : ℕ) (b : Bool) → has 0 (range_with_len 1 k) ≡ b → has 0 (range_with_len 1 k) ≡ false
no_zero k true is = let bounds = range_bounds 0 1 k is in absurd (omega arith)
no_zero k false is = is

-- where nothing was, parts that are placed from 0 on stand one after another
pub opened_parts : (parts : List Part) (f : ℕ → Option Part) (n : ℕ) → f n ≡ None → placed 0 1 parts f n ≡ placed_from 0 parts (λ i. None) n
opened_parts [] f n none = none_either (n == 0) (f n) none
opened_parts (p ∷ ps) f n none = placed_alike 0 1 (p ∷ ps) f (λ i. None) n none

-- the first has number 0
pub first_there : (p : Part) (ps : List Part) (f : ℕ → Option Part) → placed 0 1 (p ∷ ps) f 0 ≡ Some p
first_there p ps f = placed_from_out 1 ps (with_at 0 (Some p) f) 0 (no_zero (length ps) _ refl)

-- so where none has number 0 there is none
pub none_opened : (parts : List Part) (f : ℕ → Option Part) → placed 0 1 parts f 0 ≡ None → more_than_one parts ≡ length parts
none_opened [] f none = refl
none_opened (p ∷ ps) f none = absurd (none_is_some {x = p} (sym none ∙ first_there p ps f))

-- and else one more than the others
pub some_opened : (parts : List Part) (f : ℕ → Option Part) (p : Part) → placed 0 1 parts f 0 ≡ Some p → more_than_one parts + 1 ≡ length parts
some_opened [] f p some = absurd (none_is_some {x = p} some)
some_opened (q ∷ ps) f p some = omega arith

-- they are those of no entry
pub opened_kept : (l : Listing) → IsSettled l [] → IsChecked l → AreAfter l [] [] → (slots : List (Option Part))
    → ((n : ℕ) → part_in slots n ≡ placed_from 0 (opening_parts l) (λ i. None) n) → length slots ≡ length l.nodes
    → (count room : ℕ) → count ≡ length (opening_parts l) → room ≡ length slots
    → IsKept l []
    (record {
      slots = slots;
      order = ([], room);
      unseen = record { first = None; second = None; from = 0 };
      groups = [];
      due = None;
      counts = record { parts = count; chans = 0; turns = 0 };
    })
opened_kept l settled checked groups slots parts all count room many order = record {
  events = [];
  settled = settled;
  checked = checked;
  shows = refl;
  parts = λ n. parts n ∙ sym (find_placed 0 (opening_parts l) n);
  groups = groups;
  due = λ n g there other. absurd (none_is_some {x = g} there);
  part_count = many ∙ length-opening l;
  chan_count = refl;
  turn_count = refl;
  measured = refl;
  room = all;
  order_room = order;
  noted = record {
    right = λ n known. let behind = le-leb 0 n (omega arith) in cc;
    made = λ n stand at. absurd (none_is_some {x = stand} at);
  };
}
