-- Events that go on with a run, and runs that stay settled.
use Rattle.std.proofs.Common.{◌≡◌, List, [], ◌∷◌, ◌++◌, ap, sym, ◌∙◌}
use Rattle.std.proofs.lemmas.List.{append-nil, append_assoc}
use Rattle.cqp_book.specs.Run.{cell_after}
use Rattle.cqp_book.proofs.RunLemmas.{front_after-snoc, cell_after-snoc, run_snoc}
use Rattle.cqp_machine.specs.Cells.{cells_in}
use Rattle.cqp_machine.specs.Machine.{factored}
use Rattle.cqp_machine.specs.Shown.{shown, shown_by, front_of}
use Rattle.cqp_machine.specs.declared.event.Event.{Event}
use Rattle.cqp_local.proofs.WholeFits.{whole_after}
use Rattle.cqp_events.proofs.Seen.{enabled_seen}
use Rattle.cqp_events.specs.Laws.{EventLaw}

-- what a list with one event more shows
shown_more : (es : List Event) (e : Event) → shown (es ++ e ∷ []) ≡ shown es ++ shown_by e
shown_more [] e = append-nil (shown_by e)
shown_more (x ∷ es) e = ap (λ ys. shown_by x ++ ys) (shown_more es e) ∙ sym (append_assoc (shown_by x) (shown es) (shown_by e))

-- an event that is enabled on all cells goes on with the run
pub event_law : EventLaw
event_law l es e run enabled =
    let seen = enabled_seen l (front_of l es) (cell_after factored l es) e enabled in
    record {
      run = run_snoc factored l es e run seen;
      front = front_after-snoc factored l es e;
      cells = ap cells_in (cell_after-snoc factored l es e) ∙ whole_after l (front_of l es) (cell_after factored l es) e seen;
      shows = shown_more es e;
    }
