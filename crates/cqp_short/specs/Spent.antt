-- How many events a run has at most, and what they are paid from.
use Rattle.std.specs.Prelude.{ℕ, ◌+◌, ◌*◌, ◌<◌, ◌≤◌, List, [], ◌∷◌, length, Option, Some, None}
use Rattle.cqp_syntax.specs.Listing.{Listing, IsProc, root}
use Rattle.cqp_book.specs.Run.{IsRun, cell_after}
use Rattle.cqp_machine.specs.declared.front.Front.{Front}
use Rattle.cqp_machine.specs.declared.front.Stop.{Stop}
use Rattle.cqp_machine.specs.declared.front.Stop.TheVariants as stop
use Rattle.cqp_machine.specs.declared.event.Event.{Event}
use Rattle.cqp_machine.specs.Factors.{Held}
use Rattle.cqp_machine.specs.Cells.{Cells}
use Rattle.cqp_machine.specs.Machine.{factored}
use Rattle.cqp_waiting.specs.Waiting.{waiters}
use Rattle.cqp_syntax.specs.Measures.{size, need}
use Rattle.cqp_machine.specs.Sums.{sum_below}
use Rattle.cqp_machine.specs.Shown.{process_in, front_of, cells_of}
use Rattle.cqp_steps.specs.Making.{of_process}

-- 1 for a group that is there
abbrev pub one_if_there : Option Held → ℕ
one_if_there None = 0
one_if_there (Some g) = 1

-- 1 where there are some
abbrev pub one_if_some : List ℕ → ℕ
one_if_some [] = 0
one_if_some (x ∷ xs) = 1

-- 1 for a group of which qubits are due
abbrev pub one_if_due : Option Held → ℕ
one_if_due None = 0
one_if_due (Some g) = one_if_some g.due

-- 1 once the run is stopped
abbrev pub one_if_stopped : Stop → ℕ
one_if_stopped stop.No = 0
one_if_stopped (stop.At part) = 1

-- how many groups there are
abbrev pub groups_there : ℕ → Cells → ℕ
groups_there n c = sum_below n (λ g. one_if_there (c.groups g))

-- of how many qubits are due
abbrev pub groups_due : ℕ → Cells → ℕ
groups_due n c = sum_below n (λ g. one_if_due (c.groups g))

-- the nodes that are left to reduce
abbrev pub nodes_left : Listing → ℕ → Cells → ℕ
nodes_left l n c = sum_below n (λ i. of_process size (process_in l (c.parts i)))

-- 13 for a node that is left: its step, and behind a measurement a split with the joins of 12
-- groups. 1 for a group: its join. 12 for a group of which qubits are due: its split, and the joins
-- behind.
abbrev pub left_to_pay : Listing → Front → Cells → ℕ
left_to_pay l f c =
    13 * nodes_left l f.parts c + (groups_there f.qubits c + 12 * groups_due f.qubits c)

-- Each event but a park and a halt lowers what is left to pay. A park is paid by the node at which
-- its part waits.
abbrev pub IsPaid : Listing → Front → Cells → ℕ → Type 0
IsPaid l f c events =
    events + left_to_pay l f c
    ≤ 13 * size (root l) + (waiters f.parts f.chans c + one_if_stopped f.stopped)

abbrev pub PayingLaw : Type 0
PayingLaw =
    (l : Listing) (es : List Event) → IsProc l → need (root l) ≤ 12 → IsRun factored l es
    → IsPaid l (front_of l es) (cells_of l es) (length es)

-- the law: at most 13 events for each node that may be reduced, and one that stops the run
abbrev pub ShortLaw : Type 0
ShortLaw =
    (l : Listing) (es : List Event) → IsProc l → need (root l) ≤ 12 → IsRun factored l es
    → length es ≤ 13 * size (root l) + 1

-- so where an event is enabled a book that was started with that much room has some
abbrev pub RoomLaw : Type 0
RoomLaw =
    (l : Listing) (es : List Event) (e : Event) → need (root l) ≤ 12 → IsRun factored l es
    → factored.Enabled l (front_of l es) (cell_after factored l es) e
    → length es < 13 * size (root l) + 1
