-- The law of what was made and what is left to make.
use Rattle.std.specs.Prelude.{ℕ, ◌+◌, ◌≤◌, List, Option, Some, None}
use Rattle.cqp_syntax.specs.Trees.{Process}
use Rattle.cqp_syntax.specs.Listing.{Listing, root, IsProc}
use Rattle.cqp_book.specs.Run.{IsRun}
use Rattle.cqp_machine.specs.declared.event.Event.{Event}
use Rattle.cqp_machine.specs.Machine.{factored}
use Rattle.cqp_syntax.specs.Measures.{need, chans_in}
use Rattle.cqp_machine.specs.Shown.{process_in, front_of, cells_of}
use Rattle.cqp_machine.specs.Sums.{sum_below}

-- a measure of the processes that are left, added up
abbrev pub of_process : (Process → ℕ) → Option Process → ℕ
of_process m None = 0
of_process m (Some p) = m p

abbrev pub left_of : (Process → ℕ) → Listing → List Event → ℕ
left_of m l es =
    sum_below (front_of l es).parts (λ i. of_process m (process_in l ((cells_of l es).parts i)))

-- qubits and channels made, with those that are left to make, are within the process's
pub record MakesWithin (l : Listing) (es : List Event) : Type 0 where
  pub qubits : (front_of l es).qubits + left_of need l es ≤ need (root l)
  pub chans : (front_of l es).chans + left_of chans_in l es ≤ chans_in (root l)

abbrev pub MakingLaw : Type 0
MakingLaw = (l : Listing) (es : List Event) → IsProc l → IsRun factored l es → MakesWithin l es
