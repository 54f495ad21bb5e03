-- The law of parts that wait.
use Rattle.std.specs.Prelude.{◌≡◌, ℕ, List, [], Bool, true, false, Option, Some, None}
use Rattle.std.specs.List.{range_with_len, list_any}
use Rattle.cqp_syntax.specs.Listing.{Listing, IsProc}
use Rattle.cqp_syntax.specs.Lists.{is_distinct}
use Rattle.cqp_book.specs.Keys.{has}
use Rattle.cqp_book.specs.Run.{IsRun}
use Rattle.cqp_parts.specs.declared.part.Part.{Part}
use Rattle.cqp_machine.specs.declared.front.Front.{Front}
use Rattle.cqp_machine.specs.declared.event.Event.{Event}
use Rattle.cqp_parts.specs.Parts.{process_of_part}
use Rattle.cqp_machine.specs.Cells.{Channel, Cells}
use Rattle.cqp_machine.specs.Enabled.{waits_for}
use Rattle.cqp_machine.specs.Machine.{factored}
use Rattle.cqp_machine.specs.Shown.{cells_of, front_of}
use Rattle.cqp_machine.specs.Sums.{sum_below}

-- whether a part waits at a channel
abbrev pub waits_in : ℕ → Option Channel → Bool
waits_in i None = false
waits_in i (Some c) = has i c.waiting

-- whether it waits at one of the channels
abbrev pub is_parked : ℕ → Cells → ℕ → Bool
is_parked chans c i = list_any (λ k. waits_in i (c.chans k)) (range_with_len 0 chans)

-- 1 where the test passes
abbrev pub one_if : Bool → ℕ
one_if true = 1
one_if false = 0

-- how many parts wait
abbrev pub waiters : ℕ → ℕ → Cells → ℕ
waiters parts chans c = sum_below parts (λ i. one_if (is_parked chans c i))

-- 1 for a part that is there and doesn't wait
abbrev pub one_if_ready : Option Part → Bool → ℕ
one_if_ready (Some p) false = 1
one_if_ready p b = 0

-- the part stands ready at the channel, at an output exactly where the channel's parts do
pub record StandsReady (l : Listing) (c : Cells) (chan : ℕ) (channel : Channel)
    (i : ℕ) : Type 0 where
  pub part : Part
  pub there : c.parts i ≡ Some part
  pub ready : waits_for chan (process_of_part l part) ≡ Some channel.outward

-- Each part that waits stands ready at its channel, and stands once in its list; so it is in no
-- other list. `ready` counts all other parts.
pub record WaitRightly (l : Listing) (f : Front) (c : Cells) : Type 0 where
  pub stand : (chan : ℕ) (channel : Channel) (i : ℕ) → c.chans chan ≡ Some channel
      → has i channel.waiting ≡ true → StandsReady l c chan channel i
  pub once : (chan : ℕ) (channel : Channel) → c.chans chan ≡ Some channel
      → is_distinct channel.waiting ≡ true
  pub idle : (chan : ℕ) (channel : Channel) → c.chans chan ≡ Some channel → channel.waiting ≡ []
      → channel.outward ≡ false
  pub ready : f.ready ≡ sum_below f.parts (λ i. one_if_ready (c.parts i) (is_parked f.chans c i))

-- the law: so they wait after each run
abbrev pub WaitingLaw : Type 0
WaitingLaw =
    (l : Listing) (es : List Event) → IsProc l → IsRun factored l es
    → WaitRightly l (front_of l es) (cells_of l es)

-- a part waits in one channel's list at most
abbrev pub OneListLaw : Type 0
OneListLaw =
    (l : Listing) (es : List Event) → IsProc l → IsRun factored l es → (i j k : ℕ) (x y : Channel)
    → (cells_of l es).chans j ≡ Some x → (cells_of l es).chans k ≡ Some y
    → has i x.waiting ≡ true → has i y.waiting ≡ true → j ≡ k
