-- Communications of a part, by how it stands.
use Rattle.std.specs.Prelude.{◌≡◌, ℕ, ◌≤◌, max, Bool, true, false, Some, None, Option, IsSome}
use Rattle.cqp_syntax.specs.Trees.{Process}
use Rattle.cqp_trace.specs.declared.deed.Deed.{Deed}
use Rattle.cqp_trace.specs.declared.deed.Deed.TheVariants as deed
use Rattle.cqp_trace.specs.declared.entry.Entry.{Entry}
use Rattle.cqp_cells.specs.Config.{Config, part_at}
use Rattle.cqp_cells.specs.Examples.{by}
use Rattle.cqp_cells.specs.Order.{least_part, greatest_part}
use Rattle.cqp_cells.specs.Step.{next}
use Rattle.cqp_cells.specs.Waiting.{MeetEither, is_waiting}
use Rattle.cqp_order.specs.declared.stand.Stand.{Stand}
use Rattle.cqp_order.specs.declared.stand.Stand.TheVariants.{Alone, Sends, Receives}

-- whether two parts take part in the deed
abbrev pub is_communication : Deed → Bool
is_communication (deed.Qbit q) = false
is_communication (deed.New k) = false
is_communication deed.Act = false
is_communication (deed.Add v) = false
is_communication (deed.Pick op) = false
is_communication (deed.Gate op qs) = false
is_communication (deed.Measure qs m) = false
is_communication (deed.Com to chan) = true
is_communication (deed.If answer) = false

-- the communication of part i, which stands so, with part j
abbrev pub communication : ℕ → ℕ → Stand → Option Entry
communication i j Alone = None
communication i j (Sends k) = Some (by i (deed.Com j k))
communication i j (Receives k) = Some (by j (deed.Com i k))

-- part i waits, the entry is one of i and j, of which i is the less, and no part before j meets i
pub record IsFirstMeeting (c : Config) (i j : ℕ) (e : Entry) : Type 0 where
  pub process : Process
  pub there : part_at i c.parts ≡ Some process
  pub waits : is_waiting process ≡ true
  pub fits : IsSome (next c e)
  pub least : least_part e ≡ i
  pub greatest : greatest_part e ≡ max i j
  pub first : (n k : ℕ) (q : Process) → part_at n c.parts ≡ Some q → MeetEither k process q
      → j ≤ n
