-- What the text of a run's weight asks.
use Rattle.std.specs.Prelude.{List}
use Rattle.cqp_ring.specs.declared.weight.Weight.{Weight}
use Rattle.cqp_ring.specs.Weight.{IsLeast}
use Rattle.cqp_syntax.specs.Trees.{Process}
use Rattle.cqp_trace.specs.declared.entry.Entry.{Entry}
use Rattle.cqp_trace.specs.Writable.{IsWritableWeight}
use Rattle.cqp_cells.specs.Probability.{IsProbability}

-- the probability of the entries in least form has a text
abbrev pub HasWritableWeight : Process → List Entry → Type 0
HasWritableWeight p es =
    (w : Weight) → IsLeast w → IsProbability p es w → IsWritableWeight w
