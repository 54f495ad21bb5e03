-- The calls of a source or a sink in memory: which are to fail, and how many came.
use Rattle.std.specs.Prelude.{ℕ, List}
use Rattle.cqp_outside.specs.Causes.{one_more}

-- The numbers of the calls that fail, the number of the next call, and how many calls failed.
pub record Calls : Type 0 where
  pub fails : List ℕ
  pub next : ℕ
  pub faults : ℕ

-- No call came yet.
abbrev pub no_calls : List ℕ → Calls
no_calls fails = record { fails = fails; next = 0; faults = 0 }

-- One more call came, and went well.
abbrev pub after_call : Calls → Calls
after_call calls = record calls { next = one_more calls.next }

-- One more call came, and failed.
abbrev pub after_fault : Calls → Calls
after_fault calls = record calls { next = one_more calls.next; faults = one_more calls.faults }
