-- What `gen` prints of a run: its number, how many entries there are, how many of them are gates,
-- communications and measurements, and the weight.
use Rattle.std.specs.Prelude.{ℕ, List, ◌++◌, Bool, true, false, codes, decimal, length}
use Rattle.std.specs.List.{count_by}
use Rattle.cqp_trace.specs.declared.deed.Deed.{Deed}
use Rattle.cqp_trace.specs.declared.deed.Deed.TheVariants as deed
use Rattle.cqp_trace.specs.declared.entry.Entry.{Entry}
use Rattle.cqp_trace.specs.declared.trace.Trace.{Trace}
use Rattle.cqp_trace.specs.Text.{line, weight_line}

-- the deed applies a gate
abbrev pub is_gate : Deed → Bool
is_gate (deed.Gate o qs) = true
is_gate d = false

-- the deed is a communication
abbrev pub is_com : Deed → Bool
is_com (deed.Com to chan) = true
is_com d = false

-- the deed is a measurement
abbrev pub is_measurement : Deed → Bool
is_measurement (deed.Measure qs m) = true
is_measurement d = false

-- how many entries have such a deed
abbrev pub count_of : (Deed → Bool) → List Entry → ℕ
count_of is_such es = count_by (λ e. is_such e.deed) es

-- a line with a number
abbrev pub number_line : List ℕ → ℕ → List ℕ
number_line what n = line (what ++ codes " " ++ decimal n)

-- the six lines
abbrev pub summary_text : ℕ → Trace → List ℕ
summary_text rounds t =
    number_line (codes "gen") rounds ++ number_line (codes "entries") (length t.entries)
    ++ number_line (codes "gates") (count_of is_gate t.entries)
    ++ number_line (codes "coms") (count_of is_com t.entries)
    ++ number_line (codes "measures") (count_of is_measurement t.entries) ++ weight_line t.weight
