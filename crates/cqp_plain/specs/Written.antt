-- Which entries have a line in a trace's text. No public clause cites this module.
use Rattle.std.specs.Prelude.{◌≡◌, List, Some, true}
use Rattle.std.specs.List.{list_all}
use Rattle.cqp_syntax.specs.Trees.{Process}
use Rattle.cqp_trace.specs.Writable.{has_line}
use Rattle.cqp_trace.specs.declared.entry.Entry.{Entry}
use Rattle.cqp_cells.specs.Config.{Config, start_of}
use Rattle.cqp_cells.specs.InRange.{is_in_range}
use Rattle.cqp_cells.specs.Path.{after}

-- entries of p that lead somewhere have lines where their numbers are in range
abbrev pub HasLines : Process → Type 0
HasLines p =
    (es : List Entry) (c : Config) → after (start_of p) es ≡ Some c
    → list_all is_in_range es ≡ true → list_all has_line es ≡ true
