-- An input that has a program text and, behind a line that is exactly `%trace`, a trace's text.
use Rattle.std.specs.Prelude.{ℕ, List, [], ◌∷◌, ◌||◌, Bool, codes, if◌then◌else◌}
use Rattle.std.specs.Prelude.{Option, Some, None, option_map}
use Rattle.std.specs.List.{concat}
use Rattle.std.specs.Str.{bytes_eq}
use Rattle.cqp_trace.specs.Lines.{lines}

-- the line is exactly `%trace`; at the end of the input it may lack its line feed
abbrev pub is_marker : List ℕ → Bool
is_marker l = bytes_eq l (codes "%trace\n") || bytes_eq l (codes "%trace")

-- the lines before the first marker
abbrev pub before_marker : List (List ℕ) → List (List ℕ)
before_marker [] = []
before_marker (l ∷ ls) = if is_marker l then [] else l ∷ before_marker ls

-- the lines behind the first marker, where there is one
abbrev pub behind_marker : List (List ℕ) → Option (List (List ℕ))
behind_marker [] = None
behind_marker (l ∷ ls) = if is_marker l then Some ls else behind_marker ls

-- what stands before the first marker
abbrev pub text_part : List ℕ → List ℕ
text_part input = concat (before_marker (lines input))

-- what stands behind it
abbrev pub trace_part : List ℕ → Option (List ℕ)
trace_part input = option_map concat (behind_marker (lines input))
