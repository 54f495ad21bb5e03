-- The factors of the state to which entries lead.
use Rattle.std.specs.Prelude.{◌≡◌, ℕ, ◌+◌, ◌<◌, ◌≤◌, List, [], ◌∷◌, length, if◌then◌else◌}
use Rattle.cqp_book.specs.Keys.{has}
use Rattle.cqp_syntax.specs.Trees.{Process}
use Rattle.cqp_trace.specs.declared.entry.Entry.{Entry}
use Rattle.cqp_vector.specs.Group.{Group, level_of}
use Rattle.cqp_cells.specs.Path.{h_total}
use Rattle.cqp_groups.specs.States.{AreFactorsOf}
use Rattle.cqp_stepper.specs.Last.{last_of}

-- how many of the factors have the qubit
abbrev pub factors_with : ℕ → List Group → ℕ
factors_with q [] = 0
factors_with q (g ∷ gs) = if has q g.qubits then factors_with q gs + 1 else factors_with q gs

-- the sum of the factors' levels
abbrev pub levels_of : List Group → ℕ
levels_of [] = 0
levels_of (g ∷ gs) = level_of g + levels_of gs

-- The factors' product, times the powers of root 2 that they were divided by, is the state to which
-- entries of p lead. Each of its qubits is in exactly one of them. They are few, and their levels
-- are at most 180 together.
pub record AreFactorsAfter (p : Process) (es : List Entry) (gs : List Group) : Type 0 where
  pub product : AreFactorsOf gs (h_total es) (last_of p es).state
  pub alone : (q : ℕ) → q < (last_of p es).state.qubits → factors_with q gs ≡ 1
  pub few : length gs ≤ 12
  pub levels : levels_of gs ≤ 180
