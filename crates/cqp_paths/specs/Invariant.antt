-- What each reduction keeps. No public clause cites this module.
use Rattle.std.specs.Prelude.{◌≡◌, ℕ, ◌≤◌, List, length, if◌then◌else◌}
use Rattle.std.specs.List.{AllByRecursion}
use Rattle.cqp_syntax.specs.TypeTrees.{TypeTrees}
use Rattle.cqp_syntax.specs.Trees.{Process}
use Rattle.cqp_types.specs.Derivations.{Derives}
use Rattle.cqp_cells.specs.Config.{Config, Part}
use Rattle.cqp_paths.specs.Made.{made}
use Rattle.cqp_cells.specs.Numbered.{HasNumbers}
use Rattle.cqp_cells.specs.Owners.{holds}
use Rattle.cqp_syntax.specs.Binders.{HasDistinctBinders}
use Rattle.cqp_cells.specs.Size.{total}

-- 1 where the process holds the qubit
abbrev pub held : ℕ → Process → ℕ
held q p = if holds q p then 1 else 0

-- what holds of the process of each part
abbrev pub AllParts : (Process → Type 0) → List Part → Type 0
AllParts P parts = AllByRecursion (λ part. P part.process) parts

-- parts are typed by all that was made, bind names once, and hold a qubit together at most once
pub record IsKept (carried : List TypeTrees) (c : Config) : Type 0 where
  pub numbers : HasNumbers c
  pub count : length carried ≡ c.chans
  pub typed : AllParts (Derives (made c.state.qubits carried)) c.parts
  pub binders : AllParts HasDistinctBinders c.parts
  pub owned : (q : ℕ) → total (held q) c.parts ≤ 1

-- so with some types that the channels carry
pub record IsInvariant (c : Config) : Type 0 where
  pub carried : List TypeTrees
  pub kept : IsKept carried c
