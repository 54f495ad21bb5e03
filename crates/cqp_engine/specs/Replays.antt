-- What replay answers.
use Rattle.std.specs.Prelude.{◌≡◌, ◌≢◌, ℕ, ◌+◌, ◌<◌, ◌≤◌, List, length, take, Result, Ok, Err}
use Rattle.cqp_ring.specs.declared.weight.Weight.{Weight}
use Rattle.cqp_ring.specs.Weight.{IsLeast}
use Rattle.cqp_syntax.specs.Trees.{Process}
use Rattle.cqp_trace.specs.declared.end.End.{End}
use Rattle.cqp_trace.specs.declared.entry.Entry.{Entry}
use Rattle.cqp_trace.specs.declared.trace.Trace.{Trace}
use Rattle.cqp_cells.specs.Config.{Config}
use Rattle.cqp_cells.specs.Lawful.{IsLawful, IsRightEnd, exponent_after}
use Rattle.cqp_cells.specs.Path.{IsPath}
use Rattle.cqp_cells.specs.Probability.{IsProbability}
use Rattle.cqp_engine.specs.declared.replaying.Replayed.{Replayed}
use Rattle.cqp_engine.specs.declared.replaying.ReplayEnd.{ReplayEnd}
use Rattle.cqp_engine.specs.declared.replaying.ReplayEnd.TheVariants as replayed
use Rattle.cqp_engine.specs.Progress.{HasMade, Progress}

-- the entries before the one at the index are a path, and with it they are none
pub record IsFirstNot (p : Process) (es : List Entry) (index : ℕ) : Type 0 where
  pub inside : index < length es
  pub last : Config
  pub path : IsPath p (take index es) last
  pub stops : (d : Config) → IsPath p (take (index + 1) es) d → ⊥

-- the entries are a path, and the end isn't right
pub record IsNotEnd (p : Process) (es : List Entry) (end : End) : Type 0 where
  pub last : Config
  pub path : IsPath p es last
  pub wrong : IsRightEnd last (exponent_after es last) end → ⊥

-- the entries are a path, the end is right, and the weight isn't the right one
pub record IsWrongWeight (p : Process) (t : Trace) (right : Weight) : Type 0 where
  pub last : Config
  pub path : IsPath p t.entries last
  pub end : IsRightEnd last (exponent_after t.entries last) t.end
  pub least : IsLeast right
  pub is : IsProbability p t.entries right
  pub other : t.weight ≢ right

-- why a trace is refused; its entries stand at the lines from 1 on, and its end behind them
abbrev pub IsRefused : Process → Trace → ReplayEnd → Type 0
IsRefused p t (replayed.NotStep line) =
    (index : ℕ) × (line ≡ index + 1) × IsFirstNot p t.entries index
IsRefused p t (replayed.NotEnd line) = (line ≡ length t.entries + 1) × IsNotEnd p t.entries t.end
IsRefused p t (replayed.WrongWeight given right) = (given ≡ t.weight) × IsWrongWeight p t right
IsRefused p t replayed.NoMemory = Unit {0}

-- the answer: the trace is lawful, or why it is refused
abbrev pub IsReplayed : Process → Trace → Result Replayed ReplayEnd → Type 0
IsReplayed p t (Ok r) = IsLawful p t × (r.entries ≡ length t.entries)
IsReplayed p t (Err e) = IsRefused p t e

-- as many entries as the count and the index say were made
pub record IsReplayedSoFar (p : Process) (es : List Entry) (count index : ℕ) (s : Progress)
    : Type 0 where
  pub made : HasMade p (take index es) s
  pub counted : count ≡ index
  pub within : index ≤ length es

-- all entries were made, or the first that continues no path is named
abbrev pub IsRemade : Process → List Entry → Result ℕ ReplayEnd → Progress → Type 0
IsRemade p es (Ok n) s = HasMade p es s × (n ≡ length es)
IsRemade p es (Err (replayed.NotStep line)) s =
    (index : ℕ) × (line ≡ index + 1) × IsFirstNot p es index
IsRemade p es (Err replayed.NoMemory) s = Unit {0}
IsRemade p es (Err e) s = ⊥
