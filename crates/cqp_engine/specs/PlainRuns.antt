-- A run in plain order as far as it has come, by the answers of a function.
use Rattle.std.specs.Prelude.{◌≡◌, ℕ, suc, List, length, None, Some, Option}
use Rattle.std.specs.Borrow.{Bor}
use Rattle.cqp_ring.specs.declared.root.Root.{Root}
use Rattle.cqp_trace.specs.declared.end.End.{End}
use Rattle.cqp_trace.specs.declared.entry.Entry.{Entry}
use Rattle.cqp_trace.specs.declared.trace.Trace.{Trace}
use Rattle.cqp_cells.specs.Config.{Config, start_of}
use Rattle.cqp_cells.specs.Lawful.{IsRightEnd, exponent_after}
use Rattle.cqp_cells.specs.Order.{IsPlainFrom, IsPlainNext, StopsPlainly, least_part}
use Rattle.cqp_paths.specs.Follows.{Pick, IsPickedIn, Follows}
use Rattle.cqp_engine.specs.declared.plain.Ended.{Ended}
use Rattle.cqp_engine.specs.Progress.{Progress, HasPath}

-- the pick of a function that is asked with a slice of odds
abbrev pub answers_of : (ℕ → Bor (List Root) → ℕ → Type 0) → Pick
answers_of post turn odds index =
    (lent : Bor (List Root)) × (lent.now ≡ odds) × post turn lent index

-- the entry is the next in plain order, of that part, and its outcome is picked
pub record IsChosen (pick : Pick) (turn : ℕ) (c : Config) (part : ℕ) (e : Entry) : Type 0 where
  pub plain : IsPlainNext c e
  pub first : least_part e ≡ part
  pub picked : IsPickedIn pick turn c.state e.deed

-- the entries so far are a path in plain order, and follow the pick
pub record IsPlainSoFar (pick : Pick) (s : Progress) : Type 0 where
  pub path : HasPath s
  pub plain : IsPlainFrom (start_of s.opening) s.entries
  pub follows : Follows pick s.opening s.entries

-- a plain run may end so here
pub record IsPlainEnd (s : Progress) (end : End) : Type 0 where
  pub right : IsRightEnd s.last (exponent_after s.entries s.last) end
  pub stop : StopsPlainly s.last end

-- one entry more, which goes on in plain order and follows, or the end, where nothing changed
abbrev pub IsAdvanced : Pick → Progress → Option End → Progress → Type 0
IsAdvanced pick s None t =
    IsPlainSoFar pick t × (t.opening ≡ s.opening) × (length t.entries ≡ suc (length s.entries))
IsAdvanced pick s (Some end) t = (t ≡ s) × IsPlainEnd s end

-- the trace of what was made, with its end and its weight
abbrev pub trace_of : Progress → Ended → Trace
trace_of s ended = record { entries = s.entries; end = ended.end; weight = ended.weight }
