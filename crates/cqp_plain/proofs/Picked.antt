-- A run under the answers of one pick is a run under each pick that allows these answers.
use Rattle.std.proofs.Common.{ℕ, ◌+◌, List, [], ◌∷◌}
use Rattle.std.specs.Prelude.{Option, Some, None, Result, Ok, Err, IfOk}
use Rattle.cqp_ring.specs.declared.root.Root.{Root}
use Rattle.cqp_choose.specs.Odds.{IsLawful}
use Rattle.cqp_syntax.specs.Trees.{Process}
use Rattle.cqp_trace.specs.declared.deed.Deed.{Deed}
use Rattle.cqp_trace.specs.declared.deed.Deed.TheVariants as deed
use Rattle.cqp_trace.specs.declared.entry.Entry.{Entry}
use Rattle.cqp_trace.specs.declared.trace.Trace.{Trace}
use Rattle.cqp_vector.specs.State.{State}
use Rattle.cqp_cells.specs.Config.{Config}
use Rattle.cqp_cells.specs.Order.{OfSome}
use Rattle.cqp_cells.specs.Step.{next}
use Rattle.cqp_paths.specs.Follows.{Pick, FollowsFrom, IsPickedIn, measure_count}
use Rattle.cqp_paths.specs.Runs.{IsPlainRun}

-- with lawful odds the one pick answers only what the other may
abbrev pub Allows : Pick → Pick → Type 0
Allows p q = (turn : ℕ) (odds : List Root) (index : ℕ) → IsLawful odds → p turn odds index → q turn odds index

module _ (p q : Pick) (allows : Allows p q) where
  -- what the one picked the other picks
  deed_allowed : (turn : ℕ) (s : State) (d : Deed) → IsPickedIn p turn s d → IsPickedIn q turn s d
  deed_allowed turn s (deed.Qbit n) h = tt
  deed_allowed turn s (deed.New k) h = tt
  deed_allowed turn s deed.Act h = tt
  deed_allowed turn s (deed.Add v) h = tt
  deed_allowed turn s (deed.Pick o) h = tt
  deed_allowed turn s (deed.Gate o qs) h = tt
  deed_allowed turn s (deed.Measure qs m) h = record {
    odds = h.odds;
    lawful = h.lawful;
    proportional = h.proportional;
    index = h.index;
    answered = allows turn h.odds h.index h.lawful h.answered;
    stands = h.stands;
  }
  deed_allowed turn s (deed.Com to k) h = tt
  deed_allowed turn s (deed.If b) h = tt

  -- entries that follow the one follow the other
  follows_allowed : (turn : ℕ) (c : Config) (es : List Entry) → FollowsFrom p turn c es → FollowsFrom q turn c es
  follows_allowed turn c [] h = tt
  follows_allowed turn c (e ∷ es) h =
      (deed_allowed turn c.state e.deed h.0, by_next (next c e) (λ d. follows_allowed (turn + measure_count e.deed) d es) h.1)
    where
      by_next : (o : Option Config) → ((d : Config) → FollowsFrom p (turn + measure_count e.deed) d es → FollowsFrom q (turn + measure_count e.deed) d es)
          → OfSome o (λ d. FollowsFrom p (turn + measure_count e.deed) d es) → OfSome o (λ d. FollowsFrom q (turn + measure_count e.deed) d es)
      by_next None go h = tt
      by_next (Some d) go h = go d h

  -- a plain run under the one is one under the other
  run_allowed : (r : Process) (t : Trace) → IsPlainRun p r t → IsPlainRun q r t
  run_allowed r t h = record {
    run = record {
      lawful = h.run.lawful;
      follows = follows_allowed 0 _ t.entries h.run.follows;
      safe = h.run.safe;
      short = h.run.short;
    };
    plain = h.plain;
  }

-- so it is of what a run answers
pub answered : {E R : Type 0} (trace : R → Trace) (p q : Pick) → Allows p q → (r : Process) (x : Result R E) → IfOk x (λ y. IsPlainRun p r (trace y))
    → IfOk x (λ y. IsPlainRun q r (trace y))
answered trace p q allows r (Ok y) h = run_allowed p q allows r (trace y) h
answered trace p q allows r (Err e) h = tt
