-- A lawful trace that follows a pick is a run, and what makes a process derivable or done in small cases.
use Rattle.std.proofs.Common.{◌≡◌, ℕ, List, [], ◌∷◌, length, true, sym, ap, ◌∙◌, arith}
use Rattle.std.specs.Prelude.{Some, None, is_none}
use Rattle.std.specs.List.{AllByRecursion, list_all}
use Rattle.cqp_ring.specs.declared.weight.Weight.{Weight}
use Rattle.cqp_ring.specs.Weight.{IsLeast}
use Rattle.cqp_syntax.specs.Binders.{HasDistinctBinders}
use Rattle.cqp_syntax.specs.Terms.{Term}
use Rattle.cqp_syntax.specs.Trees.{Process}
use Rattle.cqp_trace.specs.declared.entry.Entry.{Entry}
use Rattle.cqp_trace.specs.declared.trace.Trace.{Trace}
use Rattle.cqp_types.specs.Derivations.{IsDerivable}
use Rattle.cqp_types.specs.Faults.{Annotation, fault}
use Rattle.cqp_cells.specs.Config.{Config, part_at, start_of}
use Rattle.cqp_cells.specs.Examples.{done}
use Rattle.cqp_cells.specs.Lawful.{IsLawful}
use Rattle.cqp_cells.specs.Path.{after, keeps_limit}
use Rattle.cqp_cells.specs.Probability.{IsProbability}
use Rattle.cqp_cells.specs.Step.{ReductionIsLeft}
use Rattle.cqp_cells.proofs.Options.{none_is_some, both_true}
use Rattle.cqp_paths.specs.Follows.{Pick, Follows}
use Rattle.cqp_paths.specs.Runs.{IsRun}
use Rattle.cqp_paths.proofs.SafePaths.{safe_along}
use Rattle.cqp_paths.proofs.Smaller.{path_smaller}
use Rattle.cqp_paths.proofs.Stuck.{none_of, stuck_ends}

-- a lawful trace of a derivable process with distinct binders is a run under each pick that it follows
pub run_of : (pick : Pick) (p : Process) (t : Trace) → IsDerivable p → HasDistinctBinders p → IsLawful p t → Follows pick p t.entries → IsRun pick p t
run_of pick p t derivable names lawful follows = record {
  lawful = lawful;
  follows = follows;
  safe = safe_along p derivable names t.entries;
  short = omega (arith, path_smaller p t.entries lawful.last lawful.path.leads);
}

-- where no part is left, no reduction is
pub nothing_left : (c : Config) → c.parts ≡ [] → ReductionIsLeft c → ⊥
nothing_left c none = stuck_ends c (record {
  waits = λ i p at. absurd (gone i p at);
  apart = λ i j k p q at there. absurd (gone i p at);
})
  where
    gone : (i : ℕ) (p : Process) → part_at i c.parts ≡ Some p → ⊥
    gone i p at = none_is_some (sym (ap (λ ps. part_at i ps) none) ∙ at)

-- a path that leaves no part is lawful with the end `done 0` and with its probability in least form
pub ended_lawful : (p : Process) (es : List Entry) (last : Config) (w : Weight) → after (start_of p) es ≡ Some last → keeps_limit 0 (start_of p) es ≡ true
    → last.parts ≡ [] → IsLeast w → IsProbability p es w → IsLawful p (done es w)
ended_lawful p es last w leads below none least weight = record {
  last = last;
  path = record { leads = leads; below = below };
  end = (nothing_left last none, ap length none);
  least = least;
  weight = weight;
}

-- no term fails where a test at each finds no fault
pub none_fails : (ty : Annotation) (ts : List Term) → list_all (λ t. is_none (fault ty t)) ts ≡ true → AllByRecursion (λ t. fault ty t ≡ None) ts
none_fails ty [] h = tt
none_fails ty (t ∷ ts) h =
    let tests = both_true (is_none (fault ty t)) (list_all (λ u. is_none (fault ty u)) ts) h in
    (none_of (fault ty t) tests.0, none_fails ty ts tests.1)
