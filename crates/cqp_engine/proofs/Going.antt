-- A plain run goes on by one entry, and ends with a trace.
use Rattle.std.proofs.Common.{◌≡◌, ℕ, suc, ◌+◌, ◌-◌, ◌<◌, ◌≤◌, List, [], ◌∷◌, ◌++◌, length, refl, sym, ap, subst, ◌∙◌, arith}
use Rattle.std.specs.Prelude.{Some, None}
use Rattle.cqp_ring.specs.declared.weight.Weight.{Weight}
use Rattle.cqp_ring.specs.Weight.{IsLeast}
use Rattle.cqp_syntax.specs.Measures.{size}
use Rattle.cqp_syntax.specs.Trees.{Process}
use Rattle.cqp_trace.specs.declared.end.End.{End}
use Rattle.cqp_trace.specs.declared.entry.Entry.{Entry}
use Rattle.cqp_cells.specs.Config.{Config, start_of}
use Rattle.cqp_cells.specs.Lawful.{IsLawful}
use Rattle.cqp_cells.specs.Order.{OfSome, StopsPlainly}
use Rattle.cqp_cells.specs.Path.{GoesOn, after}
use Rattle.cqp_cells.specs.Probability.{IsProbability}
use Rattle.cqp_cells.specs.Size.{size_left}
use Rattle.cqp_cells.proofs.Paths.{path_starts, path_goes_on}
use Rattle.cqp_paths.specs.Follows.{Pick, IsPickedIn, measure_total}
use Rattle.cqp_paths.specs.Runs.{IsPlainRun}
use Rattle.cqp_paths.proofs.Following.{follows_on, plain_on}
use Rattle.cqp_paths.proofs.Runs.{run_of}
use Rattle.cqp_engine.specs.declared.engine.Fit.TheVariants.{Made}
use Rattle.cqp_engine.specs.PlainRuns.{IsAdvanced, IsChosen, IsPlainEnd, IsPlainSoFar}
use Rattle.cqp_engine.specs.Progress.{Progress, HasPath, IsSound, IsTried, fresh, longer}

-- what is asked: entries and the size of what is left are within the size of their process
abbrev pub EntriesAreWithin : Type 0
EntriesAreWithin = (p : Process) (es : List Entry) (c : Config) → after (start_of p) es ≡ Some c → length es + size_left c ≤ size p

-- so a path is no longer than its process is large
pub path_short : EntriesAreWithin → (s : Progress) → HasPath s → length s.entries ≤ size s.opening
path_short within s path = let all = within s.opening s.entries s.last path.leads in omega (arith, all)

-- a run begins with no entry
pub running_starts : (pick : Pick) (s : Progress) → s ≡ fresh s.opening → IsPlainSoFar pick s
running_starts pick s is = subst (IsPlainSoFar pick) (sym is) (record { path = path_starts s.opening; plain = tt; follows = tt })

-- a run goes on by an entry that is chosen and made
one_more : (pick : Pick) (s : Progress) (i : ℕ) (e : Entry) (d : Config) → IsPlainSoFar pick s
    → IsChosen pick (measure_total s.entries) s.last i e → GoesOn s.entries s.last e d → IsPlainSoFar pick (longer s e d)
one_more pick s i e d far chosen step =
    let turn : measure_total s.entries ≡ 0 + measure_total s.entries = omega arith in
    let picked : IsPickedIn pick (0 + measure_total s.entries) s.last.state e.deed =
    subst (λ n. IsPickedIn pick n s.last.state e.deed) turn chosen.picked in
    record {
      path = path_goes_on s.opening s.entries e s.last d far.path step;
      plain = plain_on (start_of s.opening) s.last s.entries e far.plain far.path.leads chosen.plain;
      follows = follows_on pick 0 (start_of s.opening) s.last s.entries e far.follows far.path.leads picked;
    }

-- one entry more is one longer
one_longer : (es : List Entry) (e : Entry) → length (es ++ e ∷ []) ≡ suc (length es)
one_longer [] e = refl
one_longer (x ∷ es) e = ap suc (one_longer es e)

-- an entry that was made
pub advanced : (pick : Pick) (s t : Progress) (i : ℕ) (e : Entry) → IsPlainSoFar pick s → IsChosen pick (measure_total s.entries) s.last i e
    → IsTried s e Made t → IsAdvanced pick s None t
advanced pick s t i e far chosen tried = (
  subst (IsPlainSoFar pick) (sym tried.1) (one_more pick s i e t.last far chosen tried.0),
  ap (λ (u : Progress). u.opening) tried.1,
  ap (λ (u : Progress). length u.entries) tried.1 ∙ one_longer s.entries e,
)

-- with each entry less is left of the size
pub run_smaller : EntriesAreWithin → (pick : Pick) (p : Process) (s t : Progress) → s.opening ≡ p → IsAdvanced pick s None t
    → size p - length t.entries < size p - length s.entries
run_smaller within pick p s t opening on =
    let short : length t.entries ≤ size t.opening = path_short within t on.0.path in
    let sizes : size t.opening ≡ size p = ap size (on.1 ∙ opening) in
    omega (arith, short, sizes, on.2)

-- a run that may end so is a plain run
ended : (pick : Pick) (s : Progress) (end : End) (w : Weight) → IsSound s.opening → IsPlainSoFar pick s → IsPlainEnd s end → IsLeast w
    → IsProbability s.opening s.entries w → IsPlainRun pick s.opening (record { entries = s.entries; end = end; weight = w })
ended pick s end w sound far is least probable = record {
  run = run_of pick s.opening (record { entries = s.entries; end = end; weight = w }) sound.derivable sound.binders lawful far.follows;
  plain = record { entries = far.plain; stop = subst (λ o. OfSome o (λ last. StopsPlainly last end)) (sym far.path.leads) is.stop };
}
  where
    lawful : IsLawful s.opening (record { entries = s.entries; end = end; weight = w })
    lawful = record { last = s.last; path = far.path; end = is.right; least = least; weight = probable }

-- the same, in the words of the loop
pub run_ended : (pick : Pick) (p : Process) (s t : Progress) (end : End) (w : Weight) → IsSound p → IsPlainSoFar pick s
    → s.opening ≡ p → IsAdvanced pick s (Some end) t → IsLeast w → IsProbability t.opening t.entries w
    → IsPlainRun pick p (record { entries = t.entries; end = end; weight = w })
run_ended pick p s t end w sound far opening on least probable =
    let here : IsProbability s.opening s.entries w = subst (λ (u : Progress). IsProbability u.opening u.entries w) on.0 probable in
    let sound_here : IsSound s.opening = subst IsSound (sym opening) sound in
    subst (λ q. IsPlainRun pick q (record { entries = t.entries; end = end; weight = w })) opening
    (subst (λ (u : Progress). IsPlainRun pick s.opening (record { entries = u.entries; end = end; weight = w })) (sym on.0)
    (ended pick s end w sound_here far on.1 least here))
