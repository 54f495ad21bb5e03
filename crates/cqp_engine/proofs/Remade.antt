-- Replay: the first entry that is not made continues no path, and the answers are right.
use Rattle.std.proofs.Common.{◌≡◌, ℕ, ◌^◌, ◌+◌, ◌<◌, ◌≤◌, List, [], ◌∷◌, ◌++◌, length, take, true, refl, sym, ap, subst, ◌∙◌, arith}
use Rattle.std.specs.Prelude.{Some, Ok, get_or}
use Rattle.std.proofs.lemmas.List.{length-take-le, take_more}
use Rattle.std.proofs.Math.Seq.{take-length}
use Rattle.cqp_syntax.specs.Measures.{size}
use Rattle.cqp_syntax.specs.Trees.{Process}
use Rattle.cqp_trace.specs.declared.entry.Entry.{Entry}
use Rattle.cqp_cells.specs.Config.{Config}
use Rattle.cqp_cells.specs.Path.{IsPath, GoesOn, h_total, is_below_limit}
use Rattle.cqp_cells.specs.Step.{next}
use Rattle.cqp_cells.proofs.Options.{none_is_some, same_some, yes_is_no}
use Rattle.cqp_cells.proofs.Paths.{path_goes_back, path_goes_on, path_starts}
use Rattle.cqp_engine.specs.declared.engine.Fit.{Fit}
use Rattle.cqp_engine.specs.declared.engine.Fit.TheVariants.{Made, NoStep, AtLimit}
use Rattle.cqp_engine.specs.Progress.{HasMade, HasPath, IsTried, Progress, fresh}
use Rattle.cqp_engine.specs.Replays.{IsFirstNot, IsRemade, IsReplayedSoFar}
use Rattle.cqp_engine.proofs.Going.{EntriesAreWithin, path_short}

-- two paths of the same entries lead to one configuration
pub one_last : (p : Process) (es : List Entry) (c d : Config) → IsPath p es c → IsPath p es d → c ≡ d
one_last p es c d to_c to_d = same_some (sym to_c.leads ∙ to_d.leads)

-- where no reduction fits, or an H finds no room, the entry continues no path
no_path : (s : Progress) (e : Entry) → HasPath s
    → ((f : Config) → next s.last e ≡ Some f → is_below_limit (h_total s.entries) s.last.state e.deed ≡ true → ⊥)
    → (d : Config) → IsPath s.opening (s.entries ++ e ∷ []) d → ⊥
no_path s e path stops d longer =
    let back = path_goes_back s.opening s.entries e d longer in
    let same = one_last s.opening s.entries back.before s.last back.path path in
    let step : GoesOn s.entries s.last e d = subst (λ c. GoesOn s.entries c e d) same back.step in
    stops d step.fits step.below

-- an entry that is tried and not made fits no reduction below the limit
not_made : (s t : Progress) (e : Entry) (fit : Fit) → IsTried s e fit t → (fit ≡ Made → ⊥)
    → (f : Config) → next s.last e ≡ Some f → is_below_limit (h_total s.entries) s.last.state e.deed ≡ true → ⊥
not_made s t e Made tried other f fits below = other refl
not_made s t e NoStep tried other f fits below = none_is_some (sym tried.0 ∙ fits)
not_made s t e AtLimit tried other f fits below = yes_is_no (sym below ∙ tried.1)

-- the entries up to this one are those before it and this one
taken : (es : List Entry) (index : ℕ) (s : Progress) (e : Entry) → index < length es → e ≡ get_or es index e → s.entries ≡ take index es
    → take (index + 1) es ≡ s.entries ++ e ∷ []
taken es index s e inside is same =
    take_more es index e inside ∙ ap (λ x. take index es ++ x ∷ []) (sym is) ∙ ap (λ xs. xs ++ e ∷ []) (sym same)

-- replay begins with no entry
pub replay_starts : (s : Progress) (es : List Entry) → s ≡ fresh s.opening → IsReplayedSoFar s.opening es 0 0 s
replay_starts s es is = record {
  made = record { path = subst HasPath (sym is) (path_starts s.opening); opening = refl; entries = ap (λ (u : Progress). u.entries) is };
  counted = refl;
  within = omega arith;
}

-- the loop ends with all entries
pub all_made : (p : Process) (es : List Entry) (count index : ℕ) (s : Progress) → IsReplayedSoFar p es count index s → length es ≤ index
    → IsRemade p es (Ok count) s
all_made p es count index s far behind =
    let whole : index ≡ length es = omega (arith, far.within, behind) in
    (subst (λ xs. HasMade p xs s) (ap (λ n. take n es) whole ∙ take-length es) far.made, far.counted ∙ whole)

-- the count has room for one more
pub count_room : EntriesAreWithin → (p : Process) (es : List Entry) (count index : ℕ) (s : Progress) → size p + 1 < 2 ^ 32 → IsReplayedSoFar p es count index s
    → count + 1 < 2 ^ 32
count_room within p es count index s short far =
    let path : length s.entries ≤ size s.opening = path_short within s far.made.path in
    let sizes : size s.opening ≡ size p = ap size far.made.opening in
    let taken : length s.entries ≡ length (take index es) = ap length far.made.entries in
    let many : length (take index es) ≡ index = length-take-le index es far.within in
    let same : count ≡ index = far.counted in
    omega (arith, path, sizes, taken, many, same, short)

-- the entry that is not made is the first that continues no path
pub first_not : (p : Process) (es : List Entry) (count index : ℕ) (s t : Progress) (e : Entry) (fit : Fit) → IsReplayedSoFar p es count index s
    → index < length es → e ≡ get_or es index e → IsTried s e fit t → (fit ≡ Made → ⊥) → (x : ℕ) × (count + 1 ≡ x + 1) × IsFirstNot p es x
first_not p es count index s t e fit far inside is tried other =
    (index, ap (λ n. n + 1) far.counted, subst (λ q. IsFirstNot q es index) far.made.opening here)
  where
    stops : (d : Config) → IsPath s.opening (take (index + 1) es) d → ⊥
    stops d longer =
        no_path s e far.made.path (not_made s t e fit tried other) d
        (subst (λ xs. IsPath s.opening xs d) (taken es index s e inside is far.made.entries) longer)

    here : IsFirstNot s.opening es index
    here = record { inside = inside; last = s.last; path = subst (λ xs. IsPath s.opening xs s.last) far.made.entries far.made.path; stops = stops }

-- an entry that is made is one more
pub made_more : (p : Process) (es : List Entry) (count index : ℕ) (s t : Progress) (e : Entry) → IsReplayedSoFar p es count index s
    → index < length es → e ≡ get_or es index e → IsTried s e Made t → IsReplayedSoFar p es (count + 1) (index + 1) t
made_more p es count index s t e far inside is tried = record {
  made = record {
    path = subst HasPath (sym tried.1) (path_goes_on s.opening s.entries e s.last t.last far.made.path tried.0);
    opening = ap (λ (u : Progress). u.opening) tried.1 ∙ far.made.opening;
    entries = ap (λ (u : Progress). u.entries) tried.1 ∙ sym (taken es index s e inside is far.made.entries);
  };
  counted = ap (λ n. n + 1) far.counted;
  within = omega (arith, inside);
}
