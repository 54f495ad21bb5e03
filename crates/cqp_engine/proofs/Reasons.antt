-- The reasons to refuse a trace exclude each other, and a lawful trace.
use Rattle.std.proofs.Common.{◌≡◌, ℕ, zero, suc, ◌+◌, ◌<◌, ◌≤◌, List, ◌++◌, length, take, drop, refl, sym, ap, subst, ◌∙◌, arith}
use Rattle.std.specs.Prelude.{◌≢◌, Some, None, Option}
use Rattle.std.specs.Option.{option_and_then}
use Rattle.std.proofs.lemmas.List.{length-take-le, take-append-drop, take-append-le}
use Rattle.cqp_ring.specs.declared.weight.Weight.{Weight}
use Rattle.cqp_ring.specs.Weight.{IsLeast}
use Rattle.cqp_syntax.specs.Trees.{Process}
use Rattle.cqp_trace.specs.declared.entry.Entry.{Entry}
use Rattle.cqp_trace.specs.declared.trace.Trace.{Trace}
use Rattle.cqp_cells.specs.Config.{Config, start_of}
use Rattle.cqp_cells.specs.Lawful.{IsLawful, IsRightEnd, exponent_after}
use Rattle.cqp_cells.specs.Path.{IsPath, after, h_total, keeps_limit}
use Rattle.cqp_cells.specs.Probability.{IsProbability}
use Rattle.cqp_cells.proofs.Options.{both_true, none_is_some}
use Rattle.cqp_cells.proofs.Paths.{after-append, keeps_limit-append}
use Rattle.cqp_engine.specs.declared.replaying.ReplayEnd.{ReplayEnd}
use Rattle.cqp_engine.specs.declared.replaying.ReplayEnd.TheVariants as replayed
use Rattle.cqp_engine.specs.Replays.{IsFirstNot, IsNotEnd, IsWrongWeight, IsRefused}
use Rattle.cqp_engine.proofs.Remade.{one_last}

-- the first entries of a path are a path
path_prefix : (p : Process) (xs ys : List Entry) (c : Config) → IsPath p (xs ++ ys) c → (b : Config) × IsPath p xs b
path_prefix p xs ys c path = by_last (after (start_of p) xs) refl (sym (after-append (start_of p) xs ys) ∙ path.leads)
  where
    by_last : (o : Option Config) → after (start_of p) xs ≡ o → option_and_then (λ b. after b ys) o ≡ Some c → (b : Config) × IsPath p xs b
    by_last None leads h = absurd (none_is_some h)
    by_last (Some b) leads h =
        let both = both_true (keeps_limit 0 (start_of p) xs) (keeps_limit (0 + h_total xs) b ys)
        (sym (keeps_limit-append 0 (start_of p) b xs ys leads) ∙ path.below) in
        (b, record { leads = leads; below = both.0 })

-- so are as many of them as one likes
path_taken : (p : Process) (es : List Entry) (n : ℕ) (c : Config) → IsPath p es c → (b : Config) × IsPath p (take n es) b
path_taken p es n c path = path_prefix p (take n es) (drop n es) c (subst (λ xs. IsPath p xs c) (sym (take-append-drop n es)) path)

-- no path has the first entry that continues none
no_whole_path : (p : Process) (es : List Entry) (i : ℕ) (c : Config) → IsFirstNot p es i → IsPath p es c → ⊥
no_whole_path p es i c first path = let prefix = path_taken p es (i + 1) c path in first.stops prefix.0 prefix.1

-- of two first entries that continue no path none is before the other
not_before : (p : Process) (es : List Entry) (i j : ℕ) → IsFirstNot p es i → IsFirstNot p es j → i < j → ⊥
not_before p es i j first other less =
    let many : length (take j es) ≡ j = length-take-le j es (omega (arith, other.inside)) in
    let inside : i + 1 ≤ length (take j es) = omega (arith, less, many) in
    let same = sym (take-append-le (i + 1) (take j es) (drop j es) inside) ∙ ap (λ xs. take (i + 1) xs) (take-append-drop j es) in
    let prefix = path_taken p (take j es) (i + 1) other.last other.path in
    first.stops prefix.0 (subst (λ xs. IsPath p xs prefix.0) same prefix.1)

-- numbers of which none is less are equal
same_unless : (i j : ℕ) → (i < j → ⊥) → (j < i → ⊥) → i ≡ j
same_unless zero zero below above = refl
same_unless zero (suc j) below above = absurd (below (omega arith))
same_unless (suc i) zero below above = absurd (above (omega arith))
same_unless (suc i) (suc j) below above = ap suc (same_unless i j (λ h. below (omega (arith, h))) (λ h. above (omega (arith, h))))

-- there is one first entry that continues no path
one_index : (p : Process) (es : List Entry) (i j : ℕ) → IsFirstNot p es i → IsFirstNot p es j → i ≡ j
one_index p es i j first other = same_unless i j (not_before p es i j first other) (not_before p es j i other first)

-- a right end and a wrong one
no_right_end : (p : Process) (t : Trace) (c : Config) → IsNotEnd p t.entries t.end → IsPath p t.entries c
    → IsRightEnd c (exponent_after t.entries c) t.end → ⊥
no_right_end p t c not path right =
    not.wrong (subst (λ d. IsRightEnd d (exponent_after t.entries d) t.end) (one_last p t.entries c not.last path not.path) right)

-- what is asked: two weights in least form that are the probability of a path are one
abbrev pub WeightIsOne : Type 0
WeightIsOne =
    (p : Process) (es : List Entry) (c : Config) → after (start_of p) es ≡ Some c → (w v : Weight) → IsLeast w → IsLeast v
    → IsProbability p es w → IsProbability p es v → w ≡ v

-- so there is one right weight
same_weights : WeightIsOne → (p : Process) (t : Trace) (w v : Weight) → IsWrongWeight p t w → IsWrongWeight p t v → w ≡ v
same_weights weights p t w v one other = weights p t.entries one.last one.path.leads w v one.least other.least one.is other.is

-- a lawful trace is refused for want of memory alone
pub lawful_not_refused : WeightIsOne → (p : Process) (t : Trace) (e : ReplayEnd) → e ≢ replayed.NoMemory → IsRefused p t e → IsLawful p t → ⊥
lawful_not_refused weights p t (replayed.NotStep line) memory h is = no_whole_path p t.entries h.0 is.last h.2 is.path
lawful_not_refused weights p t (replayed.NotEnd line) memory h is = no_right_end p t is.last h.1 is.path is.end
lawful_not_refused weights p t (replayed.WrongWeight given right) memory h is =
    h.1.other (weights p t.entries is.last is.path.leads t.weight right is.least h.1.least is.weight h.1.is)
lawful_not_refused weights p t replayed.NoMemory memory h is = memory refl

-- two reasons to refuse one trace are equal
pub one_reason : WeightIsOne → (p : Process) (t : Trace) (e f : ReplayEnd) → e ≢ replayed.NoMemory → f ≢ replayed.NoMemory → IsRefused p t e
    → IsRefused p t f → e ≡ f
one_reason weights p t replayed.NoMemory f some other h g = absurd (some refl)
one_reason weights p t e replayed.NoMemory some other h g = absurd (other refl)
one_reason weights p t (replayed.NotStep line) (replayed.NotStep place) some other h g =
    ap replayed.NotStep (h.1 ∙ ap (λ n. n + 1) (one_index p t.entries h.0 g.0 h.2 g.2) ∙ sym g.1)
one_reason weights p t (replayed.NotStep line) (replayed.NotEnd place) some other h g = absurd (no_whole_path p t.entries h.0 g.1.last h.2 g.1.path)
one_reason weights p t (replayed.NotStep line) (replayed.WrongWeight given right) some other h g =
    absurd (no_whole_path p t.entries h.0 g.1.last h.2 g.1.path)
one_reason weights p t (replayed.NotEnd line) (replayed.NotStep place) some other h g = absurd (no_whole_path p t.entries g.0 h.1.last g.2 h.1.path)
one_reason weights p t (replayed.NotEnd line) (replayed.NotEnd place) some other h g = ap replayed.NotEnd (h.0 ∙ sym g.0)
one_reason weights p t (replayed.NotEnd line) (replayed.WrongWeight given right) some other h g =
    absurd (no_right_end p t g.1.last h.1 g.1.path g.1.end)
one_reason weights p t (replayed.WrongWeight given right) (replayed.NotStep place) some other h g =
    absurd (no_whole_path p t.entries g.0 h.1.last g.2 h.1.path)
one_reason weights p t (replayed.WrongWeight given right) (replayed.NotEnd place) some other h g =
    absurd (no_right_end p t h.1.last g.1 h.1.path h.1.end)
one_reason weights p t (replayed.WrongWeight given right) (replayed.WrongWeight said is) some other h g =
    ap (λ w. replayed.WrongWeight w right) (h.0 ∙ sym g.0) ∙ ap (replayed.WrongWeight said) (same_weights weights p t right is h.1 g.1)
