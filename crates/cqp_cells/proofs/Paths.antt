-- A path goes on by an entry that fits and keeps to the limit, and by no other.
use Rattle.std.proofs.Common.{◌≡◌, ℕ, ◌+◌, ◌<◌, List, [], ◌∷◌, ◌++◌, Bool, true, false, refl, sym, ap, ◌∙◌, arith}
use Rattle.std.specs.Prelude.{Some, None, Option, ◌&&◌}
use Rattle.std.specs.Option.{option_and_then}
use Rattle.std.proofs.lemmas.Bool.Decides.{nat_tests}
use Rattle.cqp_syntax.specs.declared.op.Op.TheVariants as op
use Rattle.cqp_syntax.specs.Trees.{Process}
use Rattle.cqp_trace.specs.declared.deed.Deed.TheVariants as deed
use Rattle.cqp_trace.specs.declared.entry.Entry.{Entry}
use Rattle.cqp_vector.specs.State.{State}
use Rattle.cqp_cells.specs.Config.{Config, start_of}
use Rattle.cqp_cells.specs.Step.{next}
use Rattle.cqp_cells.specs.Exponent.{exponent_of}
use Rattle.cqp_cells.specs.Path.{after, h_count, h_total, is_below_limit, some_passes, keeps_limit, IsPath, GoesOn, IsLonger}
use Rattle.cqp_cells.proofs.Options.{none_is_some, same_some, both_true}

-- tests associate
and_assoc : (a b c : Bool) → (a && (b && c)) ≡ ((a && b) && c)
and_assoc true b c = refl
and_assoc false b c = refl

-- entries one list after the other lead where both lead
pub after-append : (c : Config) (es fs : List Entry) → after c (es ++ fs) ≡ option_and_then (λ d. after d fs) (after c es)
after-append c [] fs = refl
after-append c (e ∷ es) fs = by_next (next c e) (λ b. after-append b es fs)
  where
    by_next : (o : Option Config) → ((b : Config) → after b (es ++ fs) ≡ option_and_then (λ d. after d fs) (after b es))
        → option_and_then (λ b. after b (es ++ fs)) o ≡ option_and_then (λ d. after d fs) (option_and_then (λ b. after b es) o)
    by_next None more = refl
    by_next (Some b) more = more b

-- the H of two lists add up
pub h_total-append : (es fs : List Entry) → h_total (es ++ fs) ≡ h_total es + h_total fs
h_total-append [] fs = omega arith
h_total-append (e ∷ es) fs = omega (arith, h_total-append es fs)

-- entries and further ones keep to the limit one after another
pub keeps_limit-append : (k : ℕ) (c d : Config) (es fs : List Entry) → after c es ≡ Some d
    → keeps_limit k c (es ++ fs) ≡ (keeps_limit k c es && keeps_limit (k + h_total es) d fs)
keeps_limit-append k c d [] fs leads =
    let none : k + 0 ≡ k = omega arith in
    ap (λ b. keeps_limit k b fs) (same_some leads) ∙ ap (λ n. keeps_limit n d fs) (sym none)
keeps_limit-append k c d (e ∷ es) fs leads = by_next (next c e) leads (λ b h. keeps_limit-append (k + h_count e.deed) b d es fs h)
  where
    by_next : (o : Option Config) → option_and_then (λ b. after b es) o ≡ Some d
        → ((b : Config) → after b es ≡ Some d → keeps_limit (k + h_count e.deed) b (es ++ fs) ≡
        (keeps_limit (k + h_count e.deed) b es && keeps_limit (k + h_count e.deed + h_total es) d fs))
        → (is_below_limit k c.state e.deed && some_passes (λ b. keeps_limit (k + h_count e.deed) b (es ++ fs)) o)
        ≡ ((is_below_limit k c.state e.deed && some_passes (λ b. keeps_limit (k + h_count e.deed) b es) o) && keeps_limit
        (k + (h_count e.deed + h_total es)) d fs)
    by_next None h more = absurd (none_is_some h)
    by_next (Some b) h more =
        let sum : k + h_count e.deed + h_total es ≡ k + (h_count e.deed + h_total es) = omega arith in
        ap (λ t. is_below_limit k c.state e.deed && t) (more b h)
        ∙ and_assoc (is_below_limit k c.state e.deed) (keeps_limit (k + h_count e.deed) b es) (keeps_limit (k + h_count e.deed + h_total es) d fs)
        ∙ ap (λ n. (is_below_limit k c.state e.deed && keeps_limit (k + h_count e.deed) b es) && keeps_limit n d fs) sum

-- one entry
one_keeps : (k : ℕ) (c d : Config) (e : Entry) → next c e ≡ Some d → keeps_limit k c (e ∷ []) ≡ (is_below_limit k c.state e.deed && true)
one_keeps k c d e fits = ap (λ o. is_below_limit k c.state e.deed && some_passes (λ b. true) o) fits

-- a test and one that passes is the test
and_true : (b : Bool) → (b && true) ≡ b
and_true true = refl
and_true false = refl

-- no entry leads from the start to the start
pub path_starts : (p : Process) → IsPath p [] (start_of p)
path_starts p = record { leads = refl; below = refl }

-- a path goes on by an entry that fits and keeps to the limit
pub path_goes_on : (p : Process) (es : List Entry) (e : Entry) (c d : Config) → IsPath p es c → GoesOn es c e d → IsPath p (es ++ e ∷ []) d
path_goes_on p es e c d path step = record {
  leads =
      after-append (start_of p) es (e ∷ []) ∙ ap (λ o. option_and_then (λ b. after b (e ∷ [])) o) path.leads
      ∙ ap (λ o. option_and_then (λ b. after b []) o) step.fits;
  below =
      keeps_limit-append 0 (start_of p) c es (e ∷ []) path.leads
      ∙ ap (λ b. b && keeps_limit (0 + h_total es) c (e ∷ [])) path.below
      ∙ one_keeps (0 + h_total es) c d e step.fits ∙ and_true (is_below_limit (0 + h_total es) c.state e.deed)
      ∙ ap (λ n. is_below_limit n c.state e.deed) zero_more ∙ step.below;
}
  where
    zero_more : 0 + h_total es ≡ h_total es
    zero_more = omega arith

-- and by no other
pub path_goes_back : (p : Process) (es : List Entry) (e : Entry) (d : Config) → IsPath p (es ++ e ∷ []) d → IsLonger p es e d
path_goes_back p es e d path = by_before (after (start_of p) es) refl (sym (after-append (start_of p) es (e ∷ [])) ∙ path.leads)
  where
    zero_more : 0 + h_total es ≡ h_total es
    zero_more = omega arith

    by_before : (o : Option Config) → after (start_of p) es ≡ o → option_and_then (λ b. after b (e ∷ [])) o ≡ Some d → IsLonger p es e d
    by_before None at h = absurd (none_is_some h)
    by_before (Some c) at h = by_next (next c e) refl h
      where
        by_next : (o : Option Config) → next c e ≡ o → option_and_then (λ b. after b []) o ≡ Some d → IsLonger p es e d
        by_next None fits g = absurd (none_is_some g)
        by_next (Some b) fits g =
            let last : next c e ≡ Some d = fits ∙ g in
            let split =
            both_true (keeps_limit 0 (start_of p) es) (keeps_limit (0 + h_total es) c (e ∷ []))
            (sym (keeps_limit-append 0 (start_of p) c es (e ∷ []) at) ∙ path.below) in
            let below : is_below_limit (h_total es) c.state e.deed ≡ true =
            ap (λ n. is_below_limit n c.state e.deed) (sym zero_more)
            ∙ sym (one_keeps (0 + h_total es) c d e last ∙ and_true (is_below_limit (0 + h_total es) c.state e.deed)) ∙ split.1 in
            record { before = c; path = record { leads = at; below = split.0 }; step = record { fits = last; below = below } }

-- an H finds an exponent below 90
pub h_below : (k : ℕ) (s : State) (qs : List ℕ) → is_below_limit k s (deed.Gate op.H qs) ≡ true → exponent_of k s < 90
h_below k s qs h = grind (arith, nat_tests)
