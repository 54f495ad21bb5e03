-- Entries go on following a pick, and go on in plain order.
use Rattle.std.proofs.Common.{◌≡◌, ℕ, ◌+◌, List, [], ◌∷◌, ◌++◌, refl, sym, subst, arith}
use Rattle.std.specs.Prelude.{Some, None, Option}
use Rattle.std.specs.Option.{option_and_then}
use Rattle.cqp_trace.specs.declared.deed.Deed.{Deed}
use Rattle.cqp_trace.specs.declared.deed.Deed.TheVariants as deed
use Rattle.cqp_trace.specs.declared.entry.Entry.{Entry}
use Rattle.cqp_vector.specs.State.{State}
use Rattle.cqp_cells.specs.Config.{Config}
use Rattle.cqp_cells.specs.Step.{next}
use Rattle.cqp_paths.specs.Follows.{Pick, IsPickedIn, measure_count, measure_total, FollowsFrom}
use Rattle.cqp_cells.specs.Order.{IsPlainNext, OfSome, IsPlainFrom}
use Rattle.cqp_cells.specs.Path.{after}
use Rattle.cqp_cells.proofs.Options.{none_is_some, same_some}

-- what follows from a configuration being there is said of it, if there is one
pub of_some : (o : Option Config) (P : Config → Type 0) → ((d : Config) → o ≡ Some d → P d) → OfSome o P
of_some None P f = tt
of_some (Some d) P f = f d refl

-- a deed that is no measurement is picked
unmeasured_picked : (pick : Pick) (turn : ℕ) (s : State) (d : Deed) → measure_count d ≡ 0 → IsPickedIn pick turn s d
unmeasured_picked pick turn s (deed.Measure qs m) none = absurd (omega arith)
unmeasured_picked pick turn s (deed.Qbit q) none = tt
unmeasured_picked pick turn s (deed.New k) none = tt
unmeasured_picked pick turn s deed.Act none = tt
unmeasured_picked pick turn s (deed.Add v) none = tt
unmeasured_picked pick turn s (deed.Pick o) none = tt
unmeasured_picked pick turn s (deed.Gate o qs) none = tt
unmeasured_picked pick turn s (deed.Com to chan) none = tt
unmeasured_picked pick turn s (deed.If b) none = tt

-- entries without a measurement follow each pick
pub unmeasured_follow : (pick : Pick) (turn : ℕ) (c : Config) (es : List Entry) → measure_total es ≡ 0 → FollowsFrom pick turn c es
unmeasured_follow pick turn c [] none = tt
unmeasured_follow pick turn c (e ∷ es) none = (
  unmeasured_picked pick turn c.state e.deed (omega (arith, none)),
  of_some (next c e) (λ d. FollowsFrom pick (turn + measure_count e.deed) d es)
      (λ d h. unmeasured_follow pick (turn + measure_count e.deed) d es (omega (arith, none))),
)

-- turns are counted the same, however they are grouped
later_turn : (turn first more : ℕ) → turn + (first + more) ≡ turn + first + more
later_turn turn first more = omega arith

-- no turn more leaves the turn
same_turn : (turn : ℕ) → turn + 0 ≡ turn
same_turn turn = omega arith

-- entries follow a pick that they follow up to a configuration and from there on
pub follows_then : (pick : Pick) (turn : ℕ) (c d : Config) (es fs : List Entry) → FollowsFrom pick turn c es → after c es ≡ Some d
    → FollowsFrom pick (turn + measure_total es) d fs → FollowsFrom pick turn c (es ++ fs)
follows_then pick turn c d [] fs follows leads more =
    subst (λ (b : Config). FollowsFrom pick turn b fs) (sym (same_some leads)) (subst (λ n. FollowsFrom pick n d fs) (same_turn turn) more)
follows_then pick turn c d (e ∷ es) fs follows leads more =
    (follows.0, by_next (next c e) leads follows.1 (λ b old h. follows_then pick (turn + measure_count e.deed) b d es fs old h later))
  where
    later : FollowsFrom pick (turn + measure_count e.deed + measure_total es) d fs
    later = subst (λ n. FollowsFrom pick n d fs) (later_turn turn (measure_count e.deed) (measure_total es)) more

    by_next : (o : Option Config) → option_and_then (λ b. after b es) o ≡ Some d → OfSome o (λ b. FollowsFrom pick (turn + measure_count e.deed) b es)
        → ((b : Config) → FollowsFrom pick (turn + measure_count e.deed) b es → after b es ≡ Some d → FollowsFrom pick (turn + measure_count e.deed) b
        (es ++ fs))
        → OfSome o (λ b. FollowsFrom pick (turn + measure_count e.deed) b (es ++ fs))
    by_next None h old go = tt
    by_next (Some b) h old go = go b old h

-- entries that follow a pick follow it from each configuration on the way
pub follows_rest : (pick : Pick) (turn : ℕ) (c d : Config) (es fs : List Entry) → FollowsFrom pick turn c (es ++ fs) → after c es ≡ Some d
    → FollowsFrom pick (turn + measure_total es) d fs
follows_rest pick turn c d [] fs follows leads =
    subst (λ n. FollowsFrom pick n d fs) (sym (same_turn turn)) (subst (λ (b : Config). FollowsFrom pick turn b fs) (same_some leads) follows)
follows_rest pick turn c d (e ∷ es) fs follows leads =
    by_next (next c e) leads follows.1 (λ b more h. follows_rest pick (turn + measure_count e.deed) b d es fs more h)
  where
    by_next : (o : Option Config) → option_and_then (λ b. after b es) o ≡ Some d
        → OfSome o (λ b. FollowsFrom pick (turn + measure_count e.deed) b (es ++ fs))
        → ((b : Config) → FollowsFrom pick (turn + measure_count e.deed) b (es ++ fs) → after b es ≡ Some d
        → FollowsFrom pick (turn + measure_count e.deed + measure_total es) d fs)
        → FollowsFrom pick (turn + (measure_count e.deed + measure_total es)) d fs
    by_next None h more go = absurd (none_is_some h)
    by_next (Some b) h more go =
        subst (λ n. FollowsFrom pick n d fs) (sym (later_turn turn (measure_count e.deed) (measure_total es))) (go b more h)

-- entries that follow a pick, and one more that is picked, follow it
pub follows_on : (pick : Pick) (turn : ℕ) (c d : Config) (es : List Entry) (e : Entry) → FollowsFrom pick turn c es → after c es ≡ Some d
    → IsPickedIn pick (turn + measure_total es) d.state e.deed → FollowsFrom pick turn c (es ++ e ∷ [])
follows_on pick turn c d es e follows leads picked =
    follows_then pick turn c d es (e ∷ []) follows leads (picked, of_some (next d e) (λ b. Unit {0}) (λ b h. tt))

-- entries are in plain order that are so up to a configuration and from there on
pub plain_then : (c d : Config) (es fs : List Entry) → IsPlainFrom c es → after c es ≡ Some d → IsPlainFrom d fs → IsPlainFrom c (es ++ fs)
plain_then c d [] fs plain leads more = subst (λ b. IsPlainFrom b fs) (sym (same_some leads)) more
plain_then c d (e ∷ es) fs plain leads more = (plain.0, by_next (next c e) leads plain.1 (λ b old h. plain_then b d es fs old h more))
  where
    by_next : (o : Option Config) → option_and_then (λ b. after b es) o ≡ Some d → OfSome o (λ b. IsPlainFrom b es)
        → ((b : Config) → IsPlainFrom b es → after b es ≡ Some d → IsPlainFrom b (es ++ fs)) → OfSome o (λ b. IsPlainFrom b (es ++ fs))
    by_next None h old go = tt
    by_next (Some b) h old go = go b old h

-- entries in plain order, and one more that is the next, are in plain order
pub plain_on : (c d : Config) (es : List Entry) (e : Entry) → IsPlainFrom c es → after c es ≡ Some d → IsPlainNext d e → IsPlainFrom c (es ++ e ∷ [])
plain_on c d es e plain leads is = plain_then c d es (e ∷ []) plain leads (is, of_some (next d e) (λ b. Unit {0}) (λ b h. tt))
