-- An outcome that is taken from the list which a factor tells.
use Rattle.std.proofs.Common.{◌≡◌, ℕ, ◌<◌, List, length, map, sym, ap, ◌∙◌, true, subst}
use Rattle.std.specs.Prelude.{slice_index, slice_index_or}
use Rattle.std.proofs.lemmas.List.{get_or-map}
use Rattle.cqp_ring.specs.Root.{zero_root}
use Rattle.cqp_vector.specs.declared.odds.Odd.{Odd}
use Rattle.cqp_vector.specs.Measurement.{is_outcome}
use Rattle.cqp_vector.specs.Odds.{odds_of}
use Rattle.cqp_vector.specs.State.{State}

-- what stands where there is no outcome
abbrev pub no_odd : Odd
no_odd = record { outcome = 0; norm = zero_root }

-- where each outcome of the list can be projected on, so can one that is taken from it
pub taken_outcome : (ps : List ℕ) (s : State) (odds : List Odd) (i : ℕ) → odds ≡ odds_of ps s → i < length odds
    → (i < length (odds_of ps s) → is_outcome ps s (slice_index (map (λ o. o.outcome) (odds_of ps s)) i) ≡ true)
    → is_outcome ps s (slice_index_or odds i no_odd).outcome ≡ true
taken_outcome ps s odds i e less told =
    let inside : i < length (odds_of ps s) = subst (λ t. i < length t) e less in
    ap (λ t. is_outcome ps s (slice_index_or t i no_odd).outcome) e
    ∙ ap (is_outcome ps s) (sym (get_or-map (λ (o : Odd). o.outcome) (odds_of ps s) i no_odd 0 inside))
    ∙ told inside
