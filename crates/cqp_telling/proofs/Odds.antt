-- The odds that a group tells are odds of the measurement in the whole state.
use Rattle.std.proofs.Common.{◌≡◌, ◌≢◌, ℕ, List, map, filter, length, not, true, false, ◌+◌, ◌^◌, ◌≤◌, Some, sym, ap, subst, arith, ◌∙◌, ⊎_elim}
use Rattle.std.specs.List.{list_all, range_with_len}
use Rattle.std.proofs.lemmas.Bool.{cases_Bool, both_ways, false_from_ne_true}
use Rattle.std.proofs.lemmas.List.{length-map}
use Rattle.std.proofs.lemmas.List.Elements.{filter_agree}
use Rattle.cqp_book.specs.Keys.{has}
use Rattle.cqp_choose.specs.Odds.{IsLawful}
use Rattle.cqp_ring.specs.declared.amp.Amp.{Amp}
use Rattle.cqp_ring.specs.declared.root.Root.{Root}
use Rattle.cqp_ring.specs.Root.{IsProportional, norm_sum, root_product, zero_root}
use Rattle.cqp_ring.proofs.OrderProducts.{zero_product}
use Rattle.cqp_syntax.specs.Listing.{root}
use Rattle.cqp_syntax.specs.Measures.{need}
use Rattle.cqp_syntax.specs.Trees.{Process}
use Rattle.cqp_trace.specs.declared.entry.Entry.{Entry}
use Rattle.cqp_vector.specs.Measurement.{distribution, is_outcome, is_zero_amp, projected}
use Rattle.cqp_vector.specs.State.{State}
use Rattle.cqp_vector.proofs.Counting.{places_at_most}
use Rattle.cqp_vector.proofs.Masks.{none_by_norm}
use Rattle.cqp_cells.specs.Config.{Config, start_of}
use Rattle.cqp_cells.specs.Path.{after, h_total}
use Rattle.cqp_cells.specs.Size.{total}
use Rattle.cqp_cells.proofs.Options.{same_some}
use Rattle.cqp_engine.specs.Upcoming.{AreOddsOf}
use Rattle.cqp_paths.specs.Follows.{norms_of, outcomes_of}
use Rattle.cqp_machine.specs.Cells.{Cells}
use Rattle.cqp_machine.specs.Factors.{Held, factor_of, index_of, places_in, projection, state_of}
use Rattle.cqp_machine.specs.Shown.{shown, front_of, cells_of}
use Rattle.cqp_places.specs.Places.{IsDistinct}
use Rattle.cqp_norms.specs.StateStands.{StateStands}
use Rattle.cqp_norms.proofs.OutcomeHalf.{all_none, times_none}
use Rattle.cqp_factored.specs.GroupLaws.{GroupLaw, PlacesLaw}
use Rattle.cqp_factored.proofs.RunHalf.{distinct_from}
use Rattle.cqp_factored.proofs.RunStands.{run_stands}
use Rattle.cqp_factored.proofs.ShownPaths.{well}
use Rattle.cqp_telling.specs.Laws.{OddsLaw, OutcomeLaw}
use Rattle.cqp_telling.specs.Told.{odds_in_group}
use Rattle.cqp_telling.proofs.Lawful.{TotalLaw, lawful_norms}
use Rattle.cqp_telling.proofs.Scaled.{LeastNorm, scale, scale_some, scaled}
use Rattle.cqp_telling.proofs.ToldLists.{kept, norm_at, norms_kept, outcomes_kept, proportional_to, same_norms, same_outcomes, times_each}

-- where one norm is another times what isn't 0, both lists of numerators are 0 or neither is
zero_alike : (k : Root) (xs ys : List Amp) → k ≢ zero_root → norm_sum xs ≡ root_product k (norm_sum ys)
    → list_all is_zero_amp xs ≡ list_all is_zero_amp ys
zero_alike k xs ys some e = ⊎_elim
    (λ (t : list_all is_zero_amp ys ≡ true). none_by_norm xs (e ∙ (ap (root_product k) (all_none ys t) ∙ times_none k)) ∙ sym t)
    (λ (t : list_all is_zero_amp ys ≡ false). false_from_ne_true (list_all is_zero_amp xs) (λ u. ⊎_elim
    (λ (z : k ≡ zero_root). some z)
    (λ (z : norm_sum ys ≡ zero_root). both_ways (list_all is_zero_amp ys) t (none_by_norm ys z))
    (zero_product k (norm_sum ys) (sym e ∙ all_none xs u))) ∙ sym t)
    (cases_Bool (list_all is_zero_amp ys))

module _ (least : LeastNorm) (c : Cells) (h : ℕ) (s : State) (x : StateStands c h s) (some : norm_sum s.nums ≢ zero_root)
    (g : ℕ) (G : Held) (there : c.groups g ≡ Some G) (qs : List ℕ) (dist : IsDistinct qs) (has_all : list_all (λ q. has q G.qubits) qs ≡ true) where
  -- how much more the whole's norms are
  abbrev k : Root
  k = scale least c h s x some g G there qs dist has_all

  -- an outcome of the whole is one of the group
  pub same_test : (m : ℕ) → is_outcome (places_in G.qubits qs) (state_of G) m ≡ is_outcome qs s m
  same_test m = ap not (sym (zero_alike k (projected qs m s).nums (projection qs m G).nums
      (scale_some least c h s x some g G there qs dist has_all) (scaled least c h s x some g G there qs dist has_all m)))

  -- so the same numbers are kept
  same_kept : kept (places_in G.qubits qs) (state_of G) ≡ kept qs s
  same_kept =
      filter_agree (is_outcome (places_in G.qubits qs) (state_of G)) (is_outcome qs s) same_test (range_with_len 0 (2 ^ length (places_in G.qubits qs)))
      ∙ ap (λ n. filter (is_outcome qs s) (range_with_len 0 (2 ^ n))) (length-map qs (λ q. index_of q G.qubits))

  -- the outcomes are the whole's
  pub whole_outcomes : outcomes_of (places_in G.qubits qs) (state_of G) ≡ outcomes_of qs s
  whole_outcomes = outcomes_kept (places_in G.qubits qs) (state_of G) ∙ (same_kept ∙ sym (outcomes_kept qs s))

  -- and the whole's norms are the group's times one number
  times_norms : norms_of qs s ≡ map (root_product k) (norms_of (places_in G.qubits qs) (state_of G))
  times_norms =
      norms_kept qs s
      ∙ (ap (map (norm_at qs s)) (sym same_kept)
      ∙ (times_each k (norm_at qs s) (norm_at (places_in G.qubits qs) (state_of G)) (scaled least c h s x some g G there qs dist has_all)
      (kept (places_in G.qubits qs) (state_of G))
      ∙ ap (map (root_product k)) (sym (norms_kept (places_in G.qubits qs) (state_of G)))))

  -- so they are in one proportion
  pub in_proportion : IsProportional (norms_of (places_in G.qubits qs) (state_of G)) (norms_of qs s)
  in_proportion = subst (IsProportional (norms_of (places_in G.qubits qs) (state_of G))) (sym times_norms)
      (proportional_to k (norms_of (places_in G.qubits qs) (state_of G)))

-- the qubits made and the need of what is left are at most the need of the process
abbrev pub NeedLaw : Type 0
NeedLaw = (p : Process) (es : List Entry) (c : Config) → after (start_of p) es ≡ Some c → c.state.qubits + total need c.parts ≤ need p

-- the law: after a run each group tells odds of the last state
pub odds_law : LeastNorm → TotalLaw → NeedLaw → GroupLaw → PlacesLaw → OddsLaw
odds_law least total_is needs are places l es last sound few run shows g G there qs distinct inside =
    let leads = run_stands l sound es run in
    let same : leads.last ≡ last = same_some {x = leads.last} {y = last} (sym leads.leads ∙ shows.path.leads) in
    let stands = (well l sound es leads).stands in
    let most = needs (root l) (shown es) last shows.path.leads in
    let made : (front_of l es).qubits ≤ 12 = omega (arith, shows.stands.qubits, most) in
    let good = are l es g G sound run made there in
    let bits = places_at_most (length G.qubits) (places_in G.qubits qs) (places G.qubits qs distinct inside).0 in
    let short : length (places_in G.qubits qs) ≤ 12 = omega (arith, good.few) in
    let told = same_norms (distribution (places_in G.qubits qs) (state_of G)) in
    let dist = distinct_from qs distinct in
    let outcomes = whole_outcomes least (cells_of l es) (h_total (shown es)) leads.last.state stands.state stands.some g G there qs dist inside in
    let proportion = in_proportion least (cells_of l es) (h_total (shown es)) leads.last.state stands.state stands.some g G there qs dist inside in
    subst (λ (d : Config). AreOddsOf qs d.state (odds_in_group G qs)) same (record {
      outcomes = same_outcomes (distribution (places_in G.qubits qs) (state_of G)) ∙ outcomes;
      lawful = subst IsLawful (sym told) (lawful_norms total_is (factor_of G) good (places_in G.qubits qs) short);
      proportional = subst (λ xs. IsProportional xs (norms_of qs leads.last.state)) (sym told) proportion;
    })

-- the law: so is an outcome
pub outcome_law : LeastNorm → OutcomeLaw
outcome_law least l es last sound run shows g G there qs distinct inside m =
    let leads = run_stands l sound es run in
    let same : leads.last ≡ last = same_some {x = leads.last} {y = last} (sym leads.leads ∙ shows.path.leads) in
    let stands = (well l sound es leads).stands in
    same_test least (cells_of l es) (h_total (shown es)) leads.last.state stands.state stands.some g G there qs (distinct_from qs distinct) inside m
    ∙ ap (λ (d : Config). is_outcome qs d.state m) same
