-- A run from the opening stands for the path that it shows.
use Rattle.std.specs.Prelude.{pos}
use Rattle.std.proofs.lemmas.Int.{ints}
use Rattle.cqp_ring.specs.declared.root.Root.{Root}
use Rattle.cqp_ring.specs.Root.{norm_sum, zero_root}
use Rattle.std.proofs.Common.{◌≡◌, ◌≢◌, ℕ, List, [], ◌∷◌, ◌++◌, map, ◌+◌, true, Some, None, refl, sym, ap, subst, arith, eq-eqb, ne_eqb, ◌∙◌}
use Rattle.std.specs.Option.{option_and_then}
use Rattle.std.proofs.lemmas.Bool.{and_from}
use mathlib.Core.Logic.{dite}
use native.Mathlib.Decide.{ℕ_discrete}
use Rattle.cqp_ring.specs.Amp.{one_amp}
use Rattle.cqp_book.specs.Keys.{Store, find}
use Rattle.cqp_book.specs.Run.{front_from, store_from, RunsFrom, IsRun}
use Rattle.cqp_syntax.specs.Listing.{Listing, IsProc, root}
use Rattle.cqp_vector.specs.State.{start_state}
use Rattle.cqp_cells.specs.Config.{Config, flattened, numbered, start_of, part_at}
use Rattle.cqp_cells.specs.Path.{after, h_total, keeps_limit}
use Rattle.cqp_parts.specs.declared.part.Part.{Part}
use Rattle.cqp_machine.specs.declared.front.Front.{Front}
use Rattle.cqp_machine.specs.declared.event.Event.{Event}
use Rattle.cqp_machine.specs.declared.cell.Cell.{Cell}
use Rattle.cqp_machine.specs.Keys.{part_key}
use Rattle.cqp_parts.specs.Parts.{process_of_part, opening_parts}
use Rattle.cqp_machine.specs.Cells.{cells_in, as_part, as_group}
use Rattle.cqp_machine.specs.Fronts.{front_after, opening_front}
use Rattle.cqp_machine.specs.After.{cells_after}
use Rattle.cqp_machine.specs.Machine.{factored, part_pairs}
use Rattle.cqp_machine.specs.Shown.{shown, shown_by, process_in}
use Rattle.cqp_cells.proofs.Options.{none_is_some}
use Rattle.cqp_fresh.proofs.Partition.{nothing_owned}
use Rattle.cqp_products.proofs.ProductHalf.{one_times}
use Rattle.cqp_fresh.proofs.SoundStores.{no_group_pair}
use Rattle.cqp_steps.proofs.ConfigLemmas.{at_first, at_later, numbered_beyond, numbered_distinct}
use Rattle.cqp_parts.proofs.TreeLemmas.{parts_stand}
use Rattle.cqp_local.proofs.WholeFits.{whole_enabled, whole_after}
use Rattle.cqp_steps.proofs.StepHalf.{HalfStands}
use Rattle.cqp_norms.specs.StateStands.{StateStands}
use Rattle.cqp_cells.proofs.Paths.{after-append, h_total-append, keeps_limit-append}
use Rattle.cqp_factored.proofs.LevelRuns.{StandsWell, event_well}

-- the parts of the opening
opening_at : (l : Listing) (n : ℕ) (ps : List Part) (j : ℕ)
    → part_at j (numbered n (map (process_of_part l) ps)) ≡ process_in l (as_part (find (part_pairs n ps) (part_key j)))
opening_at l n [] j = refl
opening_at l n (p ∷ ps) j = dite (ℕ_discrete n j)
    (λ (e : n ≡ j).
    let key : part_key j ≡ part_key n = ap part_key (sym e) in
    at_first j n (process_of_part l p) (numbered (n + 1) (map (process_of_part l) ps)) e ∙ rw (eq-eqb (part_key j) (part_key n) key) refl)
    (λ (e : n ≢ j).
    let key : part_key j ≢ part_key n = λ z. e (omega arith) in
    at_later j n (process_of_part l p) (numbered (n + 1) (map (process_of_part l) ps)) e
    ∙ rw (ne_eqb (part_key j) (part_key n) key) (opening_at l (n + 1) ps j))

-- the start has a numerator
one_some : norm_sum start_state.nums ≡ zero_root → ⊥
one_some e = let none : pos 1 ≡ pos 0 = ap (λ (r : Root). r.p) e in absurd (omega (arith, ints))

module _ (l : Listing) (sound : IsProc l) where
  -- the opening stands for the start
  opening_half : HalfStands l (opening_front l) (cells_in (find (part_pairs 0 (opening_parts l)))).parts (start_of (root l))
  opening_half =
      let same : map (process_of_part l) (opening_parts l) ≡ flattened (root l) = parts_stand l sound [] 0 in
      record {
        parts = record {
          parts = λ j. ap (λ qs. part_at j (numbered 0 qs)) (sym same) ∙ opening_at l 0 (opening_parts l) j;
          distinct = numbered_distinct 0 (flattened (root l));
          below = λ j h. numbered_beyond j 0 (flattened (root l)) (omega arith);
        };
        made = refl;
        chans = refl;
        qubits = refl;
      }

  -- its groups are none
  opening_state : StateStands (cells_in (find (part_pairs 0 (opening_parts l)))) 0 start_state
  opening_state = record {
    own = λ q. q;
    partition = nothing_owned _ (λ g. rw (no_group_pair (opening_parts l) g) refl);
    good = λ g G h. let none : None ≡ Some G = sym (ap as_group (no_group_pair (opening_parts l) g)) ∙ h in absurd (none_is_some {x = G} none);
    covers = λ q small. absurd (omega arith);
    whole = refl;
    within = omega arith;
    reads = λ k small. let e : k ≡ 0 = omega arith in rw e (sym (one_times one_amp));
  }

  -- and the levels' sum is 0
  opening_well : StandsWell l (opening_front l) (cells_in (find (part_pairs 0 (opening_parts l)))) 0 (start_of (root l))
  opening_well = record {
    stands = record { half = opening_half; state = opening_state; some = λ e. one_some e };
    factors = λ g G h. let none : None ≡ Some G = sym (ap as_group (no_group_pair (opening_parts l) g)) ∙ h in absurd (none_is_some {x = G} none);
    level = refl;
  }

  -- what a run shows leads to what it leaves, below the limit
  pub record RunLeads (f : Front) (s : Store Cell) (es : List Event) (h : ℕ) (d : Config) : Type 0 where
    pub last : Config
    pub leads : after d (shown es) ≡ Some last
    pub below : keeps_limit h d (shown es) ≡ true
    pub well : StandsWell l (front_from factored l f es) (cells_in (store_from factored l f s es)) (h + h_total (shown es)) last

  -- event by event
  runs_stand : (f : Front) (s : Store Cell) (es : List Event) (h : ℕ) (d : Config) → RunsFrom factored l f s es → StandsWell l f (cells_in s) h d
      → RunLeads f s es h d
  runs_stand f s [] h d run x =
      let count : h ≡ h + 0 = omega arith in
      record { last = d; leads = refl; below = refl; well = subst (λ n. StandsWell l f (cells_in s) n d) count x }
  runs_stand f s (e ∷ es) h d run x =
      let one = event_well l sound f (cells_in s) h d x e (whole_enabled l f s e run.0).fits in
      let whole = whole_after l f s e run.0 in
      let here : StandsWell l (front_after f e) (cells_after l f (cells_in s) e) (h + h_total (shown_by e)) one.leads.last =
      record { stands = one.leads.stands; factors = one.well.0; level = one.well.1 } in
      let between = subst (λ c. StandsWell l (front_after f e) c (h + h_total (shown_by e)) one.leads.last) (sym whole) here in
      let later = runs_stand (front_after f e) (factored.after l f s e) es (h + h_total (shown_by e)) one.leads.last run.1 between in
      let count : h + h_total (shown_by e) + h_total (shown es) ≡ h + h_total (shown_by e ++ shown es) =
      omega (arith, h_total-append (shown_by e) (shown es)) in
      record {
        last = later.last;
        leads = after-append d (shown_by e) (shown es) ∙ (ap (λ x. option_and_then (λ c. after c (shown es)) x) one.leads.leads ∙ later.leads);
        below = keeps_limit-append h d one.leads.last (shown_by e) (shown es) one.leads.leads
            ∙ and_from (keeps_limit h d (shown_by e)) (keeps_limit (h + h_total (shown_by e)) one.leads.last (shown es)) one.below later.below;
        well = subst (λ n. StandsWell l (front_from factored l (front_after f e) es)
            (cells_in (store_from factored l (front_after f e) (factored.after l f s e) es)) n later.last)
            count later.well;
      }

  -- from the opening
  pub run_stands : (es : List Event) → IsRun factored l es
      → RunLeads (opening_front l) (find (part_pairs 0 (opening_parts l))) es 0 (start_of (root l))
  run_stands es run = runs_stand (opening_front l) (find (part_pairs 0 (opening_parts l))) es 0 (start_of (root l)) run opening_well
