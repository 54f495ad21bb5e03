-- Each run from a process shows exactly one path, and the front and the cells stand for its end.
use Rattle.std.proofs.Common.{◌≡◌, ℕ, List, ◌+◌, ◌-◌, ◌/◌, ◌^◌, ◌<◌, ◌≤◌, sym, ap, subst, arith, ◌∙◌}
use Rattle.cqp_ring.specs.Amp.{amp_product}
use Rattle.cqp_ring.specs.Root.{root_product, norm_sum}
use Rattle.cqp_ring.specs.Weight.{power_root}
use Rattle.cqp_book.specs.Keys.{find}
use Rattle.cqp_syntax.specs.Listing.{Listing, IsProc, root}
use Rattle.cqp_vector.specs.State.{amp_at}
use Rattle.cqp_vector.specs.Least.{root2_power}
use Rattle.cqp_cells.specs.Config.{Config, start_of}
use Rattle.cqp_cells.specs.Path.{h_total}
use Rattle.cqp_cells.specs.Probability.{norms_before, norms_after}
use Rattle.cqp_cells.proofs.Telescope.{telescopes, one_times}
use Rattle.cqp_cells.proofs.Weights.{start_is_state}
use Rattle.cqp_machine.specs.declared.event.Event.{Event}
use Rattle.cqp_parts.specs.Parts.{opening_parts}
use Rattle.cqp_machine.specs.Fronts.{opening_front}
use Rattle.cqp_machine.specs.Machine.{part_pairs}
use Rattle.cqp_machine.specs.Shown.{shown, front_of, cells_of}
use Rattle.cqp_machine.specs.Sums.{exponents, norms, levels, whole_amp}
use Rattle.cqp_machine.specs.StandsFor.{StandsFor}
use Rattle.cqp_factored.specs.FactoredPath.{ShowsPath, IsOnlyEnd, ShownPathLaw, FactoredPathLaw}
use Rattle.cqp_cells.proofs.Options.{same_some}
use Rattle.cqp_factored.proofs.LevelRuns.{StandsWell}
use Rattle.cqp_levels.proofs.WholeLevels.{whole_exponent}
use Rattle.cqp_norms.proofs.Probability.{probability_stands}
use Rattle.cqp_short.proofs.Short.{short}
use Rattle.cqp_factored.proofs.RunStands.{RunLeads, run_stands}

module _ (l : Listing) (sound : IsProc l) (es : List Event)
    (leads : RunLeads l sound (opening_front l) (find (part_pairs 0 (opening_parts l))) es 0 (start_of (root l))) where
  -- the configuration at the end
  abbrev last : Config
  last = leads.last

  -- what holds of the front and of the cells after the run
  pub well : StandsWell l (front_of l es) (cells_of l es) (h_total (shown es)) last
  well = let count : 0 + h_total (shown es) ≡ h_total (shown es) =
      omega arith in subst (λ n. StandsWell l (front_of l es) (cells_of l es) n last) count leads.well

  -- as many qubits were made
  made : last.state.qubits ≡ (front_of l es).qubits
  made = well.stands.half.qubits

  -- they stand for the last configuration
  stands_for : StandsFor l (front_of l es) (cells_of l es) (shown es) last
  stands_for = let x = well.stands.state in record {
    parts = well.stands.half.parts.parts;
    made = well.stands.half.made;
    chans = well.stands.half.chans;
    qubits = well.stands.half.qubits;
    within = subst (λ n. exponents n (cells_of l es) ≤ h_total (shown es)) made x.within;
    numerators = subst (λ n. (k : ℕ) → k < 2 ^ n → amp_at last.state.nums k
        ≡ amp_product (root2_power (h_total (shown es) - exponents n (cells_of l es))) (whole_amp n (cells_of l es) k)) made x.reads;
    level = well.level;
    exponent = whole_exponent (cells_of l es) (h_total (shown es)) last.state x well.factors
        ∙ ap (λ n. (n + 1) / 2) (ap (λ n. levels n (cells_of l es)) made ∙ sym well.level);
  }

  -- the path's norms
  told : root_product (norm_sum last.state.nums) (norms_before (start_of (root l)) (shown es))
      ≡ root_product (power_root (h_total (shown es))) (norms_after (start_of (root l)) (shown es))
  told =
      telescopes (shown es) (start_of (root l)) last start_is_state leads.leads
      ∙ ap (root_product (power_root (h_total (shown es)))) (one_times (norms_after (start_of (root l)) (shown es)))

  -- the run shows a path
  shows : ShowsPath l es last
  shows = record {
    path = record { leads = leads.leads; below = leads.below };
    stands = stands_for;
    probability = subst (λ n. root_product (norms n (cells_of l es)) (norms_before (start_of (root l)) (shown es))
        ≡ root_product (power_root (exponents n (cells_of l es))) (norms_after (start_of (root l)) (shown es))) made
        (probability_stands (cells_of l es) (h_total (shown es)) last.state (norms_before (start_of (root l)) (shown es))
        (norms_after (start_of (root l)) (shown es))
        well.stands.state told);
  }

  -- a list of entries leads to one configuration
  only : IsOnlyEnd (root l) (shown es) last
  only c path = same_some {x = c} {y = last} (sym path.leads ∙ leads.leads)

  -- all of it
  pub path_shown : (last : Config) × ShowsPath l es last × IsOnlyEnd (root l) (shown es) last
  path_shown = (last, shows, only)

-- the law of shown paths
pub shown_paths : ShownPathLaw
shown_paths l es sound run = path_shown l sound es (run_stands l sound es run)

-- and with few events
pub factored_paths : FactoredPathLaw
factored_paths l es sound derivable few run =
    let path = shown_paths l es sound run in
    (path.0, record { shows = path.1; short = short l es sound few run }, path.2)
