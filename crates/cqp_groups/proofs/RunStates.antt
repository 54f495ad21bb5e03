-- The groups after a run stand for the state that its entries lead to.
use Rattle.std.proofs.Common.{◌≡◌, ◌≢◌, ◌+◌, ◌/◌, ℕ, length, sym, ap, subst, ◌∙◌}
use Rattle.cqp_syntax.specs.Listing.{root}
use Rattle.cqp_ring.specs.Root.{zero_root}
use Rattle.cqp_vector.specs.State.{State, norm_of_state}
use Rattle.cqp_cells.specs.Config.{Config}
use Rattle.cqp_cells.specs.Path.{h_total}
use Rattle.cqp_cells.specs.Probability.{IsProbability}
use Rattle.cqp_cells.specs.Exponent.{exponent_of}
use Rattle.cqp_cells.proofs.Options.{same_some}
use Rattle.cqp_machine.specs.Cells.{Cells}
use Rattle.cqp_machine.specs.Shown.{shown, front_of, cells_of}
use Rattle.cqp_machine.specs.Sums.{weight_of_groups}
use Rattle.cqp_norms.specs.StateStands.{StateStands}
use Rattle.cqp_factored.proofs.RunStands.{run_stands}
use Rattle.cqp_factored.proofs.ShownPaths.{shown_paths, well}
use Rattle.cqp_groups.specs.Groups.{as_cells}
use Rattle.cqp_groups.specs.RunLaws.{StateLaw}
use Rattle.cqp_groups.specs.States.{AreState}
use Rattle.cqp_groups.proofs.RunGroups.{sums}
use Rattle.cqp_groups.proofs.StateLemmas.{state_of_list, with_groups}

-- what cells stand for, their groups alone do
groups_alone : (c : Cells) (h : ℕ) (s : State) → StateStands c h s → StateStands (with_groups c.groups) h s
groups_alone c h s x = record {
  own = x.own;
  partition = x.partition;
  good = x.good;
  covers = x.covers;
  whole = x.whole;
  within = x.within;
  reads = x.reads;
}

-- the state at the end of the path, its exponent and its probability
pub states : StateLaw
states l es slots last x path =
    let leads = run_stands l x.sound es x.run in
    let here = well l x.sound es leads in
    let told = shown_paths l es x.sound x.run in
    let weight : weight_of_groups (front_of l es).qubits (cells_of l es) ≡ weight_of_groups (length slots) (as_cells slots) =
    sym (ap (λ n. weight_of_groups n (as_cells slots)) x.places ∙ ap (λ m. weight_of_groups (front_of l es).qubits (with_groups m)) x.groups) in
    let same : leads.last ≡ last = same_some {x = leads.last} {y = last} (sym leads.leads ∙ path.leads) in
    let other : told.0 ≡ last = sym (told.2 last path) in
    record {
      state = subst (λ (d : Config). AreState slots (h_total (shown es)) d.state) same (record {
        places = x.places ∙ sym here.stands.half.qubits;
        stands = state_of_list slots (cells_of l es).groups (h_total (shown es)) leads.last.state x.groups
            (groups_alone (cells_of l es) (h_total (shown es)) leads.last.state here.stands.state);
      });
      some = subst (λ (d : Config). norm_of_state d.state ≢ zero_root) same here.stands.some;
      exponent = ap (λ (d : Config). exponent_of (h_total (shown es)) d.state) (sym other)
          ∙ (told.1.stands.exponent ∙ ap (λ n. (n + 1) / 2) (sym (sums l es slots x).0));
      probability = subst (IsProbability (root l) (shown es)) weight told.1.probability;
    }
