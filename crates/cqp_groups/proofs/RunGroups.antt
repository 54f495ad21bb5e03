-- Events that are enabled along runs meet what the groups' calls ask.
use Rattle.std.proofs.Common.{◌≡◌, ℕ, List, Option, Some, true, length, ◌<◌, ◌≤◌, sym, ap, refl, subst, arith, ◌∙◌, nat_lt}
use Rattle.std.specs.List.{list_all}
use Rattle.std.proofs.lemmas.Bool.{and_parts}
use Rattle.cqp_syntax.specs.declared.op.Op.{Op}
use Rattle.cqp_syntax.specs.declared.op.Op.TheVariants as op
use Rattle.cqp_syntax.specs.Listing.{Listing}
use Rattle.cqp_book.specs.Keys.{has}
use Rattle.cqp_cells.specs.Redex.{redex_of}
use Rattle.cqp_syntax.specs.Lists.{is_distinct}
use Rattle.cqp_machine.specs.declared.event.Event.{Event}
use Rattle.cqp_machine.specs.Factors.{Held, rest_of}
use Rattle.cqp_vector.specs.Group.{factors_left_out}
use Rattle.cqp_parts.specs.Parts.{process_of_part}
use Rattle.cqp_machine.specs.Fronts.{counts_of}
use Rattle.cqp_machine.specs.Enabled.{ActsOn, HasRoom, MaySplit, is_outcome_in, name_of_rest}
use Rattle.cqp_machine.specs.After.{split_in}
use Rattle.cqp_machine.specs.Sums.{level_in, levels, sum_below}
use Rattle.cqp_machine.specs.Shown.{front_of}
use Rattle.cqp_machine.specs.Shown.{cells_of}
use Rattle.cqp_pieces.specs.Splitting.{SplitsRightly}
use Rattle.cqp_fresh.proofs.Fresh.{next_qubit}
use Rattle.cqp_factored.proofs.GroupRuns.{level_within, group_levels, joins_can, places_are, splits_are}
use Rattle.cqp_steps.proofs.RowLemmas.{measured_operands, operands_of}
use Rattle.cqp_factored.proofs.RunStands.{run_stands}
use Rattle.cqp_factored.proofs.ShownPaths.{well}
use Rattle.cqp_groups.specs.Groups.{IsHeld, as_cells, groups_in, groups_split, split_by}
use Rattle.cqp_levels.proofs.KeptFactors.{AreFactors}
use Rattle.cqp_book.proofs.RunLemmas.{front_after-snoc, cell_after-snoc, run_snoc}
use Rattle.cqp_book.specs.Run.{cell_after}
use Rattle.cqp_machine.specs.Machine.{factored}
use Rattle.cqp_machine.specs.Cells.{cells_in}
use Rattle.cqp_local.proofs.WholeFits.{whole_after}
use Rattle.cqp_machine.specs.Cells.{as_group}
use Rattle.cqp_parts.specs.Parts.{opening_parts}
use Rattle.cqp_fresh.proofs.SoundStores.{no_group_pair}
use Rattle.cqp_groups.proofs.NormFits.{exponents_within, norms_fit, norms_small}
use Rattle.cqp_groups.specs.RunLaws.{AreAfter, DueLaw, ExponentLaw, GateLaw, GrowLaw, MeasureLaw, NextLaw, NormLaw, SmallLaw, OpenLaw, PairLaw, SumLaw}

module _ (l : Listing) (es : List Event) (slots : List (Option Held)) (x : AreAfter l es slots) where
  -- what stands in the cells stands in the list
  stands_too : (g : ℕ) (G : Held) → (cells_of l es).groups g ≡ Some G → groups_in slots g ≡ Some G
  stands_too g G h = ap (λ m. m g) x.groups ∙ h

  -- a group that is acted on, by distinct qubits
  abbrev held : (group : ℕ) (qs : List ℕ) (F : Held → Held) (level : ℕ) (a : ActsOn (front_of l es) (cells_of l es) group qs F level)
      → is_distinct qs ≡ true → IsHeld slots group qs
  held group qs F level a distinct = record {
    before = a.before;
    there = stands_too group a.before a.there;
    places = (places_are a.before.qubits qs distinct a.has).0;
  }

  -- an H finds room in its group
  room : (o : Op) (group : ℕ) (G : Held) → (cells_of l es).groups group ≡ Some G
      → HasRoom (front_of l es) (factors_left_out o) → o ≡ op.H → G.h < 90
  room o group G there r e =
      (group_levels l es group G x.sound x.run there).1 (subst (λ z. HasRoom (front_of l es) (factors_left_out z)) e r)

  -- a split of the list's group is the event's
  same_split : (group rest : ℕ) (qs : List ℕ) (m : MaySplit (cells_of l es) group qs rest)
      → groups_split (as_cells slots) group ≡ split_in group qs rest ((cells_of l es).groups group) (cells_of l es).groups
  same_split group rest qs m =
      ap (λ z. split_by group (z group) z) x.groups
      ∙ (ap (λ z. split_by group z (cells_of l es).groups) m.there
      ∙ (ap (λ n. split_in group m.before.due n (Some m.before) (cells_of l es).groups)
      (ap (λ ds. name_of_rest group (rest_of m.before.qubits ds)) m.are_due ∙ sym m.rest_is)
      ∙ (ap (λ ds. split_in group ds rest (Some m.before) (cells_of l es).groups) m.are_due
      ∙ sym (ap (λ z. split_in group qs rest z (cells_of l es).groups) m.there))))

-- a new qubit is the next
pub grows : GrowLaw
grows l es slots i group made gone woke level q x fits =
    next_qubit (counts_of (front_of l es)) (process_of_part l fits.0.part) q fits.0.process fits.0.moves ∙ sym x.places

-- a gate that fits meets what the call asks
pub gates : GateLaw
gates l es slots i group made gone woke level o qs x fits =
    let a = fits.2.0 in
    let own = operands_of (counts_of (front_of l es)) (process_of_part l fits.0.part) (redex_of (process_of_part l fits.0.part)) o qs fits.0.process
    fits.0.moves in
    let distinct = (and_parts (is_distinct qs) (list_all (λ q. nat_lt q (front_of l es).qubits) qs) own.operands).0 in
    record {
      held = held l es slots x group qs _ level a distinct;
      count = own.count;
      room = room l es slots x o group a.before a.there fits.2.1;
    }

-- so does a measurement
pub measures : MeasureLaw
measures l es slots i group made gone woke level qs m x fits =
    let a = fits.2.0 in
    let all = measured_operands (counts_of (front_of l es)) (process_of_part l fits.0.part) (redex_of (process_of_part l fits.0.part)) qs m
    fits.0.process fits.0.moves in
    let distinct = (and_parts (is_distinct qs) (list_all (λ q. nat_lt q (front_of l es).qubits) qs) all).0 in
    record {
      held = held l es slots x group qs _ level a distinct;
      some = sym (ap (λ z. is_outcome_in z qs m) a.there) ∙ fits.2.1;
    }

-- so does a join
pub pairs : PairLaw
pairs l es slots left right x few m = record {
  apart = m.apart;
  first = m.first;
  first_there = stands_too l es slots x left m.first m.first_there;
  second = m.second;
  second_there = stands_too l es slots x right m.second m.second_there;
  can = joins_can l es left right x.sound x.run (subst (λ n. n ≤ 12) x.places few) m;
}

-- so does a split, and it is the event's
pub dues : DueLaw
dues l es slots group rest qs x m =
    let leads = run_stands l x.sound es x.run in
    let here = well l x.sound es leads in
    let own = here.stands.state.partition.each group m.before m.there in
    let count : leads.last.state.qubits ≡ length slots = here.stands.half.qubits ∙ sym x.places in (
      record {
        before = m.before;
        there = stands_too l es slots x group m.before m.there;
        rightly = subst (λ ds. SplitsRightly ds m.before) (sym m.are_due) (splits_are l es group qs rest x.sound x.run m);
        made = subst (λ n. (q : ℕ) → has q m.before.qubits ≡ true → q < n) count own.made;
        due_in = own.due_in;
      },
      same_split l es slots x group rest qs m,
    )

-- the sum of the levels is the front's
pub sums : SumLaw
sums l es slots x =
    let leads = run_stands l x.sound es x.run in
    let here = well l x.sound es leads in (
      ap (λ n. levels n (as_cells slots)) x.places ∙ (ap (λ m. sum_below (front_of l es).qubits (λ g. level_in (m g))) x.groups ∙ sym here.level),
      level_within l es x.sound x.run,
    )

-- the products of the norms fit
pub fits : NormLaw
fits l es slots x few =
    let here = well l x.sound es (run_stands l x.sound es x.run) in
    let told = sums l es slots x in
    norms_fit slots (subst AreFactors (sym x.groups) here.factors) few (omega (arith, told.0, told.1))

-- that of all is within 2 to the sum of the exponents
pub small : SmallLaw
small l es slots x =
    let here = well l x.sound es (run_stands l x.sound es x.run) in
    norms_small slots (subst AreFactors (sym x.groups) here.factors)

-- and the sum of the exponents is at most 96
pub exponents_few : ExponentLaw
exponents_few l es slots x few = let told = sums l es slots x in exponents_within slots few (omega (arith, told.0, told.1))

-- an event goes on
pub follows : NextLaw
follows l es slots more e x on groups places =
    let front = front_after-snoc factored l es e in
    let store = cell_after-snoc factored l es e in
    record {
      sound = x.sound;
      run = run_snoc factored l es e x.run on;
      groups =
          groups
          ∙ sym (ap (λ s. (cells_in s).groups) store
          ∙ ap (λ c. c.groups) (whole_after l (front_of l es) (cell_after factored l es) e on));
      places = places ∙ sym (ap (λ f. f.qubits) front);
    }

-- at the opening there is no group
pub opens : OpenLaw
opens l sound = record {
  sound = sound;
  run = tt;
  groups = λ i g. ap as_group (sym (no_group_pair (opening_parts l) g)) i;
  places = refl;
}
