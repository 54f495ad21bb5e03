-- Each event keeps the level of the front and the groups as factors; and its H, if it is one, is below the limit.
use Rattle.std.proofs.Common.{◌≡◌, ℕ, List, [], ◌∷◌, ◌+◌, ◌/◌, ◌<◌, ◌≤◌, true, nat_lt, Option, Some, None, refl, sym, ap, subst, arith, ◌∙◌}
use Rattle.std.specs.List.{list_all}
use Rattle.std.specs.Option.{option_and_then}
use Rattle.std.proofs.lemmas.Bool.{and_parts, and_from, lt-ltb}
use Rattle.cqp_syntax.specs.declared.op.Op.TheVariants as op
use Rattle.cqp_syntax.specs.Listing.{Listing, IsProc}
use Rattle.cqp_trace.specs.declared.deed.Deed.{Deed}
use Rattle.cqp_trace.specs.declared.deed.Deed.TheVariants as deed
use Rattle.cqp_trace.specs.declared.entry.Entry.{Entry}
use Rattle.cqp_cells.specs.Config.{Config}
use Rattle.cqp_cells.specs.Redex.{redex_of}
use Rattle.cqp_syntax.specs.Lists.{is_distinct}
use Rattle.cqp_cells.specs.Step.{next}
use Rattle.cqp_cells.specs.Path.{after, h_count, is_below_limit, some_passes, keeps_limit}
use Rattle.cqp_cells.specs.Exponent.{exponent_of}
use Rattle.cqp_machine.specs.declared.front.Front.{Front}
use Rattle.cqp_machine.specs.declared.event.Event.{Event}
use Rattle.cqp_machine.specs.declared.event.Event.TheVariants as event
use Rattle.cqp_parts.specs.Parts.{process_of_part}
use Rattle.cqp_machine.specs.Factors.{Held, new_group, gated, measured, level_of}
use Rattle.cqp_machine.specs.Cells.{Cells, with_at}
use Rattle.cqp_machine.specs.Fronts.{front_after, counts_of, qubits_by}
use Rattle.cqp_machine.specs.Enabled.{FitsEvent, FitsStep, MaySplit, is_outcome_in}
use Rattle.cqp_machine.specs.After.{cells_after, groups_by, split_in, becomes}
use Rattle.cqp_machine.specs.Shown.{shown_by}
use Rattle.cqp_machine.specs.Sums.{levels}
use Rattle.cqp_fresh.proofs.Fresh.{next_qubit}
use Rattle.cqp_fresh.specs.Partition.{Groups}
use Rattle.cqp_fresh.proofs.Partition.{name_made}
use Rattle.cqp_steps.proofs.RowLemmas.{operands_of}
use Rattle.cqp_norms.specs.StateStands.{StateStands}
use Rattle.cqp_norms.proofs.StateMore.{join_stands}
use Rattle.cqp_factored.proofs.RunHalf.{Stands, Leads, event_stands, split_kept, distinct_from}
use Rattle.cqp_levels.proofs.KeptFactors.{IsFactor, AreFactors, new_factor, measured_factor}
use Rattle.cqp_levels.proofs.LevelEvents.{level_sum, factors_put, levels_changed, levels_grown, gate_keeps, join_keeps, one_level}
use Rattle.cqp_levels.proofs.WholeLevels.{whole_exponent}
use Rattle.cqp_levels.proofs.SplitKept.{split_factors}

-- the cells stand for a configuration, their groups are factors, and the front has the sum of their levels
pub record StandsWell (l : Listing) (f : Front) (c : Cells) (h : ℕ) (d : Config) : Type 0 where
  pub stands : Stands l f c h d
  pub factors : AreFactors c.groups
  pub level : f.level ≡ levels f.qubits c

-- groups that are factors, with this sum of levels
abbrev pub Well : Groups → ℕ → ℕ → Type 0
Well m n level = AreFactors m × (level ≡ level_sum n m)

-- a number and nothing more
plus_none : (n : ℕ) → n ≡ n + 0
plus_none n = omega arith

-- half of at most 178, rounded up, is below 90
half_below : (e level : ℕ) → e ≡ (level + 1) / 2 → level ≤ 178 → nat_lt e 90 ≡ true
half_below e level is less = lt-ltb e 90 (omega arith)

module _ (l : Listing) (sound : IsProc l) (f : Front) (c : Cells) (h : ℕ) (d : Config) (x : StandsWell l f c h d) where
  -- a group that becomes another
  changed_well : (g level : ℕ) (G H : Held) → c.groups g ≡ Some G → IsFactor H → level + level_of G ≡ f.level + level_of H
      → Well (with_at g (Some H) c.groups) (f.qubits + 0) level
  changed_well g level G H there factor told =
      let below : g < f.qubits = subst (λ n. g < n) x.stands.half.qubits
      (name_made d.state.qubits c.groups x.stands.state.own x.stands.state.partition g G there) in (
        factors_put c.groups g H x.factors factor,
        levels_changed f.qubits g c.groups G H f.level level below there x.level told
            ∙ ap (λ n. level_sum n (with_at g (Some H) c.groups)) (plus_none f.qubits),
      )

  -- the same groups
  same_well : (level : ℕ) → level ≡ f.level → Well c.groups (f.qubits + 0) level
  same_well level e = (x.factors, e ∙ (x.level ∙ ap (λ n. level_sum n c.groups) (plus_none f.qubits)))

  -- the groups after a deed
  deed_well : (i group made gone woke level : ℕ) (o : Deed) → FitsStep l f c i o group made gone woke level
      → Well (groups_by c o group) (f.qubits + qubits_by o) level
  deed_well i group made gone woke level (deed.Qbit q) fits =
      let number : q ≡ f.qubits = next_qubit (counts_of f) (process_of_part l fits.0.part) q fits.0.process fits.0.moves in (
        factors_put c.groups q (new_group q) x.factors (new_factor q),
        fits.2.1 ∙ (x.level ∙ (sym (levels_grown f.qubits c.groups)
            ∙ ap (λ n. level_sum (f.qubits + 1) (with_at n (Some (new_group n)) c.groups)) (sym number))),
      )
  deed_well i group made gone woke level (deed.Gate o qs) fits =
      let a = fits.2.0 in
      let own = operands_of (counts_of f) (process_of_part l fits.0.part) (redex_of (process_of_part l fits.0.part)) o qs fits.0.process fits.0.moves in
      let distinct = distinct_from qs (and_parts (is_distinct qs) (list_all (λ q. nat_lt q f.qubits) qs) own.operands).0 in
      subst (λ m. Well m (f.qubits + 0) level) (sym (ap (λ z. with_at group (becomes (gated o qs) z) c.groups) a.there))
      (changed_well group level a.before (gated o qs a.before) a.there
      (gate_keeps o qs a.before (x.factors group a.before a.there) distinct own.count a.has) a.level_is)
  deed_well i group made gone woke level (deed.Measure qs m) fits =
      let a = fits.2.0 in
      subst (λ m. Well m (f.qubits + 0) level) (sym (ap (λ z. with_at group (becomes (measured qs m) z) c.groups) a.there))
      (changed_well group level a.before (measured qs m a.before) a.there
      (measured_factor qs m a.before (x.factors group a.before a.there) (sym (ap (λ z. is_outcome_in z qs m) a.there) ∙ fits.2.1)) a.level_is)
  deed_well i group made gone woke level (deed.New k) fits = same_well level fits.2.1
  deed_well i group made gone woke level deed.Act fits = same_well level fits.2.1
  deed_well i group made gone woke level (deed.Add v) fits = same_well level fits.2.1
  deed_well i group made gone woke level (deed.Pick o) fits = same_well level fits.2.1
  deed_well i group made gone woke level (deed.If b) fits = same_well level fits.2.1
  deed_well i group made gone woke level (deed.Com to chan) fits = same_well level fits.3

  -- an H is below the limit
  deed_below : (i group made gone woke level : ℕ) (o : Deed) → FitsStep l f c i o group made gone woke level → is_below_limit h d.state o ≡ true
  deed_below i group made gone woke level (deed.Gate op.H qs) fits =
      half_below (exponent_of h d.state) f.level
      (whole_exponent c h d.state x.stands.state x.factors ∙ ap (λ n. (n + 1) / 2) (ap (λ n. levels n c) x.stands.half.qubits ∙ sym x.level)) fits.2.1
  deed_below i group made gone woke level o fits = refl

  -- other groups for the same state
  kept_well : (m : Groups) → StateStands (record c { groups = m }) h d.state → AreFactors m → Well m f.qubits f.level
  kept_well m y factors =
      let one : level_sum d.state.qubits m ≡ level_sum d.state.qubits c.groups =
      one_level c (record c { groups = m }) h d.state x.stands.state y x.factors factors in
      (factors, x.level ∙ subst (λ n. level_sum n c.groups ≡ level_sum n m) x.stands.half.qubits (sym one))

  -- groups are well after a split
  split_well : (group rest : ℕ) (qs : List ℕ) → MaySplit c group qs rest → Well (split_in group qs rest (c.groups group) c.groups) f.qubits f.level
  split_well group rest [] fits = absurd (fits.some refl)
  split_well group rest (q ∷ qs) fits =
      kept_well (split_in group (q ∷ qs) rest (c.groups group) c.groups) (split_kept c h d.state group rest (q ∷ qs) x.stands.state fits)
      (rw fits.there (split_factors c h d.state x.stands.state x.stands.some x.factors group fits.before fits.there q qs fits.are_due rest fits.rest_is))

  -- what an event shows leads to what the cells stand for afterwards, below the limit
  pub record LeadsWell (e : Event) : Type 0 where
    pub leads : Leads l sound f c h d x.stands e
    pub below : keeps_limit h d (shown_by e) ≡ true
    pub well : Well (cells_after l f c e).groups (front_after f e).qubits (front_after f e).level

  -- where an entry fits, what comes after it is looked at
  one_passes : (k : ℕ) (e : Entry) (o : Option Config) (last : Config) → option_and_then (λ b. after b []) o ≡ Some last
      → some_passes (λ b. keeps_limit k b []) o ≡ true
  one_passes k e None last t = cc
  one_passes k e (Some b) last t = refl

  -- one entry that is below the limit
  step_below : (e : Entry) (last : Config) → after d (e ∷ []) ≡ Some last → is_below_limit h d.state e.deed ≡ true → keeps_limit h d (e ∷ []) ≡ true
  step_below e last leads below =
      and_from (is_below_limit h d.state e.deed) (some_passes (λ b. keeps_limit (h + h_count e.deed) b []) (next d e)) below
      (one_passes (h + h_count e.deed) e (next d e) last leads)

  -- each event that is enabled
  pub event_well : (e : Event) → FitsEvent l f c e → LeadsWell e
  event_well (event.Step e group made gone woke level) fits =
      let leads = event_stands l sound f c h d x.stands (event.Step e group made gone woke level) fits in
      record {
        leads = leads;
        below = step_below e leads.last leads.leads (deed_below e.part group made gone woke level e.deed fits);
        well = deed_well e.part group made gone woke level e.deed fits;
      }
  event_well (event.Join left right) fits =
      let joined = join_stands c h d.state x.stands.state left right fits.apart fits.first fits.second fits.first_there fits.second_there in
      let kept = kept_well _ joined (join_keeps c.groups left right fits.first fits.second fits.first_there fits.second_there x.factors) in
      record {
        leads = event_stands l sound f c h d x.stands (event.Join left right) fits;
        below = refl;
        well = rw (fits.first_there, fits.second_there) kept;
      }
  event_well (event.Split group qs rest) fits = record {
    leads = event_stands l sound f c h d x.stands (event.Split group qs rest) fits;
    below = refl;
    well = split_well group rest qs fits;
  }
  event_well (event.Park i chan) fits = record {
    leads = event_stands l sound f c h d x.stands (event.Park i chan) fits;
    below = refl;
    well = (x.factors, x.level);
  }
  event_well (event.Halt i) fits = record {
    leads = event_stands l sound f c h d x.stands (event.Halt i) fits;
    below = refl;
    well = (x.factors, x.level);
  }
