-- What is made is new: the front counts what was made, and an event keeps to it.
use Rattle.std.proofs.Common.{◌≡◌, ◌≢◌, ℕ, true, false, List, [], ◌∷◌, ◌==◌, ◌+◌, ◌≤◌, length, Option, Some, None, refl, sym, ap, arith, ne_eqb, ◌∙◌, ⊎_elim}
use Rattle.std.proofs.Common.{nat_lt}
use Rattle.std.proofs.lemmas.Bool.{cases_Bool, or_cases, eqb-true, false_from_ne_true, and_parts}
use Rattle.std.specs.List.{list_all}
use Rattle.cqp_book.specs.Keys.{has}
use Rattle.cqp_syntax.specs.declared.op.Op.{Op}
use Rattle.cqp_syntax.specs.Trees.{Process, nil, par, new, qbit, act, input, output, branch}
use Rattle.cqp_syntax.specs.Listing.{Listing}
use Rattle.cqp_trace.specs.declared.deed.Deed.{Deed}
use Rattle.cqp_trace.specs.declared.deed.Deed.TheVariants as deed
use Rattle.cqp_cells.specs.Moves.{Counts, moved}
use Rattle.cqp_parts.specs.declared.part.Part.{Part}
use Rattle.cqp_machine.specs.declared.front.Front.{Front}
use Rattle.cqp_machine.specs.declared.event.Event.{Event}
use Rattle.cqp_machine.specs.declared.event.Event.TheVariants as event
use Rattle.cqp_parts.specs.Parts.{process_of_part, parts_after, parts_after_input, more_than_one}
use Rattle.cqp_machine.specs.Factors.{gated, measured, due_after}
use Rattle.cqp_machine.specs.Cells.{Channel, Cells, with_at}
use Rattle.cqp_machine.specs.Fronts.{counts_of, front_after, qubits_by, chans_by as new_chans_by}
use Rattle.cqp_machine.specs.Enabled.{FitsEvent, FitsStep, Moves, Meets, ActsOn}
use Rattle.cqp_machine.specs.After.{cells_after, placed, from_part, parts_by, values_in, values_from, becomes, groups_by, chans_by, channel_of, met_at}
use Rattle.cqp_machine.specs.After.{waits_as, direction_of}
use Rattle.cqp_local.proofs.PlacedLemmas.{placed_out, range_bounds, with_at_out}
use Rattle.cqp_cells.proofs.Options.{none_is_some}
use Rattle.cqp_parts.proofs.Continuations.{provided_true}
use Rattle.cqp_fresh.specs.Partition.{Groups, IsPartition}
use Rattle.cqp_fresh.proofs.Partition.{one_more, own_new, one_changed, two_joined, own_joined}
use Rattle.cqp_fresh.proofs.Splits.{one_split, own_split}

-- no part and no channel has a number that the front hasn't reached, and the groups share out its qubits
pub record IsKept (f : Front) (c : Cells) (own : ℕ → ℕ) : Type 0 where
  pub new_parts : (j : ℕ) → f.parts ≤ j → c.parts j ≡ None
  pub new_chans : (j : ℕ) → f.chans ≤ j → c.chans j ≡ None
  pub groups : IsPartition f.qubits c.groups own

-- there are such owners
pub record Keeps (f : Front) (c : Cells) : Type 0 where
  pub own : ℕ → ℕ
  pub kept : IsKept f c own

-- a new qubit has the next number
pub next_qubit : (n : Counts) (p : Process) (q : ℕ) (r : Process) → moved n p (deed.Qbit q) ≡ Some r → q ≡ n.qubits
next_qubit n (qbit x p) q r h = eqb-true q n.qubits (provided_true _ _ r h)
next_qubit n nil q r h = absurd (none_is_some {x = r} h)
next_qubit n (par p p') q r h = absurd (none_is_some {x = r} h)
next_qubit n (new b p) q r h = absurd (none_is_some {x = r} h)
next_qubit n (act e p) q r h = absurd (none_is_some {x = r} h)
next_qubit n (input k bs p) q r h = absurd (none_is_some {x = r} h)
next_qubit n (output k es p) q r h = absurd (none_is_some {x = r} h)
next_qubit n (branch e e' p p') q r h = absurd (none_is_some {x = r} h)

-- so has a new channel
pub next_chan : (n : Counts) (p : Process) (k : ℕ) (r : Process) → moved n p (deed.New k) ≡ Some r → k ≡ n.chans
next_chan n (new b p) k r h = eqb-true k n.chans (provided_true _ _ r h)
next_chan n nil k r h = absurd (none_is_some {x = r} h)
next_chan n (par p p') k r h = absurd (none_is_some {x = r} h)
next_chan n (qbit x p) k r h = absurd (none_is_some {x = r} h)
next_chan n (act e p) k r h = absurd (none_is_some {x = r} h)
next_chan n (input k' bs p) k r h = absurd (none_is_some {x = r} h)
next_chan n (output k' es p) k r h = absurd (none_is_some {x = r} h)
next_chan n (branch e e' p p') k r h = absurd (none_is_some {x = r} h)

-- nothing more changes no number
plus_none : (n : ℕ) → n + 0 ≡ n
plus_none n = omega arith

-- where all of a list stand in another, each does
in_all : (xs qs : List ℕ) → list_all (λ q. has q xs) qs ≡ true → (q : ℕ) → has q qs ≡ true → has q xs ≡ true
in_all xs [] h q t = cc
in_all xs (x ∷ qs) h q t =
    let parts = and_parts (has x xs) (list_all (λ q. has q xs) qs) h in
    ⊎_elim
    (λ (u : (q == x) ≡ true). rw (eqb-true q x u) parts.0)
    (λ (u : has q qs ≡ true). in_all xs qs parts.1 q u)
    (or_cases (q == x) (has q qs) t)

-- what is due after a measurement stands in the group
pub due_measured : (xs qs : List ℕ) → list_all (λ q. has q xs) qs ≡ true → (q : ℕ) → has q (due_after xs qs) ≡ true → has q xs ≡ true
due_measured xs qs h q t = ⊎_elim
    (λ (u : nat_lt 1 (length xs) ≡ true). in_all xs qs h q (rw u at t))
    (λ (u : nat_lt 1 (length xs) ≡ false). let none : false ≡ true = rw u at t in cc)
    (cases_Bool (nat_lt 1 (length xs)))

-- at a number beyond those that are placed there is no part
beyond : (i n made j : ℕ) (ps : List Part) (m : ℕ → Option Part) → j ≢ i → n + more_than_one ps ≤ j → m j ≡ None → placed i n ps m j ≡ None
beyond i n made j ps m x h e =
    placed_out i n ps m j (ne_eqb j i x) (false_from_ne_true _ (λ t. let b = range_bounds j n (more_than_one ps) t in omega (arith, b.1))) ∙ e

module _ (l : Listing) (f : Front) (c : Cells) (own : ℕ → ℕ) (k : IsKept f c own) where
  -- a part that is there has a lesser number
  part_made : (i : ℕ) (p : Part) → c.parts i ≡ Some p → (j : ℕ) → f.parts ≤ j → j ≢ i
  part_made i p h j up e = none_is_some {x = p} (sym (k.new_parts j up) ∙ (ap c.parts e ∙ h))

  -- so has a channel
  chan_made : (i : ℕ) (x : Channel) → c.chans i ≡ Some x → (j : ℕ) → f.chans ≤ j → j ≢ i
  chan_made i x h j up e = none_is_some {x = x} (sym (k.new_chans j up) ∙ (ap c.chans e ∙ h))

  -- a deed of one's own leaves no part beyond those that were made
  own_new_parts : (i made gone : ℕ) (d : Deed) (m : Moves l f c (record { part = i; deed = d }) made gone) → (j : ℕ) → f.parts + made ≤ j
      → placed i f.parts (from_part (λ p. parts_after l p d) (c.parts i)) c.parts j ≡ None
  own_new_parts i made gone d m j up =
      rw m.there
      (beyond i f.parts made j (parts_after l m.part d) c.parts (part_made i m.part m.there j (omega arith)) (omega (arith, m.makes))
      (k.new_parts j (omega arith)))

  -- a communication leaves no part beyond those that were made
  two_new_parts : (i to chan made gone : ℕ) (m : Meets l c i to chan made gone) → (j : ℕ) → f.parts + made ≤ j
      → parts_by l f c i (deed.Com to chan) j ≡ None
  two_new_parts i to chan made gone m j up =
      let vs : values_from l chan (c.parts i) ≡ m.sending.values = ap (values_from l chan) m.sender_there ∙ ap values_in m.sends in
      let out : placed to (f.parts + more_than_one (parts_after l m.sender (deed.Com to chan))) (parts_after_input l m.receiver m.sending.values)
      (placed i f.parts (parts_after l m.sender (deed.Com to chan)) c.parts) j ≡ None =
      beyond to (f.parts + more_than_one (parts_after l m.sender (deed.Com to chan))) made j (parts_after_input l m.receiver m.sending.values)
      (placed i f.parts (parts_after l m.sender (deed.Com to chan)) c.parts)
      (part_made to m.receiver m.receiver_there j (omega arith)) (omega (arith, m.makes))
      (beyond i f.parts made j (parts_after l m.sender (deed.Com to chan)) c.parts (part_made i m.sender m.sender_there j (omega arith))
      (omega (arith, m.makes)) (k.new_parts j (omega arith))) in
      rw (vs, m.sender_there, m.receiver_there) out

  -- a group that a gate or a measurement acts on keeps its qubits
  gate_kept : (o : Op) (qs : List ℕ) (group level : ℕ) (a : ActsOn f c group qs (gated o qs) level)
      → IsPartition f.qubits (with_at group (becomes (gated o qs) (c.groups group)) c.groups) own
  gate_kept o qs group level a =
      rw a.there
      (one_changed f.qubits c.groups own k.groups group a.before (gated o qs a.before) a.there refl
      (λ q h. (k.groups.each group a.before a.there).due_in q h))

  -- so does one that is measured
  measure_kept : (m : ℕ) (qs : List ℕ) (group level : ℕ) (a : ActsOn f c group qs (measured qs m) level)
      → IsPartition f.qubits (with_at group (becomes (measured qs m) (c.groups group)) c.groups) own
  measure_kept m qs group level a =
      rw a.there
      (one_changed f.qubits c.groups own k.groups group a.before (measured qs m a.before) a.there refl (λ q h. due_measured a.before.qubits qs a.has q h))

  -- the groups share out so many qubits
  abbrev NewGroups : Groups → ℕ → Type 0
  NewGroups m n = (own' : ℕ → ℕ) × IsPartition n m own'

  -- the groups are those of before
  same_groups : (n : ℕ) → n ≡ f.qubits → NewGroups c.groups n
  same_groups n e = (own, rw e k.groups)

  -- after a step the groups share out the qubits that were made
  step_groups : (i group made gone woke level : ℕ) (d : Deed) → FitsStep l f c i d group made gone woke level
      → NewGroups (groups_by c d group) (f.qubits + qubits_by d)
  step_groups i group made gone woke level (deed.Qbit q) h =
      let next : q ≡ f.qubits = next_qubit (counts_of f) (process_of_part l h.0.part) q h.0.process h.0.moves in
      (own_new f.qubits c.groups own k.groups, rw next (one_more f.qubits c.groups own k.groups))
  step_groups i group made gone woke level (deed.Gate o qs) h = (own, rw (plus_none f.qubits) (gate_kept o qs group level h.2.0))
  step_groups i group made gone woke level (deed.Measure qs m) h = (own, rw (plus_none f.qubits) (measure_kept m qs group level h.2.0))
  step_groups i group made gone woke level (deed.New x) h = same_groups (f.qubits + 0) (plus_none f.qubits)
  step_groups i group made gone woke level deed.Act h = same_groups (f.qubits + 0) (plus_none f.qubits)
  step_groups i group made gone woke level (deed.Add v) h = same_groups (f.qubits + 0) (plus_none f.qubits)
  step_groups i group made gone woke level (deed.Pick o) h = same_groups (f.qubits + 0) (plus_none f.qubits)
  step_groups i group made gone woke level (deed.If b) h = same_groups (f.qubits + 0) (plus_none f.qubits)
  step_groups i group made gone woke level (deed.Com to chan) h = same_groups (f.qubits + 0) (plus_none f.qubits)

  -- a step leaves no part beyond those that were made
  step_new_parts : (i group made gone woke level : ℕ) (d : Deed) → FitsStep l f c i d group made gone woke level → (j : ℕ) → f.parts + made ≤ j
      → parts_by l f c i d j ≡ None
  step_new_parts i group made gone woke level (deed.Qbit q) h j up = own_new_parts i made gone (deed.Qbit q) h.0 j up
  step_new_parts i group made gone woke level (deed.New x) h j up = own_new_parts i made gone (deed.New x) h.0 j up
  step_new_parts i group made gone woke level deed.Act h j up = own_new_parts i made gone deed.Act h.0 j up
  step_new_parts i group made gone woke level (deed.Add v) h j up = own_new_parts i made gone (deed.Add v) h.0 j up
  step_new_parts i group made gone woke level (deed.Pick o) h j up = own_new_parts i made gone (deed.Pick o) h.0 j up
  step_new_parts i group made gone woke level (deed.Gate o qs) h j up = own_new_parts i made gone (deed.Gate o qs) h.0 j up
  step_new_parts i group made gone woke level (deed.Measure qs m) h j up = own_new_parts i made gone (deed.Measure qs m) h.0 j up
  step_new_parts i group made gone woke level (deed.If b) h j up = own_new_parts i made gone (deed.If b) h.0 j up
  step_new_parts i group made gone woke level (deed.Com to chan) h j up = two_new_parts i to chan made gone h.0 j up

  -- it leaves no channel beyond those that were made
  step_new_chans : (i group made gone woke level : ℕ) (d : Deed) → FitsStep l f c i d group made gone woke level → (j : ℕ) → f.chans + new_chans_by d ≤ j
      → chans_by c i d j ≡ None
  step_new_chans i group made gone woke level (deed.New x) h j up =
      let next : x ≡ f.chans = next_chan (counts_of f) (process_of_part l h.0.part) x h.0.process h.0.moves in
      with_at_out x j (Some (channel_of false [])) c.chans (ne_eqb j x (λ e. omega arith)) ∙ k.new_chans j (omega arith)
  step_new_chans i group made gone woke level (deed.Com to chan) h j up =
      with_at_out chan j (met_at i to (c.chans chan)) c.chans (ne_eqb j chan (chan_made chan h.0.channel h.0.channel_there j (omega arith)))
      ∙ k.new_chans j (omega arith)
  step_new_chans i group made gone woke level (deed.Qbit q) h j up = k.new_chans j (omega arith)
  step_new_chans i group made gone woke level deed.Act h j up = k.new_chans j (omega arith)
  step_new_chans i group made gone woke level (deed.Add v) h j up = k.new_chans j (omega arith)
  step_new_chans i group made gone woke level (deed.Pick o) h j up = k.new_chans j (omega arith)
  step_new_chans i group made gone woke level (deed.Gate o qs) h j up = k.new_chans j (omega arith)
  step_new_chans i group made gone woke level (deed.Measure qs m) h j up = k.new_chans j (omega arith)
  step_new_chans i group made gone woke level (deed.If b) h j up = k.new_chans j (omega arith)

  -- an event keeps to what was made
  kept_after : (e : Event) → FitsEvent l f c e → Keeps (front_after f e) (cells_after l f c e)
  kept_after (event.Step e group made gone woke level) h = let groups = step_groups e.part group made gone woke level e.deed h in record {
    own = groups.0;
    kept = record {
      new_parts = step_new_parts e.part group made gone woke level e.deed h;
      new_chans = step_new_chans e.part group made gone woke level e.deed h;
      groups = groups.1;
    };
  }
  kept_after (event.Join left right) h = record {
    own = own_joined f.qubits c.groups own k.groups left right h.first h.second h.first_there h.second_there;
    kept = record {
      new_parts = k.new_parts;
      new_chans = k.new_chans;
      groups = rw (h.first_there, h.second_there)
          (two_joined f.qubits c.groups own k.groups left right h.first h.second h.first_there h.second_there);
    };
  }
  kept_after (event.Split group qs rest) h = record {
    own = own_split f.qubits c.groups own k.groups group h.before h.there qs h.are_due rest h.rest_is;
    kept = record {
      new_parts = k.new_parts;
      new_chans = k.new_chans;
      groups = rw h.there (one_split f.qubits c.groups own k.groups group h.before h.there qs h.are_due rest h.rest_is);
    };
  }
  kept_after (event.Park i chan) h = record {
    own = own;
    kept = record {
      new_parts = k.new_parts;
      new_chans = λ j up.
          with_at_out chan j (waits_as i (direction_of l chan (c.parts i)) (c.chans chan)) c.chans
          (ne_eqb j chan (chan_made chan h.channel h.channel_there j up))
          ∙ k.new_chans j up;
      groups = k.groups;
    };
  }
  kept_after (event.Halt i) h = record {
    own = own;
    kept = record { new_parts = k.new_parts; new_chans = k.new_chans; groups = k.groups };
  }

-- an event keeps to what was made, whoever the owners are
pub keeps_after : (l : Listing) (f : Front) (c : Cells) (e : Event) → FitsEvent l f c e → Keeps f c → Keeps (front_after f e) (cells_after l f c e)
keeps_after l f c e h k = kept_after l f c k.own k.kept e h
