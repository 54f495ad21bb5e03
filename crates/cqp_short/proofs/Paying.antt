-- What each event takes from what is left to pay.
use Rattle.std.proofs.Common.{◌≡◌, ◌≢◌, ℕ, false, List, [], ◌∷◌, ◌+◌, ◌*◌, ◌≤◌, ◌<◌, Option, Some, None, refl, sym, ap, arith, ◌∙◌, ⊎_elim}
use Rattle.std.proofs.lemmas.Bool.{cases_lt}
use Rattle.cqp_syntax.specs.declared.op.Op.{Op}
use Rattle.cqp_syntax.specs.Listing.{Listing, IsProc}
use Rattle.cqp_trace.specs.declared.deed.Deed.{Deed}
use Rattle.cqp_trace.specs.declared.deed.Deed.TheVariants as deed
use Rattle.cqp_machine.specs.declared.front.Front.{Front}
use Rattle.cqp_machine.specs.declared.front.Stop.TheVariants as stop
use Rattle.cqp_machine.specs.declared.event.Event.{Event}
use Rattle.cqp_machine.specs.declared.event.Event.TheVariants as event
use Rattle.cqp_parts.specs.Parts.{process_of_part}
use Rattle.cqp_machine.specs.Factors.{Held, new_group, gated, measured, joined}
use Rattle.cqp_machine.specs.Cells.{Cells, with_at}
use Rattle.cqp_machine.specs.Fronts.{front_after, counts_of, qubits_by}
use Rattle.cqp_machine.specs.Enabled.{FitsEvent, FitsStep, MayJoin, MaySplit}
use Rattle.cqp_machine.specs.After.{cells_after, becomes, groups_by, groups_joined, lesser, split_in}
use Rattle.cqp_machine.specs.Sums.{sum_below}
use Rattle.cqp_syntax.specs.Measures.{size}
use Rattle.cqp_short.specs.Spent.{one_if_there, one_if_some, one_if_due, one_if_stopped, groups_there, groups_due, left_to_pay}
use Rattle.cqp_waiting.specs.Waiting.{waiters}
use Rattle.cqp_cells.proofs.Options.{none_is_some}
use Rattle.cqp_fresh.specs.Partition.{IsPartition}
use Rattle.cqp_fresh.proofs.Fresh.{next_qubit}
use Rattle.cqp_short.proofs.SizeFalls.{size_by, size_falls}
use Rattle.cqp_steps.proofs.Falls.{step_falls}
use Rattle.cqp_short.proofs.GroupCounts.{count_changed, count_new, count_kept, count_joined, few_groups, some_group, due_split}
use Rattle.cqp_waiting.proofs.WaitingSteps.{living, IsWithin, Waiting, own_living}
use Rattle.cqp_waiting.proofs.WaitingCom.{com_living}
use Rattle.cqp_waiting.proofs.WaitingPark.{park_ready}
use Rattle.cqp_waiting.proofs.WaitingRun.{event_waits, gone_within}

-- what groups there are, and those of which qubits are due, after a deed: each at most so many more
abbrev pub groups_more : Deed → ℕ
groups_more (deed.Qbit q) = 1
groups_more d = 0

-- of which qubits are due
abbrev pub dues_more : Deed → ℕ
dues_more (deed.Measure qs m) = 1
dues_more d = 0

-- a list counts at most one
one_at_most : (xs : List ℕ) → one_if_some xs ≤ 1
one_at_most [] = omega arith
one_at_most (x ∷ xs) = omega arith

-- so does a group
due_at_most : (x : Option Held) → one_if_due x ≤ 1
due_at_most None = omega arith
due_at_most (Some g) = one_at_most g.due

-- a gate and a measurement leave a group a group, and a gate leaves what is due
gate_there : (o : Op) (qs : List ℕ) (x : Option Held) → one_if_there (becomes (gated o qs) x) ≡ one_if_there x
gate_there o qs None = refl
gate_there o qs (Some g) = refl

-- what is due stays at a gate
gate_due : (o : Op) (qs : List ℕ) (x : Option Held) → one_if_due (becomes (gated o qs) x) ≡ one_if_due x
gate_due o qs None = refl
gate_due o qs (Some g) = refl

-- a measured group is one
measure_there : (qs : List ℕ) (m : ℕ) (x : Option Held) → one_if_there (becomes (measured qs m) x) ≡ one_if_there x
measure_there qs m None = refl
measure_there qs m (Some g) = refl

-- some qubits are due
some_due : (G : Held) (qs : List ℕ) → G.due ≡ qs → qs ≢ [] → one_if_some G.due ≡ 1
some_due G [] e h = absurd (h refl)
some_due G (q ∷ qs) e h = ap one_if_some e

module _ (l : Listing) (sound : IsProc l) (f : Front) (c : Cells) (w : IsWithin f c) (h : Waiting l f c) (own : ℕ → ℕ)
    (p : IsPartition f.qubits c.groups own) where
  -- a group that is there has a number below the count of qubits
  group_below : (g : ℕ) (G : Held) → c.groups g ≡ Some G → g < f.qubits
  group_below g G t = ⊎_elim (λ (z : g < f.qubits). z) (λ (z : f.qubits ≤ g). absurd (none_is_some {x = G} (sym (p.fresh g z) ∙ t))) (cases_lt g f.qubits)

  -- groups behind a step
  abbrev after_step : ℕ → ℕ → ℕ → ℕ → ℕ → ℕ → Deed → Event
  after_step i group made gone woke level d = event.Step (record { part = i; deed = d }) group made gone woke level

  -- so many groups, and so many of which qubits are due, at most
  abbrev Grouped : ℕ → Deed → Type 0
  Grouped group d =
      (sum_below (f.qubits + qubits_by d) (λ g. one_if_there (groups_by c d group g)) ≤ groups_there f.qubits c + groups_more d)
      × (sum_below (f.qubits + qubits_by d) (λ g. one_if_due (groups_by c d group g)) ≤ groups_due f.qubits c + dues_more d)

  -- the same sum for an equal count
  same_count : (n : ℕ) (g : ℕ → ℕ) → n ≡ f.qubits → sum_below n g ≤ sum_below f.qubits g + 0
  same_count n g e = let same : sum_below n g ≡ sum_below f.qubits g = ap (λ k. sum_below k g) e in omega arith

  -- nothing more
  no_more : (n : ℕ) → n + 0 ≡ n
  no_more n = omega arith

  -- a deed that changes no group
  unchanged : (sum_below (f.qubits + 0) (λ g. one_if_there (c.groups g)) ≤ groups_there f.qubits c + 0)
      × (sum_below (f.qubits + 0) (λ g. one_if_due (c.groups g)) ≤ groups_due f.qubits c + 0)
  unchanged = (
    same_count (f.qubits + 0) (λ g. one_if_there (c.groups g)) (no_more f.qubits),
    same_count (f.qubits + 0) (λ g. one_if_due (c.groups g))
        (no_more f.qubits),
  )

  -- the groups with a new one
  abbrev with_new : ℕ → ℕ → Option Held
  with_new q = with_at q (Some (new_group q)) c.groups

  -- groups are counted after each deed
  groups_after : (i group made gone woke level : ℕ) (d : Deed) → FitsStep l f c i d group made gone woke level → Grouped group d
  groups_after i group made gone woke level (deed.Qbit q) x =
      let number : q ≡ f.qubits = next_qubit (counts_of f) (process_of_part l x.0.part) q x.0.process x.0.moves in
      let one = count_new one_if_there refl f.qubits (Some (new_group f.qubits)) c.groups in
      let two = count_new one_if_due refl f.qubits (Some (new_group f.qubits)) c.groups in
      let same : sum_below (f.qubits + 1) (λ g. one_if_there (with_new q g)) ≡ sum_below (f.qubits + 1) (λ g. one_if_there (with_new f.qubits g)) =
      ap (λ k. sum_below (f.qubits + 1) (λ g. one_if_there (with_new k g))) number in
      let same_too : sum_below (f.qubits + 1) (λ g. one_if_due (with_new q g)) ≡ sum_below (f.qubits + 1) (λ g. one_if_due (with_new f.qubits g)) =
      ap (λ k. sum_below (f.qubits + 1) (λ g. one_if_due (with_new k g))) number in
      (omega arith, omega arith)
  groups_after i group made gone woke level (deed.Gate o qs) x =
      let one = count_kept one_if_there refl f.qubits group (gated o qs) c.groups (gate_there o qs) in
      let two = count_kept one_if_due refl f.qubits group (gated o qs) c.groups (gate_due o qs) in
      let first = same_count (f.qubits + 0) (λ g. one_if_there (with_at group (becomes (gated o qs) (c.groups group)) c.groups g)) (no_more f.qubits) in
      let second = same_count (f.qubits + 0) (λ g. one_if_due (with_at group (becomes (gated o qs) (c.groups group)) c.groups g)) (no_more f.qubits) in
      (omega arith, omega arith)
  groups_after i group made gone woke level (deed.Measure qs m) x =
      let a = x.2.0 in
      let one = count_kept one_if_there refl f.qubits group (measured qs m) c.groups (measure_there qs m) in
      let two = count_changed one_if_due refl f.qubits group (becomes (measured qs m) (c.groups group)) c.groups (group_below group a.before a.there) in
      let few = due_at_most (becomes (measured qs m) (c.groups group)) in
      let first = same_count (f.qubits + 0) (λ g. one_if_there (with_at group (becomes (measured qs m) (c.groups group)) c.groups g)) (no_more f.qubits) in
      let second = same_count (f.qubits + 0) (λ g. one_if_due (with_at group (becomes (measured qs m) (c.groups group)) c.groups g)) (no_more f.qubits) in
      (omega arith, omega arith)
  groups_after i group made gone woke level (deed.New k) x = unchanged
  groups_after i group made gone woke level deed.Act x = unchanged
  groups_after i group made gone woke level (deed.Add v) x = unchanged
  groups_after i group made gone woke level (deed.Pick o) x = unchanged
  groups_after i group made gone woke level (deed.If b) x = unchanged
  groups_after i group made gone woke level (deed.Com to k) x = unchanged

  -- who lives, behind a step
  step_living : (i group made gone woke level : ℕ) (d : Deed) → FitsStep l f c i d group made gone woke level
      → living l (f.parts + made) (cells_after l f c (after_step i group made gone woke level d)).parts + gone ≡ living l f.parts c.parts + made
  step_living i group made gone woke level (deed.Qbit q) x = own_living l f c w h i made gone (deed.Qbit q) x.0
  step_living i group made gone woke level (deed.New k) x = own_living l f c w h i made gone (deed.New k) x.0
  step_living i group made gone woke level deed.Act x = own_living l f c w h i made gone deed.Act x.0
  step_living i group made gone woke level (deed.Add v) x = own_living l f c w h i made gone (deed.Add v) x.0
  step_living i group made gone woke level (deed.Pick o) x = own_living l f c w h i made gone (deed.Pick o) x.0
  step_living i group made gone woke level (deed.Gate o qs) x = own_living l f c w h i made gone (deed.Gate o qs) x.0
  step_living i group made gone woke level (deed.Measure qs m) x = own_living l f c w h i made gone (deed.Measure qs m) x.0
  step_living i group made gone woke level (deed.If b) x = own_living l f c w h i made gone (deed.If b) x.0
  step_living i group made gone woke level (deed.Com to k) x = com_living l f c w h i to k made gone x.0

  -- a step, with whom it wakes, is paid by the nodes that it reduces
  paid_by : (i group made gone woke level : ℕ) (d : Deed) → FitsStep l f c i d group made gone woke level
      → 1 + groups_more d + 12 * dues_more d + woke ≤ 13 * size_by d
  paid_by i group made gone woke level (deed.Qbit q) x = let idle = x.1 in omega arith
  paid_by i group made gone woke level (deed.New k) x = let idle = x.1 in omega arith
  paid_by i group made gone woke level deed.Act x = let idle = x.1 in omega arith
  paid_by i group made gone woke level (deed.Add v) x = let idle = x.1 in omega arith
  paid_by i group made gone woke level (deed.Pick o) x = let idle = x.1 in omega arith
  paid_by i group made gone woke level (deed.Gate o qs) x = let idle = x.1 in omega arith
  paid_by i group made gone woke level (deed.Measure qs m) x = let idle = x.1 in omega arith
  paid_by i group made gone woke level (deed.If b) x = let idle = x.1 in omega arith
  paid_by i group made gone woke level (deed.Com to k) x = let woken = x.1 in omega arith

  -- what an event leaves to pay, with the event, is at most what was left
  abbrev pub Pays : Event → Type 0
  Pays e =
      1 + left_to_pay l (front_after f e) (cells_after l f c e) + (waiters f.parts f.chans c + one_if_stopped f.stopped)
      ≤ left_to_pay l f c + (waiters (front_after f e).parts (front_after f e).chans (cells_after l f c e) + one_if_stopped (front_after f e).stopped)

  -- a step pays
  step_pays : (i group made gone woke level : ℕ) (d : Deed) → FitsStep l f c i d group made gone woke level → Pays (after_step i group made gone woke level d)
  step_pays i group made gone woke level d x =
      let size = step_falls l sound size false size_by 1 size_falls f c w.new_parts i group made gone woke level d x in
      let groups = groups_after i group made gone woke level d x in
      let there = groups.0 in
      let due = groups.1 in
      let paid = paid_by i group made gone woke level d x in
      let live = step_living i group made gone woke level d x in
      let few = gone_within l f c w h i group made gone woke level d x in
      let few_gone = few.0 in
      let was = h.count in
      let now = (event_waits l f c w h (after_step i group made gone woke level d) x).count in
      omega arith

  -- the groups with one in the place of two
  abbrev one_of : ℕ → ℕ → Held → ℕ → Option Held
  one_of left right g = with_at (lesser left right) (Some g) (with_at left None (with_at right None c.groups))

  -- a join pays by a group
  join_pays : (left right : ℕ) → MayJoin c left right → Pays (event.Join left right)
  join_pays left right x =
      let low = group_below left x.first x.first_there in
      let high = group_below right x.second x.second_there in
      let there =
      count_joined one_if_there refl f.qubits left right c.groups x.first x.second (joined x.first x.second) x.apart low high x.first_there x.second_there in
      let due =
      count_joined one_if_due refl f.qubits left right c.groups x.first x.second (joined x.first x.second) x.apart low high x.first_there x.second_there in
      let free : one_if_due (Some x.first) ≡ 0 = ap one_if_some x.first_due in
      let free_too : one_if_due (Some x.second) ≡ 0 = ap one_if_some x.second_due in
      let product : groups_joined c left right ≡ one_of left right (joined x.first x.second) = rw (x.first_there, x.second_there) refl in
      let now : groups_there f.qubits (cells_after l f c (event.Join left right)) ≡ sum_below f.qubits (λ g. one_if_there (one_of left right
      (joined x.first x.second) g)) =
      ap (λ m. sum_below f.qubits (λ g. one_if_there (m g))) product in
      let now_due : groups_due f.qubits (cells_after l f c (event.Join left right)) ≡ sum_below f.qubits (λ g. one_if_due (one_of left right
      (joined x.first x.second) g)) =
      ap (λ m. sum_below f.qubits (λ g. one_if_due (m g))) product in
      omega arith

  -- a split pays by a group of which qubits are due
  split_pays : (group rest : ℕ) (qs : List ℕ) → f.qubits ≤ 12 → MaySplit c group qs rest → Pays (event.Split group qs rest)
  split_pays group rest qs few x =
      let low = group_below group x.before x.there in
      let less = due_split f.qubits group rest qs x.before c.groups low x.there (some_due x.before qs x.are_due x.some) in
      let one = some_group f.qubits group x.before c.groups low x.there in
      let all = few_groups f.qubits (cells_after l f c (event.Split group qs rest)).groups in
      let split : (cells_after l f c (event.Split group qs rest)).groups ≡ split_in group qs rest (Some x.before) c.groups =
      ap (λ z. split_in group qs rest z c.groups) x.there in
      let now : groups_due f.qubits (cells_after l f c (event.Split group qs rest)) ≡ sum_below f.qubits (λ g. one_if_due (split_in group qs rest
      (Some x.before) c.groups g)) =
      ap (λ m. sum_below f.qubits (λ g. one_if_due (m g))) split in
      omega arith

  -- each event pays
  pub event_pays : (e : Event) → f.stopped ≡ stop.No → f.qubits ≤ 12 → FitsEvent l f c e → Pays e
  event_pays (event.Step e group made gone woke level) going few x = step_pays e.part group made gone woke level e.deed x
  event_pays (event.Join left right) going few x = join_pays left right x
  event_pays (event.Split group qs rest) going few x = split_pays group rest qs few x
  event_pays (event.Park i chan) going few x =
      let some = park_ready l f c w h i chan x in
      let was = h.count in
      let now = (event_waits l f c w h (event.Park i chan) x).count in
      omega arith
  event_pays (event.Halt i) going few x = let none : one_if_stopped f.stopped ≡ 0 = ap one_if_stopped going in omega arith
