-- Each event keeps what the cells stand for; so does a run, from the opening on.
use Rattle.cqp_splits.proofs.SplitStands.{split_stands}
use Rattle.std.proofs.Common.{true, ◌==◌, ◌||◌, not, nat_lt, ◌≢◌, ◌*◌, ◌^◌, length, map, pow-add, ◌≡◌, ℕ, List, [], ◌∷◌, ◌+◌, Some, refl, sym, ap, subst, arith}
use Rattle.std.proofs.Common.{◌∙◌, ⊎_elim}
use Rattle.std.proofs.lemmas.Bool.{and_parts, not-true}
use Rattle.std.specs.List.{list_any, list_all, range_with_len}
use Rattle.cqp_book.specs.Keys.{has}
use Rattle.cqp_syntax.specs.Lists.{is_distinct}
use Rattle.cqp_machine.specs.Enabled.{Moves, is_outcome_in, FitsEvent, FitsStep, MaySplit}
use Rattle.cqp_places.specs.Places.{IsDistinct}
use Rattle.cqp_steps.proofs.RowLemmas.{measured_operands, HasOperands, operands_of, HasOutcome}
use Rattle.cqp_ring.specs.Root.{norm_sum, zero_root}
use Rattle.cqp_vector.specs.State.{spread_at, State}
use Rattle.cqp_vector.specs.Gate.{gate_of}
use Rattle.cqp_vector.proofs.GrownNorm.{grown_norm}
use Rattle.cqp_cells.specs.Redex.{redex_of}
use Rattle.cqp_cells.proofs.GateNorms.{gate_norm}
use Rattle.cqp_norms.proofs.OutcomeHalf.{outcome_of_whole, whole_some}
use Rattle.cqp_norms.proofs.Probability.{power_some}
use Rattle.cqp_ring.specs.Weight.{power_root}
use Rattle.cqp_ring.proofs.OrderProducts.{zero_product}
use Rattle.cqp_syntax.specs.declared.op.Op.{Op}
use Rattle.cqp_syntax.specs.declared.op.Op.TheVariants as op
use Rattle.cqp_syntax.specs.Listing.{Listing, IsProc}
use Rattle.cqp_trace.specs.declared.deed.Deed.{Deed}
use Rattle.cqp_trace.specs.declared.deed.Deed.TheVariants as deed
use Rattle.cqp_trace.specs.declared.entry.Entry.{Entry}
use Rattle.cqp_cells.specs.Config.{Config}
use Rattle.cqp_cells.specs.Path.{after, h_count, h_total}
use Rattle.cqp_cells.specs.Step.{next, with_deed}
use Rattle.cqp_machine.specs.declared.front.Front.{Front}
use Rattle.cqp_machine.specs.declared.event.Event.{Event}
use Rattle.cqp_machine.specs.declared.event.Event.TheVariants as event
use Rattle.cqp_parts.specs.Parts.{process_of_part}
use Rattle.cqp_vector.specs.Group.{factors_left_out}
use Rattle.cqp_machine.specs.Factors.{gated, measured}
use Rattle.cqp_machine.specs.Cells.{Cells, with_at}
use Rattle.cqp_machine.specs.Fronts.{front_after, counts_of}
use Rattle.cqp_machine.specs.After.{cells_after, groups_by, split_in, becomes}
use Rattle.cqp_machine.specs.Shown.{shown_by}
use Rattle.cqp_fresh.proofs.Fresh.{next_qubit}
use Rattle.cqp_steps.proofs.StepHalf.{HalfStands, step_half}
use Rattle.cqp_norms.specs.StateStands.{StateStands}
use Rattle.cqp_norms.proofs.StateHalf.{gate_stands, measure_stands}
use Rattle.cqp_norms.proofs.StateMore.{qubit_stands, join_stands}

-- the cells stand for a configuration after so many H
pub record Stands (l : Listing) (f : Front) (c : Cells) (h : ℕ) (d : Config) : Type 0 where
  pub half : HalfStands l f c.parts d
  pub state : StateStands c h d.state
  pub some : norm_sum d.state.nums ≢ zero_root

-- a split keeps the state
pub split_kept : (c : Cells) (h : ℕ) (s : State) (group rest : ℕ) (qs : List ℕ) → StateStands c h s → MaySplit c group qs rest
    → StateStands (record c { groups = split_in group qs rest (c.groups group) c.groups }) h s
split_kept c h s group rest [] x fits = absurd (fits.some refl)
split_kept c h s group rest (q ∷ qs) x fits =
    rw fits.there (split_stands c h s x group fits.before fits.there q qs fits.are_due rest fits.rest_is)

-- a gate leaves no state without a numerator
gate_some : (o : Op) (qs : List ℕ) (s : State) → length s.nums ≡ 2 ^ s.qubits → HasOperands s.qubits o qs → norm_sum s.nums ≢ zero_root
    → norm_sum (gate_of o qs s).nums ≢ zero_root
gate_some o qs s whole operands some e = ⊎_elim
    (λ (t : power_root (h_count (deed.Gate o qs)) ≡ zero_root). power_some (h_count (deed.Gate o qs)) t)
    (λ (t : norm_sum s.nums ≡ zero_root). some t)
    (zero_product (power_root (h_count (deed.Gate o qs))) (norm_sum s.nums) (sym (gate_norm o qs s whole operands.count operands.operands) ∙ e))

-- the same groups under other parts and channels
regrouped : (c e : Cells) (h k : ℕ) (s t : State) → e.groups ≡ c.groups → h ≡ k → s ≡ t → StateStands c h s → StateStands e k t
regrouped c e h k s t same more state x =
    let y : StateStands (record e { groups = c.groups }) h s = record {
      own = x.own;
      partition = x.partition;
      good = x.good;
      covers = x.covers;
      whole = x.whole;
      within = x.within;
      reads = x.reads;
    } in
    let z : StateStands e h s = subst (λ g. StateStands (record e { groups = g }) h s) (sym same) y in
    subst (λ u. StateStands e k u) state (subst (λ n. StateStands e n s) more z)

-- nothing more changes no number
plus_none : (n : ℕ) → n ≡ n + 0
plus_none n = omega arith

-- H counts
h_of_gate : (o : Op) (qs : List ℕ) (n : ℕ) → n + factors_left_out o ≡ n + h_count (deed.Gate o qs)
h_of_gate op.I qs n = refl
h_of_gate op.X qs n = refl
h_of_gate op.Y qs n = refl
h_of_gate op.Z qs n = refl
h_of_gate op.H qs n = refl
h_of_gate op.S qs n = refl
h_of_gate op.T qs n = refl
h_of_gate op.CNot qs n = refl
h_of_gate op.CZ qs n = refl
h_of_gate op.Swap qs n = refl
h_of_gate op.Toffoli qs n = refl

-- distinct by the test
pub any_has : (x : ℕ) (xs : List ℕ) → list_any (λ y. x == y) xs ≡ has x xs
any_has x [] = refl
any_has x (y ∷ xs) = ap (λ b. (x == y) || b) (any_has x xs)

-- numbers that pass the test of distinctness are distinct
pub distinct_from : (qs : List ℕ) → is_distinct qs ≡ true → IsDistinct qs
distinct_from [] h = tt
distinct_from (q ∷ qs) h =
    let parts = and_parts (not (list_any (λ y. q == y) qs)) (is_distinct qs) h in
    (sym (any_has q qs) ∙ not-true (list_any (λ y. q == y) qs) parts.0, distinct_from qs parts.1)

-- twice as many places are those of one qubit more
twice : (n : ℕ) → 2 * 2 ^ n ≡ 2 ^ (n + 1)
twice n = let same : 2 * 2 ^ n ≡ 2 ^ n * 2 ^ 1 = omega arith in same ∙ sym (pow-add 2 n 1)

module _ (l : Listing) (sound : IsProc l) where
  module _ (f : Front) (c : Cells) (h : ℕ) (d : Config) (x : Stands l f c h d) where
    -- a measurement has distinct qubits
    look_distinct : (i made gone m : ℕ) (qs : List ℕ) → Moves l f c (record { part = i; deed = deed.Measure qs m }) made gone → IsDistinct qs
    look_distinct i made gone m qs x =
        let all = measured_operands (counts_of f) (process_of_part l x.part) (redex_of (process_of_part l x.part)) qs m x.process x.moves in
        distinct_from qs (and_parts (is_distinct qs) (list_all (λ q. nat_lt q f.qubits) qs) all).0

    -- the groups after a deed
    deed_state : (i group made gone woke level : ℕ) (o : Deed) → FitsStep l f c i o group made gone woke level → (e : Cells)
        → e.groups ≡ groups_by c o group → StateStands e (h + h_count o) (with_deed o d).state
    deed_state i group made gone woke level (deed.Qbit q) fits e same =
        let number : q ≡ f.qubits = next_qubit (counts_of f) (process_of_part l fits.0.part) q fits.0.process fits.0.moves in
        let own : q ≡ d.state.qubits = number ∙ sym x.half.qubits in
        regrouped _ e h (h + 0) _ _ (same ∙ ap (λ n. groups_by c (deed.Qbit n) group) own) (plus_none h) refl (qubit_stands c h d.state x.state)
    deed_state i group made gone woke level (deed.Gate o qs) fits e same =
        let a = fits.2.0 in
        regrouped _ e _ _ _ _ (same ∙ ap (λ z. with_at group (becomes (gated o qs) z) c.groups) a.there) (h_of_gate o qs h) refl
        (gate_stands c h d.state x.state group a.before a.there o qs a.nothing_due a.has)
    deed_state i group made gone woke level (deed.Measure qs m) fits e same =
        let a = fits.2.0 in
        regrouped _ e h (h + 0) _ _ (same ∙ ap (λ z. with_at group (becomes (measured qs m) z) c.groups) a.there) (plus_none h) refl
        (measure_stands c h d.state x.state group a.before a.there qs m (look_distinct i made gone m qs fits.0) a.has)
    deed_state i group made gone woke level (deed.New k) fits e same = regrouped c e h (h + 0) d.state d.state same (plus_none h) refl x.state
    deed_state i group made gone woke level deed.Act fits e same = regrouped c e h (h + 0) d.state d.state same (plus_none h) refl x.state
    deed_state i group made gone woke level (deed.Add v) fits e same = regrouped c e h (h + 0) d.state d.state same (plus_none h) refl x.state
    deed_state i group made gone woke level (deed.Pick o) fits e same = regrouped c e h (h + 0) d.state d.state same (plus_none h) refl x.state
    deed_state i group made gone woke level (deed.If b) fits e same = regrouped c e h (h + 0) d.state d.state same (plus_none h) refl x.state
    deed_state i group made gone woke level (deed.Com to chan) fits e same = regrouped c e h (h + 0) d.state d.state same (plus_none h) refl x.state

    -- an outcome of the group is one of the whole state
    has_outcome : (i group made gone woke level : ℕ) (o : Deed) → FitsStep l f c i o group made gone woke level → HasOutcome d o
    has_outcome i group made gone woke level (deed.Measure qs m) fits =
        let a = fits.2.0 in
        outcome_of_whole c h d.state x.state x.some group a.before a.there qs m (look_distinct i made gone m qs fits.0) a.has
        (sym (ap (λ z. is_outcome_in z qs m) a.there) ∙ fits.2.1)
    has_outcome i group made gone woke level (deed.Qbit q) fits = tt
    has_outcome i group made gone woke level (deed.New k) fits = tt
    has_outcome i group made gone woke level deed.Act fits = tt
    has_outcome i group made gone woke level (deed.Add v) fits = tt
    has_outcome i group made gone woke level (deed.Pick o) fits = tt
    has_outcome i group made gone woke level (deed.Gate o qs) fits = tt
    has_outcome i group made gone woke level (deed.If b) fits = tt
    has_outcome i group made gone woke level (deed.Com to chan) fits = tt

    -- some numerator is left
    some_left : (i group made gone woke level : ℕ) (o : Deed) → FitsStep l f c i o group made gone woke level → norm_sum (with_deed o d).state.nums ≢ zero_root
    some_left i group made gone woke level (deed.Qbit q) fits =
        let size : 2 * length d.state.nums ≡ 2 ^ (d.state.qubits + 1) = ap (λ n. 2 * n) x.state.whole ∙ (twice (d.state.qubits)) in
        λ e. x.some (sym (grown_norm d.state.nums) ∙ (ap (λ n. norm_sum (map (spread_at d.state.nums) (range_with_len 0 n))) size ∙ e))
    some_left i group made gone woke level (deed.Gate o qs) fits =
        let own = operands_of (counts_of f) (process_of_part l fits.0.part) (redex_of (process_of_part l fits.0.part)) o qs fits.0.process fits.0.moves in
        gate_some o qs d.state x.state.whole (subst (λ n. HasOperands n o qs) (sym x.half.qubits) own) x.some
    some_left i group made gone woke level (deed.Measure qs m) fits =
        let a = fits.2.0 in
        whole_some c h d.state x.state x.some group a.before a.there qs m (look_distinct i made gone m qs fits.0) a.has
        (sym (ap (λ z. is_outcome_in z qs m) a.there) ∙ fits.2.1)
    some_left i group made gone woke level (deed.New k) fits = x.some
    some_left i group made gone woke level deed.Act fits = x.some
    some_left i group made gone woke level (deed.Add v) fits = x.some
    some_left i group made gone woke level (deed.Pick o) fits = x.some
    some_left i group made gone woke level (deed.If b) fits = x.some
    some_left i group made gone woke level (deed.Com to chan) fits = x.some

    -- what an event shows leads to what the cells stand for afterwards
    pub record Leads (e : Event) : Type 0 where
      pub last : Config
      pub leads : after d (shown_by e) ≡ Some last
      pub stands : Stands l (front_after f e) (cells_after l f c e) (h + h_total (shown_by e)) last

    -- an event that shows nothing
    shows_nothing : (e : Event) → shown_by e ≡ [] → HalfStands l (front_after f e) (cells_after l f c e).parts d → StateStands (cells_after l f c e) h d.state
        → Leads e
    shows_nothing e none half state = record {
      last = d;
      leads = ap (after d) none;
      stands = record {
        half = half;
        state = subst (λ n. StateStands (cells_after l f c e) n d.state) (plus_none h ∙ ap (λ es. h + h_total es) (sym none)) state;
        some = x.some;
      };
    }

    -- an entry that fits leads on
    one_shown : (e : Entry) (d' : Config) → next d e ≡ Some d' → after d (e ∷ []) ≡ Some d'
    one_shown e d' n = rw n refl

    -- after each event the front and the cells stand for what its entry leads to
    pub event_stands : (e : Event) → FitsEvent l f c e → Leads e
    event_stands (event.Step e group made gone woke level) fits =
        let outcome = has_outcome e.part group made gone woke level e.deed fits in
        let step = step_half l sound f c d x.half e group made gone woke level fits outcome in
        let state = deed_state e.part group made gone woke level e.deed fits (cells_after l f c (event.Step e group made gone woke level)) refl in
        let count : h + h_count e.deed ≡ h + (h_count e.deed + 0) = omega arith in
        record {
          last = step.after;
          leads = one_shown e step.after step.next_is;
          stands = record {
            half = step.stands;
            state = regrouped _ _ _ _ _ _ refl count (sym step.state) state;
            some = subst (λ (z : State). norm_sum z.nums ≢ zero_root) (sym step.state) (some_left e.part group made gone woke level e.deed fits);
          };
        }
    event_stands (event.Join left right) fits =
        let joined = join_stands c h d.state x.state left right fits.apart fits.first fits.second fits.first_there fits.second_there in
        shows_nothing (event.Join left right) refl x.half (regrouped _ _ h h d.state d.state (rw (fits.first_there, fits.second_there) refl) refl refl joined)
    event_stands (event.Split group qs rest) fits =
        shows_nothing (event.Split group qs rest) refl x.half (split_kept c h d.state group rest qs x.state fits)
    event_stands (event.Park i chan) fits =
        shows_nothing (event.Park i chan) refl
        (record { parts = x.half.parts; made = x.half.made; chans = x.half.chans; qubits = x.half.qubits })
        (regrouped c (cells_after l f c (event.Park i chan)) h h d.state d.state refl refl refl x.state)
    event_stands (event.Halt i) fits =
        shows_nothing (event.Halt i) refl
        (record { parts = x.half.parts; made = x.half.made; chans = x.half.chans; qubits = x.half.qubits }) x.state
