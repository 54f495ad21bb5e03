-- Measures that each deed lowers: so does each event, and so a run keeps what it counts within the opening's measure.
use Rattle.std.proofs.Common.{◌≡◌, ℕ, true, false, Bool, List, [], ◌∷◌, map, ◌+◌, ◌-◌, ◌≤◌, length, Some, None, refl, sym, ap, arith, ◌∙◌}
use Rattle.std.proofs.lemmas.List.{length-map}
use Rattle.cqp_book.specs.Keys.{Store, find}
use Rattle.cqp_book.specs.Run.{front_from, store_from, RunsFrom, IsRun}
use Rattle.cqp_syntax.specs.declared.val.Val.{Val}
use Rattle.cqp_syntax.specs.Trees.{Process}
use Rattle.cqp_syntax.specs.Listing.{Listing, IsProc, root}
use Rattle.cqp_trace.specs.declared.deed.Deed.{Deed}
use Rattle.cqp_trace.specs.declared.deed.Deed.TheVariants as deed
use Rattle.cqp_trace.specs.declared.entry.Entry.{Entry}
use Rattle.cqp_cells.specs.Config.{flattened}
use Rattle.cqp_parts.specs.declared.part.Part.{Part}
use Rattle.cqp_machine.specs.declared.front.Front.{Front}
use Rattle.cqp_machine.specs.declared.event.Event.{Event}
use Rattle.cqp_machine.specs.declared.event.Event.TheVariants as event
use Rattle.cqp_machine.specs.declared.cell.Cell.{Cell}
use Rattle.cqp_parts.specs.Parts.{process_of_part, parts_after, parts_after_input, more_than_one, opening_parts}
use Rattle.cqp_machine.specs.Cells.{Cells, cells_in}
use Rattle.cqp_cells.specs.Moves.{Counts, moved, Sending, sends_on, receives_on}
use Rattle.cqp_machine.specs.Fronts.{front_after, counts_of, opening_front}
use Rattle.cqp_machine.specs.Enabled.{FitsEvent, FitsStep, Moves, Meets}
use Rattle.cqp_machine.specs.After.{cells_after, placed, from_part, parts_by}
use Rattle.cqp_machine.specs.Machine.{factored, part_pairs}
use Rattle.cqp_steps.specs.Making.{left_of}
use Rattle.cqp_machine.specs.Shown.{front_of}
use Rattle.cqp_parts.proofs.DeedLemmas.{own_deed, sender_deed, receiver_deed}
use Rattle.cqp_fresh.proofs.SoundStores.{IsSoundStore, sound_after, sound_opening, length-opening}
use Rattle.cqp_local.proofs.WholeFits.{whole_enabled, whole_after}
use Rattle.cqp_steps.proofs.StepSums.{own_sum, com_sum}
use Rattle.cqp_steps.proofs.Potentials.{total}
use Rattle.cqp_steps.proofs.PartSums.{left, weights, more_is, opening_left}

-- a number where it is counted
abbrev pub counted : Bool → ℕ → ℕ
counted true n = n
counted false n = 0

-- of two numbers
counted_sum : (b : Bool) (m n : ℕ) → counted b (m + n) ≡ counted b m + counted b n
counted_sum true m n = refl
counted_sum false m n = refl

-- what a process weighs once its parts stand side by side: their measure, and those beyond the first where they are counted
abbrev pub cost : (Process → ℕ) → Bool → Process → ℕ
cost m grows p = total m (flattened p) + counted grows (length (flattened p) - 1)

-- a deed lowers the measure by so much, and a communication on each side by `each`
pub record Falls (m : Process → ℕ) (grows : Bool) (by : Deed → ℕ) (each : ℕ) : Type 0 where
  pub moves : (n : Counts) (p : Process) (d : Deed) (r : Process) → moved n p d ≡ Some r → cost m grows r + by d ≤ m p
  pub sends : (k : ℕ) (p : Process) (s : Sending) → sends_on k p ≡ Some s → cost m grows s.rest + each ≤ m p
  pub receives : (k : ℕ) (vs : List Val) (p r : Process) → receives_on k vs p ≡ Some r → cost m grows r + each ≤ m p
  pub meets : (to k : ℕ) → by (deed.Com to k) ≡ each + each

module _ (l : Listing) (sound : IsProc l) (m : Process → ℕ) (grows : Bool) (by : Deed → ℕ) (each : ℕ) (h : Falls m grows by each) where
  -- parts that stand for a process weigh what it costs
  of_cost : (ps : List Part) (r : Process) → map (process_of_part l) ps ≡ flattened r → weights l m ps + counted grows (more_than_one ps) ≡ cost m grows r
  of_cost ps r same =
      let size : length ps ≡ length (flattened r) = sym (length-map ps (process_of_part l)) ∙ ap length same in
      let more : more_than_one ps ≡ length (flattened r) - 1 = more_is ps ∙ ap (λ n. n - 1) size in
      let one : weights l m ps ≡ total m (flattened r) = ap (total m) same in
      let two : counted grows (more_than_one ps) ≡ counted grows (length (flattened r) - 1) = ap (counted grows) more in
      omega arith

  module _ (f : Front) (c : Cells) (k : (j : ℕ) → f.parts ≤ j → c.parts j ≡ None) where
    -- a deed of a part's own
    own_falls : (i made gone : ℕ) (d : Deed) (x : Moves l f c (record { part = i; deed = d }) made gone)
        → left l m (f.parts + made) (placed i f.parts (from_part (λ p. parts_after l p d) (c.parts i)) c.parts) + counted grows made + by d
        ≤ left l m f.parts c.parts
    own_falls i made gone d x =
        let cost_is = of_cost (parts_after l x.part d) x.process (own_deed l sound x.part (counts_of f) d x.process x.moves) in
        let sum = own_sum l m f c k i made gone d x in
        let less = h.moves (counts_of f) (process_of_part l x.part) d x.process x.moves in
        let more : counted grows made ≡ counted grows (more_than_one (parts_after l x.part d)) = ap (counted grows) x.makes in
        omega arith

    -- what is left falls in a communication
    com_falls : (i to chan made gone : ℕ) (x : Meets l c i to chan made gone)
        → left l m (f.parts + made) (parts_by l f c i (deed.Com to chan)) + counted grows made + by (deed.Com to chan) ≤ left l m f.parts c.parts
    com_falls i to chan made gone x =
        let sent = of_cost (parts_after l x.sender (deed.Com to chan)) x.sending.rest (sender_deed l sound x.sender to chan x.sending x.sends) in
        let received =
        of_cost (parts_after_input l x.receiver x.sending.values) x.process (receiver_deed l sound x.receiver chan x.sending.values x.process x.receives) in
        let sum = com_sum l m f c k i to chan made gone x in
        let less = h.sends chan (process_of_part l x.sender) x.sending x.sends in
        let less_too = h.receives chan x.sending.values (process_of_part l x.receiver) x.process x.receives in
        let split : counted grows made ≡ counted grows (more_than_one (parts_after l x.sender (deed.Com to chan))) + counted grows (more_than_one
        (parts_after_input l x.receiver x.sending.values)) =
        ap (counted grows) x.makes
        ∙ counted_sum grows (more_than_one (parts_after l x.sender (deed.Com to chan))) (more_than_one (parts_after_input l x.receiver x.sending.values)) in
        let both = h.meets to chan in
        omega arith

    -- what is left falls in a step
    pub step_falls : (i group made gone woke level : ℕ) (d : Deed) → FitsStep l f c i d group made gone woke level
        → left l m (f.parts + made) (parts_by l f c i d) + counted grows made + by d ≤ left l m f.parts c.parts
    step_falls i group made gone woke level (deed.Qbit q) x = own_falls i made gone (deed.Qbit q) x.0
    step_falls i group made gone woke level (deed.New q) x = own_falls i made gone (deed.New q) x.0
    step_falls i group made gone woke level deed.Act x = own_falls i made gone deed.Act x.0
    step_falls i group made gone woke level (deed.Add v) x = own_falls i made gone (deed.Add v) x.0
    step_falls i group made gone woke level (deed.Pick o) x = own_falls i made gone (deed.Pick o) x.0
    step_falls i group made gone woke level (deed.Gate o qs) x = own_falls i made gone (deed.Gate o qs) x.0
    step_falls i group made gone woke level (deed.Measure qs u) x = own_falls i made gone (deed.Measure qs u) x.0
    step_falls i group made gone woke level (deed.If b) x = own_falls i made gone (deed.If b) x.0
    step_falls i group made gone woke level (deed.Com to chan) x = com_falls i to chan made gone x.0

  -- a count on the front that a step raises by no more than it lowers the measure
  pub record CountsAlong (count : Front → ℕ) : Type 0 where
    pub steps : (f : Front) (e : Entry) (group made gone woke level : ℕ)
        → count (front_after f (event.Step e group made gone woke level)) ≤ count f + (counted grows made + by e.deed)
    pub parks : (f : Front) (i k : ℕ) → count (front_after f (event.Park i k)) ≡ count f
    pub halts : (f : Front) (i : ℕ) → count (front_after f (event.Halt i)) ≡ count f

  module _ (count : Front → ℕ) (x : CountsAlong count) where
    -- the count with the measure of what is left
    abbrev pub together : Front → Cells → ℕ
    together f c = count f + left l m f.parts c.parts

    -- with the measure of what is left it never rises
    pub event_within : (f : Front) (c : Cells) (e : Event) → ((j : ℕ) → f.parts ≤ j → c.parts j ≡ None) → FitsEvent l f c e
        → together (front_after f e) (cells_after l f c e) ≤ together f c
    event_within f c (event.Step e group made gone woke level) k fits =
        let less = step_falls f c k e.part group made gone woke level e.deed fits in
        let rise = x.steps f e group made gone woke level in
        omega arith
    event_within f c (event.Join first second) k fits = omega arith
    event_within f c (event.Split group qs rest) k fits = omega arith
    event_within f c (event.Park i chan) k fits = omega (arith, x.parks f i chan)
    event_within f c (event.Halt i) k fits = omega (arith, x.halts f i)

    -- nor does it along a run
    pub run_within : (f : Front) (s : Store Cell) (es : List Event) → RunsFrom factored l f s es → IsSoundStore f s
        → together (front_from factored l f es) (cells_in (store_from factored l f s es)) ≤ together f (cells_in s)
    run_within f s [] run k = omega arith
    run_within f s (e ∷ es) run k =
        let one = event_within f (cells_in s) e k.keeps.kept.new_parts (whole_enabled l f s e run.0).fits in
        let same : together (front_after f e) (cells_in (factored.after l f s e)) ≡ together (front_after f e) (cells_after l f (cells_in s) e) =
        ap (together (front_after f e)) (whole_after l f s e run.0) in
        let later = run_within (front_after f e) (factored.after l f s e) es run.1 (sound_after l f s e run.0 k) in
        omega arith

    -- after a run it is within that of the opening
    pub within_after : (es : List Event) → IsRun factored l es
        → count (front_of l es) + left_of m l es ≤ count (opening_front l) + total m (flattened (root l))
    within_after es run =
        let all = run_within (opening_front l) (find (part_pairs 0 (opening_parts l))) es run (sound_opening l) in
        let first : left l m (opening_front l).parts (cells_in (find (part_pairs 0 (opening_parts l)))).parts ≡ total m (flattened (root l)) =
        ap (λ n. left l m n (cells_in (find (part_pairs 0 (opening_parts l)))).parts) (sym (length-opening l)) ∙ opening_left l m sound in
        omega arith
