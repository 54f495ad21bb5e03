-- What the deed of a part that may make it tells of the configuration, and of its qubits.
use Rattle.std.proofs.Common.{◌≡◌, ◌↔◌, ℕ, ◌<◌, ◌≤◌, List, [], ◌∷◌, length, nat_lt, Option, Some, None, IsSome, true, false, refl, sym, ap, subst, arith}
use Rattle.std.proofs.Common.{⊎_elim, ◌∙◌}
use Rattle.std.proofs.lemmas.Bool.{and_parts, cases_lt, ltb-true}
use Rattle.std.specs.List.{AllByRecursion}
use Rattle.std.specs.Option.{option_map}
use Rattle.cqp_syntax.specs.declared.op.Op.{Op}
use Rattle.cqp_syntax.specs.declared.op.Op.TheVariants as op
use Rattle.cqp_syntax.specs.Gates.{places_of}
use Rattle.cqp_syntax.specs.Lists.{are_below, is_distinct}
use Rattle.cqp_syntax.specs.Listing.{Listing}
use Rattle.cqp_syntax.specs.Trees.{Process}
use Rattle.cqp_trace.specs.declared.deed.Deed.TheVariants as deed
use Rattle.cqp_trace.specs.declared.entry.Entry.{Entry}
use Rattle.cqp_vector.specs.Group.{factors_left_out}
use Rattle.cqp_vector.specs.Measurement.{is_outcome}
use Rattle.cqp_cells.specs.Config.{Config, continued, part_at}
use Rattle.cqp_cells.specs.Examples.{by}
use Rattle.cqp_cells.specs.Lawful.{exponent_after}
use Rattle.cqp_cells.specs.Moves.{are_operands, moved}
use Rattle.cqp_cells.specs.Path.{h_total, is_below_limit}
use Rattle.cqp_cells.specs.Redex.{redex_of}
use Rattle.cqp_cells.specs.Step.{counts_of, next, row_of, with_deed}
use Rattle.cqp_machine.specs.Shown.{cells_of, front_of}
use Rattle.cqp_parts.specs.Parts.{process_of_part}
use Rattle.cqp_steps.proofs.RowLemmas.{measured_operands, operands_of}
use Rattle.cqp_telling.specs.Laws.{GroupLimitLaw, OutcomeLaw}
use Rattle.cqp_machine.specs.Sums.{level_in, levels, sum_below}
use Rattle.cqp_groups.specs.Groups.{as_cells}
use Rattle.cqp_stepper.specs.declared.cells.Cells.{Cells}
use Rattle.cqp_stepper.specs.Here.{HereLaw}
use Rattle.cqp_stepper.specs.Kept.{IsKept}
use Rattle.cqp_stepper.specs.Own.{HasReachedLimit}
use Rattle.cqp_stepper.specs.Steps.{IsGathered, IsUnlikely, MayMake, made_in}
use Rattle.cqp_stepper.proofs.Last.{here, kept_part, last}

-- each gate has a place
pub some_places : (o : Op) → 0 < places_of o
some_places op.I = omega arith
some_places op.X = omega arith
some_places op.Y = omega arith
some_places op.Z = omega arith
some_places op.H = omega arith
some_places op.S = omega arith
some_places op.T = omega arith
some_places op.CNot = omega arith
some_places op.CZ = omega arith
some_places op.Swap = omega arith
some_places op.Toffoli = omega arith

-- qubits that pass the test are below
below_all : (n : ℕ) (qs : List ℕ) → are_below n qs ≡ true → AllByRecursion (λ q. q < n) qs
below_all n [] h = tt
below_all n (q ∷ qs) h =
    let both = and_parts (nat_lt q n) (are_below n qs) h in (ltb-true q n both.0, below_all n qs both.1)

-- operands are distinct, and were made
pub distinct_operands : (n : ℕ) (qs : List ℕ) → are_operands n qs ≡ true → is_distinct qs ≡ true
distinct_operands n qs h = (and_parts (is_distinct qs) (are_below n qs) h).0

pub made_operands : (n : ℕ) (qs : List ℕ) → are_operands n qs ≡ true → AllByRecursion (λ q. q < n) qs
made_operands n qs h = below_all n qs (and_parts (is_distinct qs) (are_below n qs) h).1

-- a gate that may be applied has operands
pub gate_some : (l : Listing) (s : Cells) (n : ℕ) (o : Op) (qs : List ℕ) → MayMake l s n (deed.Gate o qs) → 0 < length qs
gate_some l s n o qs may =
    let told = operands_of (made_in s) (process_of_part l may.part) (redex_of (process_of_part l may.part)) o qs may.process may.moves in
    let some = some_places o in
    let count = told.count in
    omega arith

-- they were made
pub gate_made : (l : Listing) (s : Cells) (n : ℕ) (o : Op) (qs : List ℕ) → MayMake l s n (deed.Gate o qs)
    → AllByRecursion (λ q. q < length s.groups) qs
gate_made l s n o qs may =
    made_operands (length s.groups) qs
    (operands_of (made_in s) (process_of_part l may.part) (redex_of (process_of_part l may.part)) o qs may.process may.moves).operands

-- so are those of a measurement
pub measure_operands : (l : Listing) (s : Cells) (n m : ℕ) (qs : List ℕ) → MayMake l s n (deed.Measure qs m)
    → are_operands (length s.groups) qs ≡ true
measure_operands l s n m qs may =
    measured_operands (made_in s) (process_of_part l may.part) (redex_of (process_of_part l may.part)) qs m may.process may.moves

-- an entry whose part is there
at_part : (c : Config) (e : Entry) (p : Process) → part_at e.part c.parts ≡ Some p → next c e ≡ row_of c e.part p e.deed
at_part c e p there = rw there refl

-- what becomes of one that moves is there
mapped_some : {X Y : Type 0} (f : X → Y) (o : Option X) (x : X) → o ≡ Some x → IsSome (option_map f o)
mapped_some f None x h = absurd (cc h)
mapped_some f (Some y) x h = refl

module _ (l : Listing) (here_law : HereLaw) (entries : List Entry) (s : Cells) (k : IsKept l entries s) where
  -- the counts are the configuration's
  pub made_here : made_in s ≡ counts_of (last l here_law entries s k).state (last l here_law entries s k).chans
  made_here =
      let stands = (here l here_law entries s k).shows.stands in rw (k.groups.places, k.chan_count, stands.qubits, stands.chans) refl

  -- a gate that its part moves by fits
  pub gate_leads : (n : ℕ) (o : Op) (qs : List ℕ) → MayMake l s n (deed.Gate o qs)
      → IsSome (next (last l here_law entries s k) (by n (deed.Gate o qs)))
  gate_leads n o qs may =
      let c = last l here_law entries s k in
      let d = deed.Gate o qs in
      let p = process_of_part l may.part in
      let there : part_at n c.parts ≡ Some p = (kept_part l here_law entries s k n may.part may.there).there in
      let moves : moved (counts_of c.state c.chans) p d ≡ Some may.process = ap (λ z. moved z p d) (sym made_here) ∙ may.moves in
      subst IsSome (sym (at_part c (by n d) p there)) (mapped_some (λ r. continued n r (with_deed d c)) _ may.process moves)

  -- the exponent is at its limit exactly where the levels leave no room for an H
  pub limit_here : GroupLimitLaw → exponent_after entries (last l here_law entries s k) ≡ 90 ↔ HasReachedLimit s
  limit_here law =
      let c = last l here_law entries s k in
      let told = law l k.events c k.settled.process k.settled.run (here l here_law entries s k).shows in
      let named : exponent_after entries c ≡ 90 ↔ 179 ≤ levels (front_of l k.events).qubits (cells_of l k.events) =
      subst (λ es. exponent_after es c ≡ 90 ↔ 179 ≤ levels (front_of l k.events).qubits (cells_of l k.events)) k.shows told in
      let same : levels (length s.groups) (as_cells s.groups) ≡ levels (front_of l k.events).qubits (cells_of l k.events) =
      ap (λ n. levels n (as_cells s.groups)) k.groups.places
      ∙ ap (λ f. sum_below (front_of l k.events).qubits (λ g. level_in (f g))) k.groups.groups in
      (λ most. subst (λ n. 179 ≤ n) (sym same) (named.0 most), λ reached. named.1 (subst (λ n. 179 ≤ n) same reached))

  -- then an H finds it there
  pub at_limit : GroupLimitLaw → (o : Op) (qs : List ℕ) → HasReachedLimit s → factors_left_out o ≡ 1
      → is_below_limit (h_total entries) (last l here_law entries s k).state (deed.Gate o qs) ≡ false
  at_limit law o qs reached h =
      let most = (limit_here law).1 reached in rw (h, most) refl

  -- an outcome whose projection is 0 in the group is none of the state
  pub unlikely_here : OutcomeLaw → (group m : ℕ) (qs : List ℕ) → IsGathered s group qs → are_operands (length s.groups) qs ≡ true
      → IsUnlikely s group qs m → is_outcome qs (last l here_law entries s k).state m ≡ false
  unlikely_here law group m qs x operands unlikely =
      sym
      (law l k.events (last l here_law entries s k) k.settled.process k.settled.run (here l here_law entries s k).shows group x.before
      (sym (ap (λ f. f group) k.groups.groups) ∙ x.there) qs (distinct_operands (length s.groups) qs operands) x.has m)
      ∙ unlikely x.before x.there

-- cells of the same entries leave the same room
pub room_kept : (l : Listing) (here_law : HereLaw) (law : GroupLimitLaw) (entries : List Entry) (s t : Cells) → IsKept l entries s → IsKept l entries t
    → HasReachedLimit t → HasReachedLimit s
room_kept l here_law law entries s t k x reached = (limit_here l here_law entries s k law).0 ((limit_here l here_law entries t x law).1 reached)

-- what doesn't reach the limit leaves room
pub room_left : (n : ℕ) → (179 ≤ n → ⊥) → n ≤ 178
room_left n h = ⊎_elim (λ (less : n < 179). omega arith) (λ (most : 179 ≤ n). absurd (h most)) (cases_lt n 179)
