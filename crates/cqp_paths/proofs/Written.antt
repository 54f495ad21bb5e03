-- Each entry of a path of a process that needs at most 12 qubits has a line, where its numbers are in range.
use Rattle.std.proofs.Common.{◌≡◌, ◌⊎◌, ℕ, ◌+◌, ◌-◌, ◌≤◌, ◌%◌, ◌^◌, List, [], ◌∷◌, length, Bool, true, false, refl, sym, ap, ◌∙◌, subst, arith, inl, inr}
use Rattle.std.specs.Prelude.{Some, None, Option, if◌then◌else◌, ◌&&◌, ◌==◌, nat_lt, nat_le}
use Rattle.std.specs.Option.{option_and_then}
use Rattle.std.specs.List.{list_all}
use Rattle.std.proofs.lemmas.Bool.Decides.{nat_tests}
use Rattle.cqp_syntax.specs.declared.op.Op.TheVariants as op
use Rattle.cqp_syntax.specs.declared.val.Val.TheVariants as val
use Rattle.cqp_syntax.specs.Gates.{places_of}
use Rattle.cqp_syntax.specs.Measures.{need}
use Rattle.cqp_syntax.specs.Trees.{Process}
use Rattle.cqp_syntax.specs.Substitution.{with_values}
use Rattle.cqp_trace.specs.declared.deed.Deed.{Deed}
use Rattle.cqp_trace.specs.declared.entry.Entry.{Entry}
use Rattle.cqp_trace.specs.Writable.{is_number, is_qubit, is_picked, is_writable, has_line}
use Rattle.cqp_vector.specs.State.{State}
use Rattle.cqp_cells.specs.Config.{Config, start_of, flattened, continued}
use Rattle.cqp_syntax.specs.Lists.{is_distinct}
use Rattle.cqp_cells.specs.Moves.{picked}
use Rattle.cqp_cells.specs.Step.{next}
use Rattle.cqp_cells.specs.InRange.{is_deed_in_range, is_in_range}
use Rattle.cqp_paths.specs.Invariant.{AllParts}
use Rattle.cqp_cells.specs.Operated.{is_operated_expr, is_operated}
use Rattle.cqp_cells.specs.Path.{after}
use Rattle.cqp_cells.specs.Rows.{Fits, fits_qbit, fits_new, fits_act, fits_add, fits_pick, fits_gate, fits_measure, fits_yes, fits_no, process_after}
use Rattle.cqp_cells.specs.Step.{state_after, chans_after}
use Rattle.cqp_cells.specs.Rows.{alone_after, IsAlone, IsMeeting}
use Rattle.cqp_paths.proofs.Distinct.{few_distinct}
use Rattle.cqp_cells.proofs.Inversion.{inverted}
use Rattle.cqp_paths.proofs.Needs.{IsWithin, within_next, within_start}
use Rattle.cqp_paths.proofs.Operated.{value_operated, values_operated, prefix_operated, flat_operated, redex_operated}
use Rattle.cqp_cells.proofs.Options.{none_is_some, both_true}
use Rattle.cqp_paths.proofs.Parts.{all-numbered, all-continued, all-part_at}
use Rattle.cqp_paths.proofs.Progress.{found_count}
use Rattle.cqp_syntax.proofs.Bools.{both_hold}

-- numbers below n are below 12
below_12 : (n : ℕ) (qs : List ℕ) → n ≤ 12 → list_all (λ q. nat_lt q n) qs ≡ true → list_all is_qubit qs ≡ true
below_12 n [] le h = refl
below_12 n (q ∷ qs) le h =
    let parts = both_true (nat_lt q n) (list_all (λ r. nat_lt r n) qs) h in
    let first : is_qubit q ≡ true = grind (arith, nat_tests) in
    both_hold (is_qubit q) (list_all is_qubit qs) first (below_12 n qs le parts.1)

-- a gate that a number picks is one that a line may pick
picked_is : (u : ℕ) → is_picked (picked u) ≡ true
picked_is u = by_tests (u % 4 == 0) (u % 4 == 1) (u % 4 == 2)
  where
    by_tests : (a b c : Bool) → is_picked (if a then op.I else (if b then op.X else (if c then op.Z else op.Y))) ≡ true
    by_tests true b c = refl
    by_tests false true c = refl
    by_tests false false true = refl
    by_tests false false false = refl

-- a sum modulo 2^32 is in range
sum_in_range : {v : ℕ} (n : ℕ) → v ≡ n % 2 ^ 32 → is_number v ≡ true
sum_in_range {v} n same = let less : v ≤ 2 ^ 32 - 1 = omega (arith, same) in grind (arith, nat_tests)

-- the deed of a row has a line, where its numbers are in range
row_written : {s : State} {k : ℕ} {p : Process} {d : Deed} → Fits s k p d → s.qubits ≤ 12 → (state_after d s).qubits ≤ 12 → is_operated p ≡ true
    → is_deed_in_range d ≡ true → is_writable d ≡ true
row_written {s} (fits_qbit {q = q} same) le later h t = let less : q ≤ 11 = omega (arith, same, later) in grind (arith, nat_tests)
row_written (fits_new same) le later h t = t
row_written fits_act le later h t = refl
row_written (fits_add {u = u} {w = w} at same) le later h t = sum_in_range (u + w) same
row_written (fits_pick {u = u} at same) le later h t = ap is_picked same ∙ picked_is u
row_written {s} (fits_gate {o = o} {qs = qs} at have places operands) le later h t =
    let parts = both_true (is_distinct qs) (list_all (λ q. nat_lt q s.qubits) qs) operands in
    let count : (length qs == places_of o) ≡ true = grind (arith, nat_tests) in
    both_hold (length qs == places_of o) (list_all is_qubit qs) count (below_12 s.qubits qs le parts.1)
row_written {s} (fits_measure {p = p} {ss = ss} {qs = qs} {m = m} at have operands below outcome) le later h t =
    let parts = both_true (is_distinct qs) (list_all (λ q. nat_lt q s.qubits) qs) operands in
    let some : nat_lt 0 (length ss) ≡ true = redex_operated p ss h at in
    let count : length qs ≡ length ss = found_count ss qs have in
    let few : length qs ≤ s.qubits = few_distinct s.qubits qs parts.0 parts.1 in
    let one : nat_le 1 (length qs) ≡ true = grind (arith, nat_tests) in
    let twelve : nat_le (length qs) 12 ≡ true = grind (arith, nat_tests) in
    let low : nat_lt m (2 ^ length qs) ≡ true = grind (arith, nat_tests) in
    both_hold _ _ (both_hold _ _ (both_hold _ _ one twelve) (below_12 s.qubits qs le parts.1)) low
row_written (fits_yes same) le later h t = refl
row_written (fits_no differs) le later h t = refl

-- a process that has operands has them after a row
row_operated : {s : State} {k : ℕ} {p : Process} {d : Deed} → Fits s k p d → is_operated p ≡ true → is_operated (process_after d p) ≡ true
row_operated (fits_qbit {x = x} {p = p} {q = q} same) h = value_operated x (val.Qubit q) p ∙ h
row_operated (fits_new {b = b} {p = p} {k = k} same) h = value_operated b.name (val.Chan k) p ∙ h
row_operated fits_act h = h
row_operated (fits_add {p = p} {v = v} at same) h = prefix_operated (val.Num v) p h
row_operated (fits_pick {p = p} {o = o} at same) h = prefix_operated (val.Gate o) p h
row_operated (fits_gate {p = p} at have places operands) h = prefix_operated val.Unit p h
row_operated (fits_measure {p = p} {m = m} at have operands below outcome) h = prefix_operated (val.Num m) p h
row_operated (fits_yes {p = p} {q = q} same) h = (both_true (is_operated p) (is_operated q) h).0
row_operated (fits_no {p = p} {q = q} differs) h = (both_true (is_operated p) (is_operated q) h).1

-- what is kept along a path
record IsPlentiful (c : Config) : Type 0 where
  within : IsWithin 12 c
  operated : AllParts (λ p. is_operated p ≡ true) c.parts

-- an entry keeps the operands of all parts
next_operated : (c : Config) (e : Entry) (d : Config) → next c e ≡ Some d → AllParts (λ p. is_operated p ≡ true) c.parts
    → AllParts (λ p. is_operated p ≡ true) d.parts
next_operated c e d h all = by_row (inverted c e d h)
  where
    Has : Process → Type 0
    Has p = is_operated p ≡ true

    by_row : IsAlone c e d ⊎ IsMeeting c e d → AllParts (λ p. is_operated p ≡ true) d.parts
    by_row (inl alone) =
        let before : Config = record c { state = state_after e.deed c.state; chans = chans_after e.deed c.chans } in
        let now : is_operated (process_after e.deed alone.process) ≡ true =
        row_operated alone.fits (all-part_at (λ p. is_operated p ≡ true) e.part c.parts alone.process all alone.there) in
        subst (λ (b : Config). AllParts (λ p. is_operated p ≡ true) b.parts) (sym alone.becomes)
        (all-continued (λ p. is_operated p ≡ true) e.part (process_after e.deed alone.process) before
        (flat_operated (process_after e.deed alone.process) now) all)
    by_row (inr met) =
        let sender =
        both_true (list_all is_operated_expr met.exprs) (is_operated met.left) (all-part_at (λ p. is_operated p ≡ true) e.part c.parts _ all met.sends) in
        let receiver : is_operated met.right ≡ true = all-part_at (λ p. is_operated p ≡ true) met.to c.parts _ all met.receives in
        let now : is_operated (with_values met.binders met.values met.right) ≡ true = values_operated met.binders met.values met.right ∙ receiver in
        subst (λ (b : Config). AllParts (λ p. is_operated p ≡ true) b.parts) (sym met.becomes)
        (all-continued (λ p. is_operated p ≡ true) met.to (with_values met.binders met.values met.right) (continued e.part met.left c)
        (flat_operated (with_values met.binders met.values met.right) now)
        (all-continued (λ p. is_operated p ≡ true) e.part met.left c (flat_operated met.left sender.1) all))

-- an entry has a line, if its deed has and its numbers are in range
lined : (e : Entry) → (is_deed_in_range e.deed ≡ true → is_writable e.deed ≡ true) → is_in_range e ≡ true → has_line e ≡ true
lined e row t =
    let parts = both_true (is_number e.part) (is_deed_in_range e.deed) t in
    both_hold (is_number e.part) (is_writable e.deed) parts.0 (row parts.1)

-- an entry that fits has a line, where its numbers are in range, and keeps what is kept along a path
next_written : (c : Config) (e : Entry) (d : Config) → next c e ≡ Some d → IsPlentiful c
    → (is_in_range e ≡ true → has_line e ≡ true) × IsPlentiful d
next_written c e d h is = (lined e (by_row (inverted c e d h)), record { within = later; operated = next_operated c e d h is.operated })
  where
    later : IsWithin 12 d
    later = within_next 12 c e d h is.within

    by_row : IsAlone c e d ⊎ IsMeeting c e d → is_deed_in_range e.deed ≡ true → is_writable e.deed ≡ true
    by_row (inl alone) t =
        let few : (alone_after c e.part alone.process e.deed).state.qubits ≤ 12 =
        subst (λ (b : Config). b.state.qubits ≤ 12) alone.becomes (omega (arith, later.within)) in
        row_written alone.fits (omega (arith, is.within.within)) few
        (all-part_at (λ p. is_operated p ≡ true) e.part c.parts alone.process is.operated alone.there) t
    by_row (inr met) t = subst (λ b. is_deed_in_range b ≡ true → is_writable b ≡ true) (sym met.deed_is) (λ u. u) t

-- entries that fit have lines, where their numbers are in range
all_written : (es : List Entry) (c d : Config) → after c es ≡ Some d → IsPlentiful c → list_all is_in_range es ≡ true → list_all has_line es ≡ true
all_written [] c d h is t = refl
all_written (e ∷ es) c d h is t = by_next (next c e) refl h (λ b g i. all_written es b d g i parts.1)
  where
    parts : (is_in_range e ≡ true) × (list_all is_in_range es ≡ true)
    parts = both_true (is_in_range e) (list_all is_in_range es) t

    by_next : (o : Option Config) → next c e ≡ o → option_and_then (λ b. after b es) o ≡ Some d
        → ((b : Config) → after b es ≡ Some d → IsPlentiful b → list_all has_line es ≡ true) → (has_line e && list_all has_line es) ≡ true
    by_next None at g more = absurd (none_is_some g)
    by_next (Some b) at g more = let step = next_written c e b at is in both_hold _ _ (step.0 parts.0) (more b g step.1)

-- each entry of a path of a process that needs at most 12 qubits has a line, where its numbers are in range
pub path_written : (p : Process) (es : List Entry) (c : Config) → is_operated p ≡ true → need p ≤ 12 → after (start_of p) es ≡ Some c
    → list_all is_in_range es ≡ true → list_all has_line es ≡ true
path_written p es c operated few h = all_written es (start_of p) c h (record {
  within = within_start p 12 few;
  operated = all-numbered (λ q. is_operated q ≡ true) 0 (flattened p) (flat_operated p operated);
})
