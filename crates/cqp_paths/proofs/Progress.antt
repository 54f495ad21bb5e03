-- Which parts can go on.
use Rattle.std.proofs.Common.{◌≡◌, ℕ, suc, ◌+◌, ◌%◌, ◌^◌, List, [], ◌∷◌, length, Bool, true, false, not, ◌||◌, ◌==◌, refl, sym, ap, ◌∙◌, subst}
use Rattle.std.proofs.Common.{arith}
use Rattle.std.specs.Prelude.{Some, None, Option, is_none}
use Rattle.std.specs.List.{AllByRecursion}
use Rattle.std.proofs.lemmas.Bool.Decides.{nat_tests}
use Rattle.cqp_syntax.specs.declared.op.Op.{Op}
use Rattle.cqp_syntax.specs.declared.val.Val.{Val}
use Rattle.cqp_syntax.specs.declared.val.Val.TheVariants as val
use Rattle.cqp_syntax.specs.Gates.{places_of}
use Rattle.cqp_syntax.specs.Trees.{Slot, named, valued, Expr, slot, sig, add, apply, measure, Process, nil, par, new, qbit, act, input, output}
use Rattle.cqp_syntax.specs.Trees.{branch, value}
use Rattle.cqp_trace.specs.declared.deed.Deed.{Deed}
use Rattle.cqp_trace.specs.declared.deed.Deed.TheVariants as deed
use Rattle.cqp_vector.specs.State.{State}
use Rattle.cqp_cells.specs.Config.{flattened}
use Rattle.cqp_cells.specs.Redex.{Redex, lone_name, sum, pick, gate, look, or_else, next_redex, next_redex_of, redex_of, values_of, with_first, qubits_of}
use Rattle.cqp_cells.specs.Moves.{are_operands, picked}
use Rattle.cqp_cells.specs.Norms.{IsState}
use Rattle.cqp_cells.specs.Operands.{is_number, is_gate_with, are_qubits}
use Rattle.cqp_cells.specs.Rows.{Fits, fits_qbit, fits_new, fits_act, fits_add, fits_pick, fits_gate, fits_measure, fits_yes, fits_no}
use Rattle.cqp_cells.specs.Waiting.{is_waiting}
use Rattle.cqp_paths.proofs.Outcomes.{outcome_exists}
use Rattle.cqp_paths.proofs.Parts.{all-append}
use Rattle.cqp_paths.proofs.Values.{done_value}
use Rattle.cqp_paths.proofs.RightOperands.{IsRight}
use Rattle.cqp_paths.proofs.ReadyOperands.{IsReady}
use Rattle.cqp_cells.proofs.Options.{none_is_some, same_some, yes_is_no}
use Rattle.cqp_syntax.proofs.Bools.{not_false}

-- a process that is a prefix: neither `0` nor a parallel composition
abbrev pub IsPrefix : Process → Type 0
IsPrefix nil = ⊥
IsPrefix (par p q) = ⊥
IsPrefix p = Unit {0}

-- each process of a flattening is a prefix
pub flat_prefixes : (p : Process) → AllByRecursion IsPrefix (flattened p)
flat_prefixes nil = tt
flat_prefixes (par p q) = all-append IsPrefix (flattened p) (flattened q) (flat_prefixes p) (flat_prefixes q)
flat_prefixes (new b p) = (tt, tt)
flat_prefixes (qbit x p) = (tt, tt)
flat_prefixes (act e p) = (tt, tt)
flat_prefixes (input c bs p) = (tt, tt)
flat_prefixes (output c es p) = (tt, tt)
flat_prefixes (branch e f p q) = (tt, tt)

-- an expression that passes the test for a number is one
number_of : (e : Expr) → is_number e ≡ true → (u : ℕ) × (e ≡ value (val.Num u))
number_of (slot (valued (val.Num u))) h = (u, refl)
number_of e h = absurd (yes_is_no (sym h))

-- an expression that passes the test for a gate with n places is such a gate
gate_of_ : (n : ℕ) (e : Expr) → is_gate_with n e ≡ true → (o : Op) × (e ≡ value (val.Gate o)) × ((n == places_of o) ≡ true)
gate_of_ n (slot (valued (val.Gate o))) h = (o, refl, h)
gate_of_ n e h = absurd (yes_is_no (sym h))

-- slots that pass the test for operands have qubits, which are distinct and made
operands_of : (n : ℕ) (ss : List Slot) → are_qubits n (qubits_of ss) ≡ true → (qs : List ℕ) × (qubits_of ss ≡ Some qs) × (are_operands n qs ≡ true)
operands_of n ss h = by_found (qubits_of ss) refl h
  where
    by_found : (o : Option (List ℕ)) → qubits_of ss ≡ o → are_qubits n o ≡ true → (qs : List ℕ) × (qubits_of ss ≡ Some qs) × (are_operands n qs ≡ true)
    by_found None at g = absurd (yes_is_no (sym g))
    by_found (Some qs) at g = (qs, at, g)

-- the qubits of slots are as many as the slots
pub found_count : (ss : List Slot) (qs : List ℕ) → qubits_of ss ≡ Some qs → length qs ≡ length ss
found_count [] qs h = ap length (sym (same_some h))
found_count (valued (val.Qubit q) ∷ ss) qs h = by_rest (qubits_of ss) h (λ rs g. found_count ss rs g)
  where
    by_rest : (o : Option (List ℕ)) → with_first q o ≡ Some qs → ((rs : List ℕ) → o ≡ Some rs → length rs ≡ length ss) → length qs ≡ suc (length ss)
    by_rest None g more = absurd (none_is_some g)
    by_rest (Some rs) g more = ap length (sym (same_some g)) ∙ ap suc (more rs refl)
found_count (s ∷ ss) qs h = absurd (none_is_some h)

-- if no negation of two tests passes, both tests pass
neither_true : (a b : Bool) → (not a || not b) ≡ false → (a ≡ true) × (b ≡ true)
neither_true true true h = (refl, refl)
neither_true true false h = absurd (yes_is_no h)
neither_true false b h = absurd (yes_is_no h)

-- a right redex is reduced by some deed
redex_fits : {s : State} (k : ℕ) (p : Process) (r : Redex) → IsState s → IsRight s.qubits r → redex_of p ≡ Some r → (d : Deed) × Fits s k p d
redex_fits k p (lone_name x) state right at = absurd (yes_is_no right.no_name)
redex_fits k p (sum e f) state right at =
    let both = neither_true (is_number e) (is_number f) right.numbers in
    let (u, e_is) = number_of e both.0 in
    let (w, f_is) = number_of f both.1 in
    (deed.Add ((u + w) % 2 ^ 32), fits_add (at ∙ ap (λ x. Some (sum x f)) e_is ∙ ap (λ x. Some (sum (value (val.Num u)) x)) f_is) refl)
redex_fits k p (pick e) state right at =
    let (u, e_is) = number_of e (not_false (is_number e) right.numbers) in
    (deed.Pick (picked u), fits_pick (at ∙ ap (λ x. Some (pick x)) e_is) refl)
redex_fits {s} k p (gate ss e) state right at =
    let (qs, have, operands) = operands_of s.qubits ss (not_false (are_qubits s.qubits (qubits_of ss)) right.qubits) in
    let (o, e_is, places) = gate_of_ (length ss) e (not_false (is_gate_with (length ss) e) right.operator) in
    let as_many : length ss ≡ places_of o = grind (arith, nat_tests) in
    (deed.Gate o qs, fits_gate (at ∙ ap (λ x. Some (gate ss x)) e_is) have (found_count ss qs have ∙ as_many) operands)
redex_fits {s} k p (look ss) state right at =
    let (qs, have, operands) = operands_of s.qubits ss (not_false (are_qubits s.qubits (qubits_of ss)) right.qubits) in
    let (m, below, outcome) = outcome_exists qs s state in
    (deed.Measure qs m, fits_measure at have operands below outcome)

-- a prefix that doesn't wait goes on by some deed
pub prefix_fits : {s : State} {k : ℕ} (p : Process) → IsPrefix p → is_waiting p ≡ false → IsState s → ((r : Redex) → redex_of p ≡ Some r → IsRight s.qubits r)
    → (redex_of p ≡ None → IsReady p)
    → (d : Deed) × Fits s k p d
prefix_fits nil prefix moves state right ready = absurd prefix
prefix_fits (par p q) prefix moves state right ready = absurd prefix
prefix_fits {s} {k} (new b p) prefix moves state right ready = (deed.New k, fits_new refl)
prefix_fits {s} (qbit x p) prefix moves state right ready = (deed.Qbit s.qubits, fits_qbit refl)
prefix_fits (input c bs p) prefix moves state right ready = absurd (yes_is_no moves)
prefix_fits {s} {k} (act e p) prefix moves state right ready = by_redex (redex_of (act e p)) refl
  where
    only_one : (o : Option Redex) → or_else o None ≡ None → o ≡ None
    only_one None h = refl
    only_one (Some r) h = h

    by_redex : (o : Option Redex) → redex_of (act e p) ≡ o → (d : Deed) × Fits s k (act e p) d
    by_redex None at = let (v, is) = done_value e (only_one (next_redex e) at) in (deed.Act, subst (λ x. Fits s k (act x p) deed.Act) (sym is) fits_act)
    by_redex (Some r) at = redex_fits k (act e p) r state (right r at) at
prefix_fits {s} {k} (output c es p) prefix moves state right ready = by_redex (next_redex_of es) refl moves
  where
    by_redex : (o : Option Redex) → next_redex_of es ≡ o → is_none o ≡ false → (d : Deed) × Fits s k (output c es p) d
    by_redex None at g = absurd (yes_is_no g)
    by_redex (Some r) at g = redex_fits k (output c es p) r state (right r at) at
prefix_fits {s} {k} (branch e f p q) prefix moves state right ready = by_redex (redex_of (branch e f p q)) refl
  where
    both_numbers : (u w : ℕ) → e ≡ value (val.Num u) → f ≡ value (val.Num w) → (d : Deed) × Fits s k (branch e f p q) d
    both_numbers u w e_is f_is = by_test (u == w) refl
      where
        place : (d : Deed) → Fits s k (branch (value (val.Num u)) (value (val.Num w)) p q) d → Fits s k (branch e f p q) d
        place d fits = subst (λ x. Fits s k (branch x f p q) d) (sym e_is) (subst (λ x. Fits s k (branch (value (val.Num u)) x p q) d) (sym f_is) fits)

        by_test : (b : Bool) → (u == w) ≡ b → (d : Deed) × Fits s k (branch e f p q) d
        by_test true same = let is : u ≡ w = grind (arith, nat_tests) in (deed.If true, place (deed.If true) (fits_yes is))
        by_test false differs = (deed.If false, place (deed.If false) (fits_no differs))

    by_redex : (o : Option Redex) → redex_of (branch e f p q) ≡ o → (d : Deed) × Fits s k (branch e f p q) d
    by_redex None at =
        let both = neither_true (is_number e) (is_number f) (ready at).numbers in
        let (u, e_is) = number_of e both.0 in
        let (w, f_is) = number_of f both.1 in
        both_numbers u w e_is f_is
    by_redex (Some r) at = redex_fits k (branch e f p q) r state (right r at) at

-- expressions without a redex are values, and as many values as expressions
pub ready_values : (es : List Expr) → next_redex_of es ≡ None → (vs : List Val) × (values_of es ≡ Some vs) × (length es ≡ length vs)
ready_values [] h = ([], refl, refl)
ready_values (e ∷ es) h = by_first (next_redex e) refl h (ready_values es)
  where
    by_first : (o : Option Redex) → next_redex e ≡ o → or_else o (next_redex_of es) ≡ None
        → (next_redex_of es ≡ None → (vs : List Val) × (values_of es ≡ Some vs) × (length es ≡ length vs))
        → (vs : List Val) × (values_of (e ∷ es) ≡ Some vs) × (length (e ∷ es) ≡ length vs)
    by_first (Some r) at g more = absurd (none_is_some (sym g))
    by_first None at g more =
        let (v, is) = done_value e at in
        let (vs, are, count) = more g in
        (v ∷ vs, ap (λ x. values_of (x ∷ es)) is ∙ ap (λ o. with_first v o) are, ap suc count)

-- expressions that are values have no redex
pub values_ready : (es : List Expr) (vs : List Val) → values_of es ≡ Some vs → next_redex_of es ≡ None
values_ready [] vs h = refl
values_ready (slot (valued v) ∷ es) vs h = by_rest (values_of es) refl h (λ ws g. values_ready es ws g)
  where
    by_rest : (o : Option (List Val)) → values_of es ≡ o → with_first v o ≡ Some vs → ((ws : List Val) → values_of es ≡ Some ws → next_redex_of es ≡ None)
        → next_redex_of es ≡ None
    by_rest None at g more = absurd (none_is_some g)
    by_rest (Some ws) at g more = more ws at
values_ready (slot (named x) ∷ es) vs h = absurd (none_is_some h)
values_ready (sig e ∷ es) vs h = absurd (none_is_some h)
values_ready (add e f ∷ es) vs h = absurd (none_is_some h)
values_ready (apply qs e ∷ es) vs h = absurd (none_is_some h)
values_ready (measure qs ∷ es) vs h = absurd (none_is_some h)
