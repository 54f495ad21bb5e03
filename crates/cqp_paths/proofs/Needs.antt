-- The qubits that were made and the need of what is left are together at most the need of the process.
use Rattle.std.proofs.Common.{◌≡◌, ◌⊎◌, ℕ, ◌+◌, ◌≤◌, List, [], ◌∷◌, max, Bool, true, false, refl, ap, ◌∙◌, arith, inl, inr}
use Rattle.std.specs.Prelude.{Some, is_some, if◌then◌else◌}
use Rattle.cqp_syntax.specs.declared.val.Val.{Val}
use Rattle.cqp_syntax.specs.declared.val.Val.TheVariants as val
use Rattle.cqp_syntax.specs.Measures.{need}
use Rattle.cqp_syntax.specs.Trees.{Binder, Process, nil, par, new, qbit, act, input, output, branch}
use Rattle.cqp_syntax.specs.Substitution.{with_value, with_values}
use Rattle.cqp_trace.specs.declared.deed.Deed.{Deed}
use Rattle.cqp_trace.specs.declared.entry.Entry.{Entry}
use Rattle.cqp_vector.specs.State.{State}
use Rattle.cqp_cells.specs.Config.{Config, continued, start_of, flattened}
use Rattle.cqp_cells.specs.Redex.{next_redex, reduced, reduced_prefix}
use Rattle.cqp_cells.specs.Step.{next}
use Rattle.cqp_cells.specs.Numbered.{HasNumbers}
use Rattle.cqp_cells.specs.Path.{after}
use Rattle.cqp_cells.specs.Rows.{Fits, fits_qbit, fits_new, fits_act, fits_add, fits_pick, fits_gate, fits_measure, fits_yes, fits_no, process_after}
use Rattle.cqp_cells.specs.Step.{state_after, chans_after}
use Rattle.cqp_cells.specs.Rows.{alone_after, IsAlone, IsMeeting}
use Rattle.cqp_cells.specs.Size.{total}
use Rattle.cqp_cells.proofs.Inversion.{inverted}
use Rattle.cqp_paths.proofs.Parts.{total_of, total_of-append, total-continued, total-numbered, below-start}
use Rattle.cqp_paths.proofs.Along.{kept_along}
use Rattle.cqp_paths.proofs.Smaller.{receiver_stays, next_smaller}

-- a value in the place of a name changes no need
pub need-with_value : (x : ℕ) (v : Val) (p : Process) → need (with_value x v p) ≡ need p
need-with_value x v nil = refl
need-with_value x v (par p q) = omega (arith, need-with_value x v p, need-with_value x v q)
need-with_value x v (new b p) = need-with_value x v p
need-with_value x v (qbit y p) = omega (arith, need-with_value x v p)
need-with_value x v (act e p) = need-with_value x v p
need-with_value x v (input c bs p) = need-with_value x v p
need-with_value x v (output c es p) = need-with_value x v p
need-with_value x v (branch e f p q) = ap (λ n. max n (need (with_value x v q))) (need-with_value x v p) ∙ ap (λ n. max (need p) n) (need-with_value x v q)

-- values in the places of several names change no need
pub need-with_values : (bs : List Binder) (vs : List Val) (p : Process) → need (with_values bs vs p) ≡ need p
need-with_values [] vs p = refl
need-with_values (b ∷ bs) [] p = refl
need-with_values (b ∷ bs) (v ∷ vs) p = need-with_values bs vs (with_value b.name v p) ∙ need-with_value b.name v p

-- a value in the place of a redex changes no need
need-reduced_prefix : (v : Val) (p : Process) → need (reduced_prefix v p) ≡ need p
need-reduced_prefix v nil = refl
need-reduced_prefix v (par p q) = refl
need-reduced_prefix v (new b p) = refl
need-reduced_prefix v (qbit x p) = refl
need-reduced_prefix v (act e p) = refl
need-reduced_prefix v (input c bs p) = refl
need-reduced_prefix v (output c es p) = refl
need-reduced_prefix v (branch e f p q) = by_test (is_some (next_redex e))
  where
    by_test : (b : Bool) → need (if b then branch (reduced v e) f p q else branch e (reduced v f) p q) ≡ max (need p) (need q)
    by_test true = refl
    by_test false = refl

-- the needs of the processes of a flattening sum to the need
pub need-flattened : (p : Process) → total_of need (flattened p) ≡ need p
need-flattened nil = refl
need-flattened (par p q) = omega (arith, total_of-append need (flattened p) (flattened q), need-flattened p, need-flattened q)
need-flattened (new b p) = omega arith
need-flattened (qbit x p) = omega arith
need-flattened (act e p) = omega arith
need-flattened (input c bs p) = omega arith
need-flattened (output c es p) = omega arith
need-flattened (branch e f p q) = omega arith

-- a row makes no more qubits than its process needs less
row_need : {s : State} {k : ℕ} {p : Process} {d : Deed} → Fits s k p d → (state_after d s).qubits + need (process_after d p) ≤ s.qubits + need p
row_need (fits_qbit {x = x} {p = p} {q = q} same) = omega (arith, need-with_value x (val.Qubit q) p)
row_need (fits_new {b = b} {p = p} {k = k} same) = omega (arith, need-with_value b.name (val.Chan k) p)
row_need fits_act = omega arith
row_need (fits_add {p = p} {v = v} at same) = omega (arith, need-reduced_prefix (val.Num v) p)
row_need (fits_pick {p = p} {o = o} at same) = omega (arith, need-reduced_prefix (val.Gate o) p)
row_need (fits_gate {p = p} at have places operands) = omega (arith, need-reduced_prefix val.Unit p)
row_need (fits_measure {p = p} {m = m} at have operands below outcome) = omega (arith, need-reduced_prefix (val.Num m) p)
row_need (fits_yes {p = p} {q = q} same) = grind arith
row_need (fits_no {p = p} {q = q} differs) = grind arith

-- the qubits made and the need of what is left
abbrev pub in_all : Config → ℕ
in_all c = c.state.qubits + total need c.parts

-- an entry makes the qubits made and the need of what is left no greater
next_need : (c : Config) (e : Entry) (d : Config) → next c e ≡ Some d → HasNumbers c → in_all d ≤ in_all c
next_need c e d h below = by_row (inverted c e d h)
  where
    by_row : IsAlone c e d ⊎ IsMeeting c e d → in_all d ≤ in_all c
    by_row (inl alone) =
        let before : Config = record c { state = state_after e.deed c.state; chans = chans_after e.deed c.chans } in
        let now : Process = process_after e.deed alone.process in
        let sums = total-continued need e.part now before alone.process alone.there in
        let row = row_need alone.fits in
        let is : in_all d ≡ in_all (alone_after c e.part alone.process e.deed) = ap in_all alone.becomes in
        omega (arith, sums, row, is, need-flattened now)
    by_row (inr met) =
        let sent : Config = continued e.part met.left c in
        let now : Process = with_values met.binders met.values met.right in
        let first = total-continued need e.part met.left c _ met.sends in
        let second = total-continued need met.to now sent _ (receiver_stays below met) in
        let is : in_all d ≡ in_all (continued met.to now sent) = ap in_all met.becomes in
        omega (arith, first, second, is, need-flattened met.left, need-flattened now, need-with_values met.binders met.values met.right)

-- a bound that each entry keeps
pub record IsWithin (n : ℕ) (c : Config) : Type 0 where
  pub numbers : HasNumbers c
  pub within : in_all c ≤ n

-- a bound that holds before an entry holds after it
pub within_next : (n : ℕ) (c : Config) (e : Entry) (d : Config) → next c e ≡ Some d → IsWithin n c → IsWithin n d
within_next n c e d h is = record { numbers = (next_smaller c e d is.numbers h).0; within = omega (arith, next_need c e d h is.numbers, is.within) }

-- at the start the need of the process is bounded by what bounds it
pub within_start : (p : Process) (n : ℕ) → need p ≤ n → IsWithin n (start_of p)
within_start p n le = record { numbers = below-start p; within = omega (arith, total-numbered need 0 (flattened p), need-flattened p) }

-- after entries of p the qubits made and the need of what is left are together at most the need of p
pub path_need : (p : Process) (es : List Entry) (c : Config) → after (start_of p) es ≡ Some c → c.state.qubits + total need c.parts ≤ need p
path_need p es c h = (kept_along (IsWithin (need p)) (within_next (need p)) es (start_of p) c h (within_start p (need p) (at_most (need p)))).within
  where
    at_most : (n : ℕ) → n ≤ n
    at_most n = omega arith
