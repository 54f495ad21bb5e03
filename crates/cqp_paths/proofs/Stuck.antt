-- What can go on does, and where nothing can, no reduction is left.
use Rattle.std.proofs.Common.{◌≡◌, ◌⊎◌, ℕ, List, Bool, true, false, ◌&&◌, ◌==◌, refl, sym, ap, ◌∙◌}
use Rattle.std.proofs.Common.{arith, inl, inr}
use Rattle.std.specs.Prelude.{Some, None, Option, is_some, is_none, IsSome}
use Rattle.std.proofs.lemmas.Bool.Decides.{nat_tests}
use Rattle.cqp_syntax.specs.declared.val.Val.TheVariants as val
use Rattle.cqp_syntax.specs.Trees.{valued, Expr, Binder, Process, nil, par, new, qbit, act, input, output}
use Rattle.cqp_syntax.specs.Trees.{branch}
use Rattle.cqp_types.specs.Derivations.{Derives}
use Rattle.cqp_trace.specs.declared.deed.Deed.{Deed}
use Rattle.cqp_trace.specs.declared.deed.Deed.TheVariants as deed
use Rattle.cqp_trace.specs.declared.entry.Entry.{Entry}
use Rattle.cqp_vector.specs.State.{State}
use Rattle.cqp_cells.specs.Config.{Config, part_at}
use Rattle.cqp_cells.specs.Examples.{by}
use Rattle.cqp_cells.specs.Redex.{Redex, next_redex_of, redex_of}
use Rattle.cqp_cells.specs.Step.{next, ReductionIsLeft}
use Rattle.cqp_paths.specs.Invariant.{IsInvariant, AllParts}
use Rattle.cqp_paths.specs.Made.{made}
use Rattle.cqp_cells.specs.Norms.{IsState}
use Rattle.cqp_cells.specs.Rows.{Fits, fits_qbit, fits_new, fits_act, fits_add, fits_pick, fits_gate, fits_measure, fits_yes, fits_no, IsAlone, IsMeeting}
use Rattle.cqp_cells.specs.Waiting.{is_waiting, meets_on, IsStuck, CanGoOn}
use Rattle.cqp_cells.proofs.Inversion.{inverted}
use Rattle.cqp_cells.proofs.Forward.{fits_next, meeting_next}
use Rattle.cqp_paths.proofs.Parts.{all-part_at}
use Rattle.cqp_paths.proofs.RightOperands.{prefix_right}
use Rattle.cqp_paths.proofs.ReadyOperands.{prefix_ready, made_under, counts_agree}
use Rattle.cqp_paths.proofs.Progress.{IsPrefix, prefix_fits, ready_values, values_ready}
use Rattle.cqp_cells.proofs.Options.{none_is_some, yes_is_no}

-- a process with a redex doesn't wait
redex_moves : (p : Process) (r : Redex) → redex_of p ≡ Some r → is_waiting p ≡ false
redex_moves nil r at = refl
redex_moves (par p q) r at = refl
redex_moves (new b p) r at = refl
redex_moves (qbit x p) r at = refl
redex_moves (act e p) r at = refl
redex_moves (input c bs p) r at = absurd (none_is_some at)
redex_moves (output c es p) r at = ap is_none at
redex_moves (branch e f p q) r at = refl

-- a process that fits a deed doesn't wait
pub fits_moves : {s : State} {k : ℕ} {p : Process} {d : Deed} → Fits s k p d → is_waiting p ≡ false
fits_moves (fits_qbit same) = refl
fits_moves (fits_new same) = refl
fits_moves fits_act = refl
fits_moves (fits_add {p = p} at same) = redex_moves p _ at
fits_moves (fits_pick {p = p} at same) = redex_moves p _ at
fits_moves (fits_gate {p = p} at have places operands) = redex_moves p _ at
fits_moves (fits_measure {p = p} at have operands below outcome) = redex_moves p _ at
fits_moves (fits_yes same) = refl
fits_moves (fits_no differs) = refl

-- the two parts of a communication meet
pub meeting_meets : {c : Config} {e : Entry} {d : Config} (met : IsMeeting c e d)
    → meets_on met.chan (output (valued (val.Chan met.chan)) met.exprs met.left) (input (valued (val.Chan met.chan)) met.binders met.right) ≡ true
meeting_meets met =
    let same : (met.chan == met.chan) ≡ true = grind (arith, nat_tests) in
    let ready : is_none (next_redex_of met.exprs) ≡ true = ap is_none (values_ready met.exprs met.values met.are_values) in
    rw ready (rw same refl)

-- where each part waits and no two meet, no reduction is left
pub stuck_ends : (c : Config) → IsStuck c → ReductionIsLeft c → ⊥
stuck_ends c stuck left = by_next (next c left.entry) refl left.fits
  where
    by_row : (d : Config) → IsAlone c left.entry d ⊎ IsMeeting c left.entry d → ⊥
    by_row d (inl alone) = yes_is_no (sym (stuck.waits left.entry.part alone.process alone.there) ∙ fits_moves alone.fits)
    by_row d (inr met) = yes_is_no (sym (meeting_meets met) ∙ stuck.apart left.entry.part met.to met.chan _ _ met.sends met.receives)

    by_next : (o : Option Config) → next c left.entry ≡ o → is_some o ≡ true → ⊥
    by_next None at g = yes_is_no (sym g)
    by_next (Some d) at g = by_row d (inverted c left.entry d at)

-- two that meet
record MeetOn (k : ℕ) (p q : Process) : Type 0 where
  exprs : List Expr
  left : Process
  binders : List Binder
  right : Process
  sends : p ≡ output (valued (val.Chan k)) exprs left
  receives : q ≡ input (valued (val.Chan k)) binders right
  ready : next_redex_of exprs ≡ None

-- of a conjunction of three tests that passes, each passes
and_parts : (a b c : Bool) → (a && b && c) ≡ true → (a ≡ true) × (b ≡ true) × (c ≡ true)
and_parts true true true h = (refl, refl, refl)
and_parts true true false h = absurd (yes_is_no (sym h))
and_parts true false c h = absurd (yes_is_no (sym h))
and_parts false b c h = absurd (yes_is_no (sym h))

-- an option that is nothing is `None`
pub none_of : {X : Type 0} (o : Option X) → is_none o ≡ true → o ≡ None
none_of None h = refl
none_of (Some x) h = absurd (yes_is_no (sym h))

-- two processes that meet on a channel are an output and an input on it, and ready
meet_on : (n : ℕ) (p q : Process) → meets_on n p q ≡ true → MeetOn n p q
meet_on n (output (valued (val.Chan k)) es p) (input (valued (val.Chan l)) bs q) h =
    let tests = and_parts (is_none (next_redex_of es)) (k == n) (l == n) h in
    let k_is : k ≡ n = grind (arith, nat_tests) in
    let l_is : l ≡ n = grind (arith, nat_tests) in
    record {
      exprs = es;
      left = p;
      binders = bs;
      right = q;
      sends = ap (λ j. output (valued (val.Chan j)) es p) k_is;
      receives = ap (λ j. input (valued (val.Chan j)) bs q) l_is;
      ready = none_of (next_redex_of es) tests.0;
    }
meet_on n p q h = absurd (yes_is_no (sym h))

-- in what is kept, what can go on does
pub can_go_on : (c : Config) → IsInvariant c → IsState c.state → AllParts IsPrefix c.parts → CanGoOn c
can_go_on c inv state prefixes = record {
  alone = λ i p at moves. alone i p at moves;
  meeting = λ i j k p q at there meets. meeting i j k p q at there
      (meet_on k p q meets);
}
  where
    typed : (i : ℕ) (p : Process) → part_at i c.parts ≡ Some p → Derives (made c.state.qubits inv.carried) p
    typed i p at = all-part_at (Derives (made c.state.qubits inv.carried)) i c.parts p inv.kept.typed at

    alone : (i : ℕ) (p : Process) → part_at i c.parts ≡ Some p → is_waiting p ≡ false → (d : Deed) × IsSome (next c (by i d))
    alone i p at moves =
        let under = made_under c.state.qubits inv.carried in
        let found =
        prefix_fits p (all-part_at IsPrefix i c.parts p prefixes at) moves state (λ r h. prefix_right r under (typed i p at) h)
        (λ h. prefix_ready under (typed i p at) h) in
        (found.0, ap is_some (fits_next c i at found.1))

    meeting : (i j k : ℕ) (p q : Process) → part_at i c.parts ≡ Some p → part_at j c.parts ≡ Some q → MeetOn k p q → IsSome (next c (by i (deed.Com j k)))
    meeting i j k p q at there m =
        let sends = at ∙ ap Some m.sends in
        let receives = there ∙ ap Some m.receives in
        let (vs, are, count) = ready_values m.exprs m.ready in
        let agree = counts_agree k m.exprs m.left m.binders m.right (typed i _ sends) (typed j _ receives) in
        ap is_some (meeting_next c i j k m.exprs m.left m.binders m.right vs sends receives are (sym agree ∙ count))
