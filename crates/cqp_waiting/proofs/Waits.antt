-- A process that is ready at a channel: it is so at one channel alone, and no deed of its own moves it.
use Rattle.std.proofs.Common.{◌≡◌, ℕ, true, false, Bool, List, [], ◌∷◌, length, ◌==◌, is_some, if◌then◌else◌, Option, Some, None, refl, sym, ap, ◌∙◌}
use Rattle.std.proofs.lemmas.Bool.{and_parts, eqb-true}
use Rattle.std.specs.Option.{option_and_then}
use Rattle.cqp_syntax.specs.declared.val.Val.{Val}
use Rattle.cqp_syntax.specs.declared.val.Val.TheVariants as val
use Rattle.cqp_syntax.specs.Trees.{Slot, valued, Expr, slot, Binder, Process, input, output}
use Rattle.cqp_trace.specs.declared.deed.Deed.{Deed}
use Rattle.cqp_trace.specs.declared.deed.Deed.TheVariants as deed
use Rattle.cqp_cells.specs.Redex.{with_first, values_of, next_redex_of}
use Rattle.cqp_cells.specs.Moves.{provided, Counts, moved, by_add, by_pick, by_gate, by_measure, Sending, sends_with, sends_on, receives_on}
use Rattle.cqp_machine.specs.Enabled.{waits_for}
use Rattle.cqp_cells.proofs.Options.{none_is_some, same_some}
use Rattle.cqp_parts.proofs.Continuations.{provided_true}

-- the channel of an input or an output
abbrev pub chan_at : Process → Option ℕ
chan_at (output (valued (val.Chan k)) es p) = Some k
chan_at (input (valued (val.Chan k)) bs p) = Some k
chan_at p = None

-- a test behind another
both_true : (a b : Bool) → (if a then b else false) ≡ true → (a ≡ true) × (b ≡ true)
both_true true b h = (refl, h)
both_true false b h = cc

-- one that waits stands at that channel
pub waits_at : (k : ℕ) (p : Process) (b : Bool) → waits_for k p ≡ Some b → chan_at p ≡ Some k
waits_at k (output (valued (val.Chan m)) es p) b h = ap Some (eqb-true m k (both_true (m == k) (is_some (values_of es)) (provided_true _ _ _ h)).0)
waits_at k (input (valued (val.Chan m)) bs p) b h = ap Some (eqb-true m k (provided_true _ _ _ h))
waits_at k p b h = absurd (none_is_some {x = b} h)

-- so does a sender
sent_at : (m k : ℕ) (x : Option Sending) (s : Sending) → option_and_then (λ s. provided (m == k) s) x ≡ Some s → m ≡ k
sent_at m k (Some t) s h = eqb-true m k (provided_true _ _ _ h)
sent_at m k None s h = absurd (none_is_some {x = s} h)

-- so does a sender, at its channel
pub sender_at : (k : ℕ) (p : Process) (s : Sending) → sends_on k p ≡ Some s → chan_at p ≡ Some k
sender_at k (output (valued (val.Chan m)) es p) s h = ap Some (sent_at m k (sends_with p (values_of es)) s h)
sender_at k p s h = absurd (none_is_some {x = s} h)

-- and a receiver
pub receiver_at : (k : ℕ) (vs : List Val) (p r : Process) → receives_on k vs p ≡ Some r → chan_at p ≡ Some k
receiver_at k vs (input (valued (val.Chan m)) bs p) r h =
    ap Some (eqb-true m k (and_parts (m == k) (length bs == length vs) (provided_true _ _ _ h)).0)
receiver_at k vs p r h = absurd (none_is_some {x = r} h)

-- at one channel alone
pub one_chan : (p : Process) (j k : ℕ) → chan_at p ≡ Some j → chan_at p ≡ Some k → j ≡ k
one_chan p j k x y = same_some {x = j} {y = k} (sym x ∙ y)

-- where all expressions are values, nothing is to be reduced
rest_some : (v : Val) (x : Option (List Val)) → is_some (with_first v x) ≡ true → is_some x ≡ true
rest_some v (Some vs) h = refl
rest_some v None h = cc

-- values leave nothing to reduce
pub values_idle : (es : List Expr) → is_some (values_of es) ≡ true → next_redex_of es ≡ None
values_idle [] h = refl
values_idle (slot (valued v) ∷ es) h = values_idle es (rest_some v (values_of es) h)
values_idle (e ∷ es) h = cc

-- a ready output has values alone
pub ready_values : (k : ℕ) (c : Slot) (es : List Expr) (p : Process) (b : Bool) → waits_for k (output c es p) ≡ Some b → is_some (values_of es) ≡ true
ready_values k (valued (val.Chan m)) es p b h = (both_true (m == k) (is_some (values_of es)) (provided_true _ _ _ h)).1
ready_values k c es p b h = absurd (none_is_some {x = b} h)

-- an input makes no deed of its own
input_idle : (n : Counts) (c : Slot) (bs : List Binder) (p : Process) (d : Deed) (r : Process) → moved n (input c bs p) d ≡ Some r → ⊥
input_idle n c bs p (deed.Qbit q) r h = none_is_some {x = r} h
input_idle n c bs p (deed.New k) r h = none_is_some {x = r} h
input_idle n c bs p deed.Act r h = none_is_some {x = r} h
input_idle n c bs p (deed.Add v) r h = none_is_some {x = r} h
input_idle n c bs p (deed.Pick o) r h = none_is_some {x = r} h
input_idle n c bs p (deed.Gate o qs) r h = none_is_some {x = r} h
input_idle n c bs p (deed.Measure qs m) r h = none_is_some {x = r} h
input_idle n c bs p (deed.If b) r h = none_is_some {x = r} h
input_idle n c bs p (deed.Com to k) r h = none_is_some {x = r} h

-- nor does an output without a redex
output_idle : (n : Counts) (c : Slot) (es : List Expr) (p : Process) (d : Deed) (r : Process) → next_redex_of es ≡ None
    → moved n (output c es p) d ≡ Some r → ⊥
output_idle n c es p (deed.Qbit q) r e h = none_is_some {x = r} h
output_idle n c es p (deed.New k) r e h = none_is_some {x = r} h
output_idle n c es p deed.Act r e h = none_is_some {x = r} h
output_idle n c es p (deed.Add v) r e h = none_is_some {x = r} (sym (ap (λ x. by_add (output c es p) x v) e) ∙ h)
output_idle n c es p (deed.Pick o) r e h = none_is_some {x = r} (sym (ap (λ x. by_pick (output c es p) x o) e) ∙ h)
output_idle n c es p (deed.Gate o qs) r e h = none_is_some {x = r} (sym (ap (λ x. by_gate n (output c es p) x o qs) e) ∙ h)
output_idle n c es p (deed.Measure qs m) r e h = none_is_some {x = r} (sym (ap (λ x. by_measure n (output c es p) x qs m) e) ∙ h)
output_idle n c es p (deed.If b) r e h = none_is_some {x = r} h
output_idle n c es p (deed.Com to k) r e h = none_is_some {x = r} h

-- a process that is ready at a channel makes no deed of its own
pub waits_idle : (n : Counts) (k : ℕ) (p : Process) (d : Deed) (r : Process) (b : Bool) → waits_for k p ≡ Some b → moved n p d ≡ Some r → ⊥
waits_idle n k (output c es p) d r b w h = output_idle n c es p d r (values_idle es (ready_values k c es p b w)) h
waits_idle n k (input c bs p) d r b w h = input_idle n c bs p d r h
waits_idle n k p d r b w h = none_is_some {x = b} w
