-- Each deed lowers the size of what is left, and a communication on both sides.
use Rattle.std.proofs.Common.{◌≡◌, ℕ, true, false, Bool, List, ◌+◌, ◌≤◌, Option, Some, refl, sym, ap, arith, ◌∙◌}
use Rattle.cqp_syntax.specs.declared.op.Op.{Op}
use Rattle.cqp_syntax.specs.declared.val.Val.{Val}
use Rattle.cqp_syntax.specs.declared.val.Val.TheVariants as val
use Rattle.cqp_syntax.specs.Trees.{Slot, valued, slot, Expr, Binder, Process, new, qbit, act, input, output, branch}
use Rattle.cqp_trace.specs.declared.deed.Deed.{Deed}
use Rattle.cqp_trace.specs.declared.deed.Deed.TheVariants as deed
use Rattle.cqp_cells.specs.Redex.{Redex, sum, pick, gate, look, redex_of, reduced_prefix}
use Rattle.cqp_cells.specs.Moves.{Counts, moved, Sending, sends_on, receives_on, by_add, by_pick, by_gate, by_measure}
use Rattle.cqp_syntax.specs.Measures.{size}
use Rattle.cqp_cells.proofs.Options.{none_is_some}
use Rattle.cqp_parts.proofs.Continuations.{provided_is, act_goes_on, chosen, if_goes_on, sent_rest, add_reduces, pick_reduces, gate_reduces, measure_reduces}
use Rattle.cqp_parts.proofs.Continuations.{Reduces}
use Rattle.cqp_steps.proofs.Potentials.{AddsUp, total-flattened}
use Rattle.cqp_steps.proofs.Falls.{cost, Falls}
use Rattle.cqp_short.proofs.SizeLemmas.{is_node, prefix_less, size_with, size_with_values}

-- a deed reduces one, a communication two
abbrev pub size_by : Deed → ℕ
size_by (deed.Com to k) = 2
size_by d = 1

-- a deed that reduces a redex reduces a node
pub add_node : (p : Process) (o : Option Redex) (v : ℕ) (r : Process) → by_add p o v ≡ Some r → is_node o ≡ true
add_node p (Some (sum (slot (valued (val.Num u))) (slot (valued (val.Num w))))) v r h = refl
add_node p o v r h = absurd (none_is_some {x = r} h)

-- a pick has a redex
pub pick_node : (p : Process) (o : Option Redex) (u : Op) (r : Process) → by_pick p o u ≡ Some r → is_node o ≡ true
pick_node p (Some (pick (slot (valued (val.Num w))))) u r h = refl
pick_node p o u r h = absurd (none_is_some {x = r} h)

-- a gate has a redex
pub gate_node : (n : Counts) (p : Process) (o : Option Redex) (u : Op) (qs : List ℕ) (r : Process) → by_gate n p o u qs ≡ Some r → is_node o ≡ true
gate_node n p (Some (gate ss (slot (valued (val.Gate o))))) u qs r h = refl
gate_node n p o u qs r h = absurd (none_is_some {x = r} h)

-- a measurement has a redex
pub measure_node : (n : Counts) (p : Process) (o : Option Redex) (qs : List ℕ) (m : ℕ) (r : Process) → by_measure n p o qs m ≡ Some r → is_node o ≡ true
measure_node n p (Some (look ss)) qs m r h = refl
measure_node n p o qs m r h = absurd (none_is_some {x = r} h)

-- so the size falls by one
of_reduced : (v : Val) (p r : Process) → Reduces v p r → is_node (redex_of p) ≡ true → size r + 1 ≤ size p
of_reduced v p r x node =
    let less = prefix_less v p node in
    let same : size (reduced_prefix v p) ≡ size r = ap size x.is in
    omega arith

-- a binder of a qubit goes
qbit_less : (n : Counts) (p : Process) (q : ℕ) (r : Process) → moved n p (deed.Qbit q) ≡ Some r → size r + 1 ≤ size p
qbit_less n (qbit x p) q r h = let same : size r ≡ size p = ap size (sym (provided_is _ _ r h)) ∙ size_with x (val.Qubit q) p in omega arith
qbit_less n p q r h = absurd (none_is_some {x = r} h)

-- a binder of a channel goes
new_less : (n : Counts) (p : Process) (c : ℕ) (r : Process) → moved n p (deed.New c) ≡ Some r → size r + 1 ≤ size p
new_less n (new b p) c r h = let same : size r ≡ size p = ap size (sym (provided_is _ _ r h)) ∙ size_with b.name (val.Chan c) p in omega arith
new_less n p c r h = absurd (none_is_some {x = r} h)

-- an action goes
act_less : (n : Counts) (p r : Process) → moved n p deed.Act ≡ Some r → size r + 1 ≤ size p
act_less n (act e p) r h = let same : size p ≡ size r = ap size (act_goes_on e p r h) in omega arith
act_less n p r h = absurd (none_is_some {x = r} h)

-- a choice goes, with the branch not taken
chosen_less : (b : Bool) (e f : Expr) (p q r : Process) → chosen b p q ≡ r → size r + 1 ≤ size (branch e f p q)
chosen_less true e f p q r k = let same : size p ≡ size r = ap size k in omega arith
chosen_less false e f p q r k = let same : size q ≡ size r = ap size k in omega arith

-- by its deed
if_less : (n : Counts) (p : Process) (b : Bool) (r : Process) → moved n p (deed.If b) ≡ Some r → size r + 1 ≤ size p
if_less n (branch e f p q) b r h = chosen_less b e f p q r (if_goes_on e f p q b r h)
if_less n p b r h = absurd (none_is_some {x = r} h)

-- a deed of a part's own
pub size_less : (n : Counts) (p : Process) (d : Deed) (r : Process) → moved n p d ≡ Some r → size r + size_by d ≤ size p
size_less n p (deed.Qbit q) r h = qbit_less n p q r h
size_less n p (deed.New c) r h = new_less n p c r h
size_less n p deed.Act r h = act_less n p r h
size_less n p (deed.Add v) r h = of_reduced (val.Num v) p r (add_reduces p (redex_of p) v r refl h) (add_node p (redex_of p) v r h)
size_less n p (deed.Pick o) r h = of_reduced (val.Gate o) p r (pick_reduces p (redex_of p) o r refl h) (pick_node p (redex_of p) o r h)
size_less n p (deed.Gate o qs) r h = of_reduced val.Unit p r (gate_reduces n p (redex_of p) o qs r refl h) (gate_node n p (redex_of p) o qs r h)
size_less n p (deed.Measure qs u) r h = of_reduced (val.Num u) p r (measure_reduces n p (redex_of p) qs u r refl h) (measure_node n p (redex_of p) qs u r h)
size_less n p (deed.If b) r h = if_less n p b r h
size_less n p (deed.Com to c) r h = absurd (none_is_some {x = r} h)

-- a sender is smaller after it has sent
sends_less : (c : ℕ) (p : Process) (s : Sending) → sends_on c p ≡ Some s → size s.rest + 1 ≤ size p
sends_less c (output k es p) s h = let same : size p ≡ size s.rest = ap size (sent_rest c k es p s h) in omega arith
sends_less c p s h = absurd (none_is_some {x = s} h)

-- values for the names of an input leave the size alone
input_less : (c : ℕ) (vs : List Val) (k : Slot) (bs : List Binder) (p r : Process) → receives_on c vs (input k bs p) ≡ Some r → size r ≡ size p
input_less c vs (valued (val.Chan m)) bs p r h = ap size (sym (provided_is _ _ r h)) ∙ size_with_values bs vs p
input_less c vs k bs p r h = absurd (none_is_some {x = r} h)

-- the input goes
receives_less : (c : ℕ) (vs : List Val) (p r : Process) → receives_on c vs p ≡ Some r → size r + 1 ≤ size p
receives_less c vs (input k bs p) r h = let same = input_less c vs k bs p r h in omega arith
receives_less c vs p r h = absurd (none_is_some {x = r} h)

-- the size adds up over processes side by side
pub size_adds : AddsUp size
size_adds = record { none = refl; sides = λ p q. refl }

-- so a process costs its size
cost_of_size : (p : Process) → cost size false p ≡ size p
cost_of_size p = let e = total-flattened size size_adds p in omega arith

-- each deed lowers the size
pub size_falls : Falls size false size_by 1
size_falls = record {
  moves = λ n p d r h. let less = size_less n p d r h in let same = cost_of_size r in omega arith;
  sends = λ k p s h. let less = sends_less k p s h in let same = cost_of_size s.rest in omega arith;
  receives = λ k vs p r h. let less = receives_less k vs p r h in let same = cost_of_size r in omega arith;
  meets = λ to k. refl;
}
