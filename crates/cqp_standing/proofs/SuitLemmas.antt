-- A deed that moves a process suits it.
use Rattle.cqp_standing.specs.Laws.{SuitsLaw, TakesLaw}
use Rattle.cqp_standing.proofs.Closing.{is_there}
use Rattle.std.proofs.Common.{◌≡◌, ℕ, true, Bool, List, ◌==◌, length, is_some, Option, Some, None, refl}
use Rattle.std.proofs.lemmas.Bool.{and_parts}
use Rattle.cqp_syntax.specs.declared.op.Op.{Op}
use Rattle.cqp_syntax.specs.declared.val.Val.{Val}
use Rattle.cqp_syntax.specs.declared.val.Val.TheVariants as val
use Rattle.cqp_syntax.specs.Trees.{valued, Process, new, qbit, act, input, output, branch}
use Rattle.cqp_trace.specs.declared.deed.Deed.{Deed}
use Rattle.cqp_trace.specs.declared.deed.Deed.TheVariants as deed
use Rattle.cqp_cells.specs.Moves.{Counts, moved, by_qbit, by_new, by_act, by_add, by_pick, by_gate, by_measure, by_if, Sending, sends_on, receives_on}
use Rattle.cqp_cells.specs.Redex.{Redex, redex_of}
use Rattle.cqp_cells.proofs.Options.{none_is_some}
use Rattle.cqp_parts.proofs.Continuations.{provided_true}
use Rattle.cqp_standing.specs.Suits.{is_qbit, is_new, is_act, is_branch, suits, takes}

-- a process that makes a qubit is a qubit's binder
qbit_suits : (n : Counts) (p : Process) (q : ℕ) (r : Process) → by_qbit n p q ≡ Some r → is_qbit p ≡ true
qbit_suits n (qbit x p) q r h = refl
qbit_suits n p q r h = absurd (none_is_some {x = r} h)

-- a process that makes a channel is a channel's binder
new_suits : (n : Counts) (p : Process) (k : ℕ) (r : Process) → by_new n p k ≡ Some r → is_new p ≡ true
new_suits n (new b p) k r h = refl
new_suits n p k r h = absurd (none_is_some {x = r} h)

-- one whose action ends is an action
act_suits : (p r : Process) → by_act p ≡ Some r → is_act p ≡ true
act_suits (act e p) r h = refl
act_suits p r h = absurd (none_is_some {x = r} h)

-- one that chooses is a choice
if_suits : (p : Process) (b : Bool) (r : Process) → by_if p b ≡ Some r → is_branch p ≡ true
if_suits (branch e f p q) b r h = refl
if_suits p b r h = absurd (none_is_some {x = r} h)

-- one that adds has a redex
add_suits : (p : Process) (o : Option Redex) (v : ℕ) (r : Process) → by_add p o v ≡ Some r → is_some o ≡ true
add_suits p None v r h = absurd (none_is_some {x = r} h)
add_suits p (Some x) v r h = refl

-- one that picks has a redex
pick_suits : (p : Process) (o : Option Redex) (u : Op) (r : Process) → by_pick p o u ≡ Some r → is_some o ≡ true
pick_suits p None u r h = absurd (none_is_some {x = r} h)
pick_suits p (Some x) u r h = refl

-- one that applies a gate has a redex
gate_suits : (n : Counts) (p : Process) (o : Option Redex) (u : Op) (qs : List ℕ) (r : Process) → by_gate n p o u qs ≡ Some r → is_some o ≡ true
gate_suits n p None u qs r h = absurd (none_is_some {x = r} h)
gate_suits n p (Some x) u qs r h = refl

-- one that measures has a redex
measure_suits : (n : Counts) (p : Process) (o : Option Redex) (qs : List ℕ) (m : ℕ) (r : Process) → by_measure n p o qs m ≡ Some r → is_some o ≡ true
measure_suits n p None qs m r h = absurd (none_is_some {x = r} h)
measure_suits n p (Some x) qs m r h = refl

-- a deed that moves a process suits it
pub moved_suits : (n : Counts) (p : Process) (d : Deed) (r : Process) → moved n p d ≡ Some r → suits p d ≡ true
moved_suits n p (deed.Qbit q) r h = qbit_suits n p q r h
moved_suits n p (deed.New k) r h = new_suits n p k r h
moved_suits n p deed.Act r h = act_suits p r h
moved_suits n p (deed.If b) r h = if_suits p b r h
moved_suits n p (deed.Com to chan) r h = absurd (none_is_some {x = r} h)
moved_suits n p (deed.Add v) r h = add_suits p (redex_of p) v r h
moved_suits n p (deed.Pick o) r h = pick_suits p (redex_of p) o r h
moved_suits n p (deed.Gate o qs) r h = gate_suits n p (redex_of p) o qs r h
moved_suits n p (deed.Measure qs m) r h = measure_suits n p (redex_of p) qs m r h

-- so does a communication the sender
pub sends_suits : (to chan : ℕ) (p : Process) (s : Sending) → sends_on chan p ≡ Some s → suits p (deed.Com to chan) ≡ true
sends_suits to chan (output c es p) s h = refl
sends_suits to chan p s h = absurd (none_is_some {x = s} h)

-- and an input takes as many values as it has names
pub receives_takes : (chan : ℕ) (vs : List Val) (p r : Process) → receives_on chan vs p ≡ Some r → takes p vs ≡ true
receives_takes chan vs (input (valued (val.Chan k)) bs p) r h = (and_parts (k == chan) (length bs == length vs) (provided_true _ _ _ h)).1
receives_takes chan vs p r h = absurd (none_is_some {x = r} h)

-- the law of deeds that move
pub suits_law : SuitsLaw
suits_law n p d h = let there = is_there (moved n p d) h in moved_suits n p d there.0 there.1

-- the law of receivers
pub takes_law : TakesLaw
takes_law chan vs p h = let there = is_there (receives_on chan vs p) h in receives_takes chan vs p there.0 there.1
