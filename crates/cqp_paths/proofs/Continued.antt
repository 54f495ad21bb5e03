-- What is kept where one part goes on, and where a qubit or a channel is made.
use Rattle.std.proofs.Common.{◌≡◌, ℕ, suc, ◌+◌, ◌<◌, ◌≤◌, List, [], ◌∷◌, length, Bool, true, false, refl, sym, subst, ◌⊎◌, inl, inr, arith}
use Rattle.std.specs.Prelude.{Some, if◌then◌else◌}
use Rattle.cqp_syntax.specs.TypeTrees.{TypeTrees}
use Rattle.cqp_syntax.specs.Trees.{Process}
use Rattle.cqp_types.specs.Derivations.{Derives}
use Rattle.cqp_types.proofs.Relevance.{weakened}
use Rattle.cqp_types.proofs.Known.{free_known}
use Rattle.cqp_syntax.proofs.Bools.{decide, fails}
use Rattle.cqp_vector.specs.State.{State, grown}
use Rattle.cqp_cells.specs.Config.{Config, Part, part_at, continued}
use Rattle.cqp_paths.specs.Invariant.{IsKept, AllParts, held}
use Rattle.cqp_paths.specs.Made.{made, qubit_slot}
use Rattle.cqp_cells.specs.Owners.{holds}
use Rattle.cqp_syntax.specs.Binders.{HasDistinctBinders}
use Rattle.cqp_cells.specs.Size.{total}
use Rattle.cqp_paths.proofs.Made.{made_qubit, more_qubits, more_chans}
use Rattle.cqp_paths.proofs.Flattening.{AreQubitsTyped, flat_typed, flat_held, flat_binders}
use Rattle.cqp_paths.proofs.Parts.{total-continued, all-continued, all_parts_map, below-continued, below-part_at}

-- a process holds a qubit at most once
pub held_once : (q : ℕ) (p : Process) → held q p ≤ 1
held_once q p = by_test (holds q p)
  where
    by_test : (b : Bool) → (if b then 1 else 0) ≤ 1
    by_test true = omega arith
    by_test false = omega arith

-- where holding one process implies holding another
pub held_less : (q : ℕ) (p r : Process) → (holds q p ≡ true → holds q r ≡ true) → held q p ≤ held q r
held_less q p r implies = by_tests (holds q p) (holds q r) implies
  where
    by_tests : (b c : Bool) → (b ≡ true → c ≡ true) → (if b then 1 else 0) ≤ (if c then 1 else 0)
    by_tests true true f = omega arith
    by_tests true false f = absurd (fails (f refl))
    by_tests false c f = omega arith

-- a qubit that a process holds counts as 1
pub held_yes : (q : ℕ) (p : Process) → holds q p ≡ true → held q p ≡ 1
held_yes q p h = rw h refl

-- a qubit that a process doesn't hold counts as 0
pub held_no : (q : ℕ) (p : Process) → (holds q p ≡ true → ⊥) → held q p ≡ 0
held_no q p none = decide (holds q p) (λ h. absurd (none h)) (λ h. rw h refl)

-- in the context of all that was made qubits have type Qbit
pub qubits_typed : (n : ℕ) (carried : List TypeTrees) → AreQubitsTyped (made n carried)
qubits_typed n carried q t h = (made_qubit n carried q t h).1

-- a part goes on as a process that is typed and holds no more than it did, or what nobody held
pub well_continued : (carried : List TypeTrees) (c : Config) → IsKept carried c → (i : ℕ) (p now : Process) → part_at i c.parts ≡ Some p
    → Derives (made c.state.qubits carried) now → HasDistinctBinders now
    → ((q : ℕ) → (held q now ≤ held q p) ⊎ (total (held q) c.parts ≡ 0)) → IsKept carried (continued i now c)
well_continued carried c inv i p now at typed binders holds_less = record {
  numbers = below-continued i now c (below-part_at c.made i c.parts p inv.numbers at) inv.numbers;
  count = inv.count;
  typed = all-continued (Derives (made c.state.qubits carried)) i now c (flat_typed typed) inv.typed;
  binders = all-continued HasDistinctBinders i now c (flat_binders now binders) inv.binders;
  owned = λ q. once q (holds_less q);
}
  where
    once : (q : ℕ) → (held q now ≤ held q p) ⊎ (total (held q) c.parts ≡ 0) → total (held q) (continued i now c).parts ≤ 1
    once q (inl less) =
        omega (arith, total-continued (held q) i now c p at, flat_held q (qubits_typed c.state.qubits carried) typed, inv.owned q, less)
    once q (inr none) =
        omega (arith, total-continued (held q) i now c p at, flat_held q (qubits_typed c.state.qubits carried) typed, none, held_once q now)

-- what is kept is kept with another state of as many qubits
pub state_kept : (carried : List TypeTrees) (c : Config) (s : State) → s.qubits ≡ c.state.qubits → IsKept carried c → IsKept carried (record c { state = s })
state_kept carried c s same inv = record {
  numbers = inv.numbers;
  count = inv.count;
  typed = subst (λ n. AllParts (Derives (made n carried)) c.parts) (sym same) inv.typed;
  binders = inv.binders;
  owned = inv.owned;
}

-- one more than n
pub up : (n : ℕ) → suc n ≡ n + 1
up n = omega arith

-- what is kept is kept where a qubit is made
pub qubit_kept : (carried : List TypeTrees) (c : Config) → IsKept carried c → IsKept carried (record c { state = grown c.state })
qubit_kept carried c inv = record {
  numbers = inv.numbers;
  count = inv.count;
  typed = subst (λ n. AllParts (Derives (made n carried)) c.parts) (up c.state.qubits)
      (all_parts_map (Derives (made c.state.qubits carried)) (Derives (made (suc c.state.qubits) carried))
      (λ p d. weakened (made c.state.qubits carried) (made (suc c.state.qubits) carried)
      (λ s t h. more_qubits c.state.qubits carried s t h) d) c.parts inv.typed);
  binders = inv.binders;
  owned = inv.owned;
}

-- if two numbers are one, so are their successors
pub one_more : (m n : ℕ) → m ≡ n → suc m ≡ n + 1
one_more m n same = omega arith

-- what is kept is kept where a channel is made, with what it carries
pub chan_kept : (carried : List TypeTrees) (c : Config) (ts : TypeTrees) → IsKept carried c → IsKept (ts ∷ carried) (record c { chans = c.chans + 1 })
chan_kept carried c ts inv = record {
  numbers = inv.numbers;
  count = one_more (length carried) c.chans inv.count;
  typed = all_parts_map (Derives (made c.state.qubits carried)) (Derives (made c.state.qubits (ts ∷ carried)))
      (λ p d. weakened (made c.state.qubits carried) (made c.state.qubits (ts ∷ carried))
      (λ s t h. more_chans c.state.qubits ts carried s t h) d) c.parts inv.typed;
  binders = inv.binders;
  owned = inv.owned;
}

-- a process that is typed holds only qubits that were made
pub held_made : (n : ℕ) (carried : List TypeTrees) (q : ℕ) {p : Process} → Derives (made n carried) p → holds q p ≡ true → q < n
held_made n carried q d h = let known = free_known (made n carried) (qubit_slot q) d h in (made_qubit n carried q known.0 known.1).0

-- nobody holds a qubit that wasn't made
pub none_held : (n : ℕ) (carried : List TypeTrees) (q : ℕ) → n ≤ q → (parts : List Part) → AllParts (Derives (made n carried)) parts → total (held q) parts ≡ 0
none_held n carried q more [] all = refl
none_held n carried q more (part ∷ parts) all =
    let first : held q part.process ≡ 0 = held_no q part.process (λ h. below (held_made n carried q all.0 h)) in
    omega (arith, first, none_held n carried q more parts all.1)
  where
    below : q < n → ⊥
    below less = omega arith
