-- A part is typed by the channels and by the qubits that it holds.
use Rattle.std.proofs.Common.{◌≡◌, ℕ, zero, suc, List, [], ◌∷◌, ◌++◌, map, filter, length, Bool, true, false, ◌||◌, ◌==◌, refl, sym, ap, ◌∙◌, arith}
use Rattle.std.specs.Prelude.{Some, None, if◌then◌else◌}
use Rattle.std.proofs.lemmas.Bool.Decides.{nat_tests}
use Rattle.cqp_syntax.specs.declared.val.Val.TheVariants as val
use Rattle.cqp_syntax.specs.TypeTrees.{TypeTree, TypeTrees, qbit_type, chan_type}
use Rattle.cqp_syntax.specs.Trees.{Slot, named, valued, Process}
use Rattle.cqp_syntax.specs.Free.{is_among, free_slots}
use Rattle.cqp_types.specs.Contexts.{Context, entry_type, Has}
use Rattle.cqp_types.specs.Derivations.{Derives}
use Rattle.cqp_syntax.proofs.Bools.{fails}
use Rattle.cqp_types.proofs.Relevance.{process_kept}
use Rattle.cqp_cells.specs.Config.{Config}
use Rattle.cqp_paths.specs.Invariant.{IsInvariant}
use Rattle.cqp_paths.specs.Made.{made, qubits_below, qubit_slot, chan_slot}
use Rattle.cqp_paths.specs.Safe.{channels, is_qubit, owned, IsTyped}
use Rattle.cqp_paths.proofs.Made.{made_qubit, made_name}
use Rattle.cqp_paths.proofs.Parts.{all_parts_map}

-- entries for the qubits among slots
abbrev qubits_among : List Slot → Context
qubits_among ss = map (λ s. record { slot = s; ty = qbit_type }) (filter is_qubit ss)

-- a qubit among slots has type Qbit in the entries for these
found : (q : ℕ) (ss : List Slot) (h : Context) → is_among (qubit_slot q) ss ≡ true → entry_type (qubits_among ss ++ h) (qubit_slot q) ≡ Some qbit_type
found q [] h i = absurd (fails i)
found q (named x ∷ ss) h i = found q ss h i
found q (valued (val.Num u) ∷ ss) h i = found q ss h i
found q (valued val.Unit ∷ ss) h i = found q ss h i
found q (valued (val.Gate o) ∷ ss) h i = found q ss h i
found q (valued (val.Chan k) ∷ ss) h i = found q ss h i
found q (valued (val.Qubit r) ∷ ss) h i = by_test (r == q) refl i (found q ss h)
  where
    by_test : (b : Bool) → (r == q) ≡ b → ((q == r) || is_among (qubit_slot q) ss) ≡ true
        → (is_among (qubit_slot q) ss ≡ true → entry_type (qubits_among ss ++ h) (qubit_slot q) ≡ Some qbit_type)
        → (if b then Some qbit_type else entry_type (qubits_among ss ++ h) (qubit_slot q)) ≡ Some qbit_type
    by_test true e g more = refl
    by_test false e g more = let back : (q == r) ≡ false = grind (arith, nat_tests) in more (rw back at g)

-- the entries for qubits among slots say nothing of channels
no_channels : (k : ℕ) (ss : List Slot) (h : Context) → entry_type (qubits_among ss ++ h) (chan_slot k) ≡ entry_type h (chan_slot k)
no_channels k [] h = refl
no_channels k (named x ∷ ss) h = no_channels k ss h
no_channels k (valued (val.Num u) ∷ ss) h = no_channels k ss h
no_channels k (valued val.Unit ∷ ss) h = no_channels k ss h
no_channels k (valued (val.Gate o) ∷ ss) h = no_channels k ss h
no_channels k (valued (val.Chan j) ∷ ss) h = no_channels k ss h
no_channels k (valued (val.Qubit r) ∷ ss) h = no_channels k ss h

-- the entries for qubits say nothing of channels
below_says_none : (k n : ℕ) → entry_type (qubits_below n) (chan_slot k) ≡ None
below_says_none k zero = refl
below_says_none k (suc n) = below_says_none k n

-- of a channel the context of all that was made says what that of channels says
channels_alone : (k n : ℕ) (carried : List TypeTrees) → entry_type (made n carried) (chan_slot k) ≡ entry_type (channels carried) (chan_slot k)
channels_alone k n [] = below_says_none k n
channels_alone k n (ts ∷ carried) = ap (λ o. if length carried == k then Some (chan_type ts) else o) (channels_alone k n carried)

-- a slot that is free in a process has its type by the channels and by the qubits that the process holds
owned_has : (n : ℕ) (carried : List TypeTrees) (p : Process) (s : Slot) (t : TypeTree) → is_among s (free_slots p) ≡ true → Has (made n carried) s t
    → Has (owned p ++ channels carried) s t
owned_has n carried p (named x) t i h = absurd (made_name n carried x t h)
owned_has n carried p (valued (val.Qubit q)) t i h = found q (free_slots p) (channels carried) i ∙ ap Some (sym (made_qubit n carried q t h).1)
owned_has n carried p (valued (val.Chan k)) t i h = no_channels k (free_slots p) (channels carried) ∙ sym (channels_alone k n carried) ∙ h
owned_has n carried p (valued v) t i h = h

-- where the invariant holds, each part is typed by the channels and the qubits that it owns
pub typed_by_owned : (c : Config) → IsInvariant c → IsTyped c
typed_by_owned c inv = record {
  carried = inv.carried;
  count = inv.kept.count;
  parts = all_parts_map (Derives (made c.state.qubits inv.carried)) (λ p. Derives (owned p ++ channels inv.carried) p)
      (λ p d. process_kept (made c.state.qubits inv.carried) (owned p ++ channels inv.carried)
      (owned_has c.state.qubits inv.carried p) d) c.parts inv.kept.typed;
}
