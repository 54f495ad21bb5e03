-- The turn of a process, from the values of its next redex's operands.
use Rattle.std.proofs.Common.{◌≡◌, ℕ, List, [], ◌∷◌, map, ◌+◌, ◌%◌, ◌^◌, Option, Some, None, refl, sym, ap, ◌∙◌}
use Rattle.std.specs.Prelude.{IsSome}
use Rattle.cqp_syntax.specs.declared.val.Val.{Val}
use Rattle.cqp_syntax.specs.declared.val.Val.TheVariants as val
use Rattle.cqp_syntax.specs.Trees.{Slot, named, valued, value}
use Rattle.cqp_cells.specs.Moves.{picked}
use Rattle.cqp_cells.specs.Redex.{sum, pick, gate, look, qubits_of, with_first}
use Rattle.cqp_parts.specs.declared.bind.Bind.{Bind}
use Rattle.cqp_turns.specs.declared.turn.Turn.TheVariants as turn
use Rattle.cqp_parts.specs.Bound.{slot_bound}
use Rattle.cqp_standing.specs.Stands.{val_of, val_or_unit}
use Rattle.cqp_turns.specs.Turns.{number_of, gate_in, qubit_in, gate_turn, look_turn, turn_by}
use Rattle.cqp_standing.proofs.Bindings.{slots_bound, slots_in, found_in}
use Rattle.cqp_standing.proofs.Operands.{stays_open}

-- the turn of a sum, where it has one
pub sum_turn : (a b : Val) → IsSome (turn_by (sum (value a) (value b)))
    → turn_by (sum (value a) (value b)) ≡ Some (turn.Add ((number_of a + number_of b) % 2 ^ 32))
sum_turn (val.Num u) (val.Num w) h = refl
sum_turn (val.Num u) val.Unit h = absurd (cc h)
sum_turn (val.Num u) (val.Gate o) h = absurd (cc h)
sum_turn (val.Num u) (val.Qubit q) h = absurd (cc h)
sum_turn (val.Num u) (val.Chan k) h = absurd (cc h)
sum_turn val.Unit b h = absurd (cc h)
sum_turn (val.Gate o) b h = absurd (cc h)
sum_turn (val.Qubit q) b h = absurd (cc h)
sum_turn (val.Chan k) b h = absurd (cc h)

-- the turn of a pick, where it has one
pub pick_turn : (a : Val) → IsSome (turn_by (pick (value a))) → turn_by (pick (value a)) ≡ Some (turn.Pick (picked (number_of a)))
pick_turn (val.Num u) h = refl
pick_turn val.Unit h = absurd (cc h)
pick_turn (val.Gate o) h = absurd (cc h)
pick_turn (val.Qubit q) h = absurd (cc h)
pick_turn (val.Chan k) h = absurd (cc h)

-- the qubits of names
abbrev pub qubits_at : List Bind → List ℕ → List ℕ
qubits_at bs xs = map (λ x. qubit_in (val_or_unit (val_of x bs))) xs

-- the qubits of slots, where the first is a value
first_qubit : (v : Val) (ss : List Slot) (qs rs : List ℕ) → ((us : List ℕ) → qubits_of ss ≡ Some us → us ≡ qs) → qubits_of (valued v ∷ ss) ≡ Some rs
    → rs ≡ qubit_in v ∷ qs
first_qubit (val.Qubit q) ss qs rs later h = go (qubits_of ss) refl h
  where
    go : (o : Option (List ℕ)) → qubits_of ss ≡ o → with_first q o ≡ Some rs → rs ≡ q ∷ qs
    go (Some us) k j = let same : q ∷ us ≡ rs = cc j in sym same ∙ ap (λ ts. q ∷ ts) (later us k)
    go None k j = absurd (cc j)
first_qubit (val.Num u) ss qs rs later h = absurd (cc h)
first_qubit val.Unit ss qs rs later h = absurd (cc h)
first_qubit (val.Gate o) ss qs rs later h = absurd (cc h)
first_qubit (val.Chan k) ss qs rs later h = absurd (cc h)

-- the qubits of names, where the first has this value
qubits_by : (bs : List Bind) (x : ℕ) (xs rs : List ℕ) (o : Option Val) → val_of x bs ≡ o
    → ((us : List ℕ) → qubits_of (map (slot_bound bs) (map named xs)) ≡ Some us → us ≡ qubits_at bs xs)
    → qubits_of (slot_bound bs (named x) ∷ map (slot_bound bs) (map named xs)) ≡ Some rs → rs ≡ qubit_in (val_or_unit o) ∷ qubits_at bs xs
qubits_by bs x xs rs (Some v) k later h =
    first_qubit v (map (slot_bound bs) (map named xs)) (qubits_at bs xs) rs later
    (ap (λ s. qubits_of (s ∷ map (slot_bound bs) (map named xs))) (sym (found_in bs x v k)) ∙ h)
qubits_by bs x xs rs None k later h =
    let none : None ≡ Some rs = ap (λ s. qubits_of (s ∷ map (slot_bound bs) (map named xs))) (sym (stays_open bs x k)) ∙ h in absurd (cc none)

-- the qubits of names are those that are told
told_qubits : (bs : List Bind) (xs : List ℕ) (rs : List ℕ) → qubits_of (map (slot_bound bs) (map named xs)) ≡ Some rs → rs ≡ qubits_at bs xs
told_qubits bs [] rs h = let same : [] ≡ rs = cc h in sym same
told_qubits bs (x ∷ xs) rs h = qubits_by bs x xs rs (val_of x bs) refl (told_qubits bs xs) h

-- so they are in slots with bindings
pub told_slots : (bs : List Bind) (xs : List ℕ) (rs : List ℕ) → qubits_of (slots_bound bs (map named xs)) ≡ Some rs → rs ≡ qubits_at bs xs
told_slots bs xs rs h = told_qubits bs xs rs (ap qubits_of (sym (slots_in bs (map named xs))) ∙ h)

-- a gate, and a measurement
pub gate_turn_is : (bs : List Bind) (xs : List ℕ) (a : Val) → IsSome (turn_by (gate (slots_bound bs (map named xs)) (value a)))
    → turn_by (gate (slots_bound bs (map named xs)) (value a)) ≡ Some (turn.Gate (gate_in a) (qubits_at bs xs))
gate_turn_is bs xs (val.Gate o) h = go (qubits_of (slots_bound bs (map named xs))) refl h
  where
    go : (q : Option (List ℕ)) → qubits_of (slots_bound bs (map named xs)) ≡ q → IsSome (gate_turn o q) → gate_turn o q ≡ Some (turn.Gate o (qubits_at bs xs))
    go (Some rs) k j = ap (λ qs. Some (turn.Gate o qs)) (told_slots bs xs rs k)
    go None k j = absurd (cc j)
gate_turn_is bs xs (val.Num u) h = absurd (cc h)
gate_turn_is bs xs val.Unit h = absurd (cc h)
gate_turn_is bs xs (val.Qubit q) h = absurd (cc h)
gate_turn_is bs xs (val.Chan k) h = absurd (cc h)

-- the turn of a measurement
pub look_turn_is : (bs : List Bind) (xs : List ℕ) → IsSome (turn_by (look (slots_bound bs (map named xs))))
    → turn_by (look (slots_bound bs (map named xs))) ≡ Some (turn.Measure (qubits_at bs xs))
look_turn_is bs xs h = go (qubits_of (slots_bound bs (map named xs))) refl h
  where
    go : (q : Option (List ℕ)) → qubits_of (slots_bound bs (map named xs)) ≡ q → IsSome (look_turn q) → look_turn q ≡ Some (turn.Measure (qubits_at bs xs))
    go (Some rs) k j = ap (λ qs. Some (turn.Measure qs)) (told_slots bs xs rs k)
    go None k j = absurd (cc j)
