-- What changes of two groups leave, and that the calls for them may be made.
use Rattle.std.proofs.Common.{◌≡◌, ℕ, List, [], ◌∷◌, length, refl, ap, ◌∙◌, arith, lit≤}
use Rattle.std.specs.Prelude.{Option, Some, None}
use Rattle.cqp_syntax.specs.declared.op.Op.{Op}
use Rattle.cqp_syntax.specs.declared.op.Op.TheVariants as op
use Rattle.cqp_trace.specs.declared.deed.Deed.TheVariants as deed
use Rattle.cqp_vector.specs.Places.{ArePlaces}
use Rattle.cqp_machine.specs.Factors.{Held, gated, measured, joined, places_in}
use Rattle.cqp_machine.specs.After.{becomes, groups_by, groups_joined, product_of}
use Rattle.cqp_groups.specs.Groups.{CanGate, CanMeasure, CanPair, IsHeld, as_cells, groups_in}
use Rattle.cqp_group_checks.specs.Pairs.{AreTwo, alone, turned, both, bell}

-- two new qubits are two groups
pub two_alone : (slots : List (Option Held)) → slots ≡ Some (alone 0) ∷ Some (alone 1) ∷ []
    → AreTwo slots (Some (alone 0)) (Some (alone 1))
two_alone slots e = rw e (record { first = refl; second = refl; made = refl })

-- a gate on the first group
pub gate_leaves : (old new : List (Option Held)) (a : Held) (b : Option Held) (o : Op) (qs : List ℕ)
    → AreTwo old (Some a) b → groups_in new ≡ groups_by (as_cells old) (deed.Gate o qs) 0 → length new ≡ length old
    → AreTwo new (Some (gated o qs a)) b
gate_leaves old new a b o qs is by made = record {
  first = ap (λ f. f 0) by ∙ ap (becomes (gated o qs)) is.first;
  second = ap (λ f. f 1) by ∙ is.second;
  made = made ∙ is.made;
}

-- a measurement of the first group
pub measured_leaves : (old new : List (Option Held)) (a : Held) (b : Option Held) (qs : List ℕ) (m : ℕ)
    → AreTwo old (Some a) b → groups_in new ≡ groups_by (as_cells old) (deed.Measure qs m) 0
    → length new ≡ length old → AreTwo new (Some (measured qs m a)) b
measured_leaves old new a b qs m is by made = record {
  first = ap (λ f. f 0) by ∙ ap (becomes (measured qs m)) is.first;
  second = ap (λ f. f 1) by ∙ is.second;
  made = made ∙ is.made;
}

-- a join of both
pub join_leaves : (old new : List (Option Held)) (a b : Held) → AreTwo old (Some a) (Some b)
    → groups_in new ≡ groups_joined (as_cells old) 0 1 → length new ≡ length old → AreTwo new (Some (joined a b)) None
join_leaves old new a b is by made = record {
  first = ap (λ f. f 0) by ∙ (ap (λ x. product_of x (groups_in old 1)) is.first ∙ ap (product_of (Some a)) is.second);
  second = ap (λ f. f 1) by;
  made = made ∙ is.made;
}

-- the first group has these qubits at distinct places
abbrev pub held : (slots : List (Option Held)) (a : Held) (b : Option Held) (qs : List ℕ) → AreTwo slots (Some a) b
    → ArePlaces (length a.qubits) (places_in a.qubits qs) → IsHeld slots 0 qs
held slots a b qs is places = record { before = a; there = is.first; places = places }

-- H may be applied to the first qubit
pub may_turn : (slots : List (Option Held)) → AreTwo slots (Some (alone 0)) (Some (alone 1))
    → CanGate slots 0 op.H (0 ∷ [])
may_turn slots is = record {
  held = held slots (alone 0) (Some (alone 1)) (0 ∷ []) is (record { distinct = refl; below = refl });
  count = refl;
  room = λ e. lit≤ tt;
}

-- both may be joined
pub may_join : (slots : List (Option Held)) → AreTwo slots (Some turned) (Some (alone 1)) → CanPair slots 0 1
may_join slots is = record {
  apart = λ e. omega (arith, e);
  first = turned;
  first_there = is.first;
  second = alone 1;
  second_there = is.second;
  can = record { apart = refl; few = lit≤ tt; levels = lit≤ tt };
}

-- CNot may be applied to both
pub may_cnot : (slots : List (Option Held)) → AreTwo slots (Some both) None → CanGate slots 0 op.CNot (0 ∷ 1 ∷ [])
may_cnot slots is = record {
  held = held slots both None (0 ∷ 1 ∷ []) is (record { distinct = refl; below = refl });
  count = refl;
  room = λ e. lit≤ tt;
}

-- the first qubit of a Bell pair may be measured as 1
pub may_measure : (slots : List (Option Held)) → AreTwo slots (Some bell) None → CanMeasure slots 0 (0 ∷ []) 1
may_measure slots is = record {
  held = held slots bell None (0 ∷ []) is (record { distinct = refl; below = refl });
  some = refl;
}
