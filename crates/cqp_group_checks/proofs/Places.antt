-- What a Bell pair is asked where places were found before.
use Rattle.std.proofs.Common.{◌≡◌, ℕ, ◌<◌, List, [], ◌∷◌, length, refl, sym, ◌∙◌, lit≤, subst}
use Rattle.std.specs.Prelude.{Option, Some, None}
use Rattle.cqp_syntax.specs.declared.op.Op.TheVariants as op
use Rattle.cqp_vector.specs.Places.{ArePlaces}
use Rattle.cqp_machine.specs.Factors.{Held}
use Rattle.cqp_groups.specs.Groups.{ArePlacesOf, CanGateAt, CanMeasure, groups_in}
use Rattle.cqp_group_checks.specs.Pairs.{AreTwo, bell}
use Rattle.cqp_group_checks.proofs.Changes.{held}

-- a place was made
pub made : (slots : List (Option Held)) (a b : Option Held) → AreTwo slots a b → 0 < length slots
made slots a b is = rw is.made (lit≤ tt)

-- X may be applied at the second qubit's place
pub may_flip : (slots : List (Option Held)) (ps : List ℕ) → AreTwo slots (Some bell) None
    → ArePlacesOf slots 0 (1 ∷ []) ps → CanGateAt slots 0 op.X ps
may_flip slots ps is at = record {
  qubits = 1 ∷ [];
  can = record {
    held = held slots bell None (1 ∷ []) is (record { distinct = refl; below = refl });
    count = refl;
    room = λ e. lit≤ tt;
  };
  at = at;
}

-- one group is there
same_held : (a b : Held) → Some a ≡ Some b → a ≡ b
same_held a b e = cc

-- the places are distinct
pub both_places : (slots : List (Option Held)) (ps : List ℕ) → AreTwo slots (Some bell) None
    → ArePlacesOf slots 0 (0 ∷ 1 ∷ []) ps → (g : Held) → groups_in slots 0 ≡ Some g → ArePlaces (length g.qubits) ps
both_places slots ps is at g e =
    subst (λ k. ArePlaces (length k.qubits) ps) (same_held bell g (sym is.first ∙ e))
    (subst (ArePlaces 2) (sym (at bell is.first)) (record { distinct = refl; below = refl }))

-- both may be measured as 3
pub may_measure_both : (slots : List (Option Held)) → AreTwo slots (Some bell) None
    → CanMeasure slots 0 (0 ∷ 1 ∷ []) 3
may_measure_both slots is = record {
  held = held slots bell None (0 ∷ 1 ∷ []) is (record { distinct = refl; below = refl });
  some = refl;
}
