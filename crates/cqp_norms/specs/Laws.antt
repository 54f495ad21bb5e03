-- Laws of groups that stand for a state: what is done to a group is done to the whole.
use Rattle.std.specs.Prelude.{◌≡◌, ◌≢◌, ℕ, ◌+◌, ◌-◌, List, [], Some, None, true}
use Rattle.std.specs.List.{list_all}
use Rattle.cqp_book.specs.Keys.{has}
use Rattle.cqp_ring.specs.Root.{norm_of, norm_sum, root_product}
use Rattle.cqp_syntax.specs.declared.op.Op.{Op}
use Rattle.cqp_vector.specs.State.{State, grown}
use Rattle.cqp_vector.specs.Gate.{gate_of}
use Rattle.cqp_vector.specs.Measurement.{projected}
use Rattle.cqp_vector.specs.Group.{factors_left_out}
use Rattle.cqp_vector.specs.Least.{root2_power}
use Rattle.cqp_machine.specs.After.{lesser}
use Rattle.cqp_machine.specs.Cells.{Cells, with_at}
use Rattle.cqp_machine.specs.Factors.{Held, gated, measured, joined, new_group}
use Rattle.cqp_machine.specs.Sums.{exponents, norms}
use Rattle.cqp_places.specs.Places.{IsDistinct}
use Rattle.cqp_norms.specs.StateStands.{StateStands, changed}

-- the law: a gate on a group with nothing due is the gate on the whole state
abbrev pub GateLaw : Type 0
GateLaw =
    (c : Cells) (h : ℕ) (s : State) → StateStands c h s → (g : ℕ) (G : Held)
    → c.groups g ≡ Some G → (o : Op) (qs : List ℕ) → G.due ≡ []
    → list_all (λ q. has q G.qubits) qs ≡ true
    → StateStands (changed c g (gated o qs G)) (h + factors_left_out o) (gate_of o qs s)

-- the law: so is a projection
abbrev pub MeasureLaw : Type 0
MeasureLaw =
    (c : Cells) (h : ℕ) (s : State) → StateStands c h s → (g : ℕ) (G : Held)
    → c.groups g ≡ Some G → (qs : List ℕ) (m : ℕ) → IsDistinct qs
    → list_all (λ q. has q G.qubits) qs ≡ true
    → StateStands (changed c g (measured qs m G)) h (projected qs m s)

-- the law: the group of a new qubit makes the grown state
abbrev pub QubitLaw : Type 0
QubitLaw =
    (c : Cells) (h : ℕ) (s : State) → StateStands c h s
    → StateStands (changed c s.qubits (new_group s.qubits)) h (grown s)

-- the law: a join changes nothing of the whole
abbrev pub JoinLaw : Type 0
JoinLaw =
    (c : Cells) (h : ℕ) (s : State) → StateStands c h s → (l r : ℕ) → l ≢ r → (G H : Held)
    → c.groups l ≡ Some G → c.groups r ≡ Some H
    → StateStands
    (record c {
      groups = with_at (lesser l r) (Some (joined G H)) (with_at l None (with_at r None c.groups));
    })
    h s

-- the law: the norm of the whole is the product of the groups' norms, but for the powers of root 2
-- that the groups were divided by
abbrev pub NormLaw : Type 0
NormLaw =
    (c : Cells) (h : ℕ) (s : State) → StateStands c h s
    → norm_sum s.nums
    ≡ root_product (norm_of (root2_power (h - exponents s.qubits c))) (norms s.qubits c)
