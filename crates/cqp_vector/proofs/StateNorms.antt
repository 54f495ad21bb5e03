-- H doubles the norm of a state, and the other gates and a new qubit keep it.
use Rattle.std.proofs.Common.{◌≡◌, ℕ, ◌+◌, ◌*◌, ◌^◌, List, [], ◌∷◌, length, map, refl, sym, ap, ◌∙◌, arith, pow-add}
use Rattle.std.specs.List.{range_with_len}
use Rattle.std.proofs.lemmas.Int.{ints}
use Rattle.cqp_ring.specs.declared.root.Root.{Root}
use Rattle.cqp_ring.specs.Root.{norm_sum, root_sum, root_product}
use Rattle.cqp_ring.specs.Weight.{power_root}
use Rattle.cqp_syntax.specs.declared.op.Op.{Op}
use Rattle.cqp_syntax.specs.declared.op.Op.TheVariants as op
use Rattle.cqp_syntax.specs.Gates.{places_of}
use Rattle.cqp_vector.specs.State.{State, HasEachPlace, grown, norm_of_state, spread_at}
use Rattle.cqp_vector.specs.Gate.{gate_of}
use Rattle.cqp_vector.specs.Group.{factors_left_out}
use Rattle.cqp_vector.specs.Places.{ArePlaces}
use Rattle.cqp_ring.proofs.Integers.{same_root}
use Rattle.cqp_vector.proofs.GrownNorm.{grown_norm}
use Rattle.cqp_vector.proofs.Norms.{kept_norm, h_norm}
use Rattle.cqp_vector.proofs.GateLemmas.{one_control, two_controls, three_controls, swap_norm, some_places, at_most_three}

-- 1 times and 2 times a norm
kept : (x y : Root) → x ≡ y → x ≡ root_product (power_root 0) y
kept x y e = e ∙ one_times y
  where
    one_times : (z : Root) → z ≡ root_product (power_root 0) z
    one_times z = same_root (omega (arith, ints)) (omega (arith, ints))

-- what is a norm twice is 2 times it
doubles : (x y : Root) → x ≡ root_sum y y → x ≡ root_product (power_root 1) y
doubles x y e = e ∙ twice y
  where
    twice : (z : Root) → root_sum z z ≡ root_product (power_root 1) z
    twice z = same_root (omega (arith, ints)) (omega (arith, ints))

-- what a gate does to the norm
abbrev GateStep : Op → List ℕ → State → Type 0
GateStep o qs s = norm_of_state (gate_of o qs s) ≡ root_product (power_root (factors_left_out o)) (norm_of_state s)

-- a gate of one, two or three places
single : (o : Op) → places_of o ≡ 1 → (q : ℕ) (s : State) → HasEachPlace s → ArePlaces s.qubits (q ∷ []) → GateStep o (q ∷ []) s
single op.I e q s w p = kept _ _ (kept_norm op.I (λ i. cc) s.qubits [] q s.nums (one_control s.qubits q p) w)
single op.X e q s w p = kept _ _ (kept_norm op.X (λ i. cc) s.qubits [] q s.nums (one_control s.qubits q p) w)
single op.Y e q s w p = kept _ _ (kept_norm op.Y (λ i. cc) s.qubits [] q s.nums (one_control s.qubits q p) w)
single op.Z e q s w p = kept _ _ (kept_norm op.Z (λ i. cc) s.qubits [] q s.nums (one_control s.qubits q p) w)
single op.H e q s w p = doubles _ _ (h_norm s.qubits q s.nums (one_control s.qubits q p) w)
single op.S e q s w p = kept _ _ (kept_norm op.S (λ i. cc) s.qubits [] q s.nums (one_control s.qubits q p) w)
single op.T e q s w p = kept _ _ (kept_norm op.T (λ i. cc) s.qubits [] q s.nums (one_control s.qubits q p) w)
single op.CNot e q s w p = absurd (omega arith)
single op.CZ e q s w p = absurd (omega arith)
single op.Swap e q s w p = absurd (omega arith)
single op.Toffoli e q s w p = absurd (omega arith)

-- a gate of two places doubles the norm as often as it leaves factors out
pair : (o : Op) → places_of o ≡ 2 → (q r : ℕ) (s : State) → HasEachPlace s → ArePlaces s.qubits (q ∷ r ∷ []) → GateStep o (q ∷ r ∷ []) s
pair op.I e q r s w p = absurd (omega arith)
pair op.X e q r s w p = absurd (omega arith)
pair op.Y e q r s w p = absurd (omega arith)
pair op.Z e q r s w p = absurd (omega arith)
pair op.H e q r s w p = absurd (omega arith)
pair op.S e q r s w p = absurd (omega arith)
pair op.T e q r s w p = absurd (omega arith)
pair op.CNot e q r s w p = kept _ _ (kept_norm op.X (λ i. cc) s.qubits (q ∷ []) r s.nums (two_controls s.qubits q r p) w)
pair op.CZ e q r s w p = kept _ _ (kept_norm op.Z (λ i. cc) s.qubits (q ∷ []) r s.nums (two_controls s.qubits q r p) w)
pair op.Swap e q r s w p = kept _ _ (swap_norm s.qubits q r s.nums _ _ _ p w refl refl refl)
pair op.Toffoli e q r s w p = absurd (omega arith)

-- so does a gate of three places
three : (o : Op) → places_of o ≡ 3 → (q r t : ℕ) (s : State) → HasEachPlace s → ArePlaces s.qubits (q ∷ r ∷ t ∷ []) → GateStep o (q ∷ r ∷ t ∷ []) s
three op.I e q r t s w p = absurd (omega arith)
three op.X e q r t s w p = absurd (omega arith)
three op.Y e q r t s w p = absurd (omega arith)
three op.Z e q r t s w p = absurd (omega arith)
three op.H e q r t s w p = absurd (omega arith)
three op.S e q r t s w p = absurd (omega arith)
three op.T e q r t s w p = absurd (omega arith)
three op.CNot e q r t s w p = absurd (omega arith)
three op.CZ e q r t s w p = absurd (omega arith)
three op.Swap e q r t s w p = absurd (omega arith)
three op.Toffoli e q r t s w p = kept _ _ (kept_norm op.X (λ i. cc) s.qubits (q ∷ r ∷ []) t s.nums (three_controls s.qubits q r t p) w)

-- H doubles the norm of a state, and the other gates keep it
pub gate_norm : (o : Op) (qs : List ℕ) (s : State) → HasEachPlace s → length qs ≡ places_of o → ArePlaces s.qubits qs → GateStep o qs s
gate_norm o [] s w e p = absurd (some_places o e)
gate_norm o (q ∷ []) s w e p = single o (sym e) q s w p
gate_norm o (q ∷ r ∷ []) s w e p = pair o (sym e) q r s w p
gate_norm o (q ∷ r ∷ t ∷ []) s w e p = three o (sym e) q r t s w p
gate_norm o (q ∷ r ∷ t ∷ u ∷ qs) s w e p = absurd (at_most_three o (length qs) e)

-- a new qubit keeps it
pub grown_keeps : (s : State) → HasEachPlace s → norm_of_state (grown s) ≡ norm_of_state s
grown_keeps s whole =
    let size : 2 ^ (s.qubits + 1) ≡ 2 * length s.nums = omega (arith, pow-add 2 s.qubits 1, whole) in
    ap (λ n. norm_sum (map (spread_at s.nums) (range_with_len 0 n))) size ∙ grown_norm s.nums
