-- The probability of a path, from the norm of its last state.
use Rattle.std.proofs.Common.{◌≡◌, ◌≢◌, ℕ, zero, suc, ◌+◌, ◌-◌, ◌*◌, ◌^◌, ◌<◌, refl, sym, ap, arith, ◌∙◌, pow-add}
use Rattle.std.specs.Prelude.{pos}
use Rattle.std.proofs.lemmas.Int.{ints}
use Rattle.std.proofs.lemmas.Nat.{pow_pos}
use Rattle.cqp_ring.specs.declared.root.Root.{Root}
use Rattle.cqp_ring.specs.Amp.{root2_amp}
use Rattle.cqp_ring.specs.Root.{root_product, zero_root, whole_root, norm_of, norm_sum}
use Rattle.cqp_ring.specs.Weight.{power_root}
use Rattle.cqp_ring.proofs.Integers.{same_root}
use Rattle.cqp_ring.proofs.NormLemmas.{norm_of-product}
use Rattle.cqp_ring.proofs.OrderProducts.{root_product_assoc, cancelled}
use Rattle.cqp_vector.specs.State.{State}
use Rattle.cqp_machine.specs.Cells.{Cells}
use Rattle.cqp_vector.specs.Least.{root2_power}
use Rattle.cqp_machine.specs.Sums.{norms, exponents}
use Rattle.cqp_norms.proofs.NormHalf.{whole_norm}
use Rattle.cqp_norms.specs.StateStands.{StateStands}

-- powers of two among norms
twice_power : (k : ℕ) → root_product (whole_root (pos 2)) (power_root k) ≡ power_root (suc k)
twice_power k = let e : 2 ^ suc k ≡ 2 * 2 ^ k = let up : suc k ≡ 1 + k = omega arith in ap (λ t. 2 ^ t) up ∙ (pow-add 2 1 k ∙ omega arith) in
    same_root (omega (arith, ints)) (omega (arith, ints))

-- the norm of a power of root 2 is a power of 2
norm_of-power : (k : ℕ) → norm_of (root2_power k) ≡ power_root k
norm_of-power zero = refl
norm_of-power (suc k) =
    norm_of-product root2_amp (root2_power k) ∙ (ap (root_product (norm_of root2_amp)) (norm_of-power k) ∙ twice_power k)

-- powers of 2 multiply
power_sum : (a b : ℕ) → root_product (power_root a) (power_root b) ≡ power_root (a + b)
power_sum zero b =
    let none : b ≡ 0 + b = omega arith in
    let one : root_product (power_root 0) (power_root b) ≡ power_root b = same_root (omega (arith, ints)) (omega (arith, ints)) in
    one ∙ ap power_root none
power_sum (suc a) b =
    let up : suc (a + b) ≡ suc a + b = omega arith in
    ap (λ t. root_product t (power_root b)) (sym (twice_power a))
    ∙ (root_product_assoc (whole_root (pos 2)) (power_root a) (power_root b)
    ∙ (ap (root_product (whole_root (pos 2))) (power_sum a b) ∙ (twice_power (a + b) ∙ ap power_root up)))

-- a power of 2 isn't 0
pub power_some : (k : ℕ) → power_root k ≢ zero_root
power_some k e = let positive : 0 < 2 ^ k = pow_pos k in let none : pos (2 ^ k) ≡ pos 0 = ap (λ (r : Root). r.p) e in absurd (omega (arith, ints))

-- the norm of the whole state, by the groups
pub norm_stands : (c : Cells) (h : ℕ) (s : State) → StateStands c h s
    → norm_sum s.nums ≡ root_product (power_root (h - exponents s.qubits c)) (norms s.qubits c)
norm_stands c h s x =
    whole_norm s c x.own x.partition x.covers (λ g G t. (x.good g G t).shape) (h - exponents s.qubits c) x.reads x.whole
    ∙ ap (λ t. root_product t (norms s.qubits c)) (norm_of-power (h - exponents s.qubits c))

-- where the last norm times the norms before is 2 to the number of H times the norms after, so are the
-- groups' norms, with the sum of their exponents
pub probability_stands : (c : Cells) (h : ℕ) (s : State) (before later : Root) → StateStands c h s
    → root_product (norm_sum s.nums) before ≡ root_product (power_root h) later
    → root_product (norms s.qubits c) before ≡ root_product (power_root (exponents s.qubits c)) later
probability_stands c h s before later x told =
    let d = h - exponents s.qubits c in
    let count : h - exponents s.qubits c + exponents s.qubits c ≡ h = omega (arith, x.within) in
    let left : root_product (power_root (h - exponents s.qubits c)) (root_product (norms s.qubits c) before) ≡ root_product (norm_sum s.nums) before =
    sym (root_product_assoc (power_root (h - exponents s.qubits c)) (norms s.qubits c) before) ∙ ap (λ t. root_product t before) (sym (norm_stands c h s x)) in
    let right : root_product (power_root h) later ≡ root_product (power_root (h - exponents s.qubits c))
    (root_product (power_root (exponents s.qubits c)) later) =
    ap (λ t. root_product (power_root t) later) (sym count)
    ∙ (ap (λ t. root_product t later) (sym (power_sum (h - exponents s.qubits c) (exponents s.qubits c)))
    ∙ root_product_assoc (power_root (h - exponents s.qubits c)) (power_root (exponents s.qubits c)) later) in
    cancelled (power_root (h - exponents s.qubits c)) (root_product (norms s.qubits c) before)
    (root_product (power_root (exponents s.qubits c)) later) (power_some (h - exponents s.qubits c)) (left ∙ (told ∙ right))
