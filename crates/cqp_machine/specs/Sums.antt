-- Sums and products over the groups of a run.
use Rattle.std.specs.Prelude.{ℕ, zero, suc, ◌+◌, Option, Some, None}
use Rattle.cqp_ring.specs.declared.amp.Amp.{Amp}
use Rattle.cqp_ring.specs.declared.root.Root.{Root}
use Rattle.cqp_ring.specs.declared.weight.Weight.{Weight}
use Rattle.cqp_ring.specs.Amp.{one_amp, amp_product}
use Rattle.cqp_ring.specs.Root.{one_root, root_product, norm_sum}
use Rattle.cqp_vector.specs.State.{amp_at}
use Rattle.cqp_vector.specs.Measurement.{outcome_at}
use Rattle.cqp_machine.specs.Factors.{Held, level_of}
use Rattle.cqp_machine.specs.Cells.{Cells}

-- the sum over the numbers below n
abbrev pub sum_below : ℕ → (ℕ → ℕ) → ℕ
sum_below zero f = 0
sum_below (suc n) f = sum_below n f + f n

-- the product of numerators
abbrev pub product_below : ℕ → (ℕ → Amp) → Amp
product_below zero f = one_amp
product_below (suc n) f = amp_product (product_below n f) (f n)

-- the product of norms
abbrev pub root_below : ℕ → (ℕ → Root) → Root
root_below zero f = one_root
root_below (suc n) f = root_product (root_below n f) (f n)

-- a group's numerator at its own bits of place k, of n qubits; where no group is, 1
abbrev pub amp_in : ℕ → ℕ → Option Held → Amp
amp_in n k None = one_amp
amp_in n k (Some g) = amp_at g.nums (outcome_at n g.qubits k)

-- a group's exponent
abbrev pub h_in : Option Held → ℕ
h_in None = 0
h_in (Some g) = g.h

-- level of a group
abbrev pub level_in : Option Held → ℕ
level_in None = 0
level_in (Some g) = level_of g

-- norm of a group
abbrev pub norm_in : Option Held → Root
norm_in None = one_root
norm_in (Some g) = norm_sum g.nums

-- of all groups: the sum of the exponents
abbrev pub exponents : ℕ → Cells → ℕ
exponents n c = sum_below n (λ g. h_in (c.groups g))

-- the sum of the levels
abbrev pub levels : ℕ → Cells → ℕ
levels n c = sum_below n (λ g. level_in (c.groups g))

-- the product of the norms
abbrev pub norms : ℕ → Cells → Root
norms n c = root_below n (λ g. norm_in (c.groups g))

-- the product of the groups' numerators at their own bits of a place
abbrev pub whole_amp : ℕ → Cells → ℕ → Amp
whole_amp n c k = product_below n (λ g. amp_in n k (c.groups g))

-- the norms' product over 2 to the exponents' sum
abbrev pub weight_of_groups : ℕ → Cells → Weight
weight_of_groups n c = record { top = norms n c; below = exponents n c }
