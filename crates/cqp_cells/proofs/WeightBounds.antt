-- The power of two below a least weight of a path is at most 90.
use Rattle.std.proofs.Common.{◌≡◌, ℕ, zero, suc, ◌+◌, ◌-◌, ◌*◌, ◌≤◌, ◌^◌, List, [], ◌∷◌, sym, ap, ◌∙◌, arith, pow-add}
use Rattle.std.specs.List.{AllByRecursion}
use Rattle.std.proofs.lemmas.Int.{ints}
use Rattle.cqp_ring.specs.declared.amp.Amp.{Amp}
use Rattle.cqp_ring.specs.declared.root.Root.{Root}
use Rattle.cqp_ring.specs.declared.weight.Weight.{Weight}
use Rattle.cqp_ring.specs.Amp.{root2_amp}
use Rattle.cqp_ring.specs.Root.{norm_of, norm_sum, root_sum, root_product}
use Rattle.cqp_ring.specs.Weight.{power_root, IsLeast, IsSameNumber}
use Rattle.cqp_ring.proofs.Integers.{same_root}
use Rattle.cqp_ring.proofs.NormLemmas.{norm_of-product}
use Rattle.cqp_ring.proofs.OrderProducts.{root_product_distributes, root_product_assoc, cancelled}
use Rattle.cqp_ring.proofs.WeightLemmas.{least_is_least}
use Rattle.cqp_syntax.specs.Trees.{Process}
use Rattle.cqp_trace.specs.declared.entry.Entry.{Entry}
use Rattle.cqp_vector.specs.Least.{root2_power}
use Rattle.cqp_cells.specs.Config.{Config}
use Rattle.cqp_cells.specs.Exponent.{IsPowerTimes, IsExponent, exponent_of}
use Rattle.cqp_cells.specs.Path.{h_total, IsPath}
use Rattle.cqp_cells.specs.Probability.{IsProbability}
use Rattle.cqp_cells.proofs.Exponents.{exponent_is}
use Rattle.cqp_cells.proofs.Powers.{path_exponent}
use Rattle.cqp_cells.proofs.States.{power_nonzero}
use Rattle.cqp_cells.proofs.Telescope.{norm_at, swapped, power_root-product}
use Rattle.cqp_cells.proofs.Weights.{weight_only}

-- the norm of a power of root 2
norm_of_power : (j : ℕ) → norm_of (root2_power j) ≡ power_root j
norm_of_power zero = same_root (omega (arith, ints)) (omega (arith, ints))
norm_of_power (suc j) = norm_of-product root2_amp (root2_power j) ∙ ap (λ r. root_product (norm_of root2_amp) r) (norm_of_power j) ∙ twice j
  where
    twice : (n : ℕ) → root_product (norm_of root2_amp) (power_root n) ≡ power_root (suc n)
    twice n = let e : 2 ^ suc n ≡ 2 * 2 ^ n = omega (arith, pow-add 2 n 1) in same_root (omega (arith, ints)) (omega (arith, ints))

-- anything times 0 is 0
times_zero : (r : Root) → root_product r (norm_sum []) ≡ norm_sum []
times_zero r = same_root (omega (arith, ints)) (omega (arith, ints))

-- numerators that are all (root 2)^j times others have 2^j times their norm
norm_divided : (j : ℕ) (xs : List Amp) → AllByRecursion (IsPowerTimes j) xs → (ys : List Amp) × (norm_sum xs ≡ root_product (power_root j) (norm_sum ys))
norm_divided j [] all = ([], sym (times_zero (power_root j)))
norm_divided j (x ∷ xs) all =
    let (y, is) = all.0 in
    let (ys, more) = norm_divided j xs all.1 in
    let first : norm_of x ≡ root_product (power_root j) (norm_of y) =
    ap norm_of (sym is) ∙ norm_of-product (root2_power j) y ∙ ap (λ r. root_product r (norm_of y)) (norm_of_power j) in (
      y ∷ ys,
      ap (λ r. root_sum r (norm_sum xs)) first ∙ ap (λ r. root_sum (root_product (power_root j) (norm_of y)) r) more
          ∙ sym (root_product_distributes (power_root j) (norm_of y) (norm_sum ys)),
    )

-- a least weight of a path has at most 90 below
pub weight_below : (p : Process) (es : List Entry) (c : Config) → IsPath p es c → (w : Weight) → IsLeast w → IsProbability p es w → w.below ≤ 90
weight_below p es c path w least is = omega (arith, path_exponent p es c path, least_is_least w v least same)
  where
    k : ℕ
    k = h_total es

    e : ℕ
    e = exponent_of k c.state

    found : IsExponent k c.state e
    found = exponent_is k c.state

    divided : (ys : List Amp) × (norm_at c ≡ root_product (power_root (k - e)) (norm_sum ys))
    divided = norm_divided (k - e) c.state.nums found.divided

    v : Weight
    v = record { top = norm_sum divided.0; below = e }

    powers : root_product (power_root (k - e)) (power_root e) ≡ power_root k
    powers = power_root-product (k - e) e ∙ ap power_root (all found.within)
      where
        all : e ≤ k → e + (k - e) ≡ k
        all le = omega arith

    same : IsSameNumber w v
    same = cancelled (power_root (k - e)) (root_product (power_root e) w.top) (root_product (power_root w.below) (norm_sum divided.0)) (power_nonzero (k - e)) (
        sym (root_product_assoc (power_root (k - e)) (power_root e) w.top)
        ∙ ap (λ r. root_product r w.top) powers
        ∙ weight_only p es c path.leads w is
        ∙ ap (λ r. root_product (power_root w.below) r) divided.1
        ∙ swapped (power_root w.below) (power_root (k - e)) (norm_sum divided.0))
