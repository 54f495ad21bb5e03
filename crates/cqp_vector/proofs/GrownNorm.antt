-- A new qubit keeps the norm of a state.
use Rattle.std.proofs.Common.{◌≡◌, ℕ, ◌+◌, ◌*◌, ◌/◌, ◌%◌, List, length, map, sym, ap, ◌∙◌, arith}
use Rattle.std.specs.List.{range_with_len}
use Rattle.cqp_ring.specs.declared.amp.Amp.{Amp}
use Rattle.cqp_ring.specs.Root.{norm_of, norm_sum, root_sum}
use Rattle.cqp_vector.specs.State.{amp_at, spread_at}
use Rattle.cqp_vector.proofs.Partners.{choose_low, choose_high}
use Rattle.cqp_ring.proofs.OrderSums.{sum-zero}
use Rattle.cqp_vector.proofs.Sums.{norm_by_place, norm_as_sum, halved}

-- a new qubit keeps the norm
pub grown_norm : (nums : List Amp) → norm_sum (map (spread_at nums) (range_with_len 0 (2 * length nums))) ≡ norm_sum nums
grown_norm nums =
    norm_by_place 0 (2 * length nums) (spread_at nums)
    ∙ halved (length nums) 0 (λ k. norm_of (spread_at nums k)) (λ k. norm_of (amp_at nums k)) (λ j. pair j)
    ∙ sym (norm_as_sum nums)
  where
    pair : (j : ℕ) → root_sum (norm_of (spread_at nums (2 * j))) (norm_of (spread_at nums (2 * j + 1))) ≡ norm_of (amp_at nums j)
    pair j =
        let even : 2 * j % 2 ≡ 0 = omega arith in
        let odd : (2 * j + 1) % 2 ≡ 1 = omega arith in
        let half : 2 * j / 2 ≡ j = omega arith in
        ap (λ t. root_sum (norm_of t) (norm_of (spread_at nums (2 * j + 1)))) (choose_low (2 * j % 2) _ _ even ∙ ap (amp_at nums) half)
        ∙ ap (λ t. root_sum (norm_of (amp_at nums j)) (norm_of t)) (choose_high ((2 * j + 1) % 2) _ _ odd)
        ∙ sum-zero (norm_of (amp_at nums j))
