-- A plain run has one end: `done` where no reduction is left, and else `stopped`.
use Rattle.std.proofs.Common.{◌≡◌, ℕ, ◌≤◌, sym, ap, subst, arith}
use Rattle.std.specs.Prelude.{length}
use Rattle.cqp_trace.specs.declared.end.End.{End}
use Rattle.cqp_trace.specs.declared.end.End.TheVariants.{Done, Stopped}
use Rattle.cqp_cells.specs.Config.{Config}
use Rattle.cqp_cells.specs.Lawful.{IsRightEnd}
use Rattle.cqp_cells.specs.Order.{IsLeastActive, StopsPlainly}
use Rattle.cqp_cells.specs.Step.{ReductionIsLeft}
use Rattle.cqp_engine.proofs.Ends.{reduction_left}

-- there is one least active part
one_least : (c : Config) (i j : ℕ) → IsLeastActive c i → IsLeastActive c j → i ≡ j
one_least c i j one other =
    let low : i ≤ j = subst (λ n. i ≤ n) other.takes_part (one.least other.entry other.fits) in
    let high : j ≤ i = subst (λ n. j ≤ n) one.takes_part (other.least one.entry one.fits) in
    omega (arith, low, high)

-- where no reduction is left, a plain run ends with `done`
pub done_alone : (c : Config) (h : ℕ) (e : End) → IsRightEnd c h e → StopsPlainly c e → (ReductionIsLeft c → ⊥) → e ≡ Done (length c.parts)
done_alone c h (Done n) right stop none = ap Done (sym right.1)
done_alone c h (Stopped i) right stop none = absurd (none (reduction_left c i stop))

-- where a part is the least active one, a plain run stops at that part
pub stopped_alone : (c : Config) (h : ℕ) (e : End) (i : ℕ) → IsRightEnd c h e → StopsPlainly c e → IsLeastActive c i → e ≡ Stopped i
stopped_alone c h (Done n) i right stop least = absurd (right.0 (reduction_left c i least))
stopped_alone c h (Stopped j) i right stop least = ap Stopped (one_least c j i stop least)
