-- The part that measures is the least that takes part in a reduction.
use Rattle.std.proofs.Common.{refl, inl, arith}
use Rattle.cqp_cells.specs.Config.{start_of}
use Rattle.cqp_engine.specs.Upcoming.{IsLeastPart}
use Rattle.cqp_engine_checks.specs.Measured.{measures_none}

-- it is the only part, and doesn't wait
pub measures_first : IsLeastPart (start_of measures_none) 0
measures_first = record {
  active = record { process = measures_none; there = refl; goes = inl refl };
  least = λ j active. omega arith;
}
