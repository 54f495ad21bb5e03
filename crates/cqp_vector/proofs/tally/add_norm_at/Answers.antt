use Rattle.std.proofs.Common.{rules, ◌≡◌, ap, sym, ◌∙◌}
use Rattle.std.specs.Prelude.{slice_set}
use Rattle.std.proofs.lemmas.List.{set-get_or}
use Rattle.cqp_ring.specs.Amp.{zero_amp}
use Rattle.cqp_ring.specs.Root.{norm_of, root_at, root_sum, zero_root}
use Rattle.cqp_ring.proofs.OrderSums.{sum-zero}
use Rattle.cqp_vector.specs.Measurement.{outcome_at}
use Rattle.cqp_vector.proofs.tally.add_norm_at.Goals as goal

-- the norm of 0 changes nothing
pub returns-then-eq : goal.returns-then-eq
returns-then-eq c =
    let table = c.args.table.now in
    let o = outcome_at c.args.qubits c.args.places.now c.args.k in
    let zero : c.args.amp ≡ zero_amp = search rules in
    sym (ap (slice_set table o) (ap (λ a. root_sum (root_at table o) (norm_of a)) zero ∙ sum-zero (root_at table o)) ∙ set-get_or table o zero_root)
