use Rattle.std.proofs.Common.{◌<◌, ◌^◌, ℕ, List, length, arith, refl}
use Rattle.cqp_ring.specs.Root.{norm_of}
use Rattle.cqp_vector.specs.State.{amp_at}
use Rattle.cqp_vector.proofs.OutcomeCounts.{outcome_range}
use Rattle.cqp_vector.specs.Measurement.{outcome_at}
use Rattle.cqp_vector.proofs.SumBounds.{one_fits}
use Rattle.cqp_vector.proofs.TallyLemmas.{norm_fits, norms_more}
use Rattle.cqp_vector.proofs.tally.add_norms.Goals as goal

-- a place has one of the outcomes
below : (n : ℕ) (places : List ℕ) (k : ℕ) → outcome_at n places k < 2 ^ length places
below n places k = let range = (outcome_range n places 0 k).1 in omega arith

pub add_norm_at-requires-clause-norm : goal.add_norm_at-requires-clause-norm
add_norm_at-requires-clause-norm c = one_fits c.args.nums.now c.loop-k.k c.requires.bound

pub add_norm_at-requires-clause-fits : goal.add_norm_at-requires-clause-fits
add_norm_at-requires-clause-fits c =
    norm_fits (outcome_at c.args.qubits c.args.places.now) c.args.nums.now (2 ^ length c.args.places.now) c.loop-k.k
    (outcome_at c.args.qubits c.args.places.now c.loop-k.k) (norm_of (amp_at c.args.nums.now c.loop-k.k)) c.loop-k.table
    c.loop-k.invariant refl (below c.args.qubits c.args.places.now c.loop-k.k) refl (omega arith) c.requires.bound

pub loop-k-preserved : goal.loop-k-preserved
loop-k-preserved c =
    norms_more (outcome_at c.args.qubits c.args.places.now) c.args.nums.now (2 ^ length c.args.places.now) c.loop-k.k
    (outcome_at c.args.qubits c.args.places.now c.loop-k.k) (norm_of (amp_at c.args.nums.now c.loop-k.k)) c.loop-k.table c.add_norm_at.new.table
    c.loop-k.invariant (omega (arith, c.requires.room)) refl (below c.args.qubits c.args.places.now c.loop-k.k) refl c.add_norm_at.ensures
