use Rattle.std.proofs.Common.{length, arith}
use Rattle.cqp_vector.proofs.Counting.{places_at_most}
use Rattle.cqp_vector.proofs.factor.measured_qubits.measured.Goals as goal

pub overflow_cast-places : goal.overflow_cast-places
overflow_cast-places c = let few = places_at_most (length c.args.qubits.now) c.args.places.now c.requires.places in omega (arith, few, c.requires.few)

pub overflow_cast-i : goal.overflow_cast-i
overflow_cast-i c = let few = places_at_most (length c.args.qubits.now) c.args.places.now c.requires.places in
    omega (arith, few, c.requires.few, c.requires.place)

pub bit_at-bit-requires-clause-few : goal.bit_at-bit-requires-clause-few
bit_at-bit-requires-clause-few c = let few = places_at_most (length c.args.qubits.now) c.args.places.now c.requires.places in omega (arith, few, c.requires.few)
