use Rattle.std.proofs.Common.{◌≡◌, ◌≤◌, ◌∙◌, ap, sym, length, arith, drop}
use Rattle.std.proofs.lemmas.List.{take_at, length-replicate}
use Rattle.cqp_ring.specs.Root.{root_at, zero_root}
use Rattle.cqp_vector.proofs.Counting.{places_at_most}
use Rattle.cqp_vector.proofs.TallyLemmas.{blank_at}
use Rattle.cqp_vector.proofs.tally.norms_of.Goals as goal

pub outcomes-requires : goal.outcomes-requires
outcomes-requires c =
    let few : length c.args.places.now ≤ c.args.qubits = places_at_most c.args.qubits c.args.places.now c.requires.places in
    omega (arith, c.requires.few)

pub add_norms-requires-clause-room : goal.add_norms-requires-clause-room
add_norms-requires-clause-room c =
    ap length (c.deref_mut.ensures.value ∙ c.in_ok-table.ensures) ∙ length-replicate c.outcomes.result zero_root ∙ c.outcomes.ensures

pub add_norms-requires-clause-empty : goal.add_norms-requires-clause-empty
add_norms-requires-clause-empty c = λ m. ap (λ t. root_at t m) (c.deref_mut.ensures.value ∙ c.in_ok-table.ensures) ∙ blank_at c.outcomes.result m

pub returns-clause-size : goal.returns-clause-size
returns-clause-size c =
    let whole : length c.add_norms.new.table ≡ c.in_ok-table.table.len = omega (arith, c.deref_mut.ensures.len) in
    let room = ap length (c.deref_mut.ensures.value ∙ c.in_ok-table.ensures) ∙ length-replicate c.outcomes.result zero_root ∙ c.outcomes.ensures in
    ap length (take_at c.add_norms.new.table (drop (length c.add_norms.new.table) c.in_ok-table.table.items) c.in_ok-table.table.len whole)
    ∙ sym (let same : length c.deref_mut.result.now ≡ length c.add_norms.new.table = omega arith in sym room ∙ same)

pub returns-clause-norms : goal.returns-clause-norms
returns-clause-norms c =
    let whole : length c.add_norms.new.table ≡ c.in_ok-table.table.len = omega (arith, c.deref_mut.ensures.len) in
    λ m less. ap (λ t. root_at t m) (take_at c.add_norms.new.table
    (drop (length c.add_norms.new.table) c.in_ok-table.table.items) c.in_ok-table.table.len whole)
    ∙ c.add_norms.ensures m less
