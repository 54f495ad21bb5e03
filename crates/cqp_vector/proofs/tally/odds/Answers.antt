use Rattle.std.proofs.Common.{◌≤◌, ◌^◌, ◌∙◌, ap, length, arith}
use Rattle.std.proofs.Math.Pow.{pow_mono}
use Rattle.cqp_vector.specs.Odds.{odds_in}
use Rattle.cqp_vector.proofs.Counting.{places_at_most}
use Rattle.cqp_vector.proofs.TallyLemmas.{odds_are}
use Rattle.cqp_vector.proofs.tally.odds.Goals as goal

pub collect-requires : goal.collect-requires
collect-requires c =
    let few : length c.args.places.now ≤ c.args.qubits = places_at_most c.args.qubits c.args.places.now c.requires.places in
    let small : length c.args.places.now ≤ 12 = omega (arith, c.requires.few) in
    let most : 2 ^ length c.args.places.now ≤ 2 ^ 12 = pow_mono small in
    rw c.deref.ensures.value (omega (arith, c.in_ok-table.ensures.size))

pub returns : goal.returns
returns c =
    c.from_vec.ensures ∙ c.in_ok-odds.ensures ∙ ap (λ t. odds_in t (length t)) c.deref.ensures.value
    ∙ odds_are c.args.places.now (record {
      qubits = c.args.qubits;
      nums =
          c.args.nums.now;
    }) c.in_ok-table.table.items c.in_ok-table.ensures.size c.in_ok-table.ensures.norms
