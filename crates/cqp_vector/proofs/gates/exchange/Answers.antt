use Rattle.std.proofs.Common.{◌^◌, ◌≡◌, length, sym, ◌∙◌, subst, arith}
use Rattle.std.specs.Prelude.{pos, ◌≤ℤ◌}
use Rattle.cqp_ring.specs.declared.root.Root.{Root}
use Rattle.cqp_vector.proofs.GateLemmas.{swap_made, swap_keeps, swap_keeps_back}
use Rattle.cqp_vector.proofs.gates.exchange.Goals as goal

pub change_pairs-requires-2-clause-bound : goal.change_pairs-requires-2-clause-bound
change_pairs-requires-2-clause-bound c =
    let e = swap_keeps c.args.qubits c.args.places.now c.args.nums.now c.change_pairs.new.nums c.requires.places c.requires.count c.requires.whole
    c.change_pairs.ensures in
    subst (λ (t : Root). t.p ≤ℤ pos (2 ^ 90)) (sym e) c.requires.bound

pub change_pairs-requires-3-clause-bound : goal.change_pairs-requires-3-clause-bound
change_pairs-requires-3-clause-bound c =
    let whole : length c.change_pairs.new.nums ≡ 2 ^ c.args.qubits = omega (arith, c.requires.whole) in
    let e = swap_keeps c.args.qubits c.args.places.now c.args.nums.now c.change_pairs.new.nums c.requires.places c.requires.count c.requires.whole
    c.change_pairs.ensures in
    let f = swap_keeps_back c.args.qubits c.args.places.now c.change_pairs.new.nums c.change_pairs-2.new.nums c.requires.places c.requires.count whole
    c.change_pairs-2.ensures in
    subst (λ (t : Root). t.p ≤ℤ pos (2 ^ 90)) (sym (f ∙ e)) c.requires.bound

pub returns : goal.returns
returns c = swap_made c.args.qubits c.args.places.now c.args.nums.now c.change_pairs.new.nums c.change_pairs-2.new.nums c.change_pairs-3.new.nums
    c.requires.places c.requires.count c.change_pairs.ensures c.change_pairs-2.ensures c.change_pairs-3.ensures
