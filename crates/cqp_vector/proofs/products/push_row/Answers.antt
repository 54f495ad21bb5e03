use Rattle.std.proofs.Common.{rules, ◌≡◌, ◌++◌, OnOk, map, ap, subst, sym, ◌∙◌}
use Rattle.cqp_ring.specs.Amp.{amp_product, one_amp, zero_amp}
use Rattle.cqp_vector.proofs.LeastForms.{all_one_times}
use Rattle.cqp_vector.proofs.Rows.{zero_row}
use Rattle.cqp_vector.proofs.products.push_row.Goals as goal

pub returns-then-eq : goal.returns-then-eq
returns-then-eq c =
    let right = c.args.right.now in
    let zero : c.args.x ≡ zero_amp = search rules in
    subst (λ ys. OnOk c.push_zeros.result (c.push_zeros.new.nums.items ≡ c.args.nums.now.items ++ ys))
    (sym (ap (λ z. map (amp_product z) right) zero ∙ zero_row right)) c.push_zeros.ensures

pub returns-then-eq-2 : goal.returns-then-eq-2
returns-then-eq-2 c =
    let right = c.args.right.now in
    let one : c.args.x ≡ one_amp = search rules in
    let added : OnOk c.extend_from_slice.result (c.extend_from_slice.new.self.items ≡ c.args.nums.now.items ++ right) = search rules in
    subst (λ ys. OnOk c.extend_from_slice.result (c.extend_from_slice.new.self.items ≡ c.args.nums.now.items ++ ys))
    (sym (ap (λ z. map (amp_product z) right) one ∙ all_one_times right)) added
