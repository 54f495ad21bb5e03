use Rattle.std.proofs.Common.{◌≡◌, ◌++◌, ◌∙◌, sym, ap, subst, arith, length}
use Rattle.std.proofs.lemmas.List.{take_at}
use Rattle.cqp_vector.specs.Group.{CanJoin, Group, product_of}
use Rattle.cqp_vector.proofs.GroupLemmas.{few_places, norm_limit, group_joined_with}
use Rattle.cqp_vector.proofs.factor.Factor.product.Goals as goal

pub product-requires-clause-few : goal.product-requires-clause-few
product-requires-clause-few c = rw c.deref.ensures.value (few_places _ c.left.invariant)

pub product-requires-clause-more : goal.product-requires-clause-more
product-requires-clause-more c = rw c.deref-2.ensures.value (few_places _ c.right.invariant)

pub product-requires-clause-left : goal.product-requires-clause-left
product-requires-clause-left c = rw c.deref.ensures.value (norm_limit _ c.left.invariant)

pub product-requires-clause-right : goal.product-requires-clause-right
product-requires-clause-right c = rw c.deref-2.ensures.value (norm_limit _ c.right.invariant)

pub invariant_of-result : goal.invariant_of-result
invariant_of-result c =
    let g : Group = record { qubits = c.left.inside.qubits; nums = c.left.inside.nums.items; h = c.left.inside.h } in
    let f : Group = record { qubits = c.right.inside.qubits; nums = c.right.inside.nums.items; h = c.right.inside.h } in
    let whole : length c.make_least-h.new.nums ≡ c.in_ok-nums.nums.len = omega (arith, c.deref_mut.ensures.len) in
    let can : CanJoin g f =
    subst (λ (t : Group). CanJoin t f) (sym c.left.view_is) (subst (λ (t : Group). CanJoin c.args.left.now t) (sym c.right.view_is) c.requires) in
    let qubits : c.in_ok-qubits.qubits ≡ g.qubits ++ f.qubits =
    c.in_ok-qubits.ensures ∙ ap (λ t. t ++ c.as_slice-2.result.now) c.as_slice.ensures ∙ ap (λ t. c.left.inside.qubits ++ t) c.as_slice-2.ensures in
    let nums : c.deref_mut.result.now ≡ product_of g.nums f.nums =
    c.deref_mut.ensures.value ∙ c.in_ok-nums.ensures ∙ ap (λ t. product_of t c.deref-2.result.now) c.deref.ensures.value
    ∙ ap (product_of c.left.inside.nums.items) c.deref-2.ensures.value in
    group_joined_with g f c.in_ok-qubits.qubits c.deref_mut.result.now _ c.make_least-h.result c.left.invariant c.right.invariant can qubits nums
    (take_at c.make_least-h.new.nums _ c.in_ok-nums.nums.len whole ∙ c.make_least-h.ensures.nums) c.make_least-h.ensures.h
