use Rattle.std.proofs.Common.{◌≡◌, length, arith, sym, ◌∙◌}
use Rattle.std.proofs.lemmas.List.{nil_from_length}
use Rattle.cqp_postorder.proofs.Uniform.{subtree, counted, fragments-process}
use Rattle.cqp_postorder.proofs.UniformLists.{nodes-process, offsets-process}
use Rattle.cqp_postorder.proofs.lists.tree_lists.Goals as goal

pub new-requires-clause-one : goal.new-requires-clause-one
new-requires-clause-one c =
    let one = c.requires.one in
    (subtree one.0, counted one.0, c.as_slice.ensures.value ∙ one.1 ∙ sym (fragments-process one.0))

pub loop-fragment-init : goal.loop-fragment-init
loop-fragment-init c = λ p is.
    rw (← c.as_slice.ensures.value)
    (c.in_ok-placing.ensures (subtree p) (counted p)
    (c.as_slice.ensures.value ∙ is ∙ sym (fragments-process p)))

pub place-requires : goal.place-requires
place-requires c =
    let one = c.requires.one in (
      subtree one.0,
      c.pop.new.self.items,
      rw c.in-Some.ensures.items at (c.loop-fragment.invariant one.0 one.1),
    )

pub loop-fragment-preserved : goal.loop-fragment-preserved
loop-fragment-preserved c = λ p is.
    c.in_ok-place.ensures (subtree p) c.pop.new.self.items
    (rw c.in-Some.ensures.items at (c.loop-fragment.invariant p is))

pub returns : goal.returns
returns c = record {
  ok = λ p is.
      let none : length c.loop-fragment.fragments.items ≡ 0 =
      omega (arith, c.in_default.ensures.cases.0, c.loop-fragment.fragments.ok.0) in
      let left = rw (nil_from_length _ none) at (c.loop-fragment.invariant p is) in
      let all = c.into_tree.ensures (subtree p) left in
      λ i. record {
        nodes = (all.0 ∙ nodes-process 0 p) i;
        at = (all.1 ∙ offsets-process p) i;
      };
}
