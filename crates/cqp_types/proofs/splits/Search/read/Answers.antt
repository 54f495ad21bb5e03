use Rattle.std.proofs.Common.{◌≡◌, inl, inr, [], ◌∷◌, true, sym, ◌∙◌, ap, subst}
use Rattle.std.specs.List.{AllByRecursion}
use Rattle.cqp_syntax.specs.NodeNames.{uses_in}
use Rattle.cqp_syntax.specs.Trees.{named}
use Rattle.cqp_syntax.specs.Uses.{uses_at}
use Rattle.cqp_types.specs.Searched.{IsSearched}
use Rattle.cqp_types.proofs.UseLaws.{none_used}
use Rattle.cqp_types.proofs.SearchLaws.{node_uses, search_next}
use Rattle.cqp_types.proofs.splits.Search.read.Goals as goal

pub use_all-requires-clause-uses : goal.use_all-requires-clause-uses
use_all-requires-clause-uses c =
    let l = c.args.given.now in
    let names : uses_in c.args.node.now ≡ c.in-Apply.qubits = elim c.in-Apply.is [ inl w ↦ ap uses_in w.1 | inr w ↦ ap uses_in w ] in
    subst (AllByRecursion (λ x. uses_at l c.args.n (named x) ≡ true)) (sym (c.as_slice.ensures ∙ sym names))
    (node_uses l c.args.n c.args.node.now c.requires.node.tree)

pub returns-in-Apply-clause-searched : goal.returns-in-Apply-clause-searched
returns-in-Apply-clause-searched c = λ old.
    let l = c.args.given.now in
    let last = c.use_all.new.self.last.items in
    let least = c.use_all.new.self.least in
    let names : uses_in c.args.node.now ≡ c.in-Apply.qubits = elim c.in-Apply.is [ inl w ↦ ap uses_in w.1 | inr w ↦ ap uses_in w ] in
    search_next l c.args.n c.args.node.now last least c.requires.node.tree
    (subst (λ ys. IsSearched l c.args.n ys last least) (c.as_slice.ensures ∙ sym names) (c.use_all.ensures.searched old))

pub returns-in-In-clause-searched : goal.returns-in-In-clause-searched
returns-in-In-clause-searched c = λ old.
    let l = c.args.given.now in
    let last = c.use_name-in-In.new.self.last.items in
    let least = c.use_name-in-In.new.self.least in
    let names : uses_in c.args.node.now ≡ c.in-In.chan ∷ [] = elim c.in-In.is [ inl w ↦ ap uses_in w.2 | inr w ↦ ap uses_in w.2 ] in
    search_next l c.args.n c.args.node.now last least c.requires.node.tree
    (subst (λ ys. IsSearched l c.args.n ys last least) (sym names) (c.use_name-in-In.ensures.searched [] old))

pub returns-in-Name-clause-searched : goal.returns-in-Name-clause-searched
returns-in-Name-clause-searched c = λ old.
    let l = c.args.given.now in
    let last = c.use_name.new.self.last.items in
    let least = c.use_name.new.self.least in
    search_next l c.args.n c.args.node.now last least c.requires.node.tree
    (subst (λ ys. IsSearched l c.args.n ys last least) (sym (ap uses_in c.in-Name.is)) (c.use_name.ensures.searched [] old))

pub returns-in_default : goal.returns-in_default
returns-in_default c = record {
  count = c.requires.count;
  searched = λ old.
      let l = c.args.given.now in
      let last = c.args.self.now.last.items in
      let least = c.args.self.now.least in
      let d = c.in_default in
      let none = none_used c.args.node.now d.not-In d.not-Out d.not-Name d.not-Apply d.not-Measure in
      search_next l c.args.n c.args.node.now last least c.requires.node.tree
      (subst (λ ys. IsSearched l c.args.n ys last least) (sym none) old);
}
