use Rattle.std.proofs.Common.{◌≡◌, ◌∙◌, ℕ, ap, subst, Some, slice_get, bytes_eq}
use Rattle.std.specs.Prelude.{IfSome, IfNone}
use Rattle.std.specs.List.{list_any, position}
use Rattle.cqp_expand.proofs.TypeWords.{found_word, lost_word}
use Rattle.cqp_expand.proofs.type_list.TypeList.find_word.Goals as goal

pub returns-clause-found : goal.returns-clause-found
returns-clause-found c =
    let keys = c.self.inside.words.keys in
    let word = c.as_slice.ensures.value ∙ c.in_ok-word.ensures in
    let index = c.get_index_of.ensures.index ∙ ap (λ w. position (λ k. bytes_eq w k.items) keys) word in
    subst (λ types. IfSome c.get_index_of.result (λ n. slice_get types n ≡ Some c.args.ty.now)) c.self.view_is
    (found_word (λ w. w.items) c.args.ty.now c.self.inside.types.items keys c.get_index_of.result c.in_ok-word.word c.self.invariant index)

pub returns-clause-missing : goal.returns-clause-missing
returns-clause-missing c =
    let keys = c.self.inside.words.keys in
    let word = c.as_slice.ensures.value ∙ c.in_ok-word.ensures in
    let found = c.get_index_of.ensures.found ∙ ap (λ w. list_any (λ k. bytes_eq w k.items) keys) word in
    subst (λ types. IfNone c.get_index_of.result ((n : ℕ) → slice_get types n ≡ Some c.args.ty.now → ⊥)) c.self.view_is
    (lost_word (λ w. w.items) c.args.ty.now c.self.inside.types.items keys c.get_index_of.result c.self.invariant found)
