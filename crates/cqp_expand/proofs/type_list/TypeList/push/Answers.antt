use Rattle.std.proofs.Common.{◌≡◌, ◌∙◌, ℕ, List, sym, ap, subst, ◌++◌, ◌∷◌, [], map, slice_get, Some, bytes_eq}
use Rattle.std.specs.Prelude.{if◌then◌else◌}
use Rattle.std.specs.List.{list_any}
use Rattle.cqp_syntax.specs.declared.ty.Ty.{Ty}
use Rattle.cqp_expand.specs.TypeWords.{type_word}
use Rattle.cqp_expand.proofs.TypeWords.{words_more}
use Rattle.cqp_expand.proofs.type_list.TypeList.push.Goals as goal

pub invariant_of-self-2 : goal.invariant_of-self-2
invariant_of-self-2 c =
    let keys = c.self.inside.words.keys in
    let word = c.in_ok-word.word in
    let types = c.self.inside.types.items in
    let put = c.in_ok-insert.ensures.keys
    ∙ ap (λ w. if list_any (λ k. bytes_eq w k.items) keys then keys else keys ++ word ∷ []) c.in_ok-word.ensures in
    let more = c.push_reserved.ensures.items ∙ ap (λ ts. ts ++ c.args.ty ∷ []) c.reserve.ensures.items in
    ap (map (λ w. w.items)) put ∙ words_more (λ w. w.items) c.args.ty types keys word c.self.invariant
    (subst (λ (ts : List Ty). (n : ℕ) → slice_get ts n ≡ Some c.args.ty → ⊥) (sym c.self.view_is) c.requires.new) c.in_ok-word.ensures
    ∙ ap (map type_word) (sym more)
