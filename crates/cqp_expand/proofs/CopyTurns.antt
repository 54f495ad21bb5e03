-- The copy ends: each turn takes one of the turns that are left.
use Rattle.std.proofs.Common.{◌≡◌, ℕ, ◌+◌, ◌<◌, List, [], ◌∷◌, ◌++◌, length, drop, sum_by, slice_index, slice_get, Some}
use Rattle.std.proofs.Common.{refl, ap, sym, ◌∙◌, subst, arith}
use Rattle.std.proofs.lemmas.List.Sums.{sum_by-cons, sum_by-append}
use Rattle.std.proofs.lemmas.Option.{slice_get_within}
use Rattle.std.specs.List.{AllByRecursion}
use Rattle.cqp_syntax.specs.declared.ty.Ty.{Ty}
use Rattle.cqp_grammar.specs.Trees.{ProgramTree}
use Rattle.cqp_expand.specs.declared.copy.Instance.{Instance}
use Rattle.cqp_expand.specs.declared.outline.Outline.{Outline}
use Rattle.cqp_expand.specs.declared.outline.Member.{Member}
use Rattle.cqp_expand.specs.declared.outline.Member.TheVariants.{Own, Call}
use Rattle.cqp_expand.specs.Expansion.{expansion, expansion_offsets}
use Rattle.cqp_expand.specs.Copying.{Copying, next_instance, popped, with_member}
use Rattle.cqp_expand.specs.Copies.{IsSmall}
use Rattle.cqp_expand.proofs.AllOutlines.{program_templates}
use Rattle.cqp_expand.proofs.CallStep.{called_before}
use Rattle.cqp_expand.proofs.Tasks.{drop_at}
use Rattle.cqp_expand.proofs.Weights.{member_weight, weight, weights_after, turns, turns_left, Before, scoped_before, weights_at}
use Rattle.cqp_expand.proofs.CopyLoop.{IsGoing, knows, top, same_outline, there}
use Rattle.cqp_expand.proofs.Small.{same_some}

module _ (t : ProgramTree) (types : List Ty) (outlines : List Outline) (s : IsSmall t types outlines) where
  -- a definition takes as many turns as its weight
  weights_known : (i : ℕ) (d : Outline) → slice_get outlines i ≡ Some d
      → slice_index (weights_after [] outlines) i ≡ weight (weights_after [] outlines) d.members.items
  weights_known i d h =
      let k = knows t types outlines s i (slice_get_within outlines i d h) in
      let same = same_some k.outline d (sym k.at_outline ∙ h) in
      let before = scoped_before (program_templates t) i (length k.outline.members.items)
      (length k.outline.ty_of.items) k.outline.members.items k.template.arity k.copied.scoped in
      weights_at outlines [] i i d (omega arith) h (subst (λ (z : Outline). AllByRecursion (Before i) z.members.items) same before)

  -- a member takes one, and a call as many as its definition
  pub turns_step : (c : Copying) (fs : List Instance) (f : Instance) (d : Outline) (x : Member) → slice_get outlines f.def ≡ Some d
      → slice_get d.members.items f.next ≡ Some x
      → IsGoing t types outlines c → c.instances ≡ fs ++ f ∷ []
      → turns_left outlines (with_member d f x (popped c fs f)).instances < turns_left outlines (fs ++ f ∷ [])
  turns_step c fs f d (Own x) at here g e =
      let ws = weights_after [] outlines in
      let own : turns outlines f ≡ 1 + (1 + sum_by (member_weight ws) (drop (f.next + 1) d.members.items)) = rw at (ap (weight ws)
      (drop_at d.members.items f.next (Own x) here) ∙ ap (λ z. 1 + z) (sum_by-cons (member_weight ws) (Own x) (drop (f.next + 1) d.members.items))) in
      let later : turns outlines (next_instance f) ≡ 1 + sum_by (member_weight ws) (drop (f.next + 1) d.members.items) = rw at refl in
      omega (
        arith,
        own,
        later,
        sum_by-append (turns outlines) fs (f ∷ []),
        sum_by-cons (turns outlines) f [],
        sum_by-append (turns outlines) fs
            (next_instance f ∷ []),
        sum_by-cons (turns outlines) (next_instance f) [],
      )
  turns_step c fs f d (Call def args) at here g e =
      let ws = weights_after [] outlines in
      let own : turns outlines f ≡ 1 + (1 + slice_index ws def + sum_by (member_weight ws) (drop (f.next + 1) d.members.items)) = rw at (ap (weight ws)
      (drop_at d.members.items f.next (Call def args) here)
      ∙ ap (λ z. 1 + z) (sum_by-cons (member_weight ws) (Call def args) (drop (f.next + 1) d.members.items))) in
      let later : turns outlines (next_instance f) ≡ 1 + sum_by (member_weight ws) (drop (f.next + 1) d.members.items) = rw at refl in
      let u = top t types outlines s c fs f g e in
      let same = same_outline t types outlines s c fs f d g e at in
      let before = called_before (program_templates t) types outlines (expansion t) (expansion_offsets t) c u.task u.more def args u.is
      (there t types outlines s c fs f d g e at
      (Call def args) here) in
      let k = knows t types outlines s def (let w = slice_get_within outlines u.task.instance.def u.task.outline u.is.tasks.0.known in
      omega (arith, before, w)) in
      let new : Instance = record { def = def; next = 0; base = length c.numbers; start = f.start + slice_index d.starts.items f.next } in
      let begins : turns outlines new ≡ slice_index ws def = rw k.at_outline (ap (weight ws) (drop_none k.outline.members.items)
      ∙ sym (weights_known def k.outline k.at_outline)) in
      omega (
        arith,
        own,
        later,
        begins,
        sum_by-append (turns outlines) fs (f ∷ []),
        sum_by-cons (turns outlines) f [],
        sum_by-append (turns outlines) fs
            (next_instance f ∷ []),
        sum_by-cons (turns outlines) (next_instance f) [],
        sum_by-append (turns outlines) (fs ++ next_instance f ∷ []) (new ∷ []),
        sum_by-cons (turns outlines) new [],
      )
    where
      drop_none : {X : Type 0} (xs : List X) → drop 0 xs ≡ xs
      drop_none [] = refl
      drop_none (x ∷ xs) = refl
