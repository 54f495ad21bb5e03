use Rattle.std.proofs.Common.{◌≡◌, ◌++◌, [], ◌∷◌, Some, ap, sym, ◌∙◌}
use Rattle.cqp_machine.specs.Cells.{with_at}
use Rattle.cqp_machine.specs.Factors.{new_group}
use Rattle.cqp_groups.specs.Groups.{groups_in}
use Rattle.cqp_groups.proofs.SlotLemmas.{pushed_is}
use Rattle.cqp_groups.proofs.StateLemmas.{pushed_state}
use Rattle.cqp_groups.proofs.groups.Groups.grown.Goals as goal

pub returns-clause-ok : goal.returns-clause-ok
returns-clause-ok c =
    let now = c.args.self.now in
    let group = Some (new_group c.args.qubit) in
    let pushed : c.push.new.self.items ≡ now ++ group ∷ [] =
    c.in_ok-push.ensures.items
    ∙ (ap (λ z. z ++ Some c.in_ok-group.group ∷ []) c.self.view_is ∙ ap (λ z. now ++ Some z ∷ []) c.in_ok-group.ensures) in
    ap groups_in pushed ∙ (pushed_is now group ∙ ap (λ n. with_at n group (groups_in now)) (sym c.requires))

pub returns-clause-state : goal.returns-clause-state
returns-clause-state c =
    let pushed : c.push.new.self.items ≡ c.args.self.now ++ Some (new_group c.args.qubit) ∷ [] =
    c.in_ok-push.ensures.items
    ∙ (ap (λ z. z ++ Some c.in_ok-group.group ∷ []) c.self.view_is ∙ ap (λ z. c.args.self.now ++ Some z ∷ []) c.in_ok-group.ensures) in
    pushed_state c.args.self.now c.push.new.self.items c.args.qubit c.requires pushed
