use Rattle.std.proofs.Common.{◌≡◌, ◌<◌, ◌+◌, length, sym, ap, subst, ◌∙◌}
use Rattle.std.specs.List.{AllByRecursion}
use Rattle.cqp_syntax.specs.NodeNames.{uses_in}
use Rattle.cqp_parts.specs.Parts.{node_at, or_nil}
use Rattle.cqp_uses.specs.Users.{UsersBelow, with_users}
use Rattle.cqp_uses.proofs.UserTables.{users_more}
use Rattle.cqp_uses.proofs.uses.Uses.of.Goals as goal

pub loop-n-preserved : goal.loop-n-preserved
loop-n-preserved c =
    let l = c.args.proc.now in
    let n = c.loop-n.n in
    let is : node_at l n ≡ c.node.result.now = ap or_nil c.node.ensures.node in
    let within = subst (λ x. AllByRecursion (λ y. y < length l.ty_of) (uses_in x)) (sym is) c.node.ensures.names.uses in
    let more = users_more l c.loop-n.names.items n c.loop-n.invariant within in
    let put = c.in_ok-record.ensures ∙ ap (λ x. with_users n (uses_in x) c.loop-n.names.items) (sym is) in
    subst (λ us. UsersBelow l us (n + 1)) (sym put) more
