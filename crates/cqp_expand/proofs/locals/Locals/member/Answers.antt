use Rattle.std.proofs.Common.{◌++◌, ◌∙◌, map, length, sym, ap, subst}
use Rattle.cqp_expand.specs.declared.outline.Member.TheVariants.{Own}
use Rattle.cqp_expand.specs.Faults.{names_faults, call_faults, signature_of}
use Rattle.cqp_expand.specs.Locals.{scope_in, told, Enters}
use Rattle.cqp_expand.specs.Nodes.{bound_by}
use Rattle.cqp_expand.specs.Outlines.{signatures}
use Rattle.cqp_expand.proofs.NodeFacts.{enters_faults, is_own, own_member, own_faults, member_enters_at}
use Rattle.cqp_expand.proofs.locals.Locals.member.Goals as goal

pub returns-in-Call-clause-enters : goal.returns-in-Call-clause-enters
returns-in-Call-clause-enters c = λ h ds k.
    let l = c.args.self.now in
    let xs = map told c.in-Call.args in
    let fs = names_faults (scope_in l) xs ++ call_faults (scope_in l) c.args.at xs (signature_of (signatures ds) c.in-Call.name) in
    let faults = rw (c.as_slice.ensures, c.as_slice-in-Call.ensures) at (c.in_ok-member.ensures.faults ds k) in
    member_enters_at (signatures ds) l c.call.new.self c.args.at _ _ c.in-Call.is (λ t. enters_faults l c.call.new.self fs c.requires.local faults) h

pub returns : goal.returns
returns c =
    let l = c.args.self.now in
    let x = c.args.node.now in
    let own = is_own x c.in_default.not-Call in
    record {
      member = λ ds k. ap Own c.in_ok-node.ensures.node ∙ sym (own_member (signatures ds) (scope_in l) (length l.ty_of) x own);
      enters = λ h ds k.
          subst (Enters l c.node.new.self (bound_by x h.ty h.params)) (sym (own_faults (signatures ds) (scope_in l) c.args.at x h.params own))
          (c.in_ok-node.ensures.enters h);
    }
