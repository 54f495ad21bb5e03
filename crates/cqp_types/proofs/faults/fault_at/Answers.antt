use Rattle.std.proofs.Common.{map, sym, ◌∙◌, ap, subst}
use Rattle.cqp_syntax.specs.Listing.{Unfolds, type_of_name}
use Rattle.cqp_types.specs.Types.{carried}
use Rattle.cqp_types.specs.Faults.{input_fault}
use Rattle.cqp_types.specs.Rows.{row_fault}
use Rattle.cqp_types.specs.Tables.{binder_in}
use Rattle.cqp_types.proofs.faults.fault_at.Goals as goal

pub returns-in-In-clause-fault : goal.returns-in-In-clause-fault
returns-in-In-clause-fault c =
    let l = c.args.given.now in
    let unfolds = subst (Unfolds l c.args.n) c.in-In.is c.node.ensures.tree in
    c.input_fault.ensures
    ∙ ap (λ ps. input_fault (carried (type_of_name l c.in-In.chan)) (map (binder_in l) ps)) c.as_slice.ensures
    ∙ sym (ap (row_fault (type_of_name l)) unfolds.tree)
