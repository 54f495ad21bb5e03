use Rattle.std.proofs.Common.{◌+◌, slice_index_or, ap, arith, ◌∙◌}
use Rattle.cqp_redexes.proofs.Orders.{order_some, order_none}
use Rattle.cqp_redexes.proofs.redexes.Redexes.redex.Goals as goal
use Rattle.cqp_redexes.proofs.redexes.Redexes.redex.Goals.{else-from-end-via-then-from-end+else-k-end, else-from-end-via-else-from-end}

pub returns-then-k-end : goal.returns-then-k-end
returns-then-k-end c l is within =
    let o = c.args.self.now in
    let starts = ap (λ v. v.starts) c.self.view_is in
    let redexes = ap (λ v. v.redexes) c.self.view_is in
    let from = c.index-from.result.now in
    let end = c.index-end.result.now in
    order_some l o is c.args.n c.args.k from end within (c.index-from.ensures ∙ ap (λ xs. slice_index_or xs c.args.n from) starts) (c.index-end.ensures
    ∙ ap (λ xs. slice_index_or xs (c.args.n + 1) end) starts)
    c.index.result.now c.if-k-end.true (c.index.ensures ∙ ap (λ xs. slice_index_or xs (from + c.args.k) c.index.result.now) redexes)

pub returns-else-from-end : goal.returns-else-from-end
returns-else-from-end c l is within =
    let o = c.args.self.now in
    let starts = ap (λ v. v.starts) c.self.view_is in
    let from = c.index-from.result.now in
    let end = c.index-end.result.now in
    let none =
    order_none l o is c.args.n c.args.k from end within (c.index-from.ensures ∙ ap (λ xs. slice_index_or xs c.args.n from) starts) (c.index-end.ensures
    ∙ ap (λ xs. slice_index_or xs (c.args.n + 1) end) starts) in
    elim c.else-from-end.branch [
      | else-from-end-via-then-from-end+else-k-end w ↦ none w.if-k-end.false
      | else-from-end-via-else-from-end w ↦ none (omega (arith, w.if-from-end.false))
    ]
