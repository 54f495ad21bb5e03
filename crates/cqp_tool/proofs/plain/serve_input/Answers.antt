use Rattle.std.proofs.Common.{◌≤◌, length, subst}
use Rattle.cqp_tool.specs.Serving.{AnswersInput}
use Rattle.cqp_tool.proofs.Serving.{input_served}
use Rattle.cqp_tool.proofs.plain.serve_input.Goals as goal

pub returns-in_ok-answer-in-Ok-clause-served : goal.returns-in_ok-answer-in-Ok-clause-served
returns-in_ok-answer-in-Ok-clause-served g c =
    input_served c.args.task.now _ _ c.in-Ok.input c.in_ok-answer-in-Ok.field-0 c.requires c.in-Ok.ensures.read.0
    (subst (λ n. length c.in-Ok.input ≤ n) c.limit.ensures c.in-Ok.ensures.read.1)
    (subst (λ xs. AnswersInput c.args.task.now xs c.in_ok-answer-in-Ok.field-0) c.as_slice.ensures c.in_ok-answer-in-Ok.ensures)
