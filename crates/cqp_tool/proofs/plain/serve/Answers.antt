use Rattle.std.proofs.Common.{sym}
use Rattle.cqp_tool.proofs.Serving.{refused_served, words_all_served}
use Rattle.cqp_tool.proofs.plain.serve.Goals as goal

pub returns-in-Some-clause-served : goal.returns-in-Some-clause-served
returns-in-Some-clause-served g c =
    words_all_served _ c.in-Some.task _ _ c.serve_task.result
    (c.in-Ok.request, c.in-Ok.ensures.given, sym c.in-Some.ensures) c.serve_task.ensures.served

pub returns-in-Err-Usage-clause-served : goal.returns-in-Err-Usage-clause-served
returns-in-Err-Usage-clause-served g c =
    refused_served _ _ c.says-in-Err-Usage.result (c.in-Err-Usage.ensures.usage c.in-Err-Usage.field-0-is)
    c.says-in-Err-Usage.ensures.status c.says-in-Err-Usage.ensures.text
