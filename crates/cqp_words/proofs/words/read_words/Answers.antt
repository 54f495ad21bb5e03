use Rattle.std.proofs.Common.{map, sym, ◌∙◌}
use Rattle.cqp_words.proofs.Bools.{fails}
use Rattle.cqp_words.proofs.Requesting.{begins, begun, given_by, refused_by}
use Rattle.cqp_words.proofs.words.read_words.Goals as goal

pub returns-then-not-starts-clause-usage : goal.returns-then-not-starts-clause-usage
returns-then-not-starts-clause-usage c = λ u r ask.
    let (is, are, first, rest) = ask in
    fails (sym c.if-not-starts.true ∙ c.starts.ensures ∙ begun (map (λ w. w.now) c.args.words.now) is are first)

pub returns-in-Ok-clause-given : goal.returns-in-Ok-clause-given
returns-in-Ok-clause-given c =
    let words = map (λ w. w.now) c.args.words.now in
    let (is, are, gives) = c.in-Ok.ensures.given in
    given_by c.asked.result c.in-Ok.matches words is are gives (begins words is are (sym c.starts.ensures ∙ c.if-not-starts.false)) c.asked.ensures.given

pub returns-in-Ok-clause-usage : goal.returns-in-Ok-clause-usage
returns-in-Ok-clause-usage c =
    let words = map (λ w. w.now) c.args.words.now in
    let (is, are, gives) = c.in-Ok.ensures.given in
    refused_by c.asked.result c.in-Ok.matches words is are gives c.asked.ensures.usage

pub returns-in-Err-clause-usage : goal.returns-in-Err-clause-usage
returns-in-Err-clause-usage c = λ u r ask. let (is, are, first, rest) = ask in c.in-Err.ensures.usage u is are
