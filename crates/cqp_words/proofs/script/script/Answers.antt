use Rattle.std.proofs.Common.{subst, arith, rules, ℕ}
use Rattle.std.proofs.lemmas.Str.Pattern.{split_once_first}
use Rattle.cqp_words.specs.Requests.{IsNumber, IsPick}
use Rattle.cqp_words.proofs.Scripts.{goes_on, ends, stops, stops_last}
use Rattle.cqp_words.proofs.script.script.Goals as goal

pub split_once-requires-text-self : goal.split_once-requires-text-self
split_once-requires-text-self c κs = c.loop-first.invariant.0

pub wanted-requires-2-text-text : goal.wanted-requires-2-text-text
wanted-requires-2-text-text c κs = c.loop-first.invariant.0

pub loop-first-preserved : goal.loop-first-preserved
loop-first-preserved c =
    let cut = split_once_first 44 c.loop-first.rest.now c.split_once.result c.split_once.ensures.cases (omega arith) in
    let here = rw c.in-Some.is at cut in
    let number = subst (λ t. IsNumber t 0 4294967295 c.in-Ok.number) here.1 c.in-Ok.ensures.given in
    let next = goes_on IsPick c.args.text.now c.loop-first.rest.now c.loop-first.numbers.items c.in-Ok.number c.loop-first.invariant.1 here.0 number in
    (search rules, rw (here.2, c.in_ok-push-in-Ok.ensures) next)

pub returns-in-Err-clause-usage : goal.returns-in-Err-clause-usage
returns-in-Err-clause-usage c = λ u.
    let cut = split_once_first 44 c.loop-first.rest.now c.split_once.result c.split_once.ensures.cases (omega arith) in
    let here = rw c.in-Some.is at cut in
    let none = subst (λ t. (n : ℕ) → IsNumber t 0 4294967295 n → ⊥) here.1 (c.in-Err.ensures.usage u) in
    stops IsPick c.args.text.now c.loop-first.rest.now c.loop-first.numbers.items c.loop-first.invariant.1 here.0 none

pub returns-clause-given : goal.returns-clause-given
returns-clause-given c =
    let cut = split_once_first 44 c.loop-first.rest.now c.split_once.result c.split_once.ensures.cases (omega arith) in
    let here = rw c.in_default.is at cut in
    let last = c.in-Ok-wanted in
    rw c.in_ok-push-in-Ok-wanted.ensures
    (ends IsPick c.args.text.now c.loop-first.rest.now c.loop-first.numbers.items last.number c.loop-first.invariant.1 here last.ensures.given)

pub returns-in-Err-wanted-clause-usage : goal.returns-in-Err-wanted-clause-usage
returns-in-Err-wanted-clause-usage c = λ u.
    let cut = split_once_first 44 c.loop-first.rest.now c.split_once.result c.split_once.ensures.cases (omega arith) in
    let here = rw c.in_default.is at cut in
    stops_last IsPick c.args.text.now c.loop-first.rest.now c.loop-first.numbers.items c.loop-first.invariant.1 here (c.in-Err-wanted.ensures.usage u)
