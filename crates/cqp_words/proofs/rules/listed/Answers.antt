use Rattle.std.proofs.Common.{subst, arith, rules}
use Rattle.std.proofs.lemmas.Str.Pattern.{split_once_first}
use Rattle.cqp_words.specs.declared.rules.Watched.{Watched}
use Rattle.cqp_words.specs.Requests.{IsWatched}
use Rattle.cqp_words.proofs.Scripts.{goes_on, ends, stops, stops_last}
use Rattle.cqp_words.proofs.rules.listed.Goals as goal

pub split_once-requires-text-self : goal.split_once-requires-text-self
split_once-requires-text-self c κs = c.loop-first.invariant.0

pub item-requires-2-text-text : goal.item-requires-2-text-text
item-requires-2-text-text c κs = c.loop-first.invariant.0

pub loop-first-preserved : goal.loop-first-preserved
loop-first-preserved c =
    let cut = split_once_first 44 c.loop-first.rest.now c.split_once.result c.split_once.ensures.cases (omega arith) in
    let here = rw c.in-Some.is at cut in
    let number = subst (λ t. IsWatched t c.in-Ok.found) here.1 c.in-Ok.ensures.given in
    let next = goes_on IsWatched c.args.text.now c.loop-first.rest.now c.loop-first.list.items c.in-Ok.found c.loop-first.invariant.1 here.0 number in
    (search rules, rw (here.2, c.in_ok-push-in-Ok.ensures) next)

pub returns-in-Err-clause-usage : goal.returns-in-Err-clause-usage
returns-in-Err-clause-usage c = λ u.
    let cut = split_once_first 44 c.loop-first.rest.now c.split_once.result c.split_once.ensures.cases (omega arith) in
    let here = rw c.in-Some.is at cut in
    let none = subst (λ t. (w : Watched) → IsWatched t w → ⊥) here.1 (c.in-Err.ensures.usage u) in
    stops IsWatched c.args.text.now c.loop-first.rest.now c.loop-first.list.items c.loop-first.invariant.1 here.0 none

pub returns-clause-given : goal.returns-clause-given
returns-clause-given c =
    let cut = split_once_first 44 c.loop-first.rest.now c.split_once.result c.split_once.ensures.cases (omega arith) in
    let here = rw c.in_default.is at cut in
    let last = c.in-Ok-item in
    rw c.in_ok-push-in-Ok-item.ensures
    (ends IsWatched c.args.text.now c.loop-first.rest.now c.loop-first.list.items last.found c.loop-first.invariant.1 here last.ensures.given)

pub returns-in-Err-item-clause-usage : goal.returns-in-Err-item-clause-usage
returns-in-Err-item-clause-usage c = λ u.
    let cut = split_once_first 44 c.loop-first.rest.now c.split_once.result c.split_once.ensures.cases (omega arith) in
    let here = rw c.in_default.is at cut in
    stops_last IsWatched c.args.text.now c.loop-first.rest.now c.loop-first.list.items c.loop-first.invariant.1 here (c.in-Err-item.ensures.usage u)
