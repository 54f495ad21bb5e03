use Rattle.std.proofs.Common.{nat_lt, length, sym, ap, arith, ◌∙◌}
use Rattle.cqp_uses.proofs.FreeAnswers.{free_least}
use Rattle.cqp_onward.proofs.Shares.{begun_last, none_left, next_begun}
use Rattle.cqp_onward.proofs.sharing.share.Goals as goal

pub returns-in_default-clause-shared : goal.returns-in_default-clause-shared
returns-in_default-clause-shared c l a z before is there apart h =
    let ns = c.args.numbers.now in
    let parts = c.loop-i.parts.items in
    let told = c.loop-i.invariant.told l a z before is there apart h in
    let none = sym (c.user_from.ensures l is) ∙ c.in_default.is in
    begun_last l c.args.bind before ns parts (length ns) c.loop-i.invariant.count (omega arith)
    (none_left l c.args.bind before ns c.args.uses.now is a z there apart c.loop-i.i (omega arith) parts none told)

pub loop-i-preserved : goal.loop-i-preserved
loop-i-preserved c =
    let ns = c.args.numbers.now in
    let u = c.args.uses.now in
    let i = c.loop-i.i in
    let k = c.holder-k.result in
    let user = c.in-Some.user in
    let given = c.in_ok-give.ensures in
    record {
      count = given.count ∙ c.loop-i.invariant.count;
      told = λ l a z before is there apart h.
          let first = sym (c.user_from.ensures l is) ∙ c.in-Some.is in
          let low = c.holder-k.ensures.low l a z apart (free_least l u is c.args.bind.name _ user first) in
          next_begun l c.args.bind before ns u is a z there apart i (omega arith) user k first c.holder-k.ensures.from c.holder-k.ensures.within low
          c.loop-i.parts.items c.give.new.parts.items (nat_lt user c.end.result) (ap (nat_lt user) (c.end.ensures l is))
          (c.loop-i.invariant.told l a z before is there apart h) given.others given.given;
    }

pub returns-clause-shared : goal.returns-clause-shared
returns-clause-shared c l a z before is there apart h =
    begun_last l c.args.bind before c.args.numbers.now c.loop-i.parts.items c.loop-i.i c.loop-i.invariant.count c.loop-i-test.false
    (c.loop-i.invariant.told l a z before is there apart h)
