use Rattle.std.proofs.Common.{sym, ◌∙◌, ap, arith}
use Rattle.std.specs.Bool.{then_some}
use Rattle.cqp_reading.specs.DraftLists.{stand}
use Rattle.cqp_reading.specs.Tokens.{token_read}
use Rattle.cqp_reading.proofs.reading.Reading.step.Goals as goal

pub returns-then-self-gt-DEPTH-clause-ended : goal.returns-then-self-gt-DEPTH-clause-ended
returns-then-self-gt-DEPTH-clause-ended c =
    let behind = stand c.token_read.new.next c.token_read.new.draft in
    record {
      offset = c.offset_of-at.ensures;
      behind = behind;
      read =
          ap (λ p. token_read p c.args.self.now.draft c.args.token) (sym c.replace-awaits.ensures.value)
          ∙ sym c.in_ok-token_read.ensures
          ∙ ap (λ may. then_some may behind) c.if-not-branch.false;
      deep = omega (arith, c.open_after-self.ensures);
    }
