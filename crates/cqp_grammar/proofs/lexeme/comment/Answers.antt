use Rattle.std.proofs.Common.{◌≡◌, ℕ, List, ◌-◌, ◌==◌, not, take, drop, length, length-drop}
use Rattle.std.proofs.Common.{take_all, subst, arith}
use Rattle.cqp_grammar.specs.Lexemes.{IsRun}
use Rattle.cqp_grammar.proofs.NextLexeme.{comment_lexeme, dash_lexeme}
use Rattle.cqp_grammar.proofs.lexeme.comment.Goals as goal
use Rattle.cqp_grammar.proofs.lexeme.comment.Goals.{else-bytes-gt1-via-then-bytes-gt1+else-bytes-eq45}
use Rattle.cqp_grammar.proofs.lexeme.comment.Goals.{else-bytes-gt1-via-else-bytes-gt1}

pub returns-then-bytes-eq45 : goal.returns-then-bytes-eq45
returns-then-bytes-eq45 c =
    let behind : take (length c.args.bytes.now - 2) (drop 2 c.args.bytes.now) ≡ drop 2 c.args.bytes.now
    = take_all _ _ (omega (arith, length-drop 2 c.args.bytes.now)) in
    let f = λ (x : List ℕ). IsRun (λ b. not (b == 10)) x c.line_len.result in
    comment_lexeme c.args.at c.line_len.result c.args.bytes.now c.if-bytes-gt1.true c.requires.dash c.if-bytes-eq45.true
    (subst f behind c.line_len.ensures)

pub returns-else-bytes-gt1 : goal.returns-else-bytes-gt1
returns-else-bytes-gt1 c =
    dash_lexeme c.args.at c.args.bytes.now c.requires.some c.requires.dash (λ long dash. elim c.else-bytes-gt1.branch [
      | else-bytes-gt1-via-then-bytes-gt1+else-bytes-eq45 w ↦ w.if-bytes-eq45.false dash
      | else-bytes-gt1-via-else-bytes-gt1 w ↦ omega arith
    ])
