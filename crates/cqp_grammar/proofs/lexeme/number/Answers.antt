use Rattle.std.proofs.Common.{ℕ, subst, sym}
use Rattle.cqp_grammar.specs.declared.lexeme.Lexeme.TheVariants.{Whole}
use Rattle.cqp_grammar.specs.declared.token.Token.TheVariants.{Number}
use Rattle.cqp_grammar.specs.Lexemes.{Advances}
use Rattle.cqp_grammar.proofs.NextLexeme.{leading_zero, number_lexeme, too_large}
use Rattle.cqp_grammar.proofs.lexeme.number.Goals as goal
use Rattle.cqp_grammar.proofs.lexeme.number.Goals.{else-len-gt1-via-then-len-gt1+else-bytes-eq48}
use Rattle.cqp_grammar.proofs.lexeme.number.Goals.{else-len-gt1-via-else-len-gt1}

pub returns-then-bytes-eq48 : goal.returns-then-bytes-eq48
returns-then-bytes-eq48 c =
    leading_zero c.args.at c.digits_len-len.result c.args.bytes.now c.requires.some c.requires.digit c.digits_len-len.ensures
    c.if-len-gt1.true c.if-bytes-eq48.true

pub returns-in-Some : goal.returns-in-Some
returns-in-Some c =
    let f = λ (v : ℕ). Advances c.args.at c.args.bytes.now (Whole (Number v c.args.at) c.digits_len-len.result) in
    subst f (sym c.in-Some.ensures.1)
    (number_lexeme c.args.at c.digits_len-len.result c.args.bytes.now c.requires.some c.requires.digit c.digits_len-len.ensures
    (λ zero_first. elim c.else-len-gt1.branch [
      | else-len-gt1-via-then-len-gt1+else-bytes-eq48 w ↦ absurd (w.if-bytes-eq48.false zero_first)
      | else-len-gt1-via-else-len-gt1 w ↦ w.if-len-gt1.false
    ])
    c.in-Some.ensures.0)

pub returns-in-None : goal.returns-in-None
returns-in-None c =
    too_large c.args.at c.digits_len-len.result c.args.bytes.now c.requires.some c.requires.digit c.digits_len-len.ensures c.in-None.ensures
