use Rattle.std.proofs.Common.{ℕ, subst, sym}
use Rattle.cqp_grammar.specs.declared.lexeme.Lexeme.TheVariants.{Whole}
use Rattle.cqp_grammar.specs.declared.token.Token.TheVariants.{Symbol}
use Rattle.cqp_grammar.specs.Lexemes.{Advances}
use Rattle.cqp_grammar.proofs.NextLexeme.{symbol_lexeme, no_symbol}
use Rattle.cqp_grammar.proofs.lexeme.symbol.Goals as goal

pub returns-in-Some : goal.returns-in-Some
returns-in-Some c =
    let f = λ (n : ℕ). Advances c.args.at c.args.bytes.now (Whole (Symbol c.in-Some.symbol c.args.at) n) in
    subst f (sym c.symbol_len.ensures) (symbol_lexeme c.args.at c.args.bytes.now c.in-Some.symbol c.in-Some.ensures)

pub returns-in-None : goal.returns-in-None
returns-in-None c =
    no_symbol c.args.at c.args.bytes.now c.requires.some c.requires.letter c.requires.digit c.requires.blank c.requires.dash c.in-None.ensures
