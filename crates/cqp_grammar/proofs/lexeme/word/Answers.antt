use Rattle.std.proofs.Common.{ℕ, List, subst, sym}
use Rattle.cqp_grammar.specs.declared.lexeme.Lexeme.TheVariants.{Whole}
use Rattle.cqp_grammar.specs.declared.token.Token.{Token}
use Rattle.cqp_grammar.specs.declared.token.Token.TheVariants.{Name}
use Rattle.cqp_grammar.specs.Lexemes.{Advances}
use Rattle.cqp_grammar.proofs.NextLexeme.{reserved_lexeme, name_lexeme}
use Rattle.cqp_grammar.proofs.lexeme.word.Goals as goal
use Rattle.cqp_grammar.proofs.lexeme.word.Goals.{in-Some, in-None}

pub returns : goal.returns
returns c =
    let f = λ (t : Token). Advances c.args.at c.args.bytes.now (Whole t c.word_len-len.result) in
    elim c.match-reserved.branch [
      | in-Some w ↦ subst f (sym w.token-is)
          (reserved_lexeme c.args.at c.word_len-len.result c.args.bytes.now w.in-Some.reserved c.requires.some c.requires.letter c.word_len-len.ensures
          w.in-Some.ensures)
      | in-None w ↦
          let g = λ (x : List ℕ). f (Name x c.args.at) in
          subst f (sym w.token-is) (subst g (sym w.new.ensures)
          (name_lexeme c.args.at c.word_len-len.result c.args.bytes.now c.requires.some c.requires.letter c.word_len-len.ensures w.in-None.ensures))
    ]
