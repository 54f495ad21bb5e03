use Rattle.std.proofs.Common.{sym, ◌∙◌}
use Rattle.cqp_grammar.proofs.NextLexeme.{blank_lexeme}
use Rattle.cqp_grammar.proofs.lexeme.lexeme_at.Goals as goal

pub returns-then-is_blank : goal.returns-then-is_blank
returns-then-is_blank c = blank_lexeme c.args.at c.args.bytes.now c.requires (sym c.is_blank.ensures ∙ c.if-is_blank.true)
