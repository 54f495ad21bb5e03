use Rattle.std.proofs.Common.{◌∙◌, sym, subst, MatchOption, Option}
use Rattle.cqp_grammar.specs.Lexemes.{Begins, NoneBegins}
use Rattle.cqp_grammar.specs.Spelling.{symbol_text}
use Rattle.cqp_grammar.specs.declared.token.SymbolKind.{SymbolKind}
use Rattle.cqp_grammar.proofs.Tables.{begins_from_test, none_begins, only_one_begins}
use Rattle.cqp_grammar.proofs.spelling.first_symbol.Goals as goal

pub returns-then-is_whole : goal.returns-then-is_whole
returns-then-is_whole c =
    begins_from_test c.args.bytes.now c.in_ok-symbol.symbol c.is_whole.result c.is_whole.ensures c.if-is_whole.true

pub returns-else-is_whole : goal.returns-else-is_whole
returns-else-is_whole c =
    only_one_begins c.args.bytes.now c.in_ok-symbol.symbol (sym c.symbol_from.ensures ∙ c.in_ok-symbol.was)
    (sym c.is_whole.ensures ∙ c.if-is_whole.false)

pub returns-in_err-symbol : goal.returns-in_err-symbol
returns-in_err-symbol c =
    let f = λ (r : Option SymbolKind). MatchOption r (NoneBegins c.args.bytes.now) (λ s. Begins c.args.bytes.now (symbol_text s)) in
    subst f (sym c.from_residual.ensures) (none_begins c.args.bytes.now (sym c.symbol_from.ensures ∙ c.in_err-symbol.was))
