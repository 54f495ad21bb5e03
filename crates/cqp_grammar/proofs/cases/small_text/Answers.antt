use Rattle.cqp_grammar.proofs.Examples.{small_text_read}
use Rattle.cqp_grammar.proofs.cases.small_text.Goals as goal

pub returns : goal.returns
returns c = small_text_read
