use Rattle.cqp_grammar.proofs.GateWords.{word_back, word_only}
use Rattle.cqp_grammar.proofs.laws.gate_words.Goals as goal

pub returns-clause-back : goal.returns-clause-back
returns-clause-back c = word_back

pub returns-clause-only : goal.returns-clause-only
returns-clause-only c = word_only
