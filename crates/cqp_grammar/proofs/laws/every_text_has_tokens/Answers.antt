use Rattle.cqp_grammar.proofs.EveryText.{has_tokens}
use Rattle.cqp_grammar.proofs.OneReading.{one_reading}
use Rattle.cqp_grammar.proofs.laws.every_text_has_tokens.Goals as goal

pub returns-clause-some : goal.returns-clause-some
returns-clause-some c = has_tokens

pub returns-clause-one : goal.returns-clause-one
returns-clause-one c = λ text ts us l r. one_reading l r
