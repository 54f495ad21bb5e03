use Rattle.cqp_types.proofs.Relevance.{expr_weakened, weakened}
use Rattle.cqp_types.proofs.laws.weakening_laws.Goals as goal

pub returns : goal.returns
returns c = record { expr = λ g h e t more d. expr_weakened g h more d; process = λ g h p more d. weakened g h more d }
