use Rattle.cqp_types.proofs.Relevance.{expr_strengthened, strengthened}
use Rattle.cqp_types.proofs.laws.strengthening_laws.Goals as goal

pub returns : goal.returns
returns c = record { expr = λ g taken e t apart d. expr_strengthened g taken apart d; process = λ g taken p apart d. strengthened g taken apart d }
