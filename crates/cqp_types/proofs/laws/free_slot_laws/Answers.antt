use Rattle.cqp_types.proofs.Known.{expr_known, free_known}
use Rattle.cqp_types.proofs.laws.free_slot_laws.Goals as goal

pub returns : goal.returns
returns c = record { expr = λ g e t d s i. expr_known g s d i; process = λ g p d s i. free_known g s d i }
