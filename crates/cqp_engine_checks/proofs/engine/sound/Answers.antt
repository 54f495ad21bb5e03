use Rattle.std.proofs.Common.{refl}
use Rattle.cqp_types.specs.Derivations.{nil_}
use Rattle.cqp_engine_checks.proofs.engine.sound.Goals as goal

pub returns : goal.returns
returns c = record { derivable = nil_; binders = refl }
