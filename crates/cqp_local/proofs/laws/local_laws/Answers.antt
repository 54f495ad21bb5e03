use Rattle.cqp_local.proofs.LocalLaws.{factored_local, factored_leaves_others}
use Rattle.cqp_local.proofs.WholeFits.{whole_enabled, whole_after}
use Rattle.cqp_local.proofs.laws.local_laws.Goals as goal

pub returns-clause-local : goal.returns-clause-local
returns-clause-local c = factored_local

pub returns-clause-others : goal.returns-clause-others
returns-clause-others c = factored_leaves_others

pub returns-clause-whole : goal.returns-clause-whole
returns-clause-whole c l f s e on = record {
  enabled = whole_enabled l f s e on;
  leaves = whole_after l f s e on;
}
