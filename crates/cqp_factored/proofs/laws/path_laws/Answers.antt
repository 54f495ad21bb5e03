use Rattle.cqp_factored.proofs.ShownPaths.{shown_paths, factored_paths}
use Rattle.cqp_factored.proofs.laws.path_laws.Goals as goal

pub returns-clause-shown : goal.returns-clause-shown
returns-clause-shown c = shown_paths

pub returns-clause-factored : goal.returns-clause-factored
returns-clause-factored c = factored_paths
