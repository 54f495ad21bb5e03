use Rattle.cqp_telling.proofs.Odds.{odds_law, outcome_law}
use Rattle.cqp_telling.proofs.laws.odds_laws.Goals as goal

pub returns : goal.returns
returns c = record {
  odds = odds_law c.least_laws.ensures.norm c.measurement_laws.ensures.total c.size_laws.ensures.need c.group_laws.ensures.are c.group_laws.ensures.places;
  outcome = outcome_law c.least_laws.ensures.norm;
}
