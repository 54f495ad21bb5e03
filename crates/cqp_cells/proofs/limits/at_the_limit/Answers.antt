use Rattle.std.proofs.Common.{refl, inl}
use Rattle.cqp_cells.specs.Repeated.{last_of, turns, turns_entries, up_to_limit}
use Rattle.cqp_cells.proofs.SmallCases.{nothing_left}
use Rattle.cqp_cells.proofs.limits.at_the_limit.Goals as goal

pub returns-clause-done : goal.returns-clause-done
returns-clause-done c = record {
  last = last_of (turns 177) (turns_entries 177);
  path = record { leads = refl; below = refl };
  end = (nothing_left (last_of (turns 177) (turns_entries 177)) refl, refl);
  least = inl refl;
  weight = refl;
}

pub returns-clause-stopped : goal.returns-clause-stopped
returns-clause-stopped c = record {
  last = last_of (turns 178) up_to_limit;
  path = record { leads = refl; below = refl };
  end = (refl, refl);
  least = inl refl;
  weight = refl;
}
