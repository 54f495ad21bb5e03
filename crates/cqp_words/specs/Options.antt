-- The values of options. No public clause cites this module.
use Rattle.std.specs.Prelude.{List, map}
use Rattle.cqp_words.specs.Items.{Flag, for_workers, for_script, for_seed, for_born, for_rules}
use Rattle.cqp_words.specs.Items.{Text}
use Rattle.cqp_words.specs.declared.options.Options.{Options}

-- the values of an option
abbrev pub values_in : Options → Flag → List Text
values_in o for_workers = map (λ v. v.now) o.workers.now
values_in o for_script = map (λ v. v.now) o.script.now
values_in o for_seed = map (λ v. v.now) o.seed.now
values_in o for_born = map (λ v. v.now) o.born.now
values_in o for_rules = map (λ v. v.now) o.rules.now
