use Rattle.std.proofs.Common.{◌≡◌, List, [], ◌∷◌, IfErr, sym, subst, Result}
use Rattle.cqp_words.specs.declared.given.WordsEnd.{WordsEnd}
use Rattle.cqp_words.specs.declared.given.WordsEnd.TheVariants.{Usage}
use Rattle.cqp_words.specs.Items.{Flag, Text}
use Rattle.cqp_words.specs.declared.request.Request.{Request}
use Rattle.cqp_words.specs.Requests.{Asks}
use Rattle.cqp_words.specs.Options.{values_in}
use Rattle.cqp_words.proofs.request.alone.Goals as goal

-- nothing is asked for by the command alone
abbrev Refuses : Result Request WordsEnd → (Flag → List Text) → Text → Type 0
Refuses r values t = IfErr r (λ e. e ≡ Usage → (q : Request) → Asks (t ∷ []) values q → ⊥)

pub returns-in-run-clause-usage : goal.returns-in-run-clause-usage
returns-in-run-clause-usage c = subst (Refuses c.run.result (values_in c.args.options)) (sym c.in-run.is) c.run.ensures.usage

pub returns-in-state-clause-usage : goal.returns-in-state-clause-usage
returns-in-state-clause-usage c = subst (Refuses c.state.result (values_in c.args.options)) (sym c.in-state.is) c.state.ensures.usage

pub returns-in-watch-clause-usage : goal.returns-in-watch-clause-usage
returns-in-watch-clause-usage c = subst (Refuses c.watch.result (values_in c.args.options)) (sym c.in-watch.is) c.watch.ensures.usage
