use Rattle.cqp_syntax.proofs.Spreads.{numbered}
use Rattle.cqp_types.proofs.Law.{derivable_where_none_fails, derivable_faultless, faultless_derivable}
use Rattle.cqp_types.proofs.laws.derivation_laws.Goals as goal

pub returns : goal.returns
returns c = record {
  tree = derivable_where_none_fails;
  lists = λ l is.
      let numbers = numbered l is.listed in
      (λ d. derivable_faultless l is.listed numbers d, λ none. faultless_derivable l is.listed numbers none);
}
