use Rattle.cqp_types.proofs.ValueForName.{expr_value, value_for_name}
use Rattle.cqp_types.proofs.laws.value_laws.Goals as goal

pub returns : goal.returns
returns c = record {
  expr = λ g h b v e t more value d. expr_value g h b v more value d;
  process = λ g h b v p more value unbound d. value_for_name g h b v more value unbound d;
}
