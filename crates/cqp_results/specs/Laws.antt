-- Laws of results: the redex that is next after so many, and the values in the end.
use Rattle.std.specs.Prelude.{◌≡◌, ◌<◌, List, map, length, true, Some}
use Rattle.std.specs.List.{list_all}
use Rattle.cqp_syntax.specs.declared.val.Val.{Val}
use Rattle.cqp_syntax.specs.Trees.{Expr, value}
use Rattle.cqp_cells.specs.Redex.{next_redex_of}
use Rattle.cqp_parts.specs.Bound.{results_exprs}
use Rattle.cqp_results.specs.Results.{is_closed, count_of, nth_redex_of, redex_with, operands}

-- the law: while results are fewer than redexes, the next is the one of their number
abbrev pub NextLaw : Type 0
NextLaw =
    (es : List Expr) (vs : List Val) → list_all is_closed es ≡ true → length vs < count_of es
    → next_redex_of (results_exprs vs es) ≡ Some (redex_with vs (nth_redex_of es (length vs)))

-- the law: once they are as many, the expressions are values
abbrev pub ValuesLaw : Type 0
ValuesLaw =
    (es : List Expr) (vs : List Val) → list_all is_closed es ≡ true → length vs ≡ count_of es
    → results_exprs vs es ≡ map value (operands vs es)
