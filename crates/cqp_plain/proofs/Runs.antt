-- A lawful trace has a text, and the factors at its end are those of the state that its entries
-- lead to.
use Rattle.std.proofs.Common.{◌≡◌, List, true, subst}
use Rattle.std.specs.List.{list_all}
use Rattle.cqp_syntax.specs.Trees.{Process}
use Rattle.cqp_trace.specs.declared.entry.Entry.{Entry}
use Rattle.cqp_trace.specs.declared.trace.Trace.{Trace}
use Rattle.cqp_trace.specs.Writable.{IsWritable, is_writable_end}
use Rattle.cqp_vector.specs.Group.{Group}
use Rattle.cqp_cells.specs.InRange.{is_in_range}
use Rattle.cqp_cells.specs.Lawful.{IsLawful}
use Rattle.cqp_stepper.specs.Factors.{AreFactorsAfter}
use Rattle.cqp_stepper.specs.Weighed.{HasWritableWeight}
use Rattle.cqp_plain.specs.Written.{HasLines}

-- a lawful trace whose numbers are in range, and whose weight has a text, has a text
pub lawful_written : (p : Process) (t : Trace) → IsLawful p t → HasLines p → list_all is_in_range t.entries ≡ true
    → is_writable_end t.end ≡ true → HasWritableWeight p t.entries → IsWritable t
lawful_written p t lawful lines numbers end weighed = record {
  entries = lines t.entries lawful.last lawful.path.leads numbers;
  end = end;
  weight = weighed t.weight lawful.least lawful.weight;
}

-- what was told of one process and its entries holds of those that equal them
pub weighed_same : (p q : Process) (es fs : List Entry) → p ≡ q → es ≡ fs → HasWritableWeight p es → HasWritableWeight q fs
weighed_same p q es fs same alike told = subst (λ z. HasWritableWeight z fs) same (subst (λ xs. HasWritableWeight p xs) alike told)

-- and so of factors
pub factors_same : (p q : Process) (es fs : List Entry) (gs : List Group) → p ≡ q → es ≡ fs → AreFactorsAfter p es gs → AreFactorsAfter q fs gs
factors_same p q es fs gs same alike told = subst (λ z. AreFactorsAfter z fs gs) same (subst (λ xs. AreFactorsAfter p xs gs) alike told)
