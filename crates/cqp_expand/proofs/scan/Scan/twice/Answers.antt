use Rattle.std.proofs.Common.{◌∙◌, is_some, refl, sym, ap}
use Rattle.cqp_expand.specs.Outlines.{signatures, names_of}
use Rattle.cqp_expand.proofs.ScanSteps.{has_number}
use Rattle.cqp_expand.proofs.scan.Scan.twice.Goals as goal

pub returns-then-is_some-clause-locals : goal.returns-then-is_some-clause-locals
returns-then-is_some-clause-locals c = λ ds k.
    let found = ap is_some (c.find.ensures (names_of ds) k) ∙ has_number (signatures ds) c.as_slice.result.now in
    let yes_it = sym (rw c.as_slice.ensures at found) ∙ sym c.is_some.ensures ∙ c.if-is_some.true in
    rw yes_it c.fault.ensures

pub returns-else-is_some-clause-locals : goal.returns-else-is_some-clause-locals
returns-else-is_some-clause-locals c = λ ds k.
    let found = ap is_some (c.find.ensures (names_of ds) k) ∙ has_number (signatures ds) c.as_slice.result.now in
    let none = sym (rw c.as_slice.ensures at found) ∙ sym c.is_some.ensures ∙ c.if-is_some.false in
    rw none refl
