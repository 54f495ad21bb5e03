-- Where a reading stands that goes on with the same draft.
use Rattle.std.proofs.Common.{◌≡◌, Bool, true, false, Option, Result, Ok, Err, IfOk, ap}
use Rattle.std.specs.Bool.{then_some}
use Rattle.std.specs.Option.{option_map}
use Rattle.cqp_reading.specs.declared.awaits.Awaits.{Awaits}
use Rattle.cqp_reading.specs.DraftLists.{DraftLists, stand}

-- what is awaited then stands with the draft
pub stands_on : {E : Type 0} (r : Result Bool E) (s : DraftLists) (a : Awaits) (o : Option Awaits)
    → IfOk r (λ may. then_some may a ≡ o)
    → IfOk r (λ may. then_some may (stand a s) ≡ option_map (λ b. stand b s) o)
stands_on (Ok true) s a o h = ap (option_map (λ b. stand b s)) h
stands_on (Ok false) s a o h = ap (option_map (λ b. stand b s)) h
stands_on (Err e) s a o h = h
