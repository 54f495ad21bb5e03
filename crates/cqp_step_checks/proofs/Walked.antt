-- The steps of the walks are steps that the first part has.
use Rattle.std.proofs.Common.{◌≡◌, true, List, [], ◌∷◌, ◌++◌, refl}
use Rattle.std.specs.Prelude.{Option, Some}
use Rattle.cqp_syntax.specs.declared.val.Val.{Val}
use Rattle.cqp_syntax.specs.declared.val.Val.TheVariants as val
use Rattle.cqp_syntax.specs.declared.op.Op.TheVariants as op
use Rattle.cqp_syntax.specs.Listing.{Listing}
use Rattle.cqp_trace.specs.declared.deed.Deed.{Deed}
use Rattle.cqp_trace.specs.declared.deed.Deed.TheVariants as deed
use Rattle.cqp_parts.specs.Parts.{opening_parts}
use Rattle.cqp_step_checks.specs.Walks.{has_steps}
use Rattle.cqp_step_checks.specs.Processes.{sums_lists, received_lists, shared_lists}
use Rattle.cqp_step_checks.specs.Steps.{start_steps, gate_steps, sum_steps, receipt_steps, yes_steps, no_steps}

-- what is a walk of equal lists is one of these
pub walked : (l k : Listing) (vs us : List Val) (ss rs : List (Option Deed)) → l ≡ k → vs ≡ us → ss ≡ rs
    → has_steps k us (opening_parts k) rs ≡ true → has_steps l vs (opening_parts l) ss ≡ true
walked l k vs us ss rs a b c is = rw (a, b, c) is

-- gates and sums
pub sums_walked : has_steps sums_lists [] (opening_parts sums_lists) (start_steps ++ (gate_steps ++ sum_steps)) ≡ true
unfolding sums_lists start_steps gate_steps sum_steps
sums_walked = refl

-- an input, and either branch
pub receipt_walked :
    has_steps received_lists (val.Num 5 ∷ val.Num 3 ∷ []) (opening_parts received_lists) receipt_steps ≡ true
unfolding received_lists receipt_steps
receipt_walked = refl

pub yes_walked :
    has_steps received_lists (val.Num 5 ∷ val.Num 3 ∷ []) (opening_parts received_lists) (receipt_steps ++ yes_steps) ≡ true
unfolding received_lists receipt_steps yes_steps
yes_walked = refl

pub no_walked :
    has_steps received_lists (val.Num 3 ∷ val.Num 5 ∷ []) (opening_parts received_lists) (receipt_steps ++ no_steps) ≡ true
unfolding received_lists receipt_steps no_steps
no_walked = refl

-- three parts, a message, and a gate behind it
pub start_walked : has_steps shared_lists [] (opening_parts shared_lists) start_steps ≡ true
unfolding shared_lists start_steps
start_walked = refl

pub sent_walked :
    has_steps shared_lists [] (opening_parts shared_lists) (start_steps ++ Some (deed.Com 1 0) ∷ []) ≡ true
unfolding shared_lists start_steps
sent_walked = refl

pub turned_walked :
    has_steps shared_lists [] (opening_parts shared_lists)
    (start_steps ++ Some (deed.Com 1 0) ∷ Some (deed.Gate op.H (1 ∷ [])) ∷ []) ≡ true
unfolding shared_lists start_steps
turned_walked = refl
