-- A process stands as its turn says.
use Rattle.std.proofs.Common.{◌≡◌, ℕ, List, Option, Some, None}
use Rattle.std.specs.Prelude.{is_none}
use Rattle.cqp_syntax.specs.declared.val.Val.{Val}
use Rattle.cqp_syntax.specs.declared.val.Val.TheVariants as val
use Rattle.cqp_syntax.specs.Trees.{Expr, valued, slot, Process, nil, par, new, qbit, act, input, output, branch}
use Rattle.cqp_cells.specs.Redex.{Redex, redex_of, next_redex_of, values_of}
use Rattle.cqp_cells.proofs.Options.{none_is_some}
use Rattle.cqp_order.specs.declared.stand.Stand.TheVariants.{Alone, Sends}
use Rattle.cqp_meeting.specs.Tables.{output_stand}
use Rattle.cqp_turns.specs.declared.turn.Turn.{Turn}
use Rattle.cqp_turns.specs.declared.turn.Turn.TheVariants as turn
use Rattle.cqp_turns.specs.Stands.{stand_by}
use Rattle.cqp_turns.specs.Turns.{send_turn, turn_at, turn_after}
use Rattle.cqp_turns.proofs.RedexStands.{same_stand, redex_alone}
use Rattle.cqp_fitting.specs.Laws.{StandLaw}

-- a process that stands alone without a redex does so with one
either_alone : (o : Option Redex) (p : Process) (t : Turn) → (turn_at p ≡ Some t → Alone ≡ stand_by t) → turn_after o p ≡ Some t → Alone ≡ stand_by t
either_alone (Some r) p t bare h = redex_alone r t h
either_alone None p t bare h = bare h

-- the turn of an action, and of a choice
act_alone : (e : Expr) (p : Process) (t : Turn) → turn_at (act e p) ≡ Some t → Alone ≡ stand_by t
act_alone (slot (valued v)) p t h = same_stand turn.Act t h
act_alone e p t h = absurd (none_is_some h)

branch_alone : (e f : Expr) (p q : Process) (t : Turn) → turn_at (branch e f p q) ≡ Some t → Alone ≡ stand_by t
branch_alone (slot (valued (val.Num u))) (slot (valued (val.Num w))) p q t h = same_stand (turn.If _) t h
branch_alone e f p q t h = absurd (none_is_some h)

-- the turn of a ready output
send_stands : (k : ℕ) (o : Option (List Val)) (t : Turn) → send_turn k o ≡ Some t → Sends k ≡ stand_by t
send_stands k (Some vs) t h = same_stand (turn.Send k vs) t h
send_stands k None t h = absurd (none_is_some h)

-- the turn of an output on a channel, and on none
output_stands : (k : ℕ) (es : List Expr) (p : Process) (o : Option Redex) (t : Turn) → turn_after o (output (valued (val.Chan k)) es p) ≡ Some t
    → output_stand k (is_none o) ≡ stand_by t
output_stands k es p (Some r) t h = redex_alone r t h
output_stands k es p None t h = send_stands k (values_of es) t h

-- a process stands as its turn says
pub stand_law : StandLaw
stand_law nil t h = absurd (none_is_some h)
stand_law (par p q) t h = absurd (none_is_some h)
stand_law (new b p) t h = same_stand turn.New t h
stand_law (qbit x p) t h = same_stand turn.Qbit t h
stand_law (act e p) t h = either_alone (redex_of (act e p)) (act e p) t (act_alone e p t) h
stand_law (branch e f p q) t h = either_alone (redex_of (branch e f p q)) (branch e f p q) t (branch_alone e f p q t) h
stand_law (input (valued (val.Chan k)) bs p) t h = same_stand (turn.Receive k) t h
stand_law (input c bs p) t h = absurd (none_is_some h)
stand_law (output (valued (val.Chan k)) es p) t h = output_stands k es p (next_redex_of es) t h
stand_law (output c es p) t h = either_alone (next_redex_of es) (output c es p) t (λ g. absurd (none_is_some g)) h
