-- A part with no wrong operand has a turn.
use Rattle.std.proofs.Common.{◌≡◌, List, refl, ap, ◌∙◌}
use Rattle.cqp_syntax.specs.declared.val.Val.{Val}
use Rattle.cqp_syntax.specs.Trees.{Process, nil, par, new, qbit, act, input, output, branch}
use Rattle.cqp_syntax.specs.Listing.{process_at}
use Rattle.cqp_parts.specs.declared.bind.Bind.{Bind}
use Rattle.cqp_turn_laws.specs.Laws.{TurnLaw}
use Rattle.cqp_parts.specs.Parts.{process_of_part}
use Rattle.cqp_standing.specs.Stands.{is_prefix}
use Rattle.cqp_parts.proofs.Shapes.{shape, shaped}
use Rattle.cqp_turn_laws.proofs.RightTurns.{has_turn}

-- a prefix stays one under bindings and results
shape_prefix : (vs : List Val) (bs : List Bind) (p : Process) → is_prefix (shape vs bs p) ≡ is_prefix p
shape_prefix vs bs nil = refl
shape_prefix vs bs (par p q) = refl
shape_prefix vs bs (new b p) = refl
shape_prefix vs bs (qbit x p) = refl
shape_prefix vs bs (act e p) = refl
shape_prefix vs bs (input c xs p) = refl
shape_prefix vs bs (output c es p) = refl
shape_prefix vs bs (branch e f p q) = refl

-- a part that stands and has no wrong operand has a turn
pub turn_law : TurnLaw
turn_law l part w n h =
    has_turn n (process_of_part l part)
    (ap is_prefix (shaped part.vals part.env (process_at l part.node)) ∙ (shape_prefix part.vals part.env (process_at l part.node) ∙ w.prefix)) h
