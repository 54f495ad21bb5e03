-- A part with a redex left stands alone.
use Rattle.std.proofs.Common.{◌≡◌, ℕ, List, Option, Some, None, sym, ap, ◌∙◌}
use Rattle.cqp_syntax.specs.declared.op.Op.{Op}
use Rattle.cqp_syntax.specs.declared.val.Val.TheVariants as val
use Rattle.cqp_syntax.specs.Trees.{valued, slot}
use Rattle.cqp_syntax.specs.Listing.{Listing, expr_at}
use Rattle.cqp_cells.specs.Redex.{Redex, sum, pick, gate, look, qubits_of}
use Rattle.cqp_cells.proofs.Options.{none_is_some, same_some}
use Rattle.cqp_order.specs.declared.stand.Stand.TheVariants.{Alone}
use Rattle.cqp_parts.specs.declared.part.Part.{Part}
use Rattle.cqp_parts.specs.Bound.{expr_bound}
use Rattle.cqp_parts.specs.Parts.{process_of_part}
use Rattle.cqp_results.specs.Results.{redex_with}
use Rattle.cqp_standing.specs.Stands.{IsRedexAt}
use Rattle.cqp_turns.specs.declared.turn.Turn.{Turn}
use Rattle.cqp_turns.specs.declared.turn.Turn.TheVariants as turn
use Rattle.cqp_turns.specs.Stands.{stand_by}
use Rattle.cqp_turns.specs.Turns.{gate_turn, look_turn, turn_by, turn_after, turn_in}

-- the turn that is there stands so
pub same_stand : (u t : Turn) → Some u ≡ Some t → stand_by u ≡ stand_by t
same_stand u t h = ap stand_by (same_some h)

-- the turn of a gate stands alone, and so does that of a measurement
gate_alone : (o : Op) (q : Option (List ℕ)) (t : Turn) → gate_turn o q ≡ Some t → Alone ≡ stand_by t
gate_alone o (Some qs) t h = same_stand (turn.Gate o qs) t h
gate_alone o None t h = absurd (none_is_some h)

look_alone : (q : Option (List ℕ)) (t : Turn) → look_turn q ≡ Some t → Alone ≡ stand_by t
look_alone (Some qs) t h = same_stand (turn.Measure qs) t h
look_alone None t h = absurd (none_is_some h)

-- the turn of a redex stands alone
pub redex_alone : (r : Redex) (t : Turn) → turn_by r ≡ Some t → Alone ≡ stand_by t
redex_alone (sum (slot (valued (val.Num u))) (slot (valued (val.Num w)))) t h = same_stand (turn.Add _) t h
redex_alone (pick (slot (valued (val.Num u)))) t h = same_stand (turn.Pick _) t h
redex_alone (gate ss (slot (valued (val.Gate o)))) t h = gate_alone o (qubits_of ss) t h
redex_alone (look ss) t h = look_alone (qubits_of ss) t h
redex_alone r t h = absurd (none_is_some h)

-- so does a part with a next redex
pub next_alone : (l : Listing) (part : Part) (m : ℕ) → IsRedexAt l part m → (t : Turn) → turn_in (process_of_part l part) ≡ Some t → Alone ≡ stand_by t
next_alone l part m r t h =
    redex_alone (redex_with part.vals (expr_bound part.env (expr_at l m))) t (sym (ap (λ o. turn_after o (process_of_part l part)) r.next) ∙ h)
