-- Which redexes apply H.
use Rattle.std.proofs.Common.{◌≡◌, ◌↔◌, ℕ, List, Some, refl, ap, subst, arith}
use Rattle.cqp_syntax.specs.declared.val.Val.{Val}
use Rattle.cqp_syntax.specs.declared.val.Val.TheVariants as val
use Rattle.cqp_syntax.specs.declared.node.Node.{Node}
use Rattle.cqp_syntax.specs.declared.node.Node.TheVariants as node
use Rattle.cqp_syntax.specs.Trees.{Slot, value}
use Rattle.cqp_syntax.specs.Terms.{as_expr}
use Rattle.cqp_syntax.specs.Listing.{Listing, Unfolds}
use Rattle.cqp_syntax.specs.Measures.{expr_steps}
use Rattle.cqp_vector.specs.Group.{factors_left_out}
use Rattle.cqp_cells.specs.Lawful.{AppliesH}
use Rattle.cqp_cells.specs.Redex.{gate, redex_of}
use Rattle.cqp_parts.specs.declared.part.Part.{Part}
use Rattle.cqp_parts.specs.Parts.{process_of_part}
use Rattle.cqp_standing.specs.Stands.{IsRedexAt}
use Rattle.cqp_standing.proofs.Operands.{sum_next, pick_next, look_next}
use Rattle.cqp_turns.specs.Turns.{gate_in}

-- a gate by an operator applies H where the operator is H
pub gate_applies : (ss : List Slot) (v : Val) → factors_left_out (gate_in v) ≡ 1 ↔ AppliesH (Some (gate ss (value v)))
gate_applies ss (val.Gate o) = (λ h. h, λ h. h)
gate_applies ss (val.Num u) = (λ h. absurd (cc h), λ h. absurd h)
gate_applies ss val.Unit = (λ h. absurd (cc h), λ h. absurd h)
gate_applies ss (val.Qubit q) = (λ h. absurd (cc h), λ h. absurd h)
gate_applies ss (val.Chan k) = (λ h. absurd (cc h), λ h. absurd h)

module _ (l : Listing) (part : Part) (m : ℕ) (r : IsRedexAt l part m) where
  -- no redex that is no gate applies H
  pub other_applies : (x : Node) → Unfolds l m x → ((qs : List ℕ) (e : ℕ) → x ≡ node.Apply qs e → ⊥) → AppliesH (redex_of (process_of_part l part)) → ⊥
  other_applies (node.Apply qs e) u other h = other qs e refl
  other_applies (node.Sig e) u other h = subst AppliesH (pick_next l part m r e u) h
  other_applies (node.Add left right) u other h = subst AppliesH (sum_next l part m r left right u) h
  other_applies (node.Measure qs) u other h = subst AppliesH (look_next l part m r qs u) h
  other_applies x u other h = absurd (omega (arith, r.some, ap (λ t. expr_steps (as_expr t)) u.tree))
