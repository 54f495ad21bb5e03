-- How a part stands whose redexes are all reduced, by its node.
use Rattle.std.proofs.Common.{◌≡◌, ℕ, List, length, Some, sym, ◌∙◌}
use Rattle.std.specs.Prelude.{IsSome}
use Rattle.cqp_syntax.specs.declared.node.Node.{Node}
use Rattle.cqp_syntax.specs.declared.node.Node.TheVariants as node
use Rattle.cqp_syntax.specs.Listing.{Listing, Unfolds, process_at}
use Rattle.cqp_cells.specs.Redex.{exprs_of}
use Rattle.cqp_order.specs.declared.stand.Stand.TheVariants.{Alone, Sends, Receives}
use Rattle.cqp_parts.specs.declared.part.Part.{Part}
use Rattle.cqp_parts.specs.Parts.{process_of_part}
use Rattle.cqp_results.specs.Results.{count_of}
use Rattle.cqp_standing.specs.Stands.{val_of, val_or_unit, Stands}
use Rattle.cqp_turns.specs.declared.turn.Turn.{Turn}
use Rattle.cqp_turns.specs.declared.turn.Turn.TheVariants as turn
use Rattle.cqp_turns.specs.Stands.{stand_by}
use Rattle.cqp_turns.specs.Turns.{chan_in, turn_in}
use Rattle.cqp_turns.proofs.PrefixTurns.{new_turn, qbit_turn, in_turn, out_turn, if_turn, other_turn}
use Rattle.cqp_turns.proofs.RedexStands.{same_stand}

module _ (l : Listing) (part : Part) (stands : Stands l part) (full : length part.vals ≡ count_of (exprs_of (process_at l part.node)))
    (takes : IsSome (turn_in (process_of_part l part))) (t : Turn) (is : turn_in (process_of_part l part) ≡ Some t) where
  -- the turn by the node is the part's
  stands_so : (u : Turn) → turn_in (process_of_part l part) ≡ Some u → stand_by u ≡ stand_by t
  stands_so u h = same_stand u t (sym h ∙ is)

  -- at an input the part receives
  pub receives_at : (k : ℕ) (xs : List ℕ) (body : ℕ) → Unfolds l part.node (node.In k xs body)
      → Receives (chan_in (val_or_unit (val_of k part.env))) ≡ stand_by t
  receives_at k xs body u = stands_so (turn.Receive _) (in_turn l part stands full takes k xs body u)

  -- at an output it sends
  pub sends_at : (k : ℕ) (es : List ℕ) (body : ℕ) → Unfolds l part.node (node.Out k es body)
      → Sends (chan_in (val_or_unit (val_of k part.env))) ≡ stand_by t
  sends_at k es body u = stands_so (turn.Send _ _) (out_turn l part stands full takes k es body u)

  -- at any other node it stands alone
  pub alone_at : (x : Node) → Unfolds l part.node x → ((k : ℕ) (ys : List ℕ) (body : ℕ) → x ≡ node.In k ys body → ⊥)
      → ((k : ℕ) (es : List ℕ) (body : ℕ) → x ≡ node.Out k es body → ⊥) → Alone ≡ stand_by t
  alone_at (node.New y body) u c d = stands_so turn.New (new_turn l part stands full takes y body u)
  alone_at (node.Qbit y body) u c d = stands_so turn.Qbit (qbit_turn l part stands full takes y body u)
  alone_at (node.If left right first other) u c d = stands_so (turn.If _) (if_turn l part stands full takes left right first other u)
  alone_at x u c d = stands_so turn.Act (other_turn l part stands full takes x u (λ y body e. cc e) (λ y body e. cc e) c d (λ p q r s e. cc e))
