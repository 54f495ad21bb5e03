-- The parts in the place of a part stand for what its process becomes.
use Rattle.std.proofs.Common.{◌≡◌, ℕ, true, false, Bool, List, [], ◌∷◌, ◌++◌, map, ◌==◌, Some, refl, sym, ap, subst, ◌∙◌}
use Rattle.cqp_syntax.specs.declared.val.Val.{Val}
use Rattle.cqp_syntax.specs.declared.val.Val.TheVariants as val
use Rattle.cqp_syntax.specs.declared.node.Node.{Node}
use Rattle.cqp_syntax.specs.declared.node.Node.TheVariants as node
use Rattle.cqp_syntax.specs.Trees.{Slot, named, Expr, Process}
use Rattle.cqp_syntax.specs.Listing.{Listing, IsProc, process_at, expr_at}
use Rattle.cqp_trace.specs.declared.deed.Deed.{Deed}
use Rattle.cqp_trace.specs.declared.deed.Deed.TheVariants as deed
use Rattle.cqp_cells.specs.Config.{flattened}
use Rattle.cqp_cells.specs.Redex.{reduced_prefix}
use Rattle.cqp_cells.specs.Moves.{Counts, moved, Sending, sends_on, receives_on}
use Rattle.cqp_parts.specs.declared.bind.Bind.{Bind}
use Rattle.cqp_parts.specs.declared.part.Part.{Part}
use Rattle.cqp_parts.specs.Parts.{node_at, process_of_part, with_bindings, with_results, goes_on_from, parts_after, parts_after_input, body_of, branch_of}
use Rattle.cqp_parts.specs.Parts.{bound_by, bound_to, received_by, with_result_of}
use Rattle.cqp_parts.specs.Bound.{slot_bound, expr_bound, exprs_bound, results_expr, results_exprs}
use Rattle.cqp_parts.proofs.PartLemmas.{with_results-snoc, with_bindings-append}
use Rattle.cqp_parts.proofs.TreeLemmas.{node_tree, tree_at, parts_stand}
use Rattle.cqp_parts.proofs.Shapes.{Two, results_two, shape, shaped}
use Rattle.cqp_parts.proofs.Continuations.{provided_is, act_goes_on, if_goes_on, sent_rest, received_rest, add_reduces, pick_reduces, gate_reduces}
use Rattle.cqp_parts.proofs.Continuations.{measure_reduces}
use Rattle.cqp_cells.proofs.Options.{none_is_some}

module _ (l : Listing) (sound : IsProc l) (part : Part) where
  -- the node at which the part stands
  abbrev own_node : Node
  own_node = node_at l part.node

  -- the process of the part, by its node
  by_node : process_of_part l part ≡ shape part.vals part.env (node_tree l sound own_node)
  by_node =
      ap (λ p. with_results part.vals (with_bindings part.env p)) (tree_at l sound part.node)
      ∙ shaped part.vals part.env (node_tree l sound own_node)

  -- parts from a number, with these bindings more
  goes_on : (more : List Bind) (n : ℕ)
      → map (process_of_part l) (goes_on_from l part more n) ≡ flattened (with_bindings more (with_bindings part.env (process_at l n)))
  goes_on more n = parts_stand l sound (part.env ++ more) n ∙ ap flattened (with_bindings-append part.env more (process_at l n))

  -- a part that makes a qubit goes on with the qubit bound to its name
  qbit_stands : (n : Counts) (q : ℕ) (r : Process) (x : Node)
      → moved n (shape part.vals part.env (node_tree l sound x)) (deed.Qbit q) ≡ Some r
      → map (process_of_part l) (goes_on_from l part (bound_by x (val.Qubit q)) (body_of x)) ≡ flattened r
  qbit_stands n q r (node.Qbit y body) h =
      goes_on (bound_by (node.Qbit y body) (val.Qubit q)) body ∙ ap flattened (provided_is (q == n.qubits) _ r h)
  qbit_stands n q r x h = absurd (none_is_some {x = r} h)

  -- a part that makes a channel goes on with the channel bound to its name
  new_stands : (n : Counts) (k : ℕ) (r : Process) (x : Node)
      → moved n (shape part.vals part.env (node_tree l sound x)) (deed.New k) ≡ Some r
      → map (process_of_part l) (goes_on_from l part (bound_by x (val.Chan k)) (body_of x)) ≡ flattened r
  new_stands n k r (node.New y body) h =
      goes_on (bound_by (node.New y body) (val.Chan k)) body ∙ ap flattened (provided_is (k == n.chans) _ r h)
  new_stands n k r x h = absurd (none_is_some {x = r} h)

  -- what is put into the processes, the slots and the expressions at numbers
  abbrev bound_at : ℕ → Process
  bound_at n = with_bindings part.env (process_at l n)

  -- the slot of a name
  abbrev slot_at : ℕ → Slot
  slot_at c = slot_bound part.env (named c)

  -- the expressions at numbers, with results
  abbrev exprs_at : List ℕ → List Expr
  exprs_at es = results_exprs part.vals (exprs_bound part.env (map (λ e. expr_at l e) es))

  -- the two expressions of a choice, with results
  abbrev two_at : ℕ → ℕ → Two
  two_at left right = results_two part.vals (record { left = expr_bound part.env (expr_at l left); right = expr_bound part.env (expr_at l right) })

  -- a part whose action ends goes on with the continuation
  act_stands : (n : Counts) (r : Process) (x : Node)
      → moved n (shape part.vals part.env (node_tree l sound x)) deed.Act ≡ Some r
      → map (process_of_part l) (goes_on_from l part [] (body_of x)) ≡ flattened r
  act_stands n r (node.Act e body) h =
      goes_on [] body
      ∙ ap flattened (act_goes_on (results_expr part.vals (expr_bound part.env (expr_at l e))) (bound_at body) r h)
  act_stands n r x h = absurd (none_is_some {x = r} h)

  -- a part that chooses goes on with the branch that is taken
  if_stands : (n : Counts) (b : Bool) (r : Process) (x : Node)
      → moved n (shape part.vals part.env (node_tree l sound x)) (deed.If b) ≡ Some r
      → map (process_of_part l) (goes_on_from l part [] (branch_of x b)) ≡ flattened r
  if_stands n true r (node.If left right first other) h =
      goes_on [] first
      ∙ ap flattened (if_goes_on (two_at left right).left (two_at left right).right (bound_at first) (bound_at other) true r h)
  if_stands n false r (node.If left right first other) h =
      goes_on [] other
      ∙ ap flattened (if_goes_on (two_at left right).left (two_at left right).right (bound_at first) (bound_at other) false r h)
  if_stands n b r x h = absurd (none_is_some {x = r} h)

  -- what is sent, and what goes on behind it
  sent_stands : (chan : ℕ) (s : Sending) (x : Node)
      → sends_on chan (shape part.vals part.env (node_tree l sound x)) ≡ Some s
      → map (process_of_part l) (goes_on_from l part [] (body_of x)) ≡ flattened s.rest
  sent_stands chan s (node.Out c es body) h = goes_on [] body ∙ ap flattened (sent_rest chan (slot_at c) (exprs_at es) (bound_at body) s h)
  sent_stands chan s x h = absurd (none_is_some {x = s} h)

  -- a part that receives goes on with the values bound to its names
  received_stands : (chan : ℕ) (vs : List Val) (r : Process) (x : Node)
      → receives_on chan vs (shape part.vals part.env (node_tree l sound x)) ≡ Some r
      → map (process_of_part l) (goes_on_from l part (received_by x vs) (body_of x)) ≡ flattened r
  received_stands chan vs r (node.In c xs body) h = goes_on (bound_to xs vs) body ∙ ap flattened (received_rest l chan xs vs (slot_at c) (bound_at body) r h)
  received_stands chan vs r x h = absurd (none_is_some {x = r} h)

  -- a redex that is reduced
  result_stands : (v : Val) (r : Process) → reduced_prefix v (process_of_part l part) ≡ r → flattened r ≡ r ∷ []
      → map (process_of_part l) (with_result_of part v ∷ []) ≡ flattened r
  result_stands v r h k =
      ap (λ p. p ∷ []) (with_results-snoc part.vals v (with_bindings part.env (process_at l part.node)) ∙ h) ∙ sym k

  -- so the parts in its place stand for what its process becomes by a deed of its own
  pub own_deed : (n : Counts) (d : Deed) (r : Process) → moved n (process_of_part l part) d ≡ Some r
      → map (process_of_part l) (parts_after l part d) ≡ flattened r
  own_deed n (deed.Qbit q) r h = qbit_stands n q r own_node (subst (λ p. moved n p (deed.Qbit q) ≡ Some r) by_node h)
  own_deed n (deed.New k) r h = new_stands n k r own_node (subst (λ p. moved n p (deed.New k) ≡ Some r) by_node h)
  own_deed n deed.Act r h = act_stands n r own_node (subst (λ p. moved n p deed.Act ≡ Some r) by_node h)
  own_deed n (deed.If b) r h = if_stands n b r own_node (subst (λ p. moved n p (deed.If b) ≡ Some r) by_node h)
  own_deed n (deed.Add v) r h = let x = add_reduces (process_of_part l part) _ v r refl h in result_stands (val.Num v) r x.is x.alone
  own_deed n (deed.Pick o) r h = let x = pick_reduces (process_of_part l part) _ o r refl h in result_stands (val.Gate o) r x.is x.alone
  own_deed n (deed.Gate o qs) r h = let x = gate_reduces n (process_of_part l part) _ o qs r refl h in result_stands val.Unit r x.is x.alone
  own_deed n (deed.Measure qs m) r h = let x = measure_reduces n (process_of_part l part) _ qs m r refl h in result_stands (val.Num m) r x.is x.alone
  own_deed n (deed.Com to chan) r h = absurd (none_is_some {x = r} h)

  -- those of a sender stand for its continuation
  pub sender_deed : (to chan : ℕ) (s : Sending) → sends_on chan (process_of_part l part) ≡ Some s
      → map (process_of_part l) (parts_after l part (deed.Com to chan)) ≡ flattened s.rest
  sender_deed to chan s h = sent_stands chan s own_node (subst (λ p. sends_on chan p ≡ Some s) by_node h)

  -- those of a receiver stand for its continuation with the values put in
  pub receiver_deed : (chan : ℕ) (vs : List Val) (r : Process) → receives_on chan vs (process_of_part l part) ≡ Some r
      → map (process_of_part l) (parts_after_input l part vs) ≡ flattened r
  receiver_deed chan vs r h = received_stands chan vs r own_node (subst (λ p. receives_on chan vs p ≡ Some r) by_node h)
