-- The turn of a part whose redexes are all reduced, by its node.
use Rattle.std.proofs.Common.{◌≡◌, ℕ, true, List, [], ◌∷◌, map, ◌+◌, ◌≤◌, ◌==◌, length, Option, Some, None, refl, sym, ap, ap₂, subst, arith, ◌∙◌}
use Rattle.std.proofs.lemmas.Bool.{and_parts}
use Rattle.std.specs.Prelude.{IsSome}
use Rattle.std.specs.List.{list_all, AllByRecursion}
use Rattle.cqp_syntax.specs.declared.val.Val.{Val}
use Rattle.cqp_syntax.specs.declared.val.Val.TheVariants as val
use Rattle.cqp_syntax.specs.declared.node.Node.{Node}
use Rattle.cqp_syntax.specs.declared.node.Node.TheVariants as node
use Rattle.cqp_syntax.specs.Trees.{named, valued, Expr, Binder, slot, value, Process, act, input, output, branch}
use Rattle.cqp_syntax.specs.Terms.{as_process, term_of}
use Rattle.cqp_syntax.specs.Listing.{Listing, Unfolds, HasExpr, term_at, process_at, expr_at, type_of_name}
use Rattle.cqp_cells.specs.Redex.{exprs_of}
use Rattle.cqp_parts.specs.declared.bind.Bind.{Bind}
use Rattle.cqp_parts.specs.declared.part.Part.{Part}
use Rattle.cqp_turns.specs.declared.turn.Turn.TheVariants as turn
use Rattle.cqp_syntax.specs.Measures.{expr_steps}
use Rattle.cqp_results.specs.Results.{is_closed, operand, operands, count_of}
use Rattle.cqp_parts.specs.Bound.{slot_bound, expr_bound}
use Rattle.cqp_parts.specs.Parts.{process_of_part, with_bindings}
use Rattle.cqp_standing.specs.Stands.{val_of, val_or_unit, Stands, IsOperandAt, AreOperandsAt}
use Rattle.cqp_turns.specs.Turns.{number_of, chan_in, send_turn, turn_at, turn_after, turn_in}
use Rattle.cqp_standing.proofs.Bindings.{found_in, count_bound}
use Rattle.cqp_parts.proofs.Shapes.{Two, branch_on, shape, shaped}
use Rattle.cqp_standing.proofs.Operands.{stays_open}
use Rattle.cqp_standing.proofs.PartRedexes.{closed, values_at, none_left_at}
use Rattle.cqp_results.proofs.ResultLists.{values_are}

-- an action that is ready
act_turn : (e : Expr) (p : Process) → IsSome (turn_at (act e p)) → turn_at (act e p) ≡ Some turn.Act
act_turn (slot (valued v)) p h = refl
act_turn e p h = absurd (cc h)

-- an input on a channel has a turn only if it is one
receive_by : (v : Val) (xs : List Binder) (p : Process) → IsSome (turn_at (input (valued v) xs p))
    → turn_at (input (valued v) xs p) ≡ Some (turn.Receive (chan_in v))
receive_by (val.Chan k) xs p h = refl
receive_by v xs p h = absurd (cc h)

-- an output of values on a channel has a turn only if it is one
send_by : (v : Val) (us : List Val) (p : Process) → IsSome (turn_at (output (valued v) (map value us) p))
    → turn_at (output (valued v) (map value us) p) ≡ Some (turn.Send (chan_in v) us)
send_by (val.Chan k) us p h = ap (send_turn k) (values_are us)
send_by v us p h = absurd (cc h)

module _ (bs : List Bind) (x : ℕ) where
  -- an input on a name that has a value has a turn
  receive_at : (o : Option Val) → val_of x bs ≡ o → (xs : List Binder) (p : Process) → IsSome (turn_at (input (slot_bound bs (named x)) xs p))
      → turn_at (input (slot_bound bs (named x)) xs p) ≡ Some (turn.Receive (chan_in (val_or_unit o)))
  receive_at (Some v) k xs p h =
      let is = found_in bs x v k in
      ap (λ s. turn_at (input s xs p)) is ∙ receive_by v xs p (subst (λ s. IsSome (turn_at (input s xs p))) is h)
  receive_at None k xs p h = let no = subst (λ s. IsSome (turn_at (input s xs p))) (stays_open bs x k) h in absurd (cc no)

  -- so has an output of values
  send_at : (o : Option Val) → val_of x bs ≡ o → (us : List Val) (p : Process) → IsSome (turn_at (output (slot_bound bs (named x)) (map value us) p))
      → turn_at (output (slot_bound bs (named x)) (map value us) p) ≡ Some (turn.Send (chan_in (val_or_unit o)) us)
  send_at (Some v) k us p h =
      let is = found_in bs x v k in
      ap (λ s. turn_at (output s (map value us) p)) is ∙ send_by v us p (subst (λ s. IsSome (turn_at (output s (map value us) p))) is h)
  send_at None k us p h = let no = subst (λ s. IsSome (turn_at (output s (map value us) p))) (stays_open bs x k) h in absurd (cc no)

-- a choice between values
branch_turn : (a b : Val) (p q : Process) → IsSome (turn_at (branch (value a) (value b) p q))
    → turn_at (branch (value a) (value b) p q) ≡ Some (turn.If (number_of a == number_of b))
branch_turn (val.Num u) (val.Num w) p q h = refl
branch_turn (val.Num u) val.Unit p q h = absurd (cc h)
branch_turn (val.Num u) (val.Gate o) p q h = absurd (cc h)
branch_turn (val.Num u) (val.Qubit r) p q h = absurd (cc h)
branch_turn (val.Num u) (val.Chan k) p q h = absurd (cc h)
branch_turn val.Unit b p q h = absurd (cc h)
branch_turn (val.Gate o) b p q h = absurd (cc h)
branch_turn (val.Qubit r) b p q h = absurd (cc h)
branch_turn (val.Chan k) b p q h = absurd (cc h)

-- expressions at numbers, with bindings
pub bound_at : (l : Listing) (bs : List Bind) (ns : List ℕ) → map (expr_bound bs) (map (λ e. expr_at l e) ns) ≡ map (λ e. expr_bound bs (expr_at l e)) ns
bound_at l bs [] = refl
bound_at l bs (n ∷ ns) = ap (λ xs. expr_bound bs (expr_at l n) ∷ xs) (bound_at l bs ns)

module _ (l : Listing) (part : Part) (stands : Stands l part) (full : length part.vals ≡ count_of (exprs_of (process_at l part.node))) (x : Node)
    (u : Unfolds l part.node x) where
  -- what a node stands for
  abbrev tree : Node → Process
  tree y = as_process (term_of (type_of_name l) (term_at l) y)

  -- the part's process, by its node
  by_node : process_of_part l part ≡ shape part.vals part.env (tree x)
  by_node = shaped part.vals part.env (process_at l part.node) ∙ ap (λ t. shape part.vals part.env (as_process t)) u.tree

  -- the turn is the prefix's
  pub turn_is : turn_in (process_of_part l part) ≡ turn_at (shape part.vals part.env (tree x))
  turn_is = ap (λ o. turn_after o (process_of_part l part)) (none_left_at l part stands full) ∙ ap turn_at by_node

  -- and its expressions are values
  values_there : exprs_of (shape part.vals part.env (tree x)) ≡ map value (operands part.vals (map (expr_bound part.env) (exprs_of (tree x))))
  values_there =
      ap exprs_of (sym by_node) ∙ (values_at l part stands full
      ∙ ap (λ t. map value (operands part.vals (map (expr_bound part.env) (exprs_of (as_process t))))) u.tree)

  -- no name is left in its expressions
  closed_there : list_all is_closed (map (expr_bound part.env) (exprs_of (tree x))) ≡ true
  closed_there = subst (λ t. list_all is_closed (map (expr_bound part.env) (exprs_of (as_process t))) ≡ true) u.tree (closed l part stands)

  -- all its redexes were reduced
  full_there : length part.vals ≡ count_of (exprs_of (tree x))
  full_there = full ∙ ap (λ t. count_of (exprs_of (as_process t))) u.tree

module _ (l : Listing) (part : Part) (stands : Stands l part) (full : length part.vals ≡ count_of (exprs_of (process_at l part.node)))
    (takes : IsSome (turn_in (process_of_part l part))) where
  -- the node stands at the part's number
  abbrev At : Node → Type 0
  At x = Unfolds l part.node x

  -- the turn at a channel's binder
  pub new_turn : (x body : ℕ) → At (node.New x body) → turn_in (process_of_part l part) ≡ Some turn.New
  new_turn x body u = turn_is l part stands full (node.New x body) u

  -- the turn at a qubit's binder
  pub qbit_turn : (x body : ℕ) → At (node.Qbit x body) → turn_in (process_of_part l part) ≡ Some turn.Qbit
  qbit_turn x body u = turn_is l part stands full (node.Qbit x body) u

  -- the turn at an input
  pub in_turn : (k : ℕ) (xs : List ℕ) (body : ℕ) → At (node.In k xs body)
      → turn_in (process_of_part l part) ≡ Some (turn.Receive (chan_in (val_or_unit (val_of k part.env))))
  in_turn k xs body u =
      let is = turn_is l part stands full (node.In k xs body) u in
      is ∙ receive_at part.env k (val_of k part.env) refl _ _ (subst IsSome is takes)

  -- the turn at an output
  pub out_turn : (k : ℕ) (es : List ℕ) (body : ℕ) → At (node.Out k es body) → turn_in (process_of_part l part)
      ≡ Some (turn.Send (chan_in (val_or_unit (val_of k part.env))) (operands part.vals (map (λ e. expr_bound part.env (expr_at l e)) es)))
  out_turn k es body u =
      let us = operands part.vals (map (expr_bound part.env) (map (λ e. expr_at l e) es)) in
      let rest = with_bindings part.env (process_at l body) in
      let values = values_there l part stands full (node.Out k es body) u in
      let is = turn_is l part stands full (node.Out k es body) u ∙ ap (λ xs. turn_at (output (slot_bound part.env (named k)) xs rest)) values in
      is ∙ (send_at part.env k (val_of k part.env) refl us rest (subst IsSome is takes)
      ∙ ap (λ xs. Some (turn.Send (chan_in (val_or_unit (val_of k part.env))) (operands part.vals xs))) (bound_at l part.env es))

  -- the two of a choice
  two_values : (t : Two) (a b : Val) (p q : Process) → t.left ∷ t.right ∷ [] ≡ value a ∷ value b ∷ [] → branch_on p q t ≡ branch (value a) (value b) p q
  two_values t a b p q h =
      let left : t.left ≡ value a = cc h in
      let right : t.right ≡ value b = cc h in
      ap₂ (λ e f. branch e f p q) left right

  -- the turn at a choice
  pub if_turn : (left right first other : ℕ) → At (node.If left right first other) → turn_in (process_of_part l part)
      ≡ Some
      (turn.If
      (number_of (operand part.vals (expr_steps (expr_at l right)) (expr_bound part.env (expr_at l left))) == number_of
      (operand part.vals 0 (expr_bound part.env (expr_at l right)))))
  if_turn left right first other u =
      let e = expr_bound part.env (expr_at l left) in
      let f = expr_bound part.env (expr_at l right) in
      let p = with_bindings part.env (process_at l first) in
      let q = with_bindings part.env (process_at l other) in
      let values = values_there l part stands full (node.If left right first other) u in
      let skip : count_of (f ∷ []) ≡ expr_steps (expr_at l right) = omega (arith, count_bound part.env (expr_at l right)) in
      let is =
      turn_is l part stands full (node.If left right first other) u
      ∙ ap turn_at (two_values _ (operand part.vals (count_of (f ∷ [])) e) (operand part.vals 0 f) p q values) in
      is ∙ (branch_turn _ _ p q (subst IsSome is takes)
      ∙ ap (λ k. Some (turn.If (number_of (operand part.vals k e) == number_of (operand part.vals 0 f)))) skip)

  -- any other node is an action's
  pub other_turn : (x : Node) → At x → ((y body : ℕ) → x ≡ node.New y body → ⊥) → ((y body : ℕ) → x ≡ node.Qbit y body → ⊥)
      → ((k : ℕ) (ys : List ℕ) (body : ℕ) → x ≡ node.In k ys body → ⊥) → ((k : ℕ) (es : List ℕ) (body : ℕ) → x ≡ node.Out k es body → ⊥)
      → ((a b c d : ℕ) → x ≡ node.If a b c d → ⊥) → turn_in (process_of_part l part) ≡ Some turn.Act
  other_turn (node.Act e body) u a b c d f = let is = turn_is l part stands full (node.Act e body) u in is ∙ act_turn _ _ (subst IsSome is takes)
  other_turn (node.New y body) u a b c d f = absurd (a y body refl)
  other_turn (node.Qbit y body) u a b c d f = absurd (b y body refl)
  other_turn (node.In k ys body) u a b c d f = absurd (c k ys body refl)
  other_turn (node.Out k es body) u a b c d f = absurd (d k es body refl)
  other_turn (node.If left right first other) u a b c d f = absurd (f left right first other refl)
  other_turn (node.Par left right) u a b c d f = absurd (cc (subst IsSome (turn_is l part stands full (node.Par left right) u) takes))
  other_turn node.Nil u a b c d f = absurd (cc (subst IsSome (turn_is l part stands full node.Nil u) takes))
  other_turn (node.Num v) u a b c d f = absurd (cc (subst IsSome (turn_is l part stands full (node.Num v) u) takes))
  other_turn node.Unit u a b c d f = absurd (cc (subst IsSome (turn_is l part stands full node.Unit u) takes))
  other_turn (node.Name y) u a b c d f = absurd (cc (subst IsSome (turn_is l part stands full (node.Name y) u) takes))
  other_turn (node.Gate o) u a b c d f = absurd (cc (subst IsSome (turn_is l part stands full (node.Gate o) u) takes))
  other_turn (node.Sig e) u a b c d f = absurd (cc (subst IsSome (turn_is l part stands full (node.Sig e) u) takes))
  other_turn (node.Add left right) u a b c d f = absurd (cc (subst IsSome (turn_is l part stands full (node.Add left right) u) takes))
  other_turn (node.Apply qs e) u a b c d f = absurd (cc (subst IsSome (turn_is l part stands full (node.Apply qs e) u) takes))
  other_turn (node.Measure qs) u a b c d f = absurd (cc (subst IsSome (turn_is l part stands full (node.Measure qs) u) takes))

-- operands of a choice, and arguments
module _ (l : Listing) (part : Part) (stands : Stands l part) (full : length part.vals ≡ count_of (exprs_of (process_at l part.node))) where
  -- both sides of a choice are operands
  pub if_operands : (left right first other : ℕ) → Unfolds l part.node (node.If left right first other)
      → IsOperandAt l part left (expr_steps (expr_at l right)) × IsOperandAt l part right 0
  if_operands left right first other u =
      let one = closed_there l part stands full (node.If left right first other) u in
      let first_closed = and_parts (is_closed (expr_bound part.env (expr_at l left))) (list_all is_closed (expr_bound part.env (expr_at l right) ∷ [])) one in
      let second_closed = and_parts (is_closed (expr_bound part.env (expr_at l right))) true first_closed.1 in
      let all : length part.vals ≡ expr_steps (expr_at l left) + (expr_steps (expr_at l right) + 0) =
      full_there l part stands full (node.If left right first other) u in (
        record { within = u.exprs.0.within; is = u.exprs.0.is; closed = first_closed.0; results = λ some. omega (arith, all) },
        record { within = u.exprs.1.0.within; is = u.exprs.1.0.is; closed = second_closed.0; results = λ some. omega (arith, all) },
      )

  -- expressions without names are operands one behind the other
  are_operands : (n : ℕ) (ns : List ℕ) → AllByRecursion (HasExpr l n) ns → list_all is_closed (map (expr_bound part.env) (map (λ e. expr_at l e) ns)) ≡ true
      → count_of (map (λ e. expr_at l e) ns) ≤ length part.vals → AreOperandsAt l part ns
  are_operands n [] a c h = tt
  are_operands n (m ∷ ms) a c h =
      let parts = and_parts (is_closed (expr_bound part.env (expr_at l m))) (list_all is_closed (map (expr_bound part.env) (map (λ e. expr_at l e) ms))) c in
      (record { within = a.0.within; is = a.0.is; closed = parts.0; results = λ some. omega arith }, are_operands n ms a.1 parts.1 (omega arith))

  -- so are the arguments of an output
  pub out_operands : (k : ℕ) (es : List ℕ) (body : ℕ) → Unfolds l part.node (node.Out k es body)
      → AreOperandsAt l part es × (length part.vals ≡ count_of (map (λ e. expr_at l e) es))
  out_operands k es body u =
      let all : length part.vals ≡ count_of (map (λ e. expr_at l e) es) = full_there l part stands full (node.Out k es body) u in
      (are_operands part.node es u.exprs (closed_there l part stands full (node.Out k es body) u) (omega (arith, all)), all)
