-- The values of operands, and what a node that is a redex asks of them.
use Rattle.std.proofs.Common.{◌≡◌, ℕ, true, false, List, [], ◌∷◌, map, ◌+◌, ◌≤◌, ◌<◌, ◌==◌, length, Option, Some, None, refl, sym, ap, subst, arith, ◌∙◌}
use Rattle.std.proofs.Common.{⊎_elim}
use Rattle.std.proofs.lemmas.Bool.{and_parts, cases_Bool}
use Rattle.cqp_syntax.specs.declared.op.Op.{Op}
use Rattle.cqp_syntax.specs.declared.val.Val.{Val}
use Rattle.cqp_syntax.specs.declared.node.Node.{Node}
use Rattle.cqp_syntax.specs.declared.node.Node.TheVariants as node
use Rattle.cqp_syntax.specs.Trees.{named, valued, Expr, slot, sig, add, apply, measure, value}
use Rattle.cqp_syntax.specs.Terms.{expr, as_expr, term_of}
use Rattle.cqp_syntax.specs.Listing.{Listing, Unfolds, term_at, expr_at, type_of_name}
use Rattle.cqp_cells.specs.Redex.{sum, pick, gate, look, redex_of}
use Rattle.cqp_parts.specs.declared.bind.Bind.{Bind}
use Rattle.cqp_parts.specs.declared.part.Part.{Part}
use Rattle.cqp_syntax.specs.Measures.{expr_steps}
use Rattle.cqp_results.specs.Results.{is_closed, last_but, operand, redex_with}
use Rattle.cqp_parts.specs.Bound.{slot_bound, expr_bound}
use Rattle.cqp_parts.specs.Parts.{process_of_part}
use Rattle.cqp_standing.specs.Stands.{val_of, val_or_unit, IsOperandAt, IsRedexAt}
use Rattle.cqp_standing.proofs.Bindings.{slots_bound, slot_in, sig_in, add_in, apply_in, measure_in, found_in, valued_in, count_bound}

module _ (l : Listing) (n : ℕ) (x : Node) (u : Unfolds l n x) where
  -- the tree at a node
  pub tree_is : (y : Node) (e : Expr) → x ≡ y → as_expr (term_of (type_of_name l) (term_at l) y) ≡ e → expr_at l n ≡ e
  tree_is y e h k = ap as_expr u.tree ∙ (ap (λ z. as_expr (term_of (type_of_name l) (term_at l) z)) h ∙ k)

-- a name without a value stays
pub stays_open : (bs : List Bind) (x : ℕ) → val_of x bs ≡ None → slot_bound bs (named x) ≡ named x
stays_open [] x h = refl
stays_open (b ∷ bs) x h = ⊎_elim
    (λ (t : (x == b.name) ≡ true). let some : Some b.val ≡ None = rw t at h in absurd (cc some))
    (λ (t : (x == b.name) ≡ false). let later : val_of x bs ≡ None = rw t at h in rw t (stays_open bs x later))
    (cases_Bool (x == b.name))

module _ (vs : List Val) (bs : List Bind) (skip : ℕ) where
  -- a value's value, and a name's
  pub of_value : (v : Val) → v ≡ operand vs skip (expr_bound bs (value v))
  of_value v = rw (slot_in bs (valued v), valued_in bs v) refl

  -- a name whose value is there is no name any more
  name_by : (x : ℕ) (o : Option Val) → val_of x bs ≡ o → is_closed (expr_bound bs (slot (named x))) ≡ true
      → val_or_unit o ≡ operand vs skip (expr_bound bs (slot (named x)))
  name_by x (Some v) k h = rw (slot_in bs (named x), found_in bs x v k) refl
  name_by x None k h =
      let left : is_closed (expr_bound bs (slot (named x))) ≡ false = rw (slot_in bs (named x), stays_open bs x k) refl in
      absurd (cc (sym left ∙ h))

  -- the value of a name is that of the operand
  pub of_name : (x : ℕ) → is_closed (expr_bound bs (slot (named x))) ≡ true → val_or_unit (val_of x bs) ≡ operand vs skip (expr_bound bs (slot (named x)))
  of_name x h = name_by x (val_of x bs) refl h

-- a redex's value is a result
pub of_redex : (vs : List Val) (skip : ℕ) (e : Expr) → 0 < expr_steps e → last_but skip vs ≡ operand vs skip e
of_redex vs skip (slot s) h = absurd (omega arith)
of_redex vs skip (sig e) h = refl
of_redex vs skip (add e f) h = refl
of_redex vs skip (apply qs e) h = refl
of_redex vs skip (measure qs) h = refl

-- where an expression stands that is neither a value nor a name, a redex is
module _ (l : Listing) (n : ℕ) (there : term_at l n ≡ expr (expr_at l n)) where
  -- an expression with redexes that stands there has redexes there
  counts : (e : Expr) → term_at l n ≡ expr e → 0 < expr_steps e → 0 < expr_steps (expr_at l n)
  counts e h k = subst (λ t. 0 < expr_steps (as_expr t)) (sym h) k

  -- a node that is no value and no name is a redex
  pub is_redex : (x : Node) → Unfolds l n x → ((v : ℕ) → x ≡ node.Num v → ⊥) → (x ≡ node.Unit → ⊥) → ((y : ℕ) → x ≡ node.Name y → ⊥)
      → ((o : Op) → x ≡ node.Gate o → ⊥) → 0 < expr_steps (expr_at l n)
  is_redex (node.Sig e) u a b c d = counts (sig (expr_at l e)) u.tree (omega arith)
  is_redex (node.Add left right) u a b c d = counts (add (expr_at l left) (expr_at l right)) u.tree (omega arith)
  is_redex (node.Apply qs e) u a b c d = counts (apply (map named qs) (expr_at l e)) u.tree (omega arith)
  is_redex (node.Measure qs) u a b c d = counts (measure (map named qs)) u.tree (omega arith)
  is_redex (node.Num v) u a b c d = absurd (a v refl)
  is_redex node.Unit u a b c d = absurd (b refl)
  is_redex (node.Name y) u a b c d = absurd (c y refl)
  is_redex (node.Gate o) u a b c d = absurd (d o refl)
  is_redex node.Nil u a b c d = absurd (cc (sym u.tree ∙ there))
  is_redex (node.Par left right) u a b c d = absurd (cc (sym u.tree ∙ there))
  is_redex (node.New y body) u a b c d = absurd (cc (sym u.tree ∙ there))
  is_redex (node.Qbit y body) u a b c d = absurd (cc (sym u.tree ∙ there))
  is_redex (node.Act e body) u a b c d = absurd (cc (sym u.tree ∙ there))
  is_redex (node.In k ys body) u a b c d = absurd (cc (sym u.tree ∙ there))
  is_redex (node.Out k es body) u a b c d = absurd (cc (sym u.tree ∙ there))
  is_redex (node.If left right first other) u a b c d = absurd (cc (sym u.tree ∙ there))

-- the expressions of a node stand behind it
pub record IsExprAt (l : Listing) (n : ℕ) : Type 0 where
  pub within : n < length l.nodes
  pub is : term_at l n ≡ expr (expr_at l n)

-- the number of a pick is an expression
pub of_sig : (l : Listing) (m e : ℕ) → Unfolds l m (node.Sig e) → IsExprAt l e
of_sig l m e u = record { within = u.exprs.0.within; is = u.exprs.0.is }

-- so is the operator of a gate
pub of_apply : (l : Listing) (m : ℕ) (qs : List ℕ) (e : ℕ) → Unfolds l m (node.Apply qs e) → IsExprAt l e
of_apply l m qs e u = record { within = u.exprs.0.within; is = u.exprs.0.is }

-- so are both sides of a sum
pub of_add : (l : Listing) (m left right : ℕ) → Unfolds l m (node.Add left right) → IsExprAt l left × IsExprAt l right
of_add l m left right u =
    (record { within = u.exprs.0.within; is = u.exprs.0.is }, record { within = u.exprs.1.0.within; is = u.exprs.1.0.is })

module _ (l : Listing) (part : Part) (m : ℕ) (r : IsRedexAt l part m) where
  -- the operands of a sum
  pub sum_operands : (left right : ℕ) → Unfolds l m (node.Add left right) → IsOperandAt l part left (expr_steps (expr_at l right)) × IsOperandAt l part right 0
  sum_operands left right u =
      let is : expr_at l m ≡ add (expr_at l left) (expr_at l right) = ap as_expr u.tree in
      let both =
      and_parts (is_closed (expr_bound part.env (expr_at l left))) (is_closed (expr_bound part.env (expr_at l right)))
      (subst (λ e. is_closed e ≡ true) (ap (expr_bound part.env) is ∙ add_in part.env (expr_at l left) (expr_at l right)) r.closed) in
      let few : 1 + expr_steps (expr_at l left) + expr_steps (expr_at l right) ≤ length part.vals + 1 =
      subst (λ e. expr_steps e ≤ length part.vals + 1) is r.results in
      let there = of_add l m left right u in (
        record { within = there.0.within; is = there.0.is; closed = both.0; results = λ some. omega arith },
        record { within = there.1.within; is = there.1.is; closed = both.1; results = λ some. omega arith },
      )

  -- the operand of a pick, and of a gate
  pub pick_operand : (e : ℕ) → Unfolds l m (node.Sig e) → IsOperandAt l part e 0
  pick_operand e u =
      let is : expr_at l m ≡ sig (expr_at l e) = ap as_expr u.tree in
      let few : 1 + expr_steps (expr_at l e) ≤ length part.vals + 1 = subst (λ x. expr_steps x ≤ length part.vals + 1) is r.results in
      let there = of_sig l m e u in
      record {
        within = there.within;
        is = there.is;
        closed = subst (λ x. is_closed x ≡ true) (ap (expr_bound part.env) is
            ∙ sig_in part.env (expr_at l e)) r.closed;
        results = λ some. omega arith;
      }

  -- a gate's operator is an operand
  pub gate_operand : (qs : List ℕ) (e : ℕ) → Unfolds l m (node.Apply qs e) → IsOperandAt l part e 0
  gate_operand qs e u =
      let is : expr_at l m ≡ apply (map named qs) (expr_at l e) = ap as_expr u.tree in
      let few : 1 + expr_steps (expr_at l e) ≤ length part.vals + 1 = subst (λ x. expr_steps x ≤ length part.vals + 1) is r.results in
      let there = of_apply l m qs e u in
      record {
        within = there.within;
        is = there.is;
        closed = subst (λ x. is_closed x ≡ true) (ap (expr_bound part.env) is
            ∙ apply_in part.env (map named qs) (expr_at l e)) r.closed;
        results = λ some. omega arith;
      }

  -- so the next redex is this
  pub sum_next : (left right : ℕ) → Unfolds l m (node.Add left right) → redex_of (process_of_part l part)
      ≡ Some
      (sum (value (operand part.vals (expr_steps (expr_at l right)) (expr_bound part.env (expr_at l left))))
      (value (operand part.vals 0 (expr_bound part.env (expr_at l right)))))
  sum_next left right u =
      let is : expr_at l m ≡ add (expr_at l left) (expr_at l right) = ap as_expr u.tree in
      r.next ∙ (ap (λ e. Some (redex_with part.vals e)) (ap (expr_bound part.env) is ∙ add_in part.env (expr_at l left) (expr_at l right))
      ∙ ap
      (λ k. Some
      (sum (value (operand part.vals k (expr_bound part.env (expr_at l left)))) (value (operand part.vals 0 (expr_bound part.env (expr_at l right))))))
      (count_bound part.env (expr_at l right)))

  -- the next redex at a pick
  pub pick_next : (e : ℕ) → Unfolds l m (node.Sig e)
      → redex_of (process_of_part l part) ≡ Some (pick (value (operand part.vals 0 (expr_bound part.env (expr_at l e)))))
  pick_next e u =
      let is : expr_at l m ≡ sig (expr_at l e) = ap as_expr u.tree in
      r.next ∙ ap (λ x. Some (redex_with part.vals x)) (ap (expr_bound part.env) is ∙ sig_in part.env (expr_at l e))

  -- the next redex at a gate
  pub gate_next : (qs : List ℕ) (e : ℕ) → Unfolds l m (node.Apply qs e) → redex_of (process_of_part l part)
      ≡ Some (gate (slots_bound part.env (map named qs)) (value (operand part.vals 0 (expr_bound part.env (expr_at l e)))))
  gate_next qs e u =
      let is : expr_at l m ≡ apply (map named qs) (expr_at l e) = ap as_expr u.tree in
      r.next ∙ ap (λ x. Some (redex_with part.vals x)) (ap (expr_bound part.env) is ∙ apply_in part.env (map named qs) (expr_at l e))

  -- the next redex at a measurement
  pub look_next : (qs : List ℕ) → Unfolds l m (node.Measure qs) → redex_of (process_of_part l part) ≡ Some (look (slots_bound part.env (map named qs)))
  look_next qs u =
      let is : expr_at l m ≡ measure (map named qs) = ap as_expr u.tree in
      r.next ∙ ap (λ x. Some (redex_with part.vals x)) (ap (expr_bound part.env) is ∙ measure_in part.env (map named qs))
