-- A measurement is of some qubits.
use Rattle.std.proofs.lemmas.List.{length-map}
use Rattle.std.proofs.lemmas.Bool.{ltb-true}
use Rattle.std.proofs.Common.{◌≡◌, ℕ, zero, suc, ◌<◌, ◌≤◌, List, [], ◌∷◌, length, map, slice_get, Option, Some, None, refl, sym, ap, arith, ◌∙◌}
use Rattle.cqp_syntax.specs.declared.node.Node.{Node}
use Rattle.cqp_syntax.specs.declared.node.Node.TheVariants as node
use Rattle.cqp_syntax.specs.Listing.{Listing, IsProc, root, Unfolds}
use Rattle.cqp_syntax.specs.Measures.{expr_steps}
use Rattle.cqp_syntax.specs.Terms.{as_expr}
use Rattle.cqp_syntax.specs.Trees.{Slot, named, valued}
use Rattle.cqp_syntax.specs.declared.val.Val.TheVariants as val
use Rattle.cqp_syntax.proofs.Operands.{operands_at}
use Rattle.cqp_syntax.proofs.Spreads.{numbered}
use Rattle.cqp_syntax.proofs.Unfolding.{node_unfolds}
use Rattle.cqp_cells.proofs.Options.{none_is_some, same_some}
use Rattle.cqp_cells.specs.Redex.{look, qubits_of, redex_of, with_first}
use Rattle.cqp_parts.specs.declared.part.Part.{Part}
use Rattle.cqp_parts.specs.Parts.{process_of_part}
use Rattle.cqp_redexes.specs.Evaluation.{redexes_at}
use Rattle.cqp_standing.specs.Stands.{IsRedexAt, Stands}
use Rattle.cqp_standing.proofs.Bindings.{slots_bound, slots_in}
use Rattle.cqp_standing.proofs.Operands.{gate_next, look_next, pick_next, sum_next}
use Rattle.cqp_standing.proofs.PartRedexes.{none_at, none_left_at, redex_at}
use Rattle.cqp_turns.proofs.TurnsTold.{turn_told}
use Rattle.cqp_turn_laws.specs.Laws.{SomeQubitsLaw}

-- behind a list stands nothing
none_past : {X : Type 0} (xs : List X) (i : ℕ) → slice_get xs i ≡ None → length xs ≤ i
none_past [] i h = omega arith
none_past (x ∷ xs) zero h = cc
none_past (x ∷ xs) (suc i) h = let past = none_past xs i h in omega arith

-- as many qubits as slots
qubits_all : (ss : List Slot) (qs : List ℕ) → qubits_of ss ≡ Some qs → length qs ≡ length ss
qubits_all [] qs h = ap length (sym (same_some h))
qubits_all (valued (val.Qubit q) ∷ ss) qs h = first (λ rs is. qubits_all ss rs is) (qubits_of ss) refl h
  where
    -- by the others
    first : ((rs : List ℕ) → qubits_of ss ≡ Some rs → length rs ≡ length ss) → (o : Option (List ℕ)) → qubits_of ss ≡ o → with_first q o ≡ Some qs
        → length qs ≡ suc (length ss)
    first all None is g = absurd (cc g)
    first all (Some rs) is g = ap length (sym (same_some g)) ∙ ap suc (all rs is)
qubits_all (valued v ∷ ss) qs h = absurd (cc h)
qubits_all (named x ∷ ss) qs h = absurd (cc h)

-- the slots of a measurement
same_looks : (ss ts : List Slot) → Some (look ss) ≡ Some (look ts) → ss ≡ ts
same_looks ss ts h = cc

module _ (l : Listing) (is : IsProc l) (part : Part) (qs : List ℕ) (ss : List Slot) (redex : redex_of (process_of_part l part) ≡ Some (look ss))
    (are : qubits_of ss ≡ Some qs) where
  -- the node that is the next redex is a measurement, which has some
  some_at : (m : ℕ) → IsRedexAt l part m → (x : Node) → slice_get l.nodes m ≡ Some x → Unfolds l m x → 0 < length qs
  some_at m r (node.Measure names) at u =
      let same : slots_bound part.env (map named names) ≡ ss = same_looks _ ss (sym (look_next l part m r names u) ∙ redex) in
      let bound : length (slots_bound part.env (map named names)) ≡ length names =
      ap length (slots_in part.env (map named names)) ∙ (length-map (map named names) _ ∙ length-map names named) in
      let some : 0 < length names = ltb-true 0 (length names) (operands_at l is m (node.Measure names) at) in
      omega (arith, bound, ap length same, qubits_all ss qs are)
  some_at m r (node.Apply names e) at u = absurd (cc (sym (gate_next l part m r names e u) ∙ redex))
  some_at m r (node.Sig e) at u = absurd (cc (sym (pick_next l part m r e u) ∙ redex))
  some_at m r (node.Add left right) at u = absurd (cc (sym (sum_next l part m r left right u) ∙ redex))
  some_at m r x at u = absurd (omega (arith, r.some, ap (λ t. expr_steps (as_expr t)) u.tree))

  -- so it has
  pub some_qubits : Stands l part → 0 < length qs
  some_qubits stands = by (slice_get (redexes_at l part.node) (length part.vals)) refl
    where
      -- there is a next redex, at a node
      by : (o : Option ℕ) → slice_get (redexes_at l part.node) (length part.vals) ≡ o → 0 < length qs
      by None found =
          let none = none_left_at l part stands (none_at l part stands (numbered l is.listed) found) in
          absurd (none_is_some (sym none ∙ redex))
      by (Some m) found =
          let r = redex_at l part stands (numbered l is.listed) m found in
          node_at (slice_get l.nodes m) refl r
        where
          -- the node is there
          node_at : (o : Option Node) → slice_get l.nodes m ≡ o → IsRedexAt l part m → 0 < length qs
          node_at None at r = absurd (omega (arith, r.within, none_past l.nodes m at))
          node_at (Some x) at r = some_at m r x at (node_unfolds l (root l) is.listed m x at)

-- a measurement's turn is of some qubits
pub some_law : SomeQubitsLaw
some_law l part is stands qs h =
    let looks = turn_told (process_of_part l part) _ h in
    some_qubits l is part qs looks.slots looks.redex looks.are stands
