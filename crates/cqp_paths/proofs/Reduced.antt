-- A value in the place of a redex keeps types, and brings no qubit.
use Rattle.std.proofs.Common.{◌≡◌, ℕ, List, [], ◌∷◌, ◌++◌, Bool, true, false, refl, sym, ◌∙◌, subst}
use Rattle.std.specs.Prelude.{Some, None, Option, is_some, if◌then◌else◌}
use Rattle.cqp_syntax.specs.declared.val.Val.{Val}
use Rattle.cqp_syntax.specs.declared.val.Val.TheVariants as val
use Rattle.cqp_syntax.specs.TypeTrees.{TypeTree, int_type, unit_type, op_type}
use Rattle.cqp_syntax.specs.Trees.{Slot, named, valued, Expr, slot, sig, add, apply, measure, value}
use Rattle.cqp_syntax.specs.Free.{same_slot, is_among, expr_slots, exprs_slots}
use Rattle.cqp_types.specs.Contexts.{Context, type_in, Has}
use Rattle.cqp_types.specs.Derivations.{HasType, slot_, sig_, add_, apply_, measure_, is_qbit}
use Rattle.cqp_syntax.proofs.Slots.{among_either, among_left, among_right}
use Rattle.cqp_cells.specs.Redex.{Redex, lone_name, sum, pick, gate, look, or_else, next_redex, reduced, reduced_in}
use Rattle.cqp_paths.proofs.Sizes.{IsNode}
use Rattle.cqp_cells.proofs.Options.{none_is_some, same_some}
use Rattle.cqp_syntax.proofs.Bools.{fails}

-- the type of what takes the place of a redex
abbrev pub redex_type : Redex → TypeTree
redex_type (lone_name x) = int_type
redex_type (sum e f) = int_type
redex_type (pick e) = op_type 1
redex_type (gate qs e) = unit_type
redex_type (look qs) = int_type

-- a value that has its type in each context
abbrev pub IsPlain : Val → Type 0
IsPlain (val.Qubit q) = ⊥
IsPlain (val.Chan k) = ⊥
IsPlain v = Unit {0}

-- the value has the type of what the redex becomes
pub record Replaces (v : Val) (r : Redex) : Type 0 where
  pub node : IsNode r
  pub plain : IsPlain v
  pub typed : (g : Context) → Has g (valued v) (redex_type r)

-- a lone name is no redex that a value replaces
pub no_lone : {A : Type 0} (v : Val) (r : Redex) (x : ℕ) → Replaces v r → Some (lone_name x) ≡ Some r → A
no_lone v r x by_ e = absurd (subst IsNode (sym (same_some e)) by_.node)

-- a value that replaces a redex has the type of what the redex becomes
value_typed : (g : Context) (v : Val) (r s : Redex) → Replaces v r → Some s ≡ Some r → HasType g (value v) (redex_type s)
value_typed g v r s by_ e = slot_ (subst (λ k. Has g (valued v) (redex_type k)) (sym (same_some e)) (by_.typed g))

-- an expression keeps its type where a value takes the place of its redex
pub reduced_typed : {g : Context} {e : Expr} {t : TypeTree} (v : Val) (r : Redex) → Replaces v r → next_redex e ≡ Some r → HasType g e t
    → HasType g (reduced v e) t
reduced_typed v r by_ h (slot_ {g = g} {s = s} {t = t} is) = of_slot s h
  where
    of_slot : (s : Slot) → next_redex (slot s) ≡ Some r → HasType g (value v) t
    of_slot (named x) k = no_lone v r x by_ k
    of_slot (valued u) k = absurd (none_is_some k)
reduced_typed v r by_ h (sig_ {g = g} {e = e} d) = by_sig (next_redex e) refl h (λ k. reduced_typed v r by_ k d)
  where
    by_sig : (o : Option Redex) → next_redex e ≡ o → or_else o (Some (pick e)) ≡ Some r → (next_redex e ≡ Some r → HasType g (reduced v e) int_type)
        → HasType g (if is_some o then sig (reduced v e) else value v) (op_type 1)
    by_sig None at k more = value_typed g v r (pick e) by_ k
    by_sig (Some s) at k more = sig_ (more (at ∙ k))
reduced_typed v r by_ h (add_ {g = g} {e = e} {f = f} a b) =
    by_left (next_redex e) (next_redex f) refl refl h (λ k. reduced_typed v r by_ k a) (λ k. reduced_typed v r by_ k b)
  where
    by_left : (o u : Option Redex) → next_redex e ≡ o → next_redex f ≡ u → or_else o (or_else u (Some (sum e f))) ≡ Some r
        → (next_redex e ≡ Some r → HasType g (reduced v e) int_type) → (next_redex f ≡ Some r → HasType g (reduced v f) int_type)
        → HasType g (if is_some o then add (reduced v e) f else (if is_some u then add e (reduced v f) else value v)) int_type
    by_left None None at there k left right = value_typed g v r (sum e f) by_ k
    by_left None (Some s) at there k left right = add_ a (right (there ∙ k))
    by_left (Some s) u at there k left right = add_ (left (at ∙ k)) b
reduced_typed v r by_ h (apply_ {g = g} {qs = qs} {e = e} {n = n} twice qubits many d) = by_operator (next_redex e) refl h (λ k. reduced_typed v r by_ k d)
  where
    by_operator : (o : Option Redex) → next_redex e ≡ o → or_else o (Some (gate qs e)) ≡ Some r → (next_redex e ≡ Some r → HasType g (reduced v e) (op_type n))
        → HasType g (if is_some o then apply qs (reduced v e) else value v) unit_type
    by_operator None at k more = value_typed g v r (gate qs e) by_ k
    by_operator (Some s) at k more = apply_ twice qubits many (more (at ∙ k))
reduced_typed v r by_ h (measure_ {g = g} {qs = qs} twice qubits) = value_typed g v r (look qs) by_ h

-- a plain value is no qubit
pub plain_none : (q : ℕ) (v : Val) → IsPlain v → same_slot (valued (val.Qubit q)) (valued v) ≡ false
plain_none q (val.Num u) plain = refl
plain_none q val.Unit plain = refl
plain_none q (val.Gate o) plain = refl
plain_none q (val.Qubit r) plain = absurd plain
plain_none q (val.Chan k) plain = absurd plain

-- a plain value has no type Qbit
pub plain_unsent : (g : Context) (v : Val) → IsPlain v → is_qbit (type_in g (valued v)) ≡ false
plain_unsent g (val.Num u) plain = refl
plain_unsent g val.Unit plain = refl
plain_unsent g (val.Gate o) plain = refl
plain_unsent g (val.Qubit r) plain = absurd plain
plain_unsent g (val.Chan k) plain = absurd plain

-- a plain value is no qubit, so none is among its slots
none_in_value : {A : Type 0} (q : ℕ) (v : Val) → IsPlain v → is_among (valued (val.Qubit q)) (valued v ∷ []) ≡ true → A
none_in_value q v plain h = absurd (fails (rw (plain_none q v plain) at h))

-- qubits of what is reduced were there
module _ (q : ℕ) (v : Val) (plain : IsPlain v) where
  -- a qubit in an expression whose redex a plain value replaced was there before
  pub reduced_slots : (e : Expr) → is_among (valued (val.Qubit q)) (expr_slots (reduced v e)) ≡ true → is_among (valued (val.Qubit q)) (expr_slots e) ≡ true
  reduced_slots (slot s) h = none_in_value q v plain h
  reduced_slots (sig e) h = by_sig (is_some (next_redex e)) h (reduced_slots e)
    where
      by_sig : (b : Bool) → is_among (valued (val.Qubit q)) (expr_slots (if b then sig (reduced v e) else value v)) ≡ true
          → (is_among (valued (val.Qubit q)) (expr_slots (reduced v e)) ≡ true → is_among (valued (val.Qubit q)) (expr_slots e) ≡ true)
          → is_among (valued (val.Qubit q)) (expr_slots e) ≡ true
      by_sig true k more = more k
      by_sig false k more = none_in_value q v plain k
  reduced_slots (add e f) h = by_left (is_some (next_redex e)) (is_some (next_redex f)) h (reduced_slots e) (reduced_slots f)
    where
      by_left : (b c : Bool) → is_among (valued (val.Qubit q))
          (expr_slots (if b then add (reduced v e) f else (if c then add e (reduced v f) else value v))) ≡ true
          → (is_among (valued (val.Qubit q)) (expr_slots (reduced v e)) ≡ true → is_among (valued (val.Qubit q)) (expr_slots e) ≡ true)
          → (is_among (valued (val.Qubit q)) (expr_slots (reduced v f)) ≡ true → is_among (valued (val.Qubit q)) (expr_slots f) ≡ true)
          → is_among (valued (val.Qubit q)) (expr_slots e ++ expr_slots f) ≡ true
      by_left true c k left right =
          among_either (valued (val.Qubit q)) (expr_slots (reduced v e)) (expr_slots f) k
          (λ i. among_left (valued (val.Qubit q)) (expr_slots e) (expr_slots f) (left i))
          (λ i. among_right (valued (val.Qubit q)) (expr_slots e) (expr_slots f) i)
      by_left false true k left right =
          among_either (valued (val.Qubit q)) (expr_slots e) (expr_slots (reduced v f)) k
          (λ i. among_left (valued (val.Qubit q)) (expr_slots e) (expr_slots f) i)
          (λ i. among_right (valued (val.Qubit q)) (expr_slots e) (expr_slots f) (right i))
      by_left false false k left right = none_in_value q v plain k
  reduced_slots (apply qs e) h = by_operator (is_some (next_redex e)) h (reduced_slots e)
    where
      by_operator : (b : Bool) → is_among (valued (val.Qubit q)) (expr_slots (if b then apply qs (reduced v e) else value v)) ≡ true
          → (is_among (valued (val.Qubit q)) (expr_slots (reduced v e)) ≡ true → is_among (valued (val.Qubit q)) (expr_slots e) ≡ true)
          → is_among (valued (val.Qubit q)) (qs ++ expr_slots e) ≡ true
      by_operator true k more =
          among_either (valued (val.Qubit q)) qs (expr_slots (reduced v e)) k
          (λ i. among_left (valued (val.Qubit q)) qs (expr_slots e) i) (λ i. among_right (valued (val.Qubit q)) qs (expr_slots e) (more i))
      by_operator false k more = none_in_value q v plain k
  reduced_slots (measure qs) h = none_in_value q v plain h

  -- a qubit in expressions whose redex a plain value replaced was there before
  pub reduced_in_slots : (es : List Expr) → is_among (valued (val.Qubit q)) (exprs_slots (reduced_in v es)) ≡ true
      → is_among (valued (val.Qubit q)) (exprs_slots es) ≡ true
  reduced_in_slots [] h = h
  reduced_in_slots (e ∷ es) h = by_first (is_some (next_redex e)) h (reduced_in_slots es)
    where
      by_first : (b : Bool) → is_among (valued (val.Qubit q)) (exprs_slots (if b then reduced v e ∷ es else e ∷ reduced_in v es)) ≡ true
          → (is_among (valued (val.Qubit q)) (exprs_slots (reduced_in v es)) ≡ true → is_among (valued (val.Qubit q)) (exprs_slots es) ≡ true)
          → is_among (valued (val.Qubit q)) (expr_slots e ++ exprs_slots es) ≡ true
      by_first true k more =
          among_either (valued (val.Qubit q)) (expr_slots (reduced v e)) (exprs_slots es) k
          (λ i. among_left (valued (val.Qubit q)) (expr_slots e) (exprs_slots es) (reduced_slots e i))
          (λ i. among_right (valued (val.Qubit q)) (expr_slots e) (exprs_slots es) i)
      by_first false k more =
          among_either (valued (val.Qubit q)) (expr_slots e) (exprs_slots (reduced_in v es)) k
          (λ i. among_left (valued (val.Qubit q)) (expr_slots e) (exprs_slots es) i)
          (λ i. among_right (valued (val.Qubit q)) (expr_slots e) (exprs_slots es) (more i))
