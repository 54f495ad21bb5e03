-- Expressions without a redex are values, and typed values are what their types say.
use Rattle.std.proofs.Common.{◌≡◌, ℕ, ◌<◌, true, refl, sym, subst, arith}
use Rattle.std.specs.Prelude.{Some, None, Option}
use Rattle.std.proofs.lemmas.Bool.Decides.{nat_tests}
use Rattle.cqp_syntax.specs.declared.val.Val.{Val}
use Rattle.cqp_syntax.specs.declared.val.Val.TheVariants as val
use Rattle.cqp_syntax.specs.Gates.{places_of}
use Rattle.cqp_syntax.specs.TypeTrees.{TypeTree, TypeTrees, int_type, qbit_type, op_type, chan_type}
use Rattle.cqp_syntax.specs.Trees.{Slot, named, valued, Expr, slot, sig, add, apply, measure, value}
use Rattle.cqp_types.specs.Contexts.{Context, Has}
use Rattle.cqp_types.specs.Derivations.{HasType, slot_}
use Rattle.cqp_cells.specs.Redex.{Redex, sum, pick, gate, or_else, next_redex}
use Rattle.cqp_cells.specs.Operands.{is_number, is_gate_with}
use Rattle.cqp_cells.proofs.Options.{none_is_some}

-- contexts with types for no name, and for qubits that were made
pub record IsUnder (n : ℕ) (g : Context) : Type 0 where
  pub no_name : (x : ℕ) (t : TypeTree) → Has g (named x) t → ⊥
  pub below : (q : ℕ) (t : TypeTree) → Has g (valued (val.Qubit q)) t → q < n
  pub only : (q : ℕ) (t : TypeTree) → Has g (valued (val.Qubit q)) t → t ≡ qbit_type
  pub chan : (k : ℕ) (t : TypeTree) → Has g (valued (val.Chan k)) t → (us : TypeTrees) × (t ≡ chan_type us)

-- a value of type Int is a number
int_value : {n : ℕ} {g : Context} (v : Val) → IsUnder n g → Has g (valued v) int_type → is_number (value v) ≡ true
int_value (val.Num u) under h = refl
int_value val.Unit under h = absurd (cc h)
int_value (val.Gate o) under h = absurd (cc h)
int_value (val.Qubit q) under h = absurd (wrong (under.only q int_type h))
  where
    wrong : int_type ≡ qbit_type → ⊥
    wrong e = cc
int_value (val.Chan k) under h = absurd (wrong (under.chan k int_type h))
  where
    wrong : (us : TypeTrees) × (int_type ≡ chan_type us) → ⊥
    wrong (us, e) = cc

-- a value of the type of an operator is a gate with so many places
op_value : {n : ℕ} {g : Context} (v : Val) (m : ℕ) → IsUnder n g → Has g (valued v) (op_type m) → is_gate_with m (value v) ≡ true
op_value (val.Num u) m under h = absurd (cc h)
op_value val.Unit m under h = absurd (cc h)
op_value (val.Gate o) m under h = let same : places_of o ≡ m = places h in grind (arith, nat_tests)
  where
    places : Some (op_type (places_of o)) ≡ Some (op_type m) → places_of o ≡ m
    places e = cc
op_value (val.Qubit q) m under h = absurd (wrong (under.only q (op_type m) h))
  where
    wrong : op_type m ≡ qbit_type → ⊥
    wrong e = cc
op_value (val.Chan k) m under h = absurd (wrong (under.chan k (op_type m) h))
  where
    wrong : (us : TypeTrees) × (op_type m ≡ chan_type us) → ⊥
    wrong (us, e) = cc

-- an expression without a redex is a value
pub done_value : (e : Expr) → next_redex e ≡ None → (v : Val) × (e ≡ value v)
done_value (slot (named x)) h = absurd (none_is_some (sym h))
done_value (slot (valued v)) h = (v, refl)
done_value (sig e) h = by_sig (next_redex e) h
  where
    by_sig : (o : Option Redex) → or_else o (Some (pick e)) ≡ None → (v : Val) × (sig e ≡ value v)
    by_sig None g = absurd (none_is_some (sym g))
    by_sig (Some r) g = absurd (none_is_some (sym g))
done_value (add e f) h = by_left (next_redex e) (next_redex f) h
  where
    by_left : (o u : Option Redex) → or_else o (or_else u (Some (sum e f))) ≡ None → (v : Val) × (add e f ≡ value v)
    by_left None None g = absurd (none_is_some (sym g))
    by_left None (Some r) g = absurd (none_is_some (sym g))
    by_left (Some r) u g = absurd (none_is_some (sym g))
done_value (apply qs e) h = by_operator (next_redex e) h
  where
    by_operator : (o : Option Redex) → or_else o (Some (gate qs e)) ≡ None → (v : Val) × (apply qs e ≡ value v)
    by_operator None g = absurd (none_is_some (sym g))
    by_operator (Some r) g = absurd (none_is_some (sym g))
done_value (measure qs) h = absurd (none_is_some (sym h))

-- a typed slot has its type in the context
pub slot_has : {g : Context} {s : Slot} {t : TypeTree} → HasType g (slot s) t → Has g s t
slot_has (slot_ is) = is

-- an expression of type Int without a redex is a number
pub int_done : {n : ℕ} {g : Context} {e : Expr} → IsUnder n g → HasType g e int_type → next_redex e ≡ None → is_number e ≡ true
int_done {n} {g} {e} under d h =
    let (v, is) = done_value e h in
    subst (λ x. is_number x ≡ true) (sym is) (int_value v under (slot_has (subst (λ x. HasType g x int_type) is d)))

-- an expression of the type of an operator without a redex is a gate with as many places
pub op_done : {n : ℕ} {g : Context} {e : Expr} (m : ℕ) → IsUnder n g → HasType g e (op_type m) → next_redex e ≡ None → is_gate_with m e ≡ true
op_done {n} {g} {e} m under d h =
    let (v, is) = done_value e h in
    subst (λ x. is_gate_with m x ≡ true) (sym is) (op_value v m under (slot_has (subst (λ x. HasType g x (op_type m)) is d)))

-- the first redex of one expression is that expression's
pub only_one : (o : Option Redex) (r : Redex) → or_else o None ≡ Some r → o ≡ Some r
only_one None r h = h
only_one (Some s) r h = h
