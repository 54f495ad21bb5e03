-- What fails at a node: of the kinds in its row, in order, the first whose condition holds.
use Rattle.std.specs.Prelude.{◌≡◌, ℕ, ◌<◌, List, [], ◌∷◌, ◌++◌, length, Bool, ◌==◌, ◌&&◌, not}
use Rattle.std.specs.Prelude.{if◌then◌else◌, Option, Some, None}
use Rattle.std.specs.List.{list_any, list_all}
use Rattle.cqp_syntax.specs.declared.val.Val.TheVariants as val
use Rattle.cqp_syntax.specs.Gates.{places_of}
use Rattle.cqp_syntax.specs.TypeTrees.{TypeTree, TypeTrees, int_type, unit_type, qbit_type, op_type}
use Rattle.cqp_syntax.specs.TypeTrees.{chan_type, no_types, type_and}
use Rattle.cqp_syntax.specs.Trees.{Slot, named, valued, Expr, slot, sig, add, apply, measure}
use Rattle.cqp_syntax.specs.Trees.{Binder, Process, nil, par, new, qbit, act, input, output, branch}
use Rattle.cqp_syntax.specs.Terms.{Term, process, expr}
use Rattle.cqp_syntax.specs.Free.{is_among, exprs_slots, free_slots}
use Rattle.cqp_syntax.specs.Listing.{Listing, type_of_name, term_at}
use Rattle.cqp_types.specs.declared.kind.Kind.{Kind}
use Rattle.cqp_types.specs.declared.kind.Kind.TheVariants as kind
use Rattle.cqp_types.specs.Types.{count_of, types_of, carried}
use Rattle.cqp_syntax.specs.TypeTrees.{same_type, same_types}
use Rattle.cqp_types.specs.Contexts.{is_twice}
use Rattle.cqp_types.specs.Derivations.{sent}

-- the types of names, as their binders have them
abbrev pub Annotation : Type 0
Annotation = ℕ → TypeTree

-- the type of what stands in a slot of a text, where no qubit or channel stands
abbrev pub slot_type : Annotation → Slot → TypeTree
slot_type ty (named x) = ty x
slot_type ty (valued (val.Num v)) = int_type
slot_type ty (valued val.Unit) = unit_type
slot_type ty (valued (val.Gate o)) = op_type (places_of o)
slot_type ty (valued (val.Qubit q)) = qbit_type
slot_type ty (valued (val.Chan c)) = chan_type no_types

-- the type that an expression's form tells
abbrev pub form_type : Annotation → Expr → TypeTree
form_type ty (slot s) = slot_type ty s
form_type ty (sig e) = op_type 1
form_type ty (add e f) = int_type
form_type ty (apply qs e) = unit_type
form_type ty (measure qs) = int_type

-- the expression is a number by its form
abbrev pub is_int : Annotation → Expr → Bool
is_int ty e = same_type (form_type ty e) int_type

-- the slot has type Qbit by its form
abbrev pub is_qubit : Annotation → Slot → Bool
is_qubit ty s = same_type (slot_type ty s) qbit_type

-- the first kind whose condition holds
abbrev pub first_kind : List (Bool × Kind) → Option Kind
first_kind [] = None
first_kind (c ∷ cs) = if c.0 then Some c.1 else first_kind cs

-- a binder of this type makes a channel
abbrev pub new_fault : Option TypeTrees → Option Kind
new_fault None = Some kind.NotChannel
new_fault (Some ts) = None

-- the parameters are those that the channel carries
abbrev pub input_fault : Option TypeTrees → List Binder → Option Kind
input_fault None bs = Some kind.NotChannel
input_fault (Some ts) bs =
    first_kind
    ((not (length bs == count_of ts), kind.Count)
    ∷ (not (same_types (types_of bs) ts), kind.Mismatch) ∷ [])

-- the types that the forms of expressions tell
abbrev pub form_types : Annotation → List Expr → TypeTrees
form_types ty [] = no_types
form_types ty (e ∷ es) = type_and (form_type ty e) (form_types ty es)

-- the arguments that are no names of type Qbit
abbrev pub others : Annotation → List Expr → List Expr
others ty [] = []
others ty (slot s ∷ es) = if is_qubit ty s then others ty es else slot s ∷ others ty es
others ty (e ∷ es) = e ∷ others ty es

-- one of the slots is among the others
abbrev pub meet : List Slot → List Slot → Bool
meet ss ts = list_any (λ s. is_among s ts) ss

-- the arguments are those that the channel carries, and a qubit is sent once and not used besides
abbrev pub output_fault : Annotation → Option TypeTrees → List Expr → Process → Option Kind
output_fault ty None es p = Some kind.NotChannel
output_fault ty (Some ts) es p =
    let qubits = sent (is_qubit ty) es in
    first_kind
    ((not (length es == count_of ts), kind.Count)
    ∷ (not (same_types (form_types ty es) ts), kind.Mismatch)
    ∷ (is_twice qubits, kind.OperandTwice)
    ∷ (meet qubits (exprs_slots (others ty es) ++ free_slots p), kind.SentAndUsed) ∷ [])

-- how many places an operator's type has
abbrev pub places_in : TypeTree → Option ℕ
places_in (op_type n) = Some n
places_in t = None

-- the operands are as many different qubits as the operator has places
abbrev pub apply_fault : Annotation → List Slot → Option ℕ → Option Kind
apply_fault ty qs None = Some kind.Mismatch
apply_fault ty qs (Some n) =
    first_kind
    ((not (list_all (is_qubit ty) qs), kind.Mismatch) ∷ (not (length qs == n), kind.Count)
    ∷ (is_twice qs, kind.OperandTwice) ∷ [])

-- the operands are different qubits
abbrev pub measure_fault : Annotation → List Slot → Option Kind
measure_fault ty qs =
    first_kind
    ((not (list_all (is_qubit ty) qs), kind.Mismatch) ∷ (is_twice qs, kind.OperandTwice) ∷ [])

-- both are numbers
abbrev pub numbers_fault : Annotation → Expr → Expr → Option Kind
numbers_fault ty e f = first_kind ((not (is_int ty e && is_int ty f), kind.Mismatch) ∷ [])

-- what fails at the root of an expression
abbrev pub expr_fault : Annotation → Expr → Option Kind
expr_fault ty (slot s) = None
expr_fault ty (sig e) = first_kind ((not (is_int ty e), kind.Mismatch) ∷ [])
expr_fault ty (add e f) = numbers_fault ty e f
expr_fault ty (apply qs e) = apply_fault ty qs (places_in (form_type ty e))
expr_fault ty (measure qs) = measure_fault ty qs

-- a slot of type Qbit is free on both sides
abbrev pub shares : Annotation → Process → Process → Bool
shares ty p q = list_any (λ s. is_qubit ty s && is_among s (free_slots q)) (free_slots p)

-- what fails at the root of a process
abbrev pub process_fault : Annotation → Process → Option Kind
process_fault ty nil = None
process_fault ty (par p q) = first_kind ((shares ty p q, kind.SplitTwice) ∷ [])
process_fault ty (new b p) = new_fault (carried b.ty)
process_fault ty (qbit x p) = None
process_fault ty (act e p) = None
process_fault ty (input c bs p) = input_fault (carried (slot_type ty c)) bs
process_fault ty (output c es p) = output_fault ty (carried (slot_type ty c)) es p
process_fault ty (branch e f p q) = numbers_fault ty e f

-- what fails at the root of a term
abbrev pub fault : Annotation → Term → Option Kind
fault ty (process p) = process_fault ty p
fault ty (expr e) = expr_fault ty e

-- what fails at the node with this number
abbrev pub fault_at : Listing → ℕ → Option Kind
fault_at l n = fault (type_of_name l) (term_at l n)

-- the least node that fails, and how
pub record IsLeastFault (l : Listing) (n : ℕ) (k : Kind) : Type 0 where
  pub within : n < length l.nodes
  pub fails : fault_at l n ≡ Some k
  pub before : (m : ℕ) → m < n → fault_at l m ≡ None

-- no node fails
abbrev pub HasNoFault : Listing → Type 0
HasNoFault l = (n : ℕ) → n < length l.nodes → fault_at l n ≡ None
