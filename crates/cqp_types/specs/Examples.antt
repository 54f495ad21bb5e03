-- Small processes, right and wrong, with their lists.
use Rattle.std.specs.Prelude.{ℕ, List, [], ◌∷◌, map, length, Option}
use Rattle.std.specs.List.{range_with_len}
use Rattle.cqp_syntax.specs.declared.op.Op.{Op}
use Rattle.cqp_syntax.specs.declared.op.Op.TheVariants as op
use Rattle.cqp_syntax.specs.declared.val.Val.TheVariants as val
use Rattle.cqp_syntax.specs.declared.ty.Ty.{Ty}
use Rattle.cqp_syntax.specs.declared.ty.Ty.TheVariants as ty
use Rattle.cqp_syntax.specs.TypeTrees.{TypeTree, int_type, qbit_type, chan_type, no_types, type_and}
use Rattle.cqp_syntax.specs.Trees.{Expr, slot, named, apply, measure, value, Binder, Process, nil}
use Rattle.cqp_syntax.specs.Trees.{par, new, qbit, act, input, output}
use Rattle.cqp_syntax.specs.Preorder.{process_nodes}
use Rattle.cqp_syntax.specs.Listing.{Listing}
use Rattle.cqp_types.specs.declared.kind.Kind.{Kind}
use Rattle.cqp_types.specs.Faults.{fault_at}

-- the lists of a process with these types, where names have these type numbers
abbrev pub lists : Process → List Ty → List ℕ → Listing
lists p types ty_of =
    record { nodes = process_nodes 0 p; types = types; ty_of = ty_of; at = [] }

-- what fails at each node
abbrev pub faults : Listing → List (Option Kind)
faults l = map (fault_at l) (range_with_len 0 (length l.nodes))

-- a name, a gate on a name, and a channel's type
abbrev pub name : ℕ → Expr
name x = slot (named x)

-- a gate on a name
abbrev pub gate_on : Op → ℕ → Expr
gate_on o x = apply (named x ∷ []) (value (val.Gate o))

-- the type of a channel that carries one type
abbrev pub chan_of : TypeTree → TypeTree
chan_of t = chan_type (type_and t no_types)

-- a name with its type
abbrev pub binder : ℕ → TypeTree → Binder
binder x t = record { name = x; ty = t }

-- `(qbit x){x *= H}.{x *= X}.0`
abbrev pub used_in_turn : Process
used_in_turn = qbit 0 (act (gate_on op.H 0) (act (gate_on op.X 0) nil))

-- `(qbit x)({x *= H}.0|{x *= X}.0)`
abbrev pub on_both_sides : Process
on_both_sides = qbit 0 (par (act (gate_on op.H 0) nil) (act (gate_on op.X 0) nil))

-- `(qbit x)(new c:^[Qbit])(c![x].{measure x}.0|c?[y:Qbit].0)`
abbrev pub sends_and_measures : Process
sends_and_measures = output (named 1) (name 0 ∷ []) (act (measure (named 0 ∷ [])) nil)

-- that, between two binders and a receiver
abbrev pub sent_and_used : Process
sent_and_used =
    qbit 0 (new (binder 1 (chan_of qbit_type))
    (par sends_and_measures (input (named 1) (binder 2 qbit_type ∷ []) nil)))

-- `(qbit x){measure x,x}.0`
abbrev pub measured_twice : Process
measured_twice = qbit 0 (act (measure (named 0 ∷ named 0 ∷ [])) nil)

-- `(qbit x){x}.0`
abbrev pub qubit_alone : Process
qubit_alone = qbit 0 (act (name 0) nil)

-- `(new c:^[Int])c![].0`
abbrev pub sends_too_few : Process
sends_too_few = new (binder 0 (chan_of int_type)) (output (named 0) [] nil)

-- `(qbit x){x *= 3}.0`
abbrev pub number_as_operator : Process
number_as_operator = qbit 0 (act (apply (named 0 ∷ []) (value (val.Num 3))) nil)

-- the types Qbit, and `^[Qbit]` or `^[Int]` behind what it is of
abbrev pub qbit_types : List Ty
qbit_types = ty.Qbit ∷ ty.Chan (0 ∷ []) ∷ []

-- the types Int and `^[Int]`
abbrev pub int_types : List Ty
int_types = ty.Int ∷ ty.Chan (0 ∷ []) ∷ []
