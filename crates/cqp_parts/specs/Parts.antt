-- Parts by nodes and bindings, the processes that they stand for, and where a part goes on.
use Rattle.std.specs.Prelude.{◌≡◌, ℕ, ◌<◌, List, [], ◌∷◌, ◌++◌, map, filter, length, Option, Some}
use Rattle.std.specs.Prelude.{None, slice_get, Bool, true, false}
use Rattle.cqp_syntax.specs.declared.val.Val.{Val}
use Rattle.cqp_syntax.specs.declared.val.Val.TheVariants as val
use Rattle.cqp_syntax.specs.declared.node.Node.{Node}
use Rattle.cqp_syntax.specs.declared.node.Node.TheVariants as node
use Rattle.cqp_syntax.specs.Trees.{Process, nil, par}
use Rattle.cqp_syntax.specs.Terms.{process}
use Rattle.cqp_syntax.specs.Listing.{Listing, term_at, process_at}
use Rattle.cqp_trace.specs.declared.deed.Deed.{Deed}
use Rattle.cqp_trace.specs.declared.deed.Deed.TheVariants as deed
use Rattle.cqp_syntax.specs.Substitution.{with_value}
use Rattle.cqp_cells.specs.Redex.{reduced_prefix}
use Rattle.cqp_parts.specs.declared.bind.Bind.{Bind}
use Rattle.cqp_parts.specs.declared.part.Part.{Part}
use Rattle.cqp_parts.specs.Free.{is_free}

-- the values in the places of the names that they are bound to
abbrev pub with_bindings : List Bind → Process → Process
with_bindings [] p = p
with_bindings (b ∷ bs) p = with_bindings bs (with_value b.name b.val p)

-- the values in the places of the prefix's redexes, one after another
abbrev pub with_results : List Val → Process → Process
with_results [] p = p
with_results (v ∷ vs) p = with_results vs (reduced_prefix v p)

-- the process that a part stands for
abbrev pub process_of_part : Listing → Part → Process
process_of_part l part = with_results part.vals (with_bindings part.env (process_at l part.node))

-- the node with a number; where there is none, `0`
abbrev pub or_nil : Option Node → Node
or_nil None = node.Nil
or_nil (Some x) = x

-- the node that stands at a number
abbrev pub node_at : Listing → ℕ → Node
node_at l n = or_nil (slice_get l.nodes n)

-- a process stands at the number
abbrev pub IsProcessAt : Listing → ℕ → Type 0
IsProcessAt l n = (n < length l.nodes) × (term_at l n ≡ process (process_at l n))

-- the number of the left side of a parallel composition
abbrev pub left_of : Node → ℕ
left_of (node.Par left right) = left
left_of x = 0

-- and of the right side
abbrev pub right_of : Node → ℕ
right_of (node.Par left right) = right
right_of x = 0

-- the numbers of the prefixes side by side in the process at n, from left to right
abbrev pub prefixes_of : Listing → ℕ → Process → List ℕ
prefixes_of l n nil = []
prefixes_of l n (par p q) =
    prefixes_of l (left_of (node_at l n)) p ++ prefixes_of l (right_of (node_at l n)) q
prefixes_of l n p = n ∷ []

-- those side by side at n
abbrev pub prefixes_at : Listing → ℕ → List ℕ
prefixes_at l n = prefixes_of l n (process_at l n)

-- the bindings of names that are free at n
abbrev pub kept_at : Listing → ℕ → List Bind → List Bind
kept_at l n env = filter (λ b. is_free b.name (process_at l n)) env

-- a part that begins at a prefix
abbrev pub begins_at : Listing → List Bind → ℕ → Part
begins_at l env n = record { node = n; env = kept_at l n env; vals = [] }

-- the parts side by side at n
abbrev pub parts_from : Listing → List Bind → ℕ → List Part
parts_from l env n = map (begins_at l env) (prefixes_at l n)

-- the parts of the opening
abbrev pub opening_parts : Listing → List Part
opening_parts l = parts_from l [] 0

-- the number of the process that follows a node
abbrev pub body_of : Node → ℕ
body_of (node.New x body) = body
body_of (node.Qbit x body) = body
body_of (node.Act e body) = body
body_of (node.In c xs body) = body
body_of (node.Out c es body) = body
body_of x = 0

-- the number of the branch that is taken
abbrev pub branch_of : Node → Bool → ℕ
branch_of (node.If left right first other) true = first
branch_of (node.If left right first other) false = other
branch_of x answer = 0

-- what a binder's name is bound to
abbrev pub bound_by : Node → Val → List Bind
bound_by (node.New x body) v = (record { name = x; val = v }) ∷ []
bound_by (node.Qbit x body) v = (record { name = x; val = v }) ∷ []
bound_by x v = []

-- the names of an input, bound to the values that it receives
abbrev pub bound_to : List ℕ → List Val → List Bind
bound_to (x ∷ xs) (v ∷ vs) = (record { name = x; val = v }) ∷ bound_to xs vs
bound_to xs vs = []

-- what a node's names are bound to by the values that come
abbrev pub received_by : Node → List Val → List Bind
received_by (node.In c xs body) vs = bound_to xs vs
received_by x vs = []

-- the part with one more redex reduced
abbrev pub with_result_of : Part → Val → Part
with_result_of part v = record part { vals = part.vals ++ v ∷ [] }

-- the parts in the place of a part whose prefix has ended, with these further bindings
abbrev pub goes_on_from : Listing → Part → List Bind → ℕ → List Part
goes_on_from l part more n = parts_from l (part.env ++ more) n

-- the parts in the place of a part after a deed of its own
abbrev pub parts_after : Listing → Part → Deed → List Part
parts_after l part (deed.Add v) = with_result_of part (val.Num v) ∷ []
parts_after l part (deed.Pick o) = with_result_of part (val.Gate o) ∷ []
parts_after l part (deed.Gate o qs) = with_result_of part val.Unit ∷ []
parts_after l part (deed.Measure qs m) = with_result_of part (val.Num m) ∷ []
parts_after l part (deed.Qbit q) =
    goes_on_from l part (bound_by (node_at l part.node) (val.Qubit q))
    (body_of (node_at l part.node))
parts_after l part (deed.New c) =
    goes_on_from l part (bound_by (node_at l part.node) (val.Chan c))
    (body_of (node_at l part.node))
parts_after l part (deed.If answer) =
    goes_on_from l part [] (branch_of (node_at l part.node) answer)
parts_after l part d = goes_on_from l part [] (body_of (node_at l part.node))

-- the parts in the place of a receiver
abbrev pub parts_after_input : Listing → Part → List Val → List Part
parts_after_input l part vs =
    goes_on_from l part (received_by (node_at l part.node) vs) (body_of (node_at l part.node))

-- how many unused numbers the parts in the place of one take
abbrev pub more_than_one : List Part → ℕ
more_than_one [] = 0
more_than_one (p ∷ ps) = length ps

-- 1 where none is in its place
abbrev pub one_if_none : List Part → ℕ
one_if_none [] = 1
one_if_none (p ∷ ps) = 0
