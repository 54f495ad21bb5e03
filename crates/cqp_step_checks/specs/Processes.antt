-- The processes of the tests, and their lists. Offsets in a text are left out.
use Rattle.std.specs.Prelude.{ℕ, List, [], ◌∷◌, replicate}
use Rattle.cqp_syntax.specs.declared.op.Op.TheVariants as op
use Rattle.cqp_syntax.specs.declared.val.Val.TheVariants as val
use Rattle.cqp_syntax.specs.declared.ty.Ty.{Ty}
use Rattle.cqp_syntax.specs.declared.ty.Ty.TheVariants as ty
use Rattle.cqp_syntax.specs.TypeTrees.{int_type, qbit_type, chan_type, no_types, type_and}
use Rattle.cqp_syntax.specs.Trees.{named, Expr, slot, sig, add, apply, measure, value, Process, nil}
use Rattle.cqp_syntax.specs.Trees.{par, new, qbit, act, input, output, branch}
use Rattle.cqp_syntax.specs.Preorder.{process_nodes, process_size}
use Rattle.cqp_syntax.specs.Listing.{Listing}

-- the lists of a process with these types
abbrev pub lists_of : Process → List Ty → List ℕ → Listing
lists_of p types ty_of = record {
  nodes = process_nodes 0 p;
  types = types;
  ty_of = ty_of;
  at = replicate (process_size p) 0;
}

-- a number
abbrev pub number : ℕ → Expr
number n = value (val.Num n)

-- `0`
abbrev pub nothing : Process
nothing = nil

unfoldable pub nothing_lists : Listing
nothing_lists = lists_of nothing [] []

-- `((new a:^[])0|0)|(qbit x)0|{unit}.0`
abbrev pub sides : Process
sides =
    par (par (new (record { name = 0; ty = chan_type no_types }) nil) nil)
    (par (qbit 1 nil) (act (value val.Unit) nil))

unfoldable pub sides_lists : Listing
sides_lists = lists_of sides (ty.Chan [] ∷ ty.Qbit ∷ []) (0 ∷ 1 ∷ [])

-- `c![measure y,x,1 + 2 + (3 + 4)].0`
abbrev pub sums_sent : Process
sums_sent =
    output (named 0)
    (measure (named 2 ∷ named 1 ∷ [])
    ∷ add (add (number 1) (number 2)) (add (number 3) (number 4)) ∷ []) nil

-- `{y,x *= CNot}.{x *= sig(4294967295 + 3)}` before it
abbrev pub gates_made : Process
gates_made =
    act (apply (named 2 ∷ named 1 ∷ []) (value (val.Gate op.CNot)))
    (act (apply (named 1 ∷ []) (sig (add (number 4294967295) (number 3)))) sums_sent)

-- and `(new c:^[Int,Int])(qbit x)(qbit y)` before both
abbrev pub sums : Process
sums =
    new (record { name = 0; ty = chan_type (type_and int_type (type_and int_type no_types)) })
    (qbit 1 (qbit 2 gates_made))

unfoldable pub sums_lists : Listing
sums_lists = lists_of sums (ty.Int ∷ ty.Qbit ∷ ty.Chan (0 ∷ 0 ∷ []) ∷ []) (2 ∷ 1 ∷ 1 ∷ [])

-- `if m + 1 = n + 3 then {unit}.0 else 0`
abbrev pub choice : Process
choice =
    branch (add (slot (named 1)) (number 1)) (add (slot (named 2)) (number 3))
    (act (value val.Unit) nil) nil

-- `(new c:^[Int,Int])c?[m:Int,n:Int]` before it
abbrev pub received : Process
received =
    new (record { name = 0; ty = chan_type (type_and int_type (type_and int_type no_types)) })
    (input (named 0) (record { name = 1; ty = int_type } ∷ record { name = 2; ty = int_type } ∷ [])
    choice)

unfoldable pub received_lists : Listing
received_lists = lists_of received (ty.Int ∷ ty.Chan (0 ∷ 0 ∷ []) ∷ []) (1 ∷ 0 ∷ 0 ∷ [])

-- `c?[z:Qbit].0`, of the name that it binds
abbrev pub taker : ℕ → Process
taker z = input (named 0) (record { name = z; ty = qbit_type } ∷ []) nil

-- `c![x].({y *= H}.0|c?[z:Qbit].0)`
abbrev pub giver : Process
giver =
    output (named 0) (slot (named 1) ∷ [])
    (par (act (apply (named 2 ∷ []) (value (val.Gate op.H))) nil) (taker 3))

-- `(new c:^[Qbit])(qbit x)(qbit y)`, and behind it that beside `c?[w:Qbit].0|{unit}.0`
abbrev pub shared : Process
shared =
    new (record { name = 0; ty = chan_type (type_and qbit_type no_types) })
    (qbit 1 (qbit 2 (par giver (par (taker 4) (act (value val.Unit) nil)))))

unfoldable pub shared_lists : Listing
shared_lists = lists_of shared (ty.Qbit ∷ ty.Chan (0 ∷ []) ∷ []) (1 ∷ 0 ∷ 0 ∷ 0 ∷ 0 ∷ [])
