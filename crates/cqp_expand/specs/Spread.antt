-- What members stand for in a copy of a definition: its own nodes with the copy's numbers, and for
-- a call the nodes of a copy of what is called. No public clause cites this module.
use Rattle.std.specs.Prelude.{◌≡◌, ℕ, ◌+◌, List, [], ◌∷◌, ◌++◌, map, length, Option, Some, None}
use Rattle.std.specs.Prelude.{if◌then◌else◌, nat_eq}
use Rattle.cqp_syntax.specs.declared.node.Node.{Node}
use Rattle.cqp_syntax.specs.declared.node.Node.TheVariants as node
use Rattle.cqp_syntax.specs.TypeTrees.{TypeTree}
use Rattle.cqp_syntax.specs.Trees.{Process, nil}
use Rattle.cqp_syntax.specs.Binders.{binders_of}
use Rattle.cqp_syntax.specs.Preorder.{process_nodes, process_size}
use Rattle.cqp_syntax.specs.Listing.{breadth_of}
use Rattle.cqp_expand.specs.declared.outline.Member.{Member}
use Rattle.cqp_expand.specs.declared.outline.Member.TheVariants.{Own, Call}
use Rattle.cqp_expand.specs.Renaming.{rename}
use Rattle.cqp_expand.specs.Expansion.{Template, argument_or_later, binder_count, offsets_of}
use Rattle.cqp_expand.specs.Moved.{moved}
use Rattle.cqp_expand.specs.Counts.{count_of}

-- the template with the number; the last template stands first
abbrev pub template_at : List Template → ℕ → Option Template
template_at [] i = None
template_at (t ∷ ts) i = if nat_eq i (length ts) then Some t else template_at ts i

-- a template's body; none is `0`
abbrev pub body_of : Option Template → Process
body_of None = nil
body_of (Some t) = t.body

-- what the definition with the number stands for
abbrev pub body_at : List Template → ℕ → Process
body_at ts i = body_of (template_at ts i)

-- the names that a node binds
abbrev pub binds : Node → List ℕ
binds (node.New x body) = x ∷ []
binds (node.Qbit x body) = x ∷ []
binds (node.In c xs body) = xs
binds x = []

-- the names that a member binds itself
abbrev pub member_binds : Member → List ℕ
member_binds (Own x) = binds x
member_binds (Call def args) = []

-- how many nodes a member stands for
abbrev pub member_size : List Template → Member → ℕ
member_size ts (Own x) = 1
member_size ts (Call def args) = process_size (body_at ts def)

-- how many names the nodes of a member bind
abbrev pub member_names : List Template → Member → ℕ
member_names ts (Own x) = length (binds x)
member_names ts (Call def args) = binder_count (body_at ts def)

-- what a member counts as
abbrev pub member_breadth : List Template → Member → ℕ
member_breadth ts (Own x) = breadth_of x
member_breadth ts (Call def args) = count_of (body_at ts def)

-- the nodes of a member in a copy: a name x has number r x, a node i has number m i, and the next
-- binder has number n
abbrev pub member_nodes : List Template → (ℕ → ℕ) → (ℕ → ℕ) → ℕ → ℕ → Member → List Node
member_nodes ts r m n i (Own x) = moved r m x ∷ []
member_nodes ts r m n i (Call def args) =
    process_nodes (m i) (rename (argument_or_later (map r args) n) (body_at ts def))

-- the nodes of members, the first of which is number i
abbrev pub nodes_of : List Template → (ℕ → ℕ) → (ℕ → ℕ) → ℕ → ℕ → List Member → List Node
nodes_of ts r m n i [] = []
nodes_of ts r m n i (x ∷ xs) =
    member_nodes ts r m n i x ++ nodes_of ts r m (n + member_names ts x) (i + 1) xs

-- the types of the names that members bind; the definition's name x has type ty x
abbrev pub types_of : List Template → (ℕ → TypeTree) → List Member → List TypeTree
types_of ts ty [] = []
types_of ts ty (Own x ∷ xs) = map ty (binds x) ++ types_of ts ty xs
types_of ts ty (Call def args ∷ xs) =
    map (λ b. b.ty) (binders_of (body_at ts def)) ++ types_of ts ty xs

-- the offsets of their nodes; the members have these offsets in the definition
abbrev pub offsets_from : List Template → List Member → List ℕ → List ℕ
offsets_from ts (Own x ∷ xs) (a ∷ at) = a ∷ offsets_from ts xs at
offsets_from ts (Call def args ∷ xs) (a ∷ at) =
    offsets_of (template_at ts def) ++ offsets_from ts xs at
offsets_from ts xs at = []

-- numbers that count up from n
abbrev pub CountUp : (ℕ → ℕ) → ℕ → List ℕ → Type 0
CountUp r n [] = Unit {0}
CountUp r n (x ∷ xs) = (r x ≡ n) × CountUp r (n + 1) xs

-- the copy's numbers fit the members: binders count up from n, and nodes stand behind one another
abbrev pub Fits : List Template → (ℕ → ℕ) → (ℕ → ℕ) → ℕ → ℕ → List Member → Type 0
Fits ts r m n i [] = Unit {0}
Fits ts r m n i (x ∷ xs) =
    CountUp r n (member_binds x) × (m (i + 1) ≡ m i + member_size ts x)
    × Fits ts r m (n + member_names ts x) (i + 1) xs
