-- A node with other numbers: of names, and of the nodes that are its parts. No public clause cites
-- this module.
use Rattle.std.specs.Prelude.{ℕ, ◌+◌, ◌<◌, ◌^◌, List, [], ◌∷◌, map, length, slice_index}
use Rattle.std.specs.List.{AllByRecursion}
use Rattle.cqp_syntax.specs.declared.node.Node.{Node}
use Rattle.cqp_syntax.specs.declared.node.Node.TheVariants as node
use Rattle.cqp_syntax.specs.Listing.{bodies_of, exprs_of}
use Rattle.cqp_expand.specs.declared.renumbering.Renumbering.{Renumbering}

-- the node with each name x as r x, and each part n as m n
abbrev pub moved : (ℕ → ℕ) → (ℕ → ℕ) → Node → Node
moved r m node.Nil = node.Nil
moved r m (node.Par left right) = node.Par (m left) (m right)
moved r m (node.New x body) = node.New (r x) (m body)
moved r m (node.Qbit x body) = node.Qbit (r x) (m body)
moved r m (node.Act e body) = node.Act (m e) (m body)
moved r m (node.In c xs body) = node.In (r c) (map r xs) (m body)
moved r m (node.Out c es body) = node.Out (r c) (map m es) (m body)
moved r m (node.If left right first other) = node.If (m left) (m right) (m first) (m other)
moved r m (node.Num v) = node.Num v
moved r m node.Unit = node.Unit
moved r m (node.Name x) = node.Name (r x)
moved r m (node.Gate op) = node.Gate op
moved r m (node.Sig e) = node.Sig (m e)
moved r m (node.Add left right) = node.Add (m left) (m right)
moved r m (node.Apply qs e) = node.Apply (map r qs) (m e)
moved r m (node.Measure qs) = node.Measure (map r qs)

-- the names that a node binds or names
abbrev pub names_of : Node → List ℕ
names_of (node.New x body) = x ∷ []
names_of (node.Qbit x body) = x ∷ []
names_of (node.In c xs body) = c ∷ xs
names_of (node.Out c es body) = c ∷ []
names_of (node.Name x) = x ∷ []
names_of (node.Apply qs e) = qs
names_of (node.Measure qs) = qs
names_of x = []

-- the number of a name of a copy, and of a node
abbrev pub name_at : Renumbering → ℕ → ℕ
name_at p x = slice_index p.numbers.now (p.base + x)

-- the copy's number of a node
abbrev pub node_at : Renumbering → ℕ → ℕ
node_at p n = p.start + slice_index p.starts.now n

-- the name has a number, and so has the node
abbrev pub HasName : Renumbering → ℕ → Type 0
HasName p x = p.base + x < length p.numbers.now

-- the node has a number in the copy
abbrev pub HasNode : Renumbering → ℕ → Type 0
HasNode p n = (n < length p.starts.now) × (node_at p n < 2 ^ 32)

-- all names and parts of a node have numbers
pub record HasNumbers (p : Renumbering) (x : Node) : Type 0 where
  pub few : length p.numbers.now < 2 ^ 63
  pub names : AllByRecursion (HasName p) (names_of x)
  pub exprs : AllByRecursion (HasNode p) (exprs_of x)
  pub bodies : AllByRecursion (HasNode p) (bodies_of x)
