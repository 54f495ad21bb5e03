-- What the members of a definition name stands before them.
use Rattle.std.proofs.Common.{◌≡◌, ℕ, ◌+◌, ◌<◌, ◌≤◌, List, [], ◌∷◌, length, Some}
use Rattle.std.specs.List.{range_with_len, AllByRecursion}
use Rattle.cqp_syntax.specs.declared.node.Node.{Node}
use Rattle.cqp_syntax.specs.Listing.{bodies_of, exprs_of}
use Rattle.cqp_expand.specs.declared.outline.Member.{Member}
use Rattle.cqp_expand.specs.declared.outline.Member.TheVariants.{Own, Call}
use Rattle.cqp_expand.specs.Expansion.{Template}
use Rattle.cqp_expand.specs.Moved.{names_of}
use Rattle.cqp_expand.specs.Spread.{binds, member_binds, template_at}

-- a node behind k names, in a tree of so many nodes and names
pub record OwnScoped (nodes total k : ℕ) (x : Node) : Type 0 where
  pub bound : binds x ≡ range_with_len k (length (binds x))
  pub within : k + length (binds x) ≤ total
  pub names : AllByRecursion (λ y. y < k + length (binds x)) (names_of x)
  pub exprs : AllByRecursion (λ j. j ≤ nodes) (exprs_of x)
  pub bodies : AllByRecursion (λ j. j ≤ nodes) (bodies_of x)

-- a call behind k names, of one of so many definitions
pub record CallScoped (all : List Template) (defs k def : ℕ) (args : List ℕ) : Type 0 where
  pub before : def < defs
  pub names : AllByRecursion (λ y. y < k) args
  pub template : Template
  pub at : template_at all def ≡ Some template
  pub arity : template.arity ≡ length args

-- a member
abbrev pub MemberScoped : List Template → ℕ → ℕ → ℕ → ℕ → Member → Type 0
MemberScoped all defs nodes total k (Own x) = OwnScoped nodes total k x
MemberScoped all defs nodes total k (Call def args) = CallScoped all defs k def args

-- members, the first behind k names
abbrev pub Scoped : List Template → ℕ → ℕ → ℕ → ℕ → List Member → Type 0
Scoped all defs nodes total k [] = Unit {0}
Scoped all defs nodes total k (x ∷ xs) = MemberScoped all defs nodes total k x × Scoped all defs nodes total (k + length (member_binds x)) xs
