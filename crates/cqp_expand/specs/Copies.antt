-- What the copy needs of a program's outlines, and what it leaves. No public clause cites this
-- module.
use Rattle.std.specs.Prelude.{◌≡◌, ℕ, ◌≤◌, List, [], ◌∷◌, map, length, true, nat_lt}
use Rattle.std.specs.List.{list_all}
use Rattle.cqp_syntax.specs.declared.node.Node.{Node}
use Rattle.cqp_syntax.specs.declared.ty.Ty.{Ty}
use Rattle.cqp_syntax.specs.TypeTrees.{type_at}
use Rattle.cqp_syntax.specs.Binders.{binders_of}
use Rattle.cqp_syntax.specs.Preorder.{process_nodes}
use Rattle.cqp_grammar.specs.Trees.{ProgramTree}
use Rattle.cqp_expand.specs.declared.outline.Outline.{Outline}
use Rattle.cqp_expand.specs.declared.outline.Member.{Member}
use Rattle.cqp_expand.specs.declared.outline.Member.TheVariants.{Own, Call}
use Rattle.cqp_expand.specs.Counts.{count_of}
use Rattle.cqp_expand.specs.Expansion.{expansion, expansion_offsets}
use Rattle.cqp_expand.specs.Faults.{scope_faults}
use Rattle.cqp_expand.specs.Outlines.{AreBehind}

-- a program without faults that is small enough, with its outlines
pub record IsSmall (t : ProgramTree) (types : List Ty) (outlines : List Outline) : Type 0 where
  pub faultless : scope_faults t ≡ []
  pub scanned : AreBehind types [] [] t.defs t.main outlines
  pub small : count_of (expansion t) ≤ 20000

-- the nodes among members, which are no calls
abbrev pub own_nodes : List Member → List Node
own_nodes [] = []
own_nodes (Own x ∷ xs) = x ∷ own_nodes xs
own_nodes (Call def args ∷ xs) = own_nodes xs

-- the lists are those of the program's process
pub record IsCopyOf (t : ProgramTree) (types : List Ty) (nodes : List Node) (ty_of at : List ℕ)
    : Type 0 where
  pub listed : nodes ≡ process_nodes 0 (expansion t)
  pub bound : map (type_at types) ty_of ≡ map (λ b. b.ty) (binders_of (expansion t))
  pub offsets : at ≡ expansion_offsets t
  pub typed : list_all (λ k. nat_lt k (length types)) ty_of ≡ true
