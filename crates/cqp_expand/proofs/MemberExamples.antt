-- What the members of small bodies are, by computation.
use Rattle.std.proofs.Common.{◌≡◌, refl, [], ◌∷◌}
use Rattle.cqp_syntax.specs.declared.node.Node.TheVariants as node
use Rattle.cqp_syntax.specs.declared.op.Op.TheVariants as op
use Rattle.cqp_syntax.specs.TypeTrees.{qbit_type}
use Rattle.cqp_expand.specs.declared.outline.Member.TheVariants.{Own, Call}
use Rattle.cqp_expand.specs.Scopes.{below_all}
use Rattle.cqp_expand.specs.Members.{local_types, members_in}
use Rattle.cqp_expand.specs.Examples.{hiding_def, twice_def, nested, unknown}

-- calls are not expanded: both name the first definition, with the parameter as argument
pub calls_stay : members_in (hiding_def.name ∷ []) (below_all [] 0 twice_def.params) 1 0 twice_def.body
    ≡ Own (node.Par 1 2) ∷ Call 0 (0 ∷ []) ∷ Call 0 (0 ∷ []) ∷ []
calls_stay = refl

-- a binder is numbered behind the parameter
pub numbered_behind : members_in [] (below_all [] 0 hiding_def.params) 1 0 hiding_def.body
    ≡ Own (node.Qbit 1 1) ∷ Own (node.Act 2 4) ∷ Own (node.Apply (0 ∷ []) 3) ∷ Own (node.Gate op.H) ∷ Own node.Nil ∷ []
numbered_behind = refl

-- a body of one qubit binds one name, of type Qbit
pub own_type : local_types hiding_def.body ≡ qbit_type ∷ []
own_type = refl

-- the last definition is called, by its number
pub last_called : members_in (twice_def.name ∷ hiding_def.name ∷ []) [] 0 0 nested.main
    ≡ Own (node.Qbit 0 1) ∷ Call 1 (0 ∷ []) ∷ []
last_called = refl

-- an unknown definition stands for nothing
pub unknown_stands : members_in [] [] 0 0 unknown.main ≡ Own node.Nil ∷ []
unknown_stands = refl
