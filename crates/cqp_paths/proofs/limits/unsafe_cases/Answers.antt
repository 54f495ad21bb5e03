use Rattle.std.proofs.Common.{◌≤◌, List, [], ◌∷◌, ◌++◌, refl, arith}
use Rattle.cqp_syntax.specs.TypeTrees.{TypeTree, TypeTrees}
use Rattle.cqp_syntax.specs.Trees.{named, act}
use Rattle.cqp_types.specs.Contexts.{Has}
use Rattle.cqp_types.proofs.Known.{free_known}
use Rattle.cqp_cells.specs.Cases.{acts_on_it, num}
use Rattle.cqp_cells.proofs.Options.{none_is_some, yes_is_no}
use Rattle.cqp_paths.specs.Safe.{channels, owned}
use Rattle.cqp_paths.proofs.limits.unsafe_cases.Goals as goal

-- no name has a type among channels
no_name : (carried : List TypeTrees) (t : TypeTree) → Has (channels carried) (named 4) t → ⊥
no_name [] t has = none_is_some has
no_name (ts ∷ carried) t has = no_name carried t has

pub returns-clause-owners : goal.returns-clause-owners
returns-clause-owners c safe = let two : 2 ≤ 1 = safe.owners 0 in omega arith

pub returns-clause-operand : goal.returns-clause-operand
returns-clause-operand c safe = yes_is_no safe.operands

pub returns-clause-later : goal.returns-clause-later
returns-clause-later c safe =
    let carried = safe.typed.carried in
    let known = free_known (owned (act (num 1) acts_on_it) ++ channels carried) (named 4) safe.typed.parts.0 refl in
    no_name carried known.0 known.1
