-- What the scan knows at a place of a body: the scope and the types as trees, and what changes
-- below a binder or by a fault. No public clause cites this module.
use Rattle.std.specs.Prelude.{◌≡◌, ℕ, ◌<◌, List, [], ◌∷◌, ◌++◌, map, reverse, length, take}
use Rattle.std.specs.List.{AllByRecursion}
use Rattle.cqp_syntax.specs.declared.ty.Ty.{Ty}
use Rattle.cqp_syntax.specs.TypeTrees.{TypeTree, type_at}
use Rattle.cqp_grammar.specs.Trees.{Occurrence, Parameter}
use Rattle.cqp_program.specs.declared.program.Occ.{Occ}
use Rattle.cqp_expand.specs.declared.fault.ScopeFault.{ScopeFault}
use Rattle.cqp_expand.specs.declared.locals.Locals.{Locals}
use Rattle.cqp_expand.specs.declared.scope.Bound as code
use Rattle.cqp_expand.specs.Scopes.{Bound, Scope, below_all}
use Rattle.cqp_expand.specs.Kept.{least_of}
use Rattle.cqp_expand.specs.Tables.{IsTable, Extends}

-- the types with numbers
abbrev pub table : Locals → List Ty
table l = l.types.types

-- a binder with its type as a tree
abbrev pub seen : List Ty → code.Bound → Bound
seen types b = record { text = b.text.now; number = b.number; ty = type_at types b.ty }

-- the binders around the place, the innermost first
abbrev pub scope_of : List Ty → List code.Bound → Scope
scope_of types bs = map (seen types) (reverse bs)

-- the scope at the node
abbrev pub scope_in : Locals → Scope
scope_in l = scope_of (table l) l.scope

-- the types of the names so far
abbrev pub types_in : Locals → List TypeTree
types_in l = map (type_at (table l)) l.ty_of

-- a name as it stands in a tree
abbrev pub told : Occ → Occurrence
told x = record { name = x.name; at = x.at }

-- the least fault of those so far and of these
abbrev pub after : Locals → List ScopeFault → Locals
after l fs = record l { least = least_of l.least fs }

-- one more name, and its binder around the place
abbrev pub with_bound : Locals → code.Bound → Locals
with_bound l b = record l { scope = l.scope ++ b ∷ []; ty_of = l.ty_of ++ b.ty ∷ [] }

-- each type has a number in the table
pub record IsLocal (l : Locals) : Type 0 where
  pub is_table : IsTable (table l)
  pub bound : AllByRecursion (λ b. b.ty < length (table l)) l.scope
  pub typed : AllByRecursion (λ n. n < length (table l)) l.ty_of

-- these parameters are bound, with these faults
pub record Enters (old new : Locals) (ps : List Parameter) (fs : List ScopeFault) : Type 0 where
  pub scope : scope_in new ≡ below_all (scope_in old) (length old.ty_of) ps
  pub types : types_in new ≡ types_in old ++ map (λ p. p.ty) ps
  pub faults : new.least ≡ least_of old.least fs
  pub more : List code.Bound
  pub behind : new.scope ≡ old.scope ++ more
  pub names : map (λ b. b.text.now) more ≡ map (λ p. p.name) ps
  pub grown : Extends (table old) (table new)
  pub local : IsLocal new

-- all binders but the first so many are left
abbrev pub left : Locals → ℕ → Locals
left l depth = record l { scope = take depth l.scope }

-- a body with binders of these types is scanned, with these faults
pub record Scans (old new : Locals) (ts : List TypeTree) (fs : List ScopeFault) : Type 0 where
  pub types : types_in new ≡ types_in old ++ ts
  pub faults : new.least ≡ least_of old.least fs
  pub grown : Extends (table old) (table new)
  pub local : IsLocal new

-- at the begin of a body no names are known
abbrev pub emptied : Locals → Locals
emptied l = record l { scope = []; ty_of = [] }

-- these faults were met, and the table may have grown
pub record Notes (old new : Locals) (fs : List ScopeFault) : Type 0 where
  pub faults : new.least ≡ least_of old.least fs
  pub grown : Extends (table old) (table new)
  pub local : IsLocal new
