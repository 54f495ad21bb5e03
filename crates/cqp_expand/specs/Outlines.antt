-- Outlines of definitions: what the scan leaves of a body for the copy. Of definitions the last one
-- stands first, of outlines it stands last. No public clause cites this module.
use Rattle.std.specs.Prelude.{◌≡◌, ℕ, ◌+◌, ◌<◌, ◌≤◌, List, [], ◌∷◌, ◌++◌, map, length, min, sum_by}
use Rattle.std.specs.Prelude.{take, bytes_eq, slice_index}
use Rattle.std.specs.Borrow.{Bor}
use Rattle.std.specs.List.{AllByRecursion}
use Rattle.indexmap.specs.IndexMap.{get_by}
use Rattle.cqp_syntax.specs.declared.ty.Ty.{Ty}
use Rattle.cqp_syntax.specs.TypeTrees.{TypeTree, type_at}
use Rattle.cqp_grammar.specs.Trees.{Parameter, ProcessTree, DefinitionTree}
use Rattle.cqp_program.specs.Listing.{process_offsets}
use Rattle.cqp_expand.specs.declared.outline.Outline.{Outline}
use Rattle.cqp_expand.specs.declared.def_names.DefNames.{DefNames}
use Rattle.cqp_expand.specs.declared.known.Known.{Known}
use Rattle.cqp_expand.specs.Scopes.{below_all}
use Rattle.cqp_expand.specs.Faults.{Signature, signature}
use Rattle.cqp_expand.specs.Members.{local_types, def_of, texts_of, members_in}
use Rattle.cqp_expand.specs.Sizes.{member_count, member_length}

-- the number of each name is that of its last definition; the last name stands first
abbrev pub IsNaming : DefNames → List (List ℕ) → Type 0
IsNaming known names = (x : Bor (List ℕ)) → get_by
    (λ k. bytes_eq x.now k.now) known.numbers ≡ def_of names x.now

-- the outline's parameters have these types
pub record HasParams (all : List Ty) (d : Outline) (ts : List TypeTree) : Type 0 where
  pub arity : d.arity ≡ length ts
  pub within : d.arity ≤ length d.ty_of.items
  pub numbered : AllByRecursion (λ n. n < length all) (take d.arity d.ty_of.items)
  pub types : map (type_at all) (take d.arity d.ty_of.items) ≡ ts

-- how many nodes stand before each member, and behind the last
pub record AreStarts (front : List Outline) (d : Outline) : Type 0 where
  pub count : length d.starts.items ≡ length d.members.items + 1
  pub starts : (k : ℕ) → k ≤ length d.members.items
      → slice_index d.starts.items k ≡ sum_by (member_length front) (take k d.members.items)

-- the outline of a body below these parameters, behind definitions with these outlines and names
pub record IsOutline (all : List Ty) (front : List Outline) (names : List (List ℕ))
    (ps : List Parameter) (p : ProcessTree) (d : Outline) : Type 0 where
  pub members : d.members.items ≡ members_in names (below_all [] 0 ps) (length ps) 0 p
  pub at : d.at.items ≡ process_offsets p
  pub types : map (type_at all) d.ty_of.items ≡ map (λ x. x.ty) ps ++ local_types p
  pub numbered : AllByRecursion (λ n. n < length all) d.ty_of.items
  pub arity : d.arity ≡ length ps
  pub count : d.count ≡ min (sum_by (member_count front) d.members.items) 20001
  pub starts : d.count ≤ 20000 → AreStarts front d

-- what calls know of definitions
abbrev pub signatures : List DefinitionTree → List Signature
signatures ds = map signature ds

-- and by what they find them
abbrev pub names_of : List DefinitionTree → List (List ℕ)
names_of ds = texts_of (signatures ds)

-- the outlines are those of the definitions
abbrev pub AreOutlines : List Ty → List Outline → List DefinitionTree → Type 0
AreOutlines types outlines [] = outlines ≡ []
AreOutlines types outlines (d ∷ ds) = (front : List Outline) × (last : Outline)
    × (outlines ≡ front ++ last ∷ [])
    × IsOutline types front (names_of ds) d.params d.body last × AreOutlines types front ds

-- the definitions so far are these
pub record AreKnown (types : List Ty) (known : Known) (ds : List DefinitionTree) : Type 0 where
  pub names : IsNaming known.names (names_of ds)
  pub outlines : AreOutlines types known.outlines.items ds

-- the main process as a definition without a name
abbrev pub main_def : ProcessTree → DefinitionTree
main_def p = record { name = []; at = 0; params = []; body = p }

-- definitions behind others, the last one first
abbrev pub defs_after : List DefinitionTree → List DefinitionTree → List DefinitionTree
defs_after done [] = done
defs_after done (d ∷ ds) = defs_after (d ∷ done) ds

-- the outlines in order are those of the definitions and of the main process, behind others
abbrev pub AreBehind : List Ty → List Outline → List (List ℕ) → List DefinitionTree → ProcessTree
    → List Outline → Type 0
AreBehind types front names [] main (d ∷ []) = IsOutline types front names [] main d
AreBehind types front names (x ∷ xs) main (d ∷ ds) =
    IsOutline types front names x.params x.body d
    × AreBehind types (front ++ d ∷ []) (x.name ∷ names) xs main ds
AreBehind types front names xs main ds = ⊥
