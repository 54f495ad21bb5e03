-- A body is scanned below its parameters: what its outline holds.
use Rattle.std.proofs.Common.{◌≡◌, List, [], ◌++◌, map, length, sym, ◌∙◌, ap, ap₂, subst, arith}
use Rattle.std.specs.List.{AllByRecursion}
use Rattle.std.proofs.lemmas.List.{length-map}
use Rattle.cqp_syntax.specs.TypeTrees.{TypeTree, type_at}
use Rattle.cqp_grammar.specs.Trees.{Parameter, ProcessTree, DefinitionTree}
use Rattle.cqp_expand.specs.declared.fault.ScopeFault.{ScopeFault}
use Rattle.cqp_expand.specs.declared.outline.Member.{Member}
use Rattle.cqp_expand.specs.declared.known.Known.{Known}
use Rattle.cqp_expand.specs.declared.locals.Locals.{Locals}
use Rattle.cqp_expand.specs.Scopes.{below_all}
use Rattle.cqp_expand.specs.Kept.{least_of}
use Rattle.cqp_expand.specs.Faults.{Signature, signature, repeats, process_faults}
use Rattle.cqp_expand.specs.Members.{texts_of, members_in}
use Rattle.cqp_expand.specs.Sizes.{IsKnown}
use Rattle.cqp_expand.specs.Tables.{Extends}
use Rattle.cqp_expand.specs.Locals.{table, scope_in, types_in, emptied, IsLocal, Enters, Scans, Notes}
use Rattle.cqp_expand.specs.Outlines.{signatures, names_of, AreKnown}
use Rattle.cqp_expand.proofs.Faultless.{least-append}
use Rattle.cqp_expand.proofs.Growing.{grows_twice}
use Rattle.cqp_expand.proofs.KnownDefs.{outlines_count}
use Rattle.cqp_expand.proofs.MembersKnown.{members_known}

-- at the begin of a body
pub local_emptied : (l m : Locals) → m ≡ emptied l → IsLocal l → IsLocal m
local_emptied l m is k = subst IsLocal (sym is) (record { is_table = k.is_table; bound = tt; typed = tt })

-- below the parameters
pub record Below (l m : Locals) (ps : List Parameter) : Type 0 where
  pub scope : scope_in m ≡ below_all [] 0 ps
  pub types : types_in m ≡ map (λ p. p.ty) ps
  pub count : length m.ty_of ≡ length ps
  pub faults : m.least ≡ least_of l.least (repeats [] ps)
  pub grown : Extends (table l) (table m)

-- it is what is known once the parameters are bound
pub below : (l start m : Locals) (ps : List Parameter) → start ≡ emptied l → Enters start m ps (repeats [] ps) → Below l m ps
below l start m ps is e0 =
    let e = subst (λ x. Enters x m ps (repeats [] ps)) is e0 in
    record {
      scope = e.scope;
      types = e.types;
      count = omega (arith, ap length e.types, length-map m.ty_of (type_at (table m)), length-map ps (λ p. p.ty));
      faults = e.faults;
      grown = e.grown;
    }

-- the members below the parameters
pub members_below : (l m : Locals) (ps : List Parameter) (ds : List Signature) (p : ProcessTree) (xs : List Member) → Below l m ps
    → xs ≡ members_in (texts_of ds) (scope_in m) (length m.ty_of) 0 p → xs ≡ members_in (texts_of ds) (below_all [] 0 ps) (length ps) 0 p
members_below l m ps ds p xs b e = e ∙ ap₂ (λ s n. members_in (texts_of ds) s n 0 p) b.scope b.count

-- the calls among them are known
pub known_below : (l m : Locals) (ps : List Parameter) (known : Known) (ds : List DefinitionTree) (p : ProcessTree) (xs : List Member)
    → AreKnown (table l) known ds → Below l m ps
    → xs ≡ members_in (names_of ds) (scope_in m) (length m.ty_of) 0 p → AllByRecursion (IsKnown known.outlines.items) xs
known_below l m ps known ds p xs k b e =
    let front = known.outlines.items in
    let count : length (names_of ds) ≡ length front = length-map (signatures ds) (λ (d : Signature). d.text) ∙ length-map ds signature
    ∙ sym (outlines_count (table l) front ds k.outlines) in
    subst (AllByRecursion (IsKnown front)) (sym (members_below l m ps (signatures ds) p xs b e)) (members_known front (names_of ds) count (below_all [] 0 ps)
    (length ps) 0 p)

-- the types of its names
pub types_below : (l m n : Locals) (ps : List Parameter) (ts : List TypeTree) (fs : List ScopeFault) → Below l m ps → Scans m n ts fs
    → types_in n ≡ map (λ p. p.ty) ps ++ ts
types_below l m n ps ts fs b s = s.types ∙ ap (λ xs. xs ++ ts) b.types

-- and its faults
pub notes_below : (l m n last : Locals) (ps : List Parameter) (ds : List Signature) (p : ProcessTree) (ts : List TypeTree) → Below l m ps
    → Scans m n ts (process_faults ds (scope_in m) p)
    → last ≡ record n { ty_of = [] } → Notes l last (repeats [] ps ++ process_faults ds (below_all [] 0 ps) p)
notes_below l m n last ps ds p ts b s is = subst (λ x. Notes l x (repeats [] ps ++ process_faults ds (below_all [] 0 ps) p)) (sym is) (record {
  faults = s.faults ∙ ap₂ (λ o c. least_of o (process_faults ds c p)) b.faults b.scope
      ∙ sym (least-append l.least (repeats [] ps) (process_faults ds (below_all [] 0 ps) p));
  grown = grows_twice (table l) (table m) (table n) b.grown s.grown;
  local = record { is_table = s.local.is_table; bound = s.local.bound; typed = tt };
})
