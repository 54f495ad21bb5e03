-- Laws of expansion: where a program has no fault, it stands for a closed process whose binders are
-- numbered from 0 in preorder, and each of whose nodes has an offset.
use Rattle.std.proofs.Common.{◌≡◌, List, [], ◌∷◌, length, refl, sym, ◌∙◌}
use Rattle.std.proofs.lemmas.List.{length-map}
use Rattle.std.specs.List.{range_with_len}
use Rattle.cqp_syntax.specs.Listing.{Listing}
use Rattle.cqp_grammar.specs.Trees.{DefinitionTree, ProcessTree, ProgramTree}
use Rattle.cqp_expand.specs.Scopes.{below_all}
use Rattle.cqp_expand.specs.Closed.{IsClosed, IsSame}
use Rattle.cqp_expand.specs.Outcomes.{IsExpanded}
use Rattle.cqp_expand.specs.Expansion.{Template, template, templates_after, process_in, offsets_in, expansion, expansion_offsets}
use Rattle.cqp_expand.specs.Faults.{Signature, signature, repeats, definition_faults, program_faults, scope_faults}
use Rattle.cqp_expand.proofs.Subsets.{process_within}
use Rattle.cqp_expand.proofs.Templates.{IsTemplate, AreTemplates, empty_parts}
use Rattle.cqp_expand.proofs.Numbering.{process_from}
use Rattle.cqp_expand.proofs.Closing.{alike_below, names_in, process_closed, nothing_behind}
use Rattle.cqp_expand.proofs.Placing.{process_placed}

-- the template of a definition without faults
pub template_right : (ts : List Template) (ds : List Signature) (d : DefinitionTree) → AreTemplates ts ds → definition_faults ds d ≡ []
    → IsTemplate (template ts d)
template_right ts ds d a h =
    let inner = (empty_parts (repeats [] d.params) _ (empty_parts _ _ h).1).1 in
    let s = below_all [] 0 d.params in
    record {
      numbered = process_from ts ds s s (length d.params) d.body a inner;
      scoped = process_within (names_in s) (range_with_len 0 (length d.params)) (process_in ts s (length d.params) d.body)
          (nothing_behind 0 d.params) (process_closed ts ds s s (length d.params) d.body a (alike_below [] [] 0 0 d.params tt) inner);
      placed = process_placed ts ds s s (length d.params) d.body a inner;
    }

-- the process of definitions and a main process without faults
program_closed : (ts : List Template) (ds : List Signature) (defs : List DefinitionTree) (main : ProcessTree) → AreTemplates ts ds
    → program_faults ds defs main ≡ []
    → IsClosed (process_in (templates_after ts defs) [] 0 main) (offsets_in (templates_after ts defs) main)
program_closed ts ds [] main a h = record {
  numbered = process_from ts ds [] [] 0 main a h;
  scoped = process_closed ts ds [] [] 0 main a tt h;
  placed = process_placed ts ds [] [] 0 main a h;
}
program_closed ts ds (d ∷ defs) main a h =
    let parts = empty_parts (definition_faults ds d) _ h in
    program_closed (template ts d ∷ ts) (signature d ∷ ds) defs main (refl, sym (length-map d.params (λ p. p.ty)), template_right ts ds d a parts.0, a) parts.1

-- existence: a program without faults stands for a closed process, numbered in preorder
pub expansion_closed : (t : ProgramTree) → scope_faults t ≡ [] → IsClosed (expansion t) (expansion_offsets t)
expansion_closed t h = program_closed [] [] t.defs t.main tt h

-- uniqueness: two listings of a program's process differ in the numbers of types alone
pub same_listing : (t : ProgramTree) (k l : Listing) → IsExpanded t k → IsExpanded t l → IsSame k l
same_listing t k l i j = record {
  nodes = i.process.nodes ∙ sym j.process.nodes;
  types = sym i.process.types ∙ j.process.types;
  offsets = i.offsets ∙ sym j.offsets;
}
