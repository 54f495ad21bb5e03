-- What `expand` answers is right: the ends of the scan and of the copy.
use Rattle.std.proofs.Common.{◌≡◌, ℕ, ◌+◌, ◌-◌, ◌<◌, ◌≤◌, List, [], length, min, sum_by, slice_get, get_or, Some, None, refl, ap, sym, subst, ◌∙◌, arith}
use Rattle.std.proofs.lemmas.List.{length-map}
use Rattle.std.proofs.lemmas.Option.{slice_get-get_or}
use Rattle.std.specs.List.{range_with_len, list_all}
use Rattle.cqp_syntax.specs.declared.node.Node.{Node}
use Rattle.cqp_syntax.specs.declared.ty.Ty.{Ty}
use Rattle.cqp_syntax.specs.TypeTrees.{type_at}
use Rattle.cqp_syntax.specs.Binders.{binders_of}
use Rattle.cqp_syntax.specs.Listing.{Listing, IsListing, IsSound, breadth_of, has_operands}
use Rattle.cqp_syntax.proofs.Sizes.{length-process_nodes}
use Rattle.cqp_grammar.specs.Trees.{ProgramTree}
use Rattle.cqp_grammar.specs.CanonicalTrees.{IsPrintable}
use Rattle.cqp_expand.specs.declared.end.ExpandEnd.{ExpandEnd}
use Rattle.cqp_expand.specs.declared.fault.ScopeFault.{ScopeFault}
use Rattle.cqp_expand.specs.declared.fault.FaultKind.{FaultKind}
use Rattle.cqp_expand.specs.declared.fault.FaultKind.TheVariants as kind
use Rattle.cqp_expand.specs.declared.outline.Outline.{Outline}
use Rattle.cqp_expand.specs.declared.scan.Scanned.{Scanned}
use Rattle.cqp_expand.specs.Counts.{count_of}
use Rattle.cqp_expand.specs.Expansion.{Template, binder_count, expansion, templates_after}
use Rattle.cqp_expand.specs.Faults.{scope_faults}
use Rattle.cqp_expand.specs.Outlines.{AreBehind}
use Rattle.cqp_expand.specs.Scans.{IsScanned}
use Rattle.cqp_expand.specs.Copies.{IsSmall, IsCopyOf}
use Rattle.cqp_expand.specs.Tables.{IsTable}
use Rattle.cqp_expand.specs.Outcomes.{answer_at, answer_of, IsExpanded, IsFault, Ends}
use Rattle.cqp_expand.specs.Spread.{template_at}
use Rattle.cqp_expand.proofs.AllOutlines.{main_template, program_templates, program_known, length-outlines, length-templates_after}
use Rattle.cqp_expand.proofs.Faultless.{none_is_faultless}
use Rattle.cqp_expand.proofs.InOrder.{in_order}
use Rattle.cqp_expand.proofs.LeastFault.{found_least}
use Rattle.cqp_expand.proofs.Found.{template_last}
use Rattle.cqp_expand.proofs.Operands.{expansion_operands}
use Rattle.cqp_expand.proofs.Programs.{expansion_closed}
use Rattle.cqp_expand.proofs.Small.{same_some}

-- where no fault is kept there is none
pub faultless : (t : ProgramTree) (s : Scanned) → IsScanned t s → s.least ≡ None → scope_faults t ≡ []
faultless t s i e = none_is_faultless (scope_faults t) (sym i.fault ∙ e)

-- an answer for a fault is right where it is that of the least
kind_ends : (t : ProgramTree) (k : FaultKind) (n : ℕ) → IsFault t (answer_at k n) → Ends t (answer_at k n)
kind_ends t kind.Unbound n h = h
kind_ends t kind.UnknownDef n h = h
kind_ends t kind.Arity n h = h
kind_ends t kind.Twice n h = h
kind_ends t kind.ParamType n h = h

-- the answer for the fault that is kept is right
pub fault_ends : (t : ProgramTree) (s : Scanned) (f : ScopeFault) (e : ExpandEnd) → IsScanned t s → s.least ≡ Some f → e ≡ answer_of f → Ends t e
fault_ends t s f e i is same =
    subst (Ends t) (sym same) (kind_ends t f.kind f.at (f, found_least (scope_faults t) f (sym i.fault ∙ is), refl))

module _ (t : ProgramTree) (s : Scanned) (i : IsScanned t s) (e : s.least ≡ None) where
  -- the outlines
  abbrev outlines : List Outline
  outlines = s.outlines.items

  -- they are those of the program
  are : AreBehind s.types.types [] [] t.defs t.main outlines
  are = in_order s.types.types outlines t i.outlines

  -- there is an outline
  pub some_outlines : 1 ≤ length outlines
  some_outlines = let count = length-outlines s.types.types [] [] t.defs t.main outlines are in omega (arith, count)

  -- the last outline tells what the process counts as
  pub main_count : (def : ℕ) (d : Outline) → def + 1 ≡ length outlines → slice_get outlines def ≡ Some d → d.count ≡ min (count_of (expansion t)) 20001
  main_count def d h at =
      let k = program_known t s.types.types outlines (faultless t s i e) are def (omega (arith, h)) in
      let main = main_template (templates_after [] t.defs) t.main in
      let count = length-outlines s.types.types [] [] t.defs t.main outlines are in
      let templates = length-templates_after [] t.defs in
      let is_main : template_at (program_templates t) def
      ≡ Some main = template_last main (templates_after [] t.defs) def (omega (arith, h, count, templates)) in
      let same = same_some k.template main (sym k.at_template ∙ is_main) in
      let own = same_some k.outline d (sym k.at_outline ∙ at) in
      ap (λ (z : Outline). z.count) (sym own) ∙ k.sized.count ∙ ap (λ (z : Template). min (count_of z.body) 20001) same

  -- the same of the last of lists that are the outlines
  pub last_count : (xs : List Outline) (d : Outline) → xs ≡ outlines → (get_or xs (length xs - 1) d).count ≡ min (count_of (expansion t)) 20001
  last_count xs d g =
      let some = some_outlines in
      let longer = ap length g in
      main_count (length xs - 1) (get_or xs (length xs - 1) d) (omega (arith, some, longer)) (ap (λ z. slice_get z (length xs - 1)) (sym g)
      ∙ slice_get-get_or xs (length xs - 1) d (omega (arith, some, longer)))

  -- a process that is small enough has been scanned so
  pub is_small : count_of (expansion t) ≤ 20000 → IsSmall t s.types.types outlines
  is_small h = record { faultless = faultless t s i e; scanned = are; small = h }

module _ (t : ProgramTree) (types : List Ty) (nodes : List Node) (ty_of at : List ℕ) (faults : scope_faults t ≡ []) (c : IsCopyOf t types nodes ty_of at) where
  -- the lists that are answered
  abbrev lists : Listing
  lists = record { nodes = nodes; types = types; ty_of = ty_of; at = at }

  -- the lists are those of the process
  pub listed : IsListing lists (expansion t)
  listed =
      let closed = expansion_closed t faults in
      let count : binder_count (expansion t) ≡ length ty_of = sym (length-map (binders_of (expansion t)) (λ b. b.ty)) ∙ sym (ap length c.bound)
      ∙ length-map ty_of (type_at types) in
      record {
        nodes = c.listed;
        names = closed.numbered ∙ ap (range_with_len 0) count;
        types = sym c.bound;
        scoped = closed.scoped;
        placed = ap length c.offsets ∙ closed.placed ∙ sym (length-process_nodes 0 (expansion t)) ∙ sym (ap length c.listed);
      }

  -- they are small
  pub few : count_of (expansion t) ≤ 20000 → sum_by breadth_of nodes ≤ 20000
  few h = let is = ap (sum_by breadth_of) c.listed in omega (arith, h, is)

  -- they are sound
  pub sound : IsTable types → IsPrintable t → count_of (expansion t) ≤ 20000 → IsSound lists
  sound table printable small =
      let nodes_few = few small in
      record {
        operands = ap (list_all has_operands) c.listed ∙ expansion_operands t printable;
        parts_first = table.parts_first;
        typed = c.typed;
        one_number = table.one_number;
        few_types = table.few;
        few_nodes = omega (arith, nodes_few);
      }

  -- they are right
  pub expanded : count_of (expansion t) ≤ 20000 → IsExpanded t lists
  expanded small = record { faultless = faults; process = listed; offsets = c.offsets; small = few small }

-- the counts on both sides of the bound
pub small_count : (a b : ℕ) → a ≡ min b 20001 → a ≤ 20000 → b ≤ 20000
small_count a b e h = omega arith

-- above it
pub large_count : (a b : ℕ) → a ≡ min b 20001 → 20000 < a → 20000 < b
large_count a b e h = omega arith
