use Rattle.std.proofs.Common.{◌≡◌, ◌∙◌, ◌<◌, map, length, min, sum_by, sym, ap, ap₂, subst}
use Rattle.std.specs.List.{AllByRecursion}
use Rattle.std.proofs.lemmas.List.{length-map}
use Rattle.cqp_syntax.specs.TypeTrees.{type_at}
use Rattle.cqp_program.specs.declared.tree.Tree.{Tree}
use Rattle.cqp_program.specs.Listing.{param}
use Rattle.cqp_expand.specs.declared.locals.Locals.{Locals}
use Rattle.cqp_expand.specs.Faults.{process_faults}
use Rattle.cqp_expand.specs.Members.{local_types}
use Rattle.cqp_expand.specs.Sizes.{IsKnown, member_count, AreSized}
use Rattle.cqp_expand.specs.Locals.{table, scope_in}
use Rattle.cqp_expand.specs.Outlines.{AreStarts, signatures}
use Rattle.cqp_expand.proofs.SizedOutlines.{are_sized}
use Rattle.cqp_expand.proofs.PartReads.{known_stays}
use Rattle.cqp_expand.proofs.Bodies.{local_emptied, below, members_below, known_below, types_below, notes_below}
use Rattle.cqp_expand.proofs.locals.Locals.outline.Goals as goal

pub params-requires-clause-local : goal.params-requires-clause-local
params-requires-clause-local c = local_emptied c.args.self.now c.empty.new.self c.empty.ensures c.requires.local

pub members-requires-clause-local : goal.members-requires-clause-local
members-requires-clause-local c =
    (c.in_ok-params.ensures.enters c.requires.params.0 c.requires.params.1).local

pub members-requires-clause-known : goal.members-requires-clause-known
members-requires-clause-known c =
    let ps = c.requires.params.0 in
    let ds = c.requires.known.0 in
    let b = below c.args.self.now c.empty.new.self c.params.new.self ps c.empty.ensures (c.in_ok-params.ensures.enters ps c.requires.params.1) in
    (ds, known_stays (table c.args.self.now) (table c.params.new.self) c.args.known.now ds b.grown c.requires.known.1)

pub outlined-requires-clause-known : goal.outlined-requires-clause-known
outlined-requires-clause-known c =
    let l = c.args.self.now in
    let m = c.params.new.self in
    let ps = c.requires.params.0 in
    let p = c.requires.tree.0 in
    let ds = c.requires.known.0 in
    let k = c.requires.known.1 in
    let b = below l c.empty.new.self m ps c.empty.ensures (c.in_ok-params.ensures.enters ps c.requires.params.1) in
    let now = known_stays (table l) (table m) c.args.known.now ds b.grown k in
    let members = c.in_ok-members.ensures.members p ds c.requires.tree.1 now in
    subst (λ front. AllByRecursion (IsKnown front) c.in_ok-members.members.items) (sym c.as_slice-front.ensures.value)
    (known_below l m ps c.args.known.now ds p c.in_ok-members.members.items k b members)

pub outlined-requires-clause-sized : goal.outlined-requires-clause-sized
outlined-requires-clause-sized c =
    subst AreSized (sym c.as_slice-front.ensures.value) (are_sized
    (table c.args.self.now) c.args.known.now.outlines.items c.requires.known.0 c.requires.known.1.outlines)

pub returns-clause-outline : goal.returns-clause-outline
returns-clause-outline c = λ ps p ds e f k.
    let l = c.args.self.now in
    let m = c.params.new.self in
    let n = c.members.new.self in
    let last = c.take_types-ty_of.new.self in
    let d = c.in_ok-outline.outline in
    let front = c.as_slice-front.ensures.value in
    let b = below l c.empty.new.self m ps c.empty.ensures (c.in_ok-params.ensures.enters ps e) in
    let now = known_stays (table l) (table m) c.args.known.now ds b.grown k in
    let scans = c.in_ok-members.ensures.scans p ds f now in
    let own = c.in_ok-outline.ensures in
    let same : table last ≡ table n = ap (λ (x : Locals). table x) c.take_types-ty_of.ensures.rest in
    let numbers : d.ty_of.items ≡ n.ty_of = own.types ∙ c.take_types-ty_of.ensures.types in
    record {
      members = own.members ∙ members_below l m ps (signatures ds) p c.in_ok-members.members.items b (c.in_ok-members.ensures.members p ds f now);
      at = own.at ∙ c.in_ok-at.ensures.items ∙ c.as_slice.ensures ∙ ap (λ (x : Tree). x.at) f;
      types = ap₂ (λ ts ns. map (type_at ts) ns) same numbers ∙ types_below l m n ps (local_types p) (process_faults (signatures ds) (scope_in m) p) b scans;
      numbered = subst (λ ts. AllByRecursion (λ x. x < length ts) d.ty_of.items) (sym same)
          (subst (AllByRecursion (λ x. x < length (table n))) (sym numbers) scans.local.typed);
      arity = own.arity ∙ ap length e ∙ length-map ps param;
      count = own.count ∙ ap₂ (λ ys xs. min (sum_by (member_count ys) xs) 20001) front (sym own.members);
      starts = λ small. subst (λ ys. AreStarts ys d) front (own.starts small);
    }

pub returns-clause-notes : goal.returns-clause-notes
returns-clause-notes c = λ ps p ds e f k.
    let l = c.args.self.now in
    let m = c.params.new.self in
    let n = c.members.new.self in
    let b = below l c.empty.new.self m ps c.empty.ensures (c.in_ok-params.ensures.enters ps e) in
    let now = known_stays (table l) (table m) c.args.known.now ds b.grown k in
    notes_below l m n c.take_types-ty_of.new.self ps (signatures ds) p _ b (c.in_ok-members.ensures.scans p ds f now) c.take_types-ty_of.ensures.rest
