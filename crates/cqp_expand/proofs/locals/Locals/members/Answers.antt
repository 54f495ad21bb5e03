use Rattle.std.proofs.Common.{◌≡◌, ◌∙◌, ◌+◌, length, drop, get_or, sym, ap, subst, arith}
use Rattle.std.proofs.lemmas.List.{nil_from_length}
use Rattle.cqp_program.specs.declared.tree.Tree.{Tree}
use Rattle.cqp_expand.specs.declared.locals.Locals.{Locals}
use Rattle.cqp_expand.specs.Locals.{table, scope_in, IsLocal, Enters}
use Rattle.cqp_expand.specs.Nodes.{HasTypes, bound_by, member_of, member_faults}
use Rattle.cqp_expand.specs.Outlines.{signatures, AreKnown}
use Rattle.cqp_expand.proofs.Left.{left_first, local_left}
use Rattle.cqp_expand.proofs.PartReads.{reads, reads_none, types_of_read, next_read, pushes_read, known_stays}
use Rattle.cqp_expand.proofs.locals.Locals.members.Goals as goal

pub loop-depth-init : goal.loop-depth-init
loop-depth-init c = λ p ds e k.
    let nodes = c.as_slice-nodes.ensures ∙ ap (λ (x : Tree). x.nodes) e in
    let offsets = c.as_slice-offsets.ensures ∙ ap (λ (x : Tree). x.at) e in
    rw (c.in_ok-depths.ensures.items, c.depth.ensures, nodes, offsets, c.in_ok-members.ensures.items) (left_first
    (signatures ds) p c.args.self.now c.requires.local)

pub offset_bounds-nodes-at : goal.offset_bounds-nodes-at
offset_bounds-nodes-at c =
    let w = c.loop-depth.invariant c.requires.tree.0 c.requires.known.0 c.requires.tree.1 c.requires.known.1 in
    let r = reads _ _ _ _ _ _ c.as_slice-nodes.result.now c.as_slice-offsets.result.now c.loop-depth.at _ _ c.in-Some.ensures.items w in
    omega (arith, r.within)

pub bounds-nodes-at : goal.bounds-nodes-at
bounds-nodes-at c =
    let w = c.loop-depth.invariant c.requires.tree.0 c.requires.known.0 c.requires.tree.1 c.requires.known.1 in
    (reads _ _ _ _ _ _ c.as_slice-nodes.result.now c.as_slice-offsets.result.now c.loop-depth.at _ _ c.in-Some.ensures.items w).within

pub offset_bounds-offsets-at : goal.offset_bounds-offsets-at
offset_bounds-offsets-at c =
    let w = c.loop-depth.invariant c.requires.tree.0 c.requires.known.0 c.requires.tree.1 c.requires.known.1 in
    let r = reads _ _ _ _ _ _ c.as_slice-nodes.result.now c.as_slice-offsets.result.now c.loop-depth.at _ _ c.in-Some.ensures.items w in
    omega (arith, r.placed)

pub bounds-offsets-at : goal.bounds-offsets-at
bounds-offsets-at c =
    let w = c.loop-depth.invariant c.requires.tree.0 c.requires.known.0 c.requires.tree.1 c.requires.known.1 in
    (reads _ _ _ _ _ _ c.as_slice-nodes.result.now c.as_slice-offsets.result.now c.loop-depth.at _ _ c.in-Some.ensures.items w).placed

pub member-requires-clause-types : goal.member-requires-clause-types
member-requires-clause-types c =
    let w = c.loop-depth.invariant c.requires.tree.0 c.requires.known.0 c.requires.tree.1 c.requires.known.1 in
    let r = reads _ _ _ _ _ _ c.as_slice-nodes.result.now c.as_slice-offsets.result.now c.loop-depth.at _ _ c.in-Some.ensures.items w in
    types_of_read _ _ _ _ _ _ _ _ _ _ _ _ (r.read c.index-nodes-at.result c.index-nodes-at.is)

pub member-requires-clause-local : goal.member-requires-clause-local
member-requires-clause-local c =
    let w = c.loop-depth.invariant c.requires.tree.0 c.requires.known.0 c.requires.tree.1 c.requires.known.1 in
    subst IsLocal (sym c.leave.ensures) (local_left c.loop-depth.self c.in-Some.depth w.local)

pub member-requires-clause-known : goal.member-requires-clause-known
member-requires-clause-known c =
    let ds = c.requires.known.0 in
    let k = c.requires.known.1 in
    let w = c.loop-depth.invariant c.requires.tree.0 ds c.requires.tree.1 k in
    let now = known_stays (table c.args.self.now) (table c.loop-depth.self) c.args.known.now ds w.grown k in
    (ds, subst (λ (l : Locals). AreKnown (table l) c.args.known.now ds) (sym c.leave.ensures) now)

pub overflow_add-at : goal.overflow_add-at
overflow_add-at c =
    let w = c.loop-depth.invariant c.requires.tree.0 c.requires.known.0 c.requires.tree.1 c.requires.known.1 in
    let r = reads _ _ _ _ _ _ c.as_slice-nodes.result.now c.as_slice-offsets.result.now c.loop-depth.at _ _ c.in-Some.ensures.items w in
    omega (arith, r.within)

pub loop-depth-smaller : goal.loop-depth-smaller
loop-depth-smaller c =
    let w = c.loop-depth.invariant c.requires.tree.0 c.requires.known.0 c.requires.tree.1 c.requires.known.1 in
    let r = reads _ _ _ _ _ _ c.as_slice-nodes.result.now c.as_slice-offsets.result.now c.loop-depth.at _ _ c.in-Some.ensures.items w in
    let fewer = pushes_read c.pop.new.self.items c.push_depths.new.depths.items c.as_slice-nodes.result.now c.loop-depth.at c.depth-in-Some.result
    c.index-nodes-at.result r.within c.index-nodes-at.is c.in_ok-push_depths.ensures in
    omega (arith, fewer, c.in-Some.ensures.len, c.push_depths.new.depths.ok.0, c.pop.new.self.ok.0)

pub loop-depth-preserved : goal.loop-depth-preserved
loop-depth-preserved c = λ p ds e k.
    let sigs = signatures ds in
    let nodes = c.as_slice-nodes.result.now in
    let offsets = c.as_slice-offsets.result.now in
    let node = c.index-nodes-at.result in
    let at = c.loop-depth.at in
    let l = c.loop-depth.self in
    let d = c.in-Some.depth in
    let new = c.member.new.self in
    let offset = get_or offsets at 0 in
    let w = c.loop-depth.invariant p ds e k in
    let r = reads sigs p c.args.self.now _ _ _ nodes offsets at l _ c.in-Some.ensures.items w in
    let now = known_stays (table c.args.self.now) (table l) c.args.known.now ds w.grown k in
    let known = subst (λ (m : Locals). AreKnown (table m) c.args.known.now ds) (sym c.leave.ensures) now in
    let enters = subst (λ (m : Locals). (h : HasTypes node) → Enters m new (bound_by node h.ty h.params) (member_faults sigs
    (scope_in m) offset node h.params)) c.leave.ensures
    (λ h. c.in_ok-member.ensures.enters h ds known) in
    let member = subst (λ (m : Locals). c.in_ok-member.field-0 ≡ member_of sigs (scope_in m) (length m.ty_of) node) c.leave.ensures
    (c.in_ok-member.ensures.member ds known) in
    let next = next_read sigs p c.args.self.now c.pop.new.self.items (drop (at + 1) nodes) (drop
    (at + 1) offsets) at l d c.loop-depth.members.items node offset new c.in_ok-member.field-0
    (r.read node c.index-nodes-at.is) enters member in
    rw (c.in_ok-push_depths.ensures, c.depth-in-Some.ensures, c.in_ok-push.ensures.items) next

pub returns-clause-members : goal.returns-clause-members
returns-clause-members c = λ p ds e k.
    let none : length c.loop-depth.depths.items ≡ 0 = omega (arith, c.in_default.ensures.cases.0, c.loop-depth.depths.ok.0) in
    (reads_none _ _ _ _ _ _ _ _ _ (nil_from_length _ none) (c.loop-depth.invariant p ds e k)).0

pub returns-clause-scans : goal.returns-clause-scans
returns-clause-scans c = λ p ds e k.
    let none : length c.loop-depth.depths.items ≡ 0 = omega (arith, c.in_default.ensures.cases.0, c.loop-depth.depths.ok.0) in
    (reads_none _ _ _ _ _ _ _ _ _ (nil_from_length _ none) (c.loop-depth.invariant p ds e k)).1
