-- A part of a body is taken from the stack and its node is read.
use Rattle.std.proofs.Common.{◌≡◌, ℕ, ◌+◌, ◌<◌, List, [], ◌∷◌, ◌++◌, length, take, drop, get_or}
use Rattle.std.proofs.Common.{replicate, refl, sym, ◌∙◌, ap, subst, append-nil, length-append}
use Rattle.std.proofs.Common.{length-drop, arith}
use Rattle.std.proofs.lemmas.List.{same_from_push, length_push, drop_more, at_drop_more, length-replicate}
use Rattle.cqp_grammar.specs.Trees.{DefinitionTree, ProcessTree}
use Rattle.cqp_syntax.specs.declared.ty.Ty.{Ty}
use Rattle.cqp_program.specs.declared.tree.TreeNode.{TreeNode}
use Rattle.cqp_expand.specs.declared.outline.Outline.{Outline}
use Rattle.cqp_expand.specs.declared.outline.Member.{Member}
use Rattle.cqp_expand.specs.declared.known.Known.{Known}
use Rattle.cqp_expand.specs.declared.locals.Locals.{Locals}
use Rattle.cqp_expand.specs.Kept.{least_of}
use Rattle.cqp_expand.specs.Faults.{Signature, process_faults}
use Rattle.cqp_expand.specs.Members.{local_types, texts_of, members_in}
use Rattle.cqp_expand.specs.Tables.{Extends}
use Rattle.cqp_expand.specs.Locals.{table, scope_of, scope_in, types_in, left, Enters, Scans}
use Rattle.cqp_expand.specs.Nodes.{HasTypes, bound_by, part_count, member_of, member_faults}
use Rattle.cqp_expand.specs.Outlines.{IsOutline, names_of, AreOutlines, AreKnown}
use Rattle.cqp_expand.proofs.Growing.{types_stay, numbers_stay}
use Rattle.cqp_expand.proofs.Subtrees.{root, offset_of, ty_of, params_of, bound_at, own_faults, types-root, bound-root, faults-root}
use Rattle.cqp_expand.proofs.Kids.{Item, left_nodes, left_offsets, left_types, left_faults, left_members}
use Rattle.cqp_expand.proofs.KidSteps.{behind, nodes_step, offsets_step}
use Rattle.cqp_expand.proofs.Depths.{Stands}
use Rattle.cqp_expand.proofs.Left.{Left, PartRead, step_at}

-- a part stands on top
record Top (ds : List Signature) (p : ProcessTree) (first : Locals) (stack : List ℕ) (nodes : List TreeNode) (offsets : List ℕ) (at : ℕ) (l : Locals) (d : ℕ)
    (members : List Member) : Type 0 where
  node : TreeNode
  more : List TreeNode
  nodes_are : nodes ≡ node ∷ more
  offset : ℕ
  others : List ℕ
  offsets_are : offsets ≡ offset ∷ others
  read : PartRead ds p first stack more others at l d members node offset

-- the part on top is the first that is left
top_at : (ds : List Signature) (p : ProcessTree) (first : Locals) (all stack : List ℕ) (top : ℕ) (nodes : List TreeNode) (offsets : List ℕ) (at : ℕ)
    (l : Locals) (members : List Member) (parts : List Item)
    → (w : Left ds p first all nodes offsets at l members) → w.parts ≡ parts → all ≡ stack ++ top ∷ [] → Stands (table l) l.scope all parts
    → Top ds p first stack nodes offsets at l top members
top_at ds p first all stack top nodes offsets at l members [] w same e s = absurd (omega (arith, length_push stack top, ap length e, ap length s))
top_at ds p first all stack top nodes offsets at l members (i ∷ is) w same e s =
    let popped = same_from_push s.0 stack s.1 top (sym s.2 ∙ e) in
    let depth : s.1 ≡ top = popped.1 in
    let n = length l.ty_of in
    let scope : i.scope ≡ scope_in (left l top) = s.4 ∙ ap (λ d. scope_of (table l) (take d l.scope)) depth in
    let under : Stands (table l) (take top l.scope) stack is = subst (λ ds. Stands (table l) (take top l.scope) ds is) popped.0 (subst (λ d. Stands (table l)
    (take d l.scope) s.0 is) depth s.5) in
    record {
      node = root (at + 1) i.part;
      more = left_nodes (at + 1) (behind n i is);
      nodes_are = w.nodes_are ∙ ap (left_nodes at) same ∙ nodes_step n at i is;
      offset = offset_of i.part;
      others = left_offsets (behind n i is);
      offsets_are = w.offsets_are ∙ ap left_offsets same ∙ offsets_step n i is;
      read = record {
        part = i.part;
        node_is = refl;
        offset_is = refl;
        next = step_at ds p first stack at l top members i is scope under
            (ap (λ xs. members ++ left_members ds n at xs) (sym same) ∙ w.members_are)
            (ap (λ xs. types_in l ++ left_types xs) (sym same) ∙ w.types_are)
            (ap (λ xs. least_of l.least (left_faults ds xs)) (sym same) ∙ w.faults_are) w.grown w.local;
      };
    }

-- a part whose node is read, and what is left behind it
pub record Reads (ds : List Signature) (p : ProcessTree) (first : Locals) (stack : List ℕ) (nodes : List TreeNode) (offsets : List ℕ) (at : ℕ) (l : Locals)
    (d : ℕ) (members : List Member) : Type 0 where
  pub within : at < length nodes
  pub placed : at < length offsets
  pub read : (node : TreeNode) → node ≡ get_or nodes at node → PartRead ds p first stack (drop (at + 1) nodes) (drop (at + 1) offsets) at l d members node
      (get_or offsets at 0)

-- the node that is read is the part's
read_at : (ds : List Signature) (p : ProcessTree) (first : Locals) (stack : List ℕ) (nodes : List TreeNode) (offsets : List ℕ) (at : ℕ) (l : Locals) (d : ℕ)
    (members : List Member)
    → at < length nodes → at < length offsets → Top ds p first stack (drop at nodes) (drop at offsets) at l d members
    → (node : TreeNode) → node ≡ get_or nodes at node → PartRead ds p first stack (drop (at + 1) nodes) (drop (at + 1) offsets) at l d members node
    (get_or offsets at 0)
read_at ds p first stack nodes offsets at l d members h g t node is =
    let both = sym t.nodes_are ∙ drop_more nodes at node h in
    let one : t.node ≡ node = cc (both, is) in
    let rest : t.more ≡ drop (at + 1) nodes = cc both in
    let pair = sym t.offsets_are ∙ drop_more offsets at 0 g in
    let offset : t.offset ≡ get_or offsets at 0 = cc pair in
    let others : t.others ≡ drop (at + 1) offsets = cc pair in
    subst (λ x. PartRead ds p first stack (drop (at + 1) nodes) (drop (at + 1) offsets) at l d members node x) offset
    (subst (λ x. PartRead ds p first stack (drop (at + 1) nodes) (drop (at + 1) offsets) at l d members x t.offset) one
    (subst (λ x. PartRead ds p first stack (drop (at + 1) nodes) x at l d members t.node t.offset) others
    (subst (λ x. PartRead ds p first stack x t.others at l d members t.node t.offset) rest t.read)))

-- what is known where a part is taken from the stack
pub reads : (ds : List Signature) (p : ProcessTree) (first : Locals) (all stack : List ℕ) (top : ℕ) (nodes : List TreeNode) (offsets : List ℕ) (at : ℕ)
    (l : Locals) (members : List Member)
    → all ≡ stack ++ top ∷ [] → Left ds p first all (drop at nodes) (drop at offsets) at l members → Reads ds p first stack nodes offsets at l top members
reads ds p first all stack top nodes offsets at l members popped w =
    let t = top_at ds p first all stack top (drop at nodes) (drop at offsets) at l members w.parts w refl popped w.stack in
    let h : at < length nodes = omega (arith, ap length t.nodes_are, length-drop at nodes) in
    let g : at < length offsets = omega (arith, ap length t.offsets_are, length-drop at offsets) in
    record { within = h; placed = g; read = read_at ds p first stack nodes offsets at l top members h g t }

-- its types are those of a tree
pub types_of_read : (ds : List Signature) (p : ProcessTree) (first : Locals) (stack : List ℕ) (more : List TreeNode) (others : List ℕ) (at : ℕ) (l : Locals)
    (d : ℕ) (members : List Member) (node : TreeNode) (offset : ℕ)
    → PartRead ds p first stack more others at l d members node offset → HasTypes node
types_of_read ds p first stack more others at l d members node offset r =
    subst HasTypes (sym r.node_is) (record { ty = ty_of r.part; params = params_of r.part; are = types-root (at + 1) r.part })

-- what the node binds and its faults are the part's, so the rest is left
pub next_read : (ds : List Signature) (p : ProcessTree) (first : Locals) (stack : List ℕ) (more : List TreeNode) (others : List ℕ) (at : ℕ) (l : Locals)
    (d : ℕ) (members : List Member) (node : TreeNode) (offset : ℕ) (new : Locals) (member : Member)
    → PartRead ds p first stack more others at l d members node offset
    → ((h : HasTypes node) → Enters (left l d) new (bound_by node h.ty h.params) (member_faults ds (scope_in (left l d)) offset node h.params))
    → member ≡ member_of ds (scope_in (left l d)) (length l.ty_of) node
    → Left ds p first (stack ++ replicate (part_count node) (length new.scope)) more others (at + 1) new (members ++ member ∷ [])
next_read ds p first stack more others at l d members node offset new member r enters own =
    let s = scope_in (left l d) in
    let whole = root (at + 1) r.part in
    let h : HasTypes whole = record { ty = ty_of r.part; params = params_of r.part; are = types-root (at + 1) r.part } in
    let there = subst (λ x. (k : HasTypes x) → Enters (left l d) new (bound_by x k.ty k.params) (member_faults ds s offset x k.params)) r.node_is enters in
    let faults : member_faults ds s offset whole (params_of r.part) ≡ own_faults ds s r.part =
    ap (λ o. member_faults ds s o whole (params_of r.part)) r.offset_is ∙ faults-root ds s (at + 1) r.part in
    let e = subst (λ fs. Enters (left l d) new (bound_at r.part) fs) faults
    (subst (λ ps. Enters (left l d) new ps (member_faults ds s offset whole (params_of r.part))) (bound-root (at + 1) r.part) (there h)) in
    subst (λ x. Left ds p first (stack ++ replicate (part_count x) (length new.scope)) more others (at + 1) new (members ++ member ∷ [])) (sym r.node_is)
    (r.next new member e (own ∙ ap (member_of ds s (length l.ty_of)) r.node_is))

-- where no part is left
none_at : (ds : List Signature) (p : ProcessTree) (first : Locals) (nodes : List TreeNode) (offsets : List ℕ) (at : ℕ) (l : Locals) (members : List Member)
    (parts : List Item)
    → (w : Left ds p first [] nodes offsets at l members) → w.parts ≡ parts → Stands (table l) l.scope [] parts
    → (members ≡ members_in (texts_of ds) (scope_in first) (length first.ty_of) 0 p) × Scans first l (local_types p) (process_faults ds (scope_in first) p)
none_at ds p first nodes offsets at l members (i ∷ is) w same s = absurd (omega (arith, length_push s.0 s.1, ap length s.2))
none_at ds p first nodes offsets at l members [] w same s = (
  sym (append-nil members) ∙ ap (λ xs. members ++ left_members ds (length l.ty_of) at xs) (sym same) ∙ w.members_are,
  record {
    types = sym (append-nil (types_in l)) ∙ ap (λ xs. types_in l ++ left_types xs) (sym same) ∙ w.types_are;
    faults = ap (λ xs. least_of l.least (left_faults ds xs)) (sym same) ∙ w.faults_are;
    grown = w.grown;
    local = w.local;
  },
)

-- with nothing left the body is scanned
pub reads_none : (ds : List Signature) (p : ProcessTree) (first : Locals) (stack : List ℕ) (nodes : List TreeNode) (offsets : List ℕ) (at : ℕ) (l : Locals)
    (members : List Member)
    → stack ≡ [] → Left ds p first stack nodes offsets at l members
    → (members ≡ members_in (texts_of ds) (scope_in first) (length first.ty_of) 0 p) × Scans first l (local_types p) (process_faults ds (scope_in first) p)
reads_none ds p first stack nodes offsets at l members none w =
    let v = subst (λ x. Left ds p first x nodes offsets at l members) none w in
    none_at ds p first nodes offsets at l members v.parts v refl v.stack

-- how much is pushed at most for the nodes that are left
abbrev pub pushes : List TreeNode → ℕ
pushes [] = 0
pushes (t ∷ ts) = part_count t + pushes ts

-- with a node that is read less is left to push
pub pushes_read : (stack new : List ℕ) (nodes : List TreeNode) (at d : ℕ) (read : TreeNode) → at < length nodes → read ≡ get_or nodes at read
    → new ≡ stack ++ replicate (part_count read) d → pushes (drop (at + 1) nodes) + length new ≡ pushes (drop at nodes) + length stack
pushes_read stack new nodes at d read h is e =
    let fewer = at_drop_more pushes nodes at read h ∙ ap (λ q. part_count q + pushes (drop (at + 1) nodes)) (sym is) in
    omega (arith, fewer, ap length e, length-append stack (replicate (part_count read) d), length-replicate (part_count read) d)

-- outlines are those of the definitions in a table that grew
outline_stays : (a b : List Ty) (front : List Outline) (d : DefinitionTree) (ds : List DefinitionTree) (x : Outline) → Extends a b
    → IsOutline a front (names_of ds) d.params d.body x
    → IsOutline b front (names_of ds) d.params d.body x
outline_stays a b front d ds x g i = record {
  members = i.members;
  at = i.at;
  types = types_stay a b g x.ty_of.items i.numbered ∙ i.types;
  numbered = numbers_stay a b g x.ty_of.items i.numbered;
  arity = i.arity;
  count = i.count;
  starts = i.starts;
}

-- of all definitions
pub outlines_stay : (a b : List Ty) (outlines : List Outline) (ds : List DefinitionTree) → Extends a b → AreOutlines a outlines ds → AreOutlines b outlines ds
outlines_stay a b outlines [] g k = k
outlines_stay a b outlines (d ∷ ds) g k = (k.0, k.1, k.2, outline_stays a b k.0 d ds k.1 g k.3, outlines_stay a b k.0 ds g k.4)

-- and what is known of them
pub known_stays : (a b : List Ty) (known : Known) (ds : List DefinitionTree) → Extends a b → AreKnown a known ds → AreKnown b known ds
known_stays a b known ds g k = record { names = k.names; outlines = outlines_stay a b known.outlines.items ds g k.outlines }
