-- What is left of a body while it is scanned: the stack, the nodes, the members, the types and the
-- faults agree.
use Rattle.std.proofs.Common.{◌≡◌, ℕ, ◌+◌, ◌<◌, List, [], ◌∷◌, ◌++◌, map, length, take, replicate}
use Rattle.std.proofs.Common.{refl, sym, ◌∙◌, ap, ap₂, subst, append_assoc, append-nil}
use Rattle.std.proofs.Common.{length-append, arith}
use Rattle.std.proofs.lemmas.List.{length-map}
use Rattle.std.proofs.Math.Seq.{take-length}
use Rattle.cqp_syntax.specs.TypeTrees.{TypeTree, type_at}
use Rattle.cqp_grammar.specs.Trees.{ProcessTree}
use Rattle.cqp_program.specs.declared.tree.TreeNode.{TreeNode}
use Rattle.cqp_program.specs.Listing.{process_nodes, process_offsets}
use Rattle.cqp_expand.specs.declared.outline.Member.{Member}
use Rattle.cqp_expand.specs.declared.locals.Locals.{Locals}
use Rattle.cqp_expand.specs.Scopes.{below_all}
use Rattle.cqp_expand.specs.Kept.{least_of}
use Rattle.cqp_expand.specs.Faults.{Signature, process_faults}
use Rattle.cqp_expand.specs.Members.{local_types, texts_of, members_in}
use Rattle.cqp_expand.specs.Tables.{Extends}
use Rattle.cqp_expand.specs.Locals.{table, scope_of, scope_in, types_in, left, IsLocal, Enters}
use Rattle.cqp_expand.specs.Nodes.{part_count, member_of}
use Rattle.cqp_expand.proofs.Faultless.{least-append}
use Rattle.cqp_expand.proofs.Growing.{grows_none, grows_twice}
use Rattle.cqp_expand.proofs.KnownDefs.{all_take}
use Rattle.cqp_expand.proofs.Subtrees.{Subtree, process, root, offset_of, bound_at, own_faults}
use Rattle.cqp_expand.proofs.Kids.{Item, kids, left_nodes, left_offsets, left_types, left_faults, left_members}
use Rattle.cqp_expand.proofs.KidNodes.{count-kids}
use Rattle.cqp_expand.proofs.KidSteps.{behind, types_step, faults_step, members_step}
use Rattle.cqp_expand.proofs.Depths.{Stands, stands_under, stands_more}

-- these parts are left of the body: with them all is as it must be
pub record Left (ds : List Signature) (p : ProcessTree) (first : Locals) (depths : List ℕ) (nodes : List TreeNode) (offsets : List ℕ) (at : ℕ) (l : Locals)
    (members : List Member) : Type 0 where
  pub parts : List Item
  pub stack : Stands (table l) l.scope depths parts
  pub nodes_are : nodes ≡ left_nodes at parts
  pub offsets_are : offsets ≡ left_offsets parts
  pub members_are : members ++ left_members ds (length l.ty_of) at parts ≡ members_in (texts_of ds) (scope_in first) (length first.ty_of) 0 p
  pub types_are : types_in l ++ left_types parts ≡ types_in first ++ local_types p
  pub faults_are : least_of l.least (left_faults ds parts) ≡ least_of first.least (process_faults ds (scope_in first) p)
  pub grown : Extends (table first) (table l)
  pub local : IsLocal l

-- at first the body is left
pub left_first : (ds : List Signature) (p : ProcessTree) (first : Locals) → IsLocal first
    → Left ds p first (length first.scope ∷ []) (process_nodes 0 p) (process_offsets p) 0 first []
left_first ds p first k = record {
  parts = record { scope = scope_in first; part = process p } ∷ [];
  stack = ([], length first.scope, refl, omega arith, ap (scope_of (table first)) (sym (take-length first.scope)), refl);
  nodes_are = sym (append-nil (process_nodes 0 p));
  offsets_are = sym (append-nil (process_offsets p));
  members_are = append-nil (members_in (texts_of ds) (scope_in first) (length first.ty_of) 0 p);
  types_are = ap (λ ts. types_in first ++ ts) (append-nil (local_types p));
  faults_are = ap (least_of first.least) (append-nil (process_faults ds (scope_in first) p));
  grown = grows_none (table first);
  local = k;
}

-- fewer binders are known as all are
pub local_left : (l : Locals) (d : ℕ) → IsLocal l → IsLocal (left l d)
local_left l d k = record { is_table = k.is_table; bound = all_take (λ b. b.ty < length (table l)) d l.scope k.bound; typed = k.typed }

-- what of the part that is read is known, and what is left behind it
pub record PartRead (ds : List Signature) (p : ProcessTree) (first : Locals) (stack : List ℕ) (more : List TreeNode) (others : List ℕ) (at : ℕ) (l : Locals)
    (d : ℕ) (members : List Member) (node : TreeNode) (offset : ℕ) : Type 0 where
  pub part : Subtree
  pub node_is : node ≡ root (at + 1) part
  pub offset_is : offset ≡ offset_of part
  pub next : (new : Locals) (member : Member) → Enters (left l d) new (bound_at part) (own_faults ds (scope_in (left l d)) part)
      → member ≡ member_of ds (scope_in (left l d)) (length l.ty_of) (root (at + 1) part)
      → Left ds p first (stack ++ replicate (part_count (root (at + 1) part)) (length new.scope)) more others (at + 1) new (members ++ member ∷ [])

-- how many names there are
as_many : (l new : Locals) (d n : ℕ) (ts : List TypeTree) → types_in new ≡ types_in (left l d) ++ ts → length ts ≡ n → length new.ty_of ≡ length l.ty_of + n
as_many l new d n ts e count =
    omega (arith, ap length e, count, length-map new.ty_of (type_at (table new)), length-map l.ty_of (type_at (table l)), length-append (types_in l) ts)

-- the step at a part
pub step_at : (ds : List Signature) (p : ProcessTree) (first : Locals) (stack : List ℕ) (at : ℕ) (l : Locals) (d : ℕ) (members : List Member) (i : Item)
    (is : List Item)
    → i.scope ≡ scope_in (left l d) → Stands (table l) (take d l.scope) stack is
    → members ++ left_members ds (length l.ty_of) at (i ∷ is) ≡ members_in (texts_of ds) (scope_in first) (length first.ty_of) 0 p
    → types_in l ++ left_types (i ∷ is) ≡ types_in first ++ local_types p
    → least_of l.least (left_faults ds (i ∷ is)) ≡ least_of first.least (process_faults ds (scope_in first) p)
    → Extends (table first) (table l) → IsLocal l
    → (new : Locals) (member : Member) → Enters (left l d) new (bound_at i.part) (own_faults ds (scope_in (left l d)) i.part)
    → member ≡ member_of ds (scope_in (left l d)) (length l.ty_of) (root (at + 1) i.part)
    → Left ds p first (stack ++ replicate (part_count (root (at + 1) i.part)) (length new.scope)) (left_nodes (at + 1) (behind (length l.ty_of) i is))
    (left_offsets (behind (length l.ty_of) i is)) (at + 1) new (members ++ member ∷ [])
step_at ds p first stack at l d members i is scope under all_members types faults grown local new member e own =
    let n = length l.ty_of in
    let ps = bound_at i.part in
    let s = below_all i.scope n ps in
    let rest = behind n i is in
    let now : s ≡ scope_in new = ap (λ c. below_all c n ps) scope ∙ sym e.scope in
    let count = as_many l new d (length ps) (map (λ x. x.ty) ps) e.types (length-map ps (λ x. x.ty)) in
    let met : own_faults ds (scope_in (left l d)) i.part ≡ own_faults ds i.scope i.part = ap (λ c. own_faults ds c i.part) (sym scope) in
    let is_member : member ≡ member_of ds i.scope n (root (at + 1) i.part) = own ∙ ap (λ c. member_of ds c n (root (at + 1) i.part)) (sym scope) in
    record {
      parts = rest;
      stack = subst (λ k. Stands (table new) new.scope (stack ++ replicate k (length new.scope)) rest) (sym (count-kids (at + 1) i.part))
          (stands_more (table new) new.scope stack is s (kids i.part) now
          (stands_under (table l) (table new) (take d l.scope) new.scope e.more stack is e.grown (local_left l d local).bound e.behind under));
      nodes_are = refl;
      offsets_are = refl;
      members_are = ap₂ (λ x k. (members ++ x ∷ []) ++ left_members ds k (at + 1) rest) is_member count
          ∙ append_assoc members (member_of ds i.scope n (root (at + 1) i.part) ∷ []) (left_members ds (n + length ps) (at + 1) rest)
          ∙ ap (λ xs. members ++ xs) (sym (members_step ds n at i is)) ∙ all_members;
      types_are = ap (λ ts. ts ++ left_types rest) e.types ∙ append_assoc (types_in l) (map (λ x. x.ty) ps) (left_types rest)
          ∙ ap (λ ts. types_in l ++ ts) (sym (types_step n i is)) ∙ types;
      faults_are = ap (λ o. least_of o (left_faults ds rest)) (e.faults ∙ ap (least_of l.least) met)
          ∙ sym (least-append l.least (own_faults ds i.scope i.part) (left_faults ds rest))
          ∙ ap (least_of l.least) (sym (faults_step ds n i is)) ∙ faults;
      grown = grows_twice (table first) (table l) (table new) grown e.grown;
      local = e.local;
    }
