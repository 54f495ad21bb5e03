-- What a node binds and its faults, by the node's kind.
use Rattle.std.proofs.Common.{◌≡◌, ℕ, List, [], refl, sym, subst, Ok, Err}
use Rattle.std.specs.Prelude.{Result, OnOk}
use Rattle.cqp_program.specs.declared.program.Occ.{Occ}
use Rattle.cqp_program.specs.declared.program.Param.{Param}
use Rattle.cqp_program.specs.declared.program.TyTree.{TyTree}
use Rattle.cqp_program.specs.declared.tree.TreeNode.{TreeNode}
use Rattle.cqp_program.specs.declared.tree.TreeNode.TheVariants as tree
use Rattle.cqp_expand.specs.declared.fault.ScopeFault.{ScopeFault}
use Rattle.cqp_expand.specs.declared.locals.Locals.{Locals}
use Rattle.cqp_expand.specs.declared.outline.Member.TheVariants.{Own}
use Rattle.cqp_grammar.specs.Trees.{Parameter}
use Rattle.cqp_expand.specs.Scopes.{Scope}
use Rattle.cqp_expand.specs.Faults.{Signature}
use Rattle.cqp_expand.specs.Locals.{scope_in, after, IsLocal, Enters}
use Rattle.cqp_expand.specs.Nodes.{HasTypes, bound_by, plain, node_in, node_faults, member_of, member_faults}
use Rattle.cqp_expand.proofs.Entering.{enters_none}

-- what follows from a fact on success
pub on_ok : {T E : Type 0} (r : Result T E) (P Q : Type 0) → (P → Q) → OnOk r P → OnOk r Q
on_ok (Ok x) P Q f p = f p
on_ok (Err e) P Q f p = p

-- a node, with whichever types, is entered
abbrev pub NodeEnters : Locals → Locals → ℕ → TreeNode → Type 0
NodeEnters l new at x = (h : HasTypes x) → Enters l new (bound_by x h.ty h.params) (node_faults (scope_in l) at x h.params)

-- the same, by an equation
pub enters_at : (l new : Locals) (at : ℕ) (x y : TreeNode) → x ≡ y → NodeEnters l new at y → NodeEnters l new at x
enters_at l new at x y is f = subst (NodeEnters l new at) (sym is) f

-- faults alone
pub enters_faults : (l new : Locals) (fs : List ScopeFault) → IsLocal l → new ≡ after l fs → Enters l new [] fs
enters_faults l new fs k is = subst (λ m. Enters l m [] fs) (sym is) (enters_none l fs k)

-- a node that neither binds nor names anything, or a call
abbrev pub IsPlain : TreeNode → Type 0
IsPlain (tree.New x ty body) = ⊥
IsPlain (tree.Qbit x body) = ⊥
IsPlain (tree.In c ps body) = ⊥
IsPlain (tree.Out c es body) = ⊥
IsPlain (tree.Name x) = ⊥
IsPlain (tree.Apply xs e) = ⊥
IsPlain (tree.Measure xs) = ⊥
IsPlain other = Unit {0}

-- which nodes they are
pub is_plain : (x : TreeNode) → ((c : Occ) (ty : TyTree) (n : ℕ) → x ≡ tree.New c ty n → ⊥) → ((c : Occ) (n : ℕ) → x ≡ tree.Qbit c n → ⊥)
    → ((c : Occ) (ps : List Param) (n : ℕ) → x ≡ tree.In c ps n → ⊥) → ((c : Occ) (es : List ℕ) (n : ℕ) → x ≡ tree.Out c es n → ⊥)
    → ((y : List ℕ) → x ≡ tree.Name y → ⊥) → ((xs : List Occ) (n : ℕ) → x ≡ tree.Apply xs n → ⊥) → ((xs : List Occ) → x ≡ tree.Measure xs → ⊥) → IsPlain x
is_plain (tree.New x ty body) a b c d e f g = a x ty body refl
is_plain (tree.Qbit x body) a b c d e f g = b x body refl
is_plain (tree.In ch ps body) a b c d e f g = c ch ps body refl
is_plain (tree.Out ch es body) a b c d e f g = d ch es body refl
is_plain (tree.Name x) a b c d e f g = e x refl
is_plain (tree.Apply xs op) a b c d e f g = f xs op refl
is_plain (tree.Measure xs) a b c d e f g = g xs refl
is_plain other a b c d e f g = tt

-- they stand as they are in every scope
pub plain_is : (s : Scope) (n : ℕ) (x : TreeNode) → IsPlain x → plain x ≡ node_in s n x
plain_is s n (tree.New x ty body) p = absurd p
plain_is s n (tree.Qbit x body) p = absurd p
plain_is s n (tree.In c ps body) p = absurd p
plain_is s n (tree.Out c es body) p = absurd p
plain_is s n (tree.Name x) p = absurd p
plain_is s n (tree.Apply xs e) p = absurd p
plain_is s n (tree.Measure xs) p = absurd p
plain_is s n other p = refl

-- and bind nothing
pub plain_enters : (l : Locals) (at : ℕ) (x : TreeNode) → IsPlain x → IsLocal l → NodeEnters l l at x
plain_enters l at (tree.New x ty body) p k = absurd p
plain_enters l at (tree.Qbit x body) p k = absurd p
plain_enters l at (tree.In c ps body) p k = absurd p
plain_enters l at (tree.Out c es body) p k = absurd p
plain_enters l at (tree.Name x) p k = absurd p
plain_enters l at (tree.Apply xs e) p k = absurd p
plain_enters l at (tree.Measure xs) p k = absurd p
plain_enters l at other p k = λ h. enters_none l [] k

-- a node that is no call
abbrev pub IsOwn : TreeNode → Type 0
IsOwn (tree.Call f xs) = ⊥
IsOwn other = Unit {0}

-- which nodes they are
pub is_own : (x : TreeNode) → ((f : List ℕ) (xs : List Occ) → x ≡ tree.Call f xs → ⊥) → IsOwn x
is_own (tree.Call f xs) other = other f xs refl
is_own x other = tt

-- it is a member of its own
pub own_member : (ds : List Signature) (s : Scope) (n : ℕ) (x : TreeNode) → IsOwn x → member_of ds s n x ≡ Own (node_in s n x)
own_member ds s n (tree.Call f xs) p = absurd p
own_member ds s n other p = refl

-- with the faults of a node
pub own_faults : (ds : List Signature) (s : Scope) (at : ℕ) (x : TreeNode) (ps : List Parameter) → IsOwn x → member_faults ds s at x ps ≡ node_faults s at x ps
own_faults ds s at (tree.Call f xs) ps p = absurd p
own_faults ds s at other ps p = refl

-- a node, with whichever types, is entered as a member
abbrev pub MemberEnters : List Signature → Locals → Locals → ℕ → TreeNode → Type 0
MemberEnters ds l new at x = (h : HasTypes x) → Enters l new (bound_by x h.ty h.params) (member_faults ds (scope_in l) at x h.params)

-- the same, by an equation
pub member_enters_at : (ds : List Signature) (l new : Locals) (at : ℕ) (x y : TreeNode) → x ≡ y → MemberEnters ds l new at y → MemberEnters ds l new at x
member_enters_at ds l new at x y is f = subst (MemberEnters ds l new at) (sym is) f
