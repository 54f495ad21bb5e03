-- What is left of a part of a body behind its node: the parts of the part, below what it binds.
use Rattle.std.proofs.Common.{◌≡◌, ℕ, ◌+◌, List, [], ◌∷◌, ◌++◌, map, length, refl, sym, ◌∙◌, ap, ap₂, append_assoc, arith, length-append}
use Rattle.cqp_syntax.specs.TypeTrees.{TypeTree}
use Rattle.cqp_grammar.specs.Trees.{ExprTrees, sig, add, apply}
use Rattle.cqp_grammar.specs.Trees.{no_exprs, expr_and, par, new, qbit, act}
use Rattle.cqp_grammar.specs.Trees.{input, output, branch}
use Rattle.cqp_program.specs.declared.tree.TreeNode.{TreeNode}
use Rattle.cqp_expand.specs.declared.fault.ScopeFault.{ScopeFault}
use Rattle.cqp_expand.specs.declared.outline.Member.{Member}
use Rattle.cqp_expand.specs.Scopes.{Scope}
use Rattle.cqp_expand.specs.Faults.{Signature}
use Rattle.cqp_expand.proofs.Subtrees.{Subtree, process, expr, size_of, nodes_of, offsets_of, members_of}
use Rattle.cqp_expand.proofs.Subtrees.{types_of, faults_of}

-- a part that is left, and the scope around it
pub record Item : Type 0 where
  pub scope : Scope
  pub part : Subtree

-- parts in one scope
abbrev pub items : Scope → List Subtree → List Item
items s ks = map (λ k. record { scope = s; part = k }) ks

-- the arguments of an output, as parts of a node
abbrev pub args : ExprTrees → List Subtree
args no_exprs = []
args (expr_and e es) = expr e ∷ args es

-- what is left of a part behind its node
abbrev pub kids : Subtree → List Subtree
kids (process (par at p q)) = process p ∷ process q ∷ []
kids (process (new at x t p)) = process p ∷ []
kids (process (qbit at x p)) = process p ∷ []
kids (process (act at e p)) = expr e ∷ process p ∷ []
kids (process (input at c ps p)) = process p ∷ []
kids (process (output at c es p)) = args es ++ process p ∷ []
kids (process (branch at e f p q)) = expr e ∷ expr f ∷ process p ∷ process q ∷ []
kids (expr (sig at e)) = expr e ∷ []
kids (expr (add at e f)) = expr e ∷ expr f ∷ []
kids (expr (apply at xs e)) = expr e ∷ []
kids s = []

-- the nodes of what is left, the first with number n, and how many they are
abbrev pub left_nodes : ℕ → List Item → List TreeNode
left_nodes n [] = []
left_nodes n (i ∷ is) = nodes_of n i.part ++ left_nodes (n + size_of i.part) is

-- how many nodes are left
abbrev pub left_size : List Item → ℕ
left_size [] = 0
left_size (i ∷ is) = size_of i.part + left_size is

-- their offsets, types and faults
abbrev pub left_offsets : List Item → List ℕ
left_offsets [] = []
left_offsets (i ∷ is) = offsets_of i.part ++ left_offsets is

-- the types of the names that what is left binds
abbrev pub left_types : List Item → List TypeTree
left_types [] = []
left_types (i ∷ is) = types_of i.part ++ left_types is

-- the faults of what is left
abbrev pub left_faults : List Signature → List Item → List ScopeFault
left_faults ds [] = []
left_faults ds (i ∷ is) = faults_of ds i.scope i.part ++ left_faults ds is

-- the members, where the first binder has number n and the first member number k
abbrev pub left_members : List Signature → ℕ → ℕ → List Item → List Member
left_members ds n k [] = []
left_members ds n k (i ∷ is) =
    members_of ds i.scope n k i.part ++ left_members ds (n + length (types_of i.part)) (k + size_of i.part) is

-- two lists of items, one behind the other
pub nodes-append : (n : ℕ) (xs ys : List Item) → left_nodes n (xs ++ ys) ≡ left_nodes n xs ++ left_nodes (n + left_size xs) ys
nodes-append n [] ys = let e : n ≡ n + 0 = omega arith in ap (λ k. left_nodes k ys) e
nodes-append n (i ∷ xs) ys =
    let e : n + size_of i.part + left_size xs ≡ n + (size_of i.part + left_size xs) = omega arith in
    ap (λ l. nodes_of n i.part ++ l) (nodes-append (n + size_of i.part) xs ys ∙ ap (λ k. left_nodes (n + size_of i.part) xs ++ left_nodes k ys) e)
    ∙ sym (append_assoc (nodes_of n i.part) (left_nodes (n + size_of i.part) xs) (left_nodes (n + (size_of i.part + left_size xs)) ys))

-- how many nodes they have
pub size-append : (xs ys : List Item) → left_size (xs ++ ys) ≡ left_size xs + left_size ys
size-append [] ys = omega arith
size-append (i ∷ xs) ys = omega (arith, size-append xs ys)

-- their offsets
pub offsets-append : (xs ys : List Item) → left_offsets (xs ++ ys) ≡ left_offsets xs ++ left_offsets ys
offsets-append [] ys = refl
offsets-append (i ∷ xs) ys = ap (λ l. offsets_of i.part ++ l) (offsets-append xs ys)
    ∙ sym (append_assoc (offsets_of i.part) (left_offsets xs) (left_offsets ys))

-- their types
pub types-append : (xs ys : List Item) → left_types (xs ++ ys) ≡ left_types xs ++ left_types ys
types-append [] ys = refl
types-append (i ∷ xs) ys = ap (λ l. types_of i.part ++ l) (types-append xs ys) ∙ sym (append_assoc (types_of i.part) (left_types xs) (left_types ys))

-- their faults
pub faults-append : (ds : List Signature) (xs ys : List Item) → left_faults ds (xs ++ ys) ≡ left_faults ds xs ++ left_faults ds ys
faults-append ds [] ys = refl
faults-append ds (i ∷ xs) ys =
    ap (λ l. faults_of ds i.scope i.part ++ l) (faults-append ds xs ys) ∙ sym (append_assoc (faults_of ds i.scope i.part) (left_faults ds xs)
    (left_faults ds ys))

-- their members
pub members-append : (ds : List Signature) (n k : ℕ) (xs ys : List Item)
    → left_members ds n k (xs ++ ys) ≡ left_members ds n k xs ++ left_members ds (n + length (left_types xs)) (k + left_size xs) ys
members-append ds n k [] ys =
    let e : n ≡ n + 0 = omega arith in
    let f : k ≡ k + 0 = omega arith in
    ap₂ (λ a b. left_members ds a b ys) e f
members-append ds n k (i ∷ xs) ys =
    let a = n + length (types_of i.part) in
    let b = k + size_of i.part in
    let e : a + length (left_types xs) ≡ n + length (types_of i.part ++ left_types xs) = omega (arith, length-append (types_of i.part) (left_types xs)) in
    let f : b + left_size xs ≡ k + (size_of i.part + left_size xs) = omega arith in
    ap (λ l. members_of ds i.scope n k i.part ++ l) (members-append ds a b xs ys ∙ ap₂ (λ x y. left_members ds a b xs ++ left_members ds x y ys) e f)
    ∙ sym (append_assoc (members_of ds i.scope n k i.part) (left_members ds a b xs) (left_members ds (n + length (types_of i.part ++ left_types xs)) (k +
    (size_of i.part + left_size xs)) ys))
