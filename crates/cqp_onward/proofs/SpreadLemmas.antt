-- A stack of numbers finds the prefixes side by side.
use Rattle.std.proofs.Common.{◌≡◌, ℕ, List, [], ◌∷◌, ◌++◌, ◌+◌, ◌<◌, append_assoc, refl, sym, ap, ap₂, subst, arith, ◌∙◌}
use Rattle.std.specs.List.{AllByRecursion}
use Rattle.cqp_syntax.specs.declared.node.Node.{Node}
use Rattle.cqp_syntax.specs.declared.node.Node.TheVariants as node
use Rattle.cqp_syntax.specs.Trees.{Process, nil, par}
use Rattle.cqp_syntax.specs.Preorder.{process_size}
use Rattle.cqp_syntax.specs.Terms.{Term, process, as_process}
use Rattle.cqp_syntax.specs.Listing.{Listing, IsProc, Unfolds, term_at, process_at}
use Rattle.cqp_parts.proofs.TreeLemmas.{unfolds_at}
use Rattle.cqp_parts.specs.Parts.{node_at, prefixes_of, prefixes_at, left_of, right_of, IsProcessAt}
use Rattle.cqp_onward.specs.Spreads.{opened_by, found_at, pending, nodes_left}

-- nothing behind a list changes it
nothing_behind : (xs : List ℕ) → xs ++ [] ≡ xs
nothing_behind [] = refl
nothing_behind (x ∷ xs) = ap (λ ys. x ∷ ys) (nothing_behind xs)

-- the last numbers come first
pub pending_both : (l : Listing) (ms ks : List ℕ) → pending l (ms ++ ks) ≡ pending l ks ++ pending l ms
pending_both l [] ks = sym (nothing_behind (pending l ks))
pending_both l (m ∷ ms) ks = ap (λ xs. xs ++ prefixes_at l m) (pending_both l ms ks) ∙ append_assoc (pending l ks) (pending l ms) (prefixes_at l m)

-- the nodes of two stacks are the sum of both
pub left_both : (l : Listing) (ms ks : List ℕ) → nodes_left l (ms ++ ks) ≡ nodes_left l ms + nodes_left l ks
left_both l [] ks = omega arith
left_both l (m ∷ ms) ks = omega (arith, left_both l ms ks)

-- what holds of two lists holds of both together
pub both_there : (P : ℕ → Type 0) (ms ks : List ℕ) → AllByRecursion P ms → AllByRecursion P ks → AllByRecursion P (ms ++ ks)
both_there P [] ks a b = b
both_there P (m ∷ ms) ks a b = (a.0, both_there P ms ks a.1 b)

-- what holds of both together holds of each
pub apart_there : (P : ℕ → Type 0) (ms ks : List ℕ) → AllByRecursion P (ms ++ ks) → AllByRecursion P ms × AllByRecursion P ks
apart_there P [] ks a = (tt, a)
apart_there P (m ∷ ms) ks a = let later = apart_there P ms ks a.1 in ((a.0, later.0), later.1)

-- a process that is no composition and isn't `0`
module _ (l : Listing) (m : ℕ) where
  -- a prefix stands alone
  of_process : (x : Node) (p : Process) → process_at l m ≡ p → node_at l m ≡ x → prefixes_of l m p ≡ m ∷ [] → prefixes_at l m ≡ m ∷ []
  of_process x p h k e = ap (prefixes_of l m) h ∙ e

module _ (l : Listing) (m : ℕ) (there : IsProcessAt l m) where
  -- opening a number finds what stands there, with fewer nodes, among processes
  abbrev Steps : Node → Type 0
  Steps x =
      (prefixes_at l m ≡ found_at m x ++ pending l (opened_by x)) × (nodes_left l (opened_by x) < process_size (process_at l m)) × AllByRecursion
      (IsProcessAt l) (opened_by x)

  -- what stands there is a process
  not_expr : (e : Term) → term_at l m ≡ e → process (as_process e) ≡ e
  not_expr e h = subst (λ t. process (as_process t) ≡ t) h (sym there.1)

  -- a prefix is found and opens nothing
  prefix : (x : Node) (p : Process) → process_at l m ≡ p → prefixes_of l m p ≡ m ∷ [] → 0 < process_size p → opened_by x ≡ [] → found_at m x ≡ m ∷ [] → Steps x
  prefix x p h e s o f = (
    ap (prefixes_of l m) h ∙ (e ∙ ap₂ (λ xs ys. xs ++ pending l ys) (sym f) (sym o)),
    subst (λ ks. nodes_left l ks < process_size (process_at l m)) (sym o) (subst (λ q. 0 < process_size q) (sym h) s),
    subst (AllByRecursion (IsProcessAt l)) (sym o) tt,
  )

  -- one step of the stack
  pub step : (x : Node) → node_at l m ≡ x → Unfolds l m x → Steps x
  step (node.Par left right) k u =
      let is : process_at l m ≡ par (process_at l left) (process_at l right) = ap as_process u.tree in
      let sides : prefixes_of l m (par (process_at l left) (process_at l right)) ≡ prefixes_at l left ++ prefixes_at l right =
      ap (λ x. prefixes_of l (left_of x) (process_at l left) ++ prefixes_of l (right_of x) (process_at l right)) k in
      let size : process_size (process_at l m) ≡ 1 + process_size (process_at l left) + process_size (process_at l right) = ap process_size is in (
        ap (prefixes_of l m) is ∙ sides,
        omega (arith, size),
        ((u.bodies.1.0.within, u.bodies.1.0.is), ((u.bodies.0.within, u.bodies.0.is), tt)),
      )
  step node.Nil k u =
      let is : process_at l m ≡ nil = ap as_process u.tree in
      (ap (prefixes_of l m) is, subst (λ q. 0 < process_size q) (sym is) (omega arith), tt)
  step (node.New y body) k u = prefix (node.New y body) _ (ap as_process u.tree) refl (omega arith) refl refl
  step (node.Qbit y body) k u = prefix (node.Qbit y body) _ (ap as_process u.tree) refl (omega arith) refl refl
  step (node.Act e body) k u = prefix (node.Act e body) _ (ap as_process u.tree) refl (omega arith) refl refl
  step (node.In c ys body) k u = prefix (node.In c ys body) _ (ap as_process u.tree) refl (omega arith) refl refl
  step (node.Out c es body) k u = prefix (node.Out c es body) _ (ap as_process u.tree) refl (omega arith) refl refl
  step (node.If a b c d) k u = prefix (node.If a b c d) _ (ap as_process u.tree) refl (omega arith) refl refl
  step (node.Num v) k u = absurd (cc (not_expr _ u.tree))
  step node.Unit k u = absurd (cc (not_expr _ u.tree))
  step (node.Name y) k u = absurd (cc (not_expr _ u.tree))
  step (node.Gate o) k u = absurd (cc (not_expr _ u.tree))
  step (node.Sig e) k u = absurd (cc (not_expr _ u.tree))
  step (node.Add a b) k u = absurd (cc (not_expr _ u.tree))
  step (node.Apply qs e) k u = absurd (cc (not_expr _ u.tree))
  step (node.Measure qs) k u = absurd (cc (not_expr _ u.tree))

-- what is found is a process
found_there : (l : Listing) (m : ℕ) (x : Node) → IsProcessAt l m → AllByRecursion (IsProcessAt l) (found_at m x)
found_there l m (node.Par left right) h = tt
found_there l m node.Nil h = tt
found_there l m (node.New y body) h = (h, tt)
found_there l m (node.Qbit y body) h = (h, tt)
found_there l m (node.Act e body) h = (h, tt)
found_there l m (node.In c ys body) h = (h, tt)
found_there l m (node.Out c es body) h = (h, tt)
found_there l m (node.If a b c d) h = (h, tt)
found_there l m (node.Num v) h = (h, tt)
found_there l m node.Unit h = (h, tt)
found_there l m (node.Name y) h = (h, tt)
found_there l m (node.Gate o) h = (h, tt)
found_there l m (node.Sig e) h = (h, tt)
found_there l m (node.Add a b) h = (h, tt)
found_there l m (node.Apply qs e) h = (h, tt)
found_there l m (node.Measure qs) h = (h, tt)

module _ (l : Listing) (is : IsProc l) (old left open_ : List ℕ) (m : ℕ) (popped : old ≡ left ++ m ∷ []) (opened : open_ ≡ left ++ opened_by (node_at l m))
    (there : AllByRecursion (IsProcessAt l) old) where
  -- the rest of the stack and its last number are processes
  ends : AllByRecursion (IsProcessAt l) left × AllByRecursion (IsProcessAt l) (m ∷ [])
  ends = apart_there (IsProcessAt l) left (m ∷ []) (subst (AllByRecursion (IsProcessAt l)) popped there)

  -- the step of the last number
  stepped : (prefixes_at l m ≡ found_at m (node_at l m) ++ pending l (opened_by (node_at l m))) ×
      (nodes_left l (opened_by (node_at l m)) < process_size (process_at l m)) × AllByRecursion (IsProcessAt l) (opened_by (node_at l m))
  stepped = step l m ends.1.0 (node_at l m) refl (unfolds_at l is m ends.1.0.0)

  -- the stack gets smaller
  pub smaller : nodes_left l open_ < nodes_left l old
  smaller =
      let before : nodes_left l old ≡ nodes_left l left + (process_size (process_at l m) + 0) = ap (nodes_left l) popped ∙ left_both l left (m ∷ []) in
      let after : nodes_left l open_ ≡ nodes_left l left + nodes_left l (opened_by (node_at l m)) =
      ap (nodes_left l) opened ∙ left_both l left (opened_by (node_at l m)) in
      omega (arith, before, after, stepped.1)

  -- what is opened are processes
  pub stack_there : AllByRecursion (IsProcessAt l) open_
  stack_there = subst (AllByRecursion (IsProcessAt l)) (sym opened) (both_there (IsProcessAt l) left (opened_by (node_at l m)) ends.0 stepped.2)

  -- and tells the same
  pub told_more : (numbers found all : List ℕ) → found ≡ numbers ++ found_at m (node_at l m) → numbers ++ pending l old ≡ all → found ++ pending l open_ ≡ all
  told_more numbers found all f e =
      let before : pending l old ≡ prefixes_at l m ++ pending l left = ap (pending l) popped ∙ pending_both l left (m ∷ []) in
      let after : pending l open_ ≡ pending l (opened_by (node_at l m)) ++ pending l left =
      ap (pending l) opened ∙ pending_both l left (opened_by (node_at l m)) in
      ap₂ (λ xs ys. xs ++ ys) f after
      ∙ (append_assoc numbers (found_at m (node_at l m)) (pending l (opened_by (node_at l m)) ++ pending l left)
      ∙ (ap (λ xs. numbers ++ xs) (sym (append_assoc (found_at m (node_at l m)) (pending l (opened_by (node_at l m))) (pending l left))
      ∙ (ap (λ xs. xs ++ pending l left) (sym stepped.0) ∙ sym before)) ∙ e))

  -- so is what is found
  pub numbers_there : (numbers found : List ℕ) → found ≡ numbers ++ found_at m (node_at l m) → AllByRecursion (IsProcessAt l) numbers
      → AllByRecursion (IsProcessAt l) found
  numbers_there numbers found f a =
      subst (AllByRecursion (IsProcessAt l)) (sym f) (both_there (IsProcessAt l) numbers (found_at m (node_at l m)) a (found_there l m (node_at l m) ends.1.0))
