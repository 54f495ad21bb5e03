-- How many nodes members spread to, and what these count as.
use Rattle.std.proofs.Common.{◌≡◌, ℕ, ◌+◌, List, [], ◌∷◌, ◌++◌, map, length, sum_by, refl, ap, ap₂, sym, ◌∙◌, arith, length-append}
use Rattle.std.proofs.lemmas.List.{length-map}
use Rattle.std.proofs.lemmas.List.Sums.{sum_by-cons, sum_by-append}
use Rattle.cqp_syntax.specs.declared.node.Node.{Node}
use Rattle.cqp_syntax.specs.declared.node.Node.TheVariants as node
use Rattle.cqp_syntax.specs.Trees.{Slot, Binder, Expr, Process, named, valued, slot, sig, add, apply, measure, nil, par, new, qbit, act, input, output, branch}
use Rattle.cqp_syntax.specs.Preorder.{name_of, expr_nodes, exprs_nodes, process_nodes}
use Rattle.cqp_syntax.specs.Listing.{breadth_of}
use Rattle.cqp_syntax.proofs.Sizes.{length-process_nodes}
use Rattle.cqp_expand.specs.declared.outline.Member.{Member}
use Rattle.cqp_expand.specs.declared.outline.Member.TheVariants.{Own, Call}
use Rattle.cqp_expand.specs.Renaming.{rename_slot, rename_binder, rename_expr, rename}
use Rattle.cqp_expand.specs.Expansion.{Template, argument_or_later}
use Rattle.cqp_expand.specs.Counts.{count_of}
use Rattle.cqp_expand.specs.Moved.{moved}
use Rattle.cqp_expand.specs.Spread.{body_at, member_size, member_breadth, member_names, member_nodes, nodes_of}
use Rattle.cqp_expand.proofs.Placing.{process_size-rename}

-- what nodes count as
abbrev pub breadths : List Node → ℕ
breadths xs = sum_by breadth_of xs

-- nodes that count as much as others
record AsMuch (xs ys : List Node) : Type 0 where
  is : breadths xs ≡ breadths ys

-- no nodes
none : AsMuch [] []
none = record { is = refl }

-- a node before others
first_as : (x y : Node) (xs ys : List Node) → breadth_of x ≡ breadth_of y → AsMuch xs ys → AsMuch (x ∷ xs) (y ∷ ys)
first_as x y xs ys e f = record { is = sum_by-cons breadth_of x xs ∙ ap₂ (λ a b. a + b) e f.is ∙ sym (sum_by-cons breadth_of y ys) }

-- two parts
both_as : (xs xs' ys ys' : List Node) → AsMuch xs xs' → AsMuch ys ys' → AsMuch (xs ++ ys) (xs' ++ ys')
both_as xs xs' ys ys' e f = record { is = sum_by-append breadth_of xs ys ∙ ap₂ (λ a b. a + b) e.is f.is ∙ sym (sum_by-append breadth_of xs' ys') }

module _ (r : ℕ → ℕ) where
  -- renamed slots are as many
  slots_count : (qs : List Slot) → length (map name_of (map (rename_slot r) qs)) ≡ length (map name_of qs)
  slots_count qs = length-map (map (rename_slot r) qs) name_of ∙ length-map qs (rename_slot r) ∙ sym (length-map qs name_of)

  -- renamed binders are as many
  binders_count : (bs : List Binder) → length (map (λ b. b.name) (map (rename_binder r) bs)) ≡ length (map (λ b. b.name) bs)
  binders_count bs = length-map (map (rename_binder r) bs) (λ b. b.name) ∙ length-map bs (rename_binder r) ∙ sym (length-map bs (λ b. b.name))

  -- a renamed expression counts as much, wherever it stands
  expr_breadths : (e : Expr) (i j : ℕ) → AsMuch (expr_nodes i (rename_expr r e)) (expr_nodes j e)
  expr_breadths (slot (named x)) i j = record { is = refl }
  expr_breadths (slot (valued v)) i j = record { is = refl }
  expr_breadths (sig e) i j = first_as _ _ _ _ refl (expr_breadths e _ _)
  expr_breadths (add e f) i j = first_as _ _ _ _ refl (both_as _ _ _ _ (expr_breadths e _ _) (expr_breadths f _ _))
  expr_breadths (apply qs e) i j = first_as _ _ _ _ (ap (λ n. 1 + n) (slots_count qs)) (expr_breadths e _ _)
  expr_breadths (measure qs) i j = first_as _ _ [] [] (ap (λ n. 1 + n) (slots_count qs)) none

  -- so do expressions
  exprs_breadths : (es : List Expr) (i j : ℕ) → AsMuch (exprs_nodes i (map (rename_expr r) es)) (exprs_nodes j es)
  exprs_breadths [] i j = none
  exprs_breadths (e ∷ es) i j = both_as _ _ _ _ (expr_breadths e _ _) (exprs_breadths es _ _)

  -- so does a process
  process_breadths : (p : Process) (i j : ℕ) → AsMuch (process_nodes i (rename r p)) (process_nodes j p)
  process_breadths nil i j = first_as node.Nil node.Nil [] [] refl none
  process_breadths (par p q) i j = first_as _ _ _ _ refl (both_as _ _ _ _ (process_breadths p _ _) (process_breadths q _ _))
  process_breadths (new b p) i j = first_as _ _ _ _ refl (process_breadths p _ _)
  process_breadths (qbit x p) i j = first_as _ _ _ _ refl (process_breadths p _ _)
  process_breadths (act e p) i j = first_as _ _ _ _ refl (both_as _ _ _ _ (expr_breadths e _ _) (process_breadths p _ _))
  process_breadths (input c bs p) i j = first_as _ _ _ _ (ap (λ n. 1 + n) (binders_count bs)) (process_breadths p _ _)
  process_breadths (output c es p) i j = first_as _ _ _ _ refl (both_as _ _ _ _ (exprs_breadths es _ _) (process_breadths p _ _))
  process_breadths (branch e f p q) i j = first_as _ _ _ _ refl
      (both_as _ _ _ _ (expr_breadths e _ _)
      (both_as _ _ _ _ (expr_breadths f _ _)
      (both_as _ _ _ _ (process_breadths p _ _) (process_breadths q _ _))))

-- a renamed process counts as much
pub rename_breadth : (r : ℕ → ℕ) (p : Process) (i : ℕ) → sum_by breadth_of (process_nodes i (rename r p)) ≡ count_of p
rename_breadth r p i = (process_breadths r p i 0).is

-- a moved node counts as much
moved_breadth : (r m : ℕ → ℕ) (x : Node) → breadth_of (moved r m x) ≡ breadth_of x
moved_breadth r m node.Nil = refl
moved_breadth r m (node.Par left right) = refl
moved_breadth r m (node.New x body) = refl
moved_breadth r m (node.Qbit x body) = refl
moved_breadth r m (node.Act e body) = refl
moved_breadth r m (node.In c xs body) = ap (λ n. 1 + n) (length-map xs r)
moved_breadth r m (node.Out c es body) = refl
moved_breadth r m (node.If left right first other) = refl
moved_breadth r m (node.Num v) = refl
moved_breadth r m node.Unit = refl
moved_breadth r m (node.Name x) = refl
moved_breadth r m (node.Gate op) = refl
moved_breadth r m (node.Sig e) = refl
moved_breadth r m (node.Add left right) = refl
moved_breadth r m (node.Apply qs e) = ap (λ n. 1 + n) (length-map qs r)
moved_breadth r m (node.Measure qs) = ap (λ n. 1 + n) (length-map qs r)

module _ (all : List Template) (r m : ℕ → ℕ) where
  -- what a member spreads to counts as the member
  member_breadths : (n i : ℕ) (x : Member) → breadths (member_nodes all r m n i x) ≡ member_breadth all x
  member_breadths n i (Own x) = sum_by-cons breadth_of (moved r m x) [] ∙ omega (arith, moved_breadth r m x)
  member_breadths n i (Call def args) = (process_breadths (argument_or_later (map r args) n) (body_at all def) (m i) 0).is

  -- what the nodes of members count as
  pub nodes_breadth : (n i : ℕ) (xs : List Member) → sum_by breadth_of (nodes_of all r m n i xs) ≡ sum_by (member_breadth all) xs
  nodes_breadth n i [] = refl
  nodes_breadth n i (x ∷ xs) =
      sum_by-append breadth_of (member_nodes all r m n i x) _ ∙ ap₂ (λ a b. a + b) (member_breadths n i x) (nodes_breadth (n + member_names all x) (i + 1) xs)
      ∙ sym (sum_by-cons (member_breadth all) x xs)

  -- how many nodes a member spreads to
  member_length : (n i : ℕ) (x : Member) → length (member_nodes all r m n i x) ≡ member_size all x
  member_length n i (Own x) = refl
  member_length n i (Call def args) =
      let s = argument_or_later (map r args) n in
      length-process_nodes (m i) (rename s (body_at all def)) ∙ process_size-rename s (body_at all def)

  -- how many they are
  pub nodes_length : (n i : ℕ) (xs : List Member) → length (nodes_of all r m n i xs) ≡ sum_by (member_size all) xs
  nodes_length n i [] = refl
  nodes_length n i (x ∷ xs) =
      length-append (member_nodes all r m n i x) _ ∙ ap₂ (λ a b. a + b) (member_length n i x) (nodes_length (n + member_names all x) (i + 1) xs)
      ∙ sym (sum_by-cons (member_size all) x xs)
