-- A name is free in a process exactly where a node of it uses the name.
use Rattle.std.proofs.Common.{◌≡◌, ℕ, zero, suc, true, false, Bool, List, [], ◌∷◌, ◌++◌, map, ◌+◌, ◌≤◌, ◌<◌, ◌==◌, ◌||◌, length, refl, sym, ap, ap₂, arith, ◌∙◌}
use Rattle.std.specs.List.{list_any, range_with_len}
use Rattle.cqp_syntax.specs.TypeTrees.{TypeTree}
use Rattle.cqp_syntax.specs.declared.node.Node.{Node}
use Rattle.cqp_syntax.specs.declared.node.Node.TheVariants as node
use Rattle.cqp_syntax.specs.Trees.{named, Expr, slot, sig, add, apply, measure, Process, nil, par, new, qbit, act, input, output, branch}
use Rattle.cqp_syntax.specs.Terms.{Term, process, expr, term_of}
use Rattle.cqp_syntax.specs.Subterms.{expr_terms, exprs_terms, process_terms, term_terms, term_size}
use Rattle.cqp_syntax.specs.NodeNames.{uses_in}
use Rattle.cqp_syntax.specs.Listing.{Listing, term_at, process_at, type_of_name}
use Rattle.cqp_syntax.specs.Numbered.{IsNumbered}
use Rattle.cqp_parts.specs.Free.{is_in_slot, is_in_expr, is_free}
use Rattle.cqp_parts.specs.Parts.{node_at}

-- the root of a term uses the name itself
abbrev pub uses_term : ℕ → Term → Bool
uses_term x (process (input c bs p)) = is_in_slot x c
uses_term x (process (output c es p)) = is_in_slot x c
uses_term x (process p) = false
uses_term x (expr (slot s)) = is_in_slot x s
uses_term x (expr (apply qs e)) = list_any (is_in_slot x) qs
uses_term x (expr (measure qs)) = list_any (is_in_slot x) qs
uses_term x (expr e) = false

-- or with false changes nothing
or_false : (b : Bool) → (b || false) ≡ b
or_false true = refl
or_false false = refl

-- three tests joined
or_assoc : (a b c : Bool) → ((a || b) || c) ≡ (a || (b || c))
or_assoc true b c = refl
or_assoc false b c = refl

-- some of two lists pass where some of one do
pub any_both : {X : Type 0} (p : X → Bool) (xs ys : List X) → list_any p (xs ++ ys) ≡ (list_any p xs || list_any p ys)
any_both p [] ys = refl
any_both p (x ∷ xs) ys = ap (λ b. p x || b) (any_both p xs ys) ∙ sym (or_assoc (p x) (list_any p xs) (list_any p ys))

module _ (x : ℕ) where
  -- a name stands in an expression where a term of it uses the name
  in_expr : (e : Expr) → is_in_expr x e ≡ list_any (uses_term x) (expr_terms e)
  in_expr (slot s) = sym (or_false (is_in_slot x s))
  in_expr (sig e) = in_expr e
  in_expr (add e f) = ap₂ (λ a b. a || b) (in_expr e) (in_expr f) ∙ sym (any_both (uses_term x) (expr_terms e) (expr_terms f))
  in_expr (apply qs e) = ap (λ b. list_any (is_in_slot x) qs || b) (in_expr e)
  in_expr (measure qs) = sym (or_false (list_any (is_in_slot x) qs))

  -- so it does in several
  in_exprs : (es : List Expr) → list_any (is_in_expr x) es ≡ list_any (uses_term x) (exprs_terms es)
  in_exprs [] = refl
  in_exprs (e ∷ es) = ap₂ (λ a b. a || b) (in_expr e) (in_exprs es) ∙ sym (any_both (uses_term x) (expr_terms e) (exprs_terms es))

  -- free where some term uses it
  pub in_process : (p : Process) → is_free x p ≡ list_any (uses_term x) (process_terms p)
  in_process nil = refl
  in_process (par p q) = ap₂ (λ a b. a || b) (in_process p) (in_process q) ∙ sym (any_both (uses_term x) (process_terms p) (process_terms q))
  in_process (new b p) = in_process p
  in_process (qbit y p) = in_process p
  in_process (act e p) = ap₂ (λ a b. a || b) (in_expr e) (in_process p) ∙ sym (any_both (uses_term x) (expr_terms e) (process_terms p))
  in_process (input c bs p) = ap (λ b. is_in_slot x c || b) (in_process p)
  in_process (output c es p) =
      ap (λ b. is_in_slot x c || b) (ap₂ (λ a b. a || b) (in_exprs es) (in_process p) ∙ sym (any_both (uses_term x) (exprs_terms es) (process_terms p)))
  in_process (branch e f p q) =
      let bodies = ap₂ (λ a b. a || b) (in_process p) (in_process q) ∙ sym (any_both (uses_term x) (process_terms p) (process_terms q)) in
      let second = ap₂ (λ a b. a || b) (in_expr f) bodies ∙ sym (any_both (uses_term x) (expr_terms f) (process_terms p ++ process_terms q)) in
      ap₂ (λ a b. a || b) (in_expr e) second ∙ sym (any_both (uses_term x) (expr_terms e) (expr_terms f ++ (process_terms p ++ process_terms q)))

  -- names of a node in slots
  named_slots : (ys : List ℕ) → list_any (is_in_slot x) (map named ys) ≡ list_any (λ y. y == x) ys
  named_slots [] = refl
  named_slots (y ∷ ys) = ap (λ b. (y == x) || b) (named_slots ys)

  -- a node's term uses what the node uses
  node_uses : (ty : ℕ → TypeTree) (at : ℕ → Term) (k : Node) → uses_term x (term_of ty at k) ≡ list_any (λ y. y == x) (uses_in k)
  node_uses ty at node.Nil = refl
  node_uses ty at (node.Par left right) = refl
  node_uses ty at (node.New y body) = refl
  node_uses ty at (node.Qbit y body) = refl
  node_uses ty at (node.Act e body) = refl
  node_uses ty at (node.In c ys body) = sym (or_false (c == x))
  node_uses ty at (node.Out c es body) = sym (or_false (c == x))
  node_uses ty at (node.If left right first other) = refl
  node_uses ty at (node.Num v) = refl
  node_uses ty at node.Unit = refl
  node_uses ty at (node.Name y) = sym (or_false (y == x))
  node_uses ty at (node.Gate op) = refl
  node_uses ty at (node.Sig e) = refl
  node_uses ty at (node.Add left right) = refl
  node_uses ty at (node.Apply qs e) = named_slots qs
  node_uses ty at (node.Measure qs) = named_slots qs

-- node m uses the name
abbrev pub uses_at : Listing → ℕ → ℕ → Bool
uses_at l x m = list_any (λ y. y == x) (uses_in (node_at l m))

-- tests of terms at numbers
any_of_numbers : (at : ℕ → Term) (p : Term → Bool) (q : ℕ → Bool) (n k : ℕ) → ((m : ℕ) → n ≤ m → m < n + k → p (at m) ≡ q m)
    → list_any p (map at (range_with_len n k)) ≡ list_any q (range_with_len n k)
any_of_numbers at p q n zero h = refl
any_of_numbers at p q n (suc k) h =
    ap₂ (λ a b. a || b) (h n (omega arith) (omega arith)) (any_of_numbers at p q (n + 1) k (λ m low up. h m (omega arith) (omega arith)))

module _ (l : Listing) (numbers : IsNumbered l) (tells : (m : ℕ) → m < length l.nodes → term_at l m ≡ term_of (type_of_name l) (term_at l) (node_at l m)) where
  -- a name is free at n exactly where a node of the subtree uses it
  pub free_used : (x n : ℕ) → n < length l.nodes → term_at l n ≡ process (process_at l n) → n + term_size (term_at l n) ≤ length l.nodes
      → is_free x (process_at l n) ≡ list_any (uses_at l x) (range_with_len n (term_size (term_at l n)))
  free_used x n within is fits =
      in_process x (process_at l n)
      ∙ (ap (λ t. list_any (uses_term x) (term_terms t)) (sym is)
      ∙ (ap (list_any (uses_term x)) (sym (numbers.below n within))
      ∙ any_of_numbers (term_at l) (uses_term x) (uses_at l x) n (term_size (term_at l n))
      (λ m low up. ap (uses_term x) (tells m (omega arith)) ∙ node_uses x (type_of_name l) (term_at l) (node_at l m))))
