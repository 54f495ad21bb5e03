-- The redexes of arguments, one behind the other.
use Rattle.std.proofs.Common.{◌≡◌, ℕ, List, [], ◌∷◌, ◌++◌, ◌+◌, map, Result, Ok, Err, refl, sym, ap, ap₂, ◌∙◌}
use Rattle.std.specs.Prelude.{OnOk}
use Rattle.std.specs.List.{flat_map}
use Rattle.cqp_syntax.specs.declared.node.Node.TheVariants as node
use Rattle.cqp_syntax.specs.Trees.{Expr}
use Rattle.cqp_syntax.specs.Preorder.{expr_size, exprs_size, numbers_from}
use Rattle.cqp_syntax.specs.Terms.{as_process}
use Rattle.cqp_syntax.specs.Subterms.{term_node}
use Rattle.cqp_syntax.specs.Listing.{Listing, Unfolds, term_at, expr_at}
use Rattle.cqp_cells.specs.Redex.{exprs_of}
use Rattle.cqp_redexes.specs.Evaluation.{redexes_of, redexes_all, redexes_at}

-- what holds where memory doesn't run out
pub on_ok : {A E P Q : Type 0} (r : Result A E) → (P → Q) → OnOk r P → OnOk r Q
on_ok (Ok x) f h = f h
on_ok (Err e) f h = tt

module _ (l : Listing) where
  -- the redexes of expressions one behind the other, by their numbers
  flat_numbers : (es : List Expr) (m : ℕ) (ns : List ℕ) → ns ≡ numbers_from m es → map (λ n. expr_at l n) ns ≡ es
      → flat_map (λ n. redexes_of n (expr_at l n)) ns ≡ redexes_all m es
  flat_numbers [] m ns h k = ap (flat_map (λ n. redexes_of n (expr_at l n))) h
  flat_numbers (e ∷ es) m ns h k =
      let rest = numbers_from (m + expr_size e) es in
      let both : expr_at l m ∷ map (λ n. expr_at l n) rest ≡ e ∷ es = ap (map (λ n. expr_at l n)) (sym h) ∙ k in
      let first : expr_at l m ≡ e = cc both in
      let later : map (λ n. expr_at l n) rest ≡ es = cc both in
      ap (flat_map (λ n. redexes_of n (expr_at l n))) h
      ∙ ap₂ (λ xs ys. xs ++ ys) (ap (redexes_of m) first) (flat_numbers es (m + expr_size e) rest refl later)

  -- so an output's are those of its arguments
  pub redexes_of_args : (n c : ℕ) (es : List ℕ) (body : ℕ) → Unfolds l n (node.Out c es body) → node.Out c es body ≡ term_node n (term_at l n)
      → flat_map (λ m. redexes_of m (expr_at l m)) es ≡ redexes_at l n
  redexes_of_args n c es body u h =
      let both : node.Out c es body ≡ node.Out c (numbers_from (n + 1) (map (λ e. expr_at l e) es)) (n + 1 + exprs_size (map (λ e. expr_at l e) es)) =
      h ∙ ap (term_node n) u.tree in
      let numbers : es ≡ numbers_from (n + 1) (map (λ e. expr_at l e) es) = cc both in
      flat_numbers (map (λ e. expr_at l e) es) (n + 1) es numbers refl ∙ ap (λ t. redexes_all (n + 1) (exprs_of (as_process t))) (sym u.tree)
