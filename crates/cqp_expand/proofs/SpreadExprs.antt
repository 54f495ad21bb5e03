-- Law: the nodes of an expression in a renamed scope are those of the expression, moved.
use Rattle.std.proofs.Common.{◌≡◌, ℕ, ◌+◌, List, [], ◌∷◌, ◌++◌, map, length, refl, ap, ap₂, sym, ◌∙◌, subst, arith}
use Rattle.std.proofs.lemmas.List.{map-append}
use Rattle.cqp_syntax.specs.declared.node.Node.TheVariants as node
use Rattle.cqp_syntax.specs.Trees.{named}
use Rattle.cqp_syntax.specs.Preorder as listed
use Rattle.cqp_syntax.specs.Preorder.{expr_nodes, exprs_nodes, name_of}
use Rattle.cqp_syntax.proofs.Sizes.{length-expr_nodes, length-exprs_nodes}
use Rattle.cqp_grammar.specs.Trees as tree
use Rattle.cqp_grammar.specs.Trees.{Occurrence, ExprTree, ExprTrees}
use Rattle.cqp_program.specs.Listing.{expr_size, exprs_size, numbers_from}
use Rattle.cqp_expand.specs.declared.outline.Member.{Member}
use Rattle.cqp_expand.specs.declared.outline.Member.TheVariants.{Own}
use Rattle.cqp_expand.specs.Scopes.{Scope}
use Rattle.cqp_expand.specs.Expansion.{Template, numbers_in, expr_in, exprs_in}
use Rattle.cqp_expand.specs.Faults.{names_faults, expr_faults, exprs_faults}
use Rattle.cqp_expand.specs.Moved.{moved}
use Rattle.cqp_expand.specs.Spread.{Fits}
use Rattle.cqp_expand.proofs.Templates.{empty_parts}
use Rattle.cqp_expand.proofs.Closing.{Alike}
use Rattle.cqp_expand.proofs.Environments.{Renames, name_renamed, names_renamed}
use Rattle.cqp_expand.proofs.SpreadParts.{expr_binds_none, exprs_bind_none, names_back, Steps, steps_later, Spread, cast, own_part, own_steps}

-- an expression in a scope has as many nodes as its tree
pub size_in : (s : Scope) (e : ExprTree) → listed.expr_size (expr_in s e) ≡ expr_size e
size_in s (tree.number at v) = refl
size_in s (tree.unit at) = refl
size_in s (tree.name at x) = refl
size_in s (tree.gate at op) = refl
size_in s (tree.sig at e) = omega (arith, size_in s e)
size_in s (tree.add at e f) = omega (arith, size_in s e, size_in s f)
size_in s (tree.apply at xs e) = omega (arith, size_in s e)
size_in s (tree.measure at xs) = refl

-- so have expressions
pub sizes_in : (s : Scope) (es : ExprTrees) → listed.exprs_size (exprs_in s es) ≡ exprs_size es
sizes_in s tree.no_exprs = refl
sizes_in s (tree.expr_and e es) = omega (arith, size_in s e, sizes_in s es)

module _ (r m : ℕ → ℕ) (s₀ s u : Scope) where
  -- operands
  operands : (xs : List Occurrence) → Alike s₀ s → Renames r s u → names_faults s₀ xs ≡ []
      → map r (map name_of (map named (numbers_in s xs))) ≡ map name_of (map named (numbers_in u xs))
  operands xs a e h = ap (map r) (names_back (numbers_in s xs)) ∙ names_renamed r s₀ s u xs a e h ∙ sym (names_back (numbers_in u xs))

  -- an expression whose nodes go from i on to j on
  pub expr_moved : (i j : ℕ) (t : ExprTree) → Alike s₀ s → Renames r s u → expr_faults s₀ t ≡ [] → Steps m i j (expr_size t)
      → map (moved r m) (expr_nodes i (expr_in s t)) ≡ expr_nodes j (expr_in u t)
  expr_moved i j (tree.number at v) a e h f = refl
  expr_moved i j (tree.unit at) a e h f = refl
  expr_moved i j (tree.name at x) a e h f = ap (λ n. node.Name n ∷ []) (name_renamed r s₀ s u x at a e h)
  expr_moved i j (tree.gate at op) a e h f = refl
  expr_moved i j (tree.sig at t) a e h f =
      ap₂ (λ k xs. node.Sig k ∷ xs) (f.at 1 (omega arith)) (expr_moved (i + 1) (j + 1) t a e h (steps_later m i j 1 (expr_size t) _ (omega arith) f))
  expr_moved i j (tree.add at t o) a e h f =
      let parts = empty_parts (expr_faults s₀ t) (expr_faults s₀ o) h in
      let first = expr_moved (i + 1) (j + 1) t a e parts.0 (steps_later m i j 1 (expr_size t) _ (omega arith) f) in
      let behind = steps_later m i j (1 + expr_size t) (expr_size o) _ (omega arith) f in
      let here : i + (1 + expr_size t) ≡ i + 1 + listed.expr_size (expr_in s t) = omega (arith, size_in s t) in
      let there : j + (1 + expr_size t) ≡ j + 1 + listed.expr_size (expr_in u t) = omega (arith, size_in u t) in
      let own : m (i + 1 + listed.expr_size (expr_in s t)) ≡ j + 1 + listed.expr_size (expr_in u t) = ap m (sym here)
      ∙ f.at (1 + expr_size t) (omega arith) ∙ there in
      let second = expr_moved (i + 1 + listed.expr_size (expr_in s t)) (j + 1 + listed.expr_size (expr_in u t)) o a e parts.1
      (subst (λ k. Steps m k (j + 1 + listed.expr_size (expr_in u t)) (expr_size o)) here (subst (λ k. Steps m (i + (1 + expr_size t)) k
      (expr_size o)) there behind)) in
      rw (
        f.at 1 (omega arith),
        own,
        map-append (moved r m) (expr_nodes (i + 1) (expr_in s t)) (expr_nodes (i + 1 + listed.expr_size (expr_in s t))
            (expr_in s o)),
        first,
        second,
      ) refl
  expr_moved i j (tree.apply at xs t) a e h f =
      let parts = empty_parts (names_faults s₀ xs) (expr_faults s₀ t) h in
      rw (operands xs a e parts.0, f.at 1 (omega arith), expr_moved (i + 1) (j + 1) t a e parts.1 (steps_later m i j 1 (expr_size t) _ (omega arith) f)) refl
  expr_moved i j (tree.measure at xs) a e h f = ap (λ ns. node.Measure ns ∷ []) (operands xs a e h)

  -- expressions
  pub exprs_moved : (i j : ℕ) (es : ExprTrees) → Alike s₀ s → Renames r s u → exprs_faults s₀ es ≡ [] → Steps m i j (exprs_size es)
      → map (moved r m) (exprs_nodes i (exprs_in s es)) ≡ exprs_nodes j (exprs_in u es)
  exprs_moved i j tree.no_exprs a e h f = refl
  exprs_moved i j (tree.expr_and t es) a e h f =
      let parts = empty_parts (expr_faults s₀ t) (exprs_faults s₀ es) h in
      let first = expr_moved i j t a e parts.0 (record { at = λ k g. f.at k (omega arith) }) in
      let behind = steps_later m i j (expr_size t) (exprs_size es) _ (omega arith) f in
      let second = exprs_moved (i + listed.expr_size (expr_in s t)) (j + listed.expr_size (expr_in u t)) es a e parts.1 (rw
      (size_in s t, size_in u t) behind) in
      map-append (moved r m) (expr_nodes i (expr_in s t)) (exprs_nodes (i + listed.expr_size (expr_in s t)) (exprs_in s es))
      ∙ ap₂ (λ xs ys. xs ++ ys) first second

  -- their numbers
  pub numbers_moved : (i j : ℕ) (es : ExprTrees) → Steps m i j (exprs_size es) → map m (numbers_from i es) ≡ listed.numbers_from j (exprs_in u es)
  numbers_moved i j tree.no_exprs f = refl
  numbers_moved i j (tree.expr_and t es) f =
      let here : i + 0 ≡ i = omega arith in
      let there : j + 0 ≡ j = omega arith in
      let own : m i ≡ j = ap m (sym here) ∙ f.at 0 (omega arith) ∙ there in
      let later = numbers_moved (i + expr_size t) (j + expr_size t) es (steps_later m i j (expr_size t) (exprs_size es) _ (omega arith) f) in
      ap₂ (λ k ks. k ∷ ks) own (later ∙ ap (λ c. listed.numbers_from (j + c) (exprs_in u es)) (sym (size_in u t)))

module _ (ts : List Template) (r m : ℕ → ℕ) (s₀ s u : Scope) where
  -- an expression among members
  pub expr_part : (n i j : ℕ) (t : ExprTree) (rest : List Member) → Alike s₀ s → Renames r s u → expr_faults s₀ t ≡ []
      → Fits ts r m n i (map Own (expr_nodes i (expr_in s t)) ++ rest) → m i ≡ j
      → Spread ts r m n i (map Own (expr_nodes i (expr_in s t))) (expr_nodes j (expr_in u t)) n (i + expr_size t) (j + expr_size t) rest
  expr_part n i j t rest a e h f g =
      let xs = expr_nodes i (expr_in s t) in
      let count : length xs ≡ expr_size t = length-expr_nodes i (expr_in s t) ∙ size_in s t in
      let is = expr_moved r m s₀ s u i j t a e h (subst (Steps m i j) count (own_steps ts r m n i j xs rest f g)) in
      let part = own_part ts r m n i j xs rest (expr_binds_none (expr_in s t) i) f g in
      cast ts r m n i (map Own xs) (expr_nodes j (expr_in u t)) n n (i + length xs) (i + expr_size t) (j + length xs) (j + expr_size t) rest refl
      (ap (λ k. i + k) count) (ap (λ k. j + k) count)
      (subst (λ ns. Spread ts r m n i (map Own xs) ns n (i + length xs) (j + length xs) rest) is part)

  -- expressions among members
  pub exprs_part : (n i j : ℕ) (es : ExprTrees) (rest : List Member) → Alike s₀ s → Renames r s u → exprs_faults s₀ es ≡ []
      → Fits ts r m n i (map Own (exprs_nodes i (exprs_in s es)) ++ rest) → m i ≡ j
      → Spread ts r m n i (map Own (exprs_nodes i (exprs_in s es))) (exprs_nodes j (exprs_in u es)) n (i + exprs_size es) (j + exprs_size es) rest
  exprs_part n i j es rest a e h f g =
      let xs = exprs_nodes i (exprs_in s es) in
      let count : length xs ≡ exprs_size es = length-exprs_nodes i (exprs_in s es) ∙ sizes_in s es in
      let is = exprs_moved r m s₀ s u i j es a e h (subst (Steps m i j) count (own_steps ts r m n i j xs rest f g)) in
      let part = own_part ts r m n i j xs rest (exprs_bind_none (exprs_in s es) i) f g in
      cast ts r m n i (map Own xs) (exprs_nodes j (exprs_in u es)) n n (i + length xs) (i + exprs_size es) (j + length xs)
      (j + exprs_size es) rest refl (ap (λ k. i + k) count) (ap (λ k. j + k) count)
      (subst (λ ns. Spread ts r m n i (map Own xs) ns n (i + length xs) (j + length xs) rest) is part)

  -- and their numbers
  pub numbers_part : (n i j : ℕ) (es : ExprTrees) (rest : List Member) → Fits ts r m n i (map Own (exprs_nodes i (exprs_in s es)) ++ rest) → m i ≡ j
      → map m (numbers_from i es) ≡ listed.numbers_from j (exprs_in u es)
  numbers_part n i j es rest f g =
      let xs = exprs_nodes i (exprs_in s es) in
      let count : length xs ≡ exprs_size es = length-exprs_nodes i (exprs_in s es) ∙ sizes_in s es in
      numbers_moved r m s₀ s u i j es (subst (Steps m i j) count (own_steps ts r m n i j xs rest f g))
