-- Laws: the types of the names that a process binds, and the offsets of its nodes, are those of its
-- members.
use Rattle.std.proofs.Common.{◌≡◌, ℕ, ◌+◌, List, [], ◌∷◌, ◌++◌, map, length, refl, ap, ap₂, sym, ◌∙◌, subst, arith, append_assoc}
use Rattle.std.proofs.lemmas.List.{map-append, length-map}
use Rattle.std.specs.List.{range_with_len}
use Rattle.cqp_syntax.specs.declared.node.Node.{Node}
use Rattle.cqp_syntax.specs.TypeTrees.{TypeTree, qbit_type}
use Rattle.cqp_syntax.specs.Trees.{Binder}
use Rattle.cqp_syntax.specs.Binders.{binders_of}
use Rattle.cqp_syntax.specs.Preorder.{expr_nodes, exprs_nodes}
use Rattle.cqp_syntax.proofs.Sizes.{length-expr_nodes, length-exprs_nodes}
use Rattle.cqp_grammar.specs.Trees as tree
use Rattle.cqp_grammar.specs.Trees.{Parameter, ExprTree, ProcessTree}
use Rattle.cqp_program.specs.Listing.{expr_size, exprs_size, process_size, expr_offsets, exprs_offsets, process_offsets}
use Rattle.cqp_expand.specs.declared.outline.Member.{Member}
use Rattle.cqp_expand.specs.declared.outline.Member.TheVariants.{Own}
use Rattle.cqp_expand.specs.Scopes.{Scope, below, below_all}
use Rattle.cqp_expand.specs.Renaming.{rename_binder}
use Rattle.cqp_expand.specs.Expansion.{Template, binder_count, binders_from, argument_or_later, numbers_in, expr_in, exprs_in, process_in, offsets_in}
use Rattle.cqp_expand.specs.Faults.{Signature, names_faults, name_faults, expr_faults, exprs_faults, repeats, process_faults}
use Rattle.cqp_expand.specs.Members.{locals, local_types, members_in}
use Rattle.cqp_expand.specs.Spread.{types_of, offsets_from}
use Rattle.cqp_expand.proofs.Templates.{AreTemplates, known, empty_parts}
use Rattle.cqp_expand.proofs.Renamed.{binders-rename}
use Rattle.cqp_expand.proofs.Placing.{expr_placed, exprs_placed}
use Rattle.cqp_expand.proofs.Found.{texts, is_found, Among}
use Rattle.cqp_expand.proofs.SpreadParts.{BindNone, expr_binds_none, exprs_bind_none}

-- names from k on have these types
abbrev pub Typed : (ℕ → TypeTree) → ℕ → List TypeTree → Type 0
Typed ty k [] = Unit {0}
Typed ty k (t ∷ ts) = (ty k ≡ t) × Typed ty (k + 1) ts

-- the types of two parts
typed_parts : (ty : ℕ → TypeTree) (k : ℕ) (xs ys : List TypeTree) → Typed ty k (xs ++ ys) → Typed ty k xs × Typed ty (k + length xs) ys
typed_parts ty k [] ys h = let is : k ≡ k + 0 = omega arith in (tt, subst (λ j. Typed ty j ys) is h)
typed_parts ty k (x ∷ xs) ys h =
    let more = typed_parts ty (k + 1) xs ys h.1 in
    let is : k + 1 + length xs ≡ k + length (x ∷ xs) = omega arith in
    ((h.0, more.0), subst (λ j. Typed ty j ys) is more.1)

-- renamed binders have the same types
types_renamed : (r : ℕ → ℕ) (bs : List Binder) → map (λ b. b.ty) (map (rename_binder r) bs) ≡ map (λ b. b.ty) bs
types_renamed r [] = refl
types_renamed r (b ∷ bs) = ap (λ ts. b.ty ∷ ts) (types_renamed r bs)

-- the types of parameters as binders
params_types : (n : ℕ) (ps : List Parameter) → map (λ b. b.ty) (binders_from n ps) ≡ map (λ p. p.ty) ps
params_types n [] = refl
params_types n (p ∷ ps) = ap (λ ts. p.ty ∷ ts) (params_types (n + 1) ps)

-- the types of parameters by their numbers
params_typed : (ty : ℕ → TypeTree) (k : ℕ) (ps : List Parameter) → Typed ty k (map (λ p. p.ty) ps) → map ty (range_with_len k (length ps)) ≡ map (λ p. p.ty) ps
params_typed ty k [] h = refl
params_typed ty k (p ∷ ps) h = ap₂ (λ t ts. t ∷ ts) h.0 (params_typed ty (k + 1) ps h.1)

module _ (all ts : List Template) (among : Among ts all) (ds : List Signature) (ty : ℕ → TypeTree) where
  -- nodes that bind nothing
  own_types : (xs : List Node) (rest : List Member) → BindNone xs → types_of all ty (map Own xs ++ rest) ≡ types_of all ty rest
  own_types [] rest h = refl
  own_types (x ∷ xs) rest h = rw (h.0) (own_types xs rest h.1)

  -- members in two parts
  behind : (xs ys rest : List Member) → types_of all ty ((xs ++ ys) ++ rest) ≡ types_of all ty (xs ++ (ys ++ rest))
  behind xs ys rest = ap (types_of all ty) (append_assoc xs ys rest)

  -- the types of binders in two parts
  both_types : (f : Binder → TypeTree) (xs ys : List Binder) (zs : List TypeTree) → map f xs ++ (map f ys ++ zs) ≡ map f (xs ++ ys) ++ zs
  both_types f xs ys zs = sym (append_assoc (map f xs) (map f ys) zs) ∙ ap (λ z. z ++ zs) (sym (map-append f xs ys))

  -- the types of the names that a process binds
  pub types_part : (s₀ s u : Scope) (k n i : ℕ) (p : ProcessTree) (rest : List Member) → AreTemplates ts ds → process_faults ds s₀ p ≡ []
      → Typed ty k (local_types p)
      → types_of all ty (members_in (texts ts) s k i p ++ rest) ≡ map (λ b. b.ty) (binders_of (process_in ts u n p)) ++ types_of all ty rest
  types_part s₀ s u k n i (tree.nil at) rest t h f = refl
  types_part s₀ s u k n i (tree.par at p q) rest t h f =
      let parts = empty_parts (process_faults ds s₀ p) (process_faults ds s₀ q) h in
      let two = typed_parts ty k (local_types p) (local_types q) f in
      let L = process_in ts u n p in
      let n₂ = n + binder_count L in
      let xs = members_in (texts ts) s k (i + 1) p in
      let ys = members_in (texts ts) s (k + locals p) (i + 1 + process_size p) q in
      behind xs ys rest ∙ types_part s₀ s u k n (i + 1) p (ys ++ rest) t parts.0 two.0
      ∙ ap (λ z. map (λ b. b.ty) (binders_of L) ++ z) (types_part s₀ s u (k + locals p) n₂ (i + 1 + process_size p) q rest t parts.1 two.1)
      ∙ both_types (λ b. b.ty) (binders_of L) (binders_of (process_in ts u n₂ q)) (types_of all ty rest)
  types_part s₀ s u k n i (tree.new at x y p) rest t h f =
      ap₂ (λ a as_. a ∷ as_) f.0 (types_part (below s₀ 0 x.name y) (below s k x.name y) (below u n x.name y) (k + 1) (n + 1) (i + 1) p rest t h f.1)
  types_part s₀ s u k n i (tree.qbit at x p) rest t h f =
      ap₂ (λ a as_. a ∷ as_) f.0 (types_part (below s₀ 0 x.name qbit_type) (below s k x.name qbit_type) (below u n x.name qbit_type) (k + 1) (n + 1)
      (i + 1) p rest t h f.1)
  types_part s₀ s u k n i (tree.act at o p) rest t h f =
      let parts = empty_parts (expr_faults s₀ o) (process_faults ds s₀ p) h in
      let xs = expr_nodes (i + 1) (expr_in s o) in
      let ys = members_in (texts ts) s k (i + 1 + expr_size o) p in
      behind (map Own xs) ys rest ∙ own_types xs (ys ++ rest) (expr_binds_none (expr_in s o) (i + 1))
      ∙ types_part s₀ s u k n (i + 1 + expr_size o) p rest t parts.1 f
  types_part s₀ s u k n i (tree.input at c ps p) rest t h f =
      let parts = empty_parts (repeats [] ps) _ (empty_parts (name_faults s₀ c) _ h).1 in
      let two = typed_parts ty k (map (λ p. p.ty) ps) (local_types p) f in
      let k₂ : k + length (map (λ p. p.ty) ps) ≡ k + length ps = ap (λ c. k + c) (length-map ps (λ p. p.ty)) in
      let P = process_in ts (below_all u n ps) (n + length ps) p in
      let body = types_part (below_all s₀ 0 ps) (below_all s k ps) (below_all u n ps) (k + length ps) (n + length ps) (i + 1) p rest t parts.1
      (subst (λ j. Typed ty j (local_types p)) k₂ two.1) in
      ap₂ (λ a as_. a ++ as_) (params_typed ty k ps two.0 ∙ sym (params_types n ps)) body
      ∙ both_types (λ b. b.ty) (binders_from n ps) (binders_of P) (types_of all ty rest)
  types_part s₀ s u k n i (tree.output at c es p) rest t h f =
      let parts = empty_parts (exprs_faults s₀ es) _ (empty_parts (name_faults s₀ c) _ h).1 in
      let xs = exprs_nodes (i + 1) (exprs_in s es) in
      let ys = members_in (texts ts) s k (i + 1 + exprs_size es) p in
      behind (map Own xs) ys rest ∙ own_types xs (ys ++ rest) (exprs_bind_none (exprs_in s es) (i + 1))
      ∙ types_part s₀ s u k n (i + 1 + exprs_size es) p rest t parts.1 f
  types_part s₀ s u k n i (tree.branch at o v p q) rest t h f =
      let one = empty_parts (expr_faults s₀ o) _ h in
      let two = empty_parts (expr_faults s₀ v) _ one.1 in
      let parts = empty_parts (process_faults ds s₀ p) (process_faults ds s₀ q) two.1 in
      let own = typed_parts ty k (local_types p) (local_types q) f in
      let L = process_in ts u n p in
      let n₂ = n + binder_count L in
      let i₂ = i + 1 + expr_size o in
      let i₃ = i₂ + expr_size v in
      let i₄ = i₃ + process_size p in
      let vs = expr_nodes (i + 1) (expr_in s o) in
      let ws = expr_nodes i₂ (expr_in s v) in
      let xs = members_in (texts ts) s k i₃ p in
      let ys = members_in (texts ts) s (k + locals p) i₄ q in
      behind (map Own vs) (map Own ws ++ (xs ++ ys)) rest ∙ own_types vs ((map Own ws ++ (xs ++ ys)) ++ rest) (expr_binds_none (expr_in s o) (i + 1))
      ∙ behind (map Own ws) (xs ++ ys) rest ∙ own_types ws ((xs ++ ys) ++ rest) (expr_binds_none (expr_in s v) i₂)
      ∙ behind xs ys rest ∙ types_part s₀ s u k n i₃ p (ys ++ rest) t parts.0 own.0
      ∙ ap (λ z. map (λ b. b.ty) (binders_of L) ++ z) (types_part s₀ s u (k + locals p) n₂ i₄ q rest t parts.1 own.1)
      ∙ both_types (λ b. b.ty) (binders_of L) (binders_of (process_in ts u n₂ q)) (types_of all ty rest)
  types_part s₀ s u k n i (tree.call at f xs) rest t h g =
      let d = known s₀ at xs f ts ds t (empty_parts (names_faults s₀ xs) _ h).1 in
      let o = is_found ts f d.template d.is in
      let r = argument_or_later (numbers_in u xs) n in
      rw (d.is, o.is, among.at o.number d.template o.at, binders-rename r d.template.body, types_renamed r (binders_of d.template.body)) refl

module _ (all ts : List Template) (among : Among ts all) (ds : List Signature) where
  -- the offsets of nodes
  own_offsets : (xs : List Node) (at more : List ℕ) (rest : List Member) → length at ≡ length xs
      → offsets_from all (map Own xs ++ rest) (at ++ more) ≡ at ++ offsets_from all rest more
  own_offsets [] [] more rest h = refl
  own_offsets [] (a ∷ at) more rest h = absurd (omega (arith, h))
  own_offsets (x ∷ xs) [] more rest h = absurd (omega (arith, h))
  own_offsets (x ∷ xs) (a ∷ at) more rest h = ap (λ z. a ∷ z) (own_offsets xs at more rest (omega arith))

  -- members and offsets in two parts
  places : (xs ys rest : List Member) (as_ bs more : List ℕ)
      → offsets_from all ((xs ++ ys) ++ rest) ((as_ ++ bs) ++ more) ≡ offsets_from all (xs ++ (ys ++ rest)) (as_ ++ (bs ++ more))
  places xs ys rest as_ bs more = ap₂ (offsets_from all) (append_assoc xs ys rest) (append_assoc as_ bs more)

  -- an expression has an offset for each node
  expr_places : (s : Scope) (i : ℕ) (e : ExprTree) → length (expr_offsets e) ≡ length (expr_nodes i (expr_in s e))
  expr_places s i e = expr_placed s e ∙ sym (length-expr_nodes i (expr_in s e))

  -- the offsets of the nodes of a process
  pub offsets_part : (s₀ s : Scope) (k i : ℕ) (p : ProcessTree) (rest : List Member) (more : List ℕ) → AreTemplates ts ds → process_faults ds s₀ p ≡ []
      → offsets_from all (members_in (texts ts) s k i p ++ rest) (process_offsets p ++ more) ≡ offsets_in ts p ++ offsets_from all rest more
  offsets_part s₀ s k i (tree.nil at) rest more t h = refl
  offsets_part s₀ s k i (tree.par at p q) rest more t h =
      let parts = empty_parts (process_faults ds s₀ p) (process_faults ds s₀ q) h in
      let xs = members_in (texts ts) s k (i + 1) p in
      let ys = members_in (texts ts) s (k + locals p) (i + 1 + process_size p) q in
      ap (λ z. at ∷ z) (places xs ys rest (process_offsets p) (process_offsets q) more
      ∙ offsets_part s₀ s k (i + 1) p (ys ++ rest) (process_offsets q ++ more) t parts.0
      ∙ ap (λ z. offsets_in ts p ++ z) (offsets_part s₀ s (k + locals p) (i + 1 + process_size p) q rest more t parts.1)
      ∙ sym (append_assoc (offsets_in ts p) (offsets_in ts q) _))
  offsets_part s₀ s k i (tree.new at x y p) rest more t h = ap (λ z. at ∷ z) (offsets_part (below s₀ 0 x.name y) (below s k x.name y) (k + 1)
      (i + 1) p rest more t h)
  offsets_part s₀ s k i (tree.qbit at x p) rest more t h =
      ap (λ z. at ∷ z) (offsets_part (below s₀ 0 x.name qbit_type) (below s k x.name qbit_type) (k + 1) (i + 1) p rest more t h)
  offsets_part s₀ s k i (tree.act at o p) rest more t h =
      let parts = empty_parts (expr_faults s₀ o) (process_faults ds s₀ p) h in
      let xs = expr_nodes (i + 1) (expr_in s o) in
      let ys = members_in (texts ts) s k (i + 1 + expr_size o) p in
      ap (λ z. at ∷ z) (places (map Own xs) ys rest (expr_offsets o) (process_offsets p) more
      ∙ own_offsets xs (expr_offsets o) (process_offsets p ++ more) (ys ++ rest) (expr_places s (i + 1) o)
      ∙ ap (λ z. expr_offsets o ++ z) (offsets_part s₀ s k (i + 1 + expr_size o) p rest more t parts.1)
      ∙ sym (append_assoc (expr_offsets o) (offsets_in ts p) _))
  offsets_part s₀ s k i (tree.input at c ps p) rest more t h =
      let parts = empty_parts (repeats [] ps) _ (empty_parts (name_faults s₀ c) _ h).1 in
      ap (λ z. at ∷ z) (offsets_part (below_all s₀ 0 ps) (below_all s k ps) (k + length ps) (i + 1) p rest more t parts.1)
  offsets_part s₀ s k i (tree.output at c es p) rest more t h =
      let parts = empty_parts (exprs_faults s₀ es) _ (empty_parts (name_faults s₀ c) _ h).1 in
      let xs = exprs_nodes (i + 1) (exprs_in s es) in
      let ys = members_in (texts ts) s k (i + 1 + exprs_size es) p in
      let count = exprs_placed s es ∙ sym (length-exprs_nodes (i + 1) (exprs_in s es)) in
      ap (λ z. at ∷ z) (places (map Own xs) ys rest (exprs_offsets es) (process_offsets p) more
      ∙ own_offsets xs (exprs_offsets es) (process_offsets p ++ more) (ys ++ rest) count
      ∙ ap (λ z. exprs_offsets es ++ z) (offsets_part s₀ s k (i + 1 + exprs_size es) p rest more t parts.1)
      ∙ sym (append_assoc (exprs_offsets es) (offsets_in ts p) _))
  offsets_part s₀ s k i (tree.branch at o v p q) rest more t h =
      let one = empty_parts (expr_faults s₀ o) _ h in
      let two = empty_parts (expr_faults s₀ v) _ one.1 in
      let parts = empty_parts (process_faults ds s₀ p) (process_faults ds s₀ q) two.1 in
      let i₂ = i + 1 + expr_size o in
      let i₃ = i₂ + expr_size v in
      let i₄ = i₃ + process_size p in
      let vs = expr_nodes (i + 1) (expr_in s o) in
      let ws = expr_nodes i₂ (expr_in s v) in
      let xs = members_in (texts ts) s k i₃ p in
      let ys = members_in (texts ts) s (k + locals p) i₄ q in
      let ps = process_offsets p in
      let qs = process_offsets q in
      let last = places xs ys rest ps qs more ∙ offsets_part s₀ s k i₃ p (ys ++ rest) (qs ++ more) t parts.0
      ∙ ap (λ z. offsets_in ts p ++ z) (offsets_part s₀ s (k + locals p) i₄ q rest more t parts.1)
      ∙ sym (append_assoc (offsets_in ts p) (offsets_in ts q) _) in
      let inner = places (map Own ws) (xs ++ ys) rest (expr_offsets v) (ps ++ qs) more
      ∙ own_offsets ws (expr_offsets v) ((ps ++ qs) ++ more) ((xs ++ ys) ++ rest) (expr_places s i₂ v)
      ∙ ap (λ z. expr_offsets v ++ z) last ∙ sym (append_assoc (expr_offsets v) (offsets_in ts p ++ offsets_in ts q) _) in
      ap (λ z. at ∷ z) (places (map Own vs) (map Own ws ++ (xs ++ ys)) rest (expr_offsets o) (expr_offsets v ++ (ps ++ qs)) more
      ∙ own_offsets vs (expr_offsets o) ((expr_offsets v ++ (ps ++ qs)) ++ more) ((map Own ws ++ (xs ++ ys)) ++ rest) (expr_places s (i + 1) o)
      ∙ ap (λ z. expr_offsets o ++ z) inner ∙ sym (append_assoc (expr_offsets o) (expr_offsets v ++ (offsets_in ts p ++ offsets_in ts q)) _))
  offsets_part s₀ s k i (tree.call at f xs) rest more t h =
      let d = known s₀ at xs f ts ds t (empty_parts (names_faults s₀ xs) _ h).1 in
      let o = is_found ts f d.template d.is in
      rw (d.is, o.is, among.at o.number d.template o.at) refl
