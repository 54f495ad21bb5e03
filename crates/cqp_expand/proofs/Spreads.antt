-- Law: the nodes of a process in a renamed scope are its members, moved, with the nodes of the called
-- definitions in the places of the calls.
use Rattle.std.proofs.Common.{◌≡◌, ℕ, suc, zero, ◌+◌, ◌<◌, List, [], ◌∷◌, ◌++◌, map, length, refl, ap, ap₂, sym, ◌∙◌, arith, length-append}
use Rattle.std.specs.List.{range_with_len}
use Rattle.cqp_syntax.specs.declared.node.Node.TheVariants as node
use Rattle.cqp_syntax.specs.TypeTrees.{qbit_type}
use Rattle.cqp_syntax.specs.Binders.{binders_of}
use Rattle.cqp_syntax.specs.Preorder as listed
use Rattle.cqp_syntax.specs.Preorder.{expr_nodes, exprs_nodes, process_nodes}
use Rattle.cqp_grammar.specs.Trees as tree
use Rattle.cqp_grammar.specs.Trees.{Parameter, ProcessTree}
use Rattle.cqp_program.specs.Listing.{expr_size, exprs_size, process_size, numbers_from}
use Rattle.cqp_expand.specs.declared.outline.Member.{Member}
use Rattle.cqp_expand.specs.declared.outline.Member.TheVariants.{Own, Call}
use Rattle.cqp_expand.specs.Scopes.{Scope, below, below_all}
use Rattle.cqp_expand.specs.Renaming.{rename}
use Rattle.cqp_expand.specs.Expansion.{Template, binder_count, binders_from, argument_or_later, number_in, numbers_in, expr_in, exprs_in, process_in}
use Rattle.cqp_expand.specs.Faults.{Signature, names_faults, name_faults, expr_faults, exprs_faults, repeats, process_faults}
use Rattle.cqp_expand.specs.Moved.{moved}
use Rattle.cqp_expand.specs.Members.{def_of, call_member, locals, members_in}
use Rattle.cqp_expand.specs.Spread.{body_at, CountUp, Fits, member_nodes}
use Rattle.cqp_expand.proofs.Templates.{AreTemplates, known, empty_parts}
use Rattle.cqp_expand.proofs.Numbering.{length-binders_from}
use Rattle.cqp_expand.proofs.Closing.{Alike, alike_below}
use Rattle.cqp_expand.proofs.Environments.{Renames, Shifts, count-rename, name_renamed, names_renamed, scopes_renamed}
use Rattle.cqp_expand.proofs.Placing.{process_size-rename}
use Rattle.cqp_expand.proofs.Found.{texts, is_found, Among}
use Rattle.cqp_expand.proofs.SpreadParts.{Spread, cast, assoc, head, with_head, with_both, fits_at, nodes_at}
use Rattle.cqp_expand.proofs.SpreadExprs.{size_in, sizes_in, expr_part, exprs_part, numbers_part}
use Rattle.cqp_expand.proofs.Small.{length-range}

module _ (r : ℕ → ℕ) where
  -- binders that count up are shifted
  pub counts_shift : (k n c : ℕ) → CountUp r n (range_with_len k c) → Shifts r k n c
  counts_shift k n zero h = record { at = λ j g. absurd (omega (arith, g)) }
  counts_shift k n (suc c) h = record { at = at (counts_shift (k + 1) (n + 1) c h.1) }
    where
      at : Shifts r (k + 1) (n + 1) c → (j : ℕ) → j < suc c → r (k + j) ≡ n + j
      at s zero g =
          let here : k + 0 ≡ k = omega arith in
          let there : n + 0 ≡ n = omega arith in
          rw (here, there) h.0
      at s (suc j) g =
          let here : k + suc j ≡ k + 1 + j = omega arith in
          let there : n + suc j ≡ n + 1 + j = omega arith in
          rw (here, there) (s.at j (omega arith))

  -- so are the names of parameters
  params_count : (k n : ℕ) (ps : List Parameter) → CountUp r n (range_with_len k (length ps))
      → map r (range_with_len k (length ps)) ≡ map (λ b. b.name) (binders_from n ps)
  params_count k n [] h = refl
  params_count k n (p ∷ ps) h = ap₂ (λ x xs. x ∷ xs) h.0 (params_count (k + 1) (n + 1) ps h.1)

module _ (all ts : List Template) (among : Among ts all) (r m : ℕ → ℕ) (ds : List Signature) where
  -- a call among members
  call_part : (s₀ s u : Scope) (n i j at : ℕ) (f : List ℕ) (xs : List tree.Occurrence) (rest : List Member) → AreTemplates ts ds → Alike s₀ s → Renames r s u
      → process_faults ds s₀ (tree.call at f xs) ≡ [] → Fits all r m n i (call_member (numbers_in s xs) (def_of (texts ts) f) ∷ rest) → m i ≡ j
      → Spread all r m n i (call_member (numbers_in s xs) (def_of (texts ts) f) ∷ []) (process_nodes j (process_in ts u n (tree.call at f xs)))
      (n + binder_count (process_in ts u n (tree.call at f xs))) (i + 1) (j + listed.process_size (process_in ts u n (tree.call at f xs))) rest
  call_part s₀ s u n i j at f xs rest t a e h g q =
      let parts = empty_parts (names_faults s₀ xs) _ h in
      let d = known s₀ at xs f ts ds t parts.1 in
      let o = is_found ts f d.template d.is in
      let args : map r (numbers_in s xs) ≡ numbers_in u xs = names_renamed r s₀ s u xs a e parts.0 in
      let R = argument_or_later (numbers_in u xs) n in
      let process : process_in ts u n (tree.call at f xs) ≡ rename R d.template.body = rw d.is refl in
      let fit : Fits all r m n i (Call o.number (numbers_in s xs) ∷ rest) = rw o.is at g in
      let body : body_at all o.number ≡ d.template.body = rw (among.at o.number d.template o.at) refl in
      let names : n + binder_count (body_at all o.number) ≡ n + binder_count (rename R d.template.body) = ap (λ k. n + k) (ap binder_count body
      ∙ sym (count-rename R d.template.body)) in
      let size : listed.process_size (body_at all o.number) ≡ listed.process_size (rename R d.template.body) = ap listed.process_size body
      ∙ sym (process_size-rename R d.template.body) in
      let nodes : member_nodes all r m n i (Call o.number (numbers_in s xs)) ≡ process_nodes j (rename R d.template.body) = rw (q, args, body) refl in
      rw (process, o.is) (record {
        nodes = ap₂ (λ ys zs. ys ++ zs) nodes (nodes_at all r m _ _ (i + 1) (i + 1) rest names refl);
        fits = fits_at all r m _ _ (i + 1) (i + 1) rest names refl fit.2;
        end = fit.1 ∙ ap₂ (λ b c. b + c) q size;
      })

  -- a body's members, spread, are the nodes of its process in the renamed scope
  pub process_part : (s₀ s u : Scope) (k n i j : ℕ) (p : ProcessTree) (rest : List Member) → AreTemplates ts ds → Alike s₀ s → Renames r s u
      → process_faults ds s₀ p ≡ [] → Fits all r m n i (members_in (texts ts) s k i p ++ rest) → m i ≡ j
      → Spread all r m n i (members_in (texts ts) s k i p) (process_nodes j (process_in ts u n p))
      (n + binder_count (process_in ts u n p)) (i + process_size p) (j + listed.process_size (process_in ts u n p)) rest
  process_part s₀ s u k n i j (tree.nil at) rest t a e h f g =
      let b = head all r m n i (n + 0) j node.Nil rest refl f g in
      with_head all r m n i (n + 0) j (n + 0) (i + 1) (j + 1) node.Nil node.Nil [] rest [] b refl (record { nodes = refl; fits = b.fits; end = b.next })
  process_part s₀ s u k n i j (tree.par at p q) rest t a e h f g =
      let parts = empty_parts (process_faults ds s₀ p) (process_faults ds s₀ q) h in
      let L = process_in ts u n p in
      let n₂ = n + binder_count L in
      let R = process_in ts u n₂ q in
      let i₂ = i + 1 + process_size p in
      let xs = members_in (texts ts) s k (i + 1) p in
      let ys = members_in (texts ts) s (k + locals p) i₂ q in
      let b = head all r m n i n j (node.Par (i + 1) i₂) ((xs ++ ys) ++ rest) (omega arith) f g in
      let left = process_part s₀ s u k n (i + 1) (j + 1) p (ys ++ rest) t a e parts.0 (assoc all r m n (i + 1) xs ys rest b.fits) b.next in
      let right = process_part s₀ s u (k + locals p) n₂ i₂ (j + 1 + listed.process_size L) q rest t a e parts.1 left.fits left.end in
      let own : moved r m (node.Par (i + 1) i₂) ≡ node.Par (j + 1) (j + 1 + listed.process_size L) = rw (b.next, left.end) refl in
      cast all r m n i _ _ _ _ _ _ _ _ rest (omega (arith, length-append (binders_of L) (binders_of R))) (omega arith) (omega arith)
      (with_head all r m n i n j _ _ _ _ _ (xs ++ ys) rest _ b own (with_both all r m n (i + 1) _ _ _ _ _ _ xs ys rest _ _ left right))
  process_part s₀ s u k n i j (tree.new at x ty p) rest t a e h f g =
      let P = process_in ts (below u n x.name ty) (n + 1) p in
      let xs = members_in (texts ts) (below s k x.name ty) (k + 1) (i + 1) p in
      let b = head all r m n i (n + 1) j (node.New k (i + 1)) (xs ++ rest) refl f g in
      let body = process_part (below s₀ 0 x.name ty) (below s k x.name ty) (below u n x.name ty) (k + 1) (n + 1) (i + 1) (j + 1) p rest t (refl, a)
      (refl, sym f.0.0, e) h b.fits b.next in
      let own : moved r m (node.New k (i + 1)) ≡ node.New n (j + 1) = rw (b.next, f.0.0) refl in
      cast all r m n i _ _ _ _ _ _ _ _ rest (omega arith) (omega arith) (omega arith) (with_head all r m n i (n + 1) j _ _ _ _ _ xs rest _ b own body)
  process_part s₀ s u k n i j (tree.qbit at x p) rest t a e h f g =
      let P = process_in ts (below u n x.name qbit_type) (n + 1) p in
      let xs = members_in (texts ts) (below s k x.name qbit_type) (k + 1) (i + 1) p in
      let b = head all r m n i (n + 1) j (node.Qbit k (i + 1)) (xs ++ rest) refl f g in
      let body = process_part (below s₀ 0 x.name qbit_type) (below s k x.name qbit_type) (below u n x.name qbit_type) (k + 1) (n + 1) (i + 1)
      (j + 1) p rest t (refl, a) (refl, sym f.0.0, e) h b.fits b.next in
      let own : moved r m (node.Qbit k (i + 1)) ≡ node.Qbit n (j + 1) = rw (b.next, f.0.0) refl in
      cast all r m n i _ _ _ _ _ _ _ _ rest (omega arith) (omega arith) (omega arith) (with_head all r m n i (n + 1) j _ _ _ _ _ xs rest _ b own body)
  process_part s₀ s u k n i j (tree.act at o p) rest t a e h f g =
      let parts = empty_parts (expr_faults s₀ o) (process_faults ds s₀ p) h in
      let i₂ = i + 1 + expr_size o in
      let xs = map Own (expr_nodes (i + 1) (expr_in s o)) in
      let ys = members_in (texts ts) s k i₂ p in
      let b = head all r m n i n j (node.Act (i + 1) i₂) ((xs ++ ys) ++ rest) (omega arith) f g in
      let left = expr_part all r m s₀ s u n (i + 1) (j + 1) o (ys ++ rest) a e parts.0 (assoc all r m n (i + 1) xs ys rest b.fits) b.next in
      let count = size_in u o in
      let left₂ = cast all r m n (i + 1) xs _ n n i₂ i₂ (j + 1 + expr_size o) (j + 1 + listed.expr_size (expr_in u o)) (ys
      ++ rest) refl refl (ap (λ c. j + 1 + c) (sym count)) left in
      let right = process_part s₀ s u k n i₂ (j + 1 + listed.expr_size (expr_in u o)) p rest t a e parts.1 left₂.fits left₂.end in
      let own : moved r m (node.Act (i + 1) i₂) ≡ node.Act (j + 1) (j + 1 + listed.expr_size (expr_in u o)) = rw (b.next, left₂.end) refl in
      cast all r m n i _ _ _ _ _ _ _ _ rest refl (omega arith) (omega arith)
      (with_head all r m n i n j _ _ _ _ _ (xs ++ ys) rest _ b own (with_both all r m n (i + 1) _ _ _ _ _ _ xs ys rest _ _ left₂ right))
  process_part s₀ s u k n i j (tree.input at c ps p) rest t a e h f g =
      let outer = empty_parts (name_faults s₀ c) _ h in
      let parts = empty_parts (repeats [] ps) _ outer.1 in
      let xs = members_in (texts ts) (below_all s k ps) (k + length ps) (i + 1) p in
      let names = range_with_len k (length ps) in
      let chan = name_renamed r s₀ s u c.name c.at a e outer.0 in
      let b = head all r m n i (n + length ps) j (node.In (number_in s c.name) names (i + 1)) (xs ++ rest) (ap (λ z. n + z) (length-range k (length ps))) f g in
      let scope = scopes_renamed r s u k n ps e (counts_shift r k n (length ps) f.0) in
      let body = process_part (below_all s₀ 0 ps) (below_all s k ps) (below_all u n ps) (k + length ps) (n + length ps) (i + 1) (j + 1) p rest t
      (alike_below s₀ s 0 k ps a) scope parts.1 b.fits b.next in
      let P = process_in ts (below_all u n ps) (n + length ps) p in
      let own : moved r m (node.In (number_in s c.name) names (i + 1))
      ≡ node.In (number_in u c.name) (map (λ b. b.name) (binders_from n ps)) (j + 1) = rw (chan, params_count r k n ps f.0, b.next) refl in
      cast all r m n i _ _ _ _ _ _ _ _ rest (omega (arith, length-append (binders_from n ps) (binders_of P), length-binders_from n ps))
      (omega arith) (omega arith)
      (with_head all r m n i (n + length ps) j _ _ _ _ _ xs rest _ b own body)
  process_part s₀ s u k n i j (tree.output at c es p) rest t a e h f g =
      let outer = empty_parts (name_faults s₀ c) _ h in
      let parts = empty_parts (exprs_faults s₀ es) _ outer.1 in
      let chan = name_renamed r s₀ s u c.name c.at a e outer.0 in
      let i₂ = i + 1 + exprs_size es in
      let xs = map Own (exprs_nodes (i + 1) (exprs_in s es)) in
      let ys = members_in (texts ts) s k i₂ p in
      let b = head all r m n i n j (node.Out (number_in s c.name) (numbers_from (i + 1) es) i₂) ((xs ++ ys) ++ rest) (omega arith) f g in
      let fit = assoc all r m n (i + 1) xs ys rest b.fits in
      let left = exprs_part all r m s₀ s u n (i + 1) (j + 1) es (ys ++ rest) a e parts.0 fit b.next in
      let count = sizes_in u es in
      let left₂ = cast all r m n (i + 1) xs _ n n i₂ i₂ (j + 1 + exprs_size es) (j + 1 + listed.exprs_size (exprs_in u es)) (ys
      ++ rest) refl refl (ap (λ c. j + 1 + c) (sym count)) left in
      let right = process_part s₀ s u k n i₂ (j + 1 + listed.exprs_size (exprs_in u es)) p rest t a e parts.1 left₂.fits left₂.end in
      let own : moved r m (node.Out (number_in s c.name) (numbers_from (i + 1) es) i₂)
      ≡ node.Out (number_in u c.name) (listed.numbers_from (j + 1) (exprs_in u es)) (j + 1 + listed.exprs_size (exprs_in u es)) = rw
      (chan, numbers_part all r m s₀ s u n (i + 1) (j + 1) es (ys ++ rest) fit b.next, left₂.end) refl in
      cast all r m n i _ _ _ _ _ _ _ _ rest refl (omega arith) (omega arith)
      (with_head all r m n i n j _ _ _ _ _ (xs ++ ys) rest _ b own (with_both all r m n (i + 1) _ _ _ _ _ _ xs ys rest _ _ left₂ right))
  process_part s₀ s u k n i j (tree.branch at o v p q) rest t a e h f g =
      let one = empty_parts (expr_faults s₀ o) _ h in
      let two = empty_parts (expr_faults s₀ v) _ one.1 in
      let parts = empty_parts (process_faults ds s₀ p) (process_faults ds s₀ q) two.1 in
      let L = process_in ts u n p in
      let n₂ = n + binder_count L in
      let R = process_in ts u n₂ q in
      let i₂ = i + 1 + expr_size o in
      let i₃ = i₂ + expr_size v in
      let i₄ = i₃ + process_size p in
      let j₂ = j + 1 + listed.expr_size (expr_in u o) in
      let j₃ = j₂ + listed.expr_size (expr_in u v) in
      let j₄ = j₃ + listed.process_size L in
      let vs = map Own (expr_nodes (i + 1) (expr_in s o)) in
      let ws = map Own (expr_nodes i₂ (expr_in s v)) in
      let xs = members_in (texts ts) s k i₃ p in
      let ys = members_in (texts ts) s (k + locals p) i₄ q in
      let b = head all r m n i n j (node.If (i + 1) i₂ i₃ i₄) ((vs ++ (ws ++ (xs ++ ys))) ++ rest) (omega arith) f g in
      let left = cast all r m n (i + 1) vs _ n n i₂ i₂ (j + 1 + expr_size o) j₂ ((ws ++ (xs ++ ys)) ++ rest) refl refl (ap (λ c. j + 1 + c) (sym (size_in u o)))
      (expr_part all r m s₀ s u n (i + 1) (j + 1) o ((ws ++ (xs ++ ys)) ++ rest) a e one.0 (assoc all r m n (i + 1) vs (ws ++ (xs
      ++ ys)) rest b.fits) b.next) in
      let right = cast all r m n i₂ ws _ n n i₃ i₃ (j₂ + expr_size v) j₃ ((xs ++ ys) ++ rest) refl refl (ap (λ c. j₂ + c) (sym (size_in u v)))
      (expr_part all r m s₀ s u n i₂ j₂ v ((xs ++ ys) ++ rest) a e two.0 (assoc all r m n i₂ ws (xs ++ ys) rest left.fits) left.end) in
      let first = process_part s₀ s u k n i₃ j₃ p (ys ++ rest) t a e parts.0 (assoc all r m n i₃ xs ys rest right.fits) right.end in
      let other = process_part s₀ s u (k + locals p) n₂ i₄ j₄ q rest t a e parts.1 first.fits first.end in
      let own : moved r m (node.If (i + 1) i₂ i₃ i₄) ≡ node.If (j + 1) j₂ j₃ j₄ = rw (b.next, left.end, right.end, first.end) refl in
      cast all r m n i _ _ _ _ _ _ _ _ rest (omega (arith, length-append (binders_of L) (binders_of R))) (omega arith) (omega arith)
      (with_head all r m n i n j _ _ _ _ _ (vs ++ (ws ++ (xs ++ ys))) rest _ b own
      (with_both all r m n (i + 1) _ _ _ _ _ _ vs (ws ++ (xs ++ ys)) rest _ _ left
      (with_both all r m n i₂ _ _ _ _ _ _ ws (xs ++ ys) rest _ _ right
      (with_both all r m n i₃ _ _ _ _ _ _ xs ys rest _ _ first other))))
  process_part s₀ s u k n i j (tree.call at f xs) rest t a e h g q = call_part s₀ s u n i j at f xs rest t a e h g q
