-- Law: the members of a process without faults name what stands before them: binders are numbered in
-- preorder, names and definitions are known, and parts are nodes of the tree.
use Rattle.std.proofs.Common.{◌≡◌, ℕ, suc, zero, ◌+◌, ◌<◌, ◌≤◌, List, [], ◌∷◌, ◌++◌, map, length, true, ◌==◌, refl, ap, sym, ◌∙◌, subst, arith}
use Rattle.std.proofs.Common.{append_assoc, length-append, inl, inr}
use Rattle.std.proofs.lemmas.List.{length-map}
use Rattle.std.specs.List.{range_with_len, AllByRecursion}
use Rattle.cqp_syntax.specs.declared.node.Node.{Node}
use Rattle.cqp_syntax.specs.declared.node.Node.TheVariants as node
use Rattle.cqp_syntax.specs.TypeTrees.{qbit_type}
use Rattle.cqp_syntax.specs.Trees.{named}
use Rattle.cqp_syntax.specs.Scope.{is_bound}
use Rattle.cqp_syntax.specs.Preorder as listed
use Rattle.cqp_syntax.specs.Preorder.{expr_nodes, exprs_nodes, name_of}
use Rattle.cqp_syntax.specs.Listing.{bodies_of, exprs_of}
use Rattle.cqp_grammar.specs.Trees as tree
use Rattle.cqp_grammar.specs.Trees.{Occurrence, Parameter, ExprTree, ExprTrees, ProcessTree}
use Rattle.cqp_program.specs.Listing.{expr_size, exprs_size, process_size, numbers_from}
use Rattle.cqp_expand.specs.declared.outline.Member.{Member}
use Rattle.cqp_expand.specs.declared.outline.Member.TheVariants.{Own}
use Rattle.cqp_expand.specs.Scopes.{Scope, find, below, below_all}
use Rattle.cqp_expand.specs.Expansion.{Template, number_in, numbers_in, expr_in, exprs_in}
use Rattle.cqp_expand.specs.Faults.{Signature, unbound_at, names_faults, name_faults, expr_faults, exprs_faults, repeats, process_faults}
use Rattle.cqp_expand.specs.Moved.{names_of}
use Rattle.cqp_expand.specs.Members.{locals, local_types, members_in}
use Rattle.cqp_expand.specs.Spread.{binds}
use Rattle.cqp_expand.proofs.Bools.{either}
use Rattle.cqp_syntax.proofs.Bools.{fails}
use Rattle.cqp_expand.proofs.Renamed.{same_name}
use Rattle.cqp_expand.proofs.Templates.{AreTemplates, known, empty_parts}
use Rattle.cqp_expand.proofs.Closing as closing
use Rattle.cqp_expand.proofs.Closing.{Alike, alike_below, bound_in}
use Rattle.cqp_expand.proofs.ScopedMembers.{Scoped}
use Rattle.cqp_expand.proofs.Found.{texts, is_found, def_below, Among}
use Rattle.cqp_expand.proofs.SpreadParts.{names_back, own_append}
use Rattle.cqp_expand.proofs.SpreadExprs.{size_in}
use Rattle.cqp_expand.proofs.Small.{length-range}

-- numbers below k
abbrev pub Below : ℕ → List ℕ → Type 0
Below k xs = AllByRecursion (λ y. y < k) xs

-- a name that is bound is below
bound_below : (xs : List ℕ) (y k : ℕ) → Below k xs → is_bound xs (named y) ≡ true → y < k
bound_below [] y k b h = absurd (fails h)
bound_below (x ∷ xs) y k b h = elim (either (y == x) (is_bound xs (named y)) h) [
  | inl e ↦ let same = same_name y x e in subst (λ z. z < k) (sym same) b.0
  | inr e ↦ bound_below xs y k b.1 e
]

-- numbers below k are below more
below_more : (xs : List ℕ) (k j : ℕ) → k ≤ j → Below k xs → Below j xs
below_more [] k j h b = tt
below_more (x ∷ xs) k j h b = let less = b.0 in (omega (arith, less), below_more xs k j h b.1)

-- the numbers of a scope below parameters
pub params_below : (s : Scope) (k : ℕ) (ps : List Parameter) → Below k (closing.names_in s) → Below (k + length ps) (closing.names_in (below_all s k ps))
params_below s k [] b = below_more _ k (k + 0) (omega arith) b
params_below s k (p ∷ ps) b =
    let is : k + 1 + length ps ≡ k + length (p ∷ ps) = omega arith in
    subst (λ j. Below j (closing.names_in (below_all (below s k p.name p.ty) (k + 1) ps))) is
    (params_below (below s k p.name p.ty) (k + 1) ps (omega arith, below_more (closing.names_in s) k (k + 1) (omega arith) b))

-- numbers that count up
range_below : (k c : ℕ) → Below (k + c) (range_with_len k c)
range_below k zero = tt
range_below k (suc c) =
    let is : k + 1 + c ≡ k + suc c = omega arith in
    (omega arith, subst (λ j. Below j (range_with_len (k + 1) c)) is (range_below (k + 1) c))

module _ (all ts : List Template) (among : Among ts all) (ds : List Signature) (nodes total : ℕ) where
  -- members behind k names
  abbrev Are : ℕ → List Member → Type 0
  Are k xs = Scoped all (length ts) nodes total k xs

  -- the same behind as many names
  are_at : (k j : ℕ) (xs : List Member) → k ≡ j → Are k xs → Are j xs
  are_at k j xs e h = subst (λ i. Are i xs) e h

  -- members in two parts
  are_both : (k : ℕ) (xs ys rest : List Member) → Are k (xs ++ (ys ++ rest)) → Are k ((xs ++ ys) ++ rest)
  are_both k xs ys rest h = subst (Are k) (sym (append_assoc xs ys rest)) h

  -- a node that binds nothing
  plain : (k : ℕ) (x : Node) (xs : List Member) → k ≤ total → binds x ≡ [] → Below k (names_of x) → AllByRecursion (λ j. j ≤ nodes) (exprs_of x)
      → AllByRecursion (λ j. j ≤ nodes) (bodies_of x)
      → Are k xs → Are k (Own x ∷ xs)
  plain k x xs w none names exprs bodies h =
      let is : k ≡ k + length (binds x) = rw none (omega arith) in (
        record {
          bound = rw none refl;
          within = let same = sym is in rw same w;
          names = subst (λ j. Below j (names_of x)) is names;
          exprs = exprs;
          bodies = bodies;
        },
        are_at k (k + length (binds x)) xs is h,
      )

  module _ (s₀ s : Scope) (k : ℕ) (alike : Alike s₀ s) (b : Below k (closing.names_in s)) (w : k ≤ total) where
    -- a name without fault
    name_below : (x : List ℕ) (n : ℕ) → unbound_at (find s₀ x) n ≡ [] → number_in s x < k
    name_below x n h = bound_below (closing.names_in s) (number_in s x) k b (bound_in s₀ s x n alike h)

    -- names without fault
    names_below : (xs : List Occurrence) → names_faults s₀ xs ≡ [] → Below k (numbers_in s xs)
    names_below [] h = tt
    names_below (x ∷ xs) h =
        let parts = empty_parts (name_faults s₀ x) (names_faults s₀ xs) h in
        (name_below x.name x.at parts.0, names_below xs parts.1)

    -- operands without fault
    operands_below : (xs : List Occurrence) → names_faults s₀ xs ≡ [] → Below k (map name_of (map named (numbers_in s xs)))
    operands_below xs h = subst (Below k) (sym (names_back (numbers_in s xs))) (names_below xs h)

    -- an expression
    expr_scoped : (i : ℕ) (e : ExprTree) (rest : List Member) → expr_faults s₀ e ≡ [] → i + expr_size e ≤ nodes → Are k rest
        → Are k (map Own (expr_nodes i (expr_in s e)) ++ rest)
    expr_scoped i (tree.number at v) rest h l a = plain k _ rest w refl tt tt tt a
    expr_scoped i (tree.unit at) rest h l a = plain k _ rest w refl tt tt tt a
    expr_scoped i (tree.name at x) rest h l a = plain k _ rest w refl (name_below x at h, tt) tt tt a
    expr_scoped i (tree.gate at op) rest h l a = plain k _ rest w refl tt tt tt a
    expr_scoped i (tree.sig at e) rest h l a = plain k _ _ w refl tt (omega (arith, l), tt) tt (expr_scoped (i + 1) e rest h (omega (arith, l)) a)
    expr_scoped i (tree.add at e f) rest h l a =
        let parts = empty_parts (expr_faults s₀ e) (expr_faults s₀ f) h in
        let right = i + 1 + listed.expr_size (expr_in s e) in
        let size = size_in s e in
        let later = expr_scoped right f rest parts.1 (omega (arith, l, size)) a in
        plain k _ _ w refl tt (omega (arith, l), (omega (arith, l, size), tt)) tt
        (subst (Are k) (sym (own_append (expr_nodes (i + 1) (expr_in s e)) (expr_nodes right (expr_in s f)) rest)) (expr_scoped (i + 1) e (map Own
        (expr_nodes right (expr_in s f)) ++ rest) parts.0 (omega (arith, l)) later))
    expr_scoped i (tree.apply at xs e) rest h l a =
        let parts = empty_parts (names_faults s₀ xs) (expr_faults s₀ e) h in
        plain k _ _ w refl (operands_below xs parts.0) (omega (arith, l), tt) tt (expr_scoped (i + 1) e rest parts.1 (omega (arith, l)) a)
    expr_scoped i (tree.measure at xs) rest h l a = plain k _ rest w refl (operands_below xs h) tt tt a

    -- expressions
    exprs_scoped : (i : ℕ) (es : ExprTrees) (rest : List Member) → exprs_faults s₀ es ≡ [] → i + exprs_size es ≤ nodes → Are k rest
        → Are k (map Own (exprs_nodes i (exprs_in s es)) ++ rest)
    exprs_scoped i tree.no_exprs rest h l a = a
    exprs_scoped i (tree.expr_and e es) rest h l a =
        let parts = empty_parts (expr_faults s₀ e) (exprs_faults s₀ es) h in
        let right = i + listed.expr_size (expr_in s e) in
        let size = size_in s e in
        let later = exprs_scoped right es rest parts.1 (omega (arith, l, size)) a in
        subst (Are k) (sym (own_append (expr_nodes i (expr_in s e)) (exprs_nodes right (exprs_in s es)) rest))
        (expr_scoped i e (map Own (exprs_nodes right (exprs_in s es)) ++ rest) parts.0 (omega (arith, l)) later)

  -- the numbers of expressions
  numbers_within : (i : ℕ) (es : ExprTrees) → i + exprs_size es ≤ nodes → AllByRecursion (λ j. j ≤ nodes) (numbers_from i es)
  numbers_within i tree.no_exprs l = tt
  numbers_within i (tree.expr_and e es) l = (omega (arith, l), numbers_within (i + expr_size e) es (omega (arith, l)))

  -- the members of a body without faults name only what is bound before them
  pub scoped_part : (s₀ s : Scope) (k i : ℕ) (p : ProcessTree) (rest : List Member) → AreTemplates ts ds → Alike s₀ s → process_faults ds s₀ p ≡ []
      → Below k (closing.names_in s) → i + process_size p ≤ nodes → k + locals p ≤ total → Are (k + locals p) rest
      → Are k (members_in (texts ts) s k i p ++ rest)
  scoped_part s₀ s k i (tree.nil at) rest t a h b l w r = plain k _ rest (omega (arith, w)) refl tt tt tt (are_at (k + 0) k rest (omega arith) r)
  scoped_part s₀ s k i (tree.par at p q) rest t a h b l w r =
      let parts = empty_parts (process_faults ds s₀ p) (process_faults ds s₀ q) h in
      let right = i + 1 + process_size p in
      let xs = members_in (texts ts) s k (i + 1) p in
      let ys = members_in (texts ts) s (k + locals p) right q in
      let count : k + locals (tree.par at p q) ≡ k + locals p + locals q = omega (arith, length-append (local_types p) (local_types q)) in
      let second = scoped_part s₀ s (k + locals p) right q rest t a parts.1 (below_more _ k (k + locals p) (omega arith) b) (omega (arith, l))
      (omega (arith, w, count)) (are_at _ _ rest count r) in
      plain k _ _ (omega (arith, w)) refl tt tt (omega (arith, l), (omega (arith, l), tt)) (are_both k xs ys rest (scoped_part s₀ s k (i + 1) p
      (ys ++ rest) t a parts.0 b (omega (arith, l)) (omega (arith, w, count)) second))
  scoped_part s₀ s k i (tree.new at x y p) rest t a h b l w r =
      let body = scoped_part (below s₀ 0 x.name y) (below s k x.name y) (k + 1) (i + 1) p rest t (refl, a) h (
        omega arith,
        below_more _ k (k + 1)
            (omega arith) b,
      ) (omega (arith, l)) (omega (arith, w)) (are_at _ _ rest (omega arith) r) in
      (record { bound = refl; within = omega (arith, w); names = (omega arith, tt); exprs = tt; bodies = (omega (arith, l), tt) }, body)
  scoped_part s₀ s k i (tree.qbit at x p) rest t a h b l w r =
      let body = scoped_part (below s₀ 0 x.name qbit_type) (below s k x.name qbit_type) (k + 1) (i + 1) p rest t (refl, a) h
      (omega arith, below_more _ k (k + 1) (omega arith) b) (omega (arith, l)) (omega (arith, w)) (are_at _ _ rest (omega arith) r) in
      (record { bound = refl; within = omega (arith, w); names = (omega arith, tt); exprs = tt; bodies = (omega (arith, l), tt) }, body)
  scoped_part s₀ s k i (tree.act at o p) rest t a h b l w r =
      let parts = empty_parts (expr_faults s₀ o) (process_faults ds s₀ p) h in
      let body = i + 1 + expr_size o in
      let xs = map Own (expr_nodes (i + 1) (expr_in s o)) in
      let ys = members_in (texts ts) s k body p in
      let later = scoped_part s₀ s k body p rest t a parts.1 b (omega (arith, l)) w r in
      plain k _ _ (omega (arith, w)) refl tt (omega (arith, l), tt) (omega (arith, l), tt) (are_both k xs ys rest (expr_scoped s₀ s k a b (omega
      (arith, w)) (i + 1) o (ys ++ rest) parts.0 (omega (arith, l)) later))
  scoped_part s₀ s k i (tree.input at c ps p) rest t a h b l w r =
      let outer = empty_parts (name_faults s₀ c) _ h in
      let parts = empty_parts (repeats [] ps) _ outer.1 in
      let count : k + locals (tree.input at c ps p)
      ≡ k + length ps + locals p = omega (arith, length-append (map (λ q. q.ty) ps) (local_types p), length-map ps (λ q. q.ty)) in
      let inner = scoped_part (below_all s₀ 0 ps) (below_all s k ps) (k + length ps) (i + 1) p rest t (alike_below s₀ s 0 k ps a) parts.1
      (params_below s k ps b) (omega (arith, l)) (omega (arith, w, count)) (are_at _ _ rest count r) in
      let names = range_with_len k (length ps) in
      let is : length ps ≡ length names = sym (length-range k (length ps)) in
      let chan : number_in s c.name < k + length names = let less = name_below s₀ s k a b (omega (arith, w)) c.name c.at outer.0 in omega (arith, less) in (
        record {
          bound = ap (range_with_len k) is;
          within = omega (arith, w, count, is);
          names = (chan, subst (λ c. Below (k + c) names) is (range_below k (length ps)));
          exprs = tt;
          bodies = (omega (arith, l), tt);
        },
        are_at _ _ _ (ap (λ c. k + c) is) inner,
      )
  scoped_part s₀ s k i (tree.output at c es p) rest t a h b l w r =
      let outer = empty_parts (name_faults s₀ c) _ h in
      let parts = empty_parts (exprs_faults s₀ es) _ outer.1 in
      let body = i + 1 + exprs_size es in
      let xs = map Own (exprs_nodes (i + 1) (exprs_in s es)) in
      let ys = members_in (texts ts) s k body p in
      let later = scoped_part s₀ s k body p rest t a parts.1 b (omega (arith, l)) w r in
      plain k _ _ (omega (arith, w)) refl (name_below s₀ s k a b (omega (arith, w)) c.name c.at outer.0, tt) (numbers_within (i + 1) es (omega
      (arith, l))) (omega (arith, l), tt)
      (are_both k xs ys rest (exprs_scoped s₀ s k a b (omega (arith, w)) (i + 1) es (ys ++ rest) parts.0 (omega (arith, l)) later))
  scoped_part s₀ s k i (tree.branch at o v p q) rest t a h b l w r =
      let one = empty_parts (expr_faults s₀ o) _ h in
      let two = empty_parts (expr_faults s₀ v) _ one.1 in
      let parts = empty_parts (process_faults ds s₀ p) (process_faults ds s₀ q) two.1 in
      let i₂ = i + 1 + expr_size o in
      let i₃ = i₂ + expr_size v in
      let i₄ = i₃ + process_size p in
      let vs = map Own (expr_nodes (i + 1) (expr_in s o)) in
      let ws = map Own (expr_nodes i₂ (expr_in s v)) in
      let xs = members_in (texts ts) s k i₃ p in
      let ys = members_in (texts ts) s (k + locals p) i₄ q in
      let count : k + locals (tree.branch at o v p q) ≡ k + locals p + locals q = omega (arith, length-append (local_types p) (local_types q)) in
      let second = scoped_part s₀ s (k + locals p) i₄ q rest t a parts.1 (below_more _ k (k + locals p) (omega arith) b) (omega (arith, l))
      (omega (arith, w, count)) (are_at _ _ rest count r) in
      let first = are_both k xs ys rest (scoped_part s₀ s k i₃ p (ys ++ rest) t a parts.0 b (omega (arith, l)) (omega (arith, w, count)) second) in
      let right = are_both k ws (xs ++ ys) rest (expr_scoped s₀ s k a b (omega (arith, w)) i₂ v ((xs ++ ys) ++ rest) two.0 (omega (arith, l)) first) in
      let left = are_both k vs (ws ++ (xs ++ ys)) rest (expr_scoped s₀ s k a b (omega (arith, w)) (i + 1) o ((ws ++ (xs ++ ys))
      ++ rest) one.0 (omega (arith, l)) right) in
      plain k (node.If (i + 1) i₂ i₃ i₄) ((vs ++ (ws ++ (xs ++ ys))) ++ rest) (omega (arith, w)) refl tt (omega (arith, l), (omega (arith, l), tt))
      (omega (arith, l), (omega (arith, l), tt)) left
  scoped_part s₀ s k i (tree.call at f xs) rest t a h b l w r =
      let parts = empty_parts (names_faults s₀ xs) _ h in
      let d = known s₀ at xs f ts ds t parts.1 in
      let o = is_found ts f d.template d.is in
      rw o.is (
        record {
          before = let less = def_below (texts ts) f o.number o.is in omega (arith, less, length-map ts (λ t. t.text));
          names = names_below s₀ s k a b (omega (arith, w)) xs parts.0;
          template = d.template;
          at = among.at o.number d.template o.at;
          arity = d.arity ∙ sym (length-map xs (λ x. number_in s x.name));
        },
        r,
      )
