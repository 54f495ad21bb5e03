-- Steps of the law that members spread to a copy: heads, parts one behind another, expressions.
use Rattle.std.proofs.Common.{◌≡◌, ℕ, suc, zero, ◌+◌, ◌≤◌, List, [], ◌∷◌, ◌++◌, map, length, refl, ap, ap₂, sym, ◌∙◌, subst, arith, append_assoc}
use Rattle.std.proofs.lemmas.List.{map-append}
use Rattle.std.specs.List.{AllByRecursion}
use Rattle.cqp_syntax.specs.declared.node.Node.{Node}
use Rattle.cqp_syntax.specs.declared.val.Val.TheVariants as val
use Rattle.cqp_syntax.specs.Trees.{named, valued, Expr, slot, sig, add, apply, measure}
use Rattle.cqp_syntax.specs.Preorder.{expr_nodes, exprs_nodes, name_of}
use Rattle.cqp_expand.specs.declared.outline.Member.{Member}
use Rattle.cqp_expand.specs.declared.outline.Member.TheVariants.{Own}
use Rattle.cqp_expand.specs.Expansion.{Template}
use Rattle.cqp_expand.specs.Moved.{moved}
use Rattle.cqp_expand.specs.Spread.{binds, nodes_of, Fits}

-- no node binds a name
abbrev pub BindNone : List Node → Type 0
BindNone xs = AllByRecursion (λ x. binds x ≡ []) xs

-- two parts
bind_none_both : (xs ys : List Node) → BindNone xs → BindNone ys → BindNone (xs ++ ys)
bind_none_both [] ys h g = g
bind_none_both (x ∷ xs) ys h g = (h.0, bind_none_both xs ys h.1 g)

-- an expression binds no name
pub expr_binds_none : (e : Expr) (i : ℕ) → BindNone (expr_nodes i e)
expr_binds_none (slot (named x)) i = (refl, tt)
expr_binds_none (slot (valued (val.Num v))) i = (refl, tt)
expr_binds_none (slot (valued val.Unit)) i = (refl, tt)
expr_binds_none (slot (valued (val.Gate op))) i = (refl, tt)
expr_binds_none (slot (valued (val.Qubit q))) i = (refl, tt)
expr_binds_none (slot (valued (val.Chan c))) i = (refl, tt)
expr_binds_none (sig e) i = (refl, expr_binds_none e _)
expr_binds_none (add e f) i = (refl, bind_none_both (expr_nodes _ e) (expr_nodes _ f) (expr_binds_none e _) (expr_binds_none f _))
expr_binds_none (apply qs e) i = (refl, expr_binds_none e _)
expr_binds_none (measure qs) i = (refl, tt)

-- nor do expressions
pub exprs_bind_none : (es : List Expr) (i : ℕ) → BindNone (exprs_nodes i es)
exprs_bind_none [] i = tt
exprs_bind_none (e ∷ es) i = bind_none_both (expr_nodes i e) (exprs_nodes _ es) (expr_binds_none e i) (exprs_bind_none es _)

-- the names of slots
pub names_back : (ns : List ℕ) → map name_of (map named ns) ≡ ns
names_back [] = refl
names_back (n ∷ ns) = ap (λ xs. n ∷ xs) (names_back ns)

-- nodes in two parts
pub own_append : (xs ys : List Node) (rest : List Member) → map Own (xs ++ ys) ++ rest ≡ map Own xs ++ (map Own ys ++ rest)
own_append xs ys rest = ap (λ z. z ++ rest) (map-append Own xs ys) ∙ append_assoc (map Own xs) (map Own ys) rest

-- c numbers from i on go to those from j on
pub record Steps (m : ℕ → ℕ) (i j c : ℕ) : Type 0 where
  pub at : (k : ℕ) → k ≤ c → m (i + k) ≡ j + k

-- so do those from a later one on
pub steps_later : (m : ℕ → ℕ) (i j a b c : ℕ) → a + b ≤ c → Steps m i j c → Steps m (i + a) (j + a) b
steps_later m i j a b c h s = record { at = at }
  where
    at : (k : ℕ) → k ≤ b → m (i + a + k) ≡ j + a + k
    at k g =
        let here : i + a + k ≡ i + (a + k) = omega arith in
        let there : j + a + k ≡ j + (a + k) = omega arith in
        rw (here, there) (s.at (a + k) (omega arith))

module _ (ts : List Template) (r m : ℕ → ℕ) where
  -- members from node i on, below n names, spread to these nodes, the first of which has number j; behind
  -- them go on other members
  pub record Spread (n i : ℕ) (xs : List Member) (ns : List Node) (n' i' j' : ℕ) (rest : List Member) : Type 0 where
    pub nodes : nodes_of ts r m n i (xs ++ rest) ≡ ns ++ nodes_of ts r m n' i' rest
    pub fits : Fits ts r m n' i' rest
    pub end : m i' ≡ j'

  -- the same with other words for the numbers
  pub fits_at : (n n' i i' : ℕ) (xs : List Member) → n ≡ n' → i ≡ i' → Fits ts r m n i xs → Fits ts r m n' i' xs
  fits_at n n' i i' xs e g h = subst (λ k. Fits ts r m n' k xs) g (subst (λ k. Fits ts r m k i xs) e h)

  -- the nodes with other words for the numbers
  pub nodes_at : (n n' i i' : ℕ) (xs : List Member) → n ≡ n' → i ≡ i' → nodes_of ts r m n i xs ≡ nodes_of ts r m n' i' xs
  nodes_at n n' i i' xs e g = ap₂ (λ a b. nodes_of ts r m a b xs) e g

  -- the same with other words for the numbers behind them
  pub cast : (n i : ℕ) (xs : List Member) (ns : List Node) (n' n'' i' i'' j' j'' : ℕ) (rest : List Member) → n' ≡ n'' → i' ≡ i'' → j' ≡ j''
      → Spread n i xs ns n' i' j' rest → Spread n i xs ns n'' i'' j'' rest
  cast n i xs ns n' n'' i' i'' j' j'' rest e g h s = record {
    nodes = s.nodes ∙ ap (λ z. ns ++ z) (nodes_at n' n'' i' i'' rest e g);
    fits = fits_at n' n'' i' i'' rest e g s.fits;
    end = ap m (sym g) ∙ s.end ∙ h;
  }

  -- one part behind another
  pub assoc : (n i : ℕ) (xs ys rest : List Member) → Fits ts r m n i ((xs ++ ys) ++ rest) → Fits ts r m n i (xs ++ (ys ++ rest))
  assoc n i xs ys rest h = subst (Fits ts r m n i) (append_assoc xs ys rest) h

  -- parts that spread one behind another
  pub with_both : (n i n' i' j' n'' i'' j'' : ℕ) (xs ys rest : List Member) (ns ms : List Node) → Spread n i xs ns n' i' j' (ys ++ rest)
      → Spread n' i' ys ms n'' i'' j'' rest
      → Spread n i (xs ++ ys) (ns ++ ms) n'' i'' j'' rest
  with_both n i n' i' j' n'' i'' j'' xs ys rest ns ms s t = record {
    nodes = ap (nodes_of ts r m n i) (append_assoc xs ys rest) ∙ s.nodes ∙ ap (λ z. ns ++ z) t.nodes ∙ sym (append_assoc ns ms (nodes_of ts r m n'' i'' rest));
    fits = t.fits;
    end = t.end;
  }

  -- the first member, which is a node
  pub record Head (n i n' j : ℕ) (x : Node) (xs : List Member) : Type 0 where
    pub nodes : nodes_of ts r m n i (Own x ∷ xs) ≡ moved r m x ∷ nodes_of ts r m n' (i + 1) xs
    pub fits : Fits ts r m n' (i + 1) xs
    pub next : m (i + 1) ≡ j + 1

  -- it fits where all members do
  pub head : (n i n' j : ℕ) (x : Node) (xs : List Member) → n + length (binds x) ≡ n' → Fits ts r m n i (Own x ∷ xs) → m i ≡ j → Head n i n' j x xs
  head n i n' j x xs e h g = record {
    nodes = ap (λ z. moved r m x ∷ z) (nodes_at _ n' (i + 1) (i + 1) xs e refl);
    fits = fits_at _ n' (i + 1) (i + 1) xs e refl h.2;
    next = h.1 ∙ ap (λ k. k + 1) g;
  }

  -- a node before members that spread
  pub with_head : (n i n' j n'' i'' j'' : ℕ) (x y : Node) (xs rest : List Member) (ns : List Node) → Head n i n' j x (xs ++ rest) → moved r m x ≡ y
      → Spread n' (i + 1) xs ns n'' i'' j'' rest → Spread n i (Own x ∷ xs) (y ∷ ns) n'' i'' j'' rest
  with_head n i n' j n'' i'' j'' x y xs rest ns b e s = record {
    nodes = b.nodes ∙ ap₂ (λ a as_. a ∷ as_) e s.nodes;
    fits = s.fits;
    end = s.end;
  }

  -- nodes that bind no name
  pub own_part : (n i j : ℕ) (xs : List Node) (rest : List Member) → BindNone xs → Fits ts r m n i (map Own xs ++ rest) → m i ≡ j
      → Spread n i (map Own xs) (map (moved r m) xs) n (i + length xs) (j + length xs) rest
  own_part n i j [] rest b h g = cast n i [] [] n n i (i + 0) j (j + 0) rest refl (omega arith) (omega arith) (record { nodes = refl; fits = h; end = g })
  own_part n i j (x ∷ xs) rest b h g =
      let same : n + length (binds x) ≡ n = rw b.0 (omega arith) in
      let first = head n i n j x (map Own xs ++ rest) same h g in
      let later = own_part n (i + 1) (j + 1) xs rest b.1 first.fits first.next in
      cast n i _ _ n n (i + 1 + length xs) (i + length (x ∷ xs)) (j + 1 + length xs) (j + length (x ∷ xs)) rest refl (omega arith) (omega arith)
      (with_head n i n j n _ _ x (moved r m x) (map Own xs) rest (map (moved r m) xs) first refl later)

  -- and their numbers stand behind one another
  pub own_steps : (n i j : ℕ) (xs : List Node) (rest : List Member) → Fits ts r m n i (map Own xs ++ rest) → m i ≡ j → Steps m i j (length xs)
  own_steps n i j [] rest h g = record { at = at }
    where
      at : (k : ℕ) → k ≤ 0 → m (i + k) ≡ j + k
      at k l =
          let none : k ≡ 0 = omega arith in
          let here : i + k ≡ i = omega arith in
          let there : j + k ≡ j = omega arith in
          rw (here, there) g
  own_steps n i j (x ∷ xs) rest h g = record { at = at (own_steps (n + length (binds x)) (i + 1) (j + 1) xs rest h.2 (h.1 ∙ ap (λ k. k + 1) g)) }
    where
      at : Steps m (i + 1) (j + 1) (length xs) → (k : ℕ) → k ≤ length (x ∷ xs) → m (i + k) ≡ j + k
      at s zero l =
          let here : i + 0 ≡ i = omega arith in
          let there : j + 0 ≡ j = omega arith in
          rw (here, there) g
      at s (suc k) l =
          let here : i + suc k ≡ i + 1 + k = omega arith in
          let there : j + suc k ≡ j + 1 + k = omega arith in
          rw (here, there) (s.at k (omega arith))
