-- Renamings: two in turn are one, and two that agree on a process's names rename it alike.
use Rattle.std.proofs.Common.{◌≡◌, ℕ, List, [], ◌∷◌, ◌++◌, map, true, ◌&&◌, ◌==◌, refl, ap, ap₂, subst, inl, inr}
use Rattle.std.proofs.lemmas.List.{map-append}
use Rattle.std.specs.List.{list_all}
use Rattle.cqp_syntax.specs.Trees.{Slot, named, valued, Expr, slot, sig, add, apply, measure}
use Rattle.cqp_syntax.specs.Trees.{Binder, Process, nil, par, new, qbit, act, input, output, branch}
use Rattle.cqp_syntax.specs.Binders.{binders_of}
use Rattle.cqp_syntax.specs.Scope.{is_bound, is_scoped_expr, is_scoped}
use Rattle.cqp_expand.specs.Renaming.{rename_slot, rename_binder, rename_expr, rename}
use Rattle.cqp_expand.proofs.Bools.{either}
use Rattle.cqp_syntax.proofs.Bools.{both}
use Rattle.cqp_expand.proofs.Renamed.{same_name}

module _ (r q : ℕ → ℕ) where
  -- one renaming after another
  abbrev pub then_ : ℕ → ℕ
  then_ x = r (q x)

  -- two renamings of a slot in turn are one
  slot_twice : (s : Slot) → rename_slot r (rename_slot q s) ≡ rename_slot then_ s
  slot_twice (named x) = refl
  slot_twice (valued v) = refl

  -- so are two of slots
  slots_twice : (qs : List Slot) → map (rename_slot r) (map (rename_slot q) qs) ≡ map (rename_slot then_) qs
  slots_twice [] = refl
  slots_twice (s ∷ qs) = ap₂ (λ a as_. a ∷ as_) (slot_twice s) (slots_twice qs)

  -- and two of binders
  binders_twice : (bs : List Binder) → map (rename_binder r) (map (rename_binder q) bs) ≡ map (rename_binder then_) bs
  binders_twice [] = refl
  binders_twice (b ∷ bs) = ap (λ as_. rename_binder then_ b ∷ as_) (binders_twice bs)

  -- and two of an expression
  expr_twice : (e : Expr) → rename_expr r (rename_expr q e) ≡ rename_expr then_ e
  expr_twice (slot s) = ap slot (slot_twice s)
  expr_twice (sig e) = ap sig (expr_twice e)
  expr_twice (add e f) = ap₂ add (expr_twice e) (expr_twice f)
  expr_twice (apply qs e) = ap₂ apply (slots_twice qs) (expr_twice e)
  expr_twice (measure qs) = ap measure (slots_twice qs)

  -- and two of expressions
  exprs_twice : (es : List Expr) → map (rename_expr r) (map (rename_expr q) es) ≡ map (rename_expr then_) es
  exprs_twice [] = refl
  exprs_twice (e ∷ es) = ap₂ (λ a as_. a ∷ as_) (expr_twice e) (exprs_twice es)

  -- two renamings in turn are one
  pub rename_twice : (p : Process) → rename r (rename q p) ≡ rename then_ p
  rename_twice nil = refl
  rename_twice (par p o) = ap₂ par (rename_twice p) (rename_twice o)
  rename_twice (new b p) = ap (λ z. new (rename_binder then_ b) z) (rename_twice p)
  rename_twice (qbit x p) = ap (λ z. qbit (then_ x) z) (rename_twice p)
  rename_twice (act e p) = ap₂ act (expr_twice e) (rename_twice p)
  rename_twice (input c bs p) = rw (slot_twice c, binders_twice bs, rename_twice p) refl
  rename_twice (output c es p) = rw (slot_twice c, exprs_twice es, rename_twice p) refl
  rename_twice (branch e f p o) = rw (expr_twice e, expr_twice f, rename_twice p, rename_twice o) refl

  -- they agree on these names
  abbrev pub AgreeOn : List ℕ → Type 0
  AgreeOn [] = Unit {0}
  AgreeOn (x ∷ xs) = (r x ≡ q x) × AgreeOn xs

  -- and on what is among these
  pub record AgreeIn (xs : List ℕ) : Type 0 where
    pub at : (x : ℕ) → is_bound xs (named x) ≡ true → r x ≡ q x

  -- renamings that agree on one name more
  agree_with : (x : ℕ) (xs : List ℕ) → r x ≡ q x → AgreeIn xs → AgreeIn (x ∷ xs)
  agree_with x xs e a = record { at = at }
    where
      at : (y : ℕ) → is_bound (x ∷ xs) (named y) ≡ true → r y ≡ q y
      at y h = elim (either (y == x) (is_bound xs (named y)) h) [
        | inl g ↦ let same = same_name y x g in rw same e
        | inr g ↦ a.at y g
      ]

  -- renamings that agree on names before others
  agree_all : (ys xs : List ℕ) → AgreeOn ys → AgreeIn xs → AgreeIn (ys ++ xs)
  agree_all [] xs o a = a
  agree_all (y ∷ ys) xs o a = agree_with y (ys ++ xs) o.0 (agree_all ys xs o.1 a)

  -- renamings that agree on two lists of names agree on each
  agree_front : (ys zs : List ℕ) → AgreeOn (ys ++ zs) → AgreeOn ys × AgreeOn zs
  agree_front [] zs o = (tt, o)
  agree_front (y ∷ ys) zs o = let more = agree_front ys zs o.1 in ((o.0, more.0), more.1)

  -- where renamings agree on the names around, they rename a bound slot alike
  slot_agrees : (xs : List ℕ) (s : Slot) → AgreeIn xs → is_bound xs s ≡ true → rename_slot r s ≡ rename_slot q s
  slot_agrees xs (named x) a h = ap named (a.at x h)
  slot_agrees xs (valued v) a h = refl

  -- and bound slots
  slots_agree : (xs : List ℕ) (qs : List Slot) → AgreeIn xs → list_all (is_bound xs) qs ≡ true → map (rename_slot r) qs ≡ map (rename_slot q) qs
  slots_agree xs [] a h = refl
  slots_agree xs (s ∷ qs) a h =
      let parts = both (is_bound xs s) (list_all (is_bound xs) qs) h in
      ap₂ (λ y ys. y ∷ ys) (slot_agrees xs s a parts.0) (slots_agree xs qs a parts.1)

  -- where they agree on the names of binders, they rename these alike
  binders_agree : (bs : List Binder) → AgreeOn (map (λ b. b.name) bs) → map (rename_binder r) bs ≡ map (rename_binder q) bs
  binders_agree [] o = refl
  binders_agree (b ∷ bs) o = ap₂ (λ x bs_. record { name = x; ty = b.ty } ∷ bs_) o.0 (binders_agree bs o.1)

  -- where they agree on the names around, they rename an expression alike
  expr_agrees : (xs : List ℕ) (e : Expr) → AgreeIn xs → is_scoped_expr xs e ≡ true → rename_expr r e ≡ rename_expr q e
  expr_agrees xs (slot (named x)) a h = ap (λ y. slot (named y)) (a.at x h)
  expr_agrees xs (slot (valued v)) a h = refl
  expr_agrees xs (sig e) a h = ap sig (expr_agrees xs e a h)
  expr_agrees xs (add e f) a h =
      let parts = both (is_scoped_expr xs e) (is_scoped_expr xs f) h in
      ap₂ add (expr_agrees xs e a parts.0) (expr_agrees xs f a parts.1)
  expr_agrees xs (apply qs e) a h =
      let parts = both (list_all (is_bound xs) qs) (is_scoped_expr xs e) h in
      ap₂ apply (slots_agree xs qs a parts.0) (expr_agrees xs e a parts.1)
  expr_agrees xs (measure qs) a h = ap measure (slots_agree xs qs a h)

  -- and expressions
  exprs_agree : (xs : List ℕ) (es : List Expr) → AgreeIn xs → list_all (is_scoped_expr xs) es ≡ true → map (rename_expr r) es ≡ map (rename_expr q) es
  exprs_agree xs [] a h = refl
  exprs_agree xs (e ∷ es) a h =
      let parts = both (is_scoped_expr xs e) (list_all (is_scoped_expr xs) es) h in
      ap₂ (λ y ys. y ∷ ys) (expr_agrees xs e a parts.0) (exprs_agree xs es a parts.1)

  -- the names of binders
  names : List Binder → List ℕ
  names bs = map (λ b. b.name) bs

  -- renamings that agree on a process's names rename it alike
  pub process_agrees : (xs : List ℕ) (p : Process) → AgreeIn xs → AgreeOn (map (λ b. b.name) (binders_of p)) → is_scoped xs p ≡ true → rename r p ≡ rename q p
  process_agrees xs nil a o h = refl
  process_agrees xs (par p t) a o h =
      let parts = both (is_scoped xs p) (is_scoped xs t) h in
      let two = agree_front (map (λ b. b.name) (binders_of p)) (map (λ b. b.name) (binders_of t)) (subst AgreeOn (map-append (λ b. b.name)
      (binders_of p) (binders_of t)) o) in
      ap₂ par (process_agrees xs p a two.0 parts.0) (process_agrees xs t a two.1 parts.1)
  process_agrees xs (new b p) a o h = ap₂ (λ x z. new (record { name = x; ty = b.ty }) z) o.0 (process_agrees (b.name ∷ xs) p
      (agree_with b.name xs o.0 a) o.1 h)
  process_agrees xs (qbit x p) a o h = ap₂ qbit o.0 (process_agrees (x ∷ xs) p (agree_with x xs o.0 a) o.1 h)
  process_agrees xs (act e p) a o h =
      let parts = both (is_scoped_expr xs e) (is_scoped xs p) h in
      ap₂ act (expr_agrees xs e a parts.0) (process_agrees xs p a o parts.1)
  process_agrees xs (input c bs p) a o h =
      let own = map (λ b. b.name) bs in
      let parts = both (is_bound xs c) (is_scoped (own ++ xs) p) h in
      let two = agree_front own (map (λ b. b.name) (binders_of p)) (subst AgreeOn (map-append (λ b. b.name) bs (binders_of p)) o) in
      let body = process_agrees (own ++ xs) p (agree_all own xs two.0 a) two.1 parts.1 in
      rw (slot_agrees xs c a parts.0, binders_agree bs two.0, body) refl
  process_agrees xs (output c es p) a o h =
      let parts = both (is_bound xs c && list_all (is_scoped_expr xs) es) (is_scoped xs p) h in
      let first = both (is_bound xs c) (list_all (is_scoped_expr xs) es) parts.0 in
      rw (slot_agrees xs c a first.0, exprs_agree xs es a first.1, process_agrees xs p a o parts.1) refl
  process_agrees xs (branch e f p t) a o h =
      let parts = both (is_scoped_expr xs e && is_scoped_expr xs f && is_scoped xs p) (is_scoped xs t) h in
      let three = both (is_scoped_expr xs e && is_scoped_expr xs f) (is_scoped xs p) parts.0 in
      let tested = both (is_scoped_expr xs e) (is_scoped_expr xs f) three.0 in
      let two = agree_front (map (λ b. b.name) (binders_of p)) (map (λ b. b.name) (binders_of t)) (subst AgreeOn (map-append (λ b. b.name)
      (binders_of p) (binders_of t)) o) in
      rw (expr_agrees xs e a tested.0, expr_agrees xs f a tested.1, process_agrees xs p a two.0 three.1, process_agrees xs t a two.1 parts.1) refl
