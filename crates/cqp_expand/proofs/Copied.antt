-- Law: what an outline's members spread to is a copy of its definition's template.
use Rattle.std.proofs.Common.{◌≡◌, ℕ, ◌+◌, ◌<◌, List, [], ◌∷◌, ◌++◌, map, length, slice_index, nat_lt, true, refl, ap, ap₂, sym, ◌∙◌, subst, arith}
use Rattle.std.proofs.Common.{length-append, append_assoc, append-nil}
use Rattle.std.proofs.lemmas.Bool.Decides.{nat_tests}
use Rattle.std.proofs.lemmas.List.{length-map}
use Rattle.std.specs.List.{AllByRecursion}
use Rattle.cqp_syntax.specs.declared.ty.Ty.{Ty}
use Rattle.cqp_syntax.specs.TypeTrees.{TypeTree, type_at}
use Rattle.cqp_syntax.specs.Binders.{binders_of}
use Rattle.cqp_syntax.specs.Preorder.{process_nodes}
use Rattle.cqp_grammar.specs.Trees.{Parameter, ProcessTree}
use Rattle.cqp_program.specs.Listing.{process_size, process_offsets}
use Rattle.cqp_expand.specs.declared.outline.Outline.{Outline}
use Rattle.cqp_expand.specs.Scopes.{Scope, below_all}
use Rattle.cqp_expand.specs.Renaming.{rename}
use Rattle.cqp_expand.specs.Expansion.{Template, binder_count, argument_or_later, process_in, offsets_in}
use Rattle.cqp_expand.specs.Faults.{Signature, process_faults}
use Rattle.cqp_expand.specs.Members.{locals, local_types, members_in}
use Rattle.cqp_expand.specs.Spread.{Fits, nodes_of, types_of, offsets_from}
use Rattle.cqp_expand.specs.Outlines.{IsOutline}
use Rattle.cqp_expand.proofs.Templates.{AreTemplates}
use Rattle.cqp_expand.proofs.Numbering.{later_name}
use Rattle.cqp_expand.proofs.Closing as closing
use Rattle.cqp_expand.proofs.Closing.{Alike}
use Rattle.cqp_expand.proofs.Environments.{Renames, Shifts, process_copied}
use Rattle.cqp_expand.proofs.Found.{texts, Among}
use Rattle.cqp_expand.proofs.Lengths.{length-members_in, length-process_offsets}
use Rattle.cqp_expand.proofs.Made.{index_behind}
use Rattle.cqp_expand.proofs.Scoped.{Below, params_below, scoped_part}
use Rattle.cqp_expand.proofs.ScopedMembers.{Scoped}
use Rattle.cqp_expand.proofs.Spreads.{process_part}
use Rattle.cqp_expand.proofs.SpreadTypes.{Typed, types_part, offsets_part}
use Rattle.cqp_expand.proofs.Small.{same_first, same_rest}

-- a scope is alike itself
alike_self : (s : Scope) → Alike s s
alike_self [] = tt
alike_self (b ∷ s) = (refl, alike_self s)

-- a scope with renamed numbers
abbrev renamed : (ℕ → ℕ) → Scope → Scope
renamed r [] = []
renamed r (b ∷ s) = record { text = b.text; number = r b.number; ty = b.ty } ∷ renamed r s

-- it renames the scope
renames_by : (r q : ℕ → ℕ) (c : ℕ) (s : Scope) → Below c (closing.names_in s) → ((x : ℕ) → x < c → q x ≡ r x) → Renames q s (renamed r s)
renames_by r q c [] b h = tt
renames_by r q c (d ∷ s) b h = (refl, sym (h d.number b.0), renames_by r q c s b.1 h)

-- names with these types behind others
typed_behind : (f : ℕ → TypeTree) (xs ys : List ℕ) (ts : List TypeTree) → map f ys ≡ ts → Typed (λ x. f (slice_index (xs ++ ys) x)) (length xs) ts
typed_behind f xs [] [] e = tt
typed_behind f xs [] (t ∷ ts) e = absurd (filled t ts e)
  where
    filled : (t : TypeTree) (ts : List TypeTree) → [] ≡ t ∷ ts → ⊥
    filled t ts e = cc
typed_behind f xs (y ∷ ys) [] e = absurd (filled _ _ e)
  where
    filled : (t : TypeTree) (ts : List TypeTree) → t ∷ ts ≡ [] → ⊥
    filled t ts e = cc
typed_behind f xs (y ∷ ys) (t ∷ ts) e =
    let first : f y ≡ t = same_first _ _ _ _ e in
    let later = typed_behind f (xs ++ y ∷ []) ys ts (same_rest _ _ _ _ e) in
    let is : (xs ++ y ∷ []) ++ ys ≡ xs ++ y ∷ ys = append_assoc xs (y ∷ []) ys in
    let longer : length (xs ++ y ∷ []) ≡ length xs + 1 = length-append xs (y ∷ []) in (
      ap f (index_behind xs ys (length xs) y refl) ∙ first,
      subst (λ zs. Typed (λ x. f (slice_index zs x)) (length xs + 1) ts) is (subst (λ k. Typed (λ x. f (slice_index ((xs ++ y ∷ [])
          ++ ys) x)) k ts) longer later),
    )

-- the names behind the parameters have the types of the binders
typed_made : (f : ℕ → TypeTree) (zs xs : List ℕ) (ys ts : List TypeTree) (k : ℕ) → k ≡ length ys → map f zs ≡ ys ++ ts
    → Typed (λ x. f (slice_index (xs ++ zs) x)) (length xs + k) ts
typed_made f zs xs [] ts k e h =
    let is : length xs ≡ length xs + k = omega (arith, e) in
    subst (λ j. Typed (λ x. f (slice_index (xs ++ zs) x)) j ts) is (typed_behind f xs zs ts h)
typed_made f [] xs (y ∷ ys) ts k e h = absurd (filled _ _ h)
  where
    filled : (t : TypeTree) (ts : List TypeTree) → [] ≡ t ∷ ts → ⊥
    filled t ts e = cc
typed_made f (z ∷ zs) xs (y ∷ ys) ts k e h =
    let longer : length (xs ++ z ∷ []) + length ys ≡ length xs + k = omega (arith, e, length-append xs (z ∷ [])) in
    let is : (xs ++ z ∷ []) ++ zs ≡ xs ++ z ∷ zs = append_assoc xs (z ∷ []) zs in
    let later = typed_made f zs (xs ++ z ∷ []) ys ts (length ys) refl (same_rest _ _ _ _ h) in
    subst (λ ws. Typed (λ x. f (slice_index ws x)) (length xs + k) ts) is (subst (λ j. Typed (λ x. f (slice_index ((xs ++ z ∷ []) ++ zs) x)) j ts) longer later)

-- arguments stand in the places of parameters
argument : (args : List ℕ) (n x : ℕ) → x < length args → argument_or_later args n x ≡ slice_index args x
argument args n x h =
    let here : nat_lt x (length args) ≡ true = grind (arith, nat_tests) in
    rw here refl

-- the template of the process below the parameters
pub record IsOf (ts : List Template) (ps : List Parameter) (p : ProcessTree) (t : Template) : Type 0 where
  pub arity : t.arity ≡ length ps
  pub body : t.body ≡ process_in ts (below_all [] 0 ps) (length ps) p
  pub at : t.at ≡ offsets_in ts p

-- the outline is one of the template
pub record IsCopied (all : List Template) (types : List Ty) (defs : ℕ) (d : Outline) (t : Template) : Type 0 where
  pub nodes : (args : List ℕ) (n j : ℕ) (r m : ℕ → ℕ) → length args ≡ t.arity → ((x : ℕ) → x < t.arity → r x ≡ slice_index args x)
      → Fits all r m n 0 d.members.items → m 0 ≡ j → nodes_of all r m n 0 d.members.items ≡ process_nodes j (rename (argument_or_later args n) t.body)
  pub bound : types_of all (λ x. type_at types (slice_index d.ty_of.items x)) d.members.items ≡ map (λ b. b.ty) (binders_of t.body)
  pub offsets : offsets_from all d.members.items d.at.items ≡ t.at
  pub scoped : Scoped all defs (length d.members.items) (length d.ty_of.items) t.arity d.members.items
  pub placed : length d.at.items ≡ length d.members.items
  pub typed : AllByRecursion (λ k. k < length types) d.ty_of.items

module _ (all ts : List Template) (among : Among ts all) (ds : List Signature) (types : List Ty) (before : List Outline)
    (ps : List Parameter) (p : ProcessTree) (d : Outline) (t : Template) where
  -- the scope below the parameters
  abbrev scope : Scope
  scope = below_all [] 0 ps

  -- the types of the names
  abbrev ty_of : ℕ → TypeTree
  ty_of x = type_at types (slice_index d.ty_of.items x)

  -- the numbers of the parameters
  numbers_below : Below (length ps) (closing.names_in scope)
  numbers_below = subst (λ k. Below k (closing.names_in scope)) (add_first (length ps)) (params_below [] 0 ps tt)
    where
      add_first : (a : ℕ) → 0 + a ≡ a
      add_first a = omega arith

  -- the nodes
  copied_nodes : IsOutline types before (texts ts) ps p d → IsOf ts ps p t → AreTemplates ts ds → process_faults ds scope p ≡ []
      → (args : List ℕ) (n j : ℕ) (r m : ℕ → ℕ) → length args ≡ t.arity
      → ((x : ℕ) → x < t.arity → r x ≡ slice_index args x) → Fits all r m n 0 d.members.items → m 0 ≡ j
      → nodes_of all r m n 0 d.members.items ≡ process_nodes j (rename (argument_or_later args n) t.body)
  copied_nodes i o a h args n j r m c agree f e =
      let q = argument_or_later args n in
      let u = renamed q scope in
      let k = length ps in
      let count : length args ≡ k = c ∙ o.arity in
      let there = renames_by q q k scope numbers_below (λ x l. refl) in
      let here = renames_by q r k scope numbers_below (λ x l. agree x (omega (arith, l, o.arity)) ∙ sym (argument args n x (omega (arith, l, count)))) in
      let shift : Shifts q k n (binder_count (process_in ts scope k p)) = record { at = λ b l. ap (λ z. q (z + b)) (sym count) ∙ later_name args n b } in
      let copy = process_copied q ts ds scope scope u k n p a (alike_self scope) there h shift in
      let xs = members_in (texts ts) scope k 0 p in
      let fit = subst (Fits all r m n 0) (i.members ∙ sym (append-nil xs)) f in
      let part = process_part all ts among r m ds scope scope u k n 0 j p [] a (alike_self scope) here h fit e in
      ap (nodes_of all r m n 0) (i.members ∙ sym (append-nil xs)) ∙ part.nodes ∙ append-nil (process_nodes j (process_in ts u n p))
      ∙ ap (process_nodes j) (sym copy) ∙ ap (λ z. process_nodes j (rename q z)) (sym o.body)

  -- a body's outline tells how each copy of its template looks
  pub copied : IsOutline types before (texts ts) ps p d → IsOf ts ps p t → AreTemplates ts ds → process_faults ds scope p ≡ []
      → IsCopied all types (length ts) d t
  copied i o a h =
      let k = length ps in
      let xs = members_in (texts ts) scope k 0 p in
      let count : length (map (λ q. q.ty) ps) ≡ k = length-map ps (λ q. q.ty) in
      let total : length d.ty_of.items ≡ k + locals p = sym (length-map d.ty_of.items (type_at types)) ∙ ap length i.types
      ∙ length-append (map (λ q. q.ty) ps) (local_types p) ∙ ap (λ z. z + locals p) count in
      let typed = typed_made (type_at types) d.ty_of.items [] (map (λ q. q.ty) ps) (local_types p) k (sym count) i.types in
      let first : 0 + k ≡ k = omega arith in
      let size : length d.members.items ≡ process_size p = ap length i.members ∙ length-members_in (texts ts) scope k 0 p in
      record {
        nodes = copied_nodes i o a h;
        bound = ap (types_of all ty_of) (i.members ∙ sym (append-nil xs))
            ∙ types_part all ts among ds ty_of scope scope scope k k 0 p [] a h (subst (λ z. Typed ty_of z (local_types p)) first typed)
            ∙ append-nil _ ∙ ap (λ z. map (λ b. b.ty) (binders_of z)) (sym o.body);
        offsets = ap₂ (offsets_from all) (i.members ∙ sym (append-nil xs)) (i.at ∙ sym (append-nil (process_offsets p)))
            ∙ offsets_part all ts among ds scope scope k 0 p [] [] a h
            ∙ append-nil (offsets_in ts p) ∙ sym o.at;
        scoped = rw (o.arity, ap (Scoped all (length ts) (length d.members.items) (length d.ty_of.items) k) (i.members ∙ sym (append-nil xs)))
            (scoped_part all ts among ds (length d.members.items) (length d.ty_of.items) scope scope k 0 p [] a (alike_self scope) h numbers_below
            (omega (arith, size)) (omega (arith, total)) tt);
        placed = ap length i.at ∙ length-process_offsets p ∙ sym (length-members_in (texts ts) scope k 0 p) ∙ sym (ap length i.members);
        typed = i.numbered;
      }
