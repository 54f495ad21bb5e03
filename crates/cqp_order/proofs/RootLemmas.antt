-- The root of a tree of least marks has the least mark.
use Rattle.std.proofs.Common.{arith, ◌≡◌, ◌≤◌, ◌<◌, ◌+◌, ◌-◌, ◌*◌, ◌/◌, ◌⊎◌, IsTrue, true, false, ℕ, zero, suc, List, length, sym}
use Rattle.std.proofs.Common.{◌∙◌, subst, Bool, refl, ap, cond, Some, None, Option, nat_le, is_some}
use mathlib.Core.Logic.{inl, inr}
use Rattle.std.proofs.lemmas.Option.{none-some}
use Rattle.std.proofs.lemmas.Bool.{cases_lt}
use Rattle.std.proofs.lemmas.List.{get_or_past}
use Rattle.cqp_order.specs.Least.{IsLeast}
use Rattle.cqp_order.specs.Marks.{node, lesser, is_marked, IsTree}

-- the lesser of two marks is one of them
pub lesser_one : (a b : Option ℕ) (m : ℕ) → lesser a b ≡ Some m → (a ≡ Some m) ⊎ (b ≡ Some m)
lesser_one None b m e = inr e
lesser_one (Some x) None m e = inl e
lesser_one (Some x) (Some y) m e = by_case (nat_le x y) e where
  by_case : (t : Bool) → Some (cond t x y) ≡ Some m → (Some x ≡ Some m) ⊎ (Some y ≡ Some m)
  by_case true f = inl f
  by_case false f = inr f

-- and at most each
pub lesser_first : (a b : Option ℕ) (m : ℕ) → a ≡ Some m → (r : ℕ) × (lesser a b ≡ Some r) × (r ≤ m)
lesser_first None b m e = elim (none-some m e) [ ]
lesser_first (Some x) None m e = (m, e, grind arith)
lesser_first (Some x) (Some y) m e = by_case (nat_le x y) refl where
  by_case : (t : Bool) → nat_le x y ≡ t → (r : ℕ) × (Some (cond t x y) ≡ Some r) × (r ≤ m)
  by_case true f = (m, e, grind arith)
  by_case false f = (y, refl, (let g : x ≡ m = cc in grind arith))

-- the lesser of two is at most the second
pub lesser_second : (a b : Option ℕ) (m : ℕ) → b ≡ Some m → (r : ℕ) × (lesser a b ≡ Some r) × (r ≤ m)
lesser_second a None m e = elim (none-some m e) [ ]
lesser_second None (Some y) m e = (m, e, grind arith)
lesser_second (Some x) (Some y) m e = by_case (nat_le x y) refl where
  by_case : (t : Bool) → nat_le x y ≡ t → (r : ℕ) × (Some (cond t x y) ≡ Some r) × (r ≤ m)
  by_case true f = (x, refl, (let g : y ≡ m = cc in grind arith))
  by_case false f = (m, e, grind arith)

-- half a number, and what is left
pub halves : (i : ℕ) → (i ≡ 2 * (i / 2)) ⊎ (i ≡ 2 * (i / 2) + 1)
halves i = elim (cases_lt (2 * (i / 2)) i) [ inl h ↦ inr (grind arith) | inr h ↦ inl (grind arith) ]

module _ (tree : List (Option ℕ)) (room : ℕ) (t : IsTree tree room) where
  -- the root's mark is at most a node's
  pub root_below : (fuel i m : ℕ) → i ≤ fuel → 0 < i → i < room + room → node tree i ≡ Some m → (r : ℕ) × (node tree 1 ≡ Some r) × (r ≤ m)
  root_below zero i m h p q e = let f : ⊥ = grind arith in elim f [ ]
  root_below (suc n) i m h p q e = elim (cases_lt 1 i) [
    | inr one ↦ (m, (let f : i ≡ 1 = grind arith in subst (λ j. node tree j ≡ Some m) f e), grind arith)
    | inl more ↦
        let up = t.inner (i / 2) (grind arith) (grind arith) in
        let next : (r : ℕ) × (lesser (node tree (2 * (i / 2))) (node tree (2 * (i / 2) + 1)) ≡ Some r) × (r ≤ m) = elim (halves i) [
          | inl f ↦ lesser_first (node tree (2 * (i / 2))) (node tree (2 * (i / 2) + 1)) m (subst (λ j. node tree j ≡ Some m) f e)
          | inr f ↦ lesser_second (node tree (2 * (i / 2))) (node tree (2 * (i / 2) + 1)) m (subst (λ j. node tree j ≡ Some m) f e)
        ] in
        let found = root_below n (i / 2) next.0 (grind arith) (grind arith) (grind arith) (up ∙ next.1) in
        (found.0, found.1, (let a : found.0 ≤ next.0 = found.2 in let b : next.0 ≤ m = next.2 in grind arith))
  ]

  -- a node's mark is a leaf's
  pub leaf_below : (fuel i m : ℕ) → room + room ≤ fuel + i → 0 < i → i < room + room → node tree i ≡ Some m → node tree (room + m) ≡ Some m
  leaf_below zero i m h p q e = let f : ⊥ = grind arith in elim f [ ]
  leaf_below (suc n) i m h p q e = elim (cases_lt i room) [
    | inr leaf ↦
        let at : room + (i - room) ≡ i = grind arith in
        let own = t.leaf (i - room) m (grind arith) (subst (λ j. node tree j ≡ Some m) (sym at) e) in
        subst (λ j. node tree j ≡ Some m) (sym (ap (λ k. room + k) own ∙ at)) e
    | inl inner ↦ elim (lesser_one _ _ m (sym (t.inner i p inner) ∙ e)) [
      | inl f ↦ leaf_below n (2 * i) m (grind arith) (grind arith) (grind arith) f
      | inr f ↦ leaf_below n (2 * i + 1) m (grind arith) (grind arith) (grind arith) f
    ]
  ]

  -- a leaf with a mark has its own number, and stands in the tree
  pub mark_is : (k : ℕ) (o : Option ℕ) → node tree (room + k) ≡ o → is_some o ≡ true → (k < room) × (node tree (room + k) ≡ Some k)
  mark_is k None e f = let g : false ≡ true = f in cc
  mark_is k (Some m) e f =
      let inside : k < room = elim (cases_lt k room) [
        | inl h ↦ h
        | inr h ↦ (
            let z : length tree ≡ room + room = t.size in
            let past : length tree ≤ room + k = grind arith in
            elim (none-some m (sym (get_or_past tree (room + k) None past) ∙ e)) [ ])
      ] in
      (inside, e ∙ ap Some (t.leaf k m inside e))

  -- so the root has the least mark
  pub root_least : (o : Option ℕ) → node tree 1 ≡ o → IsLeast (λ k. IsTrue (is_marked (tree, room) k)) o
  root_least None e = λ k h.
      let m = mark_is k _ refl h in
      let r = root_below (room + k) (room + k) k (grind arith) (let z : 0 < room = t.some in grind arith) (let z : k < room = m.0 in grind arith) m.1 in
      none-some r.0 (sym e ∙ r.1)
  root_least (Some m) e = (
    (let z : 0 < room = t.some in ap is_some (leaf_below (room + room) 1 m (grind arith) (grind arith) (grind arith) e)),
    λ k h.
        let w = mark_is k _ refl h in
        let r = root_below (room + k) (room + k) k (grind arith) (let z : 0 < room = t.some in grind arith) (let z : k < room = w.0 in grind arith) w.1 in
        let a : Some m ≡ Some r.0 = sym e ∙ r.1 in
        let b : m ≡ r.0 = cc in
        let d : r.0 ≤ k = r.2 in
        grind arith,
  )
