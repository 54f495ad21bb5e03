-- What an order keeps: the least of each group, before and after a change, and the least of all.
use Rattle.std.proofs.Common.{arith, ◌≡◌, ◌≤◌, ◌<◌, IsTrue, IfSome, true, false, ℕ, List, sym, ◌∙◌, subst, Bool, refl, ap, ◌==◌, cond, Some, None, Option}
use mathlib.Core.Logic.{inl, inr}
use Rattle.cqp_order.specs.declared.stand.Stand.{Stand}
use Rattle.cqp_order.specs.Marks.{is_just, Renews}
use Rattle.cqp_order.specs.Groups.{Group, group_of, InGroup, IsKept}
use Rattle.cqp_order.specs.Least.{IsLeast}
use Rattle.cqp_order.specs.Stands.{IsActive, change, stand_at, IsChange, IsWithin}
use Rattle.std.proofs.lemmas.Option.{none-some}
use Rattle.cqp_order.proofs.NumberLemmas.{eq_yes, not_both}
use Rattle.cqp_order.proofs.SplitLemmas.{least_of}
use Rattle.cqp_order.proofs.GroupLemmas.{same_group, some_group, in_active, one_group, group_kept, group_is, kept_coming, kept_leaving}

-- there is one least
pub one_least : (P : ℕ → Type 0) (m : Option ℕ) (k : ℕ) → IsLeast P m → IsLeast P (Some k) → m ≡ Some k
one_least P None k none h = elim (none k h.0) [ ]
one_least P (Some n) k g h =
    let a : n ≤ k = g.1 k h.0 in
    let b : k ≤ n = h.1 n g.0 in
    let e : n ≡ k = grind arith in
    ap Some e

-- the number that is there
pub just : (m : Option ℕ) (k : ℕ) → is_just m k ≡ true → m ≡ Some k
just None k e = let f : false ≡ true = e in cc
just (Some n) k e = ap Some (eq_yes n k e)

-- a number that is there is that number
pub just_it : (k : ℕ) → is_just (Some k) k ≡ true
just_it k = grind arith

-- the least of the numbers is the least active part, and there is none where no part is active
pub least_active : (at : ℕ → Option Stand) (marked : ℕ → Bool) → IsKept at marked → (m : Option ℕ) → IsLeast (λ k. IsTrue (marked k)) m
    → IsLeast (IsActive at) m
least_active at marked kept None none = λ i x.
    let g = some_group at i x in
    no_lead g.0 i g.1 (kept.least g.0).0 (kept.least g.0).1 where
      no_lead : (g : Group) (i : ℕ) → InGroup at g i → (n : Option ℕ) → IsLeast (InGroup at g) n → ⊥
      no_lead g i x None l = l i x
      no_lead g i x (Some n) l = none n (kept.complete g n l)
least_active at marked kept (Some m) h = (
  in_active at (kept.sound m h.0).0 m (kept.sound m h.0).1.0,
  λ i x.
      let g = some_group at i x in
      above g.0 i g.1 (kept.least g.0).0 (kept.least g.0).1,
) where
  above : (g : Group) (i : ℕ) → InGroup at g i → (n : Option ℕ) → IsLeast (InGroup at g) n → m ≤ i
  above g i x None l = elim (l i x) [ ]
  above g i x (Some n) l =
      let a : m ≤ n = h.1 n (kept.complete g n l) in
      let b : n ≤ i = l.1 i x in
      grind arith

module _ (at to : ℕ → Option Stand) (g : Group) (old new : ℕ → Bool) (before after : Option ℕ)
    (up : (h : Group) → (g ≡ h → ⊥) → (i : ℕ) → InGroup at h i → InGroup to h i)
    (down : (h : Group) → (g ≡ h → ⊥) → (i : ℕ) → InGroup to h i → InGroup at h i)
    (was : IsLeast (InGroup at g) before) (is : IsLeast (InGroup to g) after) (renews : Renews old new before after) (kept : IsKept at old) where
  -- each group has a least part after the change
  pub least_after : (h : Group) → (m : Option ℕ) × IsLeast (InGroup to h) m
  least_after h = elim (same_group g h) [
    | inl e ↦ (after, subst (λ f. IsLeast (InGroup to f) after) e is)
    | inr n ↦ ((kept.least h).0, least_of (InGroup at h) (InGroup to h) (kept.least h).0 (up h n) (down h n) (kept.least h).1)
  ]

  -- a number that stays is of another group
  pub sound_old : (k : ℕ) → old k ≡ true → is_just before k ≡ false → (h : Group) × IsLeast (InGroup to h) (Some k)
  sound_old k e n =
      let s = kept.sound k e in
      elim (same_group g s.0) [
        | inl f ↦ (let l = subst (λ x. IsLeast (InGroup at x) (Some k)) (sym f) s.1 in
            elim (not_both _ (ap (λ m. is_just m k) (one_least _ before k was l) ∙ just_it k) n) [ ])
        | inr f ↦ (s.0, least_of (InGroup at s.0) (InGroup to s.0) (Some k) (up s.0 f) (down s.0 f) s.1)
      ]

  pub sound_after : (k : ℕ) → IsTrue (new k) → (h : Group) × IsLeast (InGroup to h) (Some k)
  sound_after k e = by_case (is_just after k) refl (old k) refl (is_just before k) refl where
    by_case : (a : Bool) → is_just after k ≡ a → (b : Bool) → old k ≡ b → (c : Bool) → is_just before k ≡ c → (h : Group) × IsLeast (InGroup to h) (Some k)
    by_case true x b y c z = (g, subst (IsLeast (InGroup to g)) (just after k x) is)
    by_case false x true y false z = sound_old k y z
    by_case false x b y true z = let f : false ≡ true = sym (renews k ∙ (rw x rw z refl)) ∙ e in cc
    by_case false x false y false z = let f : false ≡ true = sym (renews k ∙ (rw x rw z rw y refl)) ∙ e in cc

  -- the least of each group is among the numbers
  pub complete_after : (h : Group) (k : ℕ) → IsLeast (InGroup to h) (Some k) → IsTrue (new k)
  complete_after h k l = elim (same_group g h) [
    | inl e ↦ here (one_least (InGroup to g) after k is (subst (λ f. IsLeast (InGroup to f) (Some k)) (sym e) l))
    | inr n ↦ other n (least_of (InGroup to h) (InGroup at h) (Some k) (down h n) (up h n) l) (is_just before k) refl (is_just after k) refl
  ] where
    here : after ≡ Some k → IsTrue (new k)
    here e = renews k ∙ (let f : is_just after k ≡ true = ap (λ m. is_just m k) e ∙ just_it k in rw f refl)

    other : (g ≡ h → ⊥) → IsLeast (InGroup at h) (Some k) → (b : Bool) → is_just before k ≡ b → (a : Bool) → is_just after k ≡ a → IsTrue (new k)
    other n m b x true z = renews k ∙ (rw z refl)
    other n m true x false z = elim (n (one_group at g h k (subst (IsLeast (InGroup at g)) (just before k x) was).0 m.0)) [ ]
    other n m false x false z = renews k ∙ (rw z rw x (kept.complete h k m))

  -- so the numbers are kept
  pub kept_after : IsKept to new
  kept_after = record { least = least_after; sound = sound_after; complete = complete_after }

-- the part of a change stands as it says
pub changed_at : (at : ℕ → Option Stand) (k : ℕ) (w : Option Stand) → change k w at k ≡ w
changed_at at k w = let e : (k == k) ≡ true = grind arith in ap (λ b. cond b w (at k)) e

-- and others as before
pub changed_not : (at : ℕ → Option Stand) (k i : ℕ) (w : Option Stand) → (k ≡ i → ⊥) → change k w at i ≡ at i
changed_not at k i w n = by_case (k == i) refl where
  by_case : (b : Bool) → (k == i) ≡ b → cond b w (at i) ≡ at i
  by_case true e = elim (n (eq_yes k i e)) [ ]
  by_case false e = refl

module _ (at to : ℕ → Option Stand) (part : ℕ) (s : Stand) (old new : ℕ → Bool) (before after : Option ℕ)
    (renews : Renews old new before after) (kept : IsKept at old) (was : IsLeast (InGroup at (group_of part s)) before) where
  -- a part comes, and the least of its group is renewed
  pub kept_put : at part ≡ None → ((i : ℕ) → to i ≡ change part (Some s) at i) → IsLeast (InGroup to (group_of part s)) after → IsKept to new
  kept_put gone e is =
      let there = e part ∙ changed_at at part (Some s) in
      let rest = λ (k : ℕ) (n : part ≡ k → ⊥). e k ∙ changed_not at part k (Some s) n in
      kept_after at to (group_of part s) old new before after
      (λ h n. group_kept at to h (kept_coming at to part s gone there rest h n))
      (λ h n. group_kept to at h (kept_leaving at to part s gone there rest h n)) was is renews kept

  -- a part leaves, and the least of its group is renewed
  pub kept_take : at part ≡ Some s → ((i : ℕ) → to i ≡ change part None at i) → IsLeast (InGroup to (group_of part s)) after → IsKept to new
  kept_take there e is =
      let gone = e part ∙ changed_at at part None in
      let rest = λ (k : ℕ) (n : part ≡ k → ⊥). sym (e k ∙ changed_not at part k None n) in
      kept_after at to (group_of part s) old new before after
      (λ h n. group_kept at to h (kept_leaving to at part s gone there rest h n)) (λ h n. group_kept to at h (kept_coming to at part s gone there rest h n))
      was is renews kept

module _ (parts : List (ℕ × Stand)) (room : ℕ) (within : IsWithin parts room) where
  -- the least of a group is below the room
  pub lead_within : (g : Group) (m : Option ℕ) → IsLeast (InGroup (stand_at parts) g) m → IfSome m (λ k. k < room)
  lead_within g None l = tt
  lead_within g (Some k) l = let s = group_is (stand_at parts) g k l.0 in within k s.0 s.1

  -- a part below the room comes
  pub within_put : (new : List (ℕ × Stand)) (part : ℕ) (s : Stand) → part < room → IsChange parts new part (Some s) → IsWithin new room
  within_put new part s h e k t f = by_case (part == k) refl where
    by_case : (b : Bool) → (part == k) ≡ b → k < room
    by_case true g = subst (λ i. i < room) (eq_yes part k g) h
    by_case false g = within k t (sym (e k ∙ ap (λ b. cond b (Some s) (stand_at parts k)) g) ∙ f)

  -- a part leaves
  pub within_take : (new : List (ℕ × Stand)) (part : ℕ) → IsChange parts new part None → IsWithin new room
  within_take new part e k t f = by_case (part == k) refl where
    by_case : (b : Bool) → (part == k) ≡ b → k < room
    by_case true g = elim (none-some t (sym (e k ∙ ap (λ b. cond b None (stand_at parts k)) g) ∙ f)) [ ]
    by_case false g = within k t (sym (e k ∙ ap (λ b. cond b None (stand_at parts k)) g) ∙ f)
