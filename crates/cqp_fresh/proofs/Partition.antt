-- The groups share out the qubits that were made, and each is named by one of its qubits.
use Rattle.std.proofs.Common.{◌≡◌, ◌≢◌, ◌⊎◌, inl, inr, ℕ, true, false, [], ◌∷◌, ◌++◌, ◌==◌, ◌||◌, ◌+◌, ◌<◌, if◌then◌else◌, Option, Some, None, refl, sym, subst}
use Rattle.std.proofs.Common.{arith, eq-eqb, ne_eqb, ◌∙◌, ⊎_elim, nat_lt}
use Rattle.std.proofs.lemmas.Bool.{cases_Bool, or_cases, or_left, or_right, eqb-true}
use mathlib.Core.Logic.{dite}
use native.Mathlib.Decide.{ℕ_discrete}
use Rattle.cqp_book.specs.Keys.{has}
use Rattle.cqp_machine.specs.Factors.{Held, new_group, joined}
use Rattle.cqp_machine.specs.Cells.{with_at}
use Rattle.cqp_machine.specs.After.{lesser}
use Rattle.cqp_local.proofs.KeyLemmas.{has-append}
use Rattle.cqp_local.proofs.PlacedLemmas.{with_at_in, with_at_out}
use Rattle.cqp_cells.proofs.Options.{same_some, none_is_some}
use Rattle.cqp_fresh.specs.Partition.{Groups, IsOwn, IsPartition}

-- a map with one change: what is found was put there, or was there before
pub found : (k g : ℕ) (x : Option Held) (m : Groups) (H : Held) → with_at k x m g ≡ Some H → ((g ≡ k) × (x ≡ Some H)) ⊎ ((g ≢ k) × (m g ≡ Some H))
found k g x m H h = dite (ℕ_discrete g k)
    (λ (e : g ≡ k). inl (e, sym (with_at_in k g x m (eq-eqb g k e)) ∙ h))
    (λ (e : g ≢ k). inr (e, sym (with_at_out k g x m (ne_eqb g k e)) ∙ h))

-- a group's name was made
pub name_made : (n : ℕ) (m : Groups) (own : ℕ → ℕ) → IsPartition n m own → (g : ℕ) (G : Held) → m g ≡ Some G → g < n
name_made n m own p g G h = (p.each g G h).made g (p.each g G h).named

-- nothing at first
pub nothing_owned : (m : Groups) → ((g : ℕ) → m g ≡ None) → IsPartition 0 m (λ q. q)
nothing_owned m none = record {
  fresh = λ g h. none g;
  each = λ g G h. absurd (none_is_some {x = G} (sym (none g) ∙ h));
}

module _ (n : ℕ) (m : Groups) (own : ℕ → ℕ) (p : IsPartition n m own) where
  -- the owners with the new qubit
  abbrev pub own_new : ℕ → ℕ
  own_new q = if q == n then n else own q

  -- the owners of the other qubits stay
  old_owner : (q : ℕ) → q < n → own_new q ≡ own q
  old_owner q h = rw (ne_eqb q n (λ e. omega arith)) refl

  -- what is in a list of one is that one
  just_it : (q : ℕ) → has q (n ∷ []) ≡ true → q ≡ n
  just_it q h = eqb-true q n (⊎_elim (λ z. z) (λ z. cc) (or_cases (q == n) false h))

  -- the new qubit's group has it alone
  alone_own : (g : ℕ) → g ≡ n → IsOwn (n + 1) own_new g (new_group n)
  alone_own g e = record {
    named = rw (eq-eqb g n e) refl;
    owned = λ q h. rw (eq-eqb q n (just_it q h)) (sym e);
    made = λ q h. let same = just_it q h in omega arith;
    due_in = λ q h. cc;
  }

  -- the other groups have what they had
  old_own : (g : ℕ) (G : Held) → m g ≡ Some G → IsOwn (n + 1) own_new g G
  old_own g G h = let o = p.each g G h in record {
    named = o.named;
    owned = λ q t. old_owner q (o.made q t) ∙ o.owned q t;
    made = λ q t. let below = o.made q t in omega arith;
    due_in = o.due_in;
  }

  -- a new qubit's group is one more
  pub one_more : IsPartition (n + 1) (with_at n (Some (new_group n)) m) own_new
  one_more = record {
    fresh = λ g h. with_at_out n g (Some (new_group n)) m (ne_eqb g n (λ e. omega arith)) ∙ p.fresh g (omega arith);
    each = λ g H h. ⊎_elim
        (λ (t : (g ≡ n) × (Some (new_group n) ≡ Some H)). subst (λ G. IsOwn (n + 1) own_new g G) (same_some {x = (new_group n)} {y = H} t.1) (alone_own g t.0))
        (λ (t : (g ≢ n) × (m g ≡ Some H)). old_own g H t.1)
        (found n g (Some (new_group n)) m H h);
  }

  -- a group that keeps its qubits
  pub one_changed : (k : ℕ) (G H : Held) → m k ≡ Some G → H.qubits ≡ G.qubits → ((q : ℕ) → has q H.due ≡ true → has q G.qubits ≡ true)
      → IsPartition n (with_at k (Some H) m) own
  one_changed k G H there same due = record {
    fresh = λ g h. with_at_out k g (Some H) m (ne_eqb g k (λ e. let below = name_made n m own p k G there in omega arith)) ∙ p.fresh g h;
    each = λ g F h. ⊎_elim
        (λ (t : (g ≡ k) × (Some H ≡ Some F)). subst (λ X. IsOwn n own g X) (same_some {x = H} {y = F} t.1) (changed g t.0))
        (λ (t : (g ≢ k) × (m g ≡ Some F)). p.each g F t.1)
        (found k g (Some H) m F h);
  }
    where
      o : IsOwn n own k G
      o = p.each k G there

      changed : (g : ℕ) → g ≡ k → IsOwn n own g H
      changed g e = record {
        named = rw (same, e) o.named;
        owned = λ q t. o.owned q (subst (λ xs. has q xs ≡ true) same t) ∙ sym e;
        made = λ q t. o.made q (subst (λ xs. has q xs ≡ true) same t);
        due_in = λ q t. subst (λ xs. has q xs ≡ true) (sym same) (due q t);
      }

  -- two groups that become one
  module _ (l r : ℕ) (G H : Held) (first : m l ≡ Some G) (second : m r ≡ Some H) where
    -- the owners where two groups are one
    abbrev pub own_joined : ℕ → ℕ
    own_joined q = if (own q == l) || (own q == r) then lesser l r else own q

    -- the left group has what the partition says
    left : IsOwn n own l G
    left = p.each l G first

    -- so has the right group
    right : IsOwn n own r H
    right = p.each r H second

    -- a qubit of the left group is owned by the joined one
    from_left : (q : ℕ) → own q ≡ l → own_joined q ≡ lesser l r
    from_left q e = rw (eq-eqb (own q) l e) refl

    -- so is one of the right group
    from_right : (q : ℕ) → own q ≡ r → own_joined q ≡ lesser l r
    from_right q e = let t : ((own q == l) || (own q == r)) ≡ true = or_right (own q == l) (own q == r) (eq-eqb (own q) r e) in rw t refl

    -- any other keeps its owner
    from_other : (q g : ℕ) → own q ≡ g → g ≢ l → g ≢ r → own_joined q ≡ g
    from_other q g e x y = rw (e, ne_eqb g l x, ne_eqb g r y) refl

    -- the joined group has the name of one of both
    lesser_is : (lesser l r ≡ l) ⊎ (lesser l r ≡ r)
    lesser_is = ⊎_elim (λ (t : nat_lt l r ≡ true). inl (rw t refl)) (λ (t : nat_lt l r ≡ false). inr (rw t refl)) (cases_Bool (nat_lt l r))

    -- a qubit of the joined group is in one of both
    in_both : (q : ℕ) → has q (G.qubits ++ H.qubits) ≡ true → (has q G.qubits ≡ true) ⊎ (has q H.qubits ≡ true)
    in_both q h = or_cases (has q G.qubits) (has q H.qubits) (sym (has-append q G.qubits H.qubits) ∙ h)

    -- its name is one of its qubits
    named_joined : (g : ℕ) → g ≡ lesser l r → has g (G.qubits ++ H.qubits) ≡ true
    named_joined g e = ⊎_elim
        (λ (t : lesser l r ≡ l). has-append g G.qubits H.qubits ∙ or_left (has g G.qubits) (has g H.qubits) (rw (e ∙ t) left.named))
        (λ (t : lesser l r ≡ r). has-append g G.qubits H.qubits ∙ or_right (has g G.qubits) (has g H.qubits) (rw (e ∙ t) right.named))
        lesser_is

    -- the joined group has the qubits of both
    joined_own : (g : ℕ) → g ≡ lesser l r → IsOwn n own_joined g (joined G H)
    joined_own g e = record {
      named = named_joined g e;
      owned = λ q h. ⊎_elim
          (λ (t : has q G.qubits ≡ true). from_left q (left.owned q t) ∙ sym e)
          (λ (t : has q H.qubits ≡ true). from_right q (right.owned q t) ∙ sym e)
          (in_both q h);
      made = λ q h. ⊎_elim (left.made q) (right.made q) (in_both q h);
      due_in = λ q h. cc;
    }

    -- the other groups have what they had
    other_own : (g : ℕ) (F : Held) → m g ≡ Some F → g ≢ l → g ≢ r → IsOwn n own_joined g F
    other_own g F h x y = let o = p.each g F h in record {
      named = o.named;
      owned = λ q t. from_other q g (o.owned q t) x y;
      made = o.made;
      due_in = o.due_in;
    }

    -- the groups after the join
    abbrev joined_map : Groups
    joined_map = with_at (lesser l r) (Some (joined G H)) (with_at l None (with_at r None m))

    -- they share out the qubits that were made
    pub two_joined : IsPartition n joined_map own_joined
    two_joined = record {
      fresh = λ g h.
          let l_below = name_made n m own p l G first in
          let r_below = name_made n m own p r H second in
          with_at_out (lesser l r) g (Some (joined G H)) (with_at l None (with_at r None m))
          (ne_eqb g (lesser l r) (λ e. ⊎_elim (λ (t : lesser l r ≡ l). omega arith) (λ (t : lesser l r ≡ r). omega arith) lesser_is))
          ∙ (with_at_out l g None (with_at r None m) (ne_eqb g l (λ e. omega arith))
          ∙ (with_at_out r g None m (ne_eqb g r (λ e. omega arith)) ∙ p.fresh g h));
      each = λ g F h. ⊎_elim
          (λ (t : (g ≡ lesser l r) × (Some (joined G H) ≡ Some F)). subst (λ X. IsOwn n own_joined g X) (same_some {x = (joined G H)} {y = F} t.1)
          (joined_own g t.0))
          (λ (t : (g ≢ lesser l r) × (with_at l None (with_at r None m) g ≡ Some F)). ⊎_elim
          (λ (u : (g ≡ l) × (None ≡ Some F)). absurd (none_is_some {x = F} u.1))
          (λ (u : (g ≢ l) × (with_at r None m g ≡ Some F)). ⊎_elim
          (λ (v : (g ≡ r) × (None ≡ Some F)). absurd (none_is_some {x = F} v.1))
          (λ (v : (g ≢ r) × (m g ≡ Some F)). other_own g F v.1 u.0 v.0)
          (found r g None m F u.1))
          (found l g None (with_at r None m) F t.1))
          (found (lesser l r) g (Some (joined G H)) (with_at l None (with_at r None m)) F h);
    }
