-- A new qubit and a join keep what the groups stand for.
use Rattle.std.proofs.Common.{◌||◌, ◌≡◌, ◌≢◌, ℕ, suc, true, false, List, [], ◌∷◌, ◌++◌, ◌==◌, ◌+◌, ◌-◌, ◌*◌, ◌^◌, ◌<◌, length, nat_lt, Some, None, refl, sym}
use Rattle.std.proofs.Common.{ap, subst, arith, eq-eqb, ne_eqb, ◌∙◌, ⊎_elim, length-append, pow-add}
use Rattle.std.proofs.lemmas.Bool.{cases_Bool, or_from, false_from_ne_true, or_left, or_right}
use Rattle.std.proofs.lemmas.List.FromFn.{length-map-range_with_len}
use mathlib.Core.Logic.{dite}
use native.Mathlib.Decide.{ℕ_discrete}
use Rattle.cqp_book.specs.Keys.{has}
use Rattle.cqp_vector.specs.State.{State, grown}
use Rattle.cqp_vector.specs.Group.{product_of}
use Rattle.cqp_machine.specs.Factors.{Held, joined, new_group}
use Rattle.cqp_machine.specs.Cells.{Cells, with_at}
use Rattle.cqp_machine.specs.After.{lesser}
use Rattle.cqp_machine.specs.Sums.{sum_below, h_in, exponents}
use Rattle.cqp_local.proofs.KeyLemmas.{has-append}
use Rattle.cqp_places.specs.Places.{IsDistinct}
use Rattle.cqp_local.proofs.PlacedLemmas.{with_at_in, with_at_out}
use Rattle.cqp_cells.proofs.Options.{same_some, none_is_some}
use Rattle.cqp_fresh.specs.Partition.{Groups}
use Rattle.cqp_fresh.proofs.Partition.{found, name_made, one_more, own_new, two_joined, own_joined}
use Rattle.cqp_products.proofs.LeastHalf.{least_within, length-least}
use Rattle.cqp_products.specs.Reads.{IsShaped}
use Rattle.cqp_products.proofs.FixedLemmas.{nothing_fixed}
use Rattle.cqp_products.proofs.QubitEvent.{qubit_event}
use Rattle.cqp_products.proofs.JoinEvent.{join_event}
use Rattle.cqp_machine.proofs.SumLemmas.{same_sum, sum_changed}
use Rattle.cqp_norms.specs.StateStands.{IsGood, StateStands, changed}
use Rattle.cqp_norms.proofs.StateHalf.{same_reads}

module _ (c : Cells) (h : ℕ) (s : State) (x : StateStands c h s) where
  -- a new qubit
  new_exponents : exponents (s.qubits + 1) (changed c s.qubits (new_group s.qubits)) ≡ exponents s.qubits c
  new_exponents =
      let up : s.qubits + 1 ≡ suc s.qubits = omega arith in
      let same = same_sum s.qubits (λ g. h_in (with_at s.qubits (Some (new_group s.qubits)) c.groups g)) (λ g. h_in (c.groups g))
      (λ g t. ap h_in (with_at_out s.qubits g (Some (new_group s.qubits)) c.groups (ne_eqb g s.qubits (λ e. omega arith)))) in
      let last : h_in (with_at s.qubits (Some (new_group s.qubits)) c.groups s.qubits) ≡ 0 =
      ap h_in (with_at_in s.qubits s.qubits (Some (new_group s.qubits)) c.groups (eq-eqb s.qubits s.qubits refl)) in
      ap (λ n. sum_below n (λ g. h_in (with_at s.qubits (Some (new_group s.qubits)) c.groups g))) up ∙ omega arith

  -- each qubit is in its owner's group, the new one too
  new_covers : (q : ℕ) → q < s.qubits + 1
      → (F : Held) × (with_at s.qubits (Some (new_group s.qubits)) c.groups (own_new s.qubits c.groups x.own x.partition q) ≡ Some F) × (has q F.qubits ≡ true)
  new_covers q small = dite (ℕ_discrete q s.qubits)
      (λ (e : q ≡ s.qubits).
      let own : own_new s.qubits c.groups x.own x.partition q ≡ s.qubits = rw (eq-eqb q s.qubits e) refl in (
        new_group s.qubits,
        with_at_in s.qubits (own_new s.qubits c.groups x.own x.partition q) (Some (new_group s.qubits)) c.groups
            (eq-eqb (own_new s.qubits c.groups x.own x.partition q) s.qubits own),
        or_left (q == s.qubits) false (eq-eqb q s.qubits e),
      ))
      (λ (e : q ≢ s.qubits).
      let own : own_new s.qubits c.groups x.own x.partition q ≡ x.own q = rw (ne_eqb q s.qubits e) refl in
      let old = x.covers q (omega arith) in
      let below = name_made s.qubits c.groups x.own x.partition (x.own q) old.0 old.1 in (
        old.0,
        ap (with_at s.qubits (Some (new_group s.qubits)) c.groups) own
            ∙ (with_at_out s.qubits (x.own q) (Some (new_group s.qubits)) c.groups (ne_eqb (x.own q) s.qubits (λ z. omega arith)) ∙ old.1),
        old.2,
      ))

  -- with a new qubit's group the groups stand for the grown state
  pub qubit_stands : StateStands (changed c s.qubits (new_group s.qubits)) h (grown s)
  qubit_stands =
      let sums = new_exponents in
      record {
        own = own_new s.qubits c.groups x.own x.partition;
        partition = one_more s.qubits c.groups x.own x.partition;
        covers = new_covers;
        whole = length-map-range_with_len _ 0 (2 ^ (s.qubits + 1));
        good = λ i F t. ⊎_elim
            (λ (z : (i ≡ s.qubits) × (Some (new_group s.qubits) ≡ Some F)).
            subst IsGood (same_some {x = (new_group s.qubits)} {y = F} z.1)
            (record { shape = record { distinct = (refl, tt); whole = refl }; fixed = nothing_fixed (new_group s.qubits) refl; apart = tt }))
            (λ (z : (i ≢ s.qubits) × (c.groups i ≡ Some F)). x.good i F z.1)
            (found s.qubits i (Some (new_group s.qubits)) c.groups F t);
        within = omega (arith, x.within);
        reads = same_reads (grown s) (changed c s.qubits (new_group s.qubits)) (h - exponents s.qubits c)
            (h - exponents (s.qubits + 1) (changed c s.qubits (new_group s.qubits))) (omega arith)
            (qubit_event s c x.own x.partition (h - exponents s.qubits c) x.reads);
      }

  -- a join
  module _ (l r : ℕ) (apart : l ≢ r) (G H : Held) (first : c.groups l ≡ Some G) (second : c.groups r ≡ Some H) where
    -- the groups after the join
    abbrev joined_groups : Groups
    joined_groups = with_at (lesser l r) (Some (joined G H)) (with_at l None (with_at r None c.groups))

    -- the cells after the join
    abbrev joined_cells : Cells
    joined_cells = record c { groups = joined_groups }

    -- the sum of the exponents after the join
    joined_exponents : exponents s.qubits joined_cells + (G.h + H.h) ≡ exponents s.qubits c + (joined G H).h
    joined_exponents =
        let below = name_made s.qubits c.groups x.own x.partition l G first in
        let below_too = name_made s.qubits c.groups x.own x.partition r H second in
        let one = sum_changed s.qubits r (λ i. h_in (c.groups i)) (λ i. h_in (with_at r None c.groups i)) below_too
        (λ i other. ap h_in (with_at_out r i None c.groups (ne_eqb i r other))) in
        let one_is : h_in (with_at r None c.groups r) ≡ 0 = ap h_in (with_at_in r r None c.groups (eq-eqb r r refl)) in
        let r_is : h_in (c.groups r) ≡ H.h = ap h_in second in
        let two = sum_changed s.qubits l (λ i. h_in (with_at r None c.groups i)) (λ i. h_in (with_at l None (with_at r None c.groups) i)) below
        (λ i other. ap h_in (with_at_out l i None (with_at r None c.groups) (ne_eqb i l other))) in
        let two_is : h_in (with_at l None (with_at r None c.groups) l) ≡ 0 = ap h_in (with_at_in l l None (with_at r None c.groups) (eq-eqb l l refl)) in
        let l_is : h_in (with_at r None c.groups l) ≡ G.h = ap h_in (with_at_out r l None c.groups (ne_eqb l r apart) ∙ first) in
        let least_below : lesser l r < s.qubits = ⊎_elim
        (λ (t : nat_lt l r ≡ true). rw t below)
        (λ (t : nat_lt l r ≡ false). rw t below_too)
        (cases_Bool (nat_lt l r)) in
        let three = sum_changed s.qubits (lesser l r) (λ i. h_in (with_at l None (with_at r None c.groups) i)) (λ i. h_in (joined_groups i)) least_below
        (λ i other. ap h_in (with_at_out (lesser l r) i (Some (joined G H)) (with_at l None (with_at r None c.groups)) (ne_eqb i (lesser l r) other))) in
        let three_is : h_in (joined_groups (lesser l r)) ≡ (joined G H).h =
        ap h_in (with_at_in (lesser l r) (lesser l r) (Some (joined G H)) (with_at l None (with_at r None c.groups)) (eq-eqb (lesser l r) (lesser l r) refl)) in
        let none_there : h_in (with_at l None (with_at r None c.groups) (lesser l r)) ≡ 0 = gone in
        omega arith
      where
        gone : h_in (with_at l None (with_at r None c.groups) (lesser l r)) ≡ 0
        gone = ⊎_elim
            (λ (t : nat_lt l r ≡ true). rw t (ap h_in (with_at_in l l None (with_at r None c.groups) (eq-eqb l l refl))))
            (λ (t : nat_lt l r ≡ false). rw t (ap h_in (with_at_out l r None (with_at r None c.groups) (ne_eqb r l (λ e. apart (sym e)))
            ∙ with_at_in r r None c.groups (eq-eqb r r refl))))
            (cases_Bool (nat_lt l r))

    -- lists with nothing in common
    appended : (xs ys : List ℕ) → IsDistinct xs → IsDistinct ys → ((q : ℕ) → has q xs ≡ true → has q ys ≡ true → ⊥) → IsDistinct (xs ++ ys)
    appended [] ys d e none = e
    appended (q ∷ xs) ys d e none = (
      has-append q xs ys ∙ or_from (has q xs) (has q ys) d.0 (false_from_ne_true (has q ys) (λ t. none q (or_left (q == q) (has q xs) (eq-eqb q q refl)) t)),
      appended xs ys d.1 e (λ z a b. none z (or_right (z == q) (has z xs) a) b),
    )

    -- the joined group has all its places
    joined_shape : IsShaped (joined G H)
    joined_shape =
        let one = (x.good l G first).shape in
        let two = (x.good r H second).shape in
        record {
          distinct =
              appended G.qubits H.qubits one.distinct two.distinct (λ q a b. apart (sym ((x.partition.each l G first).owned q a)
              ∙ (x.partition.each r H second).owned q b));
          whole = length-least (product_of G.nums H.nums) (G.h + H.h) ∙ (length-map-range_with_len _ 0 (length G.nums * length H.nums)
              ∙ (rw (one.whole, two.whole) (sym (ap (λ n. 2 ^ n) (length-append G.qubits H.qubits) ∙ pow-add 2 (length G.qubits) (length H.qubits)))));
        }

    -- each qubit is in its owner's group
    joined_covers : (q : ℕ) → q < s.qubits
        → (F : Held) × (joined_groups (own_joined s.qubits c.groups x.own x.partition l r G H first second q) ≡ Some F) × (has q F.qubits ≡ true)
    joined_covers q small = let old = x.covers q small in dite (ℕ_discrete (x.own q) l)
        (λ (e : x.own q ≡ l).
        let is : old.0 ≡ G = same_some {x = old.0} {y = G} (sym old.1 ∙ (ap c.groups e ∙ first)) in
        let in_it : has q G.qubits ≡ true = subst (λ F. has q F.qubits ≡ true) is old.2 in
        in_joined q (or_left (x.own q == l) (x.own q == r) (eq-eqb (x.own q) l e)) (has-append q G.qubits H.qubits
        ∙ or_left (has q G.qubits) (has q H.qubits) in_it))
        (λ (e : x.own q ≢ l). dite (ℕ_discrete (x.own q) r)
        (λ (z : x.own q ≡ r).
        let is : old.0 ≡ H = same_some {x = old.0} {y = H} (sym old.1 ∙ (ap c.groups z ∙ second)) in
        let in_it : has q H.qubits ≡ true = subst (λ F. has q F.qubits ≡ true) is old.2 in
        in_joined q (or_right (x.own q == l) (x.own q == r) (eq-eqb (x.own q) r z)) (has-append q G.qubits H.qubits
        ∙ or_right (has q G.qubits) (has q H.qubits) in_it))
        (λ (z : x.own q ≢ r).
        let own : own_joined s.qubits c.groups x.own x.partition l r G H first second q ≡ x.own q = rw (ne_eqb (x.own q) l e, ne_eqb (x.own q) r z) refl in
        let not_least : x.own q ≢ lesser l r = λ w. ⊎_elim
        (λ (t : nat_lt l r ≡ true). e (rw t at w))
        (λ (t : nat_lt l r ≡ false). z (rw t at w))
        (cases_Bool (nat_lt l r)) in (
          old.0,
          ap joined_groups own
              ∙ (with_at_out (lesser l r) (x.own q) (Some (joined G H)) (with_at l None (with_at r None c.groups)) (ne_eqb (x.own q) (lesser l r) not_least)
              ∙ (with_at_out l (x.own q) None (with_at r None c.groups) (ne_eqb (x.own q) l e)
              ∙ (with_at_out r (x.own q) None c.groups (ne_eqb (x.own q) r z) ∙ old.1))),
          old.2,
        )))
      where
        in_joined : (q : ℕ) → ((x.own q == l) || (x.own q == r)) ≡ true → has q (G.qubits ++ H.qubits) ≡ true
            → (F : Held) × (joined_groups (own_joined s.qubits c.groups x.own x.partition l r G H first second q) ≡ Some F) × (has q F.qubits ≡ true)
        in_joined q t u =
            let own : own_joined s.qubits c.groups x.own x.partition l r G H first second q ≡ lesser l r = rw t refl in (
              joined G H,
              ap joined_groups own
                  ∙ with_at_in (lesser l r) (lesser l r) (Some (joined G H)) (with_at l None (with_at r None c.groups)) (eq-eqb (lesser l r) (lesser l r) refl),
              u,
            )

    -- the joined groups stand for the same state
    pub join_stands : StateStands joined_cells h s
    join_stands =
        let sums = joined_exponents in
        let less = least_within (product_of G.nums H.nums) (G.h + H.h) in
        let reads =
        join_event s c x.own x.partition (h - exponents s.qubits c) x.reads l r apart G H first second (x.good l G first).shape (x.good r H second).shape in
        record {
          own = own_joined s.qubits c.groups x.own x.partition l r G H first second;
          partition = two_joined s.qubits c.groups x.own x.partition l r G H first second;
          covers = joined_covers;
          whole = x.whole;
          good = λ i F t. ⊎_elim
              (λ (z : (i ≡ lesser l r) × (Some (joined G H) ≡ Some F)). subst IsGood (same_some {x = (joined G H)} {y = F} z.1)
              (record { shape = joined_shape; fixed = nothing_fixed (joined G H) refl; apart = tt }))
              (λ (z : (i ≢ lesser l r) × (with_at l None (with_at r None c.groups) i ≡ Some F)). ⊎_elim
              (λ (w : (i ≡ l) × (None ≡ Some F)). absurd (none_is_some {x = F} w.1))
              (λ (w : (i ≢ l) × (with_at r None c.groups i ≡ Some F)). ⊎_elim
              (λ (v : (i ≡ r) × (None ≡ Some F)). absurd (none_is_some {x = F} v.1))
              (λ (v : (i ≢ r) × (c.groups i ≡ Some F)). x.good i F v.1)
              (found r i None c.groups F w.1))
              (found l i None (with_at r None c.groups) F z.1))
              (found (lesser l r) i (Some (joined G H)) (with_at l None (with_at r None c.groups)) F t);
          within = omega (arith, x.within);
          reads =
              same_reads s joined_cells (h - exponents s.qubits c + (G.h + H.h - (joined G H).h)) (h - exponents s.qubits joined_cells)
              (omega (arith, x.within)) reads;
        }
