-- A split keeps what the groups stand for.
use Rattle.std.proofs.Common.{◌≡◌, ◌≢◌, ℕ, true, false, Bool, List, ◌∷◌, ◌==◌, ◌+◌, ◌-◌, ◌≤◌, ◌<◌, not, nat_lt, length, Some, None, refl, sym, ap, subst, arith}
use Rattle.std.proofs.Common.{eq-eqb, ne_eqb, ◌∙◌, ⊎_elim}
use Rattle.std.proofs.lemmas.Bool.{cases_Bool, eqb-true, both_ways, false_from_ne_true, or_left, ltb-true, ltb-false, lt-ltb}
use mathlib.Core.Logic.{dite}
use native.Mathlib.Decide.{ℕ_discrete}
use Rattle.cqp_book.specs.Keys.{has}
use Rattle.cqp_vector.specs.State.{State}
use Rattle.cqp_machine.specs.Factors.{Held, index_of, rest_of, rest_group, piece_of, has_scalar}
use Rattle.cqp_machine.specs.Cells.{Cells, with_at}
use Rattle.cqp_machine.specs.Enabled.{name_of_rest}
use Rattle.cqp_machine.specs.After.{with_pieces, with_rest}
use Rattle.cqp_machine.specs.Sums.{exponents}
use Rattle.cqp_local.proofs.PlacedLemmas.{with_at_in, with_at_out}
use Rattle.cqp_places.specs.Places.{IsDistinct}
use Rattle.cqp_places.proofs.PlaceLemmas.{index_within}
use Rattle.cqp_cells.proofs.Options.{same_some, none_is_some}
use Rattle.cqp_fresh.specs.Partition.{Groups, IsOwn}
use Rattle.cqp_fresh.proofs.Partition.{found, name_made}
use Rattle.cqp_fresh.proofs.Splits.{stays_in, piece_qubits, pieces_found, one_split, own_split}
use Rattle.cqp_local.proofs.GroupMaps.{pieces_out}
use Rattle.cqp_norms.proofs.NormHalf.{has-filter}
use Rattle.cqp_norms.specs.StateStands.{StateStands, IsGood}
use Rattle.cqp_norms.proofs.StateHalf.{same_reads}
use Rattle.cqp_fresh.proofs.NewLaw.{no_group}
use Rattle.cqp_splits.proofs.SplitReads.{split_reads, rest_named}
use Rattle.cqp_splits.proofs.SplitSums.{sum, sum_put, sum_taken, pieces_sum, scalar_h, no_exponents, piece_good, rest_good, pieces_at}

module _ (c : Cells) (h : ℕ) (s : State) (x : StateStands c h s) (k : ℕ) (G : Held) (there : c.groups k ≡ Some G)
    (q0 : ℕ) (qs0 : List ℕ) (due : G.due ≡ q0 ∷ qs0) (rest : ℕ) (rest_is : rest ≡ name_of_rest k (rest_of G.qubits (q0 ∷ qs0))) where
  -- the measured qubits
  abbrev qs : List ℕ
  qs = q0 ∷ qs0

  -- the groups without the one that is split
  abbrev emptied : Groups
  emptied = with_at k None c.groups

  -- those with the pieces
  abbrev pieces : Groups
  pieces = with_pieces (q0 ∷ qs0) G (q0 ∷ qs0) (with_at k None c.groups)

  -- the groups after the split
  abbrev split : Groups
  split = with_rest (q0 ∷ qs0) G rest (with_pieces (q0 ∷ qs0) G (q0 ∷ qs0) (with_at k None c.groups))

  -- whether qubits stay
  abbrev stay : Bool
  stay = nat_lt 0 (length (rest_of G.qubits (q0 ∷ qs0)))

  -- the group has all its places, and its outcome is fixed
  good : IsGood G
  good = x.good k G there

  -- the measured qubits are distinct
  distinct : IsDistinct (q0 ∷ qs0)
  distinct = subst IsDistinct due good.apart

  -- the group has what the partition says
  o : IsOwn s.qubits x.own k G
  o = x.partition.each k G there

  -- a measured qubit is in the group
  pub in_group : (q : ℕ) → has q (q0 ∷ qs0) ≡ true → has q G.qubits ≡ true
  in_group q t = o.due_in q (subst (λ xs. has q xs ≡ true) (sym due) t)

  -- no other group is named by one of its qubits
  pub none_there : (q : ℕ) → has q G.qubits ≡ true → with_at k None c.groups q ≡ None
  none_there q t = dite (ℕ_discrete q k)
      (λ (z : q ≡ k). with_at_in k q None c.groups (eq-eqb q k z))
      (λ (z : q ≢ k). with_at_out k q None c.groups (ne_eqb q k z)
      ∙ no_group (c.groups q) (λ H u. let other = x.partition.each q H u in z (sym (other.owned q other.named) ∙ o.owned q t)))

  -- the rest is named by a qubit that stays
  pub rest_in : stay ≡ true → (has rest G.qubits ≡ true) × (has rest (q0 ∷ qs0) ≡ false)
  rest_in t =
      stays_in rest G.qubits (q0 ∷ qs0) (subst (λ r. has r (rest_of G.qubits (q0 ∷ qs0)) ≡ true) (sym rest_is) (rest_named k (rest_of G.qubits (q0 ∷ qs0)) t))

  -- the exponents' sum stays
  below : k < s.qubits
  below = name_made s.qubits c.groups x.own x.partition k G there

  -- the exponents have the same sum
  pub same_sum_of : sum s.qubits split ≡ sum s.qubits c.groups
  same_sum_of =
      let taken = sum_taken s.qubits k G c.groups below there in
      let put =
      pieces_sum s.qubits (q0 ∷ qs0) G (q0 ∷ qs0) (with_at k None c.groups) distinct (λ q t. o.made q (in_group q t)) (λ q t. none_there q (in_group q t)) in
      ⊎_elim
      (λ (t : stay ≡ true).
      let r = rest_in t in
      let empty : pieces rest ≡ None = pieces_out (q0 ∷ qs0) G (q0 ∷ qs0) (with_at k None c.groups) rest r.1 ∙ none_there rest r.0 in
      let some : 0 < length (rest_of G.qubits (q0 ∷ qs0)) = ltb-true 0 (length (rest_of G.qubits (q0 ∷ qs0))) t in
      let counted : (length (rest_of G.qubits (q0 ∷ qs0)) == 0) ≡ false = ne_eqb (length (rest_of G.qubits (q0 ∷ qs0))) 0 (λ z. omega arith) in
      let plain = no_exponents (q0 ∷ qs0) G (q0 ∷ qs0) (λ q u. rw counted refl) in
      let one = sum_put s.qubits rest (rest_group (q0 ∷ qs0) G) pieces (o.made rest r.0) empty in
      let all : sum s.qubits (with_at rest (Some (rest_group (q0 ∷ qs0) G)) pieces) ≡ sum s.qubits c.groups = omega arith in
      rw t all)
      (λ (t : stay ≡ false).
      let none : length (rest_of G.qubits (q0 ∷ qs0)) ≤ 0 = ltb-false 0 (length (rest_of G.qubits (q0 ∷ qs0))) t in
      let counted : (length (rest_of G.qubits (q0 ∷ qs0)) == 0) ≡ true = eq-eqb (length (rest_of G.qubits (q0 ∷ qs0))) 0 (omega arith) in
      let same : (q0 == q0) ≡ true = eq-eqb q0 q0 refl in
      let scalar : has_scalar (q0 ∷ qs0) G q0 ≡ true = rw (counted, same) refl in
      let first = scalar_h (q0 ∷ qs0) G q0 scalar in
      let plain = no_exponents (q0 ∷ qs0) G qs0 (λ r u.
      let other : (r == q0) ≡ false =
      false_from_ne_true (r == q0) (λ z. both_ways (has q0 qs0) distinct.0 (subst (λ y. has y qs0 ≡ true) (eqb-true r q0 z) u)) in
      let later : (index_of r qs0 + 1 == 0) ≡ false = ne_eqb (index_of r qs0 + 1) 0 (λ z. omega arith) in
      rw (counted, other, later) refl) in
      let all : sum s.qubits pieces ≡ sum s.qubits c.groups = omega arith in
      rw t all)
      (cases_Bool stay)

  -- all groups are good
  among_good : (i : ℕ) (F : Held) → pieces i ≡ Some F → IsGood F
  among_good i F u = ⊎_elim
      (λ (t : (has i (q0 ∷ qs0) ≡ true) × (piece_of (q0 ∷ qs0) G i ≡ F)). subst IsGood t.1 (piece_good (q0 ∷ qs0) G i))
      (λ (t : (has i (q0 ∷ qs0) ≡ false) × (with_at k None c.groups i ≡ Some F)). ⊎_elim
      (λ (v : (i ≡ k) × (None ≡ Some F)). absurd (none_is_some {x = F} v.1))
      (λ (v : (i ≢ k) × (c.groups i ≡ Some F)). x.good i F v.1)
      (found k i None c.groups F t.1))
      (pieces_found (q0 ∷ qs0) G (q0 ∷ qs0) (with_at k None c.groups) i F u)

  -- each group after the split is good
  all_good : (i : ℕ) (F : Held) → split i ≡ Some F → IsGood F
  all_good i F u = ⊎_elim
      (λ (t : stay ≡ true).
      let v : with_at rest (Some (rest_group (q0 ∷ qs0) G)) pieces i ≡ Some F = rw t at u in
      ⊎_elim
      (λ (w : (i ≡ rest) × (Some (rest_group (q0 ∷ qs0) G) ≡ Some F)). subst IsGood (same_some {x = (rest_group (q0 ∷ qs0) G)} {y = F} w.1)
      (rest_good (q0 ∷ qs0) G good))
      (λ (w : (i ≢ rest) × (pieces i ≡ Some F)). among_good i F w.1)
      (found rest i (Some (rest_group (q0 ∷ qs0) G)) pieces F v))
      (λ (t : stay ≡ false). among_good i F (rw t at u))
      (cases_Bool stay)

  -- where the rest isn't
  beside_rest : (i : ℕ) → (stay ≡ true → i ≢ rest) → split i ≡ pieces i
  beside_rest i other = ⊎_elim
      (λ (t : stay ≡ true). rw (t, ne_eqb i rest (other t)) refl)
      (λ (t : stay ≡ false). rw t refl)
      (cases_Bool stay)

  -- the owners after the split
  abbrev owner : ℕ → ℕ
  owner = own_split s.qubits c.groups x.own x.partition k G there (q0 ∷ qs0) due rest rest_is

  -- each qubit is in its owner's group
  covers : (q : ℕ) → q < s.qubits → (F : Held) × (split (owner q) ≡ Some F) × (has q F.qubits ≡ true)
  covers q small = let old = x.covers q small in ⊎_elim
      (λ (t : has q (q0 ∷ qs0) ≡ true).
      let own : owner q ≡ q = rw t refl in (
        piece_of (q0 ∷ qs0) G q,
        ap split own ∙ (beside_rest q (λ u z. both_ways (has q (q0 ∷ qs0)) (subst (λ r. has r (q0 ∷ qs0) ≡ false) (sym z) (rest_in u).1) t)
            ∙ pieces_at (q0 ∷ qs0) G (q0 ∷ qs0) (with_at k None c.groups) q t),
        subst (λ xs. has q xs ≡ true) (sym (piece_qubits (q0 ∷ qs0) G q)) (or_left (q == q) false (eq-eqb q q refl)),
      ))
      (λ (t : has q (q0 ∷ qs0) ≡ false). dite (ℕ_discrete (x.own q) k)
      (λ (e : x.own q ≡ k).
      let is : old.0 ≡ G = same_some {x = old.0} {y = G} (sym old.1 ∙ (ap c.groups e ∙ there)) in
      let in_it : has q G.qubits ≡ true = subst (λ F. has q F.qubits ≡ true) is old.2 in
      let in_rest : has q (rest_of G.qubits (q0 ∷ qs0)) ≡ true = has-filter (λ r. not (has r (q0 ∷ qs0))) q G.qubits ∙ rw (in_it, t) refl in
      let some : stay ≡ true = lt-ltb 0 (length (rest_of G.qubits (q0 ∷ qs0))) (let w = index_within q (rest_of G.qubits (q0 ∷ qs0)) in_rest in omega arith) in
      let own : owner q ≡ rest = rw (t, eq-eqb (x.own q) k e) refl in
      let here : (rest == rest) ≡ true = eq-eqb rest rest refl in
      (rest_group (q0 ∷ qs0) G, ap split own ∙ rw (some, here) refl, in_rest))
      (λ (e : x.own q ≢ k).
      let own : owner q ≡ x.own q = rw (t, ne_eqb (x.own q) k e) refl in
      let mine = x.partition.each (x.own q) old.0 old.1 in
      let foreign : has (x.own q) G.qubits ≡ true → ⊥ = λ u. e (sym (mine.owned (x.own q) mine.named) ∙ o.owned (x.own q) u) in
      let no_piece : has (x.own q) (q0 ∷ qs0) ≡ false = false_from_ne_true (has (x.own q) (q0 ∷ qs0)) (λ u. foreign (in_group (x.own q) u)) in (
        old.0,
        ap split own ∙ (beside_rest (x.own q) (λ u z. foreign (subst (λ r. has r G.qubits ≡ true) (sym z) (rest_in u).0))
            ∙ (pieces_out (q0 ∷ qs0) G (q0 ∷ qs0) (with_at k None c.groups) (x.own q) no_piece
            ∙ (with_at_out k (x.own q) None c.groups (ne_eqb (x.own q) k e) ∙ old.1))),
        old.2,
      )))
      (cases_Bool (has q (q0 ∷ qs0)))

  -- the split groups stand for the same state
  pub split_stands : StateStands (record c { groups = split }) h s
  split_stands =
      let sums = same_sum_of in
      record {
        own = owner;
        partition = one_split s.qubits c.groups x.own x.partition k G there (q0 ∷ qs0) due rest rest_is;
        good = all_good;
        covers = covers;
        whole = x.whole;
        within = omega (arith, x.within);
        reads = same_reads s (record c { groups = split }) (h - exponents s.qubits c) (h - exponents s.qubits (record c { groups = split })) (omega arith)
            (split_reads s c x.own x.partition (h - exponents s.qubits c) x.reads k G there good.shape good.fixed q0 qs0 due distinct rest rest_is);
      }
