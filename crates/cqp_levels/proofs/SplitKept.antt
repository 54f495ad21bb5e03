-- After a split each group is a factor.
use Rattle.std.proofs.Common.{◌≡◌, ◌≢◌, ℕ, true, false, Bool, List, ◌∷◌, ◌==◌, ◌&&◌, ◌+◌, ◌^◌, ◌≤◌, ◌<◌, length, nat_lt, Some, None, refl, sym, ap, subst}
use Rattle.std.proofs.Common.{arith, eq-eqb, ne_eqb, ◌∙◌, ⊎_elim, inl}
use Rattle.std.proofs.lemmas.Bool.{cases_Bool, eqb-true, both_ways, false_from_ne_true, ltb-true, ltb-false}
use Rattle.std.proofs.lemmas.List.FromFn.{length-map-range_with_len}
use Rattle.cqp_ring.specs.declared.root.Root.{Root}
use Rattle.cqp_ring.specs.Root.{root_product, zero_root, norm_sum}
use Rattle.cqp_ring.proofs.OrderProducts.{root_product_assoc}
use Rattle.cqp_vector.specs.State.{State}
use Rattle.cqp_vector.specs.Measurement.{outcome_at}
use Rattle.cqp_vector.specs.Group.{IsWithin}
use Rattle.cqp_vector.specs.Least.{IsLeastOver}
use Rattle.cqp_vector.proofs.LeastLemmas.{IsSound}
use Rattle.cqp_book.specs.Keys.{has}
use Rattle.cqp_machine.specs.Factors.{Held, index_of, rest_of, rest_group, piece_of, has_scalar, new_group}
use Rattle.cqp_machine.specs.Cells.{Cells, with_at}
use Rattle.cqp_machine.specs.Enabled.{name_of_rest}
use Rattle.cqp_machine.specs.After.{with_pieces, with_rest}
use Rattle.cqp_places.specs.Places.{IsDistinct}
use Rattle.cqp_cells.proofs.Options.{same_some}
use Rattle.cqp_fresh.specs.Partition.{Groups}
use Rattle.cqp_fresh.proofs.Partition.{found, name_made}
use Rattle.cqp_fresh.proofs.Splits.{pieces_found, piece_qubits}
use Rattle.cqp_local.proofs.GroupMaps.{pieces_out}
use Rattle.cqp_norms.specs.StateStands.{StateStands}
use Rattle.cqp_splits.proofs.SplitEvent.{with_a_rest, without_rest}
use Rattle.cqp_splits.proofs.SplitProducts.{pieces_amp}
use Rattle.cqp_splits.proofs.SplitStands.{same_sum_of, split_stands, none_there, in_group, rest_in}
use Rattle.cqp_splits.proofs.SplitSums.{two_places}
use Rattle.cqp_levels.proofs.SplitNorms.{norm_product, norm_put, norm_taken, piece_norms, norms_put, plain_norm, plain_norms}
use Rattle.cqp_levels.proofs.SplitFactors.{same_factor, least_with, sound_with, others_some, same_norms}
use Rattle.cqp_levels.proofs.KeptFactors.{IsFactor, AreFactors, new_factor}
use Rattle.cqp_levels.proofs.LevelEvents.{factors_taken}

-- a piece without a scalar has the norm of a new qubit
plain_factor : (qs : List ℕ) (G : Held) (q : ℕ) → has_scalar qs G q ≡ false → IsFactor (piece_of qs G q)
plain_factor qs G q t =
    let none : (piece_of qs G q).h ≡ 0 = rw t refl in
    let new = (new_factor q).sound in
    let same : norm_sum (new_group q).nums ≡ norm_sum (piece_of qs G q).nums = sym (plain_norm qs G q t) in
    record {
      sound = record {
        whole = two_places qs G q ∙ sym (ap (λ xs. 2 ^ length xs) (piece_qubits qs G q));
        nonzero = subst (λ r. r ≢ zero_root) same new.nonzero;
        bound = subst (IsWithin (norm_sum (piece_of qs G q).nums)) (sym none) (subst (λ r. IsWithin r 0) same new.bound);
      };
      least = inl none;
    }

module _ (c : Cells) (h : ℕ) (s : State) (x : StateStands c h s) (some : norm_sum s.nums ≢ zero_root) (factors : AreFactors c.groups)
    (k : ℕ) (G : Held) (there : c.groups k ≡ Some G) (q0 : ℕ) (qs0 : List ℕ) (due : G.due ≡ q0 ∷ qs0)
    (rest : ℕ) (rest_is : rest ≡ name_of_rest k (rest_of G.qubits (q0 ∷ qs0))) where
  -- the groups with the pieces in the place of the group
  abbrev pieces : Groups
  pieces = with_pieces (q0 ∷ qs0) G (q0 ∷ qs0) (with_at k None c.groups)

  -- the groups after the split
  abbrev split : Groups
  split = with_rest (q0 ∷ qs0) G rest (with_pieces (q0 ∷ qs0) G (q0 ∷ qs0) (with_at k None c.groups))

  -- whether qubits stay
  abbrev stay : Bool
  stay = nat_lt 0 (length (rest_of G.qubits (q0 ∷ qs0)))

  -- the product of the other groups' norms
  abbrev others : Root
  others = norm_product s.qubits (with_at k None c.groups)

  -- the measured qubits are distinct
  distinct : IsDistinct (q0 ∷ qs0)
  distinct = subst IsDistinct due (x.good k G there).apart

  -- they are in the group
  inside : (q : ℕ) → has q (q0 ∷ qs0) ≡ true → has q G.qubits ≡ true
  inside = in_group c h s x k G there q0 qs0 due rest rest_is

  -- its qubits were made
  made : (q : ℕ) → has q G.qubits ≡ true → q < s.qubits
  made = (x.partition.each k G there).made

  -- no other group has the name of one of them
  empty : (q : ℕ) → has q G.qubits ≡ true → with_at k None c.groups q ≡ None
  empty = none_there c h s x k G there q0 qs0 due rest rest_is

  -- the norms before and after are those of the group and of the pieces, with the others'
  before : norm_product s.qubits c.groups ≡ root_product (norm_sum G.nums) others
  before = norm_taken s.qubits k G c.groups (name_made s.qubits c.groups x.own x.partition k G there) there

  -- the norms with the pieces in the group's place
  among : norm_product s.qubits pieces ≡ root_product (piece_norms (q0 ∷ qs0) G (q0 ∷ qs0)) others
  among = norms_put (q0 ∷ qs0) G s.qubits (q0 ∷ qs0) (with_at k None c.groups) distinct (λ q t. made q (inside q t)) (λ q t. empty q (inside q t))

  -- the norms after the split are those before it
  same : norm_product s.qubits split ≡ root_product (norm_sum G.nums) others
  same =
      same_norms c h s x some factors k G there split (split_stands c h s x k G there q0 qs0 due rest rest_is)
      (same_sum_of c h s x k G there q0 qs0 due rest rest_is)
      ∙ before

  -- the others' norms aren't 0
  others_there : others ≢ zero_root
  others_there = others_some c h s x some factors k G there

  -- where qubits stay no piece has the scalar
  none_scalar : stay ≡ true → (q : ℕ) → has_scalar (q0 ∷ qs0) G q ≡ false
  none_scalar t q =
      let some : 0 < length (rest_of G.qubits (q0 ∷ qs0)) = ltb-true 0 (length (rest_of G.qubits (q0 ∷ qs0))) t in
      let counted : (length (rest_of G.qubits (q0 ∷ qs0)) == 0) ≡ false = ne_eqb (length (rest_of G.qubits (q0 ∷ qs0))) 0 (λ z. omega arith) in
      rw counted refl

  -- the rest has the group's norm
  rest_norm : stay ≡ true → norm_sum (rest_group (q0 ∷ qs0) G).nums ≡ norm_sum G.nums
  rest_norm t =
      let r = rest_in c h s x k G there q0 qs0 due rest rest_is t in
      let none : pieces rest ≡ None = pieces_out (q0 ∷ qs0) G (q0 ∷ qs0) (with_at k None c.groups) rest r.1 ∙ empty rest r.0 in
      let put = norm_put s.qubits rest (rest_group (q0 ∷ qs0) G) pieces (made rest r.0) none in
      let is : split ≡ with_at rest (Some (rest_group (q0 ∷ qs0) G)) pieces = rw t refl in
      same_factor (norm_sum (rest_group (q0 ∷ qs0) G).nums) (norm_sum G.nums) others (piece_norms (q0 ∷ qs0) G (q0 ∷ qs0)) others_there
      (plain_norms (q0 ∷ qs0) G (q0 ∷ qs0) (λ q u. none_scalar t q))
      (sym (ap (norm_product s.qubits) is ∙ (put ∙ ap (root_product (norm_sum (rest_group (q0 ∷ qs0) G).nums)) among)) ∙ same)

  -- so it is a factor
  rest_factor : stay ≡ true → IsFactor (rest_group (q0 ∷ qs0) G)
  rest_factor t =
      let shape = (x.good k G there).shape in
      let fixed = (x.good k G there).fixed in
      record {
        sound = sound_with c h s x some factors k G there (2 ^ length (rest_of G.qubits (q0 ∷ qs0))) (rest_group (q0 ∷ qs0) G).nums
            (length-map-range_with_len _ 0 (2 ^ length (rest_of G.qubits (q0 ∷ qs0)))) (rest_norm t);
        least = least_with c h s x some factors k G there (rest_group (q0 ∷ qs0) G).nums (λ i. (
          outcome_at s.qubits (rest_of G.qubits (q0 ∷ qs0)) i,
          pieces_amp s.qubits i (q0 ∷ qs0) G (q0 ∷ qs0),
          with_a_rest s.qubits i (q0 ∷ qs0) G shape distinct inside due fixed t,
        ));
      }

  -- where none stays the first piece has it, and no other
  no_rest : stay ≡ false → (length (rest_of G.qubits (q0 ∷ qs0)) == 0) ≡ true
  no_rest t =
      let none : length (rest_of G.qubits (q0 ∷ qs0)) ≤ 0 = ltb-false 0 (length (rest_of G.qubits (q0 ∷ qs0))) t in
      eq-eqb (length (rest_of G.qubits (q0 ∷ qs0))) 0 (omega arith)

  -- the further pieces have no scalar
  others_plain : (r : ℕ) → has r qs0 ≡ true → has_scalar (q0 ∷ qs0) G r ≡ false
  others_plain r u =
      let other : (r == q0) ≡ false = false_from_ne_true (r == q0) (λ z. both_ways (has q0 qs0) distinct.0 (subst (λ y. has y qs0
      ≡ true) (eqb-true r q0 z) u)) in
      let later : (index_of r qs0 + 1 == 0) ≡ false = ne_eqb (index_of r qs0 + 1) 0 (λ z. omega arith) in
      rw (other, later) (and_no (length (rest_of G.qubits (q0 ∷ qs0)) == 0))
    where
      and_no : (b : Bool) → (b && false) ≡ false
      and_no true = refl
      and_no false = refl

  -- the first piece has the group's norm
  first_norm : stay ≡ false → norm_sum (piece_of (q0 ∷ qs0) G q0).nums ≡ norm_sum G.nums
  first_norm t =
      let is : split ≡ pieces = rw t refl in
      same_factor (norm_sum (piece_of (q0 ∷ qs0) G q0).nums) (norm_sum G.nums) others (piece_norms (q0 ∷ qs0) G qs0) others_there
      (plain_norms (q0 ∷ qs0) G qs0 others_plain)
      (sym (root_product_assoc (norm_sum (piece_of (q0 ∷ qs0) G q0).nums) (piece_norms (q0 ∷ qs0) G qs0) others)
      ∙ (sym (ap (norm_product s.qubits) is ∙ among) ∙ same))

  -- and its exponent
  first_h : stay ≡ false → (piece_of (q0 ∷ qs0) G q0).h ≡ G.h
  first_h t =
      let same : (q0 == q0) ≡ true = eq-eqb q0 q0 refl in
      rw (no_rest t, same) refl

  -- so it is a factor
  first_factor : stay ≡ false → IsFactor (piece_of (q0 ∷ qs0) G q0)
  first_factor t =
      let shape = (x.good k G there).shape in
      let fixed = (x.good k G there).fixed in
      let P = piece_of (q0 ∷ qs0) G q0 in
      let sound = sound_with c h s x some factors k G there (2 ^ length P.qubits) P.nums
      (two_places (q0 ∷ qs0) G q0 ∙ sym (ap (λ xs. 2 ^ length xs) (piece_qubits (q0 ∷ qs0) G q0))) (first_norm t) in
      let least = least_with c h s x some factors k G there P.nums (λ i. (
        outcome_at s.qubits P.qubits i,
        pieces_amp s.qubits i (q0 ∷ qs0) G qs0,
        without_rest s.qubits i (q0 ∷ qs0) G shape distinct inside due fixed q0 qs0 refl t,
      )) in
      record {
        sound = subst (IsSound (2 ^ length P.qubits) P.nums) (sym (first_h t)) sound;
        least = subst (IsLeastOver P.nums) (sym (first_h t)) least;
      }

  -- so each piece is one
  piece_factor : (q : ℕ) → has q (q0 ∷ qs0) ≡ true → IsFactor (piece_of (q0 ∷ qs0) G q)
  piece_factor q u = ⊎_elim
      (λ (t : stay ≡ true). plain_factor (q0 ∷ qs0) G q (none_scalar t q))
      (λ (t : stay ≡ false). ⊎_elim
      (λ (e : (q == q0) ≡ true). subst (λ r. IsFactor (piece_of (q0 ∷ qs0) G r)) (sym (eqb-true q q0 e)) (first_factor t))
      (λ (e : (q == q0) ≡ false). plain_factor (q0 ∷ qs0) G q (others_plain q (rw e at u)))
      (cases_Bool (q == q0)))
      (cases_Bool stay)

  -- all groups with the pieces are
  among_factors : AreFactors pieces
  among_factors i F u = ⊎_elim
      (λ (t : (has i (q0 ∷ qs0) ≡ true) × (piece_of (q0 ∷ qs0) G i ≡ F)). subst IsFactor t.1 (piece_factor i t.0))
      (λ (t : (has i (q0 ∷ qs0) ≡ false) × (with_at k None c.groups i ≡ Some F)). factors_taken c.groups k factors i F t.1)
      (pieces_found (q0 ∷ qs0) G (q0 ∷ qs0) (with_at k None c.groups) i F u)

  -- and all groups after the split
  pub split_factors : AreFactors split
  split_factors i F u = ⊎_elim
      (λ (t : stay ≡ true).
      let v : with_at rest (Some (rest_group (q0 ∷ qs0) G)) pieces i ≡ Some F = rw t at u in
      ⊎_elim
      (λ (w : (i ≡ rest) × (Some (rest_group (q0 ∷ qs0) G) ≡ Some F)). subst IsFactor (same_some {x = (rest_group (q0 ∷ qs0) G)} {y = F} w.1) (rest_factor t))
      (λ (w : (i ≢ rest) × (pieces i ≡ Some F)). among_factors i F w.1)
      (found rest i (Some (rest_group (q0 ∷ qs0) G)) pieces F v))
      (λ (t : stay ≡ false). among_factors i F (rw t at u))
      (cases_Bool stay)
