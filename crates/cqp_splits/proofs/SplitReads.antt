-- The whole state is read of the pieces as it was of the group.
use Rattle.std.proofs.Common.{◌≡◌, ◌≢◌, ℕ, true, false, Bool, List, [], ◌∷◌, nat_lt, length, Some, None, refl, sym, ap, subst, eq-eqb, ne_eqb, ◌∙◌, ⊎_elim}
use Rattle.std.proofs.lemmas.Bool.{cases_Bool}
use mathlib.Core.Logic.{dite}
use native.Mathlib.Decide.{ℕ_discrete}
use Rattle.cqp_ring.specs.Amp.{amp_product}
use Rattle.cqp_ring.proofs.NormLemmas.{amp_product_assoc}
use Rattle.cqp_book.specs.Keys.{has}
use Rattle.cqp_vector.specs.State.{State, amp_at}
use Rattle.cqp_vector.specs.Measurement.{outcome_at}
use Rattle.cqp_machine.specs.Factors.{Held, rest_of, rest_group}
use Rattle.cqp_machine.specs.Cells.{Cells, with_at}
use Rattle.cqp_machine.specs.Enabled.{name_of_rest}
use Rattle.cqp_machine.specs.After.{with_pieces, with_rest}
use Rattle.cqp_vector.specs.Least.{root2_power}
use Rattle.cqp_local.proofs.PlacedLemmas.{with_at_in, with_at_out}
use Rattle.cqp_places.specs.Places.{IsDistinct}
use Rattle.cqp_fresh.specs.Partition.{Groups, IsOwn, IsPartition}
use Rattle.cqp_fresh.proofs.Partition.{name_made}
use Rattle.cqp_fresh.proofs.Splits.{stays_in, least_in}
use Rattle.cqp_fresh.proofs.NewLaw.{no_group}
use Rattle.cqp_local.proofs.GroupMaps.{pieces_out}
use Rattle.cqp_products.specs.Reads.{IsShaped, Reads}
use Rattle.cqp_products.specs.Reads.{IsFixed}
use Rattle.cqp_splits.proofs.SplitEvent.{with_a_rest, without_rest}
use Rattle.cqp_splits.proofs.SplitProducts.{product, put_in_product, taken_out, pieces_amp, pieces_put}

-- the name of the rest is one of its qubits
pub rest_named : (k : ℕ) (xs : List ℕ) → nat_lt 0 (length xs) ≡ true → has (name_of_rest k xs) xs ≡ true
rest_named k [] h = cc
rest_named k (x ∷ xs) h = least_in x xs

module _ (s : State) (c : Cells) (own : ℕ → ℕ) (p : IsPartition s.qubits c.groups own) (e : ℕ) (h : Reads s c e)
    (k : ℕ) (G : Held) (there : c.groups k ≡ Some G) (shaped : IsShaped G) (fixed : IsFixed G)
    (q0 : ℕ) (qs0 : List ℕ) (due : G.due ≡ q0 ∷ qs0) (distinct : IsDistinct (q0 ∷ qs0))
    (rest : ℕ) (rest_is : rest ≡ name_of_rest k (rest_of G.qubits (q0 ∷ qs0))) where
  -- the measured qubits
  abbrev qs : List ℕ
  qs = q0 ∷ qs0

  -- the groups without the one that is split
  abbrev emptied : Groups
  emptied = with_at k None c.groups

  -- those with the pieces
  abbrev pieces : Groups
  pieces = with_pieces (q0 ∷ qs0) G (q0 ∷ qs0) (with_at k None c.groups)

  -- the groups after the split
  abbrev split : Groups
  split = with_rest (q0 ∷ qs0) G rest (with_pieces (q0 ∷ qs0) G (q0 ∷ qs0) (with_at k None c.groups))

  -- whether qubits stay
  abbrev stay : Bool
  stay = nat_lt 0 (length (rest_of G.qubits (q0 ∷ qs0)))

  -- the group has what the partition says
  o : IsOwn s.qubits own k G
  o = p.each k G there

  -- a measured qubit is in the group
  pub measured : (q : ℕ) → has q (q0 ∷ qs0) ≡ true → has q G.qubits ≡ true
  measured q t = o.due_in q (subst (λ xs. has q xs ≡ true) (sym due) t)

  -- no other group has the name of one of its qubits
  pub none_there : (q : ℕ) → has q G.qubits ≡ true → with_at k None c.groups q ≡ None
  none_there q t = dite (ℕ_discrete q k)
      (λ (z : q ≡ k). with_at_in k q None c.groups (eq-eqb q k z))
      (λ (z : q ≢ k). with_at_out k q None c.groups (ne_eqb q k z)
      ∙ no_group (c.groups q) (λ H u. let other = p.each q H u in z (sym (other.owned q other.named) ∙ o.owned q t)))

  module _ (i : ℕ) where
    -- the product with the pieces is theirs times that of the other groups
    pieces_out_of : product s.qubits i pieces ≡ amp_product (pieces_amp s.qubits i (q0 ∷ qs0) G (q0 ∷ qs0)) (product s.qubits i (with_at k None c.groups))
    pieces_out_of =
        pieces_put s.qubits i (q0 ∷ qs0) G (q0 ∷ qs0) (with_at k None c.groups) distinct (λ q t. o.made q (measured q t)) (λ q t. none_there q (measured q t))

    -- the product before is the group's numerator times that of the other groups
    before : product s.qubits i c.groups ≡ amp_product (amp_at G.nums (outcome_at s.qubits G.qubits i)) (product s.qubits i (with_at k None c.groups))
    before = taken_out s.qubits i k G c.groups (name_made s.qubits c.groups own p k G there) there

    -- the product is the same where a rest stays
    same_with_rest : stay ≡ true → product s.qubits i split ≡ product s.qubits i c.groups
    same_with_rest t =
        let in_rest : has rest (rest_of G.qubits (q0 ∷ qs0)) ≡ true =
        subst (λ r. has r (rest_of G.qubits (q0 ∷ qs0)) ≡ true) (sym rest_is) (rest_named k (rest_of G.qubits (q0 ∷ qs0)) t) in
        let stays = stays_in rest G.qubits (q0 ∷ qs0) in_rest in
        let empty : pieces rest ≡ None = pieces_out (q0 ∷ qs0) G (q0 ∷ qs0) (with_at k None c.groups) rest stays.1 ∙ none_there rest stays.0 in
        let rest_amp = amp_at (rest_group (q0 ∷ qs0) G).nums (outcome_at s.qubits (rest_of G.qubits (q0 ∷ qs0)) i) in
        let own_amp = with_a_rest s.qubits i (q0 ∷ qs0) G shaped distinct measured due fixed t in
        rw t (
        put_in_product s.qubits i rest (rest_group (q0 ∷ qs0) G) pieces (o.made rest stays.0) empty
        ∙ (ap (amp_product (amp_at (rest_group (q0 ∷ qs0) G).nums (outcome_at s.qubits (rest_of G.qubits (q0 ∷ qs0)) i))) pieces_out_of
        ∙ (sym (amp_product_assoc (amp_at (rest_group (q0 ∷ qs0) G).nums (outcome_at s.qubits (rest_of G.qubits (q0 ∷ qs0)) i))
        (pieces_amp s.qubits i (q0 ∷ qs0) G (q0 ∷ qs0)) (product s.qubits i (with_at k None c.groups)))
        ∙ (ap (λ x. amp_product x (product s.qubits i (with_at k None c.groups))) (sym own_amp) ∙ sym before))))

    -- so it is where none does
    same_without : stay ≡ false → product s.qubits i split ≡ product s.qubits i c.groups
    same_without t =
        let own_amp = without_rest s.qubits i (q0 ∷ qs0) G shaped distinct measured due fixed q0 qs0 refl t in
        rw t (pieces_out_of ∙ (ap (λ x. amp_product x (product s.qubits i (with_at k None c.groups))) (sym own_amp) ∙ sym before))

    -- so the split changes nothing of the whole
    same_product : product s.qubits i split ≡ product s.qubits i c.groups
    same_product = ⊎_elim same_with_rest same_without (cases_Bool stay)

  -- a split changes nothing of the whole state
  pub split_reads : Reads s (record c { groups = with_rest (q0 ∷ qs0) G rest (with_pieces (q0 ∷ qs0) G (q0 ∷ qs0) (with_at k None c.groups)) }) e
  split_reads i small = h i small ∙ ap (amp_product (root2_power e)) (sym (same_product i))
