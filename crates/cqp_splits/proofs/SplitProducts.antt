-- The product of all groups' numerators, with groups put in and taken out.
use Rattle.std.proofs.Common.{◌≡◌, ◌≢◌, ℕ, true, List, [], ◌∷◌, ◌==◌, ◌<◌, Option, Some, None, refl, sym, ap, eq-eqb, ne_eqb, ◌∙◌}
use Rattle.std.proofs.lemmas.Bool.{or_left, or_right}
use mathlib.Core.Logic.{dite}
use native.Mathlib.Decide.{ℕ_discrete}
use Rattle.cqp_ring.specs.declared.amp.Amp.{Amp}
use Rattle.cqp_ring.specs.Amp.{one_amp, amp_product}
use Rattle.cqp_ring.proofs.NormLemmas.{amp_product_assoc}
use Rattle.cqp_book.specs.Keys.{has}
use Rattle.cqp_vector.specs.State.{amp_at}
use Rattle.cqp_vector.specs.Measurement.{outcome_at}
use Rattle.cqp_machine.specs.Factors.{Held, piece_of}
use Rattle.cqp_machine.specs.Cells.{with_at}
use Rattle.cqp_machine.specs.After.{with_pieces}
use Rattle.cqp_machine.specs.Sums.{product_below, amp_in}
use Rattle.cqp_local.proofs.PlacedLemmas.{with_at_in}
use Rattle.cqp_places.specs.Places.{IsDistinct}
use Rattle.cqp_fresh.specs.Partition.{Groups}
use Rattle.cqp_local.proofs.GroupMaps.{pieces_out}
use Rattle.cqp_products.proofs.ProductHalf.{one_out, same_product, without, one_times}

module _ (n k : ℕ) where
  -- the product of all groups' numerators at place k
  abbrev pub product : Groups → Amp
  product m = product_below n (λ g. amp_in n k (m g))

  -- the product without what stands at q
  abbrev product_but : ℕ → Groups → Amp
  product_but q m = product_below n (without q (λ g. amp_in n k (m g)))

  -- a product without a name doesn't see what is put there
  but_same : (q : ℕ) (x y : Option Held) (m : Groups) → product_but q (with_at q x m) ≡ product_but q m
  but_same q x y m = same_product n (without q (λ g. amp_in n k (with_at q x m g))) (without q (λ g. amp_in n k (m g))) (λ g t. dite (ℕ_discrete g q)
      (λ (e : g ≡ q). rw (eq-eqb g q e) refl)
      (λ (e : g ≢ q). rw (ne_eqb g q e) refl))

  -- a group that is put where none is
  pub put_in_product : (q : ℕ) (X : Held) (m : Groups) → q < n → m q ≡ None
      → product (with_at q (Some X) m) ≡ amp_product (amp_at X.nums (outcome_at n X.qubits k)) (product m)
  put_in_product q X m h e =
      let new : amp_in n k (with_at q (Some X) m q) ≡ amp_at X.nums (outcome_at n X.qubits k) = ap (amp_in n k) (with_at_in q q (Some X) m (eq-eqb q q refl)) in
      let old : amp_in n k (m q) ≡ one_amp = ap (amp_in n k) e in
      let rest : product m ≡ product_but q m =
      one_out n q (λ g. amp_in n k (m g)) h ∙ (ap (λ t. amp_product t (product_but q m)) old ∙ one_times (product_but q m)) in
      one_out n q (λ g. amp_in n k (with_at q (Some X) m g)) h
      ∙ (ap (λ t. amp_product t (product_but q (with_at q (Some X) m))) new
      ∙ ap (amp_product (amp_at X.nums (outcome_at n X.qubits k))) (but_same q (Some X) None m ∙ sym rest))

  -- a group that is taken out
  pub taken_out : (q : ℕ) (X : Held) (m : Groups) → q < n → m q ≡ Some X
      → product m ≡ amp_product (amp_at X.nums (outcome_at n X.qubits k)) (product (with_at q None m))
  taken_out q X m h e =
      let old : amp_in n k (m q) ≡ amp_at X.nums (outcome_at n X.qubits k) = ap (amp_in n k) e in
      let new : amp_in n k (with_at q None m q) ≡ one_amp = ap (amp_in n k) (with_at_in q q None m (eq-eqb q q refl)) in
      let rest : product (with_at q None m) ≡ product_but q m =
      one_out n q (λ g. amp_in n k (with_at q None m g)) h
      ∙ (ap (λ t. amp_product t (product_but q (with_at q None m))) new ∙ (one_times (product_but q (with_at q None m)) ∙ but_same q None None m)) in
      one_out n q (λ g. amp_in n k (m g)) h
      ∙ (ap (λ t. amp_product t (product_but q m)) old ∙ ap (amp_product (amp_at X.nums (outcome_at n X.qubits k))) (sym rest))

  module _ (qs : List ℕ) (G : Held) where
    -- the numerator of a piece
    abbrev pub piece_amp : ℕ → Amp
    piece_amp q = amp_at (piece_of qs G q).nums (outcome_at n (piece_of qs G q).qubits k)

    -- the product of the pieces' numerators at a place
    abbrev pub pieces_amp : List ℕ → Amp
    pieces_amp [] = one_amp
    pieces_amp (q ∷ rs) = amp_product (piece_amp q) (pieces_amp rs)

    -- the pieces come out of the product
    pub pieces_put : (rs : List ℕ) (m : Groups) → IsDistinct rs → ((q : ℕ) → has q rs ≡ true → q < n) → ((q : ℕ) → has q rs ≡ true → m q ≡ None)
        → product (with_pieces qs G rs m) ≡ amp_product (pieces_amp rs) (product m)
    pieces_put [] m d b e = sym (one_times (product m))
    pieces_put (q ∷ rs) m d b e =
        let here : has q (q ∷ rs) ≡ true = or_left (q == q) (has q rs) (eq-eqb q q refl) in
        let later = pieces_put rs m d.1 (λ r t. b r (or_right (r == q) (has r rs) t)) (λ r t. e r (or_right (r == q) (has r rs) t)) in
        put_in_product q (piece_of qs G q) (with_pieces qs G rs m) (b q here) (pieces_out qs G rs m q d.0 ∙ e q here)
        ∙ (ap (amp_product (piece_amp q)) later ∙ sym (amp_product_assoc (piece_amp q) (pieces_amp rs) (product m)))
