-- The product of the groups' norms, with groups put in and taken out.
use Rattle.std.proofs.Common.{◌≡◌, ◌≢◌, ℕ, true, false, List, [], ◌∷◌, ◌==◌, ◌<◌, Option, Some, None, refl, sym, ap, eq-eqb, ne_eqb, ◌∙◌, ⊎_elim, arith}
use Rattle.std.proofs.lemmas.Bool.{cases_Bool, or_left, or_right}
use Rattle.std.proofs.lemmas.Int.{ints}
use mathlib.Core.Logic.{dite}
use native.Mathlib.Decide.{ℕ_discrete}
use Rattle.cqp_ring.specs.declared.root.Root.{Root}
use Rattle.cqp_ring.specs.Root.{root_product, one_root, norm_sum}
use Rattle.cqp_ring.proofs.Integers.{same_root}
use Rattle.cqp_ring.proofs.OrderProducts.{root_product_assoc}
use Rattle.cqp_book.specs.Keys.{has}
use Rattle.cqp_machine.specs.Factors.{Held, bit_in, first_place, has_scalar, piece_of}
use Rattle.cqp_machine.specs.Cells.{with_at}
use Rattle.cqp_machine.specs.After.{with_pieces}
use Rattle.cqp_machine.specs.Sums.{root_below, norm_in}
use Rattle.cqp_places.specs.Places.{IsDistinct}
use Rattle.cqp_local.proofs.PlacedLemmas.{with_at_in}
use Rattle.cqp_fresh.specs.Partition.{Groups}
use Rattle.cqp_local.proofs.GroupMaps.{pieces_out}
use Rattle.cqp_norms.proofs.BitSums.{without, one_out, same_product}

-- 1 times a norm
pub one_times : (x : Root) → root_product one_root x ≡ x
one_times x = same_root (omega (arith, ints)) (omega (arith, ints))

-- the product of the norms of the groups named below n, and that without what stands at q
abbrev pub norm_product : ℕ → Groups → Root
norm_product n m = root_below n (λ g. norm_in (m g))

-- the product of the norms without one name
abbrev norm_but : ℕ → ℕ → Groups → Root
norm_but n q m = root_below n (without q (λ g. norm_in (m g)))

-- what stands at q doesn't matter there
but_same : (n q : ℕ) (x : Option Held) (m : Groups) → norm_but n q (with_at q x m) ≡ norm_but n q m
but_same n q x m = same_product n (without q (λ g. norm_in (with_at q x m g))) (without q (λ g. norm_in (m g))) (λ g t. dite (ℕ_discrete g q)
    (λ (e : g ≡ q). rw (eq-eqb g q e) refl)
    (λ (e : g ≢ q). rw (ne_eqb g q e) refl))

-- a group that is put where none is
pub norm_put : (n q : ℕ) (X : Held) (m : Groups) → q < n → m q ≡ None
    → norm_product n (with_at q (Some X) m) ≡ root_product (norm_sum X.nums) (norm_product n m)
norm_put n q X m h e =
    let new : norm_in (with_at q (Some X) m q) ≡ norm_sum X.nums = ap norm_in (with_at_in q q (Some X) m (eq-eqb q q refl)) in
    let old : norm_in (m q) ≡ one_root = ap norm_in e in
    let rest : norm_product n m ≡ norm_but n q m = one_out n q (λ g. norm_in (m g)) h
    ∙ (ap (λ t. root_product t (norm_but n q m)) old ∙ one_times (norm_but n q m)) in
    one_out n q (λ g. norm_in (with_at q (Some X) m g)) h
    ∙ (ap (λ t. root_product t (norm_but n q (with_at q (Some X) m))) new
    ∙ ap (root_product (norm_sum X.nums)) (but_same n q (Some X) m ∙ sym rest))

-- a group that is taken out
pub norm_taken : (n q : ℕ) (X : Held) (m : Groups) → q < n → m q ≡ Some X
    → norm_product n m ≡ root_product (norm_sum X.nums) (norm_product n (with_at q None m))
norm_taken n q X m h e =
    let old : norm_in (m q) ≡ norm_sum X.nums = ap norm_in e in
    let new : norm_in (with_at q None m q) ≡ one_root = ap norm_in (with_at_in q q None m (eq-eqb q q refl)) in
    let rest : norm_product n (with_at q None m) ≡ norm_but n q m =
    one_out n q (λ g. norm_in (with_at q None m g)) h
    ∙ (ap (λ t. root_product t (norm_but n q (with_at q None m))) new ∙ (one_times (norm_but n q (with_at q None m)) ∙ but_same n q None m)) in
    one_out n q (λ g. norm_in (m g)) h
    ∙ (ap (λ t. root_product t (norm_but n q m)) old ∙ ap (root_product (norm_sum X.nums)) (sym rest))

module _ (qs : List ℕ) (G : Held) where
  -- the product of the pieces' norms
  abbrev pub piece_norms : List ℕ → Root
  piece_norms [] = one_root
  piece_norms (q ∷ rs) = root_product (norm_sum (piece_of qs G q).nums) (piece_norms rs)

  -- the pieces come out
  pub norms_put : (n : ℕ) (rs : List ℕ) (m : Groups) → IsDistinct rs → ((q : ℕ) → has q rs ≡ true → q < n) → ((q : ℕ) → has q rs ≡ true → m q ≡ None)
      → norm_product n (with_pieces qs G rs m) ≡ root_product (piece_norms rs) (norm_product n m)
  norms_put n [] m d b e = sym (one_times (norm_product n m))
  norms_put n (q ∷ rs) m d b e =
      let here : has q (q ∷ rs) ≡ true = or_left (q == q) (has q rs) (eq-eqb q q refl) in
      let later = norms_put n rs m d.1 (λ r t. b r (or_right (r == q) (has r rs) t)) (λ r t. e r (or_right (r == q) (has r rs) t)) in
      norm_put n q (piece_of qs G q) (with_pieces qs G rs m) (b q here) (pieces_out qs G rs m q d.0 ∙ e q here)
      ∙ (ap (root_product (norm_sum (piece_of qs G q).nums)) later
      ∙ sym (root_product_assoc (norm_sum (piece_of qs G q).nums) (piece_norms rs) (norm_product n m)))

  -- the norm of a piece without a scalar is 1
  pub plain_norm : (q : ℕ) → has_scalar qs G q ≡ false → norm_sum (piece_of qs G q).nums ≡ one_root
  plain_norm q t = rw t (⊎_elim
      (λ (u : (bit_in G.qubits q (first_place G.nums) == 0) ≡ true). rw u refl)
      (λ (u : (bit_in G.qubits q (first_place G.nums) == 0) ≡ false). rw u refl)
      (cases_Bool (bit_in G.qubits q (first_place G.nums) == 0)))

  -- nor do several change a product
  pub plain_norms : (rs : List ℕ) → ((q : ℕ) → has q rs ≡ true → has_scalar qs G q ≡ false) → piece_norms rs ≡ one_root
  plain_norms [] h = refl
  plain_norms (q ∷ rs) h =
      ap (λ t. root_product t (piece_norms rs)) (plain_norm q (h q (or_left (q == q) (has q rs) (eq-eqb q q refl))))
      ∙ (one_times (piece_norms rs) ∙ plain_norms rs (λ r t. h r (or_right (r == q) (has r rs) t)))
