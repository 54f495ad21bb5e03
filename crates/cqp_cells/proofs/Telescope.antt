-- The product of the fractions of a path is its last norm over 2 to the number of H.
use Rattle.std.proofs.Common.{◌≡◌, ◌≢◌, ◌⊎◌, ℕ, ◌+◌, ◌*◌, ◌^◌, List, [], ◌∷◌, refl, sym, ap, ◌∙◌, subst, arith, inl, inr, pow-add}
use Rattle.std.specs.Prelude.{Some, None, Option}
use Rattle.std.specs.Option.{option_and_then}
use Rattle.std.proofs.lemmas.Int.{ints}
use Rattle.cqp_ring.specs.declared.root.Root.{Root}
use Rattle.cqp_ring.specs.Root.{root_product, one_root, zero_root}
use Rattle.cqp_ring.specs.Weight.{power_root}
use Rattle.cqp_ring.proofs.Integers.{same_root}
use Rattle.cqp_ring.proofs.OrderProducts.{root_product_comm, root_product_assoc}
use Rattle.cqp_syntax.specs.Trees.{Process}
use Rattle.cqp_trace.specs.declared.deed.Deed.{Deed}
use Rattle.cqp_trace.specs.declared.deed.Deed.TheVariants as deed
use Rattle.cqp_trace.specs.declared.entry.Entry.{Entry}
use Rattle.cqp_vector.specs.State.{State, norm_of_state}
use Rattle.cqp_vector.proofs.StateNorms.{grown_keeps}
use Rattle.cqp_cells.specs.Config.{Config}
use Rattle.cqp_cells.specs.Step.{next}
use Rattle.cqp_cells.specs.Probability.{if_measured, times_rest, norms_after, norms_before}
use Rattle.cqp_vector.specs.State.{HasEachPlace}
use Rattle.cqp_cells.specs.Norms.{IsState}
use Rattle.cqp_cells.specs.Path.{after, h_count, h_total}
use Rattle.cqp_cells.specs.Step.{state_after}
use Rattle.cqp_cells.specs.Rows.{Fits, fits_qbit, fits_new, fits_act, fits_add, fits_pick, fits_gate, fits_measure, fits_yes, fits_no, IsAlone}
use Rattle.cqp_cells.specs.Rows.{IsMeeting}
use Rattle.cqp_cells.proofs.Inversion.{inverted}
use Rattle.cqp_cells.proofs.GateNorms.{gate_norm}
use Rattle.cqp_cells.proofs.States.{power_nonzero, product_nonzero, next_state}

-- the norm of a configuration's state
abbrev pub norm_at : Config → Root
norm_at c = norm_of_state c.state

-- what one entry does to the norm: a measurement anything, H doubles it, the others keep it
abbrev NormStep : Deed → Root → Root → Type 0
NormStep (deed.Measure qs m) before now = Unit {0}
NormStep d before now = now ≡ root_product (power_root (h_count d)) before

-- 1 times a norm is it
pub one_times : (x : Root) → root_product one_root x ≡ x
one_times x = same_root (omega (arith, ints)) (omega (arith, ints))

-- a norm is itself times 2^0
same_norm : (x y : Root) → x ≡ y → x ≡ root_product (power_root 0) y
same_norm x y e = e ∙ sym (one_times y)

-- the factors of a product change places
pub swapped : (a b c : Root) → root_product a (root_product b c) ≡ root_product b (root_product a c)
swapped a b c = sym (root_product_assoc a b c) ∙ ap (λ t. root_product t c) (root_product_comm a b) ∙ root_product_assoc b a c

-- powers of two multiply by adding exponents
pub power_root-product : (a b : ℕ) → root_product (power_root a) (power_root b) ≡ power_root (b + a)
power_root-product a b = let e : 2 ^ (b + a) ≡ 2 ^ a * 2 ^ b = omega (arith, pow-add 2 b a) in same_root (omega (arith, ints)) (omega (arith, ints))

-- the step of the product at a measurement
measured : (i : ℕ) (n n1 nd A B : Root) → root_product nd B ≡ root_product (power_root i) (root_product n1 A)
    → root_product nd (root_product n B) ≡ root_product (power_root i) (root_product n (root_product n1 A))
measured i n n1 nd A B e = swapped nd n B ∙ ap (λ t. root_product n t) e ∙ swapped n (power_root i) (root_product n1 A)

-- and at any other entry
others : (j i : ℕ) (n n1 nd A B : Root) → n1 ≡ root_product (power_root j) n → root_product nd B ≡ root_product (power_root i) (root_product n1 A)
    → root_product nd (root_product one_root B) ≡ root_product (power_root (j + i)) (root_product n (root_product one_root A))
others j i n n1 nd A B step e =
    ap (λ t. root_product nd t) (one_times B) ∙ e
    ∙ ap (λ t. root_product (power_root i) (root_product t A)) step
    ∙ ap (λ t. root_product (power_root i) t) (root_product_assoc (power_root j) n A)
    ∙ sym (root_product_assoc (power_root i) (power_root j) (root_product n A))
    ∙ ap (λ t. root_product t (root_product n A)) (power_root-product i j)
    ∙ ap (λ t. root_product (power_root (j + i)) (root_product n t)) (sym (one_times A))

-- the step of the product at an entry
one_step : (d : Deed) (i : ℕ) (n n1 nd A B : Root) → NormStep d n n1 → root_product nd B ≡ root_product (power_root i) (root_product n1 A)
    → root_product nd (root_product (if_measured d n) B) ≡ root_product (power_root (h_count d + i)) (root_product n (root_product (if_measured d n1) A))
one_step (deed.Measure qs m) i n n1 nd A B step e =
    measured i n n1 nd A B e ∙ ap (λ k. root_product (power_root k) (root_product n (root_product n1 A))) (sym none)
  where
    none : 0 + i ≡ i
    none = omega arith
one_step (deed.Gate o qs) i n n1 nd A B step e = others (h_count (deed.Gate o qs)) i n n1 nd A B step e
one_step _ i n n1 nd A B step e = others 0 i n n1 nd A B step e

-- each row of one part
norm_goes_on : {s : State} {k : ℕ} {p : Process} {d : Deed} → Fits s k p d → HasEachPlace s → NormStep d (norm_of_state s) (norm_of_state (state_after d s))
norm_goes_on {s} (fits_qbit same) whole = same_norm _ _ (grown_keeps s whole)
norm_goes_on {s} (fits_new same) whole = same_norm (norm_of_state s) (norm_of_state s) refl
norm_goes_on {s} fits_act whole = same_norm (norm_of_state s) (norm_of_state s) refl
norm_goes_on {s} (fits_add at same) whole = same_norm (norm_of_state s) (norm_of_state s) refl
norm_goes_on {s} (fits_pick at same) whole = same_norm (norm_of_state s) (norm_of_state s) refl
norm_goes_on {s} (fits_gate {o = o} {qs = qs} at have places operands) whole = gate_norm o qs s whole places operands
norm_goes_on (fits_measure at have operands below outcome) whole = tt
norm_goes_on {s} (fits_yes same) whole = same_norm (norm_of_state s) (norm_of_state s) refl
norm_goes_on {s} (fits_no differs) whole = same_norm (norm_of_state s) (norm_of_state s) refl

-- each entry
norm_step : (c : Config) (e : Entry) (d : Config) → next c e ≡ Some d → HasEachPlace c.state → NormStep e.deed (norm_at c) (norm_at d)
norm_step c e d h whole = by_row (inverted c e d h)
  where
    by_row : IsAlone c e d ⊎ IsMeeting c e d → NormStep e.deed (norm_at c) (norm_at d)
    by_row (inl alone) = subst (λ (b : Config). NormStep e.deed (norm_at c) (norm_at b)) (sym alone.becomes) (norm_goes_on alone.fits whole)
    by_row (inr met) =
        subst (λ b. NormStep b (norm_at c) (norm_at d)) (sym met.deed_is)
        (subst (λ (b : Config). norm_at b ≡ root_product (power_root 0) (norm_at c)) (sym met.becomes) (same_norm (norm_at c) (norm_at c) refl))

-- the last norm times the norms before is 2 to the H times the first norm and the norms after
abbrev pub Telescopes : Config → List Entry → Config → Type 0
Telescopes c es d = root_product (norm_at d) (norms_before c es) ≡ root_product (power_root (h_total es)) (root_product (norm_at c) (norms_after c es))

-- the product goes on from the next configuration
unfolded : (c : Config) (e : Entry) (es : List Entry) (d : Config) → IsState c.state → (o : Option Config) → next c e ≡ o
    → option_and_then (λ x. after x es) o ≡ Some d
    → ((b : Config) → IsState b.state → after b es ≡ Some d → Telescopes b es d) → Telescopes c (e ∷ es) d
unfolded c e es d is None h leads later = absurd (impossible leads)
  where
    impossible : None ≡ Some d → ⊥
    impossible q = cc
unfolded c e es d is (Some b) h leads later =
    simp h (one_step e.deed (h_total es) (norm_at c) (norm_at b) (norm_at d) (norms_after b es) (norms_before b es) (norm_step c e b h is.whole)
    (later b (next_state c e b h is) leads))

-- the products telescope along the entries
pub telescopes : (es : List Entry) (c d : Config) → IsState c.state → after c es ≡ Some d → Telescopes c es d
telescopes [] c d is leads = subst (λ (x : Config). Telescopes c [] x) (same leads) (sym (one_times (root_product (norm_at c) one_root)))
  where
    same : Some c ≡ Some d → c ≡ d
    same e = cc
telescopes (e ∷ es) c d is leads = unfolded c e es d is (next c e) refl leads (λ b s h. telescopes es b d s h)

-- the norms before measurements aren't 0
measured_nonzero : (d : Deed) (r : Root) → r ≢ zero_root → if_measured d r ≢ zero_root
measured_nonzero (deed.Measure qs m) r h = h
measured_nonzero _ r h = power_nonzero 0

-- the product of the norms before isn't 0
pub before_nonzero : (es : List Entry) (c d : Config) → IsState c.state → after c es ≡ Some d → norms_before c es ≢ zero_root
before_nonzero [] c d is leads = power_nonzero 0
before_nonzero (e ∷ es) c d is leads = by_next (next c e) refl leads (λ b s h. before_nonzero es b d s h)
  where
    by_next : (o : Option Config) → next c e ≡ o → option_and_then (λ x. after x es) o ≡ Some d
        → ((b : Config) → IsState b.state → after b es ≡ Some d → norms_before b es ≢ zero_root)
        → times_rest o (λ b. if_measured e.deed (norm_of_state c.state)) (λ b. norms_before b es) ≢ zero_root
    by_next None at g more = absurd (impossible g)
      where
        impossible : None ≡ Some d → ⊥
        impossible q = cc
    by_next (Some b) at g more =
        product_nonzero (if_measured e.deed (norm_of_state c.state)) (norms_before b es) (measured_nonzero e.deed (norm_of_state c.state) is.nonzero)
        (more b (next_state c e b at is) g)
