-- What each group keeps of a factor: a norm that isn't 0 and is within its bound, and a least exponent.
use Rattle.std.proofs.Common.{◌≡◌, ℕ, zero, suc, ◌+◌, ◌*◌, ◌^◌, ◌≤◌, List, length, true, false, inl, refl, sym, ap, subst, arith, ⊎_elim, length-append}
use Rattle.std.specs.Prelude.{pos, ◌≤ℤ◌, Option, Some}
use Rattle.std.specs.List.{list_all}
use Rattle.std.proofs.lemmas.Bool.{cases_Bool}
use Rattle.std.proofs.lemmas.Int.{ints}
use Rattle.cqp_ring.specs.declared.root.Root.{Root}
use Rattle.cqp_ring.specs.Root.{norm_sum}
use Rattle.cqp_ring.specs.Parity.{has_even_sum, is_root2_times}
use Rattle.cqp_syntax.specs.declared.op.Op.{Op}
use Rattle.cqp_syntax.specs.Gates.{places_of}
use Rattle.cqp_vector.specs.Places.{ArePlaces}
use Rattle.cqp_vector.specs.Gate.{gate_of}
use Rattle.cqp_vector.specs.Measurement.{projected, is_outcome}
use Rattle.cqp_vector.specs.Group.{IsWithin, product_of, factors_left_out}
use Rattle.cqp_vector.specs.Least.{IsLeastOver}
use Rattle.cqp_vector.proofs.Levels.{all_even_from}
use Rattle.cqp_vector.proofs.LeastLemmas.{IsSound, sound_least, least_is_least}
use Rattle.cqp_vector.proofs.GateLemmas.{sound_gate}
use Rattle.cqp_vector.proofs.Masks.{sound_projected}
use Rattle.cqp_vector.proofs.ProductLemmas.{products_are, sound_products}
use Rattle.cqp_vector.proofs.SumBounds.{even_has_exponent}
use Rattle.cqp_vector.proofs.WithinLemmas.{whole_within}
use Rattle.cqp_machine.specs.Factors.{Held, places_in, state_of, level_of, new_group, gated, measured, joined}
use Rattle.cqp_products.proofs.Remainders.{halves, IsTold, told}

-- the numerators are all there, their norm isn't 0 and is within its bound, and the exponent is least
pub record IsFactor (G : Held) : Type 0 where
  pub sound : IsSound (2 ^ length G.qubits) G.nums G.h
  pub least : IsLeastOver G.nums G.h

-- each group is what a factor is
abbrev pub AreFactors : (ℕ → Option Held) → Type 0
AreFactors m = (g : ℕ) (G : Held) → m g ≡ Some G → IsFactor G

-- a new qubit
one_within : IsWithin (norm_sum (new_group 0).nums) 0
one_within = record {
  at_least = inl (omega (arith, ints), omega (arith, ints));
  at_most = inl
      (omega (arith, ints), omega (arith, ints));
  other_at_least = inl (omega (arith, ints), omega (arith, ints));
  other_at_most =
      inl (omega (arith, ints), omega (arith, ints));
}

-- a new qubit is a factor
pub new_factor : (q : ℕ) → IsFactor (new_group q)
new_factor q = record {
  sound = record { whole = refl; nonzero = λ e. let one : pos 1 ≡ pos 0 = ap (λ (r : Root). r.p) e in absurd (omega (arith, ints)); bound = one_within };
  least = inl refl;
}

-- a gate, a measurement and a join
pub gated_factor : (o : Op) (qs : List ℕ) (G : Held) → IsFactor G → ArePlaces (length G.qubits) (places_in G.qubits qs)
    → length (places_in G.qubits qs) ≡ places_of o → IsFactor (gated o qs G)
gated_factor o qs G f places count = record {
  sound = sound_least (2 ^ length G.qubits) (gate_of o (places_in G.qubits qs) (state_of G)).nums (G.h + factors_left_out o)
      (sound_gate o (places_in G.qubits qs) (length G.qubits) G.h G.nums places count f.sound);
  least = least_is_least (G.h + factors_left_out o) (gate_of o (places_in G.qubits qs) (state_of G)).nums;
}

-- after a measurement with an outcome that isn't zero
pub measured_factor : (qs : List ℕ) (m : ℕ) (G : Held) → IsFactor G → is_outcome (places_in G.qubits qs) (state_of G) m ≡ true → IsFactor (measured qs m G)
measured_factor qs m G f outcome = record {
  sound = sound_least (2 ^ length G.qubits) (projected (places_in G.qubits qs) m (state_of G)).nums G.h
      (sound_projected (length G.qubits) G.h (places_in G.qubits qs) m G.nums f.sound outcome);
  least = least_is_least G.h (projected (places_in G.qubits qs) m (state_of G)).nums;
}

-- after a join
pub joined_factor : (G H : Held) → IsFactor G → IsFactor H → IsFactor (joined G H)
joined_factor G H f g =
    let size : length G.qubits + length H.qubits ≡ length (joined G H).qubits = sym (length-append G.qubits H.qubits) in
    let both = sound_products (length G.qubits) (length H.qubits) G.nums H.nums G.h H.h f.sound g.sound in
    let same = subst (λ xs. IsSound (2 ^ (length G.qubits + length H.qubits)) xs (G.h + H.h)) (products_are G.nums H.nums) both in
    record {
      sound = sound_least (2 ^ length (joined G H).qubits) (product_of G.nums H.nums) (G.h + H.h)
          (subst (λ n. IsSound (2 ^ n) (product_of G.nums H.nums) (G.h + H.h)) size same);
      least = least_is_least (G.h + H.h) (product_of G.nums H.nums);
    }

-- all sums are even only where there is an exponent
even_exponent : (G : Held) → IsFactor G → list_all has_even_sum G.nums ≡ true → 1 ≤ G.h
even_exponent G f e = by_exponent G.h refl
  where
    by_exponent : (h : ℕ) → G.h ≡ h → 1 ≤ G.h
    by_exponent zero t =
        absurd (even_has_exponent G.nums (subst (λ h. (norm_sum G.nums).p ≤ℤ pos (2 ^ h)) t
        (whole_within (norm_sum G.nums) G.h f.sound.bound)) f.sound.nonzero e)
    by_exponent (suc h) t = omega arith

-- an exponent that isn't 0 is least, so root 2 doesn't divide all; and a norm of at most 1 isn't even
undivided : (G : Held) → IsFactor G → list_all is_root2_times G.nums ≡ false
undivided G f = ⊎_elim
    (λ (t : list_all is_root2_times G.nums ≡ true). ⊎_elim
    (λ (e : G.h ≡ 0). absurd (let some = even_exponent G f (all_even_from G.nums t) in omega arith))
    (λ (e : list_all is_root2_times G.nums ≡ false). e)
    f.least)
    (λ (t : list_all is_root2_times G.nums ≡ false). t)
    (cases_Bool (list_all is_root2_times G.nums))

-- so some place tells what is over
pub factor_told : (G : Held) → IsFactor G → IsTold G.nums
factor_told G f = told G.nums (undivided G f)

-- twice the exponent is the level and the half that is over
pub level_counts : (G : Held) → IsFactor G → level_of G + halves (list_all has_even_sum G.nums) ≡ 2 * G.h
level_counts G f = ⊎_elim
    (λ (t : list_all has_even_sum G.nums ≡ true). let some = even_exponent G f t in rw t (omega arith))
    (λ (t : list_all has_even_sum G.nums ≡ false). rw t (omega arith))
    (cases_Bool (list_all has_even_sum G.nums))
