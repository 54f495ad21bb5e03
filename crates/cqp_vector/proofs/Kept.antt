-- What new qubits and gates keep of a vector.
use Rattle.std.proofs.Common.{◌≡◌, ℕ, ◌+◌, ◌*◌, ◌^◌, ◌<◌, ◌≤◌, List, [], length, map, ap, ◌∙◌, arith, refl}
use Rattle.std.proofs.Common.{pow-add}
use Rattle.std.specs.Prelude.{ℤ, pos, ◌+ℤ◌, ◌≤ℤ◌}
use Rattle.std.specs.List.{range_with_len}
use Rattle.std.proofs.lemmas.Int.{ints}
use Rattle.std.proofs.Math.Pow.{pow_mono}
use Rattle.std.proofs.lemmas.List.FromFn.{length-map-range_with_len}
use Rattle.cqp_ring.specs.declared.amp.Amp.{Amp}
use Rattle.cqp_ring.specs.Root.{norm_sum}
use Rattle.cqp_syntax.specs.declared.op.Op.TheVariants.{H, X}
use Rattle.cqp_vector.specs.State.{spread_at}
use Rattle.cqp_vector.specs.Gate.{after_single}
use Rattle.cqp_vector.specs.Vector.{Scaled, IsVector}
use Rattle.cqp_vector.specs.Pairs.{AreControls}
use Rattle.cqp_vector.proofs.GrownNorm.{grown_norm}
use Rattle.cqp_vector.proofs.Norms.{doubled, kept_norm, h_norm}

-- n qubits with these numerators, and the exponent h
abbrev pub vector_of : ℕ → List Amp → ℕ → Scaled
vector_of n nums h = record { state = record { qubits = n; nums = nums }; h = h }

-- a greater bound holds too
at_most_more : (z : ℤ) (m n : ℕ) → z ≤ℤ pos m → m ≤ n → z ≤ℤ pos n
at_most_more z m n h g = omega (arith, ints)

-- what is at most m is twice at most 2 m
at_most_twice : (z : ℤ) (m n : ℕ) → z ≤ℤ pos m → n ≡ 2 * m → (z +ℤ z) ≤ℤ pos n
at_most_twice z m n h e = omega (arith, ints)

-- at most 4,096 numerators
pub few_places : (n : ℕ) (nums : List Amp) (h : ℕ) → IsVector (vector_of n nums h) → length nums ≤ 4096
few_places n nums h v = let most : 2 ^ n ≤ 2 ^ 12 = pow_mono v.few in omega (arith, v.whole)

-- a norm within the limit
pub within_limit : (n : ℕ) (nums : List Amp) (h : ℕ) → IsVector (vector_of n nums h) → (norm_sum nums).p ≤ℤ pos (2 ^ 90)
within_limit n nums h v = at_most_more (norm_sum nums).p (2 ^ h) (2 ^ 90) v.bound (pow_mono v.limit)

-- no qubit is asked
alone : (n q : ℕ) → q < n → AreControls n [] q
alone n q made = record { made = made; below = refl; apart = refl }

-- a new qubit keeps what each vector keeps
pub keeps_grown : (n : ℕ) (nums xs : List Amp) (h : ℕ) → IsVector (vector_of n nums h) → n < 12
    → xs ≡ map (spread_at nums) (range_with_len 0 (2 * length nums)) → IsVector (vector_of (n + 1) xs h)
keeps_grown n nums xs h v few e = record {
  few = omega arith;
  whole = ap length e ∙ length-map-range_with_len (spread_at nums) 0 (2 * length nums) ∙ ap (λ t. 2 * t) v.whole ∙ omega (arith, pow-add 2 n 1);
  limit = v.limit;
  bound = rw (e, grown_norm nums) v.bound;
}

-- so does X
pub keeps_flipped : (n q : ℕ) (nums xs : List Amp) (h : ℕ) → IsVector (vector_of n nums h) → q < n
    → xs ≡ map (after_single X n q nums) (range_with_len 0 (2 ^ n)) → IsVector (vector_of n xs h)
keeps_flipped n q nums xs h v made e = record {
  few = v.few;
  whole = ap length e ∙ length-map-range_with_len (after_single X n q nums) 0 (2 ^ n);
  limit = v.limit;
  bound = let same : norm_sum xs ≡ norm_sum nums = ap norm_sum e ∙ kept_norm X (λ i. cc) n [] q nums (alone n q made) v.whole in rw same v.bound;
}

-- so does H, with an exponent one more
pub keeps_mixed : (n q : ℕ) (nums xs : List Amp) (h : ℕ) → IsVector (vector_of n nums h) → q < n → h < 90
    → xs ≡ map (after_single H n q nums) (range_with_len 0 (2 ^ n)) → IsVector (vector_of n xs (h + 1))
keeps_mixed n q nums xs h v made room e = record {
  few = v.few;
  whole = ap length e ∙ length-map-range_with_len (after_single H n q nums) 0 (2 ^ n);
  limit = omega arith;
  bound = let same : norm_sum xs ≡ doubled (norm_sum nums) = ap norm_sum e ∙ h_norm n q nums (alone n q made) v.whole in
      rw same (at_most_twice (norm_sum nums).p (2 ^ h) (2 ^ (h + 1)) v.bound (omega (arith, pow-add 2 h 1)));
}
