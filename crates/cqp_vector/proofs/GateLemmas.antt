-- Gates on given places: which qubits are controls, and what becomes of the norm.
use Rattle.std.proofs.Common.{◌≡◌, ◌≢◌, ℕ, suc, ◌+◌, ◌^◌, List, [], ◌∷◌, length, map}
use Rattle.std.proofs.Common.{get_or}
use Rattle.std.proofs.Common.{refl, sym, ap, ◌∙◌, arith, subst, false, add-zero}
use Rattle.std.specs.Prelude.{◌==◌}
use Rattle.std.specs.List.{range_with_len}
use Rattle.std.proofs.lemmas.Bool.{and_parts, not-true, ltb-true, or_parts, eqb-false, ne_eqb, and_from, or_from}
use Rattle.std.proofs.lemmas.List.FromFn.{length-map-range_with_len}
use Rattle.cqp_ring.specs.declared.amp.Amp.{Amp}
use Rattle.cqp_ring.specs.Root.{norm_sum, zero_root}
use Rattle.cqp_syntax.specs.declared.op.Op.{Op}
use Rattle.cqp_syntax.specs.declared.op.Op.TheVariants as op
use Rattle.cqp_syntax.specs.Gates.{places_of}
use Rattle.cqp_vector.specs.State.{State, amp_at}
use Rattle.cqp_vector.specs.Gate.{after_controlled, gate_of, swapped}
use Rattle.cqp_vector.specs.Group.{IsWithin, factors_left_out}
use Rattle.cqp_vector.specs.Pairs.{AreControls}
use Rattle.cqp_vector.specs.Places.{ArePlaces}
use Rattle.cqp_vector.proofs.LeastLemmas.{IsSound}
use Rattle.cqp_vector.proofs.Norms.{doubled, kept_norm, h_norm}
use Rattle.cqp_vector.proofs.Swaps.{three_make_swap}
use Rattle.cqp_vector.proofs.WithinLemmas.{within_doubled, not_half}

-- ---- controls
-- two different numbers differ the other way round too
unlike : (a b : ℕ) → (a == b) ≡ false → (b == a) ≡ false
unlike a b e = ne_eqb b a (λ f. eqb-false a b e (sym f))

-- one place alone is a qubit under no control
pub one_control : (n a : ℕ) → ArePlaces n (a ∷ []) → AreControls n [] a
one_control n a p = record { made = ltb-true a n (and_parts _ _ p.below).0; below = refl; apart = refl }

-- of two places the first controls the second
pub two_controls : (n a b : ℕ) → ArePlaces n (a ∷ b ∷ []) → AreControls n (a ∷ []) b
two_controls n a b p =
    let below = and_parts _ _ p.below in
    let distinct = and_parts _ _ p.distinct in
    let other = or_parts _ _ (not-true _ distinct.0) in
    record {
      made = ltb-true b n (and_parts _ _ below.1).0;
      below = and_from _ _ below.0 refl;
      apart = or_from _ _ (unlike a b other.0) refl;
    }

-- and the second the first
pub two_turned : (n a b : ℕ) → ArePlaces n (a ∷ b ∷ []) → AreControls n (b ∷ []) a
two_turned n a b p =
    let below = and_parts _ _ p.below in
    let distinct = and_parts _ _ p.distinct in
    let other = or_parts _ _ (not-true _ distinct.0) in
    record {
      made = ltb-true a n below.0;
      below = below.1;
      apart = or_from _ _ other.0 refl;
    }

-- of three places the first two control the third
pub three_controls : (n a b c : ℕ) → ArePlaces n (a ∷ b ∷ c ∷ []) → AreControls n (a ∷ b ∷ []) c
three_controls n a b c p =
    let below = and_parts _ _ p.below in
    let later = and_parts _ _ below.1 in
    let distinct = and_parts _ _ p.distinct in
    let after = and_parts _ _ distinct.1 in
    let a_other = or_parts _ _ (not-true _ distinct.0) in
    let a_c = or_parts _ _ a_other.1 in
    let b_c = or_parts _ _ (not-true _ after.0) in
    record {
      made = ltb-true c n (and_parts _ _ later.1).0;
      below = and_from _ _ below.0 (and_from _ _ later.0 refl);
      apart = or_from _ _ (unlike a c a_c.0) (or_from _ _ (unlike b c b_c.0) refl);
    }

-- ---- Swap
-- three CNot make Swap
pub swap_made : (n : ℕ) (ps : List ℕ) (nums one two three : List Amp) → ArePlaces n ps → length ps ≡ 2
    → one ≡ map (after_controlled op.X n (get_or ps 0 0 ∷ []) (get_or ps 1 0) nums) (range_with_len 0 (2 ^ n))
    → two ≡ map (after_controlled op.X n (get_or ps 1 0 ∷ []) (get_or ps 0 0) one) (range_with_len 0 (2 ^ n))
    → three ≡ map (after_controlled op.X n (get_or ps 0 0 ∷ []) (get_or ps 1 0) two) (range_with_len 0 (2 ^ n))
    → let s : State = record { qubits = n; nums = nums } in three ≡ (gate_of op.Swap ps s).nums
swap_made n [] nums one two three p e f g h = absurd (omega arith)
swap_made n (a ∷ []) nums one two three p e f g h = absurd (omega arith)
swap_made n (a ∷ b ∷ []) nums one two three p e f g h =
    let forth = two_controls n a b p in
    let back = two_turned n a b p in
    three_make_swap n a b nums one two three back.made forth.made (λ i. eqb-false b a (or_parts _ _ forth.apart).0 (sym i)) f g h
swap_made n (a ∷ b ∷ c ∷ ps) nums one two three p e f g h = absurd (omega arith)

-- the first of the three exchanges of Swap keeps the norm
pub swap_keeps : (n : ℕ) (ps : List ℕ) (nums one : List Amp) → ArePlaces n ps → length ps ≡ 2 → length nums ≡ 2 ^ n
    → one ≡ map (after_controlled op.X n (get_or ps 0 0 ∷ []) (get_or ps 1 0) nums) (range_with_len 0 (2 ^ n)) → norm_sum one ≡ norm_sum nums
swap_keeps n [] nums one p e whole f = absurd (omega arith)
swap_keeps n (a ∷ []) nums one p e whole f = absurd (omega arith)
swap_keeps n (a ∷ b ∷ []) nums one p e whole f = ap norm_sum f ∙ kept_norm op.X (λ i. cc) n (a ∷ []) b nums (two_controls n a b p) whole
swap_keeps n (a ∷ b ∷ c ∷ ps) nums one p e whole f = absurd (omega arith)

-- so does the one between, with control and target exchanged
pub swap_keeps_back : (n : ℕ) (ps : List ℕ) (nums one : List Amp) → ArePlaces n ps → length ps ≡ 2 → length nums ≡ 2 ^ n
    → one ≡ map (after_controlled op.X n (get_or ps 1 0 ∷ []) (get_or ps 0 0) nums) (range_with_len 0 (2 ^ n)) → norm_sum one ≡ norm_sum nums
swap_keeps_back n [] nums one p e whole f = absurd (omega arith)
swap_keeps_back n (a ∷ []) nums one p e whole f = absurd (omega arith)
swap_keeps_back n (a ∷ b ∷ []) nums one p e whole f = ap norm_sum f ∙ kept_norm op.X (λ i. cc) n (b ∷ []) a nums (two_turned n a b p) whole
swap_keeps_back n (a ∷ b ∷ c ∷ ps) nums one p e whole f = absurd (omega arith)

-- ---- what a gate keeps
-- a list made place by place has all places
length_made : (n : ℕ) (f : ℕ → Amp) → length (map f (range_with_len 0 (2 ^ n))) ≡ 2 ^ n
length_made n f = length-map-range_with_len f 0 (2 ^ n)

-- a gate that keeps the norm
sound_kept : (n h : ℕ) (nums new : List Amp) → length new ≡ 2 ^ n → norm_sum new ≡ norm_sum nums → IsSound (2 ^ n) nums h → IsSound (2 ^ n) new (h + 0)
sound_kept n h nums new whole e s = record {
  whole = whole;
  nonzero = subst (λ t. t ≢ zero_root) (sym e) s.nonzero;
  bound = subst (IsWithin (norm_sum new)) (sym (add-zero h)) (subst (λ t. IsWithin t h) (sym e) s.bound);
}

-- numerators with twice the norm are sound at the next exponent
sound_doubled : (n h : ℕ) (nums new : List Amp) → length new ≡ 2 ^ n → norm_sum new ≡ doubled (norm_sum nums) → IsSound (2 ^ n) nums h
    → IsSound (2 ^ n) new (h + 1)
sound_doubled n h nums new whole e s = record {
  whole = whole;
  nonzero = subst (λ t. t ≢ zero_root) (sym e) (not_half _ s.nonzero);
  bound = subst (λ t. IsWithin t (h + 1)) (sym e) (within_doubled _ h s.bound);
}

-- a gate but H under controls keeps numerators sound at their exponent
sound_controlled : (o : Op) → (o ≢ op.H) → (n h : ℕ) (cs : List ℕ) (q : ℕ) (nums : List Amp) → AreControls n cs q → IsSound (2 ^ n) nums h
    → IsSound (2 ^ n) (map (after_controlled o n cs q nums) (range_with_len 0 (2 ^ n))) (h + 0)
sound_controlled o other n h cs q nums c s =
    sound_kept n h nums _ (length_made n (after_controlled o n cs q nums)) (kept_norm o other n cs q nums c s.whole) s

-- three controlled X are Swap, whose norm is the old one
pub swap_norm : (n a b : ℕ) (nums one two three : List Amp) → ArePlaces n (a ∷ b ∷ []) → length nums ≡ 2 ^ n
    → one ≡ map (after_controlled op.X n (a ∷ []) b nums) (range_with_len 0 (2 ^ n))
    → two ≡ map (after_controlled op.X n (b ∷ []) a one) (range_with_len 0 (2 ^ n))
    → three ≡ map (after_controlled op.X n (a ∷ []) b two) (range_with_len 0 (2 ^ n))
    → norm_sum (map (λ k. amp_at nums (swapped n a b k)) (range_with_len 0 (2 ^ n))) ≡ norm_sum nums
swap_norm n a b nums one two three p whole f g h =
    let forth = two_controls n a b p in
    let back = two_turned n a b p in
    let same = three_make_swap n a b nums one two three back.made forth.made (λ i. eqb-false b a (or_parts _ _ forth.apart).0 (sym i)) f g h in
    let one_whole : length one ≡ 2 ^ n = ap length f ∙ length_made n (after_controlled op.X n (a ∷ []) b nums) in
    let two_whole : length two ≡ 2 ^ n = ap length g ∙ length_made n (after_controlled op.X n (b ∷ []) a one) in
    ap norm_sum (sym same ∙ h)
    ∙ kept_norm op.X (λ i. cc) n (a ∷ []) b two forth two_whole
    ∙ ap norm_sum g ∙ kept_norm op.X (λ i. cc) n (b ∷ []) a one back one_whole
    ∙ ap norm_sum f ∙ kept_norm op.X (λ i. cc) n (a ∷ []) b nums forth whole

-- Swap keeps numerators sound
sound_swapped : (n h a b : ℕ) (nums : List Amp) → ArePlaces n (a ∷ b ∷ []) → IsSound (2 ^ n) nums h
    → IsSound (2 ^ n) (map (λ k. amp_at nums (swapped n a b k)) (range_with_len 0 (2 ^ n))) (h + 0)
sound_swapped n h a b nums p s =
    sound_kept n h nums _ (length_made n (λ k. amp_at nums (swapped n a b k))) (swap_norm n a b nums _ _ _ p s.whole refl refl refl) s

-- the state after a gate is sound again, over one more root 2 where the gate is H
abbrev SoundAfter : Op → List ℕ → ℕ → List Amp → ℕ → Type 0
SoundAfter o ps n nums h = IsSound (2 ^ n) (gate_of o ps (record { qubits = n; nums = nums })).nums (h + factors_left_out o)

-- so does each gate of one place, at the exponent that it leaves
sound_single : (o : Op) → places_of o ≡ 1 → (n h q : ℕ) (nums : List Amp) → ArePlaces n (q ∷ []) → IsSound (2 ^ n) nums h → SoundAfter o (q ∷ []) n nums h
sound_single op.I e n h q nums p s = sound_controlled op.I (λ i. cc) n h [] q nums (one_control n q p) s
sound_single op.X e n h q nums p s = sound_controlled op.X (λ i. cc) n h [] q nums (one_control n q p) s
sound_single op.Y e n h q nums p s = sound_controlled op.Y (λ i. cc) n h [] q nums (one_control n q p) s
sound_single op.Z e n h q nums p s = sound_controlled op.Z (λ i. cc) n h [] q nums (one_control n q p) s
sound_single op.H e n h q nums p s = sound_doubled n h nums _ (length_made n (after_controlled op.H n [] q nums))
    (h_norm n q nums (one_control n q p) s.whole) s
sound_single op.S e n h q nums p s = sound_controlled op.S (λ i. cc) n h [] q nums (one_control n q p) s
sound_single op.T e n h q nums p s = sound_controlled op.T (λ i. cc) n h [] q nums (one_control n q p) s
sound_single op.CNot e n h q nums p s = absurd (omega arith)
sound_single op.CZ e n h q nums p s = absurd (omega arith)
sound_single op.Swap e n h q nums p s = absurd (omega arith)
sound_single op.Toffoli e n h q nums p s = absurd (omega arith)

-- so does each gate of two places
sound_pair : (o : Op) → places_of o ≡ 2 → (n h a b : ℕ) (nums : List Amp) → ArePlaces n (a ∷ b ∷ []) → IsSound (2 ^ n) nums h
    → SoundAfter o (a ∷ b ∷ []) n nums h
sound_pair op.I e n h a b nums p s = absurd (omega arith)
sound_pair op.X e n h a b nums p s = absurd (omega arith)
sound_pair op.Y e n h a b nums p s = absurd (omega arith)
sound_pair op.Z e n h a b nums p s = absurd (omega arith)
sound_pair op.H e n h a b nums p s = absurd (omega arith)
sound_pair op.S e n h a b nums p s = absurd (omega arith)
sound_pair op.T e n h a b nums p s = absurd (omega arith)
sound_pair op.CNot e n h a b nums p s = sound_controlled op.X (λ i. cc) n h (a ∷ []) b nums (two_controls n a b p) s
sound_pair op.CZ e n h a b nums p s = sound_controlled op.Z (λ i. cc) n h (a ∷ []) b nums (two_controls n a b p) s
sound_pair op.Swap e n h a b nums p s = sound_swapped n h a b nums p s
sound_pair op.Toffoli e n h a b nums p s = absurd (omega arith)

-- so does each gate of three places
sound_three : (o : Op) → places_of o ≡ 3 → (n h a b c : ℕ) (nums : List Amp) → ArePlaces n (a ∷ b ∷ c ∷ []) → IsSound (2 ^ n) nums h
    → SoundAfter o (a ∷ b ∷ c ∷ []) n nums h
sound_three op.I e n h a b c nums p s = absurd (omega arith)
sound_three op.X e n h a b c nums p s = absurd (omega arith)
sound_three op.Y e n h a b c nums p s = absurd (omega arith)
sound_three op.Z e n h a b c nums p s = absurd (omega arith)
sound_three op.H e n h a b c nums p s = absurd (omega arith)
sound_three op.S e n h a b c nums p s = absurd (omega arith)
sound_three op.T e n h a b c nums p s = absurd (omega arith)
sound_three op.CNot e n h a b c nums p s = absurd (omega arith)
sound_three op.CZ e n h a b c nums p s = absurd (omega arith)
sound_three op.Swap e n h a b c nums p s = absurd (omega arith)
sound_three op.Toffoli e n h a b c nums p s = sound_controlled op.X (λ i. cc) n h (a ∷ b ∷ []) c nums (three_controls n a b c p) s

-- no gate has another number of places
pub at_most_three : (o : Op) (m : ℕ) → suc (suc (suc (suc m))) ≡ places_of o → ⊥
at_most_three op.I m e = absurd (omega arith)
at_most_three op.X m e = absurd (omega arith)
at_most_three op.Y m e = absurd (omega arith)
at_most_three op.Z m e = absurd (omega arith)
at_most_three op.H m e = absurd (omega arith)
at_most_three op.S m e = absurd (omega arith)
at_most_three op.T m e = absurd (omega arith)
at_most_three op.CNot m e = absurd (omega arith)
at_most_three op.CZ m e = absurd (omega arith)
at_most_three op.Swap m e = absurd (omega arith)
at_most_three op.Toffoli m e = absurd (omega arith)

-- no gate has no place
pub some_places : (o : Op) → 0 ≡ places_of o → ⊥
some_places op.I e = absurd (omega arith)
some_places op.X e = absurd (omega arith)
some_places op.Y e = absurd (omega arith)
some_places op.Z e = absurd (omega arith)
some_places op.H e = absurd (omega arith)
some_places op.S e = absurd (omega arith)
some_places op.T e = absurd (omega arith)
some_places op.CNot e = absurd (omega arith)
some_places op.CZ e = absurd (omega arith)
some_places op.Swap e = absurd (omega arith)
some_places op.Toffoli e = absurd (omega arith)

-- each gate keeps numerators sound
pub sound_gate : (o : Op) (ps : List ℕ) (n h : ℕ) (nums : List Amp) → ArePlaces n ps → length ps ≡ places_of o → IsSound (2 ^ n) nums h
    → SoundAfter o ps n nums h
sound_gate o [] n h nums p e s = absurd (some_places o e)
sound_gate o (a ∷ []) n h nums p e s = sound_single o (sym e) n h a nums p s
sound_gate o (a ∷ b ∷ []) n h nums p e s = sound_pair o (sym e) n h a b nums p s
sound_gate o (a ∷ b ∷ c ∷ []) n h nums p e s = sound_three o (sym e) n h a b c nums p s
sound_gate o (a ∷ b ∷ c ∷ d ∷ ps) n h nums p e s = absurd (at_most_three o (length ps) e)
