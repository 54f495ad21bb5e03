-- Whether the projection on an outcome is zero, place by place.
use Rattle.std.proofs.Common.{◌≡◌, ℕ, ◌+◌, ◌<◌, ◌^◌, ◌==◌, List, [], ◌∷◌, map, not, true, false, refl, sym, ap, arith, subst, ◌∙◌}
use Rattle.std.proofs.Common.{if◌then◌else◌, eq-eqb, ⊎_elim}
use Rattle.std.specs.List.{list_all, range_with_len}
use Rattle.std.proofs.lemmas.Bool.{and_from, cases_Bool}
use Rattle.std.proofs.lemmas.List.Folds.{list_all-append, list_all_at}
use Rattle.std.proofs.lemmas.List.FromFn.{get_or-map-range_with_len, length-map-range_with_len, map-range_with_len_more}
use Rattle.cqp_ring.specs.declared.amp.Amp.{Amp}
use Rattle.cqp_ring.specs.Amp.{zero_amp}
use Rattle.cqp_vector.specs.State.{amp_at}
use Rattle.cqp_vector.specs.Measurement.{is_outcome, is_zero_amp, outcome_at}

-- the numerator that the projection has at a place
abbrev pub kept_at : List ℕ → ℕ → ℕ → List Amp → ℕ → Amp
kept_at ps m n nums k = if outcome_at n ps k == m then amp_at nums k else zero_amp

-- the projection is zero at the places below k
abbrev pub IsZeroBelow : List ℕ → ℕ → ℕ → List Amp → ℕ → Type 0
IsZeroBelow ps m n nums k = list_all is_zero_amp (map (kept_at ps m n nums) (range_with_len 0 k)) ≡ true

module _ (ps : List ℕ) (m n : ℕ) (nums : List Amp) where
  -- and at one place more
  zero_more : (k : ℕ) → IsZeroBelow ps m n nums k → is_zero_amp (kept_at ps m n nums k) ≡ true → IsZeroBelow ps m n nums (k + 1)
  zero_more k before here =
      ap (list_all is_zero_amp) (map-range_with_len_more (kept_at ps m n nums) 0 k k (omega arith))
      ∙ (list_all-append is_zero_amp (map (kept_at ps m n nums) (range_with_len 0 k)) (kept_at ps m n nums k ∷ [])
      ∙ and_from _ _ before (and_from _ true here refl))

  -- a place with another outcome
  pub other_more : (k : ℕ) → IsZeroBelow ps m n nums k → (outcome_at n ps k == m) ≡ false → IsZeroBelow ps m n nums (k + 1)
  other_more k before other = zero_more k before (rw other refl)

  -- a place whose numerator is 0
  pub none_more : (k : ℕ) → IsZeroBelow ps m n nums k → is_zero_amp (amp_at nums k) ≡ true → IsZeroBelow ps m n nums (k + 1)
  none_more k before none = ⊎_elim
      (λ (t : (outcome_at n ps k == m) ≡ true). zero_more k before (rw t none))
      (λ (t : (outcome_at n ps k == m) ≡ false). other_more k before t)
      (cases_Bool (outcome_at n ps k == m))

  -- a place with the outcome isn't
  pub one_has : (k : ℕ) → k < 2 ^ n → outcome_at n ps k ≡ m → is_zero_amp (amp_at nums k) ≡ false
      → is_outcome ps (record { qubits = n; nums = nums }) m ≡ true
  one_has k small same some =
      let here : kept_at ps m n nums k ≡ amp_at nums k = rw (eq-eqb _ _ same) refl in
      ap not (list_all_at is_zero_amp (map (kept_at ps m n nums) (range_with_len 0 (2 ^ n))) k zero_amp
      (subst (λ z. k < z) (sym (length-map-range_with_len (kept_at ps m n nums) 0 (2 ^ n))) small)
      (ap is_zero_amp (get_or-map-range_with_len (kept_at ps m n nums) 0 (2 ^ n) k k zero_amp small (omega arith) ∙ here) ∙ some))
