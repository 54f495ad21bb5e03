-- Names that a number has marked, one after another.
use Rattle.std.proofs.Common.{◌≡◌, ℕ, ◌<◌, ◌≢◌, ◌==◌, ◌||◌, ◌⊎◌, inl, inr, Bool, true, false, List, [], ◌∷◌, map, length, set, slice_index, refl, sym, ◌∙◌, ap}
use Rattle.std.proofs.Common.{ap₂, subst, arith, get_or-set_other, get_or-set_same, length-set}
use Rattle.cqp_syntax.specs.Trees.{named}
use Rattle.cqp_syntax.specs.Free.{is_among}
use Rattle.cqp_types.specs.Contexts.{is_twice}
use Rattle.cqp_types.specs.Marks.{IsUnmarked, IsMarkedBy}
use Rattle.cqp_syntax.proofs.Bools.{fails, decide, same_number, number_same}

-- the number has marked just these names, of which one stands twice or not
pub record HasMarked (number : ℕ) (by ys : List ℕ) (twice : Bool) : Type 0 where
  pub twice_is : twice ≡ is_twice (map named ys)
  pub marks : (x : ℕ) → x < length by → (slice_index by x == number) ≡ is_among (named x) (map named ys)

-- different numbers fail the test of equality
other_number : (m n : ℕ) → m ≢ n → (m == n) ≡ false
other_number m n ne = decide (m == n) (λ e. absurd (ne (same_number m n e))) (λ e. e)

-- a number that marks no name has marked the names of no list
pub none_marked : (number : ℕ) (by : List ℕ) → IsUnmarked number by → HasMarked number by [] false
none_marked number by free = record { twice_is = refl; marks = λ x within. other_number (slice_index by x) number (free x within) }

-- one name more is marked
pub one_more : (number : ℕ) (by ys : List ℕ) (twice : Bool) (y : ℕ) → HasMarked number by ys twice → y < length by
    → HasMarked number (set by y number) (y ∷ ys) ((slice_index by y == number) || twice)
one_more number by ys twice y h within = record {
  twice_is = ap₂ (λ a b. a || b) (h.marks y within) h.twice_is;
  marks = λ x below.
      decide (x == y)
      (λ e.
      let same = same_number x y e in
      let here : slice_index (set by y number) y ≡ number = rw get_or-set_same refl in
      subst (λ z. (slice_index (set by y number) z == number) ≡ ((z == y) || is_among (named z) (map named ys))) (sym same)
      (ap (λ v. v == number) here ∙ number_same number ∙ sym (ap (λ b. b || is_among (named y) (map named ys)) (number_same y))))
      (λ e.
      let ne : x ≢ y = λ k. fails (sym e ∙ subst (λ z. (x == z) ≡ true) k (number_same x)) in
      let there : slice_index (set by y number) x ≡ slice_index by x = rw get_or-set_other refl in
      let old : x < length by = omega (arith, length-set by y number) in
      ap (λ v. v == number) there ∙ h.marks x old ∙ sym (ap (λ b. b || is_among (named x) (map named ys)) e));
}

-- where nothing is marked, nothing changes
pub no_mark : (number : ℕ) (by : List ℕ) → IsMarkedBy number by by
no_mark number by = record { count = refl; marks = λ x within. inl refl }

-- one mark more by the number
pub mark_more : (number : ℕ) (before by : List ℕ) (y : ℕ) → IsMarkedBy number before by → y < length by → IsMarkedBy number before (set by y number)
mark_more number before by y h within = record {
  count = length-set by y number ∙ h.count;
  marks = λ x below.
      decide (x == y)
      (λ e.
      let same = same_number x y e in
      let here : slice_index (set by y number) y ≡ number = rw get_or-set_same refl in
      inr (subst (λ z. slice_index (set by y number) z ≡ number) (sym same) here))
      (λ e.
      let ne : x ≢ y = λ k. fails (sym e ∙ subst (λ z. (x == z) ≡ true) k (number_same x)) in
      let there : slice_index (set by y number) x ≡ slice_index by x = rw get_or-set_other refl in
      subst (λ v. (v ≡ slice_index before x) ⊎ (v ≡ number)) (sym there) (h.marks x below));
}
