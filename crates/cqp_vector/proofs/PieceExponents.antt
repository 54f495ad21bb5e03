-- The exponents of the pieces of a split add to that of the group.
use Rattle.std.proofs.Common.{◌≡◌, ◌≢◌, ℕ, zero, suc, ◌+◌, ◌<◌, List, [], ◌∷◌, length, map}
use Rattle.std.proofs.Common.{refl, sym, ap, ◌∙◌, arith, false, ⊎_elim}
use Rattle.std.specs.Prelude.{◌==◌, if◌then◌else◌, sum_by}
use Rattle.std.specs.List.{range_with_len}
use Rattle.std.proofs.lemmas.Bool.{cases_eq, ne_eqb}
use Rattle.std.proofs.lemmas.List.Sums.{sum_by-cons, sum_by-append}
use Rattle.cqp_ring.specs.declared.amp.Amp.{Amp}
use Rattle.cqp_ring.specs.Amp.{one_amp}
use Rattle.cqp_vector.specs.State.{amp_at}
use Rattle.cqp_vector.specs.Group.{Group}
use Rattle.cqp_vector.specs.Pieces.{agreeing, measured, pieces_of, rest_of, singles}
use Rattle.cqp_vector.proofs.PieceLemmas.{pieces_apart, pieces_whole}

-- the exponents together
abbrev exponents : List Group → ℕ
exponents gs = sum_by (λ (f : Group). f.h) gs

module _ (ps : List ℕ) (m : ℕ) (qs : List ℕ) (x : Amp) (h : ℕ) where
  -- a measured qubit: the first has the numerator x over root 2 to the h, the others 1
  abbrev piece : ℕ → Group
  piece j = if j == 0 then measured ps m qs j x h else measured ps m qs j one_amp 0

  -- the later ones have the exponent 0
  none_later : (n a : ℕ) → 0 < a → exponents (map piece (range_with_len a n)) ≡ 0
  none_later zero a some = refl
  none_later (suc n) a some =
      let other : (a == 0) ≡ false = ne_eqb a 0 (λ e. absurd (omega arith)) in
      let first : (piece a).h ≡ 0 = ap (λ s. let t : Group = if s then measured ps m qs a x h else measured ps m qs a one_amp 0 in t.h) other in
      sum_by-cons (λ (f : Group). f.h) (piece a) (map piece (range_with_len (a + 1) n)) ∙ omega (arith, first, none_later n (a + 1) (omega arith))

  -- so all have that of the first
  single_exponents : (n : ℕ) → 0 < n → exponents (map piece (range_with_len 0 n)) ≡ h
  single_exponents zero some = absurd (omega arith)
  single_exponents (suc n) some =
      sum_by-cons (λ (f : Group). f.h) (piece 0) (map piece (range_with_len (0 + 1) n)) ∙ omega (arith, none_later n 1 (omega arith))

-- the pieces have together the exponent of the group
pub pieces_exponents : (ps : List ℕ) (m : ℕ) (g : Group) → 0 < length ps → exponents (pieces_of ps m g) ≡ g.h
pieces_exponents ps m g some = ⊎_elim
    (λ (all : length ps ≡ length g.qubits).
    ap exponents (sym (pieces_whole ps m g all)) ∙ single_exponents ps m g.qubits (amp_at (agreeing ps m g) 0) g.h (length ps) some)
    (λ (apart : length ps ≢ length g.qubits).
    let one = single_exponents ps m g.qubits one_amp 0 (length ps) some in
    let last = sum_by-append (λ (f : Group). f.h) (singles ps m g.qubits one_amp 0) (rest_of ps m g ∷ []) in
    let alone = sum_by-cons (λ (f : Group). f.h) (rest_of ps m g) [] in
    ap exponents (sym (pieces_apart ps m g apart)) ∙ omega (arith, one, last, alone))
    (cases_eq (length ps) (length g.qubits))
