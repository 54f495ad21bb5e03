-- The levels of the pieces of a group that is split.
use Rattle.std.proofs.Common.{◌≡◌, ◌≢◌, ℕ, zero, suc, ◌+◌, ◌-◌, ◌*◌, ◌^◌, ◌<◌, List, [], ◌∷◌, ◌++◌, length, map}
use Rattle.std.proofs.Common.{refl, sym, ap, ◌∙◌, arith, true, false, inl, inr, ◌⊎◌, add-zero}
use Rattle.std.specs.Prelude.{◌==◌, if◌then◌else◌, Bool, slice_index, sum_by}
use Rattle.std.specs.List.{range_with_len, list_all}
use Rattle.std.proofs.lemmas.Bool.{cases_eq}
use Rattle.std.proofs.lemmas.List.Sums.{sum_by-cons, sum_by-append}
use Rattle.std.proofs.lemmas.Nat.{pow_pos}
use Rattle.cqp_ring.specs.declared.amp.Amp.{Amp}
use Rattle.cqp_ring.specs.Amp.{one_amp}
use Rattle.cqp_ring.specs.Parity.{has_even_sum}
use Rattle.cqp_vector.specs.State.{amp_at, qubit_bit}
use Rattle.cqp_vector.specs.Group.{Group, IsGroup, level_of}
use Rattle.cqp_vector.specs.Pieces.{single, singles, measured, pieces_of, agreeing, rest_of}
use Rattle.cqp_vector.specs.Pieces.{IsProjectedOn}
use Rattle.cqp_vector.specs.Places.{ArePlaces}
use Rattle.cqp_vector.proofs.ChangeLemmas.{choose_other}
use Rattle.cqp_vector.proofs.PieceLemmas.{single_nums, and_true, only_one, agreeing_all, agreeing_count, pieces_whole}
use Rattle.cqp_vector.proofs.PieceLemmas.{pieces_apart}

-- ---- levels of the pieces
-- the numerators of one qubit have even sums where that one has
single_even : (b : Bool) (x : Amp) → list_all has_even_sum (single_nums b x) ≡ has_even_sum x
unfolding single_nums
single_even true x = and_true (has_even_sum x)
single_even false x = and_true (has_even_sum x)

-- a single qubit with 1 has level 0
pub level_of_one : (q b : ℕ) → level_of (single q b one_amp 0) ≡ 0
unfolding single_nums
level_of_one q b = ap (λ t. if t then 2 * 0 - 1 else 2 * 0) (single_even (b == 1) one_amp)

-- the rest has the level of the group
pub level_of_rest : (ps : List ℕ) (m : ℕ) (g : Group) → IsProjectedOn ps m g → level_of (rest_of ps m g) ≡ level_of g
level_of_rest ps m g e = ap (λ t. if t then 2 * g.h - 1 else 2 * g.h) (agreeing_all has_even_sum refl ps m g e)

-- the level of the scalar
pub level_of_scalar : (ps : List ℕ) (m : ℕ) (g : Group) → IsGroup g → ArePlaces (length g.qubits) ps → IsProjectedOn ps m g → length ps ≡ length g.qubits
    → (q b : ℕ) → level_of (single q b (amp_at (agreeing ps m g) 0) g.h) ≡ level_of g
unfolding single_nums
level_of_scalar ps m g i p e all q b =
    let count = agreeing_count ps m g i p e in
    let one : length (agreeing ps m g) ≡ 1 = one_from (length (agreeing ps m g)) (2 ^ length g.qubits) (pow_pos (length g.qubits))
    (ap (λ r. length (agreeing ps m g) * 2 ^ r) (sym all) ∙ count) in
    ap (λ t. if t then 2 * g.h - 1 else 2 * g.h) (
    single_even (b == 1) (amp_at (agreeing ps m g) 0) ∙ sym (and_true (has_even_sum (amp_at (agreeing ps m g) 0)))
    ∙ ap (list_all has_even_sum) (sym (only_one (agreeing ps m g) one)) ∙ agreeing_all has_even_sum refl ps m g e)
  where
    one_from : (x y : ℕ) → 0 < y → x * y ≡ y → x ≡ 1
    one_from zero y some f = absurd (omega arith)
    one_from (suc zero) y some f = refl
    one_from (suc (suc x)) y some f = absurd (omega arith)

-- the levels of many
abbrev pub levels : List Group → ℕ
levels gs = sum_by level_of gs

-- the singles behind the first have the levels 0
levels_later : (ps : List ℕ) (m : ℕ) (qs : List ℕ) (x : Amp) (h n a : ℕ)
    → levels (map (λ i. if i == 0 then measured ps m qs i x h else measured ps m qs i one_amp 0) (range_with_len (suc a) n)) ≡ 0
levels_later ps m qs x h zero a = refl
levels_later ps m qs x h (suc n) a =
    let e : suc a + 1 ≡ suc (suc a) = omega arith in
    let other : suc a ≢ 0 = λ t. absurd (omega arith) in
    let f = level_of_one (slice_index qs (slice_index ps (suc a))) (qubit_bit (length ps) (suc a) m) in
    let g = ap (λ b. levels (map (λ i. if i == 0 then measured ps m qs i x h else measured ps m qs i one_amp 0) (range_with_len b n))) e
    ∙ levels_later ps m qs x h n (suc a) in
    ap (λ t. levels (t ∷ map (λ i. if i == 0 then measured ps m qs i x h else measured ps m qs i one_amp 0) (range_with_len (suc a + 1) n)))
    (choose_other (suc a) 0 (measured ps m qs (suc a) x h) (measured ps m qs (suc a) one_amp 0) other)
    ∙ sum_by-cons level_of (measured ps m qs (suc a) one_amp 0) (map (λ i. if i == 0 then measured ps m qs i x h else measured ps m qs i one_amp 0)
    (range_with_len (suc a + 1) n)) ∙ omega (arith, f, g)

-- so the singles have together the level of the first
levels_singles : (ps : List ℕ) (m : ℕ) (qs : List ℕ) (x : Amp) (h : ℕ) → 0 < length ps → levels (singles ps m qs x h) ≡ level_of (measured ps m qs 0 x h)
levels_singles ps m qs x h some = by_size (length ps) refl
  where
    by_size : (n : ℕ) → length ps ≡ n → levels (singles ps m qs x h) ≡ level_of (measured ps m qs 0 x h)
    by_size zero e = absurd (omega arith)
    by_size (suc n) e =
        let f = levels_later ps m qs x h n 0 in
        ap (λ r. levels (map (λ i. if i == 0 then measured ps m qs i x h else measured ps m qs i one_amp 0) (range_with_len 0 r))) e
        ∙ sum_by-cons level_of (measured ps m qs 0 x h) (map (λ i. if i == 0 then measured ps m qs i x h else measured ps m qs i one_amp 0)
        (range_with_len (0 + 1) n)) ∙ omega (arith, f)

-- levels add along a list
levels_append : (gs : List Group) (g : Group) → levels (gs ++ g ∷ []) ≡ levels gs + level_of g
levels_append gs g = sum_by-append level_of gs (g ∷ []) ∙ ap (λ t. levels gs + t) (sum_by-cons level_of g [] ∙ add-zero (level_of g))

-- the pieces have together the level of the group
pub pieces_level : (ps : List ℕ) (m : ℕ) (g : Group) → IsGroup g → ArePlaces (length g.qubits) ps → 0 < length ps → IsProjectedOn ps m g
    → levels (pieces_of ps m g) ≡ level_of g
pieces_level ps m g i p some e = by_cases (cases_eq (length ps) (length g.qubits))
  where
    by_cases : (length ps ≡ length g.qubits) ⊎ (length ps ≢ length g.qubits) → levels (pieces_of ps m g) ≡ level_of g
    by_cases (inl all) =
        ap levels (sym (pieces_whole ps m g all)) ∙ levels_singles ps m g.qubits (amp_at (agreeing ps m g) 0) g.h some
        ∙ level_of_scalar ps m g i p e all (slice_index g.qubits (slice_index ps 0)) (qubit_bit (length ps) 0 m)
    by_cases (inr apart) =
        let a = levels_append (singles ps m g.qubits one_amp 0) (rest_of ps m g) in
        let b = levels_singles ps m g.qubits one_amp 0 some in
        let c = level_of_one (slice_index g.qubits (slice_index ps 0)) (qubit_bit (length ps) 0 m) in
        let d = level_of_rest ps m g e in
        ap levels (sym (pieces_apart ps m g apart)) ∙ omega (arith, a, b, c, d)
