-- The weight of a run has a text: the groups' norms are within 2 to their exponents, and so is the
-- probability.
use Rattle.std.proofs.Common.{◌≡◌, ℕ, suc, ◌*◌, ◌<◌, ◌≤◌, ◌^◌, List, Some, length, sym, ap, subst, ◌∙◌, arith, inl, inr, ◌⊎◌, pow_pos}
use Rattle.std.specs.Prelude.{ℤ, pos, negsuc, nat_abs, ◌≤ℤ◌, ◌*ℤ◌}
use Rattle.std.proofs.lemmas.Bool.{cases_lt}
use Rattle.std.proofs.lemmas.Int.{ints, unsigned_abs-mul}
use Rattle.std.proofs.Math.IntN.{pos-*ℤ-negsuc, pos-*ℤ-pos}
use Rattle.std.proofs.Math.Nat.{mul-le-mul_left, mul-lt-mul_of_pos_left, mul-pos}
use Rattle.std.proofs.Math.Pow.{pow_mono}
use Rattle.cqp_ring.specs.declared.root.Root.{Root}
use Rattle.cqp_ring.specs.declared.weight.Weight.{Weight}
use Rattle.cqp_ring.specs.Root.{root_product, whole_root}
use Rattle.cqp_ring.specs.Weight.{IsLeast, IsSameNumber}
use Rattle.cqp_trace.specs.Writable.{IsWritableWeight}
use Rattle.cqp_syntax.specs.Listing.{Listing, root}
use Rattle.cqp_syntax.specs.Trees.{Process}
use Rattle.cqp_trace.specs.declared.entry.Entry.{Entry}
use Rattle.cqp_cells.specs.Config.{Config, start_of}
use Rattle.cqp_cells.specs.Norms.{weight_of_path}
use Rattle.cqp_cells.specs.Path.{IsPath, after}
use Rattle.cqp_cells.specs.Probability.{IsProbability}
use Rattle.cqp_machine.specs.Sums.{weight_of_groups}
use Rattle.cqp_groups.specs.Groups.{IsSmall, as_cells}
use Rattle.cqp_groups.specs.RunLaws.{SmallLaw, StateLaw}
use Rattle.cqp_stepper.specs.declared.cells.Cells.{Cells}
use Rattle.cqp_stepper.specs.Here.{HereLaw}
use Rattle.cqp_stepper.specs.Kept.{IsKept}
use Rattle.cqp_stepper.specs.Weighed.{HasWritableWeight}
use Rattle.cqp_stepper.proofs.Last.{here, last, path_here}

-- of what is no greater so many times, a part is no greater
less : (a x y : ℕ) → 0 < a → a * x ≤ a * y → x ≤ y
less a x y some h = by_cases (cases_lt y x)
  where
    by_cases : (y < x) ⊎ (x ≤ y) → x ≤ y
    by_cases (inl more) = let other : a * y < a * x = mul-lt-mul_of_pos_left more some in absurd (omega arith)
    by_cases (inr same) = same

-- of numbers that are so many times others, the order is that of the others
order_kept : (a b x y s t : ℕ) → 0 < b → a * x ≡ b * s → a * y ≡ b * t → x ≤ y → s ≤ t
order_kept a b x y s t some first second h = less b s t some (let e : a * x ≤ a * y = mul-le-mul_left a h in omega (arith, first, second, e))

-- so many times one number is as many times another
pub record AreTimes (m n : ℕ) (x y : Root) : Type 0 where
  pub whole : pos m *ℤ x.p ≡ pos n *ℤ y.p
  pub root : pos m *ℤ x.q ≡ pos n *ℤ y.q

-- products by whole numbers, part by part
are_times : (m n : ℕ) (x y : Root) → root_product (whole_root (pos m)) x ≡ root_product (whole_root (pos n)) y → AreTimes m n x y
are_times m n x y e =
    let f = ap (λ r. r.p) e in
    let g = ap (λ r. r.q) e in
    record { whole = omega (arith, ints, f); root = omega (arith, ints, g) }

-- and their sizes
sizes : (m n : ℕ) (x y : ℤ) → pos m *ℤ x ≡ pos n *ℤ y → m * nat_abs x ≡ n * nat_abs y
sizes m n x y e = sym (unsigned_abs-mul (pos m) x) ∙ (ap nat_abs e ∙ unsigned_abs-mul (pos n) y)

-- the other isn't negative where the one isn't
sign_kept : (m n : ℕ) (x y : ℤ) → 0 < n → pos m *ℤ x ≡ pos n *ℤ y → pos 0 ≤ℤ x → pos 0 ≤ℤ y
sign_kept m n (pos i) (pos j) some e h = omega (arith, ints)
sign_kept m n (negsuc i) (pos j) some e h = omega (arith, ints)
sign_kept m n (negsuc i) (negsuc j) some e h = absurd (omega (arith, ints))
sign_kept m n (pos i) (negsuc j) some e h =
    let more : 0 < n * suc j = mul-pos some (omega arith) in
    absurd (omega (arith, ints, pos-*ℤ-pos m i, pos-*ℤ-negsuc n j, e, more))

-- what is small over one power of two is small over another, where it is one number
pub small_too : (total k l : ℕ) (x y z : Root) → AreTimes (2 ^ total) (2 ^ k) x y → AreTimes (2 ^ total) (2 ^ l) z y → IsSmall k x → IsSmall l z
small_too total k l x y z is are small = record {
  whole = sign_kept (2 ^ l) (2 ^ total) y.p z.p (pow_pos total) (sym are.whole) (sign_kept (2 ^ total) (2 ^ k) x.p y.p (pow_pos k) is.whole small.whole);
  whole_small =
      order_kept (2 ^ l) (2 ^ total) (nat_abs y.p) (2 ^ total) (nat_abs z.p) (2 ^ l) (pow_pos total) (sym (sizes _ _ _ _ are.whole)) (omega arith)
      (order_kept (2 ^ total) (2 ^ k) (nat_abs x.p) (2 ^ k) (nat_abs y.p) (2 ^ total) (pow_pos k) (sizes _ _ _ _ is.whole) (omega arith) small.whole_small);
  root_small =
      order_kept (2 ^ l) (2 ^ total) (nat_abs y.q) (nat_abs y.p) (nat_abs z.q) (nat_abs z.p) (pow_pos total) (sym (sizes _ _ _ _ are.root))
      (sym (sizes _ _ _ _ are.whole))
      (order_kept (2 ^ total) (2 ^ k) (nat_abs x.q) (nat_abs x.p) (nat_abs y.q) (nat_abs y.p) (pow_pos k) (sizes _ _ _ _ is.root) (sizes _ _ _ _ is.whole)
      small.root_small);
}

-- a small weight with at most 90 below has a text
writable_small : (w : Weight) → IsSmall w.below w.top → w.below ≤ 90 → IsWritableWeight w
writable_small w small few =
    let power : 2 ^ w.below ≤ 2 ^ 90 = pow_mono {i = w.below} {j = 90} few in
    let bound : 2 ^ 90 ≤ 2 ^ 126 = pow_mono {i = 90} {j = 126} (omega arith) in
    let whole = small.whole_small in
    let root = small.root_small in
    record {
      whole = small.whole;
      whole_small = omega (arith, power, bound, whole);
      root_small = omega (arith, power, bound, whole, root);
      below_small = few;
    }

-- of two weights that are one number with a third, one has a text where the other is small
pub writable_same : (v w u : Weight) → IsSameNumber v u → IsSameNumber w u → IsSmall v.below v.top → w.below ≤ 90 → IsWritableWeight w
writable_same v w u first second small few =
    writable_small w
    (small_too u.below v.below w.below v.top u.top w.top (are_times _ _ _ _ first) (are_times _ _ _ _ second) small)
    few

-- a weight that is a path's probability is its last norm over 2 to the number of H
abbrev OnlyLaw : Type 0
OnlyLaw =
    (p : Process) (es : List Entry) (c : Config) → after (start_of p) es ≡ Some c → (w : Weight) → IsProbability p es w → IsSameNumber w (weight_of_path es c)

-- a least one has at most 90 below
abbrev BelowLaw : Type 0
BelowLaw = (p : Process) (es : List Entry) (c : Config) → IsPath p es c → (w : Weight) → IsLeast w → IsProbability p es w → w.below ≤ 90

module _ (l : Listing) (here_law : HereLaw) (entries : List Entry) (s : Cells) (k : IsKept l entries s) where
  -- so the probability of the entries of a run has a text
  pub weighed_here : StateLaw → SmallLaw → OnlyLaw → BelowLaw → HasWritableWeight (root l) entries
  weighed_here state small only below w least is =
      let c = last l here_law entries s k in
      let path = path_here l here_law entries s k in
      let told = state l k.events s.groups c k.groups (here l here_law entries s k).shows.path in
      let v = weight_of_groups (length s.groups) (as_cells s.groups) in
      let first = only (root l) entries c path.leads v (subst (λ es. IsProbability (root l) es v) k.shows told.probability) in
      let second = only (root l) entries c path.leads w is in
      writable_same v w (weight_of_path entries c) first second (small l k.events s.groups k.groups) (below (root l) entries c path w least is)
