-- Groups are within the limits of factors, and two of them can be joined.
use Rattle.std.proofs.Common.{◌≡◌, ◌≢◌, ℕ, ◌+◌, ◌<◌, ◌≤◌, List, [], ◌∷◌, ◌++◌, not, nat_lt, true, length, ◌==◌, Some, None, refl, sym, ap, subst, arith, eq-eqb}
use Rattle.std.proofs.Common.{ne_eqb, ◌∙◌, length-append}
use Rattle.std.proofs.lemmas.Bool.{and_from, not_from_false, lt-ltb, or_left, or_right}
use Rattle.std.specs.List.{list_all}
use Rattle.std.specs.Prelude.{Bool, false, ◌*◌, ◌-◌, if◌then◌else◌}
use Rattle.cqp_ring.specs.Parity.{has_even_sum}
use Rattle.cqp_book.specs.Keys.{has}
use Rattle.cqp_syntax.specs.Listing.{Listing}
use Rattle.cqp_syntax.specs.Lists.{stands_in, is_distinct, are_below}
use Rattle.cqp_vector.specs.Group.{IsGroup, CanJoin}
use Rattle.cqp_vector.proofs.Counting.{at_most_all}
use Rattle.cqp_vector.proofs.Levels.{exponent_of_level}
use Rattle.cqp_cells.specs.Config.{Config}
use Rattle.cqp_machine.specs.declared.front.Front.{Front}
use Rattle.cqp_machine.specs.Factors.{Held, factor_of, level_of, joined}
use Rattle.cqp_machine.specs.Cells.{Cells, with_at}
use Rattle.cqp_machine.specs.Enabled.{MayJoin}
use Rattle.cqp_machine.specs.After.{lesser}
use Rattle.cqp_machine.specs.Sums.{sum_below, level_in, levels}
use Rattle.cqp_places.specs.Places.{IsDistinct}
use Rattle.cqp_places.proofs.PlaceLemmas.{index_within}
use Rattle.cqp_local.proofs.PlacedLemmas.{with_at_in}
use Rattle.cqp_fresh.proofs.Partition.{name_made}
use Rattle.cqp_machine.proofs.SumLemmas.{but, sum_out}
use Rattle.cqp_norms.proofs.StateMore.{join_stands}
use Rattle.cqp_factored.proofs.RunHalf.{any_has}
use Rattle.cqp_factored.proofs.LevelRuns.{StandsWell}

-- distinct numbers below n, by the tests
distinct_test : (xs : List ℕ) → IsDistinct xs → is_distinct xs ≡ true
distinct_test [] d = refl
distinct_test (x ∷ xs) d =
    and_from (not (stands_in xs x)) (is_distinct xs) (not_from_false (stands_in xs x) (any_has x xs ∙ d.0)) (distinct_test xs d.1)

-- all are below n, by the test
below_test : (n : ℕ) (xs : List ℕ) → ((q : ℕ) → has q xs ≡ true → q < n) → are_below n xs ≡ true
below_test n [] h = refl
below_test n (x ∷ xs) h =
    and_from (nat_lt x n) (are_below n xs) (lt-ltb x n (h x (or_left (x == x) (has x xs) (eq-eqb x x refl))))
    (below_test n xs (λ q t. h q (or_right (q == x) (has q xs) t)))

-- so there are at most n
few_of : (n : ℕ) (xs : List ℕ) → IsDistinct xs → ((q : ℕ) → has q xs ≡ true → q < n) → length xs ≤ n
few_of n xs d h = at_most_all n xs (distinct_test xs d) (below_test n xs h)

-- one summand, and two
pub one_of : (n i : ℕ) (f : ℕ → ℕ) → i < n → f i ≤ sum_below n f
one_of n i f h = let all = sum_out n i f h in omega arith

-- two summands are no more than the sum
two_of : (n i j : ℕ) (f : ℕ → ℕ) → i < n → j < n → i ≢ j → f i + f j ≤ sum_below n f
two_of n i j f a b apart =
    let first = sum_out n i f a in
    let second = one_of n j (but i f) b in
    let other : but i f j ≡ f j = rw (ne_eqb j i (λ e. apart (sym e))) refl in
    omega arith

-- an exponent by its level
h_below : (even : Bool) (h level : ℕ) → (if even then 2 * h - 1 else 2 * h) ≤ level → level ≤ 178 → h < 90
h_below true h level e less = omega arith
h_below false h level e less = omega arith

-- a group's level, and the room that an H has
module _ (l : Listing) (f : Front) (c : Cells) (h : ℕ) (d : Config) (x : StandsWell l f c h d) (g : ℕ) (G : Held) (there : c.groups g ≡ Some G) where
  -- the group's level is within the sum
  pub group_level : level_of G ≤ f.level
  group_level =
      let below : g < f.qubits = subst (λ n. g < n) x.stands.half.qubits
      (name_made d.state.qubits c.groups x.stands.state.own x.stands.state.partition g G there) in
      let level : level_in (c.groups g) ≡ level_of G = ap level_in there in
      let least = one_of f.qubits g (λ i. level_in (c.groups i)) below in
      let all = x.level in
      omega arith

  -- and its exponent below 90 where an H has room
  pub group_room : f.level ≤ 178 → G.h < 90
  group_room = h_below (list_all has_even_sum G.nums) G.h f.level group_level

module _ (l : Listing) (f : Front) (c : Cells) (h : ℕ) (d : Config) (x : StandsWell l f c h d) (few : f.qubits ≤ 12) (low : f.level ≤ 180) where
  -- at most 12 qubits were made
  counted : d.state.qubits ≤ 12
  counted = let same = x.stands.half.qubits in omega arith

  -- the levels' sum is at most 180
  level_told : levels d.state.qubits c ≤ 180
  level_told = subst (λ n. levels n c ≤ 180) (sym x.stands.half.qubits) (let is = x.level in omega arith)

  -- a group is what a factor is
  pub group_kept : (g : ℕ) (G : Held) → c.groups g ≡ Some G → IsGroup (factor_of G)
  group_kept g G there =
      let own = x.stands.state.partition.each g G there in
      let good = x.stands.state.good g G there in
      let factor = x.factors g G there in
      let within = index_within g G.qubits own.named in
      let most = few_of d.state.qubits G.qubits good.shape.distinct own.made in
      let below = name_made d.state.qubits c.groups x.stands.state.own x.stands.state.partition g G there in
      let level : level_in (c.groups g) ≡ level_of G = ap level_in there in
      let least = one_of d.state.qubits g (λ i. level_in (c.groups i)) below in
      let all = level_told in
      let few_all = counted in
      record {
        some = omega arith;
        few = omega arith;
        distinct = distinct_test G.qubits good.shape.distinct;
        whole = factor.sound.whole;
        limit = exponent_of_level G.nums G.h (omega arith);
        least = factor.least;
        nonzero = factor.sound.nonzero;
        bound = factor.sound.bound;
      }

  -- two groups can be joined
  pub join_can : (left right : ℕ) → (m : MayJoin c left right) → CanJoin (factor_of m.first) (factor_of m.second)
  join_can left right m =
      let y = join_stands c h d.state x.stands.state left right m.apart m.first m.second m.first_there m.second_there in
      let at = with_at_in (lesser left right) (lesser left right) (Some (joined m.first m.second)) (with_at left None (with_at right None c.groups))
      (eq-eqb (lesser left right) (lesser left right) refl) in
      let good = y.good (lesser left right) (joined m.first m.second) at in
      let own = y.partition.each (lesser left right) (joined m.first m.second) at in
      let most = few_of d.state.qubits (m.first.qubits ++ m.second.qubits) good.shape.distinct own.made in
      let size = length-append m.first.qubits m.second.qubits in
      let below = name_made d.state.qubits c.groups x.stands.state.own x.stands.state.partition left m.first m.first_there in
      let below_too = name_made d.state.qubits c.groups x.stands.state.own x.stands.state.partition right m.second m.second_there in
      let one : level_in (c.groups left) ≡ level_of m.first = ap level_in m.first_there in
      let two : level_in (c.groups right) ≡ level_of m.second = ap level_in m.second_there in
      let both = two_of d.state.qubits left right (λ i. level_in (c.groups i)) below below_too m.apart in
      let all = level_told in
      let few_all = counted in
      record {
        apart = distinct_test (m.first.qubits ++ m.second.qubits) good.shape.distinct;
        few = omega arith;
        levels = omega arith;
      }
