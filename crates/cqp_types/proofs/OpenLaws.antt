-- The stack of the parallel compositions that are open.
use Rattle.std.proofs.Common.{◌≡◌, ℕ, suc, ◌+◌, ◌-◌, ◌<◌, ◌≤◌, List, length, take, length-take, inl, inr, slice_index, true, false, ltb, nat_le, leb-true}
use Rattle.std.proofs.Common.{le-leb, ltb-true, refl, sym, ◌∙◌, ap, subst, arith}
use Rattle.std.proofs.lemmas.Bool.{cases_lt}
use Rattle.std.proofs.lemmas.List.{get_or-take}
use Rattle.std.specs.List.Sorted.{IsNonDecreasing, IsPartitionPoint}
use Rattle.std.proofs.lemmas.List.Sorted.{IsNonDecreasingBy-take}
use Rattle.cqp_syntax.specs.declared.node.Node.{Node}
use Rattle.cqp_syntax.specs.declared.node.Node.TheVariants as node
use Rattle.cqp_syntax.specs.Subterms.{term_node}
use Rattle.cqp_syntax.specs.Listing.{Listing, term_at}
use Rattle.cqp_syntax.specs.Numbered.{IsNumbered}
use Rattle.cqp_syntax.specs.Ends.{end_at}
use Rattle.cqp_types.specs.Searched.{IsNode, Parts, IsOn, AreOpen, parts_from}
use Rattle.cqp_syntax.proofs.Bools.{fails, both, both_hold}
use Rattle.cqp_types.proofs.Nested.{nested}

-- a node that passes the test parts the two numbers
pub parts_made : (l : Listing) (a behind n : ℕ) (x : Node) → IsNode l a x → a < behind → parts_from x behind n ≡ true → Parts l a behind n
parts_made l a behind n (node.Par left right) is before h =
    let tests = both (nat_le behind right) (nat_le right n) h in
    record {
      left = left;
      right = right;
      is = is;
      before = before;
      parted = (leb-true behind right tests.0, leb-true right n tests.1);
    }
parts_made l a behind n node.Nil is before h = absurd (fails h)
parts_made l a behind n (node.New x b) is before h = absurd (fails h)
parts_made l a behind n (node.Qbit x b) is before h = absurd (fails h)
parts_made l a behind n (node.Act e b) is before h = absurd (fails h)
parts_made l a behind n (node.In c xs b) is before h = absurd (fails h)
parts_made l a behind n (node.Out c es b) is before h = absurd (fails h)
parts_made l a behind n (node.If left right first other) is before h = absurd (fails h)
parts_made l a behind n (node.Num v) is before h = absurd (fails h)
parts_made l a behind n node.Unit is before h = absurd (fails h)
parts_made l a behind n (node.Name x) is before h = absurd (fails h)
parts_made l a behind n (node.Gate o) is before h = absurd (fails h)
parts_made l a behind n (node.Sig e) is before h = absurd (fails h)
parts_made l a behind n (node.Add left right) is before h = absurd (fails h)
parts_made l a behind n (node.Apply qs e) is before h = absurd (fails h)
parts_made l a behind n (node.Measure qs) is before h = absurd (fails h)

-- a node that parts them passes the test
pub parts_pass : (l : Listing) (a behind n : ℕ) (x : Node) → Parts l a behind n → x ≡ term_node a (term_at l a) → parts_from x behind n ≡ true
parts_pass l a behind n x p e =
    let same : x ≡ node.Par p.left p.right = e ∙ sym p.is.numbers in
    ap (λ y. parts_from y behind n) same
    ∙ both_hold (nat_le behind p.right) (nat_le p.right n) (le-leb behind p.right p.parted.0) (le-leb p.right n p.parted.1)

module _ (stack : List ℕ) (behind count : ℕ) (bound : count ≤ length stack)
    (point : IsPartitionPoint (λ y. ltb y behind ≡ true) (λ y. ltb y behind ≡ false) stack count) where
  -- what is on the stack below the number is among the first
  pub place_below : (a : ℕ) (on : IsOn stack a) → a < behind → on.0 < count
  place_below a on h =
      elim (cases_lt on.0 count) [
        | inl less ↦ less
        | inr more ↦ absurd (fails (sym (point.1 on.0 0 more on.1) ∙ ap (λ y. ltb y behind) on.2 ∙ le-leb (suc a) behind (omega arith)))
      ]

  -- the last of the first is below the number, and on the stack
  pub last_below : 0 < count → slice_index stack (count - 1) < behind
  last_below h = ltb-true (slice_index stack (count - 1)) behind (point.0 (count - 1) 0 (omega arith) (omega arith))

  -- the last of the first is on the stack
  pub last_on : 0 < count → IsOn stack (slice_index stack (count - 1))
  last_on h = (count - 1, omega arith, refl)

  -- the greatest on the stack below the number is the last of the first
  pub last_is : IsNonDecreasing stack → 0 < count → (a : ℕ) → IsOn stack a → a < behind
      → ((b : ℕ) → IsOn stack b → b < behind → b ≤ a) → slice_index stack (count - 1) ≡ a
  last_is rises h a on below greatest =
      let low = greatest (slice_index stack (count - 1)) (last_on h) (last_below h) in
      let place = place_below a on below in
      let high = rises on.0 (count - 1) 0 (omega arith) (omega arith) in
      let same = on.2 in
      omega (arith, low, high, same)

module _ (l : Listing) (n : ℕ) (stack : List ℕ) where
  -- one that ends at n may go
  pub may_go : AreOpen l n n n stack → AreOpen l n n (n + 1) stack
  may_go o = record {
    below = o.below;
    ends = o.ends;
    rises = o.rises;
    all = λ a left right is below high. o.all a left right is below (omega arith);
  }

  -- the last one goes, which ends at n
  pub gone : AreOpen l n n (n + 1) stack → 0 < length stack → end_at l (slice_index stack (length stack - 1)) ≤ n
      → AreOpen l n n (n + 1) (take (length stack - 1) stack)
  gone o some by =
      let count = length stack - 1 in
      let size : length (take count stack) ≡ count = grind (arith, length-take) in
      record {
        below = λ k h. let same : slice_index (take count stack) k ≡ slice_index stack k = get_or-take count stack k 0 (omega arith) in
            rw same (o.below k (omega arith));
        ends = λ k h. let same : slice_index (take count stack) k ≡ slice_index stack k = get_or-take count stack k 0 (omega arith) in
            rw same (o.ends k (omega arith));
        rises = IsNonDecreasingBy-take (λ x. x) count stack o.rises;
        all = λ a left right is below high.
            let on = o.all a left right is below high in
            elim (cases_lt on.0 count) [
              | inl less ↦ (on.0, omega arith, get_or-take count stack on.0 0 less ∙ on.2)
              | inr more ↦
                  let place : on.0 ≡ count = omega (arith, on.1) in
                  let last : slice_index stack count ≡ a = sym (ap (slice_index stack) place) ∙ on.2 in
                  let end : end_at l a ≤ n = subst (λ b. end_at l b ≤ n) last by in
                  absurd (omega arith)
            ];
      }

  -- where the last one does not end at n, none does
  pub none_ends : IsNumbered l → n < length l.nodes → AreOpen l n n (n + 1) stack
      → (0 < length stack → n < end_at l (slice_index stack (length stack - 1))) → AreOpen l n (n + 1) (n + 1) stack
  none_ends numbers within o behind = record {
    below = o.below;
    ends = λ k h.
        let last = slice_index stack (length stack - 1) in
        let order = o.rises k (length stack - 1) 0 (omega arith) (omega arith) in
        let end = behind (omega arith) in
        let first = o.below k h in
        let second = o.below (length stack - 1) (omega arith) in
        let inner = nested l numbers (slice_index stack k) last (omega arith) order (omega (arith, o.ends k h)) in
        omega arith;
    rises = o.rises;
    all = o.all;
  }
