-- One more use in the search for a qubit on both sides.
use Rattle.std.proofs.Common.{◌≡◌, ℕ, ◌+◌, ◌-◌, ◌<◌, ◌≤◌, ◌≢◌, ◌==◌, ◌||◌, inl, inr, List, [], ◌∷◌, map, length, set, slice_index, min, true, false, refl, sym}
use Rattle.std.proofs.Common.{◌∙◌, ap, subst, arith, Some, get_or-set_other, get_or-set_same, length-set}
use Rattle.std.proofs.lemmas.Bool.{cases_lt}
use Rattle.cqp_syntax.specs.declared.node.Node.{Node}
use Rattle.cqp_syntax.specs.declared.node.Node.TheVariants as node
use Rattle.std.specs.List.{AllByRecursion}
use Rattle.cqp_syntax.specs.Trees.{named}
use Rattle.cqp_syntax.specs.NodeNames.{uses_in}
use Rattle.cqp_syntax.specs.Free.{is_among}
use Rattle.cqp_syntax.specs.Listing.{Listing, Unfolds, type_of_name}
use Rattle.cqp_syntax.specs.Numbered.{IsNumbered}
use Rattle.cqp_types.specs.declared.kind.Kind.TheVariants as kind
use Rattle.cqp_types.specs.Faults.{is_qubit}
use Rattle.cqp_syntax.specs.Subterms.{term_size}
use Rattle.cqp_syntax.specs.Ends.{end_at}
use Rattle.cqp_types.specs.Rows.{split_at}
use Rattle.cqp_syntax.specs.Uses.{own_slots, uses_at}
use Rattle.cqp_types.specs.Uses.{IsUsedOnBoth}
use Rattle.cqp_types.specs.Searched.{IsNode, Parts, IsOn, AreOpen, IsSearched}
use Rattle.cqp_syntax.proofs.Bools.{fails, decide, both, or_left, or_right, same_number, number_same}
use Rattle.cqp_syntax.proofs.Parts.{right_behind, left_behind}
use Rattle.cqp_types.proofs.Nested.{nested}
use Rattle.cqp_syntax.proofs.NodeSlots.{uses_names}
use Rattle.cqp_types.proofs.SplitLaw.{used_splits}

-- a parallel composition uses no name itself
par_uses_none : (l : Listing) (a left right x : ℕ) → IsNode l a (node.Par left right) → uses_at l a (named x) ≡ true → ⊥
par_uses_none l a left right x is u = fails (sym (ap (λ t. is_among (named x) (own_slots t)) is.tree.tree) ∙ u)

-- of compositions that are open behind the right side of one, none begins on its left side
none_on_left : (l : Listing) → IsNumbered l → (a left right b n : ℕ) → IsNode l a (node.Par left right) → a < b → b < right → right ≤ n → n < end_at l b → ⊥
none_on_left l numbers a left right b n is above below by end =
    let place = left_behind l a left right is.tree is.numbers in
    let far = right_behind l a (node.Par left right) left right is.tree is.numbers refl in
    let first = is.tree.bodies.0 in
    let size = ap term_size first.is in
    let inner = nested l numbers left b first.within (omega arith) (omega arith) in
    omega arith

module _ (l : Listing) (n : ℕ) (stack : List ℕ) (opens : AreOpen l (n + 1) (n + 1) (n + 1) stack)
    (ys last : List ℕ) (least : ℕ) (old : IsSearched l n ys last least) (name split : ℕ) (known : name < length last)
    (qubit : is_qubit (type_of_name l) (named name) ≡ true) (uses : uses_at l n (named name) ≡ true) where
  -- the number behind the last use
  abbrev pub behind : ℕ
  behind = slice_index last name

  -- a composition that parts the last use from this one fails
  parted_fails : Parts l split behind n → IsOn stack split → split_at l split ≡ Some kind.SplitTwice
  parted_fails p on =
      let before = p.before in
      let m = behind - 1 in
      let place : slice_index last name ≡ m + 1 = omega arith in
      let last_use = old.used name m known place in
      let other : split ≢ m = λ e. par_uses_none l split p.left p.right name p.is (subst (λ k. uses_at l k (named name) ≡ true) (sym e) last_use.1) in
      let end = opens.ends on.0 on.1 in
      let same = ap (end_at l) on.2 in
      used_splits l old.listed old.numbers split p.left p.right p.is.within p.is.tree p.is.numbers (named name)
      (record {
        qubit = qubit;
        left = m;
        right = n;
        from = omega arith;
        parted = (omega (arith, p.parted.0), p.parted.1);
        within = omega arith;
        left_uses = last_use.1;
        right_uses = uses;
      })

  -- the lesser of the least so far and the composition that parts the two uses fails
  pub still_fails : (split < length l.nodes → Parts l split behind n × IsOn stack split) → min least split < length l.nodes
      → split_at l (min least split) ≡ Some kind.SplitTwice
  still_fails parts h =
      elim (cases_lt split least) [
        | inl less ↦
            let is : min least split ≡ split = omega arith in
            let within : split < length l.nodes = omega arith in
            let found = parts within in
            rw is (parted_fails found.0 found.1)
        | inr more ↦ let is : min least split ≡ least = omega arith in rw is (old.fails (omega arith))
      ]

  -- the composition that has the last use on its left side and this one on its right is found
  found_now : (a left right : ℕ) → IsNode l a (node.Par left right) → a < behind → behind ≤ right → right ≤ n → n < end_at l a
      → ((b : ℕ) → Parts l b behind n → IsOn stack b → ((d : ℕ) → IsOn stack d → d < behind → d ≤ b) → split ≡ b) → split ≡ a
  found_now a left right is before from by end last_is =
      last_is a (record { left = left; right = right; is = is; before = before; parted = (from, by) })
      (opens.all a left right is (omega arith) (omega arith))
      (λ d on h. elim (cases_lt a d) [
        | inl above ↦
            let ends = opens.ends on.0 on.1 in
            let same = ap (end_at l) on.2 in
            absurd (none_on_left l old.numbers a left right d n is above (omega arith) by (omega arith))
        | inr fine ↦ fine
      ])

  -- each composition with both uses so far is at the lesser or behind it
  pub still_found : ((b : ℕ) → Parts l b behind n → IsOn stack b → ((d : ℕ) → IsOn stack d → d < behind → d ≤ b) → split ≡ b)
      → (a left right : ℕ) → IsNode l a (node.Par left right) → (both : IsUsedOnBoth l (a + 1) right (end_at l a) (named name))
      → both.right < n + 1 → min least split ≤ a
  still_found last_is a left right is both h =
      let q = both.parted in
      let from = both.from in
      let within = both.within in
      let first = old.earlier name both.left qubit (omega (arith, q.0, q.1)) both.left_uses in
      elim (cases_lt both.right behind) [
        | inl less ↦ let known_one = old.found a left right name is both less in omega arith
        | inr more ↦
            let place : slice_index last name ≡ behind - 1 + 1 = omega arith in
            let last_use = old.used name (behind - 1) known place in
            elim (cases_lt (behind - 1) right) [
              | inl less ↦ let same = found_now a left right is (omega arith) (omega arith) (omega (arith, q.1)) (later both h more) last_is in omega arith
              | inr further ↦
                  let known_one = old.found a left right name is
                  (record {
                    qubit = qubit;
                    left = both.left;
                    right = behind - 1;
                    from = from;
                    parted = (q.0, further);
                    within = omega arith;
                    left_uses = both.left_uses;
                    right_uses = last_use.1;
                  })
                  (omega arith) in
                  omega arith
            ]
      ]
    where
      -- the right use is not before the last one but this, so it is this one
      later : (both : IsUsedOnBoth l (a + 1) right (end_at l a) (named name)) → both.right < n + 1 → behind ≤ both.right → n < end_at l a
      later both h more =
          elim (cases_lt both.right n) [
            | inl less ↦ let again = old.earlier name both.right qubit less both.right_uses in absurd (omega arith)
            | inr here ↦ omega (arith, both.within)
          ]

  -- the search goes on with the use
  pub search_more : split ≤ length l.nodes → (split < length l.nodes → Parts l split behind n × IsOn stack split)
      → ((b : ℕ) → Parts l b behind n → IsOn stack b → ((d : ℕ) → IsOn stack d → d < behind → d ≤ b) → split ≡ b)
      → IsSearched l n (name ∷ ys) (set last name (n + 1)) (min least split)
  search_more fits parts last_is = record {
    listed = old.listed;
    numbers = old.numbers;
    count = length-set last name (n + 1) ∙ old.count;
    used = λ x m within e.
        decide (x == name)
        (λ t. let same = same_number x name t in
        let here : slice_index (set last name (n + 1)) name ≡ n + 1 = rw get_or-set_same refl in
        let at : n ≡ m = omega (arith, sym here ∙ ap (slice_index (set last name (n + 1))) (sym same) ∙ e) in
        (omega arith, subst (λ k. uses_at l k (named x) ≡ true) at (subst (λ y. uses_at l n (named y) ≡ true) (sym same) uses)))
        (λ t. let room : x < length last = omega (arith, length-set last name (n + 1)) in old.used x m room (sym (elsewhere x t) ∙ e));
    earlier = λ x m q low u.
        decide (x == name)
        (λ t. let is = at_name x t in omega arith)
        (λ t. let is = elsewhere x t in let before = old.earlier x m q low u in omega arith);
    own = λ x q among.
        decide (x == name)
        (λ t. let is = at_name x t in omega arith)
        (λ t. let is = elsewhere x t in
        let before = old.own x q (sym (ap (λ b. b || is_among (named x) (map named ys)) t) ∙ among) in
        omega arith);
    within = omega (arith, old.within);
    fails = still_fails parts;
    found = λ a left right x is both h.
        decide (x == name)
        (λ t. let same = same_number x name t in
        let at = at_name x t in
        moved x same a left right is both (omega arith))
        (λ t. let there = elsewhere x t in let before = old.found a left right x is both (omega arith) in omega arith);
  }
    where
      at_name : (x : ℕ) → (x == name) ≡ true → slice_index (set last name (n + 1)) x ≡ n + 1
      at_name x t =
          let here : slice_index (set last name (n + 1)) name ≡ n + 1 = rw get_or-set_same refl in
          ap (slice_index (set last name (n + 1))) (same_number x name t) ∙ here

      elsewhere : (x : ℕ) → (x == name) ≡ false → slice_index (set last name (n + 1)) x ≡ slice_index last x
      elsewhere x t =
          let ne : x ≢ name = λ k. fails (sym t ∙ subst (λ z. (x == z) ≡ true) k (number_same x)) in
          rw get_or-set_other refl

      moved : (x : ℕ) → x ≡ name → (a left right : ℕ) → IsNode l a (node.Par left right)
          → (both : IsUsedOnBoth l (a + 1) right (end_at l a) (named x)) → both.right < n + 1 → min least split ≤ a
      moved x same a left right is both h =
          let at_once : (b : IsUsedOnBoth l (a + 1) right (end_at l a) (named name)) → b.right < n + 1 → min least split ≤ a =
          still_found last_is a left right is in
          subst (λ y. (b : IsUsedOnBoth l (a + 1) right (end_at l a) (named y)) → b.right < n + 1 → min least split ≤ a) (sym same) at_once both h

-- a node uses the names that stand in it
own_used : (l : Listing) (n : ℕ) (ys xs : List ℕ) → ((y : ℕ) → is_among (named y) (map named xs) ≡ true → is_among (named y) (map named ys) ≡ true)
    → AllByRecursion (λ y. is_among (named y) (map named ys) ≡ true) xs
own_used l n ys [] within = tt
own_used l n ys (x ∷ xs) within = (
  within x (or_left (x == x) (is_among (named x) (map named xs)) (number_same x)),
  own_used l n ys xs (λ y h. within y (or_right (y == x) (is_among (named y) (map named xs)) h)),
)

-- a node uses each of its names
pub node_uses : (l : Listing) (n : ℕ) (x : Node) → Unfolds l n x → AllByRecursion (λ y. uses_at l n (named y) ≡ true) (uses_in x)
node_uses l n x u = go (uses_in x) (own_used l n (uses_in x) (uses_in x) (λ y h. h))
  where
    go : (xs : List ℕ) → AllByRecursion (λ y. is_among (named y) (map named (uses_in x)) ≡ true) xs → AllByRecursion (λ y. uses_at l n (named y) ≡ true) xs
    go [] a = tt
    go (y ∷ ys) a = (uses_names l n x y u ∙ a.0, go ys a.1)

-- with all names of a node the search has come to the next
pub search_next : (l : Listing) (n : ℕ) (x : Node) (last : List ℕ) (least : ℕ) → Unfolds l n x → IsSearched l n (uses_in x) last least
    → IsSearched l (n + 1) [] last least
search_next l n x last least u s = record {
  listed = s.listed;
  numbers = s.numbers;
  count = s.count;
  used = λ y m within e. let old = s.used y m within e in (omega (arith, old.0), old.1);
  earlier = λ y m q low uses.
      elim (cases_lt m n) [
        | inl less ↦ s.earlier y m q less uses
        | inr more ↦
            let here : m ≡ n = omega arith in
            let now = s.own y q (sym (uses_names l n x y u) ∙ subst (λ k. uses_at l k (named y) ≡ true) here uses) in
            omega arith
      ];
  own = λ y q among. absurd (fails among);
  within = s.within;
  fails = s.fails;
  found = s.found;
}
