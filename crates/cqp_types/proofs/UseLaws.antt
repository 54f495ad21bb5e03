-- The tables of uses, one node more and one name more.
use Rattle.std.proofs.Common.{◌≡◌, ℕ, zero, suc, ◌+◌, ◌-◌, ◌<◌, ◌≤◌, ◌≢◌, ◌==◌, ◌||◌, true, false, nat_lt, List, [], ◌∷◌, map, length, set, slice_index, refl}
use Rattle.std.proofs.Common.{sym, ◌∙◌, ap, subst, arith, cond, le_refl, get_or-set_other, get_or-set_same, length-set}
use Rattle.std.specs.List.{range_with_len}
use Rattle.std.proofs.lemmas.Bool.Decides.{nat_tests}
use Rattle.cqp_syntax.specs.declared.node.Node.{Node}
use Rattle.cqp_syntax.specs.declared.node.Node.TheVariants as node
use Rattle.cqp_syntax.specs.Trees.{Slot, named}
use Rattle.cqp_syntax.specs.Free.{is_among}
use Rattle.cqp_syntax.specs.NodeNames.{uses_in}
use Rattle.cqp_syntax.specs.Listing.{Listing, Unfolds, term_at}
use Rattle.cqp_syntax.specs.Uses.{uses_at}
use Rattle.cqp_syntax.proofs.NodeSlots.{uses_names}
use Rattle.cqp_types.specs.Uses.{count_uses, next_in, second_in, next_use, second_use, UsesFrom, IsRecorded}
use Rattle.cqp_syntax.proofs.Bools.{fails, decide, same_number, number_same}

module _ (l : Listing) (s : Slot) where
  -- no use before the first number
  pub next_from : (k n : ℕ) → n ≤ next_in l k n s
  next_from zero n = le_refl n
  next_from (suc k) n =
      decide (uses_at l n s)
      (λ e. subst (λ b. n ≤ cond b n (next_in l k (n + 1) s)) (sym e) (le_refl n))
      (λ e. let more = next_from k (n + 1) in subst (λ b. n ≤ cond b n (next_in l k (n + 1) s)) (sym e) (omega arith))

  -- nor a second one
  pub second_from : (k n : ℕ) → n ≤ second_in l k n s
  second_from zero n = le_refl n
  second_from (suc k) n =
      let first = next_from k (n + 1) in
      let more = second_from k (n + 1) in
      decide (uses_at l n s)
      (λ e. subst (λ b. n ≤ cond b (next_in l k (n + 1) s) (second_in l k (n + 1) s)) (sym e) (omega arith))
      (λ e. subst (λ b. n ≤ cond b (next_in l k (n + 1) s) (second_in l k (n + 1) s)) (sym e) (omega arith))

  -- at a number within the list
  pub next_unfolds : (n : ℕ) → n < length l.nodes → next_use l n s ≡ cond (uses_at l n s) n (next_use l (n + 1) s)
  next_unfolds n h = let left : length l.nodes - n ≡ suc (length l.nodes - (n + 1)) = omega arith in ap (λ k. next_in l k n s) left

  -- the second use, at a number within the list
  pub second_unfolds : (n : ℕ) → n < length l.nodes → second_use l n s ≡ cond (uses_at l n s) (next_use l (n + 1) s) (second_use l (n + 1) s)
  second_unfolds n h = let left : length l.nodes - n ≡ suc (length l.nodes - (n + 1)) = omega arith in ap (λ k. second_in l k n s) left

  -- a use within a range is counted there
  pub next_counts : (j k n : ℕ) → j ≤ k → nat_lt (next_in l k n s) (n + j) ≡ nat_lt 0 (count_uses s (map (term_at l) (range_with_len n j)))
  next_counts zero k n h =
      let from = next_from k n in
      let no : nat_lt (next_in l k n s) (n + 0) ≡ false = grind (arith, nat_tests) in
      let none : nat_lt 0 0 ≡ false = grind (arith, nat_tests) in
      no ∙ sym none
  next_counts (suc j) zero n h = absurd (omega arith)
  next_counts (suc j) (suc k) n h =
      let ts = map (term_at l) (range_with_len (n + 1) j) in
      decide (uses_at l n s)
      (λ e.
      let here : nat_lt n (n + suc j) ≡ true = grind (arith, nat_tests) in
      let some : nat_lt 0 (1 + count_uses s ts) ≡ true = grind (arith, nat_tests) in
      ap (λ b. nat_lt (cond b n (next_in l k (n + 1) s)) (n + suc j)) e ∙ here ∙ sym some ∙ sym (ap (λ b. nat_lt 0 (cond b 1 0 + count_uses s ts)) e))
      (λ e.
      let place : n + suc j ≡ n + 1 + j = omega arith in
      let none : 0 + count_uses s ts ≡ count_uses s ts = omega arith in
      ap (λ b. nat_lt (cond b n (next_in l k (n + 1) s)) (n + suc j)) e ∙ ap (nat_lt (next_in l k (n + 1) s)) place
      ∙ next_counts j k (n + 1) (omega arith) ∙ sym (ap (nat_lt 0) none) ∙ sym (ap (λ b. nat_lt 0 (cond b 1 0 + count_uses s ts)) e))

  -- two uses within a range are counted there
  pub second_counts : (j k n : ℕ) → j ≤ k → nat_lt (second_in l k n s) (n + j) ≡ nat_lt 1 (count_uses s (map (term_at l) (range_with_len n j)))
  second_counts zero k n h =
      let from = second_from k n in
      let no : nat_lt (second_in l k n s) (n + 0) ≡ false = grind (arith, nat_tests) in
      let none : nat_lt 1 0 ≡ false = grind (arith, nat_tests) in
      no ∙ sym none
  second_counts (suc j) zero n h = absurd (omega arith)
  second_counts (suc j) (suc k) n h =
      let ts = map (term_at l) (range_with_len (n + 1) j) in
      let place : n + suc j ≡ n + 1 + j = omega arith in
      decide (uses_at l n s)
      (λ e.
      let one : nat_lt 1 (1 + count_uses s ts) ≡ nat_lt 0 (count_uses s ts) = grind (arith, nat_tests) in
      ap (λ b. nat_lt (cond b (next_in l k (n + 1) s) (second_in l k (n + 1) s)) (n + suc j)) e ∙ ap (nat_lt (next_in l k (n + 1) s)) place
      ∙ next_counts j k (n + 1) (omega arith) ∙ sym one ∙ sym (ap (λ b. nat_lt 1 (cond b 1 0 + count_uses s ts)) e))
      (λ e.
      let none : 0 + count_uses s ts ≡ count_uses s ts = omega arith in
      ap (λ b. nat_lt (cond b (next_in l k (n + 1) s) (second_in l k (n + 1) s)) (n + suc j)) e ∙ ap (nat_lt (second_in l k (n + 1) s)) place
      ∙ second_counts j k (n + 1) (omega arith) ∙ sym (ap (nat_lt 1) none) ∙ sym (ap (λ b. nat_lt 1 (cond b 1 0 + count_uses s ts)) e))

-- a node of no such kind uses no name
pub none_used : (x : Node) → ((c : ℕ) (xs : List ℕ) (b : ℕ) → x ≡ node.In c xs b → ⊥) → ((c : ℕ) (es : List ℕ) (b : ℕ) → x ≡ node.Out c es b → ⊥)
    → ((y : ℕ) → x ≡ node.Name y → ⊥) → ((qs : List ℕ) (e : ℕ) → x ≡ node.Apply qs e → ⊥) → ((qs : List ℕ) → x ≡ node.Measure qs → ⊥) → uses_in x ≡ []
none_used (node.In c xs b) i o n a m = absurd (i c xs b refl)
none_used (node.Out c es b) i o n a m = absurd (o c es b refl)
none_used (node.Name y) i o n a m = absurd (n y refl)
none_used (node.Apply qs e) i o n a m = absurd (a qs e refl)
none_used (node.Measure qs) i o n a m = absurd (m qs refl)
none_used node.Nil i o n a m = refl
none_used (node.Par left right) i o n a m = refl
none_used (node.New x b) i o n a m = refl
none_used (node.Qbit x b) i o n a m = refl
none_used (node.Act e b) i o n a m = refl
none_used (node.If left right first other) i o n a m = refl
none_used (node.Num v) i o n a m = refl
none_used node.Unit i o n a m = refl
none_used (node.Gate g) i o n a m = refl
none_used (node.Sig e) i o n a m = refl
none_used (node.Add left right) i o n a m = refl

module _ (l : Listing) (n : ℕ) where
  -- nothing of node n is recorded yet
  pub recorded_none : (first second : List ℕ) → UsesFrom l (n + 1) first second → IsRecorded l n [] first second
  recorded_none first second u = record {
    first_count = u.first_count;
    second_count = u.second_count;
    first_is = λ x h. u.first_is x h;
    second_is = λ x h. u.second_is x h;
  }

  -- all of it is
  pub recorded_all : (x : Node) (first second : List ℕ) → n < length l.nodes → Unfolds l n x → IsRecorded l n (uses_in x) first second
      → UsesFrom l n first second
  recorded_all x first second within u r = record {
    first_count = r.first_count;
    second_count = r.second_count;
    first_is = λ y h. r.first_is y h ∙ sym (ap (λ b. cond b n (next_use l (n + 1) (named y))) (uses_names l n x y u)) ∙ sym (next_unfolds l (named y) n within);
    second_is = λ y h.
        r.second_is y h
        ∙ sym (ap (λ b. cond b (next_use l (n + 1) (named y)) (second_use l (n + 1) (named y))) (uses_names l n x y u))
        ∙ sym (second_unfolds l (named y) n within);
  }

  module _ (ys first second : List ℕ) (name : ℕ) (r : IsRecorded l n ys first second) (within : name < length l.ty_of) where
    -- the test of the names with one more
    more_other : (x : ℕ) → (x == name) ≡ false → is_among (named x) (map named (name ∷ ys)) ≡ is_among (named x) (map named ys)
    more_other x e = ap (λ b. b || is_among (named x) (map named ys)) e

    more_same : (x : ℕ) → (x == name) ≡ true → is_among (named x) (map named (name ∷ ys)) ≡ true
    more_same x e = ap (λ b. b || is_among (named x) (map named ys)) e

    -- a name that n has not used yet is recorded
    pub recorded_new : slice_index first name ≢ n → IsRecorded l n (name ∷ ys) (set first name n) (set second name (slice_index first name))
    recorded_new fresh =
        let out : is_among (named name) (map named ys) ≡ false =
        decide (is_among (named name) (map named ys))
        (λ e. absurd (fresh (r.first_is name within ∙ ap (λ b. cond b n (next_use l (n + 1) (named name))) e)))
        (λ e. e) in
        let before : slice_index first name ≡ next_use l (n + 1) (named name) =
        r.first_is name within ∙ ap (λ b. cond b n (next_use l (n + 1) (named name))) out in
        let room : name < length first = omega (arith, r.first_count) in
        let place : name < length second = omega (arith, r.second_count) in
        record {
          first_count = length-set first name n ∙ r.first_count;
          second_count = length-set second name (slice_index first name) ∙ r.second_count;
          first_is = λ x h.
              decide (x == name)
              (λ e.
              let same = same_number x name e in
              let here : slice_index (set first name n) name ≡ n = rw get_or-set_same refl in
              ap (slice_index (set first name n)) same ∙ here ∙ sym (ap (λ b. cond b n (next_use l (n + 1) (named x))) (more_same x e)))
              (λ e.
              let ne : x ≢ name = λ k. fails (sym e ∙ subst (λ z. (x == z) ≡ true) k (number_same x)) in
              let there : slice_index (set first name n) x ≡ slice_index first x = rw get_or-set_other refl in
              there ∙ r.first_is x h ∙ sym (ap (λ b. cond b n (next_use l (n + 1) (named x))) (more_other x e)));
          second_is = λ x h.
              decide (x == name)
              (λ e.
              let same = same_number x name e in
              let here : slice_index (set second name (slice_index first name)) name ≡ slice_index first name = rw get_or-set_same refl in
              ap (slice_index (set second name (slice_index first name))) same ∙ here ∙ before ∙ ap (λ z. next_use l (n + 1) (named z)) (sym same)
              ∙ sym (ap (λ b. cond b (next_use l (n + 1) (named x)) (second_use l (n + 1) (named x))) (more_same x e)))
              (λ e.
              let ne : x ≢ name = λ k. fails (sym e ∙ subst (λ z. (x == z) ≡ true) k (number_same x)) in
              let there : slice_index (set second name (slice_index first name)) x ≡ slice_index second x = rw get_or-set_other refl in
              there ∙ r.second_is x h ∙ sym (ap (λ b. cond b (next_use l (n + 1) (named x)) (second_use l (n + 1) (named x))) (more_other x e)));
        }

    -- one that it has used is recorded already
    pub recorded_old : slice_index first name ≡ n → IsRecorded l n (name ∷ ys) first second
    recorded_old old =
        let behind = next_from l (named name) (length l.nodes - (n + 1)) (n + 1) in
        let there : is_among (named name) (map named ys) ≡ true =
        decide (is_among (named name) (map named ys))
        (λ e. e)
        (λ e.
        let first_use = sym old ∙ r.first_is name within ∙ ap (λ b. cond b n (next_use l (n + 1) (named name))) e in
        absurd (omega (arith, behind, first_use))) in
        let same_test : (x : ℕ) → is_among (named x) (map named (name ∷ ys)) ≡ is_among (named x) (map named ys) = λ x.
        decide (x == name)
        (λ e.
        let same = same_number x name e in
        more_same x e ∙ sym (subst (λ z. is_among (named z) (map named ys) ≡ true) (sym same) there))
        (λ e. more_other x e) in
        record {
          first_count = r.first_count;
          second_count = r.second_count;
          first_is = λ x h. r.first_is x h ∙ sym (ap (λ b. cond b n (next_use l (n + 1) (named x))) (same_test x));
          second_is = λ x h. r.second_is x h ∙ sym (ap (λ b. cond b (next_use l (n + 1) (named x)) (second_use l (n + 1) (named x))) (same_test x));
        }
