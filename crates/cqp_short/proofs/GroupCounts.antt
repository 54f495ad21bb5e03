-- How many groups there are, and of how many qubits are due, along the events.
use Rattle.std.proofs.Common.{◌≡◌, ◌≢◌, ℕ, suc, true, false, List, [], ◌∷◌, nat_lt, ◌+◌, ◌≤◌, ◌<◌, length, Option, Some, None, refl, sym, ap, arith, eq-eqb}
use Rattle.std.proofs.Common.{ne_eqb, ◌∙◌, ⊎_elim}
use Rattle.std.proofs.lemmas.Bool.{cases_Bool, cases_lt, lt-ltb, le-ltb}
use mathlib.Core.Logic.{dite}
use native.Mathlib.Decide.{ℕ_discrete}
use Rattle.cqp_machine.specs.Factors.{Held, has_scalar, piece_of, rest_of, rest_group}
use Rattle.cqp_machine.specs.Cells.{with_at}
use Rattle.cqp_machine.specs.After.{becomes, lesser, with_pieces, with_rest}
use Rattle.cqp_machine.specs.Sums.{sum_below}
use Rattle.cqp_short.specs.Spent.{one_if_there, one_if_some, one_if_due}
use Rattle.cqp_local.proofs.PlacedLemmas.{with_at_in, with_at_out}
use Rattle.cqp_machine.proofs.SumLemmas.{same_sum, sum_changed, sum_within, sum_ones, sum_at}

-- groups by number
abbrev pub Groups : Type 0
Groups = ℕ → Option Held

-- a count of groups: what none counts is 0
module _ (w : Option Held → ℕ) (zero_none : w None ≡ 0) where
  -- of all below n
  abbrev pub count : ℕ → Groups → ℕ
  count n m = sum_below n (λ g. w (m g))

  -- one group of another kind
  pub count_changed : (n g : ℕ) (x : Option Held) (m : Groups) → g < n → count n (with_at g x m) + w (m g) ≡ count n m + w x
  count_changed n g x m h =
      let sum = sum_changed n g (λ j. w (m j)) (λ j. w (with_at g x m j)) h (λ j other. ap w (with_at_out g j x m (ne_eqb j g other))) in
      let here : w (with_at g x m g) ≡ w x = ap w (with_at_in g g x m (eq-eqb g g refl)) in
      omega arith

  -- a new one
  pub count_new : (n : ℕ) (x : Option Held) (m : Groups) → count (n + 1) (with_at n x m) ≡ count n m + w x
  count_new n x m =
      let same = same_sum n (λ j. w (with_at n x m j)) (λ j. w (m j)) (λ j t. ap w (with_at_out n j x m (ne_eqb j n (λ e. omega arith)))) in
      let here : w (with_at n x m n) ≡ w x = ap w (with_at_in n n x m (eq-eqb n n refl)) in
      one_further n (λ j. w (with_at n x m j)) ∙ omega arith
    where
      one_further : (n : ℕ) (f : ℕ → ℕ) → sum_below (n + 1) f ≡ sum_below n f + f n
      one_further n f = let up : n + 1 ≡ suc n = omega arith in ap (λ k. sum_below k f) up

  -- a group that becomes one of the same kind
  pub count_kept : (n g : ℕ) (F : Held → Held) (m : Groups) → ((x : Option Held) → w (becomes F x) ≡ w x)
      → count n (with_at g (becomes F (m g)) m) ≡ count n m
  count_kept n g F m h = same_sum n (λ j. w (with_at g (becomes F (m g)) m j)) (λ j. w (m j)) (λ j t. dite (ℕ_discrete j g)
      (λ (e : j ≡ g). ap w (with_at_in g j (becomes F (m g)) m (eq-eqb j g e)) ∙ (h (m g) ∙ sym (ap (λ z. w (m z)) e)))
      (λ (e : j ≢ g). ap w (with_at_out g j (becomes F (m g)) m (ne_eqb j g e))))

  -- two become one
  pub count_joined : (n left right : ℕ) (m : Groups) (a b x : Held) → left ≢ right → left < n → right < n → m left ≡ Some a → m right ≡ Some b
      → count n (with_at (lesser left right) (Some x) (with_at left None (with_at right None m))) + w (Some a) + w (Some b) ≡ count n m + w (Some x)
  count_joined n left right m a b x apart low high first second =
      let one = count_changed n right None m high in
      let two = count_changed n left None (with_at right None m) low in
      let still : with_at right None m left ≡ m left = with_at_out right left None m (ne_eqb left right apart) in
      let was : w (m right) ≡ w (Some b) = ap w second in
      let was_too : w (with_at right None m left) ≡ w (Some a) = ap w (still ∙ first) in
      ⊎_elim
      (λ (t : left < right).
      let name : lesser left right ≡ left = rw (lt-ltb left right t) refl in
      let three = count_changed n left (Some x) (with_at left None (with_at right None m)) low in
      let gone : w (with_at left None (with_at right None m) left) ≡ 0 =
      ap w (with_at_in left left None (with_at right None m) (eq-eqb left left refl)) ∙ zero_none in
      ap (λ k. count n (with_at k (Some x) (with_at left None (with_at right None m))) + w (Some a) + w (Some b)) name ∙ omega arith)
      (λ (t : right ≤ left).
      let name : lesser left right ≡ right = rw (le-ltb left right t) refl in
      let three = count_changed n right (Some x) (with_at left None (with_at right None m)) high in
      let gone : w (with_at left None (with_at right None m) right) ≡ 0 =
      ap w (with_at_out left right None (with_at right None m) (ne_eqb right left (λ e. apart (sym e))) ∙ with_at_in right right None m
      (eq-eqb right right refl)) ∙ zero_none in
      ap (λ k. count n (with_at k (Some x) (with_at left None (with_at right None m))) + w (Some a) + w (Some b)) name ∙ omega arith)
      (cases_lt left right)

-- there are no more groups than qubits
pub few_groups : (n : ℕ) (m : Groups) → count one_if_there refl n m ≤ n
few_groups n m =
    let all = sum_within n (λ g. one_if_there (m g)) (λ g. 1) (λ g t. at_most_one (m g)) in
    let ones = sum_ones n in
    omega arith
  where
    at_most_one : (x : Option Held) → one_if_there x ≤ 1
    at_most_one None = omega arith
    at_most_one (Some g) = omega arith

-- a group that is there counts
pub some_group : (n g : ℕ) (G : Held) (m : Groups) → g < n → m g ≡ Some G → 1 ≤ count one_if_there refl n m
some_group n g G m h there =
    let at = sum_at n g (λ j. one_if_there (m j)) h in
    let one : one_if_there (m g) ≡ 1 = ap one_if_there there in
    omega arith

-- of the groups behind a split nothing is due
free_piece : (qs : List ℕ) (G : Held) (q : ℕ) → one_if_due (Some (piece_of qs G q)) ≡ 0
free_piece qs G q = ⊎_elim
    (λ (t : has_scalar qs G q ≡ true). rw t refl)
    (λ (t : has_scalar qs G q ≡ false). rw t refl)
    (cases_Bool (has_scalar qs G q))

-- a group with nothing due raises nothing
free_at : (g : ℕ) (x : Held) (m : Groups) (j : ℕ) → one_if_due (Some x) ≡ 0 → one_if_due (with_at g (Some x) m j) ≤ one_if_due (m j)
free_at g x m j free = dite (ℕ_discrete j g)
    (λ (e : j ≡ g). let here : one_if_due (with_at g (Some x) m j) ≡ 0 = ap one_if_due (with_at_in g j (Some x) m (eq-eqb j g e)) ∙ free in omega arith)
    (λ (e : j ≢ g). let same : one_if_due (with_at g (Some x) m j) ≡ one_if_due (m j) = ap one_if_due (with_at_out g j (Some x) m
    (ne_eqb j g e)) in omega arith)

-- nor do the pieces
free_pieces : (qs : List ℕ) (G : Held) (rs : List ℕ) (m : Groups) (j : ℕ) → one_if_due (with_pieces qs G rs m j) ≤ one_if_due (m j)
free_pieces qs G [] m j = omega arith
free_pieces qs G (q ∷ rs) m j =
    let one = free_at q (piece_of qs G q) (with_pieces qs G rs m) j (free_piece qs G q) in
    let later = free_pieces qs G rs m j in
    omega arith

-- nor does the rest
free_rest : (qs : List ℕ) (G : Held) (rest : ℕ) (m : Groups) (j : ℕ) → one_if_due (with_rest qs G rest m j) ≤ one_if_due (m j)
free_rest qs G rest m j = ⊎_elim
    (λ (t : nat_lt 0 (length (rest_of G.qubits qs)) ≡ true).
    let one = free_at rest (rest_group qs G) m j refl in
    let same : one_if_due (with_rest qs G rest m j) ≡ one_if_due (with_at rest (Some (rest_group qs G)) m j) = rw t refl in
    omega arith)
    (λ (t : nat_lt 0 (length (rest_of G.qubits qs)) ≡ false).
    let same : one_if_due (with_rest qs G rest m j) ≡ one_if_due (m j) = rw t refl in
    omega arith)
    (cases_Bool (nat_lt 0 (length (rest_of G.qubits qs))))

-- so a split leaves one group less of which qubits are due
pub due_split : (n group rest : ℕ) (qs : List ℕ) (G : Held) (m : Groups) → group < n → m group ≡ Some G → one_if_some G.due ≡ 1
    → count one_if_due refl n (with_rest qs G rest (with_pieces qs G qs (with_at group None m))) + 1 ≤ count one_if_due refl n m
due_split n group rest qs G m low there due =
    let out = count_changed one_if_due refl n group None m low in
    let was : one_if_due (m group) ≡ 1 = ap one_if_due there ∙ due in
    let less = sum_within n (λ j. one_if_due (with_rest qs G rest (with_pieces qs G qs (with_at group None m)) j)) (λ j. one_if_due (with_at group None m j))
    (λ j t. let first = free_rest qs G rest (with_pieces qs G qs (with_at group None m)) j in
    let later = free_pieces qs G qs (with_at group None m) j in omega arith) in
    omega arith
