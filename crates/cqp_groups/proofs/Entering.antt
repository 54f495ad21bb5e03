-- Pieces of a split, put in at their numbers.
use Rattle.std.proofs.Common.{◌≡◌, ℕ, ◌<◌, List, [], ◌∷◌, ◌++◌, length, map, Option, Some, None, refl, sym, ap, subst, ◌∙◌}
use Rattle.std.proofs.Common.{eq-eqb, ne_eqb, ⊎_elim, true, false, Bool, nat_lt, ◌==◌, if◌then◌else◌}
use Rattle.std.proofs.lemmas.Bool.{cases_Bool, eqb-true, eqb-false, or_left, or_parts, or_right}
use Rattle.cqp_book.specs.Keys.{has}
use Rattle.cqp_vector.specs.Group.{Group}
use Rattle.cqp_machine.specs.Factors.{Held, factor_of, has_scalar, least_qubit, piece_of, rest_group, rest_of, split_pieces, with_due}
use Rattle.cqp_machine.specs.Cells.{with_at}
use Rattle.cqp_machine.specs.Enabled.{name_of_rest}
use Rattle.cqp_machine.specs.After.{with_pieces, with_rest}
use Rattle.cqp_local.proofs.PlacedLemmas.{with_at_in, with_at_out}
use Rattle.cqp_fresh.proofs.Splits.{least_in, piece_qubits, stays_in}
use Rattle.cqp_groups.specs.Groups.{AreMade, as_cells, entered, factors_in, groups_in, groups_split, split_by}
use Rattle.cqp_groups.proofs.SlotLemmas.{held_below, put_is}
use Rattle.std.specs.Prelude.{slice_set}

-- what stands at each number
abbrev Table : Type 0
Table = ℕ → Option Held

-- of two lists, the second is put in first
pub entered_both : (xs ys : List Group) (m : Table) → entered (xs ++ ys) m ≡ entered xs (entered ys m)
entered_both [] ys m = refl
entered_both (x ∷ xs) ys m = ap (with_at (least_qubit x.qubits) (Some (with_due [] x))) (entered_both xs ys m)

-- a piece has nothing due
piece_whole : (qs : List ℕ) (G : Held) (q : ℕ) → with_due [] (factor_of (piece_of qs G q)) ≡ piece_of qs G q
piece_whole qs G q = ⊎_elim
    (λ (t : has_scalar qs G q ≡ true). rw t refl) (λ (t : has_scalar qs G q ≡ false). rw t refl) (cases_Bool (has_scalar qs G q))

-- and stands at its qubit
piece_named : (qs : List ℕ) (G : Held) (q : ℕ) → least_qubit (piece_of qs G q).qubits ≡ q
piece_named qs G q = ap least_qubit (piece_qubits qs G q)

-- the pieces put in
pieces_entered : (qs : List ℕ) (G : Held) (rs : List ℕ) (m : Table) → entered (map (λ q. factor_of (piece_of qs G q)) rs) m ≡ with_pieces qs G rs m
pieces_entered qs G [] m = refl
pieces_entered qs G (q ∷ rs) m =
    ap (λ k. with_at k (Some (with_due [] (factor_of (piece_of qs G q)))) (entered (map (λ q. factor_of (piece_of qs G q)) rs) m)) (piece_named qs G q)
    ∙ (ap (λ x. with_at q (Some x) (entered (map (λ q. factor_of (piece_of qs G q)) rs) m)) (piece_whole qs G q)
    ∙ ap (with_at q (Some (piece_of qs G q))) (pieces_entered qs G rs m))

-- changes at two numbers, in either order
swapped_at : (j k : ℕ) (x y : Option Held) (m : Table) → (j == k) ≡ false → (n : ℕ) → with_at j x (with_at k y m) n ≡ with_at k y (with_at j x m) n
swapped_at j k x y m apart n = ⊎_elim
    (λ (t : (n == j) ≡ true).
    let other : (n == k) ≡ false = rw (eqb-true n j t) apart in
    with_at_in j n x (with_at k y m) t ∙ sym (with_at_out k n y (with_at j x m) other ∙ with_at_in j n x m t))
    (λ (t : (n == j) ≡ false). ⊎_elim
    (λ (u : (n == k) ≡ true).
    with_at_out j n x (with_at k y m) t ∙ (with_at_in k n y m u ∙ sym (with_at_in k n y (with_at j x m) u)))
    (λ (u : (n == k) ≡ false).
    with_at_out j n x (with_at k y m) t
    ∙ (with_at_out k n y m u ∙ sym (with_at_out k n y (with_at j x m) u ∙ with_at_out j n x m t)))
    (cases_Bool (n == k)))
    (cases_Bool (n == j))

-- changes at two numbers can change places
swapped : (j k : ℕ) (x y : Option Held) (m : Table) → (j == k) ≡ false → with_at j x (with_at k y m) ≡ with_at k y (with_at j x m)
swapped j k x y m apart i n = swapped_at j k x y m apart n i

-- a change elsewhere, before the pieces or after them
pieces_after : (qs : List ℕ) (G : Held) (rs : List ℕ) (k : ℕ) (x : Option Held) (m : Table) → has k rs ≡ false
    → with_pieces qs G rs (with_at k x m) ≡ with_at k x (with_pieces qs G rs m)
pieces_after qs G [] k x m h = refl
pieces_after qs G (q ∷ rs) k x m h =
    let parts = or_parts (k == q) (has k rs) h in
    let apart : (q == k) ≡ false = ne_eqb q k (λ e. eqb-false k q parts.0 (sym e)) in
    ap (with_at q (Some (piece_of qs G q))) (pieces_after qs G rs k x m parts.1)
    ∙ swapped q k (Some (piece_of qs G q)) x (with_pieces qs G rs m) apart

-- the rest's name is its least qubit
rest_name : (k : ℕ) (xs : List ℕ) → nat_lt 0 (length xs) ≡ true → least_qubit xs ≡ name_of_rest k xs
rest_name k [] h = cc
rest_name k (x ∷ xs) h = refl

-- the least is one of them
least_there : (xs : List ℕ) → nat_lt 0 (length xs) ≡ true → has (least_qubit xs) xs ≡ true
least_there [] h = cc
least_there (x ∷ xs) h = least_in x xs

module _ (G : Held) where
  abbrev staying : List ℕ
  staying = rest_of G.qubits G.due

  -- the rest as a factor, where there is one
  abbrev rests : Bool → List Group
  rests b = if b then factor_of (rest_group G.due G) ∷ [] else []

  -- the pieces of a split put in are the machine's split
  pub split_entered : (k : ℕ) (m : Table) → entered (split_pieces G.due G) m ≡ with_rest G.due G (name_of_rest k staying) (with_pieces G.due G G.due m)
  split_entered k m =
      entered_both (map (λ q. factor_of (piece_of G.due G q)) G.due) (rests (nat_lt 0 (length staying))) m
      ∙ (pieces_entered G.due G G.due (entered (rests (nat_lt 0 (length staying))) m)
      ∙ ⊎_elim
      (λ (t : nat_lt 0 (length staying) ≡ true).
      ap (λ b. with_pieces G.due G G.due (entered (rests b) m)) t
      ∙ (ap (λ j. with_pieces G.due G G.due (with_at j (Some (rest_group G.due G)) m)) (rest_name k staying t)
      ∙ (pieces_after G.due G G.due (name_of_rest k staying) (Some (rest_group G.due G)) m
      (ap (λ j. has j G.due) (sym (rest_name k staying t)) ∙ (stays_in (least_qubit staying) G.qubits G.due (least_there staying t)).1)
      ∙ sym (ap (λ (b : Bool). if b then with_at (name_of_rest k staying) (Some (rest_group G.due G)) (with_pieces G.due G G.due m)
      else with_pieces G.due G G.due m) t))))
      (λ (t : nat_lt 0 (length staying) ≡ false).
      ap (λ b. with_pieces G.due G G.due (entered (rests b) m)) t
      ∙ sym (ap (λ (b : Bool). if b then with_at (name_of_rest k staying) (Some (rest_group G.due G)) (with_pieces G.due G G.due m)
      else with_pieces G.due G G.due m) t))
      (cases_Bool (nat_lt 0 (length staying))))

  -- of two lists
  made_both : (n : ℕ) (xs ys : List Group) → AreMade n xs → AreMade n ys → AreMade n (xs ++ ys)
  made_both n [] ys h e = e
  made_both n (x ∷ xs) ys h e = (h.0, made_both n xs ys h.1 e)

  -- of the pieces
  pieces_made : (n : ℕ) (rs : List ℕ) → ((q : ℕ) → has q rs ≡ true → q < n) → AreMade n (map (λ q. factor_of (piece_of G.due G q)) rs)
  pieces_made n [] h = tt
  pieces_made n (q ∷ rs) h = (
    subst (λ k. k < n) (sym (piece_named G.due G q)) (h q (or_left (q == q) (has q rs) (eq-eqb q q refl))),
    pieces_made n rs (λ r t. h r (or_right (r == q) (has r rs) t)),
  )

  -- all pieces have qubits that were made
  pub all_made : (n : ℕ) → ((q : ℕ) → has q G.qubits ≡ true → q < n) → ((q : ℕ) → has q G.due ≡ true → has q G.qubits ≡ true)
      → AreMade n (split_pieces G.due G)
  all_made n h inside = made_both n (map (λ q. factor_of (piece_of G.due G q)) G.due) (rests (nat_lt 0 (length staying)))
      (pieces_made n G.due (λ q t. h q (inside q t)))
      (⊎_elim
      (λ (t : nat_lt 0 (length staying) ≡ true).
      subst (λ b. AreMade n (rests b)) (sym t) (h (least_qubit staying) (stays_in (least_qubit staying) G.qubits G.due (least_there staying t)).0, tt))
      (λ (t : nat_lt 0 (length staying) ≡ false). subst (λ b. AreMade n (rests b)) (sym t) tt)
      (cases_Bool (nat_lt 0 (length staying))))

-- a group that was taken out, and its pieces put in
pub split_is : (s t u : List (Option Held)) (n : ℕ) (G : Held) → groups_in s n ≡ Some G → t ≡ slice_set s n None
    → groups_in u ≡ entered (split_pieces G.due G) (groups_in t) → groups_in u ≡ groups_split (as_cells s) n
split_is s t u n G there out is =
    is
    ∙ (ap (λ z. entered (split_pieces G.due G) (groups_in z)) out
    ∙ (ap (entered (split_pieces G.due G)) (put_is s n None (held_below s n G there))
    ∙ (split_entered G n (with_at n None (groups_in s))
    ∙ sym (ap (λ x. split_by n x (groups_in s)) there))))

-- the factors of one more
pub factors_more : (slots : List (Option Held)) (G : Held) → factors_in (slots ++ Some G ∷ []) ≡ factors_in slots ++ factor_of G ∷ []
factors_more [] G = refl
factors_more (None ∷ slots) G = factors_more slots G
factors_more (Some F ∷ slots) G = ap (λ z. factor_of F ∷ z) (factors_more slots G)

-- nothing more
pub factors_none : (slots : List (Option Held)) → factors_in (slots ++ None ∷ []) ≡ factors_in slots
factors_none [] = refl
factors_none (None ∷ slots) = factors_none slots
factors_none (Some F ∷ slots) = ap (λ z. factor_of F ∷ z) (factors_none slots)

-- putting in what is left, after the last of it
pub entered_last : (xs : List Group) (x : Group) (m : Table) → entered (xs ++ x ∷ []) m ≡ entered xs (with_at (least_qubit x.qubits) (Some (with_due [] x)) m)
entered_last xs x m = entered_both xs (x ∷ []) m

-- of factors that were all made, the last was made, and so were the others
pub made_last : (n : ℕ) (xs : List Group) (x : Group) → AreMade n (xs ++ x ∷ []) → (least_qubit x.qubits < n) × AreMade n xs
made_last n [] x h = (h.0, tt)
made_last n (y ∷ ys) x h = let rest = made_last n ys x h.1 in (rest.0, (h.0, rest.1))
