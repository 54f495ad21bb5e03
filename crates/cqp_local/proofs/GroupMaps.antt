-- Maps of groups in which groups were joined, or one was split.
use Rattle.std.proofs.Common.{◌≡◌, ℕ, true, false, Bool, List, [], ◌∷◌, ◌==◌, ◌||◌, ◌<◌, if◌then◌else◌, filter, not, length, Option, Some, None, refl, sym, ap}
use Rattle.std.proofs.Common.{subst, arith, ◌∙◌, ⊎_elim, nat_lt}
use Rattle.std.proofs.lemmas.Bool.{cases_Bool, or_parts, or_cases, eqb-true, lt-ltb, both_ways}
use Rattle.cqp_book.specs.Keys.{has}
use Rattle.cqp_machine.specs.Factors.{Held, rest_of, piece_of, rest_group}
use Rattle.cqp_machine.specs.Cells.{with_at}
use Rattle.cqp_machine.specs.Enabled.{name_of_rest}
use Rattle.cqp_machine.specs.After.{lesser, product_of, with_pieces, with_rest}
use Rattle.cqp_local.proofs.PlacedLemmas.{with_at_same, with_at_in, with_at_out, with_at_alike}
use Rattle.cqp_local.proofs.WholeLemmas.{either_way}

-- a test beside one that fails
pub beside : (b : Bool) → (b || false) ≡ true → b ≡ true
beside true h = refl
beside false h = cc

-- a test that fails beside none fails
pub beside_not : (b : Bool) → (b || false) ≡ false → b ≡ false
beside_not true h = cc
beside_not false h = refl

-- what is put at one number, of which nothing else is seen
pub one_at : {X : Type 0} (seen whole : ℕ → Option X) (k n : ℕ) (x y : Option X) (t : Bool) → (t ≡ true → (n == k) ≡ true)
    → (t ≡ false → (n == k) ≡ false) → x ≡ y → (if t then with_at k x seen n else whole n) ≡ with_at k y whole n
one_at seen whole k n x y t h j e = either_way _ _ _ _
    (λ z. with_at_in k n x seen (h z) ∙ (e ∙ sym (with_at_in k n y whole (h z))))
    (λ z. sym (with_at_out k n y whole (j z)))

-- one number alone, in the forms that tests have
pub needed_in : (b : Bool) → ((b || false) || false) ≡ true → b ≡ true
needed_in true h = refl
needed_in false h = cc

-- the same where the test fails
pub needed_out : (b : Bool) → ((b || false) || false) ≡ false → b ≡ false
needed_out true h = cc
needed_out false h = refl

-- two groups that are there become the same one
pub two_become : (x y u v : Option Held) (g h : Held) → x ≡ Some g → y ≡ Some g → u ≡ Some h → v ≡ Some h → product_of x u ≡ product_of y v
two_become x y u v g h a b c d = rw (a, b, c, d) refl

-- the lesser of two is one of them
lesser_not : (n l r : ℕ) → (n == l) ≡ false → (n == r) ≡ false → (n == lesser l r) ≡ false
lesser_not n l r h k = ⊎_elim
    (λ (t : nat_lt l r ≡ true). rw t h)
    (λ (t : nat_lt l r ≡ false). rw t k)
    (cases_Bool (nat_lt l r))

module _ (l r n : ℕ) where
  -- without both groups
  abbrev emptied : (ℕ → Option Held) → ℕ → Option Held
  emptied f = with_at l None (with_at r None f)

  -- what a join leaves in a map, of which only both groups were seen
  pub joined_at : (seen whole : ℕ → Option Held) (x y : Option Held) → x ≡ y
      → (if (((n == l) || ((n == r) || false)) || false) then with_at (lesser l r) x (emptied seen) n else whole n)
      ≡ with_at (lesser l r) y (emptied whole) n
  joined_at seen whole x y e = rw e (either_way _ _ _ _
      (λ t. ⊎_elim
      (λ (here : (n == l) ≡ true).
      with_at_alike (lesser l r) n y (emptied seen) (emptied whole) (with_at_same l n None (with_at r None seen) (with_at r None whole) here))
      (λ (here : ((n == r) || false) ≡ true).
      with_at_alike (lesser l r) n y (emptied seen) (emptied whole)
      (with_at_alike l n None (with_at r None seen) (with_at r None whole) (with_at_same r n None seen whole (beside (n == r) here))))
      (or_cases (n == l) ((n == r) || false) (beside ((n == l) || ((n == r) || false)) t)))
      (λ t.
      let out = or_parts (n == l) ((n == r) || false) (beside_not ((n == l) || ((n == r) || false)) t) in
      let other = beside_not (n == r) out.1 in
      let all = with_at_out (lesser l r) n y (emptied whole) (lesser_not n l r out.0 other)
      ∙ (with_at_out l n None (with_at r None whole) out.0 ∙ with_at_out r n None whole other) in
      sym all))

-- groups with pieces are alike where the groups are
pieces_alike : (qs : List ℕ) (g : Held) (rs : List ℕ) (f h : ℕ → Option Held) (n : ℕ) → f n ≡ h n → with_pieces qs g rs f n ≡ with_pieces qs g rs h n
pieces_alike qs g [] f h n e = e
pieces_alike qs g (q ∷ rs) f h n e = with_at_alike q n (Some (piece_of qs g q)) (with_pieces qs g rs f) (with_pieces qs g rs h) (pieces_alike qs g rs f h n e)

-- at a measured qubit the piece is put whatever the map was
pieces_in : (qs : List ℕ) (g : Held) (rs : List ℕ) (f h : ℕ → Option Held) (n : ℕ) → has n rs ≡ true → with_pieces qs g rs f n ≡ with_pieces qs g rs h n
pieces_in qs g [] f h n e = cc
pieces_in qs g (q ∷ rs) f h n e = ⊎_elim
    (λ (t : (n == q) ≡ true). with_at_same q n (Some (piece_of qs g q)) (with_pieces qs g rs f) (with_pieces qs g rs h) t)
    (λ (t : has n rs ≡ true). with_at_alike q n (Some (piece_of qs g q)) (with_pieces qs g rs f) (with_pieces qs g rs h) (pieces_in qs g rs f h n t))
    (or_cases (n == q) (has n rs) e)

-- elsewhere the map stays
pub pieces_out : (qs : List ℕ) (g : Held) (rs : List ℕ) (f : ℕ → Option Held) (n : ℕ) → has n rs ≡ false → with_pieces qs g rs f n ≡ f n
pieces_out qs g [] f n e = refl
pieces_out qs g (q ∷ rs) f n e =
    let out = or_parts (n == q) (has n rs) e in
    with_at_out q n (Some (piece_of qs g q)) (with_pieces qs g rs f) out.0 ∙ pieces_out qs g rs f n out.1

-- what is in a filtered list
has-filter_other : (n k : ℕ) (xs : List ℕ) → (n == k) ≡ false → has n (filter (λ q. not (q == k)) xs) ≡ has n xs
has-filter_other n k [] h = refl
has-filter_other n k (x ∷ xs) h = ⊎_elim
    (λ (t : (x == k) ≡ true).
    let other : (n == x) ≡ false = rw (eqb-true x k t) h in
    rw (t, other) (has-filter_other n k xs h))
    (λ (t : (x == k) ≡ false). rw t (ap (λ b. (n == x) || b) (has-filter_other n k xs h)))
    (cases_Bool (x == k))

-- a list has an item or none
has_items : (k : ℕ) (xs : List ℕ) → nat_lt 0 (length xs) ≡ false → name_of_rest k xs ≡ k
has_items k [] h = refl
has_items k (x ∷ xs) h = let some : 0 < length (x ∷ xs) = omega arith in absurd (both_ways _ h (lt-ltb 0 (length (x ∷ xs)) some))

module _ (k : ℕ) (qs : List ℕ) (rest : ℕ) (g : Held) (named : rest ≡ name_of_rest k (rest_of g.qubits qs)) where
  -- whether qubits stay
  abbrev stay : Bool
  stay = nat_lt 0 (length (rest_of g.qubits qs))

  -- the rest is put into maps that agree at a number, which agree there afterwards
  rest_alike : (f h : ℕ → Option Held) (n : ℕ) → f n ≡ h n → with_rest qs g rest f n ≡ with_rest qs g rest h n
  rest_alike f h n e = ⊎_elim
      (λ (t : stay ≡ true). rw t (with_at_alike rest n (Some (rest_group qs g)) f h e))
      (λ (t : stay ≡ false). rw t e)
      (cases_Bool stay)

  -- at the rest's own name nothing else counts
  rest_in : (f h : ℕ → Option Held) (n : ℕ) → (n == rest) ≡ true → (n == k) ≡ false → with_rest qs g rest f n ≡ with_rest qs g rest h n
  rest_in f h n e other = ⊎_elim
      (λ (t : stay ≡ true). rw t (with_at_same rest n (Some (rest_group qs g)) f h e))
      (λ (t : stay ≡ false).
      let same : rest ≡ k = named ∙ has_items k (rest_of g.qubits qs) t in
      absurd (both_ways (n == k) other (subst (λ x. (n == x) ≡ true) same e)))
      (cases_Bool stay)

  -- elsewhere the map stays
  rest_out : (f : ℕ → Option Held) (n : ℕ) → (n == rest) ≡ false → with_rest qs g rest f n ≡ f n
  rest_out f n e = ⊎_elim
      (λ (t : stay ≡ true). rw t (with_at_out rest n (Some (rest_group qs g)) f e))
      (λ (t : stay ≡ false). rw t refl)
      (cases_Bool stay)

  -- what a split leaves in a map, of which only the group was seen
  abbrev pub pieces : (ℕ → Option Held) → ℕ → Option Held
  pieces f = with_pieces qs g qs (with_at k None f)

  -- the store's choice for a split is the split map
  pub split_at : (seen whole : ℕ → Option Held) (n : ℕ)
      → (if ((n == k) || false) || has n (filter (λ q. not (q == k)) (rest ∷ qs)) then with_rest qs g rest (pieces seen) n else whole n)
      ≡ with_rest qs g rest (pieces whole) n
  split_at seen whole n = ⊎_elim
      (λ (here : (n == k) ≡ true).
      let same : with_rest qs g rest (pieces seen) n ≡ with_rest qs g rest (pieces whole) n =
      rest_alike (pieces seen) (pieces whole) n
      (pieces_alike qs g qs (with_at k None seen) (with_at k None whole) n (with_at_same k n None seen whole here)) in
      rw here same)
      (λ (other : (n == k) ≡ false). rw (other, has-filter_other n k (rest ∷ qs) other) (either_way _ _ _ _
      (λ t. ⊎_elim
      (λ (e : (n == rest) ≡ true). rest_in (pieces seen) (pieces whole) n e other)
      (λ (e : has n qs ≡ true).
      rest_alike (pieces seen) (pieces whole) n (pieces_in qs g qs (with_at k None seen) (with_at k None whole) n e))
      (or_cases (n == rest) (has n qs) t))
      (λ t.
      let out = or_parts (n == rest) (has n qs) t in
      sym (rest_out (pieces whole) n out.0 ∙ (pieces_out qs g qs (with_at k None whole) n out.1 ∙ with_at_out k n None whole other)))))
      (cases_Bool (n == k))
