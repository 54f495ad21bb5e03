-- A split keeps the groups apart.
use Rattle.std.proofs.Common.{◌≡◌, ◌≢◌, ◌⊎◌, inl, inr, ℕ, true, false, Bool, List, [], ◌∷◌, ◌==◌, ◌≤◌, if◌then◌else◌, length, Some, None, refl, sym, ap, subst}
use Rattle.std.proofs.Common.{arith, eq-eqb, ne_eqb, ◌∙◌, ⊎_elim, nat_lt}
use Rattle.std.proofs.lemmas.Bool.{cases_Bool, or_cases, or_left, or_right, eqb-true, false_from_ne_true}
use Rattle.cqp_book.specs.Keys.{has}
use Rattle.cqp_machine.specs.Factors.{Held, rest_of, piece_of, rest_group, least_qubit, has_scalar}
use Rattle.cqp_machine.specs.Cells.{with_at}
use Rattle.cqp_machine.specs.Enabled.{name_of_rest}
use Rattle.cqp_machine.specs.After.{with_pieces, with_rest}
use Rattle.cqp_local.proofs.PlacedLemmas.{with_at_out}
use Rattle.cqp_local.proofs.GroupMaps.{pieces_out}
use Rattle.cqp_cells.proofs.Options.{same_some, none_is_some}
use Rattle.cqp_fresh.specs.Partition.{Groups, IsOwn, IsPartition}
use Rattle.cqp_fresh.proofs.Partition.{found, name_made}

-- a piece has its qubit alone
pub piece_qubits : (qs : List ℕ) (G : Held) (q : ℕ) → (piece_of qs G q).qubits ≡ q ∷ []
piece_qubits qs G q = ⊎_elim (λ (t : has_scalar qs G q ≡ true). rw t refl) (λ (t : has_scalar qs G q ≡ false). rw t refl) (cases_Bool (has_scalar qs G q))

-- nothing is due in a piece
pub piece_due : (qs : List ℕ) (G : Held) (q : ℕ) → (piece_of qs G q).due ≡ []
piece_due qs G q = ⊎_elim (λ (t : has_scalar qs G q ≡ true). rw t refl) (λ (t : has_scalar qs G q ≡ false). rw t refl) (cases_Bool (has_scalar qs G q))

-- what is among the pieces
pub pieces_found : (qs : List ℕ) (G : Held) (rs : List ℕ) (m : Groups) (g : ℕ) (F : Held) → with_pieces qs G rs m g ≡ Some F
    → ((has g rs ≡ true) × (piece_of qs G g ≡ F)) ⊎ ((has g rs ≡ false) × (m g ≡ Some F))
pieces_found qs G [] m g F h = inr (refl, h)
pieces_found qs G (q ∷ rs) m g F h = ⊎_elim
    (λ (t : (g ≡ q) × (Some (piece_of qs G q) ≡ Some F)). inl (
      or_left (g == q) (has g rs) (eq-eqb g q t.0),
      ap (piece_of qs G) t.0 ∙ same_some {x = (piece_of qs G q)} {y = F} t.1,
    ))
    (λ (t : (g ≢ q) × (with_pieces qs G rs m g ≡ Some F)). rw (ne_eqb g q t.0) (pieces_found qs G rs m g F t.1))
    (found q g (Some (piece_of qs G q)) (with_pieces qs G rs m) F h)

-- the qubits that stay are in the group, and not measured
pub stays_in : (q : ℕ) (xs qs : List ℕ) → has q (rest_of xs qs) ≡ true → (has q xs ≡ true) × (has q qs ≡ false)
stays_in q [] qs h = cc
stays_in q (x ∷ xs) qs h = ⊎_elim
    (λ (t : has x qs ≡ true). let later = stays_in q xs qs (rw t at h) in (or_right (q == x) (has q xs) later.0, later.1))
    (λ (t : has x qs ≡ false). ⊎_elim
    (λ (u : (q == x) ≡ true). (or_left (q == x) (has q xs) u, rw (eqb-true q x u) t))
    (λ (u : has q (rest_of xs qs) ≡ true). let later = stays_in q xs qs u in (or_right (q == x) (has q xs) later.0, later.1))
    (or_cases (q == x) (has q (rest_of xs qs)) (rw t at h)))
    (cases_Bool (has x qs))

-- the first number or one of the others is one of all
one_of : (b : Bool) (q x : ℕ) (xs : List ℕ) → has x xs ≡ true → has (if b then q else x) (q ∷ xs) ≡ true
one_of true q x xs h = or_left (q == q) (has q xs) (eq-eqb q q refl)
one_of false q x xs h = or_right (x == q) (has x xs) h

-- the least of some qubits is one of them
pub least_in : (q : ℕ) (qs : List ℕ) → has (least_qubit (q ∷ qs)) (q ∷ qs) ≡ true
least_in q [] = rw (eq-eqb q q refl) refl
least_in q (r ∷ rs) = one_of (nat_lt q (least_qubit (r ∷ rs))) q (least_qubit (r ∷ rs)) (r ∷ rs) (least_in r rs)

-- the name of the rest is one of its qubits
rest_named : (k : ℕ) (xs : List ℕ) → nat_lt 0 (length xs) ≡ true → has (name_of_rest k xs) xs ≡ true
rest_named k [] h = cc
rest_named k (x ∷ xs) h = least_in x xs

module _ (n : ℕ) (m : Groups) (own : ℕ → ℕ) (p : IsPartition n m own) (k : ℕ) (G : Held) (there : m k ≡ Some G) (qs : List ℕ) (due : G.due ≡ qs)
    (rest : ℕ) (rest_is : rest ≡ name_of_rest k (rest_of G.qubits qs)) where
  -- the owners after the split
  abbrev pub own_split : ℕ → ℕ
  own_split q = if has q qs then q else (if own q == k then rest else own q)

  -- whether qubits stay
  abbrev stay : Bool
  stay = nat_lt 0 (length (rest_of G.qubits qs))

  -- the group has what the partition says
  o : IsOwn n own k G
  o = p.each k G there

  -- a measured qubit is in the group
  measured_in : (q : ℕ) → has q qs ≡ true → has q G.qubits ≡ true
  measured_in q h = o.due_in q (subst (λ xs. has q xs ≡ true) (sym due) h)

  -- what is in a list of one is that one
  just : (q g : ℕ) → has q (g ∷ []) ≡ true → q ≡ g
  just q g h = eqb-true q g (⊎_elim (λ z. z) (λ z. cc) (or_cases (q == g) false h))

  -- a piece has its qubit alone, and owns it
  piece_own : (g : ℕ) → has g qs ≡ true → IsOwn n own_split g (piece_of qs G g)
  piece_own g h = record {
    named = rw (piece_qubits qs G g, eq-eqb g g refl) refl;
    owned = λ q t. let same = just q g (rw (piece_qubits qs G g) at t) in rw (same, h) refl;
    made = λ q t. let same = just q g (rw (piece_qubits qs G g) at t) in rw same (o.made g (measured_in g h));
    due_in = λ q t. let none : false ≡ true = rw (piece_due qs G g) at t in cc;
  }

  -- the rest has the qubits that stay
  rest_own : (g : ℕ) → g ≡ rest → stay ≡ true → IsOwn n own_split g (rest_group qs G)
  rest_own g e t = record {
    named = rw (e ∙ rest_is) (rest_named k (rest_of G.qubits qs) t);
    owned = λ q h. let s = stays_in q G.qubits qs h in rw (s.1, eq-eqb (own q) k (o.owned q s.0)) (sym e);
    made = λ q h. o.made q (stays_in q G.qubits qs h).0;
    due_in = λ q h. cc;
  }

  -- a qubit of another group wasn't measured
  not_measured : (g : ℕ) (F : Held) → m g ≡ Some F → g ≢ k → (q : ℕ) → has q F.qubits ≡ true → has q qs ≡ false
  not_measured g F h x q t = false_from_ne_true (has q qs) (λ u. x (sym ((p.each g F h).owned q t) ∙ o.owned q (measured_in q u)))

  -- each other group has what it had
  other_own : (g : ℕ) (F : Held) → m g ≡ Some F → g ≢ k → IsOwn n own_split g F
  other_own g F h x = let f = p.each g F h in record {
    named = f.named;
    owned = λ q t. rw (not_measured g F h x q t, ne_eqb (own q) k (λ e. x (sym (f.owned q t) ∙ e))) (f.owned q t);
    made = f.made;
    due_in = f.due_in;
  }

  -- the groups with the pieces in the place of the group
  abbrev pieces : Groups
  pieces = with_pieces qs G qs (with_at k None m)

  -- each group among the pieces has its own
  among : (g : ℕ) (F : Held) → pieces g ≡ Some F → IsOwn n own_split g F
  among g F h = ⊎_elim
      (λ (t : (has g qs ≡ true) × (piece_of qs G g ≡ F)). subst (λ X. IsOwn n own_split g X) t.1 (piece_own g t.0))
      (λ (t : (has g qs ≡ false) × (with_at k None m g ≡ Some F)). ⊎_elim
      (λ (u : (g ≡ k) × (None ≡ Some F)). absurd (none_is_some {x = F} u.1))
      (λ (u : (g ≢ k) × (m g ≡ Some F)). other_own g F u.1 u.0)
      (found k g None m F t.1))
      (pieces_found qs G qs (with_at k None m) g F h)

  -- each group after the split has its own
  with_rest_own : (g : ℕ) (F : Held) → with_rest qs G rest pieces g ≡ Some F → IsOwn n own_split g F
  with_rest_own g F h = ⊎_elim
      (λ (t : stay ≡ true).
      let h1 : with_at rest (Some (rest_group qs G)) pieces g ≡ Some F = rw t at h in
      ⊎_elim
      (λ (u : (g ≡ rest) × (Some (rest_group qs G) ≡ Some F)). subst (λ X. IsOwn n own_split g X) (same_some {x = (rest_group qs G)} {y = F} u.1)
      (rest_own g u.0 t))
      (λ (u : (g ≢ rest) × (pieces g ≡ Some F)). among g F u.1)
      (found rest g (Some (rest_group qs G)) pieces F h1))
      (λ (t : stay ≡ false). among g F (rw t at h))
      (cases_Bool stay)

  -- no piece has a name that wasn't made
  not_piece : (g : ℕ) → n ≤ g → pieces g ≡ None
  not_piece g h =
      let out : has g qs ≡ false = false_from_ne_true (has g qs) (λ t. let below = o.made g (measured_in g t) in omega arith) in
      let below = name_made n m own p k G there in
      pieces_out qs G qs (with_at k None m) g out ∙ (with_at_out k g None m (ne_eqb g k (λ e. omega arith)) ∙ p.fresh g h)

  -- nor has any group after the split
  nothing_beyond : (g : ℕ) → n ≤ g → with_rest qs G rest pieces g ≡ None
  nothing_beyond g h = ⊎_elim
      (λ (t : stay ≡ true).
      let in_rest : has rest (rest_of G.qubits qs) ≡ true = rw rest_is (rest_named k (rest_of G.qubits qs) t) in
      let below = o.made rest (stays_in rest G.qubits qs in_rest).0 in
      let other : (g == rest) ≡ false = ne_eqb g rest (λ e. omega arith) in
      rw (t, other) (not_piece g h))
      (λ (t : stay ≡ false). rw t (not_piece g h))
      (cases_Bool stay)

  -- they share out the qubits that were made
  pub one_split : IsPartition n (with_rest qs G rest pieces) own_split
  one_split = record { fresh = nothing_beyond; each = with_rest_own }
