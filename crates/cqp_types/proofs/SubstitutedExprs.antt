-- A value of the type of a name may take its place in expressions.
use Rattle.std.proofs.Common.{◌≡◌, ℕ, List, [], ◌∷◌, ◌++◌, map, true, false, ◌⊎◌, inl, inr, refl, sym, ◌∙◌, subst}
use Rattle.std.proofs.lemmas.List.{length-map}
use Rattle.cqp_syntax.specs.declared.val.Val.{Val}
use Rattle.cqp_syntax.specs.TypeTrees.{TypeTree, qbit_type}
use Rattle.cqp_syntax.specs.Trees.{Slot, named, valued, Expr}
use Rattle.cqp_syntax.specs.Free.{same_slot, is_among, expr_slots}
use Rattle.cqp_syntax.specs.Substitution.{expr_with}
use Rattle.cqp_types.specs.Contexts.{Context, Has, is_twice}
use Rattle.cqp_types.specs.Derivations.{AreQubits, HasType, slot_, sig_, add_, apply_, measure_}
use Rattle.cqp_syntax.proofs.Bools.{fails, either, or_left, or_right, neither, number_same}
use Rattle.cqp_syntax.proofs.Slots.{slot_is, among_left, among_right}
use Rattle.cqp_types.proofs.ContextLaws.{one_type, qbit_self, moves}
use Rattle.cqp_types.proofs.Sent.{false_unless}
use Rattle.cqp_types.proofs.Puts.{put, put_cases, put_out}

module _ (x : ℕ) (v : Val) where
  -- each of these slots keeps its type as the value takes the name's place, and a qubit that takes
  -- it is none of them
  pub record Suits (g h : Context) (ss : List Slot) : Type 0 where
    pub keeps : (s : Slot) (t : TypeTree) → is_among s ss ≡ true → Has g s t → Has h (put x v s) t
    pub apart : Has g (named x) qbit_type → is_among (valued v) ss ≡ false

  -- what suits more slots suits some of them
  pub suits_some : (g h : Context) (rs ss : List Slot) → ((s : Slot) → is_among s rs ≡ true → is_among s ss ≡ true) → Suits g h ss → Suits g h rs
  suits_some g h rs ss sub u = record {
    keeps = λ s t i is. u.keeps s t (sub s i) is;
    apart = λ is. false_unless (is_among (valued v) rs) (λ i. fails (sym (u.apart is) ∙ sub (valued v) i));
  }

  -- what suits two lists of slots suits the left
  pub suits_left : (g h : Context) (rs ss : List Slot) → Suits g h (rs ++ ss) → Suits g h rs
  suits_left g h rs ss u = suits_some g h rs (rs ++ ss) (λ s i. among_left s rs ss i) u

  -- and the right
  pub suits_right : (g h : Context) (rs ss : List Slot) → Suits g h (rs ++ ss) → Suits g h ss
  suits_right g h rs ss u = suits_some g h ss (rs ++ ss) (λ s i. among_right s rs ss i) u

  -- what suits slots suits all but the first
  pub suits_tail : (g h : Context) (r : Slot) (ss : List Slot) → Suits g h (r ∷ ss) → Suits g h ss
  suits_tail g h r ss u = suits_some g h ss (r ∷ ss) (λ s i. or_right (same_slot s r) (is_among s ss) i) u

  -- the first of the slots keeps its type with the value put in
  pub suits_head : (g h : Context) (r : Slot) (ss : List Slot) (t : TypeTree) → Suits g h (r ∷ ss) → Has g r t → Has h (put x v r) t
  suits_head g h r ss t u is = go (put_cases x v r)
    where
      here : same_slot r r ≡ true → Has h (put x v r) t
      here own = u.keeps r t (or_left (same_slot r r) (is_among r ss) own) is

      go : ((r ≡ named x) × (put x v r ≡ valued v)) ⊎ ((same_slot r (named x) ≡ false) × (put x v r ≡ r)) → Has h (put x v r) t
      go (inl c) = here (subst (λ q. same_slot q q ≡ true) (sym c.0) (number_same x))
      go (inr c) = subst (λ q. Has h q t) (sym c.1) (moves g h r t (λ own. subst (λ q. Has h q t) c.1 (here own)) is)

  -- two slots of one type Qbit that become one are one
  pub one_origin : (g h : Context) (ss : List Slot) (r s : Slot) (t : TypeTree) → Suits g h ss → is_among r ss ≡ true → is_among s ss ≡ true
      → Has g r t → Has g s qbit_type → put x v r ≡ put x v s → r ≡ s
  one_origin g h ss r s t u i j a b e = go (put_cases x v r) (put_cases x v s)
    where
      never : Has g (named x) qbit_type → is_among (valued v) ss ≡ true → r ≡ s
      never is m = absurd (fails (sym (u.apart is) ∙ m))

      go : ((r ≡ named x) × (put x v r ≡ valued v)) ⊎ ((same_slot r (named x) ≡ false) × (put x v r ≡ r))
          → ((s ≡ named x) × (put x v s ≡ valued v)) ⊎ ((same_slot s (named x) ≡ false) × (put x v s ≡ s)) → r ≡ s
      go (inl c) (inl d) = c.0 ∙ sym d.0
      go (inl c) (inr d) =
          let value : s ≡ valued v = sym d.1 ∙ sym e ∙ c.1 in
          let one = u.keeps r t i a in
          let two = subst (λ q. Has h q qbit_type) (sym e) (u.keeps s qbit_type j b) in
          let same = one_type h (put x v r) t qbit_type one two in
          never (subst (λ q. Has g q qbit_type) c.0 (subst (λ w. Has g r w) same a)) (subst (λ q. is_among q ss ≡ true) value j)
      go (inr c) (inl d) =
          let value : r ≡ valued v = sym c.1 ∙ e ∙ d.1 in
          never (subst (λ q. Has g q qbit_type) d.0 b) (subst (λ q. is_among q ss ≡ true) value i)
      go (inr c) (inr d) = sym c.1 ∙ e ∙ d.1

  -- operands
  pub qubits_put : (g h : Context) (qs : List Slot) → Suits g h qs → AreQubits g qs → AreQubits h (map (put x v) qs)
  qubits_put g h [] u q = tt
  qubits_put g h (r ∷ qs) u q = (suits_head g h r qs qbit_type u q.0, qubits_put g h qs (suits_tail g h r qs u) q.1)

  -- a slot among qubits is one
  pub qubit_among : (g : Context) (s : Slot) (qs : List Slot) → AreQubits g qs → is_among s qs ≡ true → Has g s qbit_type
  qubit_among g s [] q i = absurd (fails i)
  qubit_among g s (r ∷ qs) q i =
      either (same_slot s r) (is_among s qs) i
      (λ e. subst (λ p. Has g p qbit_type) (sym (slot_is s r e)) q.0)
      (λ j. qubit_among g s qs q.1 j)

  -- distinct qubits stay distinct with the value put in
  pub twice_put : (g h : Context) (ws qs : List Slot) → Suits g h ws → ((s : Slot) → is_among s qs ≡ true → is_among s ws ≡ true)
      → AreQubits g qs → is_twice qs ≡ false → is_twice (map (put x v) qs) ≡ false
  twice_put g h ws [] u sub q n = refl
  twice_put g h ws (r ∷ qs) u sub q n =
      let parts = neither (is_among r qs) (is_twice qs) n in
      let here = or_left (same_slot r r) (is_among r qs) (qbit_self g r q.0) in
      let first : is_among (put x v r) (map (put x v) qs) ≡ false = false_unless (is_among (put x v r) (map (put x v) qs)) (λ i.
      put_out x v (put x v r) qs i (λ s e j.
      let more = or_right (same_slot s r) (is_among s qs) j in
      let same = one_origin g h ws r s qbit_type u (sub r here) (sub s more) q.0 (qubit_among g s qs q.1 j) (sym e) in
      fails (sym parts.0 ∙ subst (λ p. is_among p qs ≡ true) (sym same) j))) in
      rw first (twice_put g h ws qs u (λ s i. sub s (or_right (same_slot s r) (is_among s qs) i)) q.1 parts.1)

  -- expressions
  pub expr_substituted : (g h : Context) {e : Expr} {t : TypeTree} → Suits g h (expr_slots e) → HasType g e t → HasType h (expr_with x v e) t
  expr_substituted g h u (slot_ {s = s} {t = t} is) = slot_ (suits_head g h s [] t u is)
  expr_substituted g h u (sig_ d) = sig_ (expr_substituted g h u d)
  expr_substituted g h u (add_ {e = e} {f = f} a b) =
      add_ (expr_substituted g h (suits_left g h (expr_slots e) (expr_slots f) u) a)
      (expr_substituted g h (suits_right g h (expr_slots e) (expr_slots f) u) b)
  expr_substituted g h u (apply_ {qs = qs} {e = e} twice qubits many d) =
      let own = suits_left g h qs (expr_slots e) u in
      apply_ (twice_put g h qs qs own (λ s i. i) qubits twice) (qubits_put g h qs own qubits) (many ∙ sym (length-map qs (put x v)))
      (expr_substituted g h (suits_right g h qs (expr_slots e) u) d)
  expr_substituted g h u (measure_ {qs = qs} twice qubits) =
      measure_ (twice_put g h qs qs u (λ s i. i) qubits twice) (qubits_put g h qs u qubits)
