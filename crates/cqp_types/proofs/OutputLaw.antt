-- What the tables say of an output is its row.
use Rattle.std.proofs.Common.{◌≡◌, ℕ, suc, ◌+◌, ◌-◌, ◌<◌, ◌≤◌, Bool, true, false, nat_lt, ◌||◌, List, [], ◌∷◌, ◌++◌, map, length, slice_index, refl, sym, ◌∙◌}
use Rattle.std.proofs.Common.{ap, ap₂, subst, arith, cond}
use Rattle.std.specs.List.{list_any, AllByRecursion, range_with_len}
use Rattle.cqp_syntax.specs.declared.node.Node.TheVariants as node
use Rattle.cqp_syntax.specs.declared.val.Val.TheVariants as val
use Rattle.cqp_syntax.specs.Trees.{Slot, named, valued, Expr, slot, sig, add, apply, measure, output}
use Rattle.cqp_syntax.specs.Preorder.{exprs_size, process_size, name_of}
use Rattle.cqp_syntax.specs.Subterms.{exprs_terms, process_terms, term_terms, term_size}
use Rattle.cqp_syntax.specs.Free.{same_slot, is_among, exprs_slots, free_slots}
use Rattle.cqp_syntax.specs.Scope.{is_bound}
use Rattle.cqp_syntax.specs.Listing.{Listing, IsListing, Unfolds, type_of_name, term_at, expr_at, process_at, root}
use Rattle.cqp_syntax.specs.Numbered.{IsNumbered}
use Rattle.cqp_types.specs.declared.kind.Kind.TheVariants as kind
use Rattle.cqp_types.specs.Contexts.{is_twice}
use Rattle.cqp_types.specs.Derivations.{sent}
use Rattle.cqp_types.specs.Faults.{Annotation, is_qubit, first_kind, others, meet}
use Rattle.cqp_syntax.specs.Ends.{end_at}
use Rattle.cqp_types.specs.Sending.{sent_at, is_used_again, sent_kind}
use Rattle.cqp_types.specs.Uses.{count_uses, second_use, UsesFrom}
use Rattle.cqp_syntax.proofs.Bools.{fails, or_left, or_right, decide, number_same}
use Rattle.cqp_syntax.proofs.Slots.{among_left}
use Rattle.cqp_syntax.proofs.Scoped.{free_bound}
use Rattle.cqp_syntax.proofs.Placed.{IsPlaced, TermPlaced}
use Rattle.cqp_syntax.proofs.UsedAt.{placed_at}
use Rattle.cqp_types.proofs.SentLaw.{sent_slot, used_besides}
use Rattle.cqp_types.proofs.UseLaws.{second_counts}

-- tests that agree at each slot of a list agree on the list
same_any : (f g : Slot → Bool) (P : Slot → Type 0) (all ss : List Slot) → AllByRecursion P ss → ((s : Slot) → is_among s ss ≡ true → is_among s all ≡ true)
    → AllByRecursion (λ s. same_slot s s ≡ true) ss → ((s : Slot) → P s → is_among s all ≡ true → f s ≡ g s) → list_any f ss ≡ list_any g ss
same_any f g P all [] p sub own same = refl
same_any f g P all (s ∷ ss) p sub own same =
    ap₂ (λ a b. a || b) (same s p.0 (sub s (or_left (same_slot s s) (is_among s ss) own.0)))
    (same_any f g P all ss p.1 (λ r i. sub r (or_right (same_slot r s) (is_among r ss) i)) own.1 same)

module _ (ty : Annotation) where
  -- a slot of type Qbit is a name, a qubit or a channel
  qubit_own : (s : Slot) → is_qubit ty s ≡ true → same_slot s s ≡ true
  qubit_own (named x) h = number_same x
  qubit_own (valued (val.Qubit q)) h = number_same q
  qubit_own (valued (val.Chan c)) h = number_same c
  qubit_own (valued (val.Num v)) h = absurd (fails h)
  qubit_own (valued val.Unit) h = absurd (fails h)
  qubit_own (valued (val.Gate o)) h = absurd (fails h)

  -- so is all that is sent
  sent_own : (es : List Expr) → AllByRecursion (λ s. same_slot s s ≡ true) (sent (is_qubit ty) es)
  sent_own [] = tt
  sent_own (slot s ∷ es) = go (sent_own es) (is_qubit ty s) refl
    where
      go : AllByRecursion (λ s. same_slot s s ≡ true) (sent (is_qubit ty) es) → (b : Bool) → is_qubit ty s ≡ b
          → AllByRecursion (λ s. same_slot s s ≡ true) (cond b (s ∷ sent (is_qubit ty) es) (sent (is_qubit ty) es))
      go more true e = (qubit_own s e, more)
      go more false e = more
  sent_own (sig e ∷ es) = sent_own es
  sent_own (add e f ∷ es) = sent_own es
  sent_own (apply qs e ∷ es) = sent_own es
  sent_own (measure qs ∷ es) = sent_own es

-- what is bound is a name
bound_name : (bound : List ℕ) (s : Slot) → is_bound bound s ≡ true → s ≡ named (name_of s)
bound_name bound (named x) h = refl
bound_name bound (valued v) h = absurd (fails h)

-- the rest of equal lists
rest_same : {X : Type 0} (x y : X) (xs ys : List X) → x ∷ xs ≡ y ∷ ys → xs ≡ ys
rest_same x y xs ys e = cc

module _ (l : Listing) (listed : IsListing l (root l)) (numbers : IsNumbered l) (n chan body : ℕ) (args : List ℕ) (within : n < length l.nodes)
    (u : Unfolds l n (node.Out chan args body)) (fits : end_at l n ≤ length l.nodes)
    (first second : List ℕ) (uses : UsesFrom l (n + 1) first second) where
  -- the terms behind an output are those of its arguments and its body
  terms_behind : (size : ℕ) → term_size (term_at l n) ≡ suc size
      → map (term_at l) (range_with_len (n + 1) size) ≡ exprs_terms (map (expr_at l) args) ++ process_terms (process_at l body)
  terms_behind size e =
      let all = numbers.below n within in
      let own = ap (λ k. map (term_at l) (range_with_len n k)) (sym e) ∙ all ∙ ap term_terms u.tree in
      rest_same (term_at l n) _ _ _ own

  -- a sent name has its second use before the end exactly where it is used besides
  used_test : is_twice (sent_at l args) ≡ false → (s : Slot) → name_of s < length l.ty_of → is_among s (sent_at l args) ≡ true
      → nat_lt (slice_index second (name_of s)) (end_at l n)
      ≡ is_among s (exprs_slots (others (type_of_name l) (map (expr_at l) args)) ++ free_slots (process_at l body))
  used_test once s known i =
      let ty = type_of_name l in
      let es = map (expr_at l) args in
      let p = process_at l body in
      let placed : IsPlaced (output (named chan) es p) = subst TermPlaced u.tree (placed_at l listed numbers n within) in
      let inside = or_right (same_slot s (named chan)) (is_among s (exprs_slots es ++ free_slots p))
      (among_left s (exprs_slots es) (free_slots p) (sent_slot s ty es i)) in
      let is_name = bound_name placed.bound s (free_bound s placed.bound (output (named chan) es p) placed.scoped inside) in
      let size = exprs_size es + process_size p in
      let counted : term_size (term_at l n) ≡ suc size = ap term_size u.tree ∙ omega arith in
      let end : end_at l n ≡ n + 1 + size = omega (arith, counted) in
      ap (λ k. nat_lt k (end_at l n)) (uses.second_is (name_of s) known)
      ∙ ap (λ r. nat_lt (second_use l (n + 1) r) (end_at l n)) (sym is_name)
      ∙ ap (nat_lt (second_use l (n + 1) s)) end
      ∙ second_counts l s size (length l.nodes - (n + 1)) (n + 1) (omega (arith, end))
      ∙ ap (λ ts. nat_lt 1 (count_uses s ts)) (terms_behind size counted)
      ∙ sym (used_besides s ty (named chan) es p placed i once)

  -- so the tables give the last two kinds of the output's row
  pub sent_agrees : AllByRecursion (λ s. name_of s < length l.ty_of) (sent_at l args)
      → sent_kind second (end_at l n) (sent_at l args)
      ≡ first_kind ((is_twice (sent_at l args), kind.OperandTwice)
      ∷ (meet (sent_at l args) (exprs_slots (others (type_of_name l) (map (expr_at l) args)) ++ free_slots (process_at l body)), kind.SentAndUsed) ∷ [])
  sent_agrees known =
      let ss = sent_at l args in
      let used = exprs_slots (others (type_of_name l) (map (expr_at l) args)) ++ free_slots (process_at l body) in
      decide (is_twice ss)
      (λ e. twice (is_twice ss) (is_used_again second (end_at l n) ss) (meet ss used) e)
      (λ e. ap (λ b. first_kind ((is_twice ss, kind.OperandTwice) ∷ (b, kind.SentAndUsed) ∷ []))
      (same_any _ (λ s. is_among s used) (λ s. name_of s < length l.ty_of) ss ss known (λ s i. i) (sent_own (type_of_name l) (map (expr_at l) args))
      (used_test e)))
    where
      twice : (t a b : Bool) → t ≡ true → first_kind ((t, kind.OperandTwice) ∷ (a, kind.SentAndUsed) ∷ [])
          ≡ first_kind ((t, kind.OperandTwice) ∷ (b, kind.SentAndUsed) ∷ [])
      twice true a b e = refl
      twice false a b e = absurd (fails e)
