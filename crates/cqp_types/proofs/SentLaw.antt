-- A qubit that is sent once is used besides where two nodes of the output's parts use it.
use Rattle.std.proofs.Common.{◌≡◌, ℕ, ◌+◌, List, [], ◌∷◌, ◌++◌, true, false, nat_lt, ◌||◌, sym, ◌∙◌, ap, subst, arith, cond}
use Rattle.std.proofs.lemmas.Bool.Decides.{nat_tests}
use Rattle.cqp_syntax.specs.Trees.{Slot, Expr, slot, sig, add, apply, measure, Process, output}
use Rattle.cqp_syntax.specs.Terms.{Term}
use Rattle.cqp_syntax.specs.Subterms.{expr_terms, exprs_terms, process_terms}
use Rattle.cqp_syntax.specs.Binders.{binders_of}
use Rattle.cqp_syntax.specs.Free.{same_slot, is_among, exprs_slots, free_slots}
use Rattle.cqp_types.specs.Contexts.{is_twice}
use Rattle.cqp_types.specs.Derivations.{sent}
use Rattle.cqp_types.specs.Faults.{Annotation, is_qubit, others}
use Rattle.cqp_syntax.specs.Uses.{own_slots, is_used}
use Rattle.cqp_types.specs.Uses.{count_uses}
use Rattle.cqp_syntax.proofs.Bools.{fails, either, or_left, or_right, neither, decide}
use Rattle.cqp_syntax.proofs.Slots.{slot_is, among_left, among_right}
use Rattle.cqp_syntax.proofs.Scoped.{free_bound}
use Rattle.cqp_syntax.proofs.UsedFree.{exprs_used, free_is_used, pair}
use Rattle.cqp_syntax.proofs.Placed.{IsPlaced, outside_not_bound}

module _ (s : Slot) where
  -- the uses in two lists of terms are those of both
  count_both : (ts us : List Term) → count_uses s (ts ++ us) ≡ count_uses s ts + count_uses s us
  count_both [] us = omega arith
  count_both (t ∷ ts) us = omega (arith, count_both ts us)

  -- a term is used where it is counted
  used_counted : (ts : List Term) → is_used s ts ≡ nat_lt 0 (count_uses s ts)
  used_counted [] = grind (arith, nat_tests)
  used_counted (t ∷ ts) =
      decide (is_among s (own_slots t))
      (λ e.
      let one : nat_lt 0 (1 + count_uses s ts) ≡ true = grind (arith, nat_tests) in
      or_left (is_among s (own_slots t)) (is_used s ts) e ∙ sym one ∙ sym (ap (λ b. nat_lt 0 (cond b 1 0 + count_uses s ts)) e))
      (λ e.
      let none : 0 + count_uses s ts ≡ count_uses s ts = omega arith in
      ap (λ b. b || is_used s ts) e ∙ used_counted ts ∙ sym (ap (nat_lt 0) none) ∙ sym (ap (λ b. nat_lt 0 (cond b 1 0 + count_uses s ts)) e))

  -- a slot alone counts for one, or for none
  one_slot : (r : Slot) → same_slot s r ≡ true → count_uses s (expr_terms (slot r)) ≡ 1
  one_slot r e = ap (λ b. cond (b || false) 1 0 + 0) e

  -- another slot counts for none
  no_slot : (r : Slot) → same_slot s r ≡ false → count_uses s (expr_terms (slot r)) ≡ 0
  no_slot r e = ap (λ b. cond (b || false) 1 0 + 0) e

  module _ (ty : Annotation) where
    -- the other arguments, after an argument that is none
    skip : (r : Slot) (es : List Expr) → is_qubit ty r ≡ true → others ty (slot r ∷ es) ≡ others ty es
    skip r es q = ap (λ b. cond b (others ty es) (slot r ∷ others ty es)) q

    keep : (r : Slot) (es : List Expr) → is_qubit ty r ≡ false → others ty (slot r ∷ es) ≡ slot r ∷ others ty es
    keep r es q = ap (λ b. cond b (others ty es) (slot r ∷ others ty es)) q

    sends : (r : Slot) (es : List Expr) → is_qubit ty r ≡ true → sent (is_qubit ty) (slot r ∷ es) ≡ r ∷ sent (is_qubit ty) es
    sends r es q = ap (λ b. cond b (r ∷ sent (is_qubit ty) es) (sent (is_qubit ty) es)) q

    sends_not : (r : Slot) (es : List Expr) → is_qubit ty r ≡ false → sent (is_qubit ty) (slot r ∷ es) ≡ sent (is_qubit ty) es
    sends_not r es q = ap (λ b. cond b (r ∷ sent (is_qubit ty) es) (sent (is_qubit ty) es)) q

    -- one argument more that is no sent name
    other_more : (e : Expr) (es os : List Expr) (k : ℕ) → count_uses s (exprs_terms es) ≡ k + count_uses s (exprs_terms os)
        → count_uses s (exprs_terms (e ∷ es)) ≡ k + count_uses s (exprs_terms (e ∷ os))
    other_more e es os k h = omega (arith, count_both (expr_terms e) (exprs_terms es), count_both (expr_terms e) (exprs_terms os), h)

    -- a slot that is not sent is used by the other arguments alone
    unsent : (es : List Expr) → is_among s (sent (is_qubit ty) es) ≡ false → count_uses s (exprs_terms es) ≡ 0 + count_uses s (exprs_terms (others ty es))
    unsent [] n = omega arith
    unsent (slot r ∷ es) n =
        decide (is_qubit ty r)
        (λ q.
        let parts = neither (same_slot s r) (is_among s (sent (is_qubit ty) es)) (sym (ap (is_among s) (sends r es q)) ∙ n) in
        let all : count_uses s (exprs_terms (slot r ∷ es)) ≡ 0 + count_uses s (exprs_terms (others ty es)) =
        omega (arith, count_both (expr_terms (slot r)) (exprs_terms es), no_slot r parts.0, unsent es parts.1) in
        all ∙ sym (ap (λ os. 0 + count_uses s (exprs_terms os)) (skip r es q)))
        (λ q.
        let rest = unsent es (sym (ap (is_among s) (sends_not r es q)) ∙ n) in
        other_more (slot r) es (others ty es) 0 rest ∙ sym (ap (λ os. 0 + count_uses s (exprs_terms os)) (keep r es q)))
    unsent (sig e ∷ es) n = other_more (sig e) es (others ty es) 0 (unsent es n)
    unsent (add e f ∷ es) n = other_more (add e f) es (others ty es) 0 (unsent es n)
    unsent (apply qs e ∷ es) n = other_more (apply qs e) es (others ty es) 0 (unsent es n)
    unsent (measure qs ∷ es) n = other_more (measure qs) es (others ty es) 0 (unsent es n)

    -- one that is sent once is used by that argument, and by the others
    sent_once : (es : List Expr) → is_among s (sent (is_qubit ty) es) ≡ true → is_twice (sent (is_qubit ty) es) ≡ false
        → count_uses s (exprs_terms es) ≡ 1 + count_uses s (exprs_terms (others ty es))
    sent_once [] i n = absurd (fails i)
    sent_once (slot r ∷ es) i n =
        decide (is_qubit ty r)
        (λ q.
        let parts = neither (is_among r (sent (is_qubit ty) es)) (is_twice (sent (is_qubit ty) es)) (sym (ap is_twice (sends r es q)) ∙ n) in
        let among = sym (ap (is_among s) (sends r es q)) ∙ i in
        let all : count_uses s (exprs_terms (slot r ∷ es)) ≡ 1 + count_uses s (exprs_terms (others ty es)) =
        decide (same_slot s r)
        (λ e.
        let gone = subst (λ z. is_among z (sent (is_qubit ty) es) ≡ false) (sym (slot_is s r e)) parts.0 in
        omega (arith, count_both (expr_terms (slot r)) (exprs_terms es), one_slot r e, unsent es gone))
        (λ e.
        let more = either (same_slot s r) (is_among s (sent (is_qubit ty) es)) among (λ k. absurd (fails (sym e ∙ k))) (λ k. k) in
        omega (arith, count_both (expr_terms (slot r)) (exprs_terms es), no_slot r e, sent_once es more parts.1)) in
        all ∙ sym (ap (λ os. 1 + count_uses s (exprs_terms os)) (skip r es q)))
        (λ q.
        let among = sym (ap (is_among s) (sends_not r es q)) ∙ i in
        let once = sym (ap is_twice (sends_not r es q)) ∙ n in
        other_more (slot r) es (others ty es) 1 (sent_once es among once) ∙ sym (ap (λ os. 1 + count_uses s (exprs_terms os)) (keep r es q)))
    sent_once (sig e ∷ es) i n = other_more (sig e) es (others ty es) 1 (sent_once es i n)
    sent_once (add e f ∷ es) i n = other_more (add e f) es (others ty es) 1 (sent_once es i n)
    sent_once (apply qs e ∷ es) i n = other_more (apply qs e) es (others ty es) 1 (sent_once es i n)
    sent_once (measure qs ∷ es) i n = other_more (measure qs) es (others ty es) 1 (sent_once es i n)

    -- what is sent is a slot of an argument
    pub sent_slot : (es : List Expr) → is_among s (sent (is_qubit ty) es) ≡ true → is_among s (exprs_slots es) ≡ true
    sent_slot [] i = i
    sent_slot (slot r ∷ es) i =
        decide (is_qubit ty r)
        (λ q.
        either (same_slot s r) (is_among s (sent (is_qubit ty) es)) (sym (ap (is_among s) (sends r es q)) ∙ i)
        (λ e. or_left (same_slot s r) (is_among s (exprs_slots es)) e)
        (λ j. or_right (same_slot s r) (is_among s (exprs_slots es)) (sent_slot es j)))
        (λ q. or_right (same_slot s r) (is_among s (exprs_slots es)) (sent_slot es (sym (ap (is_among s) (sends_not r es q)) ∙ i)))
    sent_slot (sig e ∷ es) i = among_right s _ (exprs_slots es) (sent_slot es i)
    sent_slot (add e f ∷ es) i = among_right s _ (exprs_slots es) (sent_slot es i)
    sent_slot (apply qs e ∷ es) i = among_right s _ (exprs_slots es) (sent_slot es i)
    sent_slot (measure qs ∷ es) i = among_right s _ (exprs_slots es) (sent_slot es i)

    -- a sent name is used besides exactly where two nodes of the arguments and the body use it
    pub used_besides : (c : Slot) (es : List Expr) (p : Process) → IsPlaced (output c es p) → is_among s (sent (is_qubit ty) es) ≡ true
        → is_twice (sent (is_qubit ty) es) ≡ false
        → is_among s (exprs_slots (others ty es) ++ free_slots p) ≡ nat_lt 1 (count_uses s (exprs_terms es ++ process_terms p))
    used_besides c es p i j n =
        let inside = or_right (same_slot s c) (is_among s (exprs_slots es ++ free_slots p)) (among_left s (exprs_slots es) (free_slots p) (sent_slot es j)) in
        let outer = free_bound s i.bound (output c es p) i.scoped inside in
        let unbound = outside_not_bound s i.first i.first i.bound (binders_of p) (omega arith) i.below i.counts outer in
        let os = exprs_terms (others ty es) in
        let ps = process_terms p in
        let here = pair s (exprs_slots (others ty es)) (free_slots p) os ps (exprs_used s (others ty es)) (free_is_used s p unbound) in
        let count : count_uses s (exprs_terms es ++ process_terms p) ≡ 1 + count_uses s (os ++ ps) =
        omega (arith, count_both (exprs_terms es) ps, count_both os ps, sent_once es j n) in
        let test : nat_lt 1 (1 + count_uses s (os ++ ps)) ≡ nat_lt 0 (count_uses s (os ++ ps)) = grind (arith, nat_tests) in
        here ∙ used_counted (os ++ ps) ∙ sym test ∙ sym (ap (nat_lt 1) count)
