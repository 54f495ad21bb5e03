-- What is sent under a context.
use Rattle.std.proofs.Common.{◌≡◌, List, [], ◌∷◌, Bool, true, false, refl, sym, subst, cond}
use Rattle.cqp_syntax.specs.TypeTrees.{qbit_type}
use Rattle.cqp_syntax.specs.Trees.{Slot, Expr, slot, sig, add, apply, measure}
use Rattle.cqp_syntax.specs.Free.{same_slot, is_among, expr_slots, exprs_slots}
use Rattle.cqp_types.specs.Contexts.{Context, type_in, Has}
use Rattle.cqp_types.specs.Derivations.{AreQubits, is_qbit, sent_under}
use Rattle.cqp_syntax.proofs.Bools.{fails, either, or_left}
use Rattle.cqp_types.proofs.TypeTests.{qbit_is}
use Rattle.cqp_syntax.proofs.Slots.{slot_is, among_right}

-- a test that cannot hold fails
pub false_unless : (b : Bool) → (b ≡ true → ⊥) → b ≡ false
false_unless true h = absurd (h refl)
false_unless false h = refl

-- what is sent is of type Qbit
pub sent_is : (g : Context) (es : List Expr) (s : Slot) → is_among s (sent_under g es) ≡ true → Has g s qbit_type
sent_is g [] s h = absurd (fails h)
sent_is g (slot r ∷ es) s h = go (λ i. sent_is g es s i) (is_qbit (type_in g r)) refl h
  where
    go : (is_among s (sent_under g es) ≡ true → Has g s qbit_type) → (b : Bool) → is_qbit (type_in g r) ≡ b
        → is_among s (cond b (r ∷ sent_under g es) (sent_under g es)) ≡ true → Has g s qbit_type
    go more true e i =
        either (same_slot s r) (is_among s (sent_under g es)) i
        (λ same. subst (λ q. Has g q qbit_type) (sym (slot_is s r same)) (qbit_is (type_in g r) e))
        more
    go more false e i = more i
sent_is g (sig e ∷ es) s h = sent_is g es s h
sent_is g (add e f ∷ es) s h = sent_is g es s h
sent_is g (apply qs e ∷ es) s h = sent_is g es s h
sent_is g (measure qs ∷ es) s h = sent_is g es s h

-- all of it is
pub are_sent : (g : Context) (es : List Expr) → AreQubits g (sent_under g es)
are_sent g [] = tt
are_sent g (slot r ∷ es) = go (are_sent g es) (is_qbit (type_in g r)) refl
  where
    go : AreQubits g (sent_under g es) → (b : Bool) → is_qbit (type_in g r) ≡ b → AreQubits g (cond b (r ∷ sent_under g es) (sent_under g es))
    go more true e = (qbit_is (type_in g r) e, more)
    go more false e = more
are_sent g (sig e ∷ es) = are_sent g es
are_sent g (add e f ∷ es) = are_sent g es
are_sent g (apply qs e ∷ es) = are_sent g es
are_sent g (measure qs ∷ es) = are_sent g es

-- what is sent is a slot of an argument
pub sent_among : (g : Context) (es : List Expr) (s : Slot) → is_among s (sent_under g es) ≡ true → is_among s (exprs_slots es) ≡ true
sent_among g [] s h = h
sent_among g (slot r ∷ es) s h = go (λ i. sent_among g es s i) (is_qbit (type_in g r)) h
  where
    go : (is_among s (sent_under g es) ≡ true → is_among s (exprs_slots es) ≡ true) → (b : Bool)
        → is_among s (cond b (r ∷ sent_under g es) (sent_under g es)) ≡ true → is_among s (r ∷ exprs_slots es) ≡ true
    go more true i =
        either (same_slot s r) (is_among s (sent_under g es)) i
        (λ e. or_left (same_slot s r) (is_among s (exprs_slots es)) e)
        (λ j. among_right s (r ∷ []) (exprs_slots es) (more j))
    go more false i = among_right s (r ∷ []) (exprs_slots es) (more i)
sent_among g (sig e ∷ es) s h = among_right s (expr_slots e) (exprs_slots es) (sent_among g es s h)
sent_among g (add e f ∷ es) s h = among_right s (expr_slots (add e f)) (exprs_slots es) (sent_among g es s h)
sent_among g (apply qs e ∷ es) s h = among_right s (expr_slots (apply qs e)) (exprs_slots es) (sent_among g es s h)
sent_among g (measure qs ∷ es) s h = among_right s qs (exprs_slots es) (sent_among g es s h)
