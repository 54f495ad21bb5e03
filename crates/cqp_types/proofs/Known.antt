-- Each slot that is free in what is typed has a type in the context.
use Rattle.std.proofs.Common.{◌≡◌, List, [], ◌∷◌, ◌++◌, true, false, sym, subst}
use Rattle.cqp_syntax.specs.TypeTrees.{TypeTree, TypeTrees, qbit_type, chan_type}
use Rattle.cqp_syntax.specs.Trees.{Slot, named, Expr, Binder, Process}
use Rattle.cqp_syntax.specs.Free.{same_slot, is_among, except, expr_slots, exprs_slots, bound_slots, free_slots}
use Rattle.cqp_types.specs.Contexts.{Context, Has, binding, leaving}
use Rattle.cqp_types.specs.Derivations.{AreQubits, HasType, slot_, sig_, add_, apply_, measure_, sent_under, Fits, no_argument, sent_name, other_argument}
use Rattle.cqp_types.specs.Derivations.{Derives, nil_, par_, new_, qbit_, act_, input_, output_, branch_}
use Rattle.cqp_syntax.proofs.Bools.{fails, either}
use Rattle.cqp_syntax.proofs.Slots.{slot_is, among_either, among_except}
use Rattle.cqp_types.proofs.ContextLaws.{below_all, kept_in}

-- the context has a type for the slot
abbrev pub Known : Context → Slot → Type 0
Known g s = (t : TypeTree) × Has g s t

-- a slot that is the same as one with a type has a type
known_by : (g : Context) (s r : Slot) (t : TypeTree) → same_slot s r ≡ true → Has g r t → Known g s
known_by g s r t same h = (t, subst (λ q. Has g q t) (sym (slot_is s r same)) h)

-- each of the qubits has a type
qubits_known : (g : Context) (s : Slot) (qs : List Slot) → AreQubits g qs → is_among s qs ≡ true → Known g s
qubits_known g s [] q h = absurd (fails h)
qubits_known g s (r ∷ qs) q h =
    either (same_slot s r) (is_among s qs) h (λ e. known_by g s r qbit_type e q.0) (λ e. qubits_known g s qs q.1 e)

-- each slot in an expression that is typed has a type
pub expr_known : (g : Context) (s : Slot) {e : Expr} {t : TypeTree} → HasType g e t → is_among s (expr_slots e) ≡ true → Known g s
expr_known g s (slot_ {s = r} {t = t} is) h = either (same_slot s r) false h (λ e. known_by g s r t e is) (λ e. absurd (fails e))
expr_known g s (sig_ d) h = expr_known g s d h
expr_known g s (add_ {e = e} {f = f} d k) h =
    among_either s (expr_slots e) (expr_slots f) h (λ i. expr_known g s d i) (λ i. expr_known g s k i)
expr_known g s (apply_ {qs = qs} {e = e} twice qubits many d) h =
    among_either s qs (expr_slots e) h (λ i. qubits_known g s qs qubits i) (λ i. expr_known g s d i)
expr_known g s (measure_ {qs = qs} twice qubits) h = qubits_known g s qs qubits h

-- each slot in arguments that fit has a type
pub sent_known : (g rest : Context) (s : Slot) → ((t : TypeTree) → Has rest s t → Has g s t) → {es : List Expr} {ts : TypeTrees}
    → Fits g rest es ts → is_among s (exprs_slots es) ≡ true → Known g s
sent_known g rest s sub no_argument h = absurd (fails h)
sent_known g rest s sub (sent_name {s = r} {es = es} is more) h =
    either (same_slot s r) (is_among s (exprs_slots es)) h
    (λ e. known_by g s r qbit_type e is) (λ e. sent_known g rest s sub more e)
sent_known g rest s sub (other_argument {e = e} {es = es} other d more) h =
    among_either s (expr_slots e) (exprs_slots es) h
    (λ i. let (t, k) = expr_known rest s d i in (t, sub t k))
    (λ i. sent_known g rest s sub more i)

-- what is known below binders and none of their names is known above them
known_above : (bs : List Binder) (g : Context) (s : Slot) → is_among s (bound_slots bs) ≡ false → Known (binding bs g) s → Known g s
known_above bs g s n k = (k.0, below_all bs g s k.0 n k.1)

-- each slot that is free in a process that is typed has a type
pub free_known : (g : Context) (s : Slot) {p : Process} → Derives g p → is_among s (free_slots p) ≡ true → Known g s
free_known g s nil_ h = absurd (fails h)
free_known g s (par_ {left = l} {right = r} {p = p} {q = q} splits a b) h =
    among_either s (free_slots p) (free_slots q) h
    (λ i. let (t, k) = free_known l s a i in (t, splits.left_in s t k))
    (λ i. let (t, k) = free_known r s b i in (t, splits.right_in s t k))
free_known g s (new_ {x = x} {ts = ts} {p = p} d) h =
    let parts = among_except s (named x ∷ []) (free_slots p) h in
    known_above (record { name = x; ty = chan_type ts } ∷ []) g s parts.0 (free_known _ s d parts.1)
free_known g s (qbit_ {x = x} {p = p} d) h =
    let parts = among_except s (named x ∷ []) (free_slots p) h in
    known_above (record { name = x; ty = qbit_type } ∷ []) g s parts.0 (free_known _ s d parts.1)
free_known g s (act_ {e = e} {p = p} t d) h =
    among_either s (expr_slots e) (free_slots p) h (λ i. expr_known g s t i) (λ i. free_known g s d i)
free_known g s (input_ {c = c} {bs = bs} {p = p} is d) h =
    either (same_slot s c) (is_among s (except (bound_slots bs) (free_slots p))) h
    (λ e. known_by g s c _ e is)
    (λ i. let parts = among_except s (bound_slots bs) (free_slots p) i in known_above bs g s parts.0 (free_known _ s d parts.1))
free_known g s (output_ {c = c} {es = es} {p = p} is twice fits d) h =
    either (same_slot s c) (is_among s (exprs_slots es ++ free_slots p)) h
    (λ e. known_by g s c _ e is)
    (λ i. among_either s (exprs_slots es) (free_slots p) i
    (λ j. sent_known g (leaving (sent_under g es) g) s (λ t k. kept_in _ g s t k) fits j)
    (λ j. let (t, k) = free_known (leaving (sent_under g es) g) s d j in (t, kept_in _ g s t k)))
free_known g s (branch_ {e = e} {f = f} {p = p} {q = q} a b c d) h =
    among_either s (expr_slots e) (expr_slots f ++ (free_slots p ++ free_slots q)) h
    (λ i. expr_known g s a i)
    (λ i. among_either s (expr_slots f) (free_slots p ++ free_slots q) i
    (λ j. expr_known g s b j)
    (λ j. among_either s (free_slots p) (free_slots q) j (λ k. free_known g s c k) (λ k. free_known g s d k)))
