-- What contexts say of slots.
use Rattle.std.proofs.Common.{◌≡◌, List, [], ◌∷◌, filter, Bool, true, false, refl, sym, ◌∙◌, ap, subst, Some}
use Rattle.cqp_syntax.specs.declared.val.Val.TheVariants as val
use Rattle.cqp_syntax.specs.TypeTrees.{TypeTree, qbit_type}
use Rattle.cqp_syntax.specs.Trees.{Slot, named, valued, Binder}
use Rattle.cqp_syntax.specs.Free.{same_slot, is_among, bound_slots}
use Rattle.cqp_types.specs.Contexts.{Entry, Context, entry_type, Has, bound_entry, binding}
use Rattle.cqp_syntax.proofs.Bools.{fails, either, neither, decide, number_same}
use Rattle.cqp_syntax.proofs.Slots.{slot_is, slot_other, stays, goes}

-- a slot has one type
pub one_type : (g : Context) (s : Slot) (t u : TypeTree) → Has g s t → Has g s u → t ≡ u
one_type g s t u h k = let e : Some t ≡ Some u = sym h ∙ k in cc

-- what has type Qbit is a name, a qubit or a channel
pub qbit_self : (g : Context) (s : Slot) → Has g s qbit_type → same_slot s s ≡ true
qbit_self g (named x) h = number_same x
qbit_self g (valued (val.Qubit q)) h = number_same q
qbit_self g (valued (val.Chan c)) h = number_same c
qbit_self g (valued v) h = absurd (cc h)

-- a number, `unit` and a gate have their types under each context
pub moves : (g h : Context) (s : Slot) (t : TypeTree) → (same_slot s s ≡ true → Has h s t) → Has g s t → Has h s t
moves g h (named x) t f is = f (number_same x)
moves g h (valued (val.Qubit q)) t f is = f (number_same q)
moves g h (valued (val.Chan c)) t f is = f (number_same c)
moves g h (valued v) t f is = is

-- an entry for another slot changes nothing
pub has_above : (e : Entry) (g : Context) (s : Slot) (t : TypeTree) → same_slot e.slot s ≡ false → Has g s t → Has (e ∷ g) s t
has_above e g (named x) t other h = rw other h
has_above e g (valued (val.Qubit q)) t other h = rw other h
has_above e g (valued (val.Chan c)) t other h = rw other h
has_above e g (valued v) t other h = h

-- what an entry for another slot stands above has the same type below
pub has_below : (e : Entry) (g : Context) (s : Slot) (t : TypeTree) → same_slot e.slot s ≡ false → Has (e ∷ g) s t → Has g s t
has_below e g (named x) t other h = rw other at h
has_below e g (valued (val.Qubit q)) t other h = rw other at h
has_below e g (valued (val.Chan c)) t other h = rw other at h
has_below e g (valued v) t other h = h

-- a name has the type of its binder
pub has_name : (b : Binder) (g : Context) → Has (bound_entry b ∷ g) (named b.name) b.ty
has_name b g = rw (number_same b.name) refl

-- what is none of the names bound keeps its type
pub above_all : (bs : List Binder) (g : Context) (s : Slot) (t : TypeTree) → is_among s (bound_slots bs) ≡ false → Has g s t → Has (binding bs g) s t
above_all [] g s t n h = h
above_all (b ∷ bs) g s t n h =
    let parts = neither (same_slot s (named b.name)) (is_among s (bound_slots bs)) n in
    has_above (bound_entry b) (binding bs g) s t (slot_other s (named b.name) parts.0) (above_all bs g s t parts.1 h)

-- and what is none of the names bound has it above them
pub below_all : (bs : List Binder) (g : Context) (s : Slot) (t : TypeTree) → is_among s (bound_slots bs) ≡ false → Has (binding bs g) s t → Has g s t
below_all [] g s t n h = h
below_all (b ∷ bs) g s t n h =
    let parts = neither (same_slot s (named b.name)) (is_among s (bound_slots bs)) n in
    below_all bs g s t parts.1 (has_below (bound_entry b) (binding bs g) s t (slot_other s (named b.name) parts.0) h)

-- the types of the names bound are the same over each context
pub bound_same : (bs : List Binder) (g h : Context) (s : Slot) (t : TypeTree) → is_among s (bound_slots bs) ≡ true → Has (binding bs g) s t
    → Has (binding bs h) s t
bound_same [] g h s t n is = absurd (fails n)
bound_same (b ∷ bs) g h s t n is =
    decide (same_slot s (named b.name))
    (λ e.
    let here = slot_is s (named b.name) e in
    let old : Has (binding (b ∷ bs) g) (named b.name) t = subst (λ r. Has (binding (b ∷ bs) g) r t) here is in
    let same = one_type (binding (b ∷ bs) g) (named b.name) b.ty t (has_name b (binding bs g)) old in
    subst (λ r. Has (binding (b ∷ bs) h) r t) (sym here) (subst (λ u. Has (binding (b ∷ bs) h) (named b.name) u) same (has_name b (binding bs h))))
    (λ e.
    let other = slot_other s (named b.name) e in
    let more = either (same_slot s (named b.name)) (is_among s (bound_slots bs)) n (λ k. absurd (fails (sym e ∙ k))) (λ k. k) in
    has_above (bound_entry b) (binding bs h) s t other (bound_same bs g h s t more (has_below (bound_entry b) (binding bs g) s t other is)))

-- a context of the entries whose slots pass a test
abbrev pub keeping : (Slot → Bool) → Context → Context
keeping f g = filter (λ e. f e.slot) g

-- an entry that is kept was there, and passes
entry_kept : (f : Slot → Bool) (g : Context) (s : Slot) (t : TypeTree) → entry_type (keeping f g) s ≡ Some t
    → (entry_type g s ≡ Some t) × (f s ≡ true)
entry_kept f [] s t h = absurd (cc h)
entry_kept f (e ∷ g) s t h =
    decide (f e.slot)
    (λ passes.
    let found : entry_type (e ∷ keeping f g) s ≡ Some t = sym (ap (λ k. entry_type k s) (stays (λ d. f d.slot) e g passes)) ∙ h in
    decide (same_slot e.slot s)
    (λ same. (rw same (rw same at found), subst (λ r. f r ≡ true) (slot_is e.slot s same) passes))
    (λ other. let rest = entry_kept f g s t (rw other at found) in (rw other rest.0, rest.1)))
    (λ drops.
    let rest = entry_kept f g s t (sym (ap (λ k. entry_type k s) (goes (λ d. f d.slot) e g drops)) ∙ h) in
    decide (same_slot e.slot s)
    (λ same. absurd (fails (sym drops ∙ subst (λ r. f r ≡ true) (sym (slot_is e.slot s same)) rest.1)))
    (λ other. (rw other rest.0, rest.1)))

-- an entry that passes is kept
entry_stays : (f : Slot → Bool) (g : Context) (s : Slot) (t : TypeTree) → f s ≡ true → entry_type g s ≡ Some t
    → entry_type (keeping f g) s ≡ Some t
entry_stays f [] s t p h = absurd (cc h)
entry_stays f (e ∷ g) s t p h =
    decide (f e.slot)
    (λ passes.
    ap (λ k. entry_type k s) (stays (λ d. f d.slot) e g passes)
    ∙ decide (same_slot e.slot s)
    (λ same. rw same (rw same at h))
    (λ other. rw other (entry_stays f g s t p (rw other at h))))
    (λ drops.
    ap (λ k. entry_type k s) (goes (λ d. f d.slot) e g drops)
    ∙ decide (same_slot e.slot s)
    (λ same. absurd (fails (sym drops ∙ subst (λ r. f r ≡ true) (sym (slot_is e.slot s same)) p)))
    (λ other. entry_stays f g s t p (rw other at h)))

-- what has a type among the entries that are kept has it among all
pub kept_in : (f : Slot → Bool) (g : Context) (s : Slot) (t : TypeTree) → Has (keeping f g) s t → Has g s t
kept_in f g (named x) t h = (entry_kept f g (named x) t h).0
kept_in f g (valued (val.Qubit q)) t h = (entry_kept f g (valued (val.Qubit q)) t h).0
kept_in f g (valued (val.Chan c)) t h = (entry_kept f g (valued (val.Chan c)) t h).0
kept_in f g (valued v) t h = h

-- a slot that has a type among the entries that are kept passes the test
pub kept_passes : (f : Slot → Bool) (g : Context) (s : Slot) (t : TypeTree) → same_slot s s ≡ true → Has (keeping f g) s t → f s ≡ true
kept_passes f g (named x) t own h = (entry_kept f g (named x) t h).1
kept_passes f g (valued (val.Qubit q)) t own h = (entry_kept f g (valued (val.Qubit q)) t h).1
kept_passes f g (valued (val.Chan c)) t own h = (entry_kept f g (valued (val.Chan c)) t h).1
kept_passes f g (valued v) t own h = absurd (fails own)

-- a slot that passes the test keeps its type
pub kept : (f : Slot → Bool) (g : Context) (s : Slot) (t : TypeTree) → f s ≡ true → Has g s t → Has (keeping f g) s t
kept f g (named x) t p h = entry_stays f g (named x) t p h
kept f g (valued (val.Qubit q)) t p h = entry_stays f g (valued (val.Qubit q)) t p h
kept f g (valued (val.Chan c)) t p h = entry_stays f g (valued (val.Chan c)) t p h
kept f g (valued v) t p h = h
