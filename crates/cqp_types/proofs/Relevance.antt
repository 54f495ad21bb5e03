-- A derivation needs only the types of what is free: entries may be added, and entries that nothing
-- uses may be dropped.
use Rattle.std.proofs.Common.{◌≡◌, List, [], ◌∷◌, ◌++◌, Bool, true, false, not, refl, sym, ◌∙◌, ap, subst, cond}
use Rattle.cqp_syntax.specs.TypeTrees.{TypeTree, TypeTrees, qbit_type, chan_type}
use Rattle.cqp_syntax.specs.Trees.{Slot, Expr, slot, sig, add, apply, measure, Binder, Process}
use Rattle.cqp_syntax.specs.Free.{same_slot, is_among, except, expr_slots, exprs_slots, bound_slots, free_slots}
use Rattle.cqp_types.specs.Contexts.{Context, type_in, Has, Splits, is_twice, binding, leaving}
use Rattle.cqp_types.specs.Derivations.{AreQubits, HasType, slot_, sig_, add_, apply_, measure_, sent, is_qbit, sent_under, Fits, no_argument, sent_name}
use Rattle.cqp_types.specs.Derivations.{other_argument, Derives, nil_, par_, new_, qbit_, act_, input_, output_, branch_}
use Rattle.cqp_types.specs.Laws.{IsWithin, AreApart}
use Rattle.cqp_syntax.proofs.Bools.{or_left, or_right, decide}
use Rattle.cqp_syntax.proofs.Slots.{among_self, among_left, among_right, stays_among}
use Rattle.cqp_types.proofs.ContextLaws.{one_type, moves, above_all, below_all, bound_same, kept, kept_in, kept_passes, keeping}
use Rattle.cqp_types.proofs.Known.{free_known}
use Rattle.cqp_types.proofs.Divided.{divides, goes_left, goes_right}

-- each of these slots has under h the type that it has under g
abbrev pub Keeps : Context → Context → List Slot → Type 0
Keeps g h ss = (s : Slot) (t : TypeTree) → is_among s ss ≡ true → Has g s t → Has h s t

module _ (g h : Context) where
  -- slots of two lists keep their types on the left
  pub keeps_left : (rs ss : List Slot) → Keeps g h (rs ++ ss) → Keeps g h rs
  keeps_left rs ss k s t i = k s t (among_left s rs ss i)

  -- and on the right
  pub keeps_right : (rs ss : List Slot) → Keeps g h (rs ++ ss) → Keeps g h ss
  keeps_right rs ss k s t i = k s t (among_right s rs ss i)

  -- the first of slots that keep their types keeps its type
  pub keeps_head : (r : Slot) (ss : List Slot) (t : TypeTree) → Keeps g h (r ∷ ss) → Has g r t → Has h r t
  keeps_head r ss t k is = moves g h r t (λ own. k r t (or_left (same_slot r r) (is_among r ss) own) is) is

  -- and so do the others
  pub keeps_tail : (r : Slot) (ss : List Slot) → Keeps g h (r ∷ ss) → Keeps g h ss
  keeps_tail r ss k s t i = k s t (or_right (same_slot s r) (is_among s ss) i)

  -- below binders
  pub keeps_below : (bs : List Binder) (ss : List Slot) → Keeps g h (except (bound_slots bs) ss) → Keeps (binding bs g) (binding bs h) ss
  keeps_below bs ss k s t i is =
      decide (is_among s (bound_slots bs))
      (λ e. bound_same bs g h s t e is)
      (λ e. above_all bs h s t e (k s t (stays_among s (bound_slots bs) ss e i) (below_all bs g s t e is)))

  -- without some slots
  pub keeps_leaving : (taken ss : List Slot) → Keeps g h ss → Keeps (leaving taken g) (leaving taken h) ss
  keeps_leaving taken ss k s t i is =
      kept _ h s t (kept_passes _ g s t (among_self s ss i) is) (k s t i (kept_in _ g s t is))

-- expressions
pub qubits_kept : (g h : Context) (qs : List Slot) → Keeps g h qs → AreQubits g qs → AreQubits h qs
qubits_kept g h [] k q = tt
qubits_kept g h (r ∷ qs) k q = (keeps_head g h r qs qbit_type k q.0, qubits_kept g h qs (keeps_tail g h r qs k) q.1)

-- an expression whose slots keep their types keeps its type
pub expr_kept : (g h : Context) {e : Expr} {t : TypeTree} → Keeps g h (expr_slots e) → HasType g e t → HasType h e t
expr_kept g h k (slot_ {s = s} {t = t} is) = slot_ (keeps_head g h s [] t k is)
expr_kept g h k (sig_ d) = sig_ (expr_kept g h k d)
expr_kept g h k (add_ {e = e} {f = f} a b) =
    add_ (expr_kept g h (keeps_left g h (expr_slots e) (expr_slots f) k) a) (expr_kept g h (keeps_right g h (expr_slots e) (expr_slots f) k) b)
expr_kept g h k (apply_ {qs = qs} {e = e} twice qubits many d) =
    apply_ twice (qubits_kept g h qs (keeps_left g h qs (expr_slots e) k) qubits) many (expr_kept g h (keeps_right g h qs (expr_slots e) k) d)
expr_kept g h k (measure_ {qs = qs} twice qubits) = measure_ twice (qubits_kept g h qs k qubits)

-- two contexts send the same of an argument that has one type in both
pub one_sent : (g h : Context) (e : Expr) (rest : Context) (t : TypeTree) → HasType rest e t
    → ((s : Slot) (u : TypeTree) → Has rest s u → Has g s u) → Keeps g h (expr_slots e)
    → sent_under h (e ∷ []) ≡ sent_under g (e ∷ [])
one_sent g h (slot s) rest t (slot_ {t = u} is) sub k =
    let old = sub s u is in let now = keeps_head g h s [] u k old in
    ap (λ o. cond (is_qbit o) (s ∷ []) []) (now ∙ sym old)
one_sent g h (sig e) rest t d sub k = refl
one_sent g h (add e f) rest t d sub k = refl
one_sent g h (apply qs e) rest t d sub k = refl
one_sent g h (measure qs) rest t d sub k = refl

-- what is sent first, and then the rest
pub sent_first : (f : Slot → Bool) (e : Expr) (es : List Expr) → sent f (e ∷ es) ≡ sent f (e ∷ []) ++ sent f es
sent_first f (slot s) es = go (f s)
  where
    go : (b : Bool) → cond b (s ∷ sent f es) (sent f es) ≡ cond b (s ∷ []) [] ++ sent f es
    go true = refl
    go false = refl
sent_first f (sig e) es = refl
sent_first f (add e g) es = refl
sent_first f (apply qs e) es = refl
sent_first f (measure qs) es = refl

-- the same is sent where the slots of the arguments keep their types
pub sent_same : (g h rest : Context) {es : List Expr} {ts : TypeTrees} → ((s : Slot) (u : TypeTree) → Has rest s u → Has g s u)
    → Keeps g h (exprs_slots es) → Fits g rest es ts → sent_under h es ≡ sent_under g es
sent_same g h rest sub k no_argument = refl
sent_same g h rest sub k (sent_name {s = s} {es = es} is more) =
    let now = keeps_head g h s (exprs_slots es) qbit_type k is in
    ap (λ o. cond (is_qbit o) (s ∷ sent_under h es) (sent_under h es)) (now ∙ sym is)
    ∙ ap (λ ss. cond (is_qbit (type_in g s)) (s ∷ ss) ss) (sent_same g h rest sub (keeps_tail g h s (exprs_slots es) k) more)
sent_same g h rest sub k (other_argument {e = e} {t = t} {es = es} other d more) =
    sent_first _ e es
    ∙ ap (λ ss. ss ++ sent_under h es) (one_sent g h e rest t d sub (keeps_left g h (expr_slots e) (exprs_slots es) k))
    ∙ ap (λ ss. sent_under g (e ∷ []) ++ ss) (sent_same g h rest sub (keeps_right g h (expr_slots e) (exprs_slots es) k) more)
    ∙ sym (sent_first _ e es)

-- arguments that fit fit where their slots keep their types
pub fits_kept : (g h rest left : Context) {es : List Expr} {ts : TypeTrees} → ((s : Slot) (u : TypeTree) → Has rest s u → Has g s u)
    → Keeps g h (exprs_slots es) → Keeps rest left (exprs_slots es) → Fits g rest es ts → Fits h left es ts
fits_kept g h rest left sub k m no_argument = no_argument
fits_kept g h rest left sub k m (sent_name {s = s} {es = es} is more) =
    sent_name (keeps_head g h s (exprs_slots es) qbit_type k is)
    (fits_kept g h rest left sub (keeps_tail g h s (exprs_slots es) k) (keeps_tail rest left s (exprs_slots es) m) more)
fits_kept g h rest left sub k m (other_argument {e = e} {t = t} {es = es} other d more) =
    other_argument
    (one_sent g h e rest t d sub (keeps_left g h (expr_slots e) (exprs_slots es) k) ∙ other)
    (expr_kept rest left (keeps_left rest left (expr_slots e) (exprs_slots es) m) d)
    (fits_kept g h rest left sub (keeps_right g h (expr_slots e) (exprs_slots es) k) (keeps_right rest left (expr_slots e) (exprs_slots es) m) more)

-- no qubit of a divided context is free on both sides, and so none of another that keeps its types
pub apart : (g h l r : Context) (p q : Process) → Splits g l r → Derives l p → Derives r q → Keeps g h (free_slots p ++ free_slots q)
    → (s : Slot) → is_among s (free_slots p) ≡ true → is_among s (free_slots q) ≡ true → Has h s qbit_type → ⊥
apart g h l r p q splits a b k s i j is =
    let (t, left) = free_known l s a i in
    let (u, right) = free_known r s b j in
    let t_is = one_type h s t qbit_type (k s t (among_left s (free_slots p) (free_slots q) i) (splits.left_in s t left)) is in
    let u_is = one_type h s u qbit_type (k s u (among_left s (free_slots p) (free_slots q) i) (splits.right_in s u right)) is in
    splits.once s (subst (λ w. Has l s w) t_is left) (subst (λ w. Has r s w) u_is right)

-- processes
pub process_kept : (g h : Context) {p : Process} → Keeps g h (free_slots p) → Derives g p → Derives h p
process_kept g h k nil_ = nil_
process_kept g h k (par_ {left = l} {right = r} {p = p} {q = q} splits a b) =
    let ps = free_slots p in
    let qs = free_slots q in
    par_ (divides h ps qs (apart g h l r p q splits a b k))
    (process_kept l (keeping (goes_left h ps qs) h)
    (λ s t i is. kept (goes_left h ps qs) h s t (or_left (is_among s ps) (not (is_among s qs)) i) (k s t (among_left s ps qs i) (splits.left_in s t is))) a)
    (process_kept r (keeping (goes_right h ps qs) h)
    (λ s t i is. kept (goes_right h ps qs) h s t i (k s t (among_right s ps qs i) (splits.right_in s t is))) b)
process_kept g h k (new_ {x = x} {ts = ts} {p = p} d) =
    new_ (process_kept _ _ (keeps_below g h (record { name = x; ty = chan_type ts } ∷ []) (free_slots p) k) d)
process_kept g h k (qbit_ {x = x} {p = p} d) =
    qbit_ (process_kept _ _ (keeps_below g h (record { name = x; ty = qbit_type } ∷ []) (free_slots p) k) d)
process_kept g h k (act_ {e = e} {p = p} t d) =
    act_ (expr_kept g h (keeps_left g h (expr_slots e) (free_slots p) k) t) (process_kept g h (keeps_right g h (expr_slots e) (free_slots p) k) d)
process_kept g h k (input_ {c = c} {bs = bs} {p = p} is d) =
    input_ (keeps_head g h c (except (bound_slots bs) (free_slots p)) _ k is)
    (process_kept _ _ (keeps_below g h bs (free_slots p) (keeps_tail g h c (except (bound_slots bs) (free_slots p)) k)) d)
process_kept g h k (output_ {c = c} {es = es} {ts = ts} {p = p} is twice fits d) =
    let taken = sent_under g es in
    let tail = keeps_tail g h c (exprs_slots es ++ free_slots p) k in
    let args = keeps_left g h (exprs_slots es) (free_slots p) tail in
    let sub = λ (s : Slot) (u : TypeTree) (has : Has (leaving taken g) s u). kept_in _ g s u has in
    let same = sym (sent_same g h (leaving taken g) sub args fits) in
    output_ (keeps_head g h c (exprs_slots es ++ free_slots p) _ k is)
    (subst (λ ss. is_twice ss ≡ false) same twice)
    (subst (λ ss. Fits h (leaving ss h) es ts) same (fits_kept g h (leaving taken g) (leaving taken h) sub args
    (keeps_leaving g h taken (exprs_slots es) args) fits))
    (subst (λ ss. Derives (leaving ss h) p) same (process_kept (leaving taken g) (leaving taken h)
    (keeps_leaving g h taken (free_slots p) (keeps_right g h (exprs_slots es) (free_slots p) tail)) d))
process_kept g h k (branch_ {e = e} {f = f} {p = p} {q = q} a b c d) =
    let more = keeps_right g h (expr_slots e) (expr_slots f ++ (free_slots p ++ free_slots q)) k in
    let bodies = keeps_right g h (expr_slots f) (free_slots p ++ free_slots q) more in
    branch_ (expr_kept g h (keeps_left g h (expr_slots e) (expr_slots f ++ (free_slots p ++ free_slots q)) k) a)
    (expr_kept g h (keeps_left g h (expr_slots f) (free_slots p ++ free_slots q) more) b)
    (process_kept g h (keeps_left g h (free_slots p) (free_slots q) bodies) c)
    (process_kept g h (keeps_right g h (free_slots p) (free_slots q) bodies) d)

-- weakening: entries may be added, for an expression
pub expr_weakened : (g h : Context) {e : Expr} {t : TypeTree} → IsWithin g h → HasType g e t → HasType h e t
expr_weakened g h more d = expr_kept g h (λ s t i is. more s t is) d

-- and for a process
pub weakened : (g h : Context) {p : Process} → IsWithin g h → Derives g p → Derives h p
weakened g h more d = process_kept g h (λ s t i is. more s t is) d

-- slots apart from those that are taken keep their types
keeps_apart : (g : Context) (taken ss : List Slot) → AreApart taken ss → Keeps g (leaving taken g) ss
keeps_apart g taken ss unused s t i is = kept _ g s t (subst (λ b. not b ≡ true) (sym (unused s i)) refl) is

-- strengthening: entries of slots that are not free may be left out, for an expression
pub expr_strengthened : (g : Context) (taken : List Slot) {e : Expr} {t : TypeTree} → AreApart taken (expr_slots e)
    → HasType g e t → HasType (leaving taken g) e t
expr_strengthened g taken {e = e} unused d = expr_kept g (leaving taken g) (keeps_apart g taken (expr_slots e) unused) d

-- and for a process
pub strengthened : (g : Context) (taken : List Slot) {p : Process} → AreApart taken (free_slots p)
    → Derives g p → Derives (leaving taken g) p
strengthened g taken {p = p} unused d = process_kept g (leaving taken g) (keeps_apart g taken (free_slots p) unused) d
