-- A derivation leaves no failing node.
use Rattle.std.proofs.Common.{◌≡◌, suc, List, [], ◌∷◌, ◌++◌, length, Bool, true, false, ◌==◌, ◌&&◌, not, refl, sym, ◌∙◌, ap, ap₂, subst, None, cond}
use Rattle.std.specs.List.{list_all}
use Rattle.cqp_syntax.specs.TypeTrees.{TypeTree, TypeTrees, int_type, qbit_type, chan_type, type_and, same_type, same_types}
use Rattle.cqp_syntax.specs.Trees.{Slot, named, Expr, slot, sig, add, apply, measure, Binder, Process}
use Rattle.cqp_syntax.specs.Binders.{binders_of}
use Rattle.cqp_syntax.specs.Free.{same_slot, is_among, expr_slots, exprs_slots, free_slots}
use Rattle.cqp_types.specs.declared.kind.Kind.{Kind}
use Rattle.cqp_types.specs.declared.kind.Kind.TheVariants as kind
use Rattle.cqp_types.specs.Types.{count_of, types_of, carried}
use Rattle.cqp_types.specs.Contexts.{Context, type_in, Has, Splits, is_twice, bound_entry, binding, leaving}
use Rattle.cqp_types.specs.Derivations.{AreQubits, HasType, slot_, sig_, add_, apply_, measure_, sent, is_qbit, sent_under, Fits, no_argument, sent_name}
use Rattle.cqp_types.specs.Derivations.{other_argument, Derives, nil_, par_, new_, qbit_, act_, input_, output_, branch_}
use Rattle.cqp_types.specs.Faults.{Annotation, slot_type, form_type, is_int, is_qubit, first_kind, input_fault, form_types, others, meet, output_fault}
use Rattle.cqp_types.specs.Faults.{places_in, apply_fault, shares}
use Rattle.cqp_syntax.proofs.Bools.{fails, both, both_hold, decide, number_same}
use Rattle.cqp_types.proofs.FirstKinds.{first_none}
use Rattle.cqp_types.proofs.TypeTests.{qbit_test}
use Rattle.cqp_syntax.proofs.TypeTests.{type_is, types_same}
use Rattle.cqp_syntax.proofs.Slots.{slot_is, among_either, among_self, some_among}
use Rattle.cqp_types.proofs.ContextLaws.{one_type, qbit_self, has_name, has_below, kept_in, kept_passes}
use Rattle.cqp_types.proofs.Known.{Known, expr_known, free_known}
use Rattle.cqp_types.proofs.Relevance.{apart, sent_first}
use Rattle.cqp_types.proofs.Sent.{false_unless, sent_is}
use Rattle.cqp_types.proofs.Clean.{ExprClean, ExprsClean, ProcessClean, Annotates, front, back}

-- the context gives each slot the type that its form tells
abbrev pub Agrees : Context → Annotation → Type 0
Agrees g ty = (s : Slot) (t : TypeTree) → Has g s t → slot_type ty s ≡ t

module _ (ty : Annotation) where
  -- a context that agrees with the annotation agrees below binders of these types
  pub agrees_below : (bs : List Binder) (g : Context) → Annotates ty bs → Agrees g ty → Agrees (binding bs g) ty
  agrees_below [] g a k s t is = k s t is
  agrees_below (b ∷ bs) g a k s t is =
      decide (same_slot (named b.name) s)
      (λ e.
      let here = slot_is (named b.name) s e in
      let top : Has (binding (b ∷ bs) g) (named b.name) t = subst (λ r. Has (binding (b ∷ bs) g) r t) (sym here) is in
      ap (slot_type ty) (sym here) ∙ a.0 ∙ one_type (binding (b ∷ bs) g) (named b.name) b.ty t (has_name b (binding bs g)) top)
      (λ e. agrees_below bs g a.1 k s t (has_below (bound_entry b) (binding bs g) s t e is))

  -- a type by form is the type of a derivation
  pub form_is : (g : Context) {e : Expr} {t : TypeTree} → Agrees g ty → HasType g e t → form_type ty e ≡ t
  form_is g k (slot_ {s = s} {t = t} is) = k s t is
  form_is g k (sig_ d) = refl
  form_is g k (add_ a b) = refl
  form_is g k (apply_ twice qubits many d) = refl
  form_is g k (measure_ twice qubits) = refl

  -- what has type Int is a number by its form
  int_holds : (g : Context) (e : Expr) → Agrees g ty → HasType g e int_type → is_int ty e ≡ true
  int_holds g e k d = ap (λ t. same_type t int_type) (form_is g k d)

  -- what has type Qbit is a qubit by its form
  qubit_holds : (g : Context) (s : Slot) → Agrees g ty → Has g s qbit_type → is_qubit ty s ≡ true
  qubit_holds g s k is = ap (λ t. same_type t qbit_type) (k s qbit_type is)

  -- so are several
  qubits_hold : (g : Context) (qs : List Slot) → Agrees g ty → AreQubits g qs → list_all (is_qubit ty) qs ≡ true
  qubits_hold g [] k q = refl
  qubits_hold g (r ∷ qs) k q = both_hold (is_qubit ty r) (list_all (is_qubit ty) qs) (qubit_holds g r k q.0) (qubits_hold g qs k q.1)

  -- a condition that fails as its test holds
  passed : (b : Bool) (c : Kind) (cs : List (Bool × Kind)) → b ≡ true → first_kind cs ≡ None → first_kind ((not b, c) ∷ cs) ≡ None
  passed b c cs h n = first_none (not b) c cs (ap not h) n

  -- two operands of type Int make no fault
  numbers_clean : (g : Context) (e f : Expr) → Agrees g ty → HasType g e int_type → HasType g f int_type
      → first_kind ((not (is_int ty e && is_int ty f), kind.Mismatch) ∷ []) ≡ None
  numbers_clean g e f k a b =
      passed (is_int ty e && is_int ty f) kind.Mismatch [] (both_hold (is_int ty e) (is_int ty f) (int_holds g e k a) (int_holds g f k b)) refl

  -- no node of an expression that is typed fails
  pub expr_clean : (g : Context) {e : Expr} {t : TypeTree} → Agrees g ty → HasType g e t → ExprClean ty e
  expr_clean g k (slot_ is) = tt
  expr_clean g k (sig_ {e = e} d) = (passed (is_int ty e) kind.Mismatch [] (int_holds g e k d) refl, expr_clean g k d)
  expr_clean g k (add_ {e = e} {f = f} a b) = (numbers_clean g e f k a b, expr_clean g k a, expr_clean g k b)
  expr_clean g k (apply_ {qs = qs} {e = e} {n = n} twice qubits many d) = (
    ap (λ t. apply_fault ty qs (places_in t)) (form_is g k d)
        ∙ passed (list_all (is_qubit ty) qs) kind.Mismatch ((not (length qs == n), kind.Count) ∷ (is_twice qs, kind.OperandTwice) ∷ [])
        (qubits_hold g qs k qubits)
        (passed (length qs == n) kind.Count ((is_twice qs, kind.OperandTwice) ∷ []) (ap (λ m. length qs == m) many ∙ number_same (length qs))
        (first_none (is_twice qs) kind.OperandTwice [] twice refl)),
    expr_clean g k d,
  )
  expr_clean g k (measure_ {qs = qs} twice qubits) =
      passed (list_all (is_qubit ty) qs) kind.Mismatch ((is_twice qs, kind.OperandTwice) ∷ []) (qubits_hold g qs k qubits)
      (first_none (is_twice qs) kind.OperandTwice [] twice refl)

  -- arguments that fit
  count_fits : (g rest : Context) {es : List Expr} {ts : TypeTrees} → Fits g rest es ts → length es ≡ count_of ts
  count_fits g rest no_argument = refl
  count_fits g rest (sent_name is more) = ap suc (count_fits g rest more)
  count_fits g rest (other_argument other d more) = ap suc (count_fits g rest more)

  -- arguments that fit have by form the types that the channel carries
  types_fit : (g rest : Context) {es : List Expr} {ts : TypeTrees} → Agrees g ty → Agrees rest ty → Fits g rest es ts → form_types ty es ≡ ts
  types_fit g rest k m no_argument = refl
  types_fit g rest k m (sent_name {s = s} is more) = ap₂ type_and (k s qbit_type is) (types_fit g rest k m more)
  types_fit g rest k m (other_argument other d more) = ap₂ type_and (form_is rest m d) (types_fit g rest k m more)

  -- no node of arguments that fit fails
  args_clean : (g rest : Context) {es : List Expr} {ts : TypeTrees} → Agrees rest ty → Fits g rest es ts → ExprsClean ty es
  args_clean g rest m no_argument = tt
  args_clean g rest m (sent_name is more) = (tt, args_clean g rest m more)
  args_clean g rest m (other_argument other d more) = (expr_clean rest m d, args_clean g rest m more)

  -- a slot with a type is sent by its form where it is sent under the context
  one_test : (g : Context) (s : Slot) (t : TypeTree) → Agrees g ty → Has g s t → is_qubit ty s ≡ is_qbit (type_in g s)
  one_test g s t k is = ap (λ u. same_type u qbit_type) (k s t is) ∙ sym (qbit_test t) ∙ ap is_qbit (sym is)

  -- an argument that is typed is sent by form where it is sent under the context
  one_form : (g rest : Context) (e : Expr) (t : TypeTree) → Agrees g ty → ((s : Slot) (u : TypeTree) → Has rest s u → Has g s u)
      → HasType rest e t → sent (is_qubit ty) (e ∷ []) ≡ sent_under g (e ∷ [])
  one_form g rest (slot s) t k sub (slot_ is) = ap (λ b. cond b (s ∷ []) []) (one_test g s t k (sub s t is))
  one_form g rest (sig e) t k sub d = refl
  one_form g rest (add e f) t k sub d = refl
  one_form g rest (apply qs e) t k sub d = refl
  one_form g rest (measure qs) t k sub d = refl

  -- so are several
  form_sent : (g rest : Context) {es : List Expr} {ts : TypeTrees} → Agrees g ty → ((s : Slot) (u : TypeTree) → Has rest s u → Has g s u)
      → Fits g rest es ts → sent (is_qubit ty) es ≡ sent_under g es
  form_sent g rest k sub no_argument = refl
  form_sent g rest k sub (sent_name {s = s} {es = es} is more) =
      ap (λ b. cond b (s ∷ sent (is_qubit ty) es) (sent (is_qubit ty) es)) (one_test g s qbit_type k is)
      ∙ ap (λ ss. cond (is_qbit (type_in g s)) (s ∷ ss) ss) (form_sent g rest k sub more)
  form_sent g rest k sub (other_argument {e = e} {t = t} {es = es} other d more) =
      sent_first (is_qubit ty) e es
      ∙ ap (λ ss. ss ++ sent (is_qubit ty) es) (one_form g rest e t k sub d)
      ∙ ap (λ ss. sent_under g (e ∷ []) ++ ss) (form_sent g rest k sub more)
      ∙ sym (sent_first _ e es)

  -- a slot of the other arguments has a type in the context without the sent names
  others_known : (g rest : Context) (s : Slot) {es : List Expr} {ts : TypeTrees} → Agrees g ty → Fits g rest es ts
      → is_among s (exprs_slots (others ty es)) ≡ true → Known rest s
  others_known g rest s k no_argument h = absurd (fails h)
  others_known g rest s k (sent_name {s = r} {es = es} is more) h =
      others_known g rest s k more (subst (λ b. is_among s (exprs_slots (cond b (others ty es) (slot r ∷ others ty es))) ≡ true) (qubit_holds g r k is) h)
  others_known g rest s k (other_argument {e = e} {es = es} other d more) h = go (λ i. others_known g rest s k more i) e d h
    where
      split : (is_among s (exprs_slots (others ty es)) ≡ true → Known rest s) → (f : Expr) {t : TypeTree} → HasType rest f t
          → is_among s (exprs_slots (f ∷ others ty es)) ≡ true → Known rest s
      split m f d i = among_either s (expr_slots f) (exprs_slots (others ty es)) i (λ j. expr_known rest s d j) m

      slots : (is_among s (exprs_slots (others ty es)) ≡ true → Known rest s) → (r : Slot) {t : TypeTree} → HasType rest (slot r) t → (b : Bool)
          → is_among s (exprs_slots (cond b (others ty es) (slot r ∷ others ty es))) ≡ true → Known rest s
      slots m r d true i = m i
      slots m r d false i = split m (slot r) d i

      go : (is_among s (exprs_slots (others ty es)) ≡ true → Known rest s) → (f : Expr) {t : TypeTree} → HasType rest f t
          → is_among s (exprs_slots (others ty (f ∷ es))) ≡ true → Known rest s
      go m (slot r) d i = slots m r d (is_qubit ty r) i
      go m (sig f) d i = split m (sig f) d i
      go m (add e f) d i = split m (add e f) d i
      go m (apply qs f) d i = split m (apply qs f) d i
      go m (measure qs) d i = split m (measure qs) d i

  -- no sent name is known without the sent names
  sent_unknown : (g : Context) (es : List Expr) (s : Slot) → is_among s (sent_under g es) ≡ true → Known (leaving (sent_under g es) g) s → ⊥
  sent_unknown g es s i (t, is) =
      let qubit = sent_is g es s i in
      fails (sym (ap not i) ∙ kept_passes _ g s t (qbit_self g s qubit) is)

  -- no sent name is free in another argument or behind the output
  not_met : (g : Context) (es : List Expr) (ts : TypeTrees) (p : Process) → Agrees g ty
      → Fits g (leaving (sent_under g es) g) es ts → Derives (leaving (sent_under g es) g) p
      → meet (sent_under g es) (exprs_slots (others ty es) ++ free_slots p) ≡ false
  not_met g es ts p k fits d =
      let used = exprs_slots (others ty es) ++ free_slots p in
      false_unless (meet (sent_under g es) used)
      (λ h. some_among (λ s. is_among s used) (sent_under g es) (λ s m. among_self s used m) h
      (λ s i m. among_either s (exprs_slots (others ty es)) (free_slots p) m
      (λ j. sent_unknown g es s i (others_known g (leaving (sent_under g es) g) s k fits j))
      (λ j. sent_unknown g es s i (free_known (leaving (sent_under g es) g) s d j))))

  -- an output that is typed does not fail
  output_clean : (g : Context) (c : Slot) (es : List Expr) (ts : TypeTrees) (p : Process) → Agrees g ty → Has g c (chan_type ts)
      → is_twice (sent_under g es) ≡ false → Fits g (leaving (sent_under g es) g) es ts → Derives (leaving (sent_under g es) g) p
      → output_fault ty (carried (slot_type ty c)) es p ≡ None
  output_clean g c es ts p k is twice fits d =
      let sub = λ (s : Slot) (u : TypeTree) (has : Has (leaving (sent_under g es) g) s u). kept_in _ g s u has in
      let rest_agrees : Agrees (leaving (sent_under g es) g) ty = λ s t has. k s t (sub s t has) in
      let same = sym (form_sent g (leaving (sent_under g es) g) k sub fits) in
      let used = exprs_slots (others ty es) ++ free_slots p in
      let qubits = sent (is_qubit ty) es in
      let last : List (Bool × Kind) = (meet qubits used, kind.SentAndUsed) ∷ [] in
      let second : List (Bool × Kind) = (is_twice qubits, kind.OperandTwice) ∷ last in
      let third : List (Bool × Kind) = (not (same_types (form_types ty es) ts), kind.Mismatch) ∷ second in
      ap (λ t. output_fault ty (carried t) es p) (k c (chan_type ts) is)
      ∙ passed (length es == count_of ts) kind.Count third (ap (λ n. length es == n) (sym (count_fits g _ fits)) ∙ number_same (length es))
      (passed (same_types (form_types ty es) ts) kind.Mismatch second
      (ap (λ us. same_types us ts) (types_fit g _ k rest_agrees fits) ∙ types_same ts)
      (first_none (is_twice qubits) kind.OperandTwice last (subst (λ ss. is_twice ss ≡ false) same twice)
      (first_none (meet qubits used) kind.SentAndUsed []
      (subst (λ ss. meet ss used ≡ false) same (not_met g es ts p k fits d)) refl)))

  -- no qubit is free on both sides of what is derived
  par_clean : (g l r : Context) (p q : Process) → Agrees g ty → Splits g l r → Derives l p → Derives r q → shares ty p q ≡ false
  par_clean g l r p q k splits a b =
      false_unless (shares ty p q)
      (λ h. some_among (λ s. is_qubit ty s && is_among s (free_slots q)) (free_slots p)
      (λ s m. among_self s (free_slots q) (both (is_qubit ty s) (is_among s (free_slots q)) m).1) h
      (λ s i m.
      let parts = both (is_qubit ty s) (is_among s (free_slots q)) m in
      let (t, left) = free_known l s a i in
      let is : slot_type ty s ≡ t = k s t (splits.left_in s t left) in
      let qubit : t ≡ qbit_type = sym is ∙ type_is (slot_type ty s) qbit_type parts.0 in
      apart g g l r p q splits a b (λ s t i is. is) s i parts.1 (splits.left_in s qbit_type (subst (λ u. Has l s u) qubit left))))

  -- no node of a process that is typed fails
  pub process_clean : (g : Context) {p : Process} → Agrees g ty → Annotates ty (binders_of p) → Derives g p → ProcessClean ty p
  process_clean g k a nil_ = tt
  process_clean g k a (par_ {left = l} {right = r} {p = p} {q = q} splits d e) = (
    first_none (shares ty p q) kind.SplitTwice [] (par_clean g l r p q k splits d e) refl,
    process_clean l (λ s t is. k s t (splits.left_in s t is)) (front ty (binders_of p) (binders_of q) a) d,
    process_clean r (λ s t is. k s t (splits.right_in s t is)) (back ty (binders_of p) (binders_of q) a) e,
  )
  process_clean g k a (new_ {x = x} {ts = ts} d) =
      (refl, process_clean _ (agrees_below (record { name = x; ty = chan_type ts } ∷ []) g (a.0, tt) k) a.1 d)
  process_clean g k a (qbit_ {x = x} d) = process_clean _ (agrees_below (record { name = x; ty = qbit_type } ∷ []) g (a.0, tt) k) a.1 d
  process_clean g k a (act_ t d) = (expr_clean g k t, process_clean g k a d)
  process_clean g k a (input_ {c = c} {bs = bs} {p = p} is d) = (
    ap (λ t. input_fault (carried t) bs) (k c (chan_type (types_of bs)) is)
        ∙ passed (length bs == count_of (types_of bs)) kind.Count ((not (same_types (types_of bs) (types_of bs)), kind.Mismatch) ∷ [])
        (ap (λ n. length bs == n) (sym (count_types bs)) ∙ number_same (length bs))
        (passed (same_types (types_of bs) (types_of bs)) kind.Mismatch [] (types_same (types_of bs)) refl),
    process_clean _ (agrees_below bs g (front ty bs (binders_of p) a) k) (back ty bs (binders_of p) a) d,
  )
    where
      count_types : (bs : List Binder) → length bs ≡ count_of (types_of bs)
      count_types [] = refl
      count_types (b ∷ bs) = ap suc (count_types bs)
  process_clean g k a (output_ {c = c} {es = es} {ts = ts} {p = p} is twice fits d) =
      let rest_agrees : Agrees (leaving (sent_under g es) g) ty = λ s t has. k s t (kept_in _ g s t has) in
      (output_clean g c es ts p k is twice fits d, args_clean g _ rest_agrees fits, process_clean _ rest_agrees a d)
  process_clean g k a (branch_ {e = e} {f = f} {p = p} {q = q} t u d c) = (
    numbers_clean g e f k t u,
    expr_clean g k t,
    expr_clean g k u,
    process_clean g k (front ty (binders_of p) (binders_of q) a) d,
    process_clean g k (back ty (binders_of p) (binders_of q) a) c,
  )
