-- A process of which no node fails is typed.
use Rattle.std.proofs.Common.{◌≡◌, ℕ, List, [], ◌∷◌, ◌++◌, length, Bool, true, false, ◌==◌, ◌&&◌, not, refl, sym, ◌∙◌, ap, subst, None, cond}
use Rattle.cqp_syntax.specs.declared.val.Val.TheVariants as val
use Rattle.cqp_syntax.specs.TypeTrees.{TypeTree, TypeTrees, int_type, unit_type, qbit_type, op_type, chan_type, no_types, type_and, same_type, same_types}
use Rattle.cqp_syntax.specs.Trees.{Slot, Expr, slot, sig, add, apply, measure, Binder, Process, nil, par, new, qbit, act, input, output, branch}
use Rattle.cqp_syntax.specs.Binders.{binders_of}
use Rattle.cqp_syntax.specs.Free.{same_slot, is_among, except, expr_slots, exprs_slots, bound_slots, free_slots}
use Rattle.cqp_types.specs.declared.kind.Kind.{Kind}
use Rattle.cqp_types.specs.declared.kind.Kind.TheVariants as kind
use Rattle.cqp_types.specs.Types.{count_of, types_of, carried}
use Rattle.cqp_types.specs.Contexts.{Context, type_in, Has, is_twice, binding, leaving}
use Rattle.cqp_types.specs.Derivations.{HasType, sent, is_qbit, sent_under, Fits, no_argument, sent_name, other_argument, Derives, nil_, par_, new_, qbit_}
use Rattle.cqp_types.specs.Derivations.{act_, input_, output_, branch_}
use Rattle.cqp_types.specs.Faults.{Annotation, slot_type, form_type, is_int, is_qubit, new_fault, input_fault, form_types, others, meet, output_fault, shares}
use Rattle.cqp_syntax.proofs.Bools.{fails, both, both_hold, either, or_left, not_false, decide}
use Rattle.cqp_types.proofs.FirstKinds.{none_first}
use Rattle.cqp_types.proofs.TypeTests.{qbit_test}
use Rattle.cqp_syntax.proofs.TypeTests.{type_is, types_are}
use Rattle.cqp_syntax.proofs.Slots.{among_left, among_right, none_among, wider, other_among}
use Rattle.cqp_types.proofs.ContextLaws.{one_type, kept}
use Rattle.cqp_types.proofs.Divided.{divides, goes_left, goes_right}
use Rattle.cqp_types.proofs.Clean.{ExprClean, ExprsClean, ProcessClean, Annotates, front, back}
use Rattle.cqp_types.proofs.TypedExprs.{Typed, typed_left, typed_right, typed_head, typed_tail, typed_below, qubit_is, int_typed, expr_typed}

module _ (ty : Annotation) where
  -- what is sent by form is sent under the context
  one_test : (g : Context) (s : Slot) → Has g s (slot_type ty s) → is_qbit (type_in g s) ≡ is_qubit ty s
  one_test g s is = ap is_qbit is ∙ qbit_test (slot_type ty s)

  -- what is sent by form is what is sent under the context
  sent_forms : (g : Context) (es : List Expr) → Typed ty g (exprs_slots es) → sent_under g es ≡ sent (is_qubit ty) es
  sent_forms g [] k = refl
  sent_forms g (slot s ∷ es) k =
      ap (λ b. cond b (s ∷ sent_under g es) (sent_under g es)) (one_test g s (typed_head ty g s (exprs_slots es) k))
      ∙ ap (λ ss. cond (is_qubit ty s) (s ∷ ss) ss) (sent_forms g es (typed_tail ty g s (exprs_slots es) k))
  sent_forms g (sig e ∷ es) k = sent_forms g es (typed_right ty g (expr_slots e) (exprs_slots es) k)
  sent_forms g (add e f ∷ es) k = sent_forms g es (typed_right ty g (expr_slots (add e f)) (exprs_slots es) k)
  sent_forms g (apply qs e ∷ es) k = sent_forms g es (typed_right ty g (expr_slots (apply qs e)) (exprs_slots es) k)
  sent_forms g (measure qs ∷ es) k = sent_forms g es (typed_right ty g qs (exprs_slots es) k)

  -- arguments that are no sent names
  other_fits : (g rest : Context) (e : Expr) (es : List Expr) (t : TypeTree) (ts : TypeTrees) → sent_under g (e ∷ []) ≡ []
      → same_type (form_type ty e) t ≡ true → ExprClean ty e → Typed ty rest (expr_slots e) → Fits g rest es ts → Fits g rest (e ∷ es) (type_and t ts)
  other_fits g rest e es t ts other same c k more =
      other_argument other (subst (λ u. HasType rest e u) (type_is (form_type ty e) t same) (expr_typed ty rest e k c)) more

  -- arguments of the right types by form fit the channel
  fits_forms : (g rest : Context) (es : List Expr) (ts : TypeTrees) → same_types (form_types ty es) ts ≡ true → ExprsClean ty es
      → Typed ty g (exprs_slots es) → Typed ty rest (exprs_slots (others ty es)) → Fits g rest es ts
  fits_forms g rest [] no_types same c k m = no_argument
  fits_forms g rest [] (type_and t ts) same c k m = absurd (fails same)
  fits_forms g rest (e ∷ es) no_types same c k m = absurd (fails same)
  fits_forms g rest (slot s ∷ es) (type_and t ts) same c k m =
      let parts = both (same_type (slot_type ty s) t) (same_types (form_types ty es) ts) same in
      let here = typed_head ty g s (exprs_slots es) k in
      decide (is_qubit ty s)
      (λ q.
      let t_is = sym (type_is (slot_type ty s) qbit_type q) ∙ type_is (slot_type ty s) t parts.0 in
      subst (λ u. Fits g rest (slot s ∷ es) (type_and u ts)) t_is
      (sent_name (qubit_is ty g s here q)
      (fits_forms g rest es ts parts.1 c.1 (typed_tail ty g s (exprs_slots es) k)
      (subst (λ b. Typed ty rest (exprs_slots (cond b (others ty es) (slot s ∷ others ty es)))) q m))))
      (λ q.
      let left = subst (λ b. Typed ty rest (exprs_slots (cond b (others ty es) (slot s ∷ others ty es)))) q m in
      other_fits g rest (slot s) es t ts (ap (λ b. cond b (s ∷ []) []) (one_test g s here ∙ q)) parts.0 c.0
      (typed_left ty rest (s ∷ []) (exprs_slots (others ty es)) left)
      (fits_forms g rest es ts parts.1 c.1 (typed_tail ty g s (exprs_slots es) k) (typed_right ty rest (s ∷ []) (exprs_slots (others ty es)) left)))
  fits_forms g rest (sig e ∷ es) (type_and t ts) same c k m =
      let parts = both (same_type (op_type 1) t) (same_types (form_types ty es) ts) same in
      other_fits g rest (sig e) es t ts refl parts.0 c.0 (typed_left ty rest (expr_slots e) (exprs_slots (others ty es)) m)
      (fits_forms g rest es ts parts.1 c.1 (typed_right ty g (expr_slots e) (exprs_slots es) k)
      (typed_right ty rest (expr_slots e) (exprs_slots (others ty es)) m))
  fits_forms g rest (add e f ∷ es) (type_and t ts) same c k m =
      let ss = expr_slots (add e f) in
      let parts = both (same_type int_type t) (same_types (form_types ty es) ts) same in
      other_fits g rest (add e f) es t ts refl parts.0 c.0 (typed_left ty rest ss (exprs_slots (others ty es)) m)
      (fits_forms g rest es ts parts.1 c.1 (typed_right ty g ss (exprs_slots es) k) (typed_right ty rest ss (exprs_slots (others ty es)) m))
  fits_forms g rest (apply qs e ∷ es) (type_and t ts) same c k m =
      let ss = expr_slots (apply qs e) in
      let parts = both (same_type unit_type t) (same_types (form_types ty es) ts) same in
      other_fits g rest (apply qs e) es t ts refl parts.0 c.0 (typed_left ty rest ss (exprs_slots (others ty es)) m)
      (fits_forms g rest es ts parts.1 c.1 (typed_right ty g ss (exprs_slots es) k) (typed_right ty rest ss (exprs_slots (others ty es)) m))
  fits_forms g rest (measure qs ∷ es) (type_and t ts) same c k m =
      let parts = both (same_type int_type t) (same_types (form_types ty es) ts) same in
      other_fits g rest (measure qs) es t ts refl parts.0 c.0 (typed_left ty rest qs (exprs_slots (others ty es)) m)
      (fits_forms g rest es ts parts.1 c.1 (typed_right ty g qs (exprs_slots es) k) (typed_right ty rest qs (exprs_slots (others ty es)) m))

  -- the slots of the other arguments are slots of the arguments
  others_among : (s : Slot) (es : List Expr) → is_among s (exprs_slots (others ty es)) ≡ true → is_among s (exprs_slots es) ≡ true
  others_among s [] i = i
  others_among s (slot r ∷ es) i = go (λ j. others_among s es j) (is_qubit ty r) i
    where
      go : (is_among s (exprs_slots (others ty es)) ≡ true → is_among s (exprs_slots es) ≡ true) → (b : Bool)
          → is_among s (exprs_slots (cond b (others ty es) (slot r ∷ others ty es))) ≡ true → is_among s (r ∷ exprs_slots es) ≡ true
      go more true i = among_right s (r ∷ []) (exprs_slots es) (more i)
      go more false i =
          either (same_slot s r) (is_among s (exprs_slots (others ty es))) i
          (λ e. or_left (same_slot s r) (is_among s (exprs_slots es)) e)
          (λ j. among_right s (r ∷ []) (exprs_slots es) (more j))
  others_among s (sig e ∷ es) i = other_among s (expr_slots e) (exprs_slots (others ty es)) (exprs_slots es) (λ j. others_among s es j) i
  others_among s (add e f ∷ es) i = other_among s (expr_slots (add e f)) (exprs_slots (others ty es)) (exprs_slots es) (λ j. others_among s es j) i
  others_among s (apply qs e ∷ es) i = other_among s (expr_slots (apply qs e)) (exprs_slots (others ty es)) (exprs_slots es) (λ j. others_among s es j) i
  others_among s (measure qs ∷ es) i = other_among s qs (exprs_slots (others ty es)) (exprs_slots es) (λ j. others_among s es j) i

  -- without what is sent, what doesn't meet it keeps its type
  typed_leaving : (g : Context) (taken ss : List Slot) → meet taken ss ≡ false → Typed ty g ss → Typed ty (leaving taken g) ss
  typed_leaving g taken ss apart k s i =
      kept _ g s (slot_type ty s)
      (decide (is_among s taken)
      (λ e. absurd (fails (sym (none_among (λ r. is_among r ss) s taken apart e) ∙ i)))
      (λ e. subst (λ b. not b ≡ true) (sym e) refl))
      (k s i)

  -- an output that does not fail is typed, where its body is
  output_typed : (g : Context) (c : Slot) (es : List Expr) (p : Process) (t : TypeTree) → Has g c t → Typed ty g (exprs_slots es ++ free_slots p)
      → ExprsClean ty es → ((rest : Context) → Typed ty rest (free_slots p) → Derives rest p)
      → output_fault ty (carried t) es p ≡ None → Derives g (output c es p)
  output_typed g c es p (chan_type ts) is k clean goes_on h =
      let used = exprs_slots (others ty es) ++ free_slots p in
      let qubits = sent (is_qubit ty) es in
      let last : List (Bool × Kind) = (meet qubits used, kind.SentAndUsed) ∷ [] in
      let second : List (Bool × Kind) = (is_twice qubits, kind.OperandTwice) ∷ last in
      let third : List (Bool × Kind) = (not (same_types (form_types ty es) ts), kind.Mismatch) ∷ second in
      let counted = none_first (not (length es == count_of ts)) kind.Count third h in
      let typed = none_first (not (same_types (form_types ty es) ts)) kind.Mismatch second counted.1 in
      let once = none_first (is_twice qubits) kind.OperandTwice last typed.1 in
      let apart = (none_first (meet qubits used) kind.SentAndUsed [] once.1).0 in
      let args = typed_left ty g (exprs_slots es) (free_slots p) k in
      let same = sym (sent_forms g es args) in
      let used_typed : Typed ty g used = λ s i. k s (among_wider s i) in
      let rest_typed = typed_leaving g qubits used apart used_typed in
      output_ is
      (subst (λ ss. is_twice ss ≡ false) same once.0)
      (subst (λ ss. Fits g (leaving ss g) es ts) same
      (fits_forms g (leaving qubits g) es ts (not_false (same_types (form_types ty es) ts) typed.0) clean args
      (typed_left ty (leaving qubits g) (exprs_slots (others ty es)) (free_slots p) rest_typed)))
      (subst (λ ss. Derives (leaving ss g) p) same
      (goes_on (leaving qubits g) (typed_right ty (leaving qubits g) (exprs_slots (others ty es)) (free_slots p) rest_typed)))
    where
      among_wider : (s : Slot) → is_among s (exprs_slots (others ty es) ++ free_slots p) ≡ true → is_among s (exprs_slots es ++ free_slots p) ≡ true
      among_wider s i = wider s (exprs_slots (others ty es)) (exprs_slots es) (free_slots p) (λ j. others_among s es j) i
  output_typed g c es p int_type is k clean goes_on h = absurd (cc h)
  output_typed g c es p unit_type is k clean goes_on h = absurd (cc h)
  output_typed g c es p qbit_type is k clean goes_on h = absurd (cc h)
  output_typed g c es p (op_type n) is k clean goes_on h = absurd (cc h)

  -- an input that does not fail is typed, where its body is
  input_typed : (g : Context) (c : Slot) (bs : List Binder) (p : Process) (t : TypeTree) → Has g c t → Derives (binding bs g) p
      → input_fault (carried t) bs ≡ None → Derives g (input c bs p)
  input_typed g c bs p (chan_type ts) is d h =
      let counted = none_first (not (length bs == count_of ts)) kind.Count ((not (same_types (types_of bs) ts), kind.Mismatch) ∷ []) h in
      let typed = none_first (not (same_types (types_of bs) ts)) kind.Mismatch [] counted.1 in
      let same = types_are (types_of bs) ts (not_false (same_types (types_of bs) ts) typed.0) in
      input_ (subst (λ us. Has g c (chan_type us)) (sym same) is) d
  input_typed g c bs p int_type is d h = absurd (cc h)
  input_typed g c bs p unit_type is d h = absurd (cc h)
  input_typed g c bs p qbit_type is d h = absurd (cc h)
  input_typed g c bs p (op_type n) is d h = absurd (cc h)

  -- a binder of a channel that does not fail is typed, where its body is
  new_typed : (g : Context) (x : ℕ) (t : TypeTree) (p : Process) → Derives (binding (record { name = x; ty = t } ∷ []) g) p
      → new_fault (carried t) ≡ None → Derives g (new (record { name = x; ty = t }) p)
  new_typed g x (chan_type ts) p d h = new_ d
  new_typed g x int_type p d h = absurd (cc h)
  new_typed g x unit_type p d h = absurd (cc h)
  new_typed g x qbit_type p d h = absurd (cc h)
  new_typed g x (op_type n) p d h = absurd (cc h)

  -- a process of which no node fails is typed, where its free slots are
  pub process_typed : (g : Context) (p : Process) → Annotates ty (binders_of p) → Typed ty g (free_slots p) → ProcessClean ty p → Derives g p
  process_typed g nil a k c = nil_
  process_typed g (par p q) a k c =
      let ps = free_slots p in
      let qs = free_slots q in
      let shared = (none_first (shares ty p q) kind.SplitTwice [] c.0).0 in
      par_ (divides g ps qs (λ s i j is.
      let one = none_among (λ r. is_qubit ty r && is_among r qs) s ps shared i in
      let q = ap (λ t. same_type t qbit_type) (one_type g s (slot_type ty s) qbit_type (k s (among_left s ps qs i)) is) in
      fails (sym one ∙ both_hold (is_qubit ty s) (is_among s qs) q j)))
      (process_typed _ p (front ty (binders_of p) (binders_of q) a)
      (λ s i. kept (goes_left g ps qs) g s (slot_type ty s) (or_left (is_among s ps) (not (is_among s qs)) i) (k s (among_left s ps qs i))) c.1)
      (process_typed _ q (back ty (binders_of p) (binders_of q) a)
      (λ s i. kept (goes_right g ps qs) g s (slot_type ty s) i (k s (among_right s ps qs i))) c.2)
  process_typed g (new b p) a k c =
      new_typed g b.name b.ty p (process_typed _ p a.1 (typed_below ty (b ∷ []) g (free_slots p) (a.0, tt) k) c.1) c.0
  process_typed g (qbit x p) a k c =
      qbit_ (process_typed _ p a.1 (typed_below ty (record { name = x; ty = qbit_type } ∷ []) g (free_slots p) (a.0, tt) k) c)
  process_typed g (act e p) a k c =
      act_ (expr_typed ty g e (typed_left ty g (expr_slots e) (free_slots p) k) c.0)
      (process_typed g p a (typed_right ty g (expr_slots e) (free_slots p) k) c.1)
  process_typed g (input d bs p) a k c =
      let inner = except (bound_slots bs) (free_slots p) in
      input_typed g d bs p (slot_type ty d) (typed_head ty g d inner k)
      (process_typed _ p (back ty bs (binders_of p) a) (typed_below ty bs g (free_slots p) (front ty bs (binders_of p) a) (typed_tail ty g d inner k)) c.1) c.0
  process_typed g (output d es p) a k c =
      let used = exprs_slots es ++ free_slots p in
      output_typed g d es p (slot_type ty d) (typed_head ty g d used k) (typed_tail ty g d used k) c.1 (λ rest m. process_typed rest p a m c.2) c.0
  process_typed g (branch e f p q) a k c =
      let bodies = free_slots p ++ free_slots q in
      let more = typed_right ty g (expr_slots e) (expr_slots f ++ bodies) k in
      let both_sides = typed_right ty g (expr_slots f) bodies more in
      let ints =
      both (is_int ty e) (is_int ty f) (not_false (is_int ty e && is_int ty f) (none_first (not (is_int ty e && is_int ty f)) kind.Mismatch [] c.0).0) in
      branch_ (int_typed ty g e (expr_typed ty g e (typed_left ty g (expr_slots e) (expr_slots f ++ bodies) k) c.1) ints.0)
      (int_typed ty g f (expr_typed ty g f (typed_left ty g (expr_slots f) bodies more) c.2) ints.1)
      (process_typed g p (front ty (binders_of p) (binders_of q) a) (typed_left ty g (free_slots p) (free_slots q) both_sides) c.3)
      (process_typed g q (back ty (binders_of p) (binders_of q) a) (typed_right ty g (free_slots p) (free_slots q) both_sides) c.4)
