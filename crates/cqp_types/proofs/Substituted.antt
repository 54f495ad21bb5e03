-- A value of the type of a name may take its place in processes.
use Rattle.std.proofs.Common.{◌≡◌, ℕ, List, [], ◌∷◌, ◌++◌, map, Bool, true, false, not, ◌⊎◌, inl, inr, refl, sym, ◌∙◌, ap, subst, cond}
use Rattle.cqp_syntax.specs.declared.val.Val.{Val}
use Rattle.cqp_syntax.specs.TypeTrees.{TypeTree, TypeTrees, qbit_type, chan_type}
use Rattle.cqp_syntax.specs.Trees.{Slot, named, valued, Expr, slot, sig, add, apply, measure, Binder, Process}
use Rattle.cqp_syntax.specs.Binders.{binders_of}
use Rattle.cqp_syntax.specs.Free.{same_slot, is_among, except, expr_slots, exprs_slots, bound_slots, free_slots}
use Rattle.cqp_syntax.specs.Substitution.{expr_with, with_value}
use Rattle.cqp_types.specs.Contexts.{Context, type_in, Has, Splits, is_twice, binding, leaving}
use Rattle.cqp_types.specs.Derivations.{HasType, slot_, is_qbit, sent_under, Fits, no_argument, sent_name, other_argument, Derives, nil_, par_, new_, qbit_}
use Rattle.cqp_types.specs.Derivations.{act_, input_, output_, branch_}
use Rattle.cqp_syntax.proofs.Bools.{fails, or_left, decide}
use Rattle.cqp_syntax.proofs.Slots.{among_self, among_left, among_right, stays_among}
use Rattle.cqp_types.proofs.ContextLaws.{one_type, moves, above_all, below_all, bound_same, kept, kept_in, kept_passes, keeping}
use Rattle.cqp_types.proofs.Known.{free_known}
use Rattle.cqp_types.proofs.Divided.{divides, goes_left, goes_right}
use Rattle.cqp_types.proofs.Relevance.{sent_first}
use Rattle.cqp_types.proofs.Sent.{false_unless, sent_is, sent_among, are_sent}
use Rattle.cqp_syntax.proofs.UsedFree.{map_both}
use Rattle.cqp_types.specs.Laws.{Unbound}
use Rattle.cqp_types.proofs.Puts.{unbound_front, unbound_back, put, put_cases, put_in, put_out, put_free, value_free, name_free}
use Rattle.cqp_types.proofs.SubstitutedExprs.{Suits, suits_left, suits_right, suits_tail, suits_head, one_origin, twice_put, expr_substituted}

module _ (x : ℕ) (v : Val) where
  -- what is sent
  one_put : (g h rest : Context) (e : Expr) (t : TypeTree) → ((s : Slot) (w : TypeTree) → Has rest s w → Has g s w)
      → Suits x v g h (expr_slots e) → HasType rest e t → sent_under h (expr_with x v e ∷ []) ≡ map (put x v) (sent_under g (e ∷ []))
  one_put g h rest (slot s) t sub u (slot_ {t = w} is) =
      let old = sub s w is in
      let now = suits_head x v g h s [] w u old in
      ap (λ o. cond (is_qbit o) (put x v s ∷ []) []) (now ∙ sym old) ∙ mapped (is_qbit (type_in g s))
    where
      mapped : (b : Bool) → cond b (put x v s ∷ []) [] ≡ map (put x v) (cond b (s ∷ []) [])
      mapped true = refl
      mapped false = refl
  one_put g h rest (sig e) t sub u d = refl
  one_put g h rest (add e f) t sub u d = refl
  one_put g h rest (apply qs e) t sub u d = refl
  one_put g h rest (measure qs) t sub u d = refl

  -- what arguments send with the value put in
  sent_put : (g h rest : Context) {es : List Expr} {ts : TypeTrees} → ((s : Slot) (w : TypeTree) → Has rest s w → Has g s w)
      → Suits x v g h (exprs_slots es) → Fits g rest es ts → sent_under h (map (expr_with x v) es) ≡ map (put x v) (sent_under g es)
  sent_put g h rest sub u no_argument = refl
  sent_put g h rest sub u (sent_name {s = s} {es = es} is more) =
      let now = suits_head x v g h s (exprs_slots es) qbit_type u is in
      ap (λ o. cond (is_qbit o) (put x v s ∷ sent_under h (map (expr_with x v) es)) (sent_under h (map (expr_with x v) es))) (now ∙ sym is)
      ∙ ap (λ ss. cond (is_qbit (type_in g s)) (put x v s ∷ ss) ss) (sent_put g h rest sub (suits_tail x v g h s (exprs_slots es) u) more)
      ∙ mapped (is_qbit (type_in g s))
    where
      mapped : (b : Bool) → cond b (put x v s ∷ map (put x v) (sent_under g es)) (map (put x v) (sent_under g es))
          ≡ map (put x v) (cond b (s ∷ sent_under g es) (sent_under g es))
      mapped true = refl
      mapped false = refl
  sent_put g h rest sub u (other_argument {e = e} {t = t} {es = es} other d more) =
      let first = suits_left x v g h (expr_slots e) (exprs_slots es) u in
      let behind = suits_right x v g h (expr_slots e) (exprs_slots es) u in
      sent_first _ (expr_with x v e) (map (expr_with x v) es)
      ∙ ap (λ ss. ss ++ sent_under h (map (expr_with x v) es)) (one_put g h rest e t sub first d)
      ∙ ap (λ ss. map (put x v) (sent_under g (e ∷ [])) ++ ss) (sent_put g h rest sub behind more)
      ∙ sym (map_both (put x v) (sent_under g (e ∷ [])) (sent_under g es))
      ∙ ap (map (put x v)) (sym (sent_first _ e es))

  -- arguments that fit fit with the value put in
  fits_put : (g h rest left : Context) {es : List Expr} {ts : TypeTrees} → ((s : Slot) (w : TypeTree) → Has rest s w → Has g s w)
      → Suits x v g h (exprs_slots es) → Suits x v rest left (exprs_slots es) → Fits g rest es ts → Fits h left (map (expr_with x v) es) ts
  fits_put g h rest left sub u w no_argument = no_argument
  fits_put g h rest left sub u w (sent_name {s = s} {es = es} is more) =
      sent_name (suits_head x v g h s (exprs_slots es) qbit_type u is)
      (fits_put g h rest left sub (suits_tail x v g h s (exprs_slots es) u) (suits_tail x v rest left s (exprs_slots es) w) more)
  fits_put g h rest left sub u w (other_argument {e = e} {t = t} {es = es} other d more) =
      other_argument
      (one_put g h rest e t sub (suits_left x v g h (expr_slots e) (exprs_slots es) u) d ∙ ap (map (put x v)) other)
      (expr_substituted x v rest left (suits_left x v rest left (expr_slots e) (exprs_slots es) w) d)
      (fits_put g h rest left sub (suits_right x v g h (expr_slots e) (exprs_slots es) u) (suits_right x v rest left (expr_slots e) (exprs_slots es) w) more)

  -- below binders of other names
  suits_below : (g h : Context) (bs : List Binder) (ss : List Slot) → Unbound x bs → Suits x v g h (except (bound_slots bs) ss)
      → Suits x v (binding bs g) (binding bs h) ss
  suits_below g h bs ss free u = record {
    keeps = λ s t i is.
        decide (is_among s (bound_slots bs))
        (λ e. subst (λ q. Has (binding bs h) q t) (sym (stays_put s e)) (bound_same bs g h s t e is))
        (λ e.
        above_all bs h (put x v s) t (put_free x v bs s free ∙ e)
        (u.keeps s t (stays_among s (bound_slots bs) ss e i) (below_all bs g s t e is)));
    apart = λ is.
        let outer = below_all bs g (named x) qbit_type (name_free x bs free) is in
        false_unless (is_among (valued v) ss) (λ i. fails (sym (u.apart outer) ∙ stays_among (valued v) (bound_slots bs) ss (value_free v bs) i));
  }
    where
      stays_put : (s : Slot) → is_among s (bound_slots bs) ≡ true → put x v s ≡ s
      stays_put s e = go (put_cases x v s)
        where
          go : ((s ≡ named x) × (put x v s ≡ valued v)) ⊎ ((same_slot s (named x) ≡ false) × (put x v s ≡ s)) → put x v s ≡ s
          go (inl c) = absurd (fails (sym (name_free x bs free) ∙ subst (λ q. is_among q (bound_slots bs) ≡ true) c.0 e))
          go (inr c) = c.1

  -- without what is sent
  suits_leaving : (g h : Context) (taken ss ws : List Slot) → Suits x v g h ws → ((s : Slot) → is_among s taken ≡ true → Has g s qbit_type)
      → ((s : Slot) → is_among s taken ≡ true → is_among s ws ≡ true) → ((s : Slot) → is_among s ss ≡ true → is_among s ws ≡ true)
      → Suits x v (leaving taken g) (leaving (map (put x v) taken) h) ss
  suits_leaving g h taken ss ws u qubits sent_in sub = record {
    keeps = λ s t i is.
        let was = kept_in _ g s t is in
        let here : is_among (put x v s) (map (put x v) taken) ≡ false = false_unless (is_among (put x v s) (map (put x v) taken)) (λ j.
        put_out x v (put x v s) taken j (λ r e k.
        let same = one_origin x v g h ws s r t u (sub s i) (sent_in r k) was (qubits r k) (sym e) in
        fails (sym (ap not (subst (λ q. is_among q taken ≡ true) (sym same) k)) ∙ kept_passes _ g s t (among_self s ss i) is))) in
        kept _ h (put x v s) t (ap not here) (u.keeps s t (sub s i) was);
    apart = λ is. false_unless (is_among (valued v) ss) (λ i. fails (sym (u.apart (kept_in _ g (named x) qbit_type is)) ∙ sub (valued v) i));
  }

  -- a slot that is free, with the value put in, is free where the value is
  put_kept : (h : Context) (f : Slot → Bool) (s : Slot) (t : TypeTree) (ss : List Slot)
      → ((r : Slot) → is_among r (map (put x v) ss) ≡ true → f r ≡ true) → is_among s ss ≡ true → Has h (put x v s) t → Has (keeping f h) (put x v s) t
  put_kept h f s t ss passes i is =
      moves h (keeping f h) (put x v s) t (λ own. kept f h (put x v s) t (passes (put x v s) (put_in x v s ss own i)) is) is

  -- no qubit is free on both sides with the value put in
  apart_put : (g h l r : Context) (p q : Process) → Splits g l r → Derives l p → Derives r q → Suits x v g h (free_slots p ++ free_slots q)
      → (s : Slot) → is_among s (map (put x v) (free_slots p)) ≡ true → is_among s (map (put x v) (free_slots q)) ≡ true → Has h s qbit_type → ⊥
  apart_put g h l r p q splits a b u s i j is =
      put_out x v s (free_slots p) i (λ m d k.
      put_out x v s (free_slots q) j (λ n e w.
      let (t, left) = free_known l m a k in
      let (o, right) = free_known r n b w in
      let one = among_left m (free_slots p) (free_slots q) k in
      let two = among_right n (free_slots p) (free_slots q) w in
      let t_is = one_type h s t qbit_type (subst (λ z. Has h z t) d (u.keeps m t one (splits.left_in m t left))) is in
      let o_is = one_type h s o qbit_type (subst (λ z. Has h z o) e (u.keeps n o two (splits.right_in n o right))) is in
      let left_is = subst (λ z. Has l m z) t_is left in
      let right_is = subst (λ z. Has r n z) o_is right in
      let same = one_origin x v g h (free_slots p ++ free_slots q) m n qbit_type u one two
      (splits.left_in m qbit_type left_is) (splits.right_in n qbit_type right_is) (d ∙ sym e) in
      splits.once n (subst (λ z. Has l z qbit_type) same left_is) right_is))

  -- processes
  pub process_substituted : (g h : Context) {p : Process} → Unbound x (binders_of p) → Suits x v g h (free_slots p) → Derives g p → Derives h (with_value x v p)
  process_substituted g h n u nil_ = nil_
  process_substituted g h n u (par_ {left = l} {right = r} {p = p} {q = q} splits a b) =
      let first = unbound_front x (binders_of p) (binders_of q) n in
      let second = unbound_back x (binders_of p) (binders_of q) n in
      let ps = map (put x v) (free_slots p) in
      let qs = map (put x v) (free_slots q) in
      let left_suits : Suits x v l (keeping (goes_left h ps qs) h) (free_slots p) = record {
        keeps = λ s t i is. put_kept h (goes_left h ps qs) s t (free_slots p) (λ z m. or_left (is_among z ps) (not (is_among z qs)) m) i
            (u.keeps s t (among_left s (free_slots p) (free_slots q) i) (splits.left_in s t is));
        apart = λ is. false_unless (is_among (valued v) (free_slots p)) (λ i.
            fails (sym (u.apart (splits.left_in (named x) qbit_type is)) ∙ among_left (valued v) (free_slots p) (free_slots q) i));
      } in
      let right_suits : Suits x v r (keeping (goes_right h ps qs) h) (free_slots q) = record {
        keeps = λ s t i is. put_kept h (goes_right h ps qs) s t (free_slots q) (λ z m. m) i
            (u.keeps s t (among_right s (free_slots p) (free_slots q) i) (splits.right_in s t is));
        apart = λ is. false_unless (is_among (valued v) (free_slots q)) (λ i.
            fails (sym (u.apart (splits.right_in (named x) qbit_type is)) ∙ among_right (valued v) (free_slots p) (free_slots q) i));
      } in
      par_ (divides h ps qs (apart_put g h l r p q splits a b u))
      (process_substituted l (keeping (goes_left h ps qs) h) first left_suits a)
      (process_substituted r (keeping (goes_right h ps qs) h) second right_suits b)
  process_substituted g h n u (new_ {x = y} {ts = ts} {p = p} d) =
      new_ (process_substituted _ _ n.1 (suits_below g h (record { name = y; ty = chan_type ts } ∷ []) (free_slots p) (n.0, tt) u) d)
  process_substituted g h n u (qbit_ {x = y} {p = p} d) =
      qbit_ (process_substituted _ _ n.1 (suits_below g h (record { name = y; ty = qbit_type } ∷ []) (free_slots p) (n.0, tt) u) d)
  process_substituted g h n u (act_ {e = e} {p = p} t d) =
      act_ (expr_substituted x v g h (suits_left x v g h (expr_slots e) (free_slots p) u) t)
      (process_substituted g h n (suits_right x v g h (expr_slots e) (free_slots p) u) d)
  process_substituted g h n u (input_ {c = c} {bs = bs} {p = p} is d) =
      let inner = except (bound_slots bs) (free_slots p) in
      input_ (suits_head x v g h c inner _ u is)
      (process_substituted _ _ (unbound_back x bs (binders_of p) n)
      (suits_below g h bs (free_slots p) (unbound_front x bs (binders_of p) n) (suits_tail x v g h c inner u)) d)
  process_substituted g h n u (output_ {c = c} {es = es} {ts = ts} {p = p} is twice fits d) =
      let taken = sent_under g es in
      let used = exprs_slots es ++ free_slots p in
      let tail = suits_tail x v g h c used u in
      let args = suits_left x v g h (exprs_slots es) (free_slots p) tail in
      let sub = λ (s : Slot) (w : TypeTree) (has : Has (leaving taken g) s w). kept_in _ g s w has in
      let same = sym (sent_put g h (leaving taken g) sub args fits) in
      let sent_in = λ (s : Slot) (i : is_among s taken ≡ true). among_left s (exprs_slots es) (free_slots p) (sent_among g es s i) in
      let qubits = λ (s : Slot) (i : is_among s taken ≡ true). sent_is g es s i in
      let left_args = suits_leaving g h taken (exprs_slots es) used tail qubits sent_in (λ s i. among_left s (exprs_slots es) (free_slots p) i) in
      let left_body = suits_leaving g h taken (free_slots p) used tail qubits sent_in (λ s i. among_right s (exprs_slots es) (free_slots p) i) in
      let once = twice_put x v g h used taken tail sent_in (are_sent g es) twice in
      output_ (suits_head x v g h c used _ u is)
      (subst (λ ss. is_twice ss ≡ false) same once)
      (subst (λ ss. Fits h (leaving ss h) (map (expr_with x v) es) ts) same (fits_put g h (leaving taken g) _ sub args left_args fits))
      (subst (λ ss. Derives (leaving ss h) (with_value x v p)) same (process_substituted (leaving taken g) _ n left_body d))
  process_substituted g h n u (branch_ {e = e} {f = f} {p = p} {q = q} a b c d) =
      let bodies = free_slots p ++ free_slots q in
      let more = suits_right x v g h (expr_slots e) (expr_slots f ++ bodies) u in
      let ends = suits_right x v g h (expr_slots f) bodies more in
      branch_ (expr_substituted x v g h (suits_left x v g h (expr_slots e) (expr_slots f ++ bodies) u) a)
      (expr_substituted x v g h (suits_left x v g h (expr_slots f) bodies more) b)
      (process_substituted g h (unbound_front x (binders_of p) (binders_of q) n) (suits_left x v g h (free_slots p) (free_slots q) ends) c)
      (process_substituted g h (unbound_back x (binders_of p) (binders_of q) n) (suits_right x v g h (free_slots p) (free_slots q) ends) d)
