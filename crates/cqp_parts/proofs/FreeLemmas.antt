-- A value for a name that isn't free changes nothing.
use Rattle.std.proofs.Common.{◌≡◌, ℕ, true, false, Bool, List, [], ◌∷◌, map, ◌==◌, ◌||◌, filter, refl, ap, ⊎_elim}
use Rattle.std.proofs.lemmas.Bool.{cases_Bool, or_parts, or_from}
use Rattle.std.specs.List.{list_any}
use Rattle.cqp_syntax.specs.declared.val.Val.{Val}
use Rattle.cqp_syntax.specs.Trees.{Slot, named, valued, Expr, slot, sig, add, apply, measure, Process, nil, par, new, qbit, act, input, output, branch}
use Rattle.cqp_syntax.specs.Listing.{Listing, process_at}
use Rattle.cqp_syntax.specs.Substitution.{slot_with, expr_with, with_value}
use Rattle.cqp_parts.specs.declared.bind.Bind.{Bind}
use Rattle.cqp_parts.specs.Free.{is_in_slot, is_in_expr, is_free}
use Rattle.cqp_parts.specs.Parts.{with_bindings, kept_at}

module _ (x : ℕ) (v : Val) where
  -- a value for a name that isn't the slot's leaves the slot
  slot_stays : (s : Slot) → is_in_slot x s ≡ false → slot_with x v s ≡ s
  slot_stays (named y) h = rw h refl
  slot_stays (valued u) h = refl

  -- so it leaves slots
  slots_stay : (ss : List Slot) → list_any (is_in_slot x) ss ≡ false → map (slot_with x v) ss ≡ ss
  slots_stay [] h = refl
  slots_stay (s ∷ ss) h =
      let parts = or_parts (is_in_slot x s) (list_any (is_in_slot x) ss) h in rw (slot_stays s parts.0, slots_stay ss parts.1) refl

  -- it leaves an expression
  expr_stays : (e : Expr) → is_in_expr x e ≡ false → expr_with x v e ≡ e
  expr_stays (slot s) h = ap slot (slot_stays s h)
  expr_stays (sig e) h = ap sig (expr_stays e h)
  expr_stays (add e f) h =
      let parts = or_parts (is_in_expr x e) (is_in_expr x f) h in rw (expr_stays e parts.0, expr_stays f parts.1) refl
  expr_stays (apply qs e) h =
      let parts = or_parts (list_any (is_in_slot x) qs) (is_in_expr x e) h in rw (slots_stay qs parts.0, expr_stays e parts.1) refl
  expr_stays (measure qs) h = rw (slots_stay qs h) refl

  -- it leaves several
  exprs_stay : (es : List Expr) → list_any (is_in_expr x) es ≡ false → map (expr_with x v) es ≡ es
  exprs_stay [] h = refl
  exprs_stay (e ∷ es) h =
      let parts = or_parts (is_in_expr x e) (list_any (is_in_expr x) es) h in rw (expr_stays e parts.0, exprs_stay es parts.1) refl

  -- it leaves a process
  process_stays : (p : Process) → is_free x p ≡ false → with_value x v p ≡ p
  process_stays nil h = refl
  process_stays (par p q) h =
      let parts = or_parts (is_free x p) (is_free x q) h in rw (process_stays p parts.0, process_stays q parts.1) refl
  process_stays (new b p) h = rw (process_stays p h) refl
  process_stays (qbit y p) h = rw (process_stays p h) refl
  process_stays (act e p) h =
      let parts = or_parts (is_in_expr x e) (is_free x p) h in rw (expr_stays e parts.0, process_stays p parts.1) refl
  process_stays (input c bs p) h =
      let parts = or_parts (is_in_slot x c) (is_free x p) h in rw (slot_stays c parts.0, process_stays p parts.1) refl
  process_stays (output c es p) h =
      let parts = or_parts (is_in_slot x c) (list_any (is_in_expr x) es || is_free x p) h in
      let more = or_parts (list_any (is_in_expr x) es) (is_free x p) parts.1 in
      rw (slot_stays c parts.0, exprs_stay es more.0, process_stays p more.1) refl
  process_stays (branch e f p q) h =
      let parts = or_parts (is_in_expr x e) (is_in_expr x f || (is_free x p || is_free x q)) h in
      let more = or_parts (is_in_expr x f) (is_free x p || is_free x q) parts.1 in
      let last = or_parts (is_free x p) (is_free x q) more.1 in
      rw (expr_stays e parts.0, expr_stays f more.0, process_stays p last.0, process_stays q last.1) refl

module _ (x y : ℕ) (v : Val) where
  -- a value for another name brings no name into a slot
  slot_brings : (s : Slot) → is_in_slot x s ≡ false → is_in_slot x (slot_with y v s) ≡ false
  slot_brings (named z) h = ⊎_elim (λ (t : (z == y) ≡ true). rw t refl) (λ (t : (z == y) ≡ false). rw t h) (cases_Bool (z == y))
  slot_brings (valued u) h = refl

  -- nor into slots
  slots_bring : (ss : List Slot) → list_any (is_in_slot x) ss ≡ false → list_any (is_in_slot x) (map (slot_with y v) ss) ≡ false
  slots_bring [] h = refl
  slots_bring (s ∷ ss) h =
      let parts = or_parts (is_in_slot x s) (list_any (is_in_slot x) ss) h in or_from _ _ (slot_brings s parts.0) (slots_bring ss parts.1)

  -- nor into an expression
  expr_brings : (e : Expr) → is_in_expr x e ≡ false → is_in_expr x (expr_with y v e) ≡ false
  expr_brings (slot s) h = slot_brings s h
  expr_brings (sig e) h = expr_brings e h
  expr_brings (add e f) h =
      let parts = or_parts (is_in_expr x e) (is_in_expr x f) h in or_from _ _ (expr_brings e parts.0) (expr_brings f parts.1)
  expr_brings (apply qs e) h =
      let parts = or_parts (list_any (is_in_slot x) qs) (is_in_expr x e) h in or_from _ _ (slots_bring qs parts.0) (expr_brings e parts.1)
  expr_brings (measure qs) h = slots_bring qs h

  -- nor into several
  exprs_bring : (es : List Expr) → list_any (is_in_expr x) es ≡ false → list_any (is_in_expr x) (map (expr_with y v) es) ≡ false
  exprs_bring [] h = refl
  exprs_bring (e ∷ es) h =
      let parts = or_parts (is_in_expr x e) (list_any (is_in_expr x) es) h in or_from _ _ (expr_brings e parts.0) (exprs_bring es parts.1)

  -- nor into a process
  process_brings : (p : Process) → is_free x p ≡ false → is_free x (with_value y v p) ≡ false
  process_brings nil h = refl
  process_brings (par p q) h =
      let parts = or_parts (is_free x p) (is_free x q) h in or_from _ _ (process_brings p parts.0) (process_brings q parts.1)
  process_brings (new b p) h = process_brings p h
  process_brings (qbit z p) h = process_brings p h
  process_brings (act e p) h =
      let parts = or_parts (is_in_expr x e) (is_free x p) h in or_from _ _ (expr_brings e parts.0) (process_brings p parts.1)
  process_brings (input c bs p) h =
      let parts = or_parts (is_in_slot x c) (is_free x p) h in or_from _ _ (slot_brings c parts.0) (process_brings p parts.1)
  process_brings (output c es p) h =
      let parts = or_parts (is_in_slot x c) (list_any (is_in_expr x) es || is_free x p) h in
      let more = or_parts (list_any (is_in_expr x) es) (is_free x p) parts.1 in
      or_from _ _ (slot_brings c parts.0) (or_from _ _ (exprs_bring es more.0) (process_brings p more.1))
  process_brings (branch e f p q) h =
      let parts = or_parts (is_in_expr x e) (is_in_expr x f || (is_free x p || is_free x q)) h in
      let more = or_parts (is_in_expr x f) (is_free x p || is_free x q) parts.1 in
      let last = or_parts (is_free x p) (is_free x q) more.1 in
      or_from _ _ (expr_brings e parts.0) (or_from _ _ (expr_brings f more.0) (or_from _ _ (process_brings p last.0) (process_brings q last.1)))

-- bindings of names that aren't free may be left out
kept_alike : (keep : ℕ → Bool) (bs : List Bind) (p : Process) → ((x : ℕ) → keep x ≡ false → is_free x p ≡ false)
    → with_bindings (filter (λ b. keep b.name) bs) p ≡ with_bindings bs p
kept_alike keep [] p h = refl
kept_alike keep (b ∷ bs) p h = ⊎_elim
    (λ (t : keep b.name ≡ true).
    rw t (kept_alike keep bs (with_value b.name b.val p) (λ x k. process_brings x b.name b.val p (h x k))))
    (λ (t : keep b.name ≡ false).
    rw (t, process_stays b.name b.val p (h b.name t)) (kept_alike keep bs p h))
    (cases_Bool (keep b.name))

-- the bindings of the names that are free at a number do there what all bindings do
pub kept_bound : (l : Listing) (n : ℕ) (bs : List Bind) → with_bindings (kept_at l n bs) (process_at l n) ≡ with_bindings bs (process_at l n)
kept_bound l n bs = kept_alike (λ x. is_free x (process_at l n)) bs (process_at l n) (λ x k. k)
