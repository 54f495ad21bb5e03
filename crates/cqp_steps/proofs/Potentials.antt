-- Measures of what is left: no reduction raises them, and each takes what it makes out of them.
use Rattle.std.proofs.Common.{◌≡◌, ℕ, true, false, Bool, List, [], ◌∷◌, ◌++◌, ◌+◌, ◌≤◌, is_some, Some, refl, sym, ap, arith, ◌∙◌, ⊎_elim}
use Rattle.std.proofs.lemmas.Bool.{cases_Bool}
use Rattle.cqp_syntax.specs.declared.val.Val.{Val}
use Rattle.cqp_syntax.specs.declared.val.Val.TheVariants as val
use Rattle.cqp_syntax.specs.Trees.{Slot, valued, Expr, Binder, Process, nil, par, new, qbit, act, input, output, branch}
use Rattle.cqp_trace.specs.declared.deed.Deed.{Deed}
use Rattle.cqp_trace.specs.declared.deed.Deed.TheVariants as deed
use Rattle.cqp_cells.specs.Config.{flattened}
use Rattle.cqp_cells.specs.Redex.{reduced_prefix, next_redex, redex_of}
use Rattle.cqp_syntax.specs.Substitution.{with_value, with_values}
use Rattle.cqp_cells.specs.Moves.{Counts, moved, Sending, sends_on, receives_on}
use Rattle.cqp_syntax.specs.Measures.{need, chans_in}
use Rattle.cqp_cells.proofs.Options.{none_is_some}
use Rattle.cqp_parts.proofs.Continuations.{provided_is, act_goes_on, chosen, if_goes_on, sent_rest, add_reduces, pick_reduces, gate_reduces, measure_reduces}
use Rattle.cqp_parts.proofs.Continuations.{Reduces}

-- a measure adds up over processes side by side
pub record AddsUp (m : Process → ℕ) : Type 0 where
  pub none : m nil ≡ 0
  pub sides : (p q : Process) → m (par p q) ≡ m p + m q

-- a measure doesn't see values, and falls by what binders make
pub record IsMeasure (m : Process → ℕ) (qubit chan : ℕ) : Type 0 where
  pub value : (x : ℕ) (v : Val) (p : Process) → m (with_value x v p) ≡ m p
  pub result : (v : Val) (p : Process) → m (reduced_prefix v p) ≡ m p
  pub by_qbit : (x : ℕ) (p : Process) → m p + qubit ≤ m (qbit x p)
  pub by_new : (b : Binder) (p : Process) → m p + chan ≤ m (new b p)
  pub by_act : (e : Expr) (p : Process) → m p ≤ m (act e p)
  pub by_input : (c : Slot) (bs : List Binder) (p : Process) → m p ≤ m (input c bs p)
  pub by_output : (c : Slot) (es : List Expr) (p : Process) → m p ≤ m (output c es p)
  pub by_first : (e f : Expr) (p q : Process) → m p ≤ m (branch e f p q)
  pub by_other : (e f : Expr) (p q : Process) → m q ≤ m (branch e f p q)

-- a measure of processes, added up
abbrev pub total : (Process → ℕ) → List Process → ℕ
total m [] = 0
total m (p ∷ ps) = m p + total m ps

module _ (m : Process → ℕ) (h : AddsUp m) where
  -- the total of two lists is the sum of both
  total-append : (ps qs : List Process) → total m (ps ++ qs) ≡ total m ps + total m qs
  total-append [] qs = omega arith
  total-append (p ∷ ps) qs = omega (arith, total-append ps qs)

  -- the processes side by side have it together
  pub total-flattened : (p : Process) → total m (flattened p) ≡ m p
  total-flattened nil = sym h.none
  total-flattened (par p q) = total-append (flattened p) (flattened q) ∙ (rw (total-flattened p, total-flattened q) (sym (h.sides p q)))
  total-flattened (new b p) = omega arith
  total-flattened (qbit x p) = omega arith
  total-flattened (act e p) = omega arith
  total-flattened (input c bs p) = omega arith
  total-flattened (output c es p) = omega arith
  total-flattened (branch e f p q) = omega arith

module _ (m : Process → ℕ) (qubit chan : ℕ) (h : IsMeasure m qubit chan) where
  -- what a deed makes
  abbrev pub made_by : Deed → ℕ
  made_by (deed.Qbit q) = qubit
  made_by (deed.New k) = chan
  made_by d = 0

  -- a result raises no measure
  of_reduced : (v : Val) (p r : Process) → Reduces v p r → m r + 0 ≤ m p
  of_reduced v p r x = let same : m r ≡ m p = ap m (sym x.is) ∙ h.result v p in omega arith

  -- values for names change no measure
  values_same : (bs : List Binder) (vs : List Val) (p : Process) → m (with_values bs vs p) ≡ m p
  values_same [] vs p = refl
  values_same (b ∷ bs) [] p = refl
  values_same (b ∷ bs) (v ∷ vs) p = values_same bs vs (with_value b.name v p) ∙ h.value b.name v p

  -- the branch that is taken measures no more than the choice
  chosen_less : (b : Bool) (e f : Expr) (p q r : Process) → chosen b p q ≡ r → m r + 0 ≤ m (branch e f p q)
  chosen_less true e f p q r k = let x = h.by_first e f p q in let same : m p ≡ m r = ap m k in omega arith
  chosen_less false e f p q r k = let x = h.by_other e f p q in let same : m q ≡ m r = ap m k in omega arith

  -- a new qubit is taken from the measure
  qbit_less : (n : Counts) (p : Process) (q : ℕ) (r : Process) → moved n p (deed.Qbit q) ≡ Some r → m r + qubit ≤ m p
  qbit_less n (qbit x p) q r k =
      let same : m r ≡ m p = ap m (sym (provided_is _ _ r k)) ∙ h.value x (val.Qubit q) p in
      omega (arith, h.by_qbit x p)
  qbit_less n p q r k = absurd (none_is_some {x = r} k)

  -- so is a new channel
  new_less : (n : Counts) (p : Process) (c : ℕ) (r : Process) → moved n p (deed.New c) ≡ Some r → m r + chan ≤ m p
  new_less n (new b p) c r k =
      let same : m r ≡ m p = ap m (sym (provided_is _ _ r k)) ∙ h.value b.name (val.Chan c) p in
      omega (arith, h.by_new b p)
  new_less n p c r k = absurd (none_is_some {x = r} k)

  -- what follows an action measures no more
  act_less : (n : Counts) (p r : Process) → moved n p deed.Act ≡ Some r → m r + 0 ≤ m p
  act_less n (act e p) r k = let same : m p ≡ m r = ap m (act_goes_on e p r k) in omega (arith, h.by_act e p)
  act_less n p r k = absurd (none_is_some {x = r} k)

  -- what follows a choice measures no more
  if_less : (n : Counts) (p : Process) (b : Bool) (r : Process) → moved n p (deed.If b) ≡ Some r → m r + 0 ≤ m p
  if_less n (branch e f p q) b r k = chosen_less b e f p q r (if_goes_on e f p q b r k)
  if_less n p b r k = absurd (none_is_some {x = r} k)

  -- a deed of a part's own
  pub moved_less : (n : Counts) (p : Process) (d : Deed) (r : Process) → moved n p d ≡ Some r → m r + made_by d ≤ m p
  moved_less n p (deed.Qbit q) r k = qbit_less n p q r k
  moved_less n p (deed.New c) r k = new_less n p c r k
  moved_less n p deed.Act r k = act_less n p r k
  moved_less n p (deed.Add v) r k = of_reduced (val.Num v) p r (add_reduces p (redex_of p) v r refl k)
  moved_less n p (deed.Pick o) r k = of_reduced (val.Gate o) p r (pick_reduces p (redex_of p) o r refl k)
  moved_less n p (deed.Gate o qs) r k = of_reduced val.Unit p r (gate_reduces n p (redex_of p) o qs r refl k)
  moved_less n p (deed.Measure qs u) r k = of_reduced (val.Num u) p r (measure_reduces n p (redex_of p) qs u r refl k)
  moved_less n p (deed.If b) r k = if_less n p b r k
  moved_less n p (deed.Com to c) r k = absurd (none_is_some {x = r} k)

  -- what is left after sending has no more of them
  pub sends_less : (c : ℕ) (p : Process) (s : Sending) → sends_on c p ≡ Some s → m s.rest ≤ m p
  sends_less c (output k es p) s e = let same : m p ≡ m s.rest = ap m (sent_rest c k es p s e) in omega (arith, h.by_output k es p)
  sends_less c p s e = absurd (none_is_some {x = s} e)

  -- what follows an input measures no more
  input_less : (c : ℕ) (vs : List Val) (k : Slot) (bs : List Binder) (p r : Process) → receives_on c vs (input k bs p) ≡ Some r → m r ≤ m p
  input_less c vs (valued (val.Chan l)) bs p r e =
      let same : m r ≡ m p = ap m (sym (provided_is _ _ r e)) ∙ values_same bs vs p in omega arith
  input_less c vs k bs p r e = absurd (none_is_some {x = r} e)

  -- so it is of every receiver
  pub receives_less : (c : ℕ) (vs : List Val) (p r : Process) → receives_on c vs p ≡ Some r → m r ≤ m p
  receives_less c vs (input k bs p) r e = let x = input_less c vs k bs p r e in omega (arith, h.by_input k bs p)
  receives_less c vs p r e = absurd (none_is_some {x = r} e)

-- the need, and the channels left
need_value : (x : ℕ) (v : Val) (p : Process) → need (with_value x v p) ≡ need p
need_value x v nil = refl
need_value x v (par p q) = rw (need_value x v p, need_value x v q) refl
need_value x v (new b p) = need_value x v p
need_value x v (qbit y p) = rw (need_value x v p) refl
need_value x v (act e p) = need_value x v p
need_value x v (input c bs p) = need_value x v p
need_value x v (output c es p) = need_value x v p
need_value x v (branch e f p q) = rw (need_value x v p, need_value x v q) refl

-- a value changes no count of channels
chans_value : (x : ℕ) (v : Val) (p : Process) → chans_in (with_value x v p) ≡ chans_in p
chans_value x v nil = refl
chans_value x v (par p q) = rw (chans_value x v p, chans_value x v q) refl
chans_value x v (new b p) = rw (chans_value x v p) refl
chans_value x v (qbit y p) = chans_value x v p
chans_value x v (act e p) = chans_value x v p
chans_value x v (input c bs p) = chans_value x v p
chans_value x v (output c es p) = chans_value x v p
chans_value x v (branch e f p q) = rw (chans_value x v p, chans_value x v q) refl

-- a result changes no need
need_result : (v : Val) (p : Process) → need (reduced_prefix v p) ≡ need p
need_result v (act e p) = refl
need_result v (output c es p) = refl
need_result v (branch e f p q) = ⊎_elim
    (λ (t : is_some (next_redex e) ≡ true). rw t refl) (λ (t : is_some (next_redex e) ≡ false). rw t refl) (cases_Bool (is_some (next_redex e)))
need_result v p = refl

-- nor a count of channels
chans_result : (v : Val) (p : Process) → chans_in (reduced_prefix v p) ≡ chans_in p
chans_result v (act e p) = refl
chans_result v (output c es p) = refl
chans_result v (branch e f p q) = ⊎_elim
    (λ (t : is_some (next_redex e) ≡ true). rw t refl) (λ (t : is_some (next_redex e) ≡ false). rw t refl) (cases_Bool (is_some (next_redex e)))
chans_result v p = refl

-- the need falls by one with a new qubit
pub need_measures : IsMeasure need 1 0
need_measures = record {
  value = need_value;
  result = need_result;
  by_qbit = λ x p. omega arith;
  by_new = λ b p. omega arith;
  by_act = λ e p. omega arith;
  by_input = λ c bs p. omega arith;
  by_output = λ c es p. omega arith;
  by_first = λ e f p q. omega arith;
  by_other = λ e f p q. omega arith;
}

-- the channels left to make fall by one with a new channel
pub chans_measure : IsMeasure chans_in 0 1
chans_measure = record {
  value = chans_value;
  result = chans_result;
  by_qbit = λ x p. omega arith;
  by_new = λ b p. omega arith;
  by_act = λ e p. omega arith;
  by_input = λ c bs p. omega arith;
  by_output = λ c es p. omega arith;
  by_first = λ e f p q. omega arith;
  by_other = λ e f p q. omega arith;
}

-- needs of processes side by side add up
pub need_adds : AddsUp need
need_adds = record { none = refl; sides = λ p q. refl }

-- so do channels
pub chans_add : AddsUp chans_in
chans_add = record { none = refl; sides = λ p q. refl }
