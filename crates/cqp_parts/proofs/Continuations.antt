-- What goes on behind a prefix, and what a reduced redex leaves.
use Rattle.std.proofs.Common.{◌≡◌, ℕ, true, false, Bool, List, [], ◌∷◌, map, ◌==◌, not, is_some, Option, Some, None, refl, sym, ap, ◌∙◌, ⊎_elim}
use Rattle.std.proofs.lemmas.Bool.{cases_Bool}
use Rattle.std.specs.Option.{option_and_then}
use Rattle.cqp_syntax.specs.declared.op.Op.{Op}
use Rattle.cqp_syntax.specs.declared.val.Val.{Val}
use Rattle.cqp_syntax.specs.declared.val.Val.TheVariants as val
use Rattle.cqp_syntax.specs.Trees.{Slot, valued, Expr, slot, Process, act, input, output, branch}
use Rattle.cqp_syntax.specs.TypeTrees.{TypeTree}
use Rattle.cqp_syntax.specs.Listing.{Listing, type_of_name}
use Rattle.cqp_cells.specs.Config.{flattened}
use Rattle.cqp_cells.specs.Redex.{Redex, sum, pick, gate, look, redex_of, reduced_prefix, next_redex, values_of, qubits_of}
use Rattle.cqp_syntax.specs.Substitution.{with_value, with_values}
use Rattle.cqp_cells.specs.Moves.{provided, Counts, by_act, by_if, by_add, by_pick, by_gate, by_gate_on, by_measure, by_measure_on, Sending, sends_with}
use Rattle.cqp_cells.specs.Moves.{sends_on, receives_on}
use Rattle.cqp_parts.specs.Parts.{with_bindings, bound_to}
use Rattle.cqp_cells.proofs.Options.{none_is_some, same_some}

-- what was provided is what there is
pub provided_is : {X : Type 0} (b : Bool) (x y : X) → provided b x ≡ Some y → x ≡ y
provided_is true x y h = same_some {x = x} {y = y} h
provided_is false x y h = absurd (none_is_some {x = y} h)

-- what was provided passed the test
pub provided_true : {X : Type 0} (b : Bool) (x y : X) → provided b x ≡ Some y → b ≡ true
provided_true true x y h = refl
provided_true false x y h = absurd (none_is_some {x = y} h)

-- an action goes on with its continuation
pub act_goes_on : (e : Expr) (p r : Process) → by_act (act e p) ≡ Some r → p ≡ r
act_goes_on (slot (valued v)) p r h = same_some {x = p} {y = r} h
act_goes_on e p r h = absurd (none_is_some {x = r} h)

-- the first or the second continuation
abbrev pub chosen : Bool → Process → Process → Process
chosen true p q = p
chosen false p q = q

-- a choice goes on with the branch that is taken
pub if_goes_on : (e f : Expr) (p q : Process) (b : Bool) (r : Process) → by_if (branch e f p q) b ≡ Some r → chosen b p q ≡ r
if_goes_on (slot (valued (val.Num u))) (slot (valued (val.Num w))) p q true r h = provided_is (u == w) p r h
if_goes_on (slot (valued (val.Num u))) (slot (valued (val.Num w))) p q false r h = provided_is (not (u == w)) q r h
if_goes_on e f p q b r h = absurd (none_is_some {x = r} h)

-- an output with these values goes on with its continuation
sent_on : (k chan : ℕ) (p : Process) (vs : Option (List Val)) (s : Sending)
    → option_and_then (λ s. provided (k == chan) s) (sends_with p vs) ≡ Some s → p ≡ s.rest
sent_on k chan p (Some vs) s h = ap (λ t. t.rest) (provided_is (k == chan) (record { values = vs; rest = p }) s h)
sent_on k chan p None s h = absurd (none_is_some {x = s} h)

-- so does an output on a channel
pub sent_rest : (chan : ℕ) (c : Slot) (es : List Expr) (p : Process) (s : Sending) → sends_on chan (output c es p) ≡ Some s → p ≡ s.rest
sent_rest chan (valued (val.Chan k)) es p s h = sent_on k chan p (values_of es) s h
sent_rest chan c es p s h = absurd (none_is_some {x = s} h)

-- values for the names of an input are bindings
values_bound : (ty : ℕ → TypeTree) (xs : List ℕ) (vs : List Val) (p : Process)
    → with_values (map (λ x. record { name = x; ty = ty x }) xs) vs p ≡ with_bindings (bound_to xs vs) p
values_bound ty [] vs p = refl
values_bound ty (x ∷ xs) [] p = refl
values_bound ty (x ∷ xs) (v ∷ vs) p = values_bound ty xs vs (with_value x v p)

-- an input goes on with the values bound to its names
pub received_rest : (l : Listing) (chan : ℕ) (xs : List ℕ) (vs : List Val) (c : Slot) (p r : Process)
    → receives_on chan vs (input c (map (λ x. record { name = x; ty = type_of_name l x }) xs) p) ≡ Some r → with_bindings (bound_to xs vs) p ≡ r
received_rest l chan xs vs (valued (val.Chan k)) p r h = sym (values_bound (type_of_name l) xs vs p) ∙ provided_is _ _ r h
received_rest l chan xs vs c p r h = absurd (none_is_some {x = r} h)

-- a process that is a prefix stands alone, with a redex reduced too
prefix_alone : (v : Val) (p : Process) (x : Redex) → redex_of p ≡ Some x → flattened (reduced_prefix v p) ≡ reduced_prefix v p ∷ []
prefix_alone v (act e p) x h = refl
prefix_alone v (output c es p) x h = refl
prefix_alone v (branch e f p q) x h = ⊎_elim
    (λ (t : is_some (next_redex e) ≡ true). rw t refl)
    (λ (t : is_some (next_redex e) ≡ false). rw t refl)
    (cases_Bool (is_some (next_redex e)))
prefix_alone v p x h = absurd (none_is_some {x = x} h)

-- what a deed that reduces a redex leaves
pub record Reduces (v : Val) (p r : Process) : Type 0 where
  pub is : reduced_prefix v p ≡ r
  pub alone : flattened r ≡ r ∷ []

-- a redex whose result is put in leaves a process that stands alone
reduces : (v : Val) (p r : Process) (x : Redex) → redex_of p ≡ Some x → reduced_prefix v p ≡ r → Reduces v p r
reduces v p r x h e = record { is = e; alone = ap flattened (sym e) ∙ (prefix_alone v p x h ∙ ap (λ t. t ∷ []) e) }

-- an addition puts its sum in
pub add_reduces : (p : Process) (o : Option Redex) (v : ℕ) (r : Process) → redex_of p ≡ o → by_add p o v ≡ Some r → Reduces (val.Num v) p r
add_reduces p (Some (sum (slot (valued (val.Num u))) (slot (valued (val.Num w))))) v r k h = reduces (val.Num v) p r _ k (provided_is _ _ r h)
add_reduces p o v r k h = absurd (none_is_some {x = r} h)

-- a pick puts its gate in
pub pick_reduces : (p : Process) (o : Option Redex) (u : Op) (r : Process) → redex_of p ≡ o → by_pick p o u ≡ Some r → Reduces (val.Gate u) p r
pick_reduces p (Some (pick (slot (valued (val.Num w))))) u r k h = reduces (val.Gate u) p r _ k (provided_is _ _ r h)
pick_reduces p o u r k h = absurd (none_is_some {x = r} h)

-- a gate on qubits that are known puts `unit` in
gate_on_reduces : (n : Counts) (p : Process) (x : Redex) (rs : Option (List ℕ)) (o u : Op) (qs : List ℕ) (r : Process) → redex_of p ≡ Some x
    → by_gate_on n p rs o u qs ≡ Some r → Reduces val.Unit p r
gate_on_reduces n p x (Some rs) o u qs r k h = reduces val.Unit p r x k (provided_is _ _ r h)
gate_on_reduces n p x None o u qs r k h = absurd (none_is_some {x = r} h)

-- so does a gate
pub gate_reduces : (n : Counts) (p : Process) (o : Option Redex) (u : Op) (qs : List ℕ) (r : Process) → redex_of p ≡ o → by_gate n p o u qs ≡ Some r
    → Reduces val.Unit p r
gate_reduces n p (Some (gate ss (slot (valued (val.Gate o))))) u qs r k h = gate_on_reduces n p _ (qubits_of ss) o u qs r k h
gate_reduces n p o u qs r k h = absurd (none_is_some {x = r} h)

-- a measurement of qubits that are known puts its outcome in
measure_on_reduces : (n : Counts) (p : Process) (x : Redex) (rs : Option (List ℕ)) (qs : List ℕ) (m : ℕ) (r : Process) → redex_of p ≡ Some x
    → by_measure_on n p rs qs m ≡ Some r → Reduces (val.Num m) p r
measure_on_reduces n p x (Some rs) qs m r k h = reduces (val.Num m) p r x k (provided_is _ _ r h)
measure_on_reduces n p x None qs m r k h = absurd (none_is_some {x = r} h)

-- so does a measurement
pub measure_reduces : (n : Counts) (p : Process) (o : Option Redex) (qs : List ℕ) (m : ℕ) (r : Process) → redex_of p ≡ o → by_measure n p o qs m ≡ Some r
    → Reduces (val.Num m) p r
measure_reduces n p (Some (look ss)) qs m r k h = measure_on_reduces n p _ (qubits_of ss) qs m r k h
measure_reduces n p o qs m r k h = absurd (none_is_some {x = r} h)
