-- No operand of a typed part is wrong.
use Rattle.std.proofs.Common.{◌≡◌, ℕ, ◌<◌, List, [], ◌∷◌, map, length, Bool, true, false, not, ◌||◌, ◌==◌, refl, sym, ap, ◌∙◌, subst, arith}
use Rattle.std.specs.Prelude.{Some, None, Option, nat_lt}
use Rattle.std.specs.List.{list_any, list_all}
use Rattle.std.proofs.lemmas.Bool.Decides.{nat_tests}
use Rattle.cqp_syntax.specs.declared.val.Val.TheVariants as val
use Rattle.cqp_syntax.specs.TypeTrees.{TypeTree, TypeTrees, qbit_type, chan_type}
use Rattle.cqp_syntax.specs.Trees.{Slot, named, valued, Expr, slot, Process}
use Rattle.cqp_syntax.specs.Free.{is_among}
use Rattle.cqp_types.specs.Contexts.{Context, Has, is_twice, leaving}
use Rattle.cqp_types.specs.Derivations.{AreQubits, HasType, slot_, sig_, add_, apply_, measure_, sent_under, Fits, no_argument, sent_name, other_argument}
use Rattle.cqp_types.specs.Derivations.{Derives, nil_, par_, new_, qbit_, act_, input_, output_, branch_}
use Rattle.cqp_syntax.proofs.Bools.{neither}
use Rattle.cqp_types.proofs.ContextLaws.{kept_in}
use Rattle.cqp_cells.specs.Redex.{Redex, sum, pick, gate, or_else, next_redex, next_redex_of, redex_of, with_first, qubits_of}
use Rattle.cqp_syntax.specs.Lists.{is_distinct}
use Rattle.cqp_cells.specs.Moves.{are_operands}
use Rattle.cqp_cells.specs.Operands.{is_name, is_number, is_gate_with, are_qubits, name_left_in, no_number_in}
use Rattle.cqp_cells.specs.Operands.{no_qubit_in, no_gate_in}
use Rattle.cqp_cells.proofs.Options.{none_is_some, same_some}
use Rattle.cqp_paths.proofs.Values.{IsUnder, int_done, op_done, only_one}

-- what is asked of a redex holds
pub record IsRight (n : ℕ) (r : Redex) : Type 0 where
  pub no_name : name_left_in r ≡ false
  pub numbers : no_number_in r ≡ false
  pub qubits : no_qubit_in n r ≡ false
  pub operator : no_gate_in r ≡ false

-- slots that hold these qubits
abbrev qubit_slots : List ℕ → List Slot
qubit_slots qs = map (λ q. valued (val.Qubit q)) qs

-- slots of type Qbit hold qubits
qubits_in : {n : ℕ} {g : Context} → IsUnder n g → (ss : List Slot) → AreQubits g ss → (qs : List ℕ) × (ss ≡ qubit_slots qs)
qubits_in under [] all = ([], refl)
qubits_in under (named x ∷ ss) all = absurd (under.no_name x qbit_type all.0)
qubits_in under (valued (val.Qubit q) ∷ ss) all = let (qs, is) = qubits_in under ss all.1 in (q ∷ qs, ap (λ ts. valued (val.Qubit q) ∷ ts) is)
qubits_in under (valued (val.Chan k) ∷ ss) all = absurd (wrong (under.chan k qbit_type all.0))
  where
    wrong : (us : TypeTrees) × (qbit_type ≡ chan_type us) → ⊥
    wrong (us, e) = cc
qubits_in under (valued v ∷ ss) all = absurd (cc all.0)

-- qubits that are typed were made
all_below : {n : ℕ} {g : Context} → IsUnder n g → (qs : List ℕ) → AreQubits g (qubit_slots qs) → list_all (λ q. nat_lt q n) qs ≡ true
all_below under [] all = refl
all_below {n} under (q ∷ qs) all =
    let less : q < n = under.below q qbit_type all.0 in
    let test : nat_lt q n ≡ true = grind (arith, nat_tests) in
    rw test (all_below under qs all.1)

-- among slots that hold qubits there is no name
no_names : (qs : List ℕ) → list_any is_name (qubit_slots qs) ≡ false
no_names [] = refl
no_names (q ∷ qs) = no_names qs

-- the qubits in slots that hold them are found
found : (qs : List ℕ) → qubits_of (qubit_slots qs) ≡ Some qs
found [] = refl
found (q ∷ qs) = ap (λ o. with_first q o) (found qs)

-- a qubit is among slots that hold qubits exactly where its number is among theirs
same_test : (q : ℕ) (qs : List ℕ) → is_among (valued (val.Qubit q)) (qubit_slots qs) ≡ list_any (λ r. q == r) qs
same_test q [] = refl
same_test q (r ∷ qs) = ap (λ b. (q == r) || b) (same_test q qs)

-- slots of which none stands twice hold distinct qubits
distinct : (qs : List ℕ) → is_twice (qubit_slots qs) ≡ false → is_distinct qs ≡ true
distinct [] once = refl
distinct (q ∷ qs) once =
    let both = neither (is_among (valued (val.Qubit q)) (qubit_slots qs)) (is_twice (qubit_slots qs)) once in
    let none : list_any (λ r. q == r) qs ≡ false = sym (same_test q qs) ∙ both.0 in
    rw none (distinct qs both.1)

-- operands that are typed are distinct qubits that were made
right_qubits : {n : ℕ} {g : Context} (ss : List Slot) → IsUnder n g → is_twice ss ≡ false → AreQubits g ss
    → (are_qubits n (qubits_of ss) ≡ true) × (list_any is_name ss ≡ false)
right_qubits {n} {g} ss under once all =
    let (qs, is) = qubits_in under ss all in
    let apart : is_distinct qs ≡ true = distinct qs (subst (λ ts. is_twice ts ≡ false) is once) in
    let below : list_all (λ q. nat_lt q n) qs ≡ true = all_below under qs (subst (λ ts. AreQubits g ts) is all) in
    let made_ : are_operands n qs ≡ true = rw apart below in
    (ap (λ ts. are_qubits n (qubits_of ts)) is ∙ ap (λ o. are_qubits n o) (found qs) ∙ made_, ap (λ ts. list_any is_name ts) is ∙ no_names qs)

-- the negation of a test that passes fails
not_yes : (b : Bool) → b ≡ true → not b ≡ false
not_yes b e = rw e refl

-- what is right of a redex is right of the same redex
right_is : {n : ℕ} {r s : Redex} → IsRight n r → Some r ≡ Some s → IsRight n s
right_is {n} right e = subst (IsRight n) (same_some e) right

-- the redex of a typed expression is right
redex_right : {n : ℕ} {g : Context} {e : Expr} {t : TypeTree} (r : Redex) → IsUnder n g → HasType g e t → next_redex e ≡ Some r → IsRight n r
redex_right {n} r under (slot_ {g = g} {s = s} {t = t} is) h = of_slot s is h
  where
    of_slot : (s : Slot) → Has g s t → next_redex (slot s) ≡ Some r → IsRight n r
    of_slot (named x) has k = absurd (under.no_name x t has)
    of_slot (valued v) has k = absurd (none_is_some k)
redex_right {n} r under (sig_ {g = g} {e = e} d) h = by_sig (next_redex e) refl h (λ k. redex_right r under d k)
  where
    by_sig : (o : Option Redex) → next_redex e ≡ o → or_else o (Some (pick e)) ≡ Some r → (next_redex e ≡ Some r → IsRight n r) → IsRight n r
    by_sig None at k more = right_is (record { no_name = refl; numbers = not_yes (is_number e) (int_done under d at); qubits = refl; operator = refl }) k
    by_sig (Some s) at k more = more (at ∙ k)
redex_right {n} r under (add_ {g = g} {e = e} {f = f} a b) h = by_left (next_redex e) (next_redex f) refl refl h (λ k. redex_right r under a k)
    (λ k. redex_right r under b k)
  where
    by_left : (o u : Option Redex) → next_redex e ≡ o → next_redex f ≡ u → or_else o (or_else u (Some (sum e f))) ≡ Some r
        → (next_redex e ≡ Some r → IsRight n r) → (next_redex f ≡ Some r → IsRight n r) → IsRight n r
    by_left None None at there k left right =
        let one : is_number e ≡ true = int_done under a at in
        let two : is_number f ≡ true = int_done under b there in
        let both : (not (is_number e) || not (is_number f)) ≡ false = rw one (rw two refl) in
        right_is (record { no_name = refl; numbers = both; qubits = refl; operator = refl }) k
    by_left None (Some s) at there k left right = right (there ∙ k)
    by_left (Some s) u at there k left right = left (at ∙ k)
redex_right {n} r under (apply_ {g = g} {qs = qs} {e = e} {n = m} once qubits many d) h = by_operator (next_redex e) refl h (λ k. redex_right r under d k)
  where
    by_operator : (o : Option Redex) → next_redex e ≡ o → or_else o (Some (gate qs e)) ≡ Some r → (next_redex e ≡ Some r → IsRight n r) → IsRight n r
    by_operator None at k more =
        let operands = right_qubits qs under once qubits in
        let places : is_gate_with (length qs) e ≡ true = subst (λ j. is_gate_with j e ≡ true) many (op_done m under d at) in
        right_is (record {
          no_name = operands.1;
          numbers = refl;
          qubits = not_yes (are_qubits n (qubits_of qs)) operands.0;
          operator = not_yes
              (is_gate_with (length qs) e) places;
        }) k
    by_operator (Some s) at k more = more (at ∙ k)
redex_right {n} r under (measure_ {g = g} {qs = qs} once qubits) h =
    let operands = right_qubits qs under once qubits in
    right_is (record { no_name = operands.1; numbers = refl; qubits = not_yes (are_qubits n (qubits_of qs)) operands.0; operator = refl }) h

-- the redex of typed arguments is right
argument_right : {n : ℕ} {g rest : Context} {es : List Expr} {ts : TypeTrees} (r : Redex) → IsUnder n g → IsUnder n rest → Fits g rest es ts
    → next_redex_of es ≡ Some r → IsRight n r
argument_right r under left no_argument h = absurd (none_is_some h)
argument_right {n} r under left (sent_name {g = g} {rest = rest} {s = s} {es = es} is more) h = of_slot s is h (λ k. argument_right r under left more k)
  where
    of_slot : (s : Slot) → Has g s qbit_type → next_redex_of (slot s ∷ es) ≡ Some r → (next_redex_of es ≡ Some r → IsRight n r) → IsRight n r
    of_slot (named x) has k go = absurd (under.no_name x qbit_type has)
    of_slot (valued v) has k go = go k
argument_right {n} r under left (other_argument {e = e} {es = es} unsent d more) h = by_first (next_redex e) refl h (λ k. argument_right r under left more k)
  where
    by_first : (o : Option Redex) → next_redex e ≡ o → or_else o (next_redex_of es) ≡ Some r → (next_redex_of es ≡ Some r → IsRight n r) → IsRight n r
    by_first None at k go = go k
    by_first (Some s) at k go = redex_right r left d (at ∙ k)

-- a context has the same form without some slots
under_leaving : {n : ℕ} {g : Context} (taken : List Slot) → IsUnder n g → IsUnder n (leaving taken g)
under_leaving {n} {g} taken under = record {
  no_name = λ x t h. under.no_name x t (kept_in _ g (named x) t h);
  below = λ q t h. under.below q t (kept_in _ g (valued (val.Qubit q)) t h);
  only = λ q t h. under.only q t (kept_in _ g (valued (val.Qubit q)) t h);
  chan = λ k t h. under.chan k t (kept_in _ g (valued (val.Chan k)) t h);
}

-- the next redex of a typed process is right
pub prefix_right : {n : ℕ} {g : Context} {p : Process} (r : Redex) → IsUnder n g → Derives g p → redex_of p ≡ Some r → IsRight n r
prefix_right r under nil_ h = absurd (none_is_some h)
prefix_right r under (par_ splits a b) h = absurd (none_is_some h)
prefix_right r under (new_ d) h = absurd (none_is_some h)
prefix_right r under (qbit_ d) h = absurd (none_is_some h)
prefix_right r under (input_ is d) h = absurd (none_is_some h)
prefix_right r under (act_ {e = e} t d) h = redex_right r under t (only_one (next_redex e) r h)
prefix_right r under (output_ {g = g} {es = es} is once fits d) h = argument_right r under (under_leaving (sent_under g es) under) fits h
prefix_right {n} r under (branch_ {e = e} {f = f} a b c d) h = by_left (next_redex e) (next_redex f) refl refl h
  where
    by_left : (o u : Option Redex) → next_redex e ≡ o → next_redex f ≡ u → or_else o (or_else u None) ≡ Some r → IsRight n r
    by_left None None at there k = absurd (none_is_some k)
    by_left None (Some s) at there k = redex_right r under b (there ∙ k)
    by_left (Some s) u at there k = redex_right r under a (at ∙ k)
