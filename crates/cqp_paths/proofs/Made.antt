-- What the context of all that was made says of slots.
use Rattle.std.proofs.Common.{◌≡◌, ℕ, zero, suc, ◌<◌, List, [], ◌∷◌, length, Bool, true, false, refl, sym, ap, ◌∙◌, arith, subst}
use Rattle.std.specs.Prelude.{Some, if◌then◌else◌, ◌==◌}
use Rattle.std.proofs.lemmas.Bool.Decides.{nat_tests}
use Rattle.cqp_syntax.specs.declared.val.Val.TheVariants as val
use Rattle.cqp_syntax.specs.TypeTrees.{TypeTree, TypeTrees, qbit_type, chan_type}
use Rattle.cqp_syntax.specs.Trees.{Slot, named, valued}
use Rattle.cqp_types.specs.Contexts.{entry_type, Has}
use Rattle.cqp_paths.specs.Made.{qubit_slot, chan_slot, qubits_below, made}
use Rattle.cqp_cells.proofs.Options.{none_is_some}

-- a qubit that has a type was made, and has type Qbit
qubit_below : (n q : ℕ) (t : TypeTree) → entry_type (qubits_below n) (qubit_slot q) ≡ Some t → (q < n) × (t ≡ qbit_type)
qubit_below zero q t h = absurd (none_is_some h)
qubit_below (suc n) q t h = by_test (n == q) refl h (qubit_below n q t)
  where
    by_test : (b : Bool) → (n == q) ≡ b → (if b then Some qbit_type else entry_type (qubits_below n) (qubit_slot q)) ≡ Some t
        → (entry_type (qubits_below n) (qubit_slot q) ≡ Some t → (q < n) × (t ≡ qbit_type)) → (q < suc n) × (t ≡ qbit_type)
    by_test true same g more = let is : n ≡ q = grind (arith, nat_tests) in let low : q < suc n = omega arith in (low, cc)
    by_test false other g more = let rest = more g in let less : q < n = rest.0 in let low : q < suc n = omega arith in (low, rest.1)

-- a qubit that has a type among all that was made is below the count, and has type Qbit
pub made_qubit : (n : ℕ) (ts : List TypeTrees) (q : ℕ) (t : TypeTree) → Has (made n ts) (qubit_slot q) t → (q < n) × (t ≡ qbit_type)
made_qubit n [] q t h = qubit_below n q t h
made_qubit n (us ∷ ts) q t h = made_qubit n ts q t h

-- no channel has a type among qubits
no_channel : (n k : ℕ) (t : TypeTree) → entry_type (qubits_below n) (chan_slot k) ≡ Some t → ⊥
no_channel zero k t h = none_is_some h
no_channel (suc n) k t h = no_channel n k t h

-- a channel that has a type among all that was made is below the count
pub made_chan : (n : ℕ) (ts : List TypeTrees) (k : ℕ) (t : TypeTree) → Has (made n ts) (chan_slot k) t → k < length ts
made_chan n [] k t h = absurd (no_channel n k t h)
made_chan n (us ∷ ts) k t h = by_test (length ts == k) refl h (made_chan n ts k t)
  where
    by_test : (b : Bool) → (length ts == k) ≡ b → (if b then Some (chan_type us) else entry_type (made n ts) (chan_slot k)) ≡ Some t
        → (entry_type (made n ts) (chan_slot k) ≡ Some t → k < length ts) → k < suc (length ts)
    by_test true same g more = let is : length ts ≡ k = grind (arith, nat_tests) in omega arith
    by_test false other g more = let less : k < length ts = more g in omega arith

-- a channel that has a type among all that was made carries some types
pub made_carries : (n : ℕ) (ts : List TypeTrees) (k : ℕ) (t : TypeTree) → Has (made n ts) (chan_slot k) t → (us : TypeTrees) × (t ≡ chan_type us)
made_carries n [] k t h = absurd (no_channel n k t h)
made_carries n (us ∷ ts) k t h = by_test (length ts == k) h (made_carries n ts k t)
  where
    by_test : (b : Bool) → (if b then Some (chan_type us) else entry_type (made n ts) (chan_slot k)) ≡ Some t
        → (entry_type (made n ts) (chan_slot k) ≡ Some t → (vs : TypeTrees) × (t ≡ chan_type vs)) → (vs : TypeTrees) × (t ≡ chan_type vs)
    by_test true g more = (us, cc)
    by_test false g more = more g

-- no name has a type among qubits
no_name : (n x : ℕ) (t : TypeTree) → entry_type (qubits_below n) (named x) ≡ Some t → ⊥
no_name zero x t h = none_is_some h
no_name (suc n) x t h = no_name n x t h

-- no name has a type among all that was made
pub made_name : (n : ℕ) (ts : List TypeTrees) (x : ℕ) (t : TypeTree) → Has (made n ts) (named x) t → ⊥
made_name n [] x t h = no_name n x t h
made_name n (us ∷ ts) x t h = made_name n ts x t h

-- each qubit below n has type Qbit among the qubits below n
has_below : (n q : ℕ) → q < n → entry_type (qubits_below n) (qubit_slot q) ≡ Some qbit_type
has_below zero q less = absurd (wrong less)
  where
    wrong : q < 0 → ⊥
    wrong h = omega arith
has_below (suc n) q less = by_test (n == q) refl (has_below n q)
  where
    by_test : (b : Bool) → (n == q) ≡ b → (q < n → entry_type (qubits_below n) (qubit_slot q) ≡ Some qbit_type)
        → (if b then Some qbit_type else entry_type (qubits_below n) (qubit_slot q)) ≡ Some qbit_type
    by_test true same more = refl
    by_test false other more = let low : q < n = grind (arith, nat_tests) in more low

-- each qubit below the count has type Qbit among all that was made
pub has_qubit : (n : ℕ) (ts : List TypeTrees) (q : ℕ) → q < n → Has (made n ts) (qubit_slot q) qbit_type
has_qubit n [] q less = has_below n q less
has_qubit n (us ∷ ts) q less = has_qubit n ts q less

-- the channel that is made next has the type that it is given
pub has_new_chan : (n : ℕ) (us : TypeTrees) (ts : List TypeTrees) → Has (made n (us ∷ ts)) (chan_slot (length ts)) (chan_type us)
has_new_chan n us ts = let same : (length ts == length ts) ≡ true = grind (arith, nat_tests) in rw same refl

-- a qubit more says nothing of channels
same_chans : (n k : ℕ) (ts : List TypeTrees) → entry_type (made (suc n) ts) (chan_slot k) ≡ entry_type (made n ts) (chan_slot k)
same_chans n k [] = refl
same_chans n k (us ∷ ts) = ap (λ o. if length ts == k then Some (chan_type us) else o) (same_chans n k ts)

-- what has a type has it with one more qubit too
pub more_qubits : (n : ℕ) (ts : List TypeTrees) (s : Slot) (t : TypeTree) → Has (made n ts) s t → Has (made (suc n) ts) s t
more_qubits n ts (named x) t h = absurd (made_name n ts x t h)
more_qubits n ts (valued (val.Qubit q)) t h =
    let known = made_qubit n ts q t h in
    let less : q < n = known.0 in
    subst (λ u. Has (made (suc n) ts) (qubit_slot q) u) (sym known.1) (has_qubit (suc n) ts q (omega arith))
more_qubits n ts (valued (val.Chan k)) t h = same_chans n k ts ∙ h
more_qubits n ts (valued v) t h = h

-- what has a type has it with one more channel too
pub more_chans : (n : ℕ) (us : TypeTrees) (ts : List TypeTrees) (s : Slot) (t : TypeTree) → Has (made n ts) s t → Has (made n (us ∷ ts)) s t
more_chans n us ts (named x) t h = h
more_chans n us ts (valued (val.Qubit q)) t h = h
more_chans n us ts (valued (val.Chan k)) t h =
    let less : k < length ts = made_chan n ts k t h in
    let other : (length ts == k) ≡ false = grind (arith, nat_tests) in
    rw other h
more_chans n us ts (valued v) t h = h
