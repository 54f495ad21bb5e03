-- Each row of one part keeps what is kept.
use Rattle.std.proofs.Common.{◌≡◌, ℕ, suc, ◌+◌, ◌<◌, ◌≤◌, List, [], ◌∷◌, map, Bool, true, false, refl, sym, ◌∙◌, subst, ◌⊎◌, inl, inr, arith}
use Rattle.std.specs.Prelude.{Some, ◌==◌}
use Rattle.std.proofs.lemmas.Bool.Decides.{nat_tests}
use Rattle.cqp_syntax.specs.declared.val.Val.{Val}
use Rattle.cqp_syntax.specs.declared.val.Val.TheVariants as val
use Rattle.cqp_syntax.specs.TypeTrees.{TypeTree, TypeTrees, qbit_type, chan_type}
use Rattle.cqp_syntax.specs.Trees.{Slot, named, valued, Binder, Process, new, qbit}
use Rattle.cqp_syntax.specs.Binders.{binders_of, HasDistinctBinders}
use Rattle.cqp_syntax.specs.Free.{is_among, free_slots}
use Rattle.cqp_syntax.specs.Substitution.{with_value}
use Rattle.cqp_types.specs.Contexts.{Context, Has, binding}
use Rattle.cqp_types.specs.Derivations.{Derives, new_, qbit_}
use Rattle.cqp_syntax.proofs.Slots.{stays_among}
use Rattle.cqp_types.specs.Laws.{Unbound}
use Rattle.cqp_types.proofs.Puts.{value_free}
use Rattle.cqp_types.proofs.Sent.{false_unless}
use Rattle.cqp_types.proofs.ValueForName.{value_for_name}
use Rattle.cqp_trace.specs.declared.deed.Deed.TheVariants as deed
use Rattle.cqp_vector.specs.State.{grown}
use Rattle.cqp_cells.specs.Config.{Config, part_at}
use Rattle.cqp_syntax.specs.Lists.{is_distinct}
use Rattle.cqp_paths.specs.Invariant.{IsKept, IsInvariant, held}
use Rattle.cqp_paths.specs.Made.{made}
use Rattle.cqp_cells.specs.Owners.{holds}
use Rattle.cqp_cells.specs.Rows.{alone_after}
use Rattle.cqp_cells.specs.Size.{total}
use Rattle.cqp_paths.proofs.Made.{has_qubit, has_new_chan, more_qubits, more_chans}
use Rattle.cqp_paths.proofs.PutValues.{binders_of-with_value, first_unbound, put_holds}
use Rattle.cqp_paths.proofs.Continued.{held_less, held_made, none_held, well_continued, qubit_kept, chan_kept}

-- what is free below a binder of a name is free above it, if it is a value
value_above : (v : Val) (b : Binder) (p : Process) → is_among (valued v) (free_slots p) ≡ true → is_among (valued v) (free_slots (new b p)) ≡ true
value_above v b p h = stays_among (valued v) (named b.name ∷ []) (free_slots p) (value_free v (b ∷ [])) h

-- a value that is free below a binder of a qubit is free above it
value_above_qbit : (v : Val) (x : ℕ) (p : Process) → is_among (valued v) (free_slots p) ≡ true → is_among (valued v) (free_slots (qbit x p)) ≡ true
value_above_qbit v x p h = let b : Binder = record { name = x; ty = qbit_type } in stays_among (valued v) (named x ∷ []) (free_slots p)
    (value_free v (b ∷ [])) h

-- what is kept is kept by the row of a new qubit
pub qbit_row_kept : (carried : List TypeTrees) (c : Config) → IsKept carried c → (i x : ℕ) (p : Process) (q : ℕ) → q ≡ c.state.qubits
    → part_at i c.parts ≡ Some (qbit x p)
    → Derives (made c.state.qubits carried) (qbit x p) → HasDistinctBinders (qbit x p) → IsKept carried (alone_after c i (qbit x p) (deed.Qbit q))
qbit_row_kept carried c inv i x p q same at d names = well_continued carried (record c { state = grown c.state }) (qubit_kept carried c inv) i (qbit x p)
    (with_value x (val.Qubit q) p) at typed binders less
  where
    n : ℕ
    n = c.state.qubits

    b : Binder
    b = record { name = x; ty = qbit_type }

    first : Unbound x (binders_of p) × HasDistinctBinders p
    first = first_unbound b (binders_of p) names

    body : Derives (binding (b ∷ []) (made n carried)) p
    body = of_qbit d
      where
        of_qbit : {g : Context} {y : ℕ} {r : Process} → Derives g (qbit y r) → Derives (binding (record { name = y; ty = qbit_type } ∷ []) g) r
        of_qbit (qbit_ e) = e

    up : suc n ≡ n + 1
    up = omega arith

    more : (s : Slot) (t : TypeTree) → Has (made n carried) s t → Has (made (n + 1) carried) s t
    more s t h = subst (λ m. Has (made m carried) s t) up (more_qubits n carried s t h)

    here : Has (made (n + 1) carried) (valued (val.Qubit q)) qbit_type
    here = has_qubit (n + 1) carried q (omega (arith, same))

    unheld : holds q (qbit x p) ≡ true → ⊥
    unheld h = let less : q < n = held_made n carried q d h in omega (arith, same, less)

    unused : is_among (valued (val.Qubit q)) (free_slots p) ≡ false
    unused = false_unless (is_among (valued (val.Qubit q)) (free_slots p)) (λ h. unheld (value_above_qbit (val.Qubit q) x p h))

    typed : Derives (made (n + 1) carried) (with_value x (val.Qubit q) p)
    typed = value_for_name (made n carried) (made (n + 1) carried) b (val.Qubit q) more (record { typed = here; fresh = λ e. unused }) first.0 body

    binders : HasDistinctBinders (with_value x (val.Qubit q) p)
    binders = subst (λ bs. is_distinct (map (λ b. b.name) bs) ≡ true) (sym (binders_of-with_value x (val.Qubit q) p)) first.1

    less : (r : ℕ) → (held r (with_value x (val.Qubit q) p) ≤ held r (qbit x p)) ⊎ (total (held r) c.parts ≡ 0)
    less r = by_test (r == q) refl
      where
        by_test : (t : Bool) → (r == q) ≡ t → (held r (with_value x (val.Qubit q) p) ≤ held r (qbit x p)) ⊎ (total (held r) c.parts ≡ 0)
        by_test true e =
            let is : r ≡ q = grind (arith, nat_tests) in
            inr (none_held n carried r (omega (arith, same, is)) c.parts inv.typed)
        by_test false e = inl (held_less r (with_value x (val.Qubit q) p) (qbit x p) (λ h. of_either (put_holds r x (val.Qubit q) p first.0 h)))
          where
            of_either : (holds r p ≡ true) ⊎ (valued (val.Qubit q) ≡ valued (val.Qubit r)) → holds r (qbit x p) ≡ true
            of_either (inl h) = value_above_qbit (val.Qubit r) x p h
            of_either (inr w) = let is : q ≡ r = cc in absurd (other is)
              where
                other : q ≡ r → ⊥
                other is = grind (arith, nat_tests)

-- a derivation of a new channel gives what the channel carries, and types the body below its binder
of_new : {g : Context} {b : Binder} {p : Process} → Derives g (new b p) → (ts : TypeTrees) × (b.ty ≡ chan_type ts) × Derives (binding (b ∷ []) g) p
of_new (new_ {ts = ts} d) = (ts, refl, d)

-- the invariant is kept by the row of a new channel
pub new_row_kept : (carried : List TypeTrees) (c : Config) → IsKept carried c → (i : ℕ) (b : Binder) (p : Process) (k : ℕ) → k ≡ c.chans
    → part_at i c.parts ≡ Some (new b p)
    → Derives (made c.state.qubits carried) (new b p) → HasDistinctBinders (new b p) → IsInvariant (alone_after c i (new b p) (deed.New k))
new_row_kept carried c inv i b p k same at d names = let parts = of_new d in of_body parts.0 parts.1 parts.2
  where
    n : ℕ
    n = c.state.qubits

    first : Unbound b.name (binders_of p) × HasDistinctBinders p
    first = first_unbound b (binders_of p) names

    less : (r : ℕ) → (held r (with_value b.name (val.Chan k) p) ≤ held r (new b p)) ⊎ (total (held r) c.parts ≡ 0)
    less r = inl (held_less r (with_value b.name (val.Chan k) p) (new b p) (λ h. of_either (put_holds r b.name (val.Chan k) p first.0 h)))
      where
        of_either : (holds r p ≡ true) ⊎ (valued (val.Chan k) ≡ valued (val.Qubit r)) → holds r (new b p) ≡ true
        of_either (inl h) = value_above (val.Qubit r) b p h
        of_either (inr w) = absurd (cc w)

    binders : HasDistinctBinders (with_value b.name (val.Chan k) p)
    binders = subst (λ bs. is_distinct (map (λ b. b.name) bs) ≡ true) (sym (binders_of-with_value b.name (val.Chan k) p)) first.1

    of_body : (ts : TypeTrees) → b.ty ≡ chan_type ts → Derives (binding (b ∷ []) (made n carried)) p → IsInvariant (alone_after c i (new b p) (deed.New k))
    of_body ts is body =
        let h : Context = made n (ts ∷ carried) in
        let here : Has h (valued (val.Chan k)) b.ty =
        subst (λ t. Has h (valued (val.Chan k)) t) (sym is) (subst (λ j. Has h (valued (val.Chan j)) (chan_type ts)) (inv.count
        ∙ sym same) (has_new_chan n ts carried)) in
        let typed : Derives h (with_value b.name (val.Chan k) p) =
        value_for_name (made n carried) h b (val.Chan k) (λ s t g. more_chans n ts carried s t g)
        (record { typed = here; fresh = λ e. absurd (differ is e) }) first.0 body in
        let after =
        well_continued (ts ∷ carried) (record c { chans = c.chans + 1 }) (chan_kept carried c ts inv) i (new b p)
        (with_value b.name (val.Chan k) p) at typed binders less in
        record { carried = ts ∷ carried; kept = after }
      where
        differ : b.ty ≡ chan_type ts → b.ty ≡ qbit_type → ⊥
        differ e f = cc
