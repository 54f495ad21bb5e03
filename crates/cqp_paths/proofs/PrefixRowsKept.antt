-- Each row of a redex, of an action and of `if` keeps what is kept.
use Rattle.std.proofs.Common.{◌≡◌, ℕ, ◌%◌, List, [], ◌∷◌, ◌++◌, map, Bool, true, false, refl, sym, ap, ◌∙◌, subst, inl}
use Rattle.std.specs.Prelude.{Some, if◌then◌else◌, ◌==◌}
use Rattle.cqp_syntax.specs.declared.op.Op.{Op}
use Rattle.cqp_syntax.specs.declared.op.Op.TheVariants as op
use Rattle.cqp_syntax.specs.declared.val.Val.{Val}
use Rattle.cqp_syntax.specs.declared.val.Val.TheVariants as val
use Rattle.cqp_syntax.specs.Gates.{places_of}
use Rattle.cqp_syntax.specs.TypeTrees.{TypeTrees, op_type}
use Rattle.cqp_syntax.specs.Trees.{valued, Expr, Process, act, branch}
use Rattle.cqp_syntax.specs.Binders.{binders_of, HasDistinctBinders}
use Rattle.cqp_syntax.specs.Free.{free_slots}
use Rattle.cqp_types.specs.Contexts.{Context}
use Rattle.cqp_types.specs.Derivations.{Derives, act_, branch_}
use Rattle.cqp_syntax.proofs.Slots.{among_left, among_right}
use Rattle.cqp_trace.specs.declared.deed.Deed.{Deed}
use Rattle.cqp_trace.specs.declared.entry.Entry.{Entry}
use Rattle.cqp_vector.specs.Gate.{gate_of}
use Rattle.cqp_vector.specs.Measurement.{projected}
use Rattle.cqp_cells.specs.Config.{Config, part_at, continued}
use Rattle.cqp_cells.specs.Redex.{Redex, pick, redex_of, reduced_prefix}
use Rattle.cqp_syntax.specs.Lists.{is_distinct}
use Rattle.cqp_cells.specs.Moves.{picked}
use Rattle.cqp_paths.specs.Invariant.{IsKept, IsInvariant}
use Rattle.cqp_paths.specs.Made.{made}
use Rattle.cqp_cells.specs.Owners.{holds}
use Rattle.cqp_cells.specs.Rows.{Fits, fits_qbit, fits_new, fits_act, fits_add, fits_pick, fits_gate, fits_measure, fits_yes, fits_no, alone_after, IsAlone}
use Rattle.cqp_paths.proofs.Flattening.{binders-append}
use Rattle.cqp_paths.proofs.Reduced.{Replaces}
use Rattle.cqp_paths.proofs.ReducedPrefix.{prefix_typed, prefix_binders, prefix_holds}
use Rattle.cqp_paths.proofs.Parts.{all-part_at}
use Rattle.cqp_paths.proofs.Continued.{held_less, well_continued, state_kept}
use Rattle.cqp_paths.proofs.RowsKept.{qbit_row_kept, new_row_kept}

-- what is kept is kept where a value takes the place of a redex
redex_row_kept : (carried : List TypeTrees) (c : Config) → IsKept carried c → (i : ℕ) (p : Process) (v : Val) (r : Redex) → Replaces v r
    → redex_of p ≡ Some r → part_at i c.parts ≡ Some p
    → IsKept carried (continued i (reduced_prefix v p) c)
redex_row_kept carried c inv i p v r by_ at there =
    well_continued carried c inv i p (reduced_prefix v p) there
    (prefix_typed v r by_ at (all-part_at (Derives (made c.state.qubits carried)) i c.parts p inv.typed there))
    (subst (λ bs. is_distinct (map (λ b. b.name) bs) ≡ true) (sym (prefix_binders v p)) (all-part_at HasDistinctBinders i c.parts p inv.binders there))
    (λ q. inl (held_less q (reduced_prefix v p) p (prefix_holds q v p by_.plain)))

-- a gate that a number picks has one place
picked_places : (u : ℕ) → places_of (picked u) ≡ 1
picked_places u = by_tests (u % 4 == 0) (u % 4 == 1) (u % 4 == 2)
  where
    by_tests : (a b c : Bool) → places_of (if a then op.I else (if b then op.X else (if c then op.Z else op.Y))) ≡ 1
    by_tests true b c = refl
    by_tests false true c = refl
    by_tests false false true = refl
    by_tests false false false = refl

-- a gate that a number picks has the type of the redex that picks it
pick_replaces : (o : Op) (u : ℕ) (e : Expr) → o ≡ picked u → Replaces (val.Gate o) (pick e)
pick_replaces o u e same = record { node = tt; plain = tt; typed = λ g. ap (λ n. Some (op_type n)) (ap places_of same ∙ picked_places u) }

-- what is kept is kept where a part goes on as a typed process that holds no further qubit
pub body_kept : (carried : List TypeTrees) (c : Config) → IsKept carried c → (i : ℕ) (p now : Process) → part_at i c.parts ≡ Some p
    → Derives (made c.state.qubits carried) now → HasDistinctBinders now
    → ((q : ℕ) → holds q now ≡ true → holds q p ≡ true) → IsKept carried (continued i now c)
body_kept carried c inv i p now there typed binders less = well_continued carried c inv i p now there typed binders (λ q. inl (held_less q now p (less q)))

-- the body of a typed action is typed
act_body : {g : Context} {e : Expr} {p : Process} → Derives g (act e p) → Derives g p
act_body (act_ t d) = d

-- the first branch of a typed `if` is typed
first_branch : {g : Context} {e f : Expr} {p r : Process} → Derives g (branch e f p r) → Derives g p
first_branch (branch_ a b c d) = c

-- the second branch of a typed `if` is typed
second_branch : {g : Context} {e f : Expr} {p r : Process} → Derives g (branch e f p r) → Derives g r
second_branch (branch_ a b c d) = d

-- what is kept with some types of channels is the invariant
same_carried : {c : Config} (carried : List TypeTrees) → IsKept carried c → IsInvariant c
same_carried carried kept = record { carried = carried; kept = kept }

-- each row of one part keeps the invariant
pub row_kept : {c : Config} (carried : List TypeTrees) → IsKept carried c → (i : ℕ) {p : Process} {d : Deed} → Fits c.state c.chans p d
    → part_at i c.parts ≡ Some p → IsInvariant (alone_after c i p d)
row_kept {c} carried inv i (fits_qbit {x = x} {p = p} {q = q} same) at =
    same_carried carried (qbit_row_kept carried c inv i x p q same at (all-part_at (Derives (made c.state.qubits carried)) i c.parts _ inv.typed at)
    (all-part_at HasDistinctBinders i c.parts _ inv.binders at))
row_kept {c} carried inv i (fits_new {b = b} {p = p} {k = k} same) at =
    new_row_kept carried c inv i b p k same at (all-part_at (Derives (made c.state.qubits carried)) i c.parts _ inv.typed at)
    (all-part_at HasDistinctBinders i c.parts _ inv.binders at)
row_kept {c} carried inv i (fits_act {v = v} {p = p}) at =
    same_carried carried (body_kept carried c inv i _ p at (act_body (all-part_at (Derives (made c.state.qubits carried)) i c.parts _ inv.typed at))
    (all-part_at HasDistinctBinders i c.parts _ inv.binders at)
    (λ q h. among_right (valued (val.Qubit q)) (valued v ∷ []) (free_slots p) h))
row_kept {c} carried inv i (fits_add {p = p} {v = v} is same) at = same_carried carried
    (redex_row_kept carried c inv i p (val.Num v) _ (record { node = tt; plain = tt; typed = λ g. refl }) is at)
row_kept {c} carried inv i (fits_pick {p = p} {u = u} {o = o} is same) at = same_carried carried
    (redex_row_kept carried c inv i p (val.Gate o) _ (pick_replaces o u _ same) is at)
row_kept {c} carried inv i (fits_gate {p = p} {o = o} {qs = qs} is have places operands) at =
    same_carried carried (redex_row_kept carried (record c { state = gate_of o qs c.state })
    (state_kept carried c (gate_of o qs c.state) refl inv) i p val.Unit _ (record { node = tt; plain = tt; typed = λ g. refl }) is at)
row_kept {c} carried inv i (fits_measure {p = p} {qs = qs} {m = m} is have operands below outcome) at =
    same_carried carried (redex_row_kept carried (record c { state = projected qs m c.state }) (state_kept carried c (projected qs m c.state) refl inv) i p
    (val.Num m) _ (record { node = tt; plain = tt; typed = λ g. refl }) is at)
row_kept {c} carried inv i (fits_yes {u = u} {w = w} {p = p} {q = r} same) at =
    same_carried carried (body_kept carried c inv i _ p at (first_branch (all-part_at (Derives (made c.state.qubits carried)) i c.parts _ inv.typed at))
    (binders-append (binders_of p) (binders_of r) (all-part_at HasDistinctBinders i c.parts _ inv.binders at)).0
    (λ q h. among_right (valued (val.Qubit q)) (valued (val.Num u) ∷ valued (val.Num w) ∷ []) (free_slots p ++ free_slots r)
    (among_left (valued (val.Qubit q)) (free_slots p) (free_slots r) h)))
row_kept {c} carried inv i (fits_no {u = u} {w = w} {p = p} {q = r} differs) at =
    same_carried carried (body_kept carried c inv i _ r at (second_branch (all-part_at (Derives (made c.state.qubits carried)) i c.parts _ inv.typed at))
    (binders-append (binders_of p) (binders_of r) (all-part_at HasDistinctBinders i c.parts _ inv.binders at)).1
    (λ q h. among_right (valued (val.Qubit q)) (valued (val.Num u) ∷ valued (val.Num w) ∷ []) (free_slots p ++ free_slots r)
    (among_right (valued (val.Qubit q)) (free_slots p) (free_slots r) h)))

-- a reduction of one part keeps the invariant
pub alone_kept : (c : Config) (e : Entry) (d : Config) → IsInvariant c → IsAlone c e d → IsInvariant d
alone_kept c e d inv alone = subst IsInvariant (sym alone.becomes) (row_kept inv.carried inv.kept e.part alone.fits alone.there)
