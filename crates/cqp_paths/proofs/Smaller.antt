-- Along entries, their count and the size of what is left are at most the size at their start.
use Rattle.std.proofs.Common.{◌≡◌, ◌≢◌, ◌⊎◌, ℕ, ◌+◌, ◌≤◌, List, [], ◌∷◌, length, refl, sym, ap, ◌∙◌, arith, inl, inr, subst}
use Rattle.std.specs.Prelude.{Some, None, Option}
use Rattle.std.specs.Option.{option_and_then}
use Rattle.cqp_syntax.specs.declared.val.Val.TheVariants as val
use Rattle.cqp_syntax.specs.Trees.{Process, valued, input, output}
use Rattle.cqp_trace.specs.declared.deed.Deed.{Deed}
use Rattle.cqp_trace.specs.declared.entry.Entry.{Entry}
use Rattle.cqp_vector.specs.State.{State}
use Rattle.cqp_cells.specs.Config.{Config, part_at, continued, start_of}
use Rattle.cqp_syntax.specs.Substitution.{with_values}
use Rattle.cqp_cells.specs.Step.{next}
use Rattle.cqp_cells.specs.Path.{after}
use Rattle.cqp_syntax.specs.Measures.{size}
use Rattle.cqp_cells.specs.Size.{size_left}
use Rattle.cqp_cells.specs.Numbered.{HasNumbers}
use Rattle.cqp_cells.specs.Rows.{Fits, fits_qbit, fits_new, fits_act, fits_add, fits_pick, fits_gate, fits_measure, fits_yes, fits_no, process_after}
use Rattle.cqp_cells.specs.Step.{state_after, chans_after}
use Rattle.cqp_cells.specs.Rows.{alone_after, IsAlone, IsMeeting}
use Rattle.cqp_paths.proofs.Sizes.{size-with_value, size-with_values, size-reduced_prefix}
use Rattle.cqp_paths.proofs.Parts.{size_parts-continued, size_parts-start, below-start, below-part_at, below-continued, part_at-continued}
use Rattle.cqp_cells.proofs.Inversion.{inverted}
use Rattle.cqp_cells.proofs.Options.{none_is_some}

-- the process that fits becomes smaller
fits_smaller : {s : State} {k : ℕ} {p : Process} {d : Deed} → Fits s k p d → 1 + size (process_after d p) ≤ size p
fits_smaller (fits_qbit {x = x} {p = p} {q = q} same) = omega (arith, size-with_value x (val.Qubit q) p)
fits_smaller (fits_new {b = b} {p = p} {k = k} same) = omega (arith, size-with_value b.name (val.Chan k) p)
fits_smaller fits_act = omega arith
fits_smaller (fits_add {p = p} {u = u} {w = w} {v = v} at same) = omega (arith, size-reduced_prefix (val.Num v) p _ at tt)
fits_smaller (fits_pick {p = p} {u = u} {o = o} at same) = omega (arith, size-reduced_prefix (val.Gate o) p _ at tt)
fits_smaller (fits_gate {p = p} at have places made) = omega (arith, size-reduced_prefix val.Unit p _ at tt)
fits_smaller (fits_measure {p = p} {m = m} at have made below is) = omega (arith, size-reduced_prefix (val.Num m) p _ at tt)
fits_smaller (fits_yes same) = omega arith
fits_smaller (fits_no differs) = omega arith

-- the two parts of a communication differ
pub partners_differ : {c : Config} {e : Entry} {d : Config} (met : IsMeeting c e d) → met.to ≢ e.part
partners_differ {c} {e} met same =
    let wrong : Some (input (valued (val.Chan met.chan)) met.binders met.right) ≡ Some (output (valued (val.Chan met.chan)) met.exprs met.left) =
    sym met.receives ∙ ap (λ t. part_at t c.parts) same ∙ met.sends in
    cc

-- the receiver stands where it stood once the sender goes on
pub receiver_stays : {c : Config} {e : Entry} {d : Config} → HasNumbers c → (met : IsMeeting c e d)
    → part_at met.to (continued e.part met.left c).parts ≡ Some (input (valued (val.Chan met.chan)) met.binders met.right)
receiver_stays {c} {e} below met =
    part_at-continued met.to e.part met.left c (partners_differ met) (below-part_at c.made met.to c.parts _ below met.receives) ∙ met.receives

-- a reduction of one part makes what is left smaller
alone_smaller : {c : Config} {e : Entry} {d : Config} → IsAlone c e d → 1 + size_left d ≤ size_left c
alone_smaller {c} {e} {d} alone =
    let before : Config = record c { state = state_after e.deed c.state; chans = chans_after e.deed c.chans } in
    let sizes = size_parts-continued e.part (process_after e.deed alone.process) before alone.process alone.there in
    let less : 1 + size (process_after e.deed alone.process) ≤ size alone.process = fits_smaller alone.fits in
    let is : size_left d ≡ size_left (alone_after c e.part alone.process e.deed) = ap size_left alone.becomes in
    omega (arith, sizes, less, is)

-- a communication makes what is left smaller
met_smaller : {c : Config} {e : Entry} {d : Config} → HasNumbers c → IsMeeting c e d → 1 + size_left d ≤ size_left c
met_smaller {c} {e} {d} below met =
    let sent : Config = continued e.part met.left c in
    let first = size_parts-continued e.part met.left c _ met.sends in
    let second = size_parts-continued met.to (with_values met.binders met.values met.right) sent _ (receiver_stays below met) in
    let same : size (with_values met.binders met.values met.right) ≡ size met.right = size-with_values met.binders met.values met.right in
    let is : size_left d ≡ size_left (continued met.to (with_values met.binders met.values met.right) sent) = ap size_left met.becomes in
    omega (arith, first, second, same, is)

-- a reduction of one part keeps part numbers below their count
alone_numbered : {c : Config} {e : Entry} {d : Config} → HasNumbers c → IsAlone c e d → HasNumbers d
alone_numbered {c} {e} {d} below alone =
    let before : Config = record c { state = state_after e.deed c.state; chans = chans_after e.deed c.chans } in
    subst HasNumbers (sym alone.becomes) (below-continued e.part (process_after e.deed alone.process) before
    (below-part_at c.made e.part c.parts _ below alone.there) below)

-- a communication keeps part numbers below their count
met_numbered : {c : Config} {e : Entry} {d : Config} → HasNumbers c → IsMeeting c e d → HasNumbers d
met_numbered {c} {e} {d} below met =
    let sent : Config = continued e.part met.left c in
    let kept : HasNumbers sent = below-continued e.part met.left c (below-part_at c.made e.part c.parts _ below met.sends) below in
    subst HasNumbers (sym met.becomes)
    (below-continued met.to (with_values met.binders met.values met.right) sent
    (below-part_at sent.made met.to sent.parts _ kept (receiver_stays below met)) kept)

-- an entry keeps part numbers below their count, and makes what is left smaller
pub next_smaller : (c : Config) (e : Entry) (d : Config) → HasNumbers c → next c e ≡ Some d → HasNumbers d × (1 + size_left d ≤ size_left c)
next_smaller c e d below h = by_row (inverted c e d h)
  where
    by_row : IsAlone c e d ⊎ IsMeeting c e d → HasNumbers d × (1 + size_left d ≤ size_left c)
    by_row (inl alone) = (alone_numbered below alone, alone_smaller alone)
    by_row (inr met) = (met_numbered below met, met_smaller below met)

-- entries keep part numbers below their count, and what is left becomes smaller by their count at least
pub after_smaller : (es : List Entry) (c d : Config) → HasNumbers c → after c es ≡ Some d → HasNumbers d × (length es + size_left d ≤ size_left c)
after_smaller [] c d below h =
    let same : c ≡ d = cc in
    let none : 0 + size_left d ≤ size_left d = omega arith in
    (subst HasNumbers same below, subst (λ t. 0 + size_left d ≤ size_left t) (sym same) none)
after_smaller (e ∷ es) c d below h = by_next (next c e) refl h (λ b g. after_smaller es b d g)
  where
    by_next : (o : Option Config) → next c e ≡ o → option_and_then (λ b. after b es) o ≡ Some d
        → ((b : Config) → HasNumbers b → after b es ≡ Some d → HasNumbers d × (length es + size_left d ≤ size_left b))
        → HasNumbers d × (length (e ∷ es) + size_left d ≤ size_left c)
    by_next None at g more = absurd (none_is_some g)
    by_next (Some b) at g more =
        let step = next_smaller c e b below at in
        let rest = more b step.0 g in
        let total : length (e ∷ es) + size_left d ≤ size_left c = omega (arith, step.1, rest.1) in
        (rest.0, total)

-- the entries of a process and the size of what is left are together at most its size
pub path_smaller : (p : Process) (es : List Entry) (c : Config) → after (start_of p) es ≡ Some c → length es + size_left c ≤ size p
path_smaller p es c h =
    let all = after_smaller es (start_of p) c (below-start p) h in
    omega (arith, all.1, size_parts-start p)
