-- Measurements are counted as entries come.
use Rattle.std.proofs.Common.{◌≡◌, ℕ, ◌+◌, List, [], ◌∷◌, ◌++◌, refl, arith}
use Rattle.cqp_trace.specs.declared.deed.Deed.{Deed}
use Rattle.cqp_trace.specs.declared.deed.Deed.TheVariants as deed
use Rattle.cqp_trace.specs.declared.entry.Entry.{Entry}
use Rattle.cqp_cells.specs.Examples.{by}
use Rattle.cqp_machine.specs.Fronts.{turns_by}
use Rattle.cqp_paths.specs.Follows.{measure_count, measure_total}

-- with one entry more
total_longer : (es : List Entry) (e : Entry) → measure_total (es ++ e ∷ []) ≡ measure_total es + measure_count e.deed
total_longer [] e = omega arith
total_longer (x ∷ es) e = let rest = total_longer es e in omega arith

-- what the machine counts of a deed is what a path counts
same_turns : (d : Deed) → turns_by d ≡ measure_count d
same_turns (deed.Qbit q) = refl
same_turns (deed.New k) = refl
same_turns deed.Act = refl
same_turns (deed.Add v) = refl
same_turns (deed.Pick o) = refl
same_turns (deed.Gate o qs) = refl
same_turns (deed.Measure qs m) = refl
same_turns (deed.Com to k) = refl
same_turns (deed.If answer) = refl

-- so the count goes on
pub counted_on : (es : List Entry) (n : ℕ) (d : Deed) (old new : ℕ) → old ≡ measure_total es → new ≡ old + turns_by d
    → new ≡ measure_total (es ++ by n d ∷ [])
counted_on es n d old new before after =
    let same = same_turns d in
    let longer = total_longer es (by n d) in
    omega arith
