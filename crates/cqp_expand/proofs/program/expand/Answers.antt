use Rattle.std.proofs.Common.{ap, arith, length}
use Rattle.cqp_expand.specs.Expansion.{expansion}
use Rattle.cqp_expand.proofs.Expanded.{faultless, fault_ends, some_outlines, last_count, is_small, listed, sound, expanded, small_count, large_count}
use Rattle.cqp_expand.proofs.program.expand.Goals as goal

pub overflow_sub-main : goal.overflow_sub-main
overflow_sub-main c =
    let tree = c.in_ok-scanned.ensures.listed in
    let some = some_outlines tree.0 c.in_ok-scanned.scanned (c.in_ok-scanned.ensures.scan tree.0 tree.1) c.in_default.is in
    omega (arith, some, ap length c.as_slice-outlines.ensures.value)

pub bounds-outlines-main : goal.bounds-outlines-main
bounds-outlines-main c = let some = overflow_sub-main c in omega (arith, some)

pub bounds-outlines-main-in_default : goal.bounds-outlines-main-in_default
bounds-outlines-main-in_default c = let some = overflow_sub-main c in omega (arith, some)

pub returns-in-Some-clause-err : goal.returns-in-Some-clause-err
returns-in-Some-clause-err c = λ t h.
    fault_ends t c.in_ok-scanned.scanned c.in-Some.fault c.answer.result (c.in_ok-scanned.ensures.scan t h) c.in-Some.is c.answer.ensures

pub returns-then-outlines-main-gt-MOST-clause-err : goal.returns-then-outlines-main-gt-MOST-clause-err
returns-then-outlines-main-gt-MOST-clause-err c = λ t h.
    let scan = c.in_ok-scanned.ensures.scan t h in
    let count = last_count t c.in_ok-scanned.scanned scan c.in_default.is c.as_slice-outlines.result.now c.index-outlines-main.result
    c.as_slice-outlines.ensures.value in
    record { faultless = faultless t c.in_ok-scanned.scanned scan c.in_default.is; large = large_count _ _ count c.if-outlines-main-gt-MOST.true }

pub spread-requires : goal.spread-requires
spread-requires c =
    let tree = c.in_ok-scanned.ensures.listed in
    let scan = c.in_ok-scanned.ensures.scan tree.0 tree.1 in
    let count = last_count tree.0 c.in_ok-scanned.scanned scan c.in_default.is c.as_slice-outlines.result.now c.index-outlines-main.result
    c.as_slice-outlines.ensures.value in
    let small = small_count _ _ count c.if-outlines-main-gt-MOST.false in
    (tree.0, c.in_ok-scanned.scanned.types.types, is_small tree.0 c.in_ok-scanned.scanned scan c.in_default.is small)

pub make-requires-clause-listed : goal.make-requires-clause-listed
make-requires-clause-listed c =
    let tree = c.in_ok-scanned.ensures.listed in
    let scan = c.in_ok-scanned.ensures.scan tree.0 tree.1 in
    let types = c.in_ok-scanned.scanned.types.types in
    let count = last_count tree.0 c.in_ok-scanned.scanned scan c.in_default.is c.as_slice-outlines.result.now c.index-outlines-main.result
    c.as_slice-outlines.ensures.value in
    let small = small_count _ _ count c.if-outlines-main-gt-MOST.false in
    let copy = c.in_ok-copy.ensures tree.0 types (is_small tree.0 c.in_ok-scanned.scanned scan c.in_default.is small) in
    let faults = faultless tree.0 c.in_ok-scanned.scanned scan c.in_default.is in
    (expansion tree.0, rw (c.from_vec-types.ensures, c.into_types.ensures) (listed tree.0 types _ _ _ faults copy))

pub make-requires-clause-sound : goal.make-requires-clause-sound
make-requires-clause-sound c =
    let tree = c.in_ok-scanned.ensures.listed in
    let scan = c.in_ok-scanned.ensures.scan tree.0 tree.1 in
    let types = c.in_ok-scanned.scanned.types.types in
    let count = last_count tree.0 c.in_ok-scanned.scanned scan c.in_default.is c.as_slice-outlines.result.now c.index-outlines-main.result
    c.as_slice-outlines.ensures.value in
    let small = small_count _ _ count c.if-outlines-main-gt-MOST.false in
    let copy = c.in_ok-copy.ensures tree.0 types (is_small tree.0 c.in_ok-scanned.scanned scan c.in_default.is small) in
    let faults = faultless tree.0 c.in_ok-scanned.scanned scan c.in_default.is in
    rw (c.from_vec-types.ensures, c.into_types.ensures) (sound tree.0 types _ _ _ faults copy scan.table tree.1.printable small)

pub returns-clause-ok : goal.returns-clause-ok
returns-clause-ok c = λ t h.
    let scan = c.in_ok-scanned.ensures.scan t h in
    let types = c.in_ok-scanned.scanned.types.types in
    let count = last_count t c.in_ok-scanned.scanned scan c.in_default.is c.as_slice-outlines.result.now c.index-outlines-main.result
    c.as_slice-outlines.ensures.value in
    let small = small_count _ _ count c.if-outlines-main-gt-MOST.false in
    let copy = c.in_ok-copy.ensures t types (is_small t c.in_ok-scanned.scanned scan c.in_default.is small) in
    let faults = faultless t c.in_ok-scanned.scanned scan c.in_default.is in
    rw (c.make.ensures.value, c.from_vec-types.ensures, c.into_types.ensures) (expanded t types _ _ _ faults copy small)
