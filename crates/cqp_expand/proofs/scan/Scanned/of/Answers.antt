use Rattle.std.proofs.Common.{◌∙◌, ◌≤◌, [], length, ap, subst, arith}
use Rattle.cqp_program.specs.Programs.{ProgramLists, IsProgramListing}
use Rattle.cqp_expand.specs.Faults.{scope_faults}
use Rattle.cqp_expand.specs.Kept.{least}
use Rattle.cqp_expand.specs.Outlines.{defs_after}
use Rattle.cqp_expand.specs.Scans.{AreScanned}
use Rattle.cqp_expand.proofs.ScanSteps.{def_read, defs_none}
use Rattle.cqp_expand.proofs.scan.Scanned.of.Goals as goal

pub definition-requires-clause-def : goal.definition-requires-clause-def
definition-requires-clause-def c =
    let t = c.program.invariant.0 in
    let listing = subst (λ x. IsProgramListing x t) c.program.view_is c.program.invariant.1 in
    let left = c.loop-def.invariant t listing in
    let r = def_read t.defs t.main _ c.loop-def.def-index _ _ c.def-item.result left c.loop-def-test.true c.def-item.is in
    (r.own, r.is)

pub definition-requires-clause-scan : goal.definition-requires-clause-scan
definition-requires-clause-scan c =
    let t = c.program.invariant.0 in
    let listing = subst (λ x. IsProgramListing x t) c.program.view_is c.program.invariant.1 in
    let left = c.loop-def.invariant t listing in
    let r = def_read t.defs t.main _ c.loop-def.def-index _ _ c.def-item.result left c.loop-def-test.true c.def-item.is in
    (r.done, r.scan)

pub loop-def-preserved : goal.loop-def-preserved
loop-def-preserved c = λ t listing.
    let left = c.loop-def.invariant t listing in
    let r = def_read t.defs t.main _ c.loop-def.def-index _ _ c.def-item.result left c.loop-def-test.true c.def-item.is in
    r.next c.definition.new.self (c.in_ok-definition.ensures.scan r.own r.done r.is r.scan) (c.in_ok-definition.ensures.faults r.own r.done r.is r.scan)

pub main-requires-clause-tree : goal.main-requires-clause-tree
main-requires-clause-tree c =
    let t = c.program.invariant.0 in
    let listing = subst (λ x. IsProgramListing x t) c.program.view_is c.program.invariant.1 in
    (t.main, ap (λ (x : ProgramLists). x.main) (c.program.view_is ∙ listing.is))

pub main-requires-clause-scan : goal.main-requires-clause-scan
main-requires-clause-scan c =
    let t = c.program.invariant.0 in
    let listing = subst (λ x. IsProgramListing x t) c.program.view_is c.program.invariant.1 in
    let none : length c.as_slice-def-items.result.now ≤ c.loop-def.def-index = omega arith in
    let done = defs_none t.defs t.main c.as_slice-def-items.result.now c.loop-def.def-index c.loop-def.scan _ none (c.loop-def.invariant t listing) in
    (defs_after [] t.defs, done.scan)

pub returns-clause-listed : goal.returns-clause-listed
returns-clause-listed c = (c.program.invariant.0, subst (λ x. IsProgramListing x c.program.invariant.0) c.program.view_is c.program.invariant.1)

pub returns-clause-scan : goal.returns-clause-scan
returns-clause-scan c = λ t listing.
    let none : length c.as_slice-def-items.result.now ≤ c.loop-def.def-index = omega arith in
    let done = defs_none t.defs t.main c.as_slice-def-items.result.now c.loop-def.def-index c.loop-def.scan (least (scope_faults t)) none
    (c.loop-def.invariant t listing) in
    let main = ap (λ (x : ProgramLists). x.main) (c.program.view_is ∙ listing.is) in
    subst (λ o. AreScanned (defs_after [] t.defs) t.main o c.in_ok-scanned.scanned) done.faults (c.in_ok-scanned.ensures t.main
    (defs_after [] t.defs) main done.scan)
