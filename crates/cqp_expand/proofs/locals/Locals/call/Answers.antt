use Rattle.std.proofs.Common.{◌∙◌, ◌++◌, Some, None, map, length, sym, ap, subst, arith, nat_eq}
use Rattle.cqp_expand.specs.declared.fault.FaultKind.TheVariants as kind
use Rattle.std.proofs.lemmas.List.{length-map}
use Rattle.cqp_expand.specs.Faults.{names_faults, call_faults, unless, types_faults}
use Rattle.cqp_expand.specs.Locals.{table, scope_in, told, after}
use Rattle.cqp_expand.specs.Outlines.{HasParams, signatures, names_of}
use Rattle.cqp_expand.proofs.Entering.{local_from}
use Rattle.cqp_expand.proofs.NamesLeft.{after-append}
use Rattle.cqp_expand.proofs.KnownDefs.{found_def, none_found}
use Rattle.cqp_expand.proofs.locals.Locals.call.Goals as goal

pub index-requires : goal.index-requires
index-requires c =
    let ds = c.requires.known.0 in
    let k = c.requires.known.1 in
    let found = found_def (table c.args.self.now) c.args.known.now.outlines.items ds c.args.name.now c.in-Some.def k.outlines (sym (c.in-Some.ensures
    (names_of ds) k.names)) in
    omega (arith, found.within, c.args.known.now.outlines.ok.0)

pub compare-requires-clause-local : goal.compare-requires-clause-local
compare-requires-clause-local c =
    let l = c.args.self.now in
    local_from l c.named_all.new.self (names_faults (scope_in l) (map told c.args.args.now)) c.in_ok-numbers.ensures.faults c.requires.local

pub compare-requires-clause-params : goal.compare-requires-clause-params
compare-requires-clause-params c =
    let l = c.args.self.now in
    let ds = c.requires.known.0 in
    let k = c.requires.known.1 in
    let found = found_def (table l) c.args.known.now.outlines.items ds c.args.name.now c.in-Some.def k.outlines
    (sym (c.in-Some.ensures (names_of ds) k.names)) in
    let same = ap table c.in_ok-numbers.ensures.faults in
    (found.own.params, subst (λ all. HasParams all c.index.result.now found.own.params) (sym same) (found.params c.index.result.now c.index.ensures))

pub returns-in-Some-clause-faults : goal.returns-in-Some-clause-faults
returns-in-Some-clause-faults c = λ ds k.
    let l = c.args.self.now in
    let xs = map told c.args.args.now in
    let s = scope_in l in
    let names = names_faults s xs in
    let found = found_def (table l) c.args.known.now.outlines.items ds c.args.name.now c.in-Some.def k.outlines
    (sym (c.in-Some.ensures (names_of ds) k.names)) in
    let ts = found.own.params in
    let met = c.in_ok-numbers.ensures.faults in
    let same = ap table met in
    let params = subst (λ all. HasParams all c.index.result.now ts) (sym same) (found.params c.index.result.now c.index.ensures) in
    c.compare.ensures ts params
    ∙ ap (λ m. after m (unless (nat_eq (length c.args.args.now) (length ts)) kind.Arity c.args.at ++ types_faults (scope_in m) xs ts)) met
    ∙ ap (λ n. after (after l names) (unless (nat_eq n (length ts)) kind.Arity c.args.at ++ types_faults s xs ts)) (sym (length-map c.args.args.now told))
    ∙ sym (after-append l names (call_faults s c.args.at xs (Some found.own)))
    ∙ ap (λ o. after l (names ++ call_faults s c.args.at xs o)) (sym found.is)

pub returns-in-None-clause-faults : goal.returns-in-None-clause-faults
returns-in-None-clause-faults c = λ ds k.
    let l = c.args.self.now in
    let xs = map told c.args.args.now in
    let s = scope_in l in
    let names = names_faults s xs in
    let none = none_found (signatures ds) c.args.name.now (sym (c.in-None.ensures (names_of ds) k.names)) in
    c.fault.ensures ∙ ap (λ m. after m (call_faults s c.args.at xs None)) c.in_ok-numbers.ensures.faults
    ∙ sym (after-append l names (call_faults s c.args.at xs None))
    ∙ ap (λ o. after l (names ++ call_faults s c.args.at xs o)) (sym none)
