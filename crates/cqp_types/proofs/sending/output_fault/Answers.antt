use Rattle.std.proofs.Common.{◌≡◌, ◌≢◌, ℕ, List, map, length, refl, sym, ◌∙◌, ap, subst, arith}
use Rattle.std.proofs.lemmas.List.{length-map}
use Rattle.cqp_syntax.specs.TypeTrees.{type_at}
use Rattle.cqp_syntax.specs.Listing.{type_of_name, expr_at, process_at}
use Rattle.cqp_types.specs.Types.{carried}
use Rattle.cqp_types.specs.Rows.{row_fault}
use Rattle.cqp_types.specs.Sending.{sent_at, sent_kind}
use Rattle.cqp_types.proofs.RowLaws.{output_miscounts, output_mistyped, output_sends}
use Rattle.cqp_types.proofs.OutputLaw.{sent_agrees}
use Rattle.cqp_types.proofs.sending.output_fault.Goals as goal

pub returns-then-args-of-clause-fault : goal.returns-then-args-of-clause-fault
returns-then-args-of-clause-fault c =
    let l = c.args.given.now in
    let es = map (expr_at l) c.args.args.now in
    let count = length-map c.args.args.now (expr_at l) in
    let ne : length es ≢ length c.in-Some.of.now = omega (arith, count, c.if-args-of.true) in
    sym (ap (row_fault (type_of_name l)) c.requires.node.1.tree
    ∙ output_miscounts (type_of_name l) (carried (type_of_name l c.args.chan)) (type_at l.types) c.in-Some.of.now es
    (process_at l c.requires.node.0) c.in-Some.ensures.0 ne)

pub returns-else-args_fit-clause-fault : goal.returns-else-args_fit-clause-fault
returns-else-args_fit-clause-fault c =
    let l = c.args.given.now in
    let es = map (expr_at l) c.args.args.now in
    let count = length-map c.args.args.now (expr_at l) in
    let same : length es ≡ length c.in-Some.of.now = omega (arith, count, c.if-args-of.false) in
    sym (ap (row_fault (type_of_name l)) c.requires.node.1.tree
    ∙ output_mistyped (type_of_name l) (carried (type_of_name l c.args.chan)) (type_at l.types) c.in-Some.of.now es
    (process_at l c.requires.node.0) c.in-Some.ensures.0 same
    (sym c.args_fit.ensures ∙ c.if-args_fit.false))

pub returns-then-args_fit-clause-fault : goal.returns-then-args_fit-clause-fault
returns-then-args_fit-clause-fault c =
    let l = c.args.given.now in
    let t = c.requires.tables in
    let xs = c.args.args.now in
    let es = map (expr_at l) xs in
    let body = c.requires.node.0 in
    let second = c.args.uses.now.second.items in
    let count = length-map xs (expr_at l) in
    let same : length es ≡ length c.in-Some.of.now = omega (arith, count, c.if-args-of.false) in
    c.sent_fault.ensures.fault
    ∙ ap (λ e. sent_kind second e (sent_at l xs)) t.ends
    ∙ sent_agrees l t.listed t.numbers c.args.n c.args.chan body xs t.within c.requires.node.1 t.fits
    c.args.uses.now.first.items second t.uses c.sent_fault.ensures.names
    ∙ sym (ap (row_fault (type_of_name l)) c.requires.node.1.tree
    ∙ output_sends (type_of_name l) (carried (type_of_name l c.args.chan)) (type_at l.types) c.in-Some.of.now es (process_at l body) c.in-Some.ensures.0 same
    (sym c.args_fit.ensures ∙ c.if-args_fit.true))
