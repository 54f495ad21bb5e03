use Rattle.std.proofs.Common.{◌-◌, map, length, take, drop, sym, ap, subst, arith, ◌∙◌}
use Rattle.std.specs.List.{AllByRecursion}
use Rattle.cqp_parts.specs.Parts.{begins_at, IsProcessAt}
use Rattle.cqp_onward.specs.Leads.{LeadsTo}
use Rattle.cqp_onward.proofs.Apart.{leads}
use Rattle.cqp_onward.proofs.moved.apart.Goals as goal

pub returns : goal.returns
returns c =
    let l = c.args.proc.now in
    let ns = c.as_slice.result.now in
    let numbers = c.as_slice.ensures.value in
    let each = subst (AllByRecursion (IsProcessAt l)) (sym numbers) c.in_ok-numbers.ensures.each in
    let env = c.args.env.now in
    let n = c.args.n in
    let others = ap (λ bs. map (begins_at l bs) (take (length ns - 1) (drop 1 ns))) c.as_slice-in-len1-up.ensures in
    subst (LeadsTo l env n) (sym c.of-in-len1-up.ensures)
    (leads l c.requires.uses.process env n c.requires.process ns (numbers ∙ c.in_ok-numbers.ensures.numbers) each (omega (arith, c.in-len1-up.len_at_least)) _
    (λ a b there apart. c.in_ok-begin_all-in-len1-up.ensures l a b c.requires.uses there apart ∙ others))
