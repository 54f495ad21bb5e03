use Rattle.std.proofs.Common.{◌≡◌, ◌<◌, ◌+◌, ◌-◌, ◌∙◌, ℕ, ap, sym, subst, arith, List, All, map}
use Rattle.std.proofs.Common.{Vec, Global}
use Rattle.std.proofs.lemmas.List.Elements.{All-push}
use Rattle.cqp_pool.specs.Pools.{DequeId}
use Rattle.cqp_pool.specs.Parts.{Owned, Reached, lend, deques_in, new_row}
use Rattle.cqp_pool.proofs.Rows.{new_owns_some, map-lend-new_owns, deques_in-new_owns}
use Rattle.cqp_pool.proofs.start.new_rows.Goals as goal

pub row_into-requires : goal.row_into-requires
row_into-requires g c =
    let a = c.loop-made-test.true in
    let b = c.requires.few in
    let made : ℕ = c.loop-made._made in
    let count = c.len-count.ensures in
    let two : 1 < 1024 - made = omega arith in
    subst (All (λ (o : Owned). 1 < o.view.parts)) (sym c.loop-made.invariant.owns) (new_owns_some (1024 - made) (deques_in c.args.owns.now.items) two)

pub loop-made-preserved : goal.loop-made-preserved
loop-made-preserved g c =
    let made : ℕ = c.loop-made._made in
    let ids : List DequeId = deques_in c.args.owns.now.items in
    let one : 1024 - made - 1 ≡ 1024 - (made + 1) = omega arith in
    let i = c.loop-made.invariant in
    let r = c.in_ok-row.ensures in
    let here : deques_in c.loop-made.owns.items ≡ ids = ap deques_in i.owns ∙ deques_in-new_owns (1024 - made) ids in
    let IsRow : Vec Reached Global → Type 0 = λ v. v.items ≡ new_row ids in
    record {
      owns = r.owns ∙ ap (λ l. map lend l) i.owns ∙ map-lend-new_owns (1024 - made) (1024 - (made + 1)) ids one;
      count = let n = c.in_ok-push.ensures.len in omega arith;
      rows = subst (All IsRow) (sym c.in_ok-push.ensures.items) (All-push IsRow c.loop-made.rows.items c.in_ok-row.row i.rows (r.row ∙ ap new_row here));
    }
