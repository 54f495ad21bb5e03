use Rattle.std.proofs.Common.{◌≡◌, ◌-◌, All, Vec, Global, length, vec_len, ap, sym, ◌∙◌, subst}
use Rattle.cqp_pool.specs.Parts.{Reached, deques_in, new_owns, new_row}
use Rattle.cqp_pool.proofs.Rows.{deques_in-new_owns, length-new_owns, length-deques_in}
use Rattle.cqp_pool.proofs.start.new_lanes.Goals as goal

pub seated-requires-clause-owns : goal.seated-requires-clause-owns
seated-requires-clause-owns g c =
    let old = c.in_ok-owns.owns in
    let new = c.new_rows.new.owns in
    let ids = deques_in old.items in
    let parts = 1024 - vec_len old in
    let is = c.in_ok-rows.ensures.owns in
    let same : deques_in new.items ≡ ids = ap deques_in is ∙ deques_in-new_owns parts ids in
    let len : vec_len new ≡ vec_len old = new.ok.0 ∙ ap length is ∙ length-new_owns parts ids ∙ length-deques_in old.items ∙ sym old.ok.0 in
    is ∙ ap (λ m. new_owns (1024 - m) ids) (sym len) ∙ ap (λ x. new_owns (1024 - vec_len new) x) (sym same)

pub seated-requires-clause-rows : goal.seated-requires-clause-rows
seated-requires-clause-rows g c =
    let old = c.in_ok-owns.owns in
    let new = c.new_rows.new.owns in
    let ids = deques_in old.items in
    let same : ids ≡ deques_in new.items = sym (ap deques_in c.in_ok-rows.ensures.owns ∙ deques_in-new_owns (1024 - vec_len old) ids) in
    subst (λ x. All (λ (r : Vec Reached Global). r.items ≡ new_row x) c.in_ok-rows.rows.items) same c.in_ok-rows.ensures.rows
