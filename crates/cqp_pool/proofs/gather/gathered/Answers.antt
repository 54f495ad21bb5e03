use Rattle.std.proofs.Common.{◌≡◌, All, length, take, ap, sym, ◌∙◌, subst, arith}
use Rattle.std.specs.List.{sum_by}
use Rattle.std.proofs.Math.Seq.{take-length}
use Rattle.cqp_pool.specs.Parts.{deques_in, pushed_in, taken_in, pushed_kept, taken_kept}
use Rattle.cqp_pool.proofs.AllIn.{Leads, Lacks, all_in_lacks, pushed_in-all_in}
use Rattle.cqp_pool.proofs.AllIn.{sum_by-taken_in-all_in}
use Rattle.cqp_pool.proofs.Left.{sum_by-three}
use Rattle.cqp_pool.proofs.gather.gathered.Goals as goal

pub settle-requires : goal.settle-requires
settle-requires g c =
    let pool = c.in_order.ensures.order.0 in
    let order = c.in_order.ensures.order.1 in
    let parts = c.taken_apart-parts.result.0 in
    let apart = c.taken_apart-parts.ensures pool order in
    let owns = parts.owns.items in
    let rows = parts.rows.items in
    let deques : deques_in owns ≡ pool.deques = apart.deques ∙ ap (λ n. take n pool.deques) order.count ∙ take-length pool.deques in
    let lead : All (Leads owns) rows = λ k d lt. apart.rows_lead k d lt ∙ sym deques in
    let count : length pool.deques ≡ length rows = sym order.count ∙ sym apart.rows_count in
    let lacks : All (Lacks (length rows)) owns = λ k d lt. let a = (apart.own_parts k d lt).0 in omega arith in
    let none : All (Lacks 0) c.take_all_in.new.owns.items = subst (All (Lacks 0)) (sym c.take_all_in.ensures) (all_in_lacks owns rows lead lacks) in
    λ k d lt. let a = none k d lt in omega arith

pub returns-clause-pushed : goal.returns-clause-pushed
returns-clause-pushed g c =
    let pool = c.in_order.ensures.order.0 in
    let parts = c.taken_apart-parts.result.0 in
    let door = c.taken_apart-parts.result.1 in
    let apart = c.taken_apart-parts.ensures pool c.in_order.ensures.order.1 in
    let same = ap pushed_in (c.settle.ensures.same ∙ c.take_all_in.ensures) ∙ pushed_in-all_in parts.owns.items parts.rows.items in
    λ weight.
    let all = sum_by-three weight door.view.pushed (pushed_in c.settle.new.owns.items) (pushed_kept parts.kepts.items) c.new.result.pushed
    (sym c.new.ensures.pushed) in
    let owns = ap (sum_by weight) same in
    let before = apart.pushed weight in
    let ordered = c.in_order.ensures.pushed weight in
    omega arith

pub returns-clause-taken : goal.returns-clause-taken
returns-clause-taken g c =
    let pool = c.in_order.ensures.order.0 in
    let order = c.in_order.ensures.order.1 in
    let parts = c.taken_apart-parts.result.0 in
    let door = c.taken_apart-parts.result.1 in
    let apart = c.taken_apart-parts.ensures pool order in
    let owns = parts.owns.items in
    let rows = parts.rows.items in
    let deques : deques_in owns ≡ pool.deques = apart.deques ∙ ap (λ n. take n pool.deques) order.count ∙ take-length pool.deques in
    let lead : All (Leads owns) rows = λ k d lt. apart.rows_lead k d lt ∙ sym deques in
    let same = c.settle.ensures.same ∙ c.take_all_in.ensures in
    λ weight.
    let all = sum_by-three weight door.view.taken (taken_in c.settle.new.owns.items) (taken_kept parts.kepts.items) c.new.result.taken
    (sym c.new.ensures.taken) in
    let taken = ap (λ l. sum_by weight (taken_in l)) same ∙ sum_by-taken_in-all_in weight owns rows lead in
    let before = apart.taken weight in
    let ordered = c.in_order.ensures.taken weight in
    omega arith
