use Rattle.std.proofs.Common.{◌≡◌, ◌<◌, length, slice_index, arith}
use Rattle.cqp_types.proofs.Backward.{any_default}
use Rattle.cqp_types.proofs.UseLaws.{recorded_old}
use Rattle.cqp_types.proofs.uses.Uses.use_at.Goals as goal

pub returns-else-before-n-clause-recorded : goal.returns-else-before-n-clause-recorded
returns-else-before-n-clause-recorded c = λ l ys within r.
    let first = c.args.self.now.first.items in
    let name = c.args.name in
    let known : name < length l.ty_of = omega (arith, r.first_count) in
    let read = any_default first name c.index-before.result.now c.requires.within in
    let old : slice_index first name ≡ c.args.n = cc (read, c.index-before.ensures, c.if-before-n.false) in
    recorded_old l c.args.n ys first c.args.self.now.second.items name r known old
