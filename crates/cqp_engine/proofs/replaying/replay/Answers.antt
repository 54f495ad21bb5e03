use Rattle.std.proofs.Common.{rules}
use Rattle.cqp_engine.proofs.Answered.{all_room}
use Rattle.cqp_engine.proofs.replaying.replay.Goals as goal

pub overflow_add-result : goal.overflow_add-result
overflow_add-result g c =
    let room = all_room c.size_laws.ensures.along (g.E.Engine.progress c.args.engine.now).opening c.as_slice.result.now c.in_ok-entries.entries
    (g.E.Engine.progress c.remade.new.engine) c.requires.short c.in_ok-entries.ensures in
    search rules
