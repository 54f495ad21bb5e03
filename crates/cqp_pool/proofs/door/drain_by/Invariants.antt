use Rattle.std.proofs.Common.{◌≡◌}
use Rattle.crossbeam_deque.specs.Injected.{injector_view, IsInjectorPassOf}
use Rattle.cqp_pool.proofs.door.drain_by.Given as goal

abbrev pub invariant-loop : goal.invariant-loop
invariant-loop g l = IsInjectorPassOf l.queue l.entry × (injector_view l.entry ≡ injector_view l.initial.entry)
