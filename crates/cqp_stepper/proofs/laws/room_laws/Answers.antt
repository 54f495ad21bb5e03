use Rattle.std.proofs.Common.{◌≡◌, length, ap, arith, ◌∙◌}
use Rattle.cqp_syntax.proofs.Sizes.{length-process_nodes}
use Rattle.cqp_syntax.specs.Listing.{root}
use Rattle.cqp_syntax.specs.Preorder.{process_size}
use Rattle.cqp_stepper.proofs.Rooms.{pars_within}
use Rattle.cqp_stepper.proofs.laws.room_laws.Goals as goal

pub returns : goal.returns
returns c l es process run =
    let made = c.short_laws.ensures.parts l es process run in
    let within = pars_within (root l) in
    let nodes : length l.nodes ≡ process_size (root l) = ap length process.listed.nodes ∙ length-process_nodes 0 (root l) in
    omega arith
