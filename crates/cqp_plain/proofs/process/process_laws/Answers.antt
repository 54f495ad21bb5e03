use Rattle.std.proofs.Common.{ap, arith}
use Rattle.cqp_syntax.specs.Listing.{root}
use Rattle.cqp_syntax.specs.Preorder.{process_size}
use Rattle.cqp_plain.proofs.Sizes.{size_within}
use Rattle.cqp_plain.proofs.process.process_laws.Goals as goal

pub returns-clause-short : goal.returns-clause-short
returns-clause-short c =
    let same = ap (λ l. process_size (root l)) c.proc.ensures.proc in
    omega (arith, size_within (root c.args.typed.now), same, c.len.ensures.size, c.len.ensures.few)
