use Rattle.std.proofs.Common.{refl, []}
use Rattle.cqp_expand.specs.Locals.{table}
use Rattle.cqp_expand.proofs.PartReads.{outlines_stay}
use Rattle.cqp_expand.proofs.scan.Scan.main.Goals as goal

pub returns : goal.returns
returns c = λ p ds e k.
    let notes = c.in_ok-outline.ensures.notes [] p ds refl e k.known in
    let outline = c.in_ok-outline.ensures.outline [] p ds refl e k.known in
    let front = c.args.self.known.outlines.items in
    record {
      table = notes.local.is_table;
      outlines = (
        front,
        c.in_ok-outline.outline,
        c.in_ok-push.ensures.items,
        outline,
        outlines_stay (table c.args.self.locals)
            (table c.outline.new.self) front ds notes.grown k.known.outlines,
      );
      fault = notes.faults;
    }
