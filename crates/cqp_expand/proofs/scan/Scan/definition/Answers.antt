use Rattle.std.proofs.Common.{◌∙◌, sym, ap}
use Rattle.cqp_program.specs.declared.program.Def.{Def}
use Rattle.cqp_expand.specs.Locals.{table}
use Rattle.cqp_expand.specs.Outlines.{signatures}
use Rattle.cqp_expand.proofs.Entering.{local_from}
use Rattle.cqp_expand.proofs.PartReads.{known_stays}
use Rattle.cqp_expand.proofs.ScanSteps.{twice_at, definition_notes, known_from}
use Rattle.cqp_expand.proofs.scan.Scan.definition.Goals as goal

pub outline-requires-clause-params : goal.outline-requires-clause-params
outline-requires-clause-params c =
    (c.requires.def.0.params, c.as_slice-params.ensures ∙ ap (λ (x : Def). x.params) c.requires.def.1)

pub outline-requires-clause-tree : goal.outline-requires-clause-tree
outline-requires-clause-tree c = (c.requires.def.0.body, ap (λ (x : Def). x.body) c.requires.def.1)

pub outline-requires-clause-local : goal.outline-requires-clause-local
outline-requires-clause-local c =
    let ds = c.requires.scan.0 in
    let k = c.requires.scan.1 in
    local_from c.args.self.now.locals c.twice.new.self.locals (twice_at (signatures ds) c.args.def.now) (c.twice.ensures.locals ds k.known.names) k.local

pub outline-requires-clause-known : goal.outline-requires-clause-known
outline-requires-clause-known c =
    let ds = c.requires.scan.0 in
    let k = c.requires.scan.1 in (
      ds,
      known_from c.args.self.now.locals c.twice.new.self.locals (twice_at (signatures ds) c.args.def.now) c.args.self.now.known c.twice.new.self.known ds
          (c.twice.ensures.locals ds k.known.names) c.twice.ensures.known k.known,
    )

pub returns-clause-scan : goal.returns-clause-scan
returns-clause-scan c = λ d ds e k.
    let known = known_from c.args.self.now.locals c.twice.new.self.locals (twice_at
    (signatures ds) c.args.def.now) c.args.self.now.known c.twice.new.self.known ds
    (c.twice.ensures.locals ds k.known.names) c.twice.ensures.known k.known in
    let params = c.as_slice-params.ensures ∙ ap (λ (x : Def). x.params) e in
    let body = ap (λ (x : Def). x.body) e in
    let notes = c.in_ok-outline.ensures.notes d.params d.body ds params body known in
    let outline = c.in_ok-outline.ensures.outline d.params d.body ds params body known in
    let now = known_stays (table c.twice.new.self.locals) (table c.outline.new.self) c.twice.new.self.known ds notes.grown known in
    record {
      known = c.in_ok-add.ensures (table c.outline.new.self) d ds now (sym (c.as_slice.ensures ∙ ap (λ (x : Def). x.name) e)) outline;
      local = notes.local;
    }

pub returns-clause-faults : goal.returns-clause-faults
returns-clause-faults c = λ d ds e k.
    let twice = c.twice.ensures.locals ds k.known.names in
    let known = known_from c.args.self.now.locals c.twice.new.self.locals (twice_at
    (signatures ds) c.args.def.now) c.args.self.now.known c.twice.new.self.known ds twice c.twice.ensures.known k.known in
    let params = c.as_slice-params.ensures ∙ ap (λ (x : Def). x.params) e in
    let notes = c.in_ok-outline.ensures.notes d.params d.body ds params (ap (λ (x : Def). x.body) e) known in
    let own = rw e at twice in
    definition_notes c.args.self.now.locals c.twice.new.self.locals c.outline.new.self (signatures ds) d own notes
