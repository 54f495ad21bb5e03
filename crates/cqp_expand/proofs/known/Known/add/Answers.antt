use Rattle.std.proofs.Common.{◌≡◌, ◌∷◌, length, sym, subst, arith}
use Rattle.std.proofs.lemmas.List.{length-map}
use Rattle.cqp_expand.specs.Faults.{Signature, signature}
use Rattle.cqp_expand.specs.Outlines.{signatures, names_of, IsNaming}
use Rattle.cqp_expand.proofs.KnownDefs.{outlines_count}
use Rattle.cqp_expand.proofs.known.Known.add.Goals as goal

pub returns : goal.returns
returns c = λ types d ds k name i.
    let many = outlines_count types c.args.self.now.outlines.items ds k.outlines in
    let names = length-map (signatures ds) (λ (x : Signature). x.text) in
    let number : c.len.result ≡ length (names_of ds) = omega (arith, many, names, length-map ds signature, c.len.ensures, c.args.self.now.outlines.ok.0) in
    record {
      names = subst (λ x. IsNaming c.add.new.self (x ∷ names_of ds)) (sym name) (c.in_ok-add.ensures (names_of ds) k.names number);
      outlines = (c.args.self.now.outlines.items, c.args.outline, c.in_ok-push.ensures.items, i, k.outlines);
    }
