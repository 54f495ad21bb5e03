use Rattle.std.proofs.Common.{◌≡◌, inl, inr, [], ◌∷◌, refl, sym, ◌∙◌, ap, subst}
use Rattle.cqp_syntax.specs.declared.node.Node.TheVariants as node
use Rattle.cqp_syntax.specs.NodeNames.{uses_in}
use Rattle.cqp_types.specs.Uses.{IsRecorded}
use Rattle.cqp_types.proofs.UseLaws.{none_used, recorded_none, recorded_all}
use Rattle.cqp_types.proofs.uses.Uses.record.Goals as goal

pub returns-in_default : goal.returns-in_default
returns-in_default c = record {
  first = refl;
  second = refl;
  uses = λ l within u r.
      let first = c.args.self.now.first.items in
      let second = c.args.self.now.second.items in
      let d = c.in_default in
      let none = none_used c.args.node.now d.not-In d.not-Out d.not-Name d.not-Apply d.not-Measure in
      recorded_all l c.args.n c.args.node.now first second within u
      (subst (λ ys. IsRecorded l c.args.n ys first second) (sym none) (recorded_none l c.args.n first second r));
}

pub returns-in-Apply-clause-uses : goal.returns-in-Apply-clause-uses
returns-in-Apply-clause-uses c = λ l within u r.
    let first = c.use_all.new.self.first.items in
    let second = c.use_all.new.self.second.items in
    let names : uses_in c.args.node.now ≡ c.in-Apply.qubits = elim c.in-Apply.is [ inl w ↦ ap uses_in w.1 | inr w ↦ ap uses_in w ] in
    let all = c.use_all.ensures.recorded l within (recorded_none l c.args.n c.args.self.now.first.items c.args.self.now.second.items r) in
    recorded_all l c.args.n c.args.node.now first second within u
    (subst (λ ys. IsRecorded l c.args.n ys first second) (c.as_slice.ensures ∙ sym names) all)

pub returns-in-In-clause-uses : goal.returns-in-In-clause-uses
returns-in-In-clause-uses c = λ l within u r.
    let first = c.use_at-in-In.new.self.first.items in
    let second = c.use_at-in-In.new.self.second.items in
    let names : uses_in c.args.node.now ≡ c.in-In.chan ∷ [] = elim c.in-In.is [ inl w ↦ ap uses_in w.2 | inr w ↦ ap uses_in w.2 ] in
    let all = c.use_at-in-In.ensures.recorded l [] within (recorded_none l c.args.n c.args.self.now.first.items c.args.self.now.second.items r) in
    recorded_all l c.args.n c.args.node.now first second within u
    (subst (λ ys. IsRecorded l c.args.n ys first second) (sym names) all)
