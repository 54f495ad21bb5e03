use Rattle.std.proofs.Common.{◌≡◌, ◌++◌, [], ◌∷◌, Some, length, sym, ap, subst, ◌∙◌}
use Rattle.std.proofs.lemmas.List.{length-set}
use Rattle.cqp_machine.specs.Factors.{least_qubit, with_due}
use Rattle.cqp_groups.specs.Groups.{AreMade, entered, groups_in}
use Rattle.cqp_groups.proofs.Entering.{entered_last, made_last}
use Rattle.cqp_groups.proofs.SlotLemmas.{put_is}
use Rattle.cqp_groups.proofs.groups.Groups.enter.Goals as goal

pub put_least-requires : goal.put_least-requires
put_least-requires c =
    let back : c.loop-factor.list.items ≡ c.pop.new.self.items ++ c.in-Some.factor ∷ [] = c.in-Some.ensures.items in
    (made_last (length c.loop-factor.self) c.pop.new.self.items c.in-Some.factor
    (subst (AreMade (length c.loop-factor.self)) back c.loop-factor.invariant.made)).0

pub loop-factor-preserved : goal.loop-factor-preserved
loop-factor-preserved c =
    let back : c.loop-factor.list.items ≡ c.pop.new.self.items ++ c.in-Some.factor ∷ [] = c.in-Some.ensures.items in
    let made = made_last (length c.loop-factor.self) c.pop.new.self.items c.in-Some.factor
    (subst (AreMade (length c.loop-factor.self)) back c.loop-factor.invariant.made) in
    let size : length c.put_least.new.self ≡ length c.loop-factor.self =
    ap length c.put_least.ensures ∙ length-set c.loop-factor.self (least_qubit c.in-Some.factor.qubits) (Some (with_due [] c.in-Some.factor)) in
    record {
      same =
          ap (entered c.pop.new.self.items)
          (ap groups_in c.put_least.ensures ∙ put_is c.loop-factor.self (least_qubit c.in-Some.factor.qubits) (Some (with_due [] c.in-Some.factor)) made.0)
          ∙ (sym (entered_last c.pop.new.self.items c.in-Some.factor (groups_in c.loop-factor.self))
          ∙ (ap (λ z. entered z (groups_in c.loop-factor.self)) (sym back) ∙ c.loop-factor.invariant.same));
      made = subst (λ n. AreMade n c.pop.new.self.items) (sym size) made.1;
      places = size ∙ c.loop-factor.invariant.places;
    }
