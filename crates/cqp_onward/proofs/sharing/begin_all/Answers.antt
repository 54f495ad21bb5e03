use Rattle.std.proofs.Common.{length, map, take, sym, ap, arith, ◌∙◌}
use Rattle.std.proofs.lemmas.List.{length-map}
use Rattle.cqp_syntax.specs.declared.val.Val.TheVariants as val
use Rattle.cqp_parts.specs.Parts.{begins_at}
use Rattle.cqp_parts.proofs.Lists.{take_step}
use Rattle.cqp_onward.specs.Sharing.{bare_at}
use Rattle.cqp_onward.proofs.sharing.begin_all.Goals as goal

pub loop-bind-init : goal.loop-bind-init
loop-bind-init c = record {
  count = ap length c.in_ok-parts.ensures ∙ length-map c.args.numbers.now bare_at;
  told = λ l a z is there apart. c.in_ok-parts.ensures;
}

pub loop-bind-preserved : goal.loop-bind-preserved
loop-bind-preserved c =
    let env = c.args.env.now in
    let i = c.loop-bind.bind-index in
    let more = sym (take_step env i (record { name = 0; val = val.Num 0 }) (omega arith)) in
    record {
      count = c.in_ok-share.ensures.count;
      told = λ l a z is there apart. c.in_ok-share.ensures.shared l a z (take i env) is there apart (c.loop-bind.invariant.told l a z is there apart)
          ∙ ap (λ bs. map (begins_at l bs) c.args.numbers.now) more;
    }
