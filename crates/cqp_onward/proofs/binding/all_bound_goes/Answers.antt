use Rattle.std.proofs.Common.{◌≡◌, ◌<◌, ◌++◌, length, take, sym, ap, ap₂, subst, ◌∙◌}
use Rattle.std.specs.List.{AllByRecursion}
use Rattle.std.proofs.lemmas.Result.{IfErr-weaker}
use Rattle.cqp_parts.specs.declared.bind.Bind.{Bind}
use Rattle.cqp_parts.specs.declared.part.Part.{Part}
use Rattle.cqp_parts.specs.Parts.{bound_to}
use Rattle.cqp_onward.proofs.Pushes.{all_both, bound_within, front_of}
use Rattle.cqp_onward.proofs.binding.all_bound_goes.Goals as goal

pub goes_back-requires-clause-names : goal.goes_back-requires-clause-names
goes_back-requires-clause-names c =
    let n = length c.args.uses.now.names in
    let bound = c.in-Ok.ensures.ok ∙ ap (λ bs. bs ++ bound_to c.args.names.now c.args.vals.now) c.into_vec-items.ensures in
    let is = ap (λ (p : Part). p.env) c.with_bindings-part.ensures ∙ bound in
    subst (AllByRecursion (λ (b : Bind). b.name < n)) (sym is)
    (all_both (λ (b : Bind). b.name < n) c.args.part.env (bound_to c.args.names.now c.args.vals.now) c.requires.env
    (bound_within n c.args.names.now c.args.vals.now c.requires.names))

pub returns-in-Ok-clause-err : goal.returns-in-Ok-clause-err
returns-in-Ok-clause-err c =
    let old = c.args.part in
    let env = c.in-Ok.ensures.ok ∙ ap (λ bs. bs ++ bound_to c.args.names.now c.args.vals.now) c.into_vec-items.ensures in
    let first : take c.len-count.result c.bind_all.new.env.items ≡ old.env =
    ap₂ (λ n bs. take n bs) c.len-count.ensures env ∙ front_of old.env (bound_to c.args.names.now c.args.vals.now) in
    let same = ap (λ (p : Part). record p { env = take c.len-count.result p.env }) c.with_bindings-part.ensures ∙ ap (λ bs. record old { env = bs }) first in
    IfErr-weaker c.goes_back.result _ _ (λ e is. is ∙ same) c.goes_back.ensures.err
