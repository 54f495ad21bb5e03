use Rattle.std.proofs.Common.{◌∙◌, ◌++◌, ◌∷◌, [], ap, sym, List}
use Rattle.std.specs.Prelude.{if◌then◌else◌, ◌==◌, Bool}
use Rattle.cqp_ring.specs.declared.amp.Amp.{Amp}
use Rattle.cqp_vector.specs.Measurement.{outcome_at}
use Rattle.cqp_vector.specs.State.{amp_at}
use Rattle.cqp_vector.proofs.Filters.{filter_more}
use Rattle.cqp_vector.proofs.pieces.agreeing.Goals as goal

pub loop-k-preserved : goal.loop-k-preserved
loop-k-preserved c =
    c.in_ok-push_if.ensures
    ∙ ap (λ (b : Bool). if b then c.loop-k.found.items ++ amp_at c.args.nums.now c.loop-k.k ∷ [] else c.loop-k.found.items) c.agrees.ensures
    ∙ ap (λ (t : List Amp). if outcome_at c.args.qubits c.args.places.now c.loop-k.k == c.args.outcome then t ++ amp_at c.args.nums.now c.loop-k.k ∷
    [] else t) c.loop-k.invariant
    ∙ sym (filter_more (amp_at c.args.nums.now) (λ k. outcome_at c.args.qubits c.args.places.now k == c.args.outcome) c.loop-k.k)
