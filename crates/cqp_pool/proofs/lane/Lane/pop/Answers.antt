use Rattle.std.proofs.Common.{All, ap, sym, ◌∙◌, ◌∷◌, subst}
use Rattle.std.proofs.lemmas.List.Elements.{All-cons}
use Rattle.cqp_pool.specs.Tallies.{WasEmpty}
use Rattle.cqp_pool.specs.Pools.{LaneState}
use Rattle.cqp_pool.specs.Parts.{passes_of}
use Rattle.cqp_pool.proofs.Changes.{taken_of_one_more}
use Rattle.cqp_pool.proofs.lane.Lane.pop.Goals as goal

pub returns-in_err-item-clause-none : goal.returns-in_err-item-clause-none
returns-in_err-item-clause-none g c =
    let kept = c.in_default.ensures.none in
    let own = c.in_default-pop.ensures.none in
    let door = c.in_default-pop-2.ensures.none in
    let others = c.in_err-item.ensures.none in
    let is = c.self.view_is in
    let inside = c.self.inside in
    let others_empty = All-cons WasEmpty (inside.door.view) (passes_of inside.row.items) door.1 others.1 in
    let all_empty = All-cons WasEmpty (inside.own.view) (inside.door.view ∷ passes_of inside.row.items) own.1 others_empty in
    rw c.from_residual.ensures (
      rw (kept.0, own.0, door.0, others.0) is,
      sym (ap (λ (s : LaneState g.row.T.Denot). s.kept) is) ∙ kept.1,
      subst (All WasEmpty) (ap (λ (s : LaneState g.row.T.Denot). s.passes) is) all_empty,
    )

pub returns-clause-taken : goal.returns-clause-taken
returns-clause-taken g c =
    let kept = c.in_default.ensures.none in
    let own = c.in_default-pop.ensures.none in
    let door = c.in_default-pop-2.ensures.none in
    let inside = c.self.inside in
    let was = ap (λ (s : LaneState g.row.T.Denot). s.taken) c.self.view_is in
    rw (kept.0, own.0, door.0)
    (taken_of_one_more (inside.own.view) (inside.door.view) inside.kept inside.row.items c.steal_any.new.row.items
    (g.T.Numbered.number c.in_ok-item.item) c.args.self.now.taken c.in_ok-item.ensures.taken was)
