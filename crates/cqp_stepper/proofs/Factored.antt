-- The factors of the state to which the entries of a run lead.
use Rattle.std.proofs.Common.{◌≡◌, ◌≤◌, ◌<◌, List, sym, subst, ◌∙◌, arith}
use Rattle.std.specs.Prelude.{Result, Ok, Err, IfOk}
use Rattle.cqp_syntax.specs.Listing.{Listing, root}
use Rattle.cqp_trace.specs.declared.entry.Entry.{Entry}
use Rattle.cqp_vector.specs.Group.{Group}
use Rattle.cqp_cells.specs.Path.{h_total}
use Rattle.cqp_machine.specs.Shown.{front_of}
use Rattle.cqp_groups.specs.Groups.{factors_in}
use Rattle.cqp_groups.specs.RunLaws.{HeldLaw, StateLaw, SumLaw}
use Rattle.cqp_groups.specs.States.{AreState, TellFactors}
use Rattle.cqp_stepper.specs.declared.cells.Cells.{Cells}
use Rattle.cqp_stepper.specs.Factors.{AreFactorsAfter, levels_of}
use Rattle.cqp_stepper.specs.Gathering.{FewLaw}
use Rattle.cqp_stepper.specs.Here.{HereLaw}
use Rattle.cqp_stepper.specs.Kept.{IsKept}
use Rattle.cqp_stepper.proofs.Last.{here, last}
use Rattle.cqp_stepper.proofs.Shared.{few_factors, levels_are, one_with}
use Rattle.cqp_stepper.proofs.Told.{few_here}

module _ (l : Listing) (here_law : HereLaw) (entries : List Entry) (s : Cells) (k : IsKept l entries s) where
  -- the groups stand for the state to which the entries lead
  state_here : StateLaw → AreState s.groups (h_total entries) (last l here_law entries s k).state
  state_here law =
      let c = last l here_law entries s k in
      let told = law l k.events s.groups c k.groups (here l here_law entries s k).shows.path in
      subst (λ es. AreState s.groups (h_total es) c.state) k.shows told.state

  -- so their factors are those of that state
  factors_are : StateLaw → HeldLaw → SumLaw → FewLaw → TellFactors s.groups (factors_in s.groups) → AreFactorsAfter (root l) entries (factors_in s.groups)
  factors_are law held sums few told =
      let c = last l here_law entries s k in
      let state = state_here law in
      let sum = sums l k.events s.groups k.groups in
      let made = few_here l here_law entries s k few in
      let places = few_factors s.groups in
      let same : levels_of (factors_in s.groups) ≡ (front_of l k.events).level = sym (levels_are s.groups) ∙ sum.0 in
      let low : (front_of l k.events).level ≤ 180 = sum.1 in
      record {
        product = told (h_total entries) c.state state;
        alone = λ q below. one_with s.groups q (held s.groups (h_total entries) c.state q state (subst (λ n. q < n) (sym state.places) below));
        few = omega arith;
        levels = omega arith;
      }

  -- and so are those that are told
  pub factors_here : {E : Type 0} → StateLaw → HeldLaw → SumLaw → FewLaw → (r : Result (List Group) E) → IfOk r (λ gs. gs ≡ factors_in s.groups)
      → IfOk r (λ gs. TellFactors s.groups gs) → IfOk r (λ gs. AreFactorsAfter (root l) entries gs)
  factors_here law held sums few (Ok gs) is told =
      subst (λ fs. AreFactorsAfter (root l) entries fs) (sym is)
      (factors_are law held sums few (subst (λ fs. TellFactors s.groups fs) is told))
  factors_here law held sums few (Err e) is told = tt
