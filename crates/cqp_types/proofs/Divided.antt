-- A context divided by what is free on both sides.
use Rattle.std.proofs.Common.{◌≡◌, List, Bool, true, ◌||◌, not, inl, inr, refl, sym, subst}
use Rattle.cqp_syntax.specs.TypeTrees.{qbit_type}
use Rattle.cqp_syntax.specs.Trees.{Slot}
use Rattle.cqp_syntax.specs.Free.{is_among}
use Rattle.cqp_types.specs.Contexts.{Context, Has, Splits}
use Rattle.cqp_syntax.proofs.Bools.{fails, either, or_right, decide}
use Rattle.cqp_types.proofs.ContextLaws.{qbit_self, keeping, kept, kept_in, kept_passes}

module _ (g : Context) (ls rs : List Slot) where
  -- the left side has what is free there, and what is free on no side
  abbrev pub goes_left : Slot → Bool
  goes_left s = is_among s ls || not (is_among s rs)

  -- the right side has what is free there
  abbrev pub goes_right : Slot → Bool
  goes_right s = is_among s rs

  -- the context is divided where no qubit is free on both sides
  pub divides : ((s : Slot) → is_among s ls ≡ true → is_among s rs ≡ true → Has g s qbit_type → ⊥)
      → Splits g (keeping goes_left g) (keeping goes_right g)
  divides apart = record {
    covers = λ s t h. decide (is_among s rs)
        (λ e. inr (kept goes_right g s t e h))
        (λ e. inl (kept goes_left g s t (or_right (is_among s ls) (not (is_among s rs)) (subst (λ b. not b ≡ true) (sym e) refl)) h));
    left_in = λ s t h. kept_in goes_left g s t h;
    right_in = λ s t h. kept_in goes_right g s t h;
    once = λ s l r.
        let is = kept_in goes_left g s qbit_type l in
        let own = qbit_self g s is in
        let right = kept_passes goes_right g s qbit_type own r in
        either (is_among s ls) (not (is_among s rs)) (kept_passes goes_left g s qbit_type own l)
        (λ left. apart s left right is)
        (λ none. fails (subst (λ b. not b ≡ true) right none));
  }
