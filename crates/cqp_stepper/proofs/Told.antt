-- What the cells of a run tell of the configuration to which its entries lead.
use Rattle.std.proofs.Common.{◌≡◌, ℕ, zero, suc, ◌≤◌, Bool, List, [], ◌∷◌, ◌++◌, length, if◌then◌else◌, refl, sym, ap, subst, arith, ◌∙◌}
use Rattle.std.specs.Prelude.{Result, Ok, Err, IfOk, OnErr}
use Rattle.cqp_syntax.specs.Listing.{Listing, root}
use Rattle.cqp_trace.specs.declared.entry.Entry.{Entry}
use Rattle.cqp_cells.specs.Path.{GoesOn}
use Rattle.cqp_engine.specs.declared.engine.Fit.{Fit}
use Rattle.cqp_engine.specs.declared.engine.Fit.TheVariants as fit
use Rattle.cqp_engine.specs.Progress.{IsTried}
use Rattle.cqp_ring.specs.declared.root.Root.{Root}
use Rattle.cqp_ring.specs.declared.weight.Weight.{Weight}
use Rattle.cqp_ring.specs.Weight.{IsSameNumber}
use Rattle.cqp_cells.specs.Probability.{IsProbability}
use Rattle.cqp_machine.specs.Shown.{cells_of, front_of}
use Rattle.cqp_machine.specs.Sums.{exponents, h_in, norm_in, norms, root_below, sum_below, weight_of_groups}
use Rattle.cqp_groups.specs.Groups.{as_cells}
use Rattle.cqp_telling.specs.Laws.{LeftLaw, WeightLaw}
use Rattle.cqp_telling.specs.Told.{one_if_part}
use Rattle.cqp_stepper.specs.declared.cells.Cells.{Cells}
use Rattle.cqp_stepper.specs.Gathering.{FewLaw}
use Rattle.cqp_stepper.specs.Here.{BackLaw, HereLaw}
use Rattle.cqp_stepper.specs.Kept.{IsKept, Keeps}
use Rattle.cqp_stepper.specs.Last.{IsTriedBy, last_of}
use Rattle.cqp_stepper.specs.Runs.{Run, is_made, progress_of}
use Rattle.cqp_stepper.specs.Slots.{part_in}
use Rattle.cqp_stepper.proofs.Last.{here, last, path_here, path_last}

-- sums of equal numbers
same_sums : (n : ℕ) (f g : ℕ → ℕ) → ((i : ℕ) → f i ≡ g i) → sum_below n f ≡ sum_below n g
same_sums zero f g same = refl
same_sums (suc n) f g same = let before = same_sums n f g same in let one = same n in omega arith

module _ (l : Listing) (here_law : HereLaw) (entries : List Entry) (s : Cells) (k : IsKept l entries s) where
  -- as many parts are there as the configuration has
  pub left_here : LeftLaw → sum_below s.counts.parts (λ i. one_if_part (part_in s.slots i)) ≡ length (last l here_law entries s k).parts
  left_here law =
      ap (λ n. sum_below n (λ i. one_if_part (part_in s.slots i))) k.part_count
      ∙ (same_sums (front_of l k.events).parts _ _ (λ i. ap one_if_part (k.parts i))
      ∙ law l k.events (last l here_law entries s k) k.settled.process k.settled.run (here l here_law entries s k).shows)

  -- few qubits were made
  pub few_here : FewLaw → length s.groups ≤ 12
  few_here few =
      let most = few l k.events k.settled.process k.checked k.settled.run in
      let places = k.groups.places in
      omega arith

  -- the cells after one entry more go on from the configuration
  pub longer_here : BackLaw → (t : Cells) (e : Entry) → IsKept l (entries ++ e ∷ []) t
      → GoesOn entries (last_of (root l) entries) e (last_of (root l) (entries ++ e ∷ []))
  longer_here back t e x =
      let told = back (root l) entries e (last_of (root l) (entries ++ e ∷ [])) (path_here l here_law (entries ++ e ∷ []) t x) in
      subst (λ c. GoesOn entries c e (last_of (root l) (entries ++ e ∷ []))) (sym (path_last (root l) entries told.before told.path)) told.step

-- the product of the groups' norms over 2 to the sum of their exponents is the probability of the entries
pub weight_here : (l : Listing) (here_law : HereLaw) (entries : List Entry) (s : Cells) (k : IsKept l entries s) → WeightLaw
    → (w : Weight) (top : Root) (below : ℕ) → top ≡ norms (length s.groups) (as_cells s.groups) → below ≡ exponents (length s.groups) (as_cells s.groups)
    → IsSameNumber (record { top = top; below = below }) w → IsProbability (root l) entries w
weight_here l here_law entries s k law w top below norm sum same =
    let n = (front_of l k.events).qubits in
    let m = cells_of l k.events in
    let places = k.groups.places in
    let product : top ≡ norms n m =
    norm ∙ (ap (λ z. norms z (as_cells s.groups)) places ∙ ap (λ f. root_below n (λ g. norm_in (f g))) k.groups.groups) in
    let power : below ≡ exponents n m =
    sum ∙ (ap (λ z. exponents z (as_cells s.groups)) places ∙ ap (λ f. sum_below n (λ g. h_in (f g))) k.groups.groups) in
    let of_groups : IsSameNumber (weight_of_groups n m) w =
    subst (λ z. IsSameNumber (record { top = norms n m; below = z }) w) power (subst (λ z. IsSameNumber (record { top = z; below = below }) w) product same)
    in
    let c = last l here_law entries s k in
    subst (λ es. IsProbability (root l) es w) k.shows (law l k.events c (here l here_law entries s k).shows w (sym of_groups))

-- the entries after one was tried: with it where it was made
abbrev pub entries_after : {E : Type 0} → List Entry → Entry → Result Fit E → List Entry
entries_after es e r = if is_made r then es ++ e ∷ [] else es

-- they are what is kept so
pub kept_are : {E : Type 0} (es was now : List Entry) (e f : Entry) (r : Result Fit E) (b : Bool) → b ≡ is_made r → was ≡ es → f ≡ e
    → now ≡ (if b then was ++ f ∷ [] else was) → now ≡ entries_after es e r
kept_are es was now e f r b made same is kept = kept ∙ rw (made, same, is) refl

module _ (l : Listing) (here_law : HereLaw) (back : BackLaw) (es : List Entry) (s t : Cells) (k : IsKept l es s) (e : Entry) where
  -- the cells are of them
  pub tried_kept : {E : Type 0} (r : Result Fit E) → IfOk r (λ fit. IsTriedBy l s e fit t) → OnErr r (Keeps l s t) → IsKept l (entries_after es e r) t
  tried_kept (Ok fit.Made) told err = told es k
  tried_kept (Ok fit.NoStep) told err = told.0 es k
  tried_kept (Ok fit.AtLimit) told err = told.0 es k
  tried_kept (Err x) told err = err es k

  -- the run with the entries
  abbrev run_with : List Entry → Run
  run_with fs = record { process = l; entries = fs }

  -- so that is what was tried
  pub tried_told : {E : Type 0} (r : Result Fit E) → IfOk r (λ fit. IsTriedBy l s e fit t)
      → IfOk r (λ fit. IsTried (progress_of (run_with es)) e fit (progress_of (run_with (entries_after es e r))))
  tried_told (Ok fit.Made) told = (longer_here l here_law es s k back t e (told es k), refl)
  tried_told (Ok fit.NoStep) told = (told.1 es k, refl)
  tried_told (Ok fit.AtLimit) told = ((told.1 es k).0, (told.1 es k).1, refl)
  tried_told (Err x) told = tt

  -- without memory nothing changed
  pub tried_refused : {E : Type 0} (r : Result Fit E) → OnErr r (progress_of (run_with (entries_after es e r)) ≡ progress_of (run_with es))
  tried_refused (Ok fit) = tt
  tried_refused (Err x) = refl
