-- Each kind of step keeps the rule, and what it tells the pass that made it.
use Rattle.std.proofs.Common.{◌≡◌, ◌≢◌, ℕ, zero, suc, ◌+◌, ◌-◌, ◌<◌, List, [], ◌∷◌, ◌++◌, map}
use Rattle.std.proofs.Common.{length, set, sym, refl, ap, subst, ⊎_elim, arith}
use Rattle.std.specs.List.{sum_by}
use Rattle.std.proofs.lemmas.List.Sums.{sum_by-append, sum_by-cons}
use mathlib.Core.Option.{some, some-injective, some-ne-none}
use lib.ListN.{get_elem?}
use Rattle.crossbeam_deque.specs.Tasks.{Pushes, Takes, Finds, FindsFew, Learns, Forks, Merges}
use Rattle.crossbeam_deque.proofs.Lists.{at_set, at_snoc, set_here}
use Rattle.cqp_pool.specs.declared.tally.Tally.{Tally}
use Rattle.cqp_pool.specs.Tallies.{tally, new_tally, PartlessAreEmpty, IsAccounted, WasEmpty}
use Rattle.cqp_pool.specs.Tallies.{Covers, IsDrained}
use Rattle.cqp_pool.proofs.Sums.{sum_by-set_at, sum_by-snoc, sum_by_of_one}

-- how many parts a pass has
abbrev parts : Tally → ℕ
parts t = t.parts

-- what was pushed by a pass, as a weight
abbrev pushed : (ℕ → ℕ) → Tally → ℕ
pushed weight t = sum_by weight t.pushed

-- what was taken by a pass, as a weight
abbrev taken : (ℕ → ℕ) → Tally → ℕ
taken weight t = sum_by weight t.taken

-- a pass with no part has pushed and taken nothing
abbrev IsIdle : Tally → Type 0
IsIdle t = t.parts ≡ 0 → (t.pushed ≡ []) × (t.taken ≡ [])

-- a pass that is found is one of them
port_in_range : (ts : List Tally) (port : ℕ) (t : Tally) → get_elem? ts port ≡ some t → port < length ts
port_in_range [] port t is = absurd (some-ne-none t (sym is))
port_in_range (x ∷ xs) zero t is = omega arith
port_in_range (x ∷ xs) (suc port) t is = let rest = port_in_range xs port t is in omega arith

-- an idle pass in the place of another leaves those without a part idle
partless_set : (ts : List Tally) (port : ℕ) (t : Tally) → IsIdle t → PartlessAreEmpty ts → PartlessAreEmpty (set ts port t)
partless_set ts port t mine old j u is =
    ⊎_elim (λ (x : (j ≡ port) × (t ≡ u)). subst IsIdle x.1 mine) (λ (x : (j ≢ port) × (get_elem? ts j ≡ some u)). old j u x.1) (at_set ts port j t u is)

-- an idle pass at the end leaves those without a part idle
partless_snoc : (ts : List Tally) (t : Tally) → IsIdle t → PartlessAreEmpty ts → PartlessAreEmpty (ts ++ t ∷ [])
partless_snoc ts t mine old j u is = ⊎_elim (λ x. old j u x) (λ (same : t ≡ u). subst IsIdle same mine) (at_snoc ts t u j is)

module _ {T : Type 0} (number : T → ℕ) where
  -- what all passes together know of the items there
  abbrev pub Rule : List T → List Tally → Type 0
  Rule items ts = IsAccounted (map number items) ts

  -- items of two lists weigh as much as both lists
  weigh-append : (weight : ℕ → ℕ) (xs ys : List T) → sum_by weight (map number (xs ++ ys)) ≡ sum_by weight (map number xs) + sum_by weight (map number ys)
  weigh-append weight [] ys = omega arith
  weigh-append weight (x ∷ xs) ys =
      let rest = weigh-append weight xs ys in
      omega (arith, sum_by-cons weight (number x) (map number (xs ++ ys)), sum_by-cons weight (number x) (map number xs))

  -- at the start
  pub begins : Rule [] (new_tally 1024 ∷ [])
  begins = record { parts = refl; numbers = λ weight. refl; partless = begun }
    where
      begun : (port : ℕ) (t : Tally) → get_elem? (new_tally 1024 ∷ []) port ≡ some t → t.parts ≡ 0 → (t.pushed ≡ []) × (t.taken ≡ [])
      begun zero t is none =
          let same = some-injective (new_tally 1024) t is in (sym (ap (λ (y : Tally). y.pushed) same), sym (ap (λ (y : Tally). y.taken) same))
      begun (suc port) t is none = absurd (some-ne-none t (sym is))

  -- items join
  pub pushes : (port : ℕ) (t : Tally) (xs : List T) → 0 < t.parts → Pushes Rule port t xs (λ w. w ≡ tally t.parts (t.pushed ++ map number xs) t.taken)
  pushes port t xs some_part items ts rule at =
      let w : Tally = tally t.parts (t.pushed ++ map number xs) t.taken in
      let p = rule.parts in (
        w,
        record {
          parts = let s = sum_by-set_at parts ts port t w at in omega arith;
          numbers = λ weight.
              let a = sum_by-set_at (pushed weight) ts port t w at in
              let b = sum_by-set_at (taken weight) ts port t w at in
              let c = sum_by-append weight t.pushed (map number xs) in
              let d = weigh-append weight items xs in
              let r = rule.numbers weight in
              omega arith;
          partless = partless_set ts port w (λ none. absurd (omega arith)) rule.partless;
        },
        refl,
      )

  -- items leave
  pub takes : (port : ℕ) (t : Tally) (most : ℕ) → 0 < t.parts → Takes Rule port t most (λ xs w. w ≡ tally t.parts t.pushed (t.taken ++ map number xs))
  takes port t most some_part xs items ts nonempty few rule at =
      let w : Tally = tally t.parts t.pushed (t.taken ++ map number xs) in
      let p = rule.parts in (
        w,
        record {
          parts = let s = sum_by-set_at parts ts port t w at in omega arith;
          numbers = λ weight.
              let a = sum_by-set_at (pushed weight) ts port t w at in
              let b = sum_by-set_at (taken weight) ts port t w at in
              let c = sum_by-append weight t.taken (map number xs) in
              let d = weigh-append weight xs items in
              let r = rule.numbers weight in
              omega arith;
          partless = partless_set ts port w (λ none. absurd (omega arith)) rule.partless;
        },
        refl,
      )

  -- what a pass learns where nothing is there
  pub finds : (port : ℕ) (t : Tally) → Finds Rule port t (WasEmpty t)
  finds port t ts rule at = record { tallies = ts; port = port; accounted = rule; known = at }

  -- the same of a step that finds too few, which is none
  pub finds_few : (port : ℕ) (t : Tally) → FindsFew Rule 0 port t (WasEmpty t)
  finds_few port t [] ts few rule at = finds port t ts rule at
  finds_few port t (x ∷ xs) ts few rule at = absurd (omega arith)

  -- a new pass
  pub forks : (port : ℕ) (t : Tally) → 1 < t.parts → Forks Rule port t (tally (t.parts - 1) t.pushed t.taken) (new_tally 1)
  forks port t two items ts rule at =
      let l : Tally = tally (t.parts - 1) t.pushed t.taken in
      let us : List Tally = set ts port l in
      let p = rule.parts in
      record {
        parts = let a = sum_by-set_at parts ts port t l at in let b = sum_by-snoc parts us (new_tally 1) in omega arith;
        numbers = λ weight.
            let a = sum_by-set_at (pushed weight) ts port t l at in
            let b = sum_by-set_at (taken weight) ts port t l at in
            let c = sum_by-snoc (pushed weight) us (new_tally 1) in
            let d = sum_by-snoc (taken weight) us (new_tally 1) in
            let r = rule.numbers weight in
            omega arith;
        partless = partless_snoc us (new_tally 1) (λ none. absurd (omega arith)) (partless_set ts port l (λ none. absurd (omega arith)) rule.partless);
      }

  -- a pass is taken in
  pub merges : (port : ℕ) (t : Tally) (other : ℕ) (u : Tally) → 0 < t.parts
      → Merges Rule port t other u (tally (t.parts + u.parts) (t.pushed ++ u.pushed) (t.taken ++ u.taken)) (new_tally 0)
  merges port t other u some_part items ts rule at apart at' =
      let m : Tally = tally (t.parts + u.parts) (t.pushed ++ u.pushed) (t.taken ++ u.taken) in
      let us : List Tally = set ts port m in
      let z : Tally = new_tally 0 in
      let p = rule.parts in
      record {
        parts = let a = sum_by-set_at parts ts port t m at in let b = sum_by-set_at parts us other u z at' in omega arith;
        numbers = λ weight.
            let a = sum_by-set_at (pushed weight) ts port t m at in
            let b = sum_by-set_at (taken weight) ts port t m at in
            let c = sum_by-set_at (pushed weight) us other u z at' in
            let d = sum_by-set_at (taken weight) us other u z at' in
            let e = sum_by-append weight t.pushed u.pushed in
            let f = sum_by-append weight t.taken u.taken in
            let r = rule.numbers weight in
            omega arith;
        partless = partless_set us other z (λ none. (refl, refl)) (partless_set ts port m (λ none. absurd (omega arith)) rule.partless);
      }

-- a pass with every part knows what is there
knows_all : (t : Tally) (there : List ℕ) (ts : List Tally) (port : ℕ) → t.parts ≡ 1024 → IsAccounted there ts → get_elem? ts port ≡ some t
    → (weight : ℕ → ℕ) → sum_by weight t.pushed ≡ sum_by weight t.taken + sum_by weight there
knows_all t there ts port all rule at weight =
    let p = rule.parts in
    let idle = rule.partless in
    let a = sum_by_of_one parts (pushed weight) ts port t at (λ j u is z. ap (sum_by weight) (idle j u is z).0) (omega arith) in
    let b = sum_by_of_one parts (taken weight) ts port t at (λ j u is z. ap (sum_by weight) (idle j u is z).1) (omega arith) in
    let r = rule.numbers weight in
    omega arith

module _ {T : Type 0} (number : T → ℕ) where
  -- items leave by a pass with every part
  pub drains : (port : ℕ) (t : Tally) (most : ℕ) → t.parts ≡ 1024
      → Takes (Rule number) port t most (λ xs w. (w ≡ tally t.parts t.pushed (t.taken ++ map number xs)) × Covers w)
  drains port t most all xs items ts nonempty few rule at =
      let step = takes number port t most (omega arith) xs items ts nonempty few rule at in
      let w : Tally = tally t.parts t.pushed (t.taken ++ map number xs) in
      let is : step.0 ≡ w = step.2 in
      let P : Tally → Type 0 = λ y. IsAccounted (map number items) (set ts port y) in
      let rule' : IsAccounted (map number items) (set ts port w) = subst P is step.1 in
      let here = set_here ts port w (port_in_range ts port t at) in
      (w, rule', (refl, λ weight. let r = knows_all w (map number items) (set ts port w) port all rule' here weight in omega arith))

  -- such a pass finds nothing there
  pub finds_drained : (port : ℕ) (t : Tally) → t.parts ≡ 1024 → Finds (Rule number) port t (IsDrained t)
  finds_drained port t all ts rule at weight = let r = knows_all t [] ts port all rule at weight in omega arith

  -- the same of a step that finds too few, which is none
  pub finds_few_drained : (port : ℕ) (t : Tally) → t.parts ≡ 1024 → FindsFew (Rule number) 0 port t (IsDrained t)
  finds_few_drained port t all [] ts few rule at = finds_drained port t all ts rule at
  finds_few_drained port t all (x ∷ xs) ts few rule at = absurd (omega arith)

  -- such a pass looks
  pub settles : (port : ℕ) (t : Tally) → t.parts ≡ 1024 → Learns (Rule number) port t (λ items. Covers t)
  settles port t all items ts rule at weight = let r = knows_all t (map number items) ts port all rule at weight in omega arith
