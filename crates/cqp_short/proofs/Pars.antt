-- Parts that were made are at most one more than the parallel compositions of the process.
use Rattle.std.proofs.Common.{◌≡◌, ℕ, true, false, List, [], ◌∷◌, ◌++◌, ◌+◌, ◌-◌, ◌≤◌, length, is_some, refl, arith, ⊎_elim, length-append}
use Rattle.std.proofs.lemmas.Bool.{cases_Bool}
use Rattle.cqp_syntax.specs.declared.val.Val.{Val}
use Rattle.cqp_syntax.specs.Trees.{Process, nil, par, new, qbit, act, input, output, branch}
use Rattle.cqp_syntax.specs.Listing.{Listing, IsProc, root}
use Rattle.cqp_cells.specs.Config.{flattened}
use Rattle.cqp_cells.specs.Redex.{reduced_prefix, next_redex}
use Rattle.cqp_syntax.specs.Substitution.{with_value}
use Rattle.cqp_short.specs.Bounds.{pars_in, PartsLaw}
use Rattle.cqp_steps.proofs.Potentials.{IsMeasure, total, made_by, moved_less, sends_less, receives_less}
use Rattle.cqp_steps.proofs.Falls.{cost, Falls, CountsAlong, within_after}

-- values change none
pars_value : (x : ℕ) (v : Val) (p : Process) → pars_in (with_value x v p) ≡ pars_in p
pars_value x v nil = refl
pars_value x v (par p q) = rw (pars_value x v p, pars_value x v q) refl
pars_value x v (new b p) = pars_value x v p
pars_value x v (qbit y p) = pars_value x v p
pars_value x v (act e p) = pars_value x v p
pars_value x v (input c bs p) = pars_value x v p
pars_value x v (output c es p) = pars_value x v p
pars_value x v (branch e f p q) = rw (pars_value x v p, pars_value x v q) refl

-- nor do results
pars_result : (v : Val) (p : Process) → pars_in (reduced_prefix v p) ≡ pars_in p
pars_result v (act e p) = refl
pars_result v (output c es p) = refl
pars_result v (branch e f p q) = ⊎_elim
    (λ (t : is_some (next_redex e) ≡ true). rw t refl) (λ (t : is_some (next_redex e) ≡ false). rw t refl) (cases_Bool (is_some (next_redex e)))
pars_result v p = refl

-- no deed makes any
pub pars_measure : IsMeasure pars_in 0 0
pars_measure = record {
  value = pars_value;
  result = pars_result;
  by_qbit = λ x p. omega arith;
  by_new = λ b p. omega arith;
  by_act = λ e p. omega arith;
  by_input = λ c bs p. omega arith;
  by_output = λ c es p. omega arith;
  by_first = λ e f p q. omega arith;
  by_other = λ e f p q. omega arith;
}

-- a measure of two lists
total-append : (ps qs : List Process) → total pars_in (ps ++ qs) ≡ total pars_in ps + total pars_in qs
total-append [] qs = omega arith
total-append (p ∷ ps) qs = omega (arith, total-append ps qs)

-- the processes side by side, with the compositions inside them, are at most one more than those of the whole
pub beside : (p : Process) → length (flattened p) + total pars_in (flattened p) ≤ pars_in p + 1
beside nil = omega arith
beside (par p q) =
    let left = beside p in
    let right = beside q in
    let size = length-append (flattened p) (flattened q) in
    let all = total-append (flattened p) (flattened q) in
    omega arith
beside (new b p) = omega arith
beside (qbit x p) = omega arith
beside (act e p) = omega arith
beside (input c bs p) = omega arith
beside (output c es p) = omega arith
beside (branch e f p q) = omega arith

-- without the first
beyond_first : (ps : List Process) (n : ℕ) → length ps + total pars_in ps ≤ n + 1 → total pars_in ps + (length ps - 1) ≤ n
beyond_first [] n h = omega arith
beyond_first (p ∷ ps) n h = omega arith

-- so a process costs no more than its compositions
pars_cost : (p : Process) → cost pars_in true p ≤ pars_in p
pars_cost p = beyond_first (flattened p) (pars_in p) (beside p)

-- no deed raises them
pub pars_fall : Falls pars_in true (made_by pars_in 0 0 pars_measure) 0
pars_fall = record {
  moves = λ n p d r e. let less = moved_less pars_in 0 0 pars_measure n p d r e in let few = pars_cost r in omega arith;
  sends = λ k p s e. let less = sends_less pars_in 0 0 pars_measure k p s e in let few = pars_cost s.rest in omega arith;
  receives = λ k vs p r e. let less = receives_less pars_in 0 0 pars_measure k vs p r e in let few = pars_cost r in omega arith;
  meets = λ to k. refl;
}

-- the front counts the parts that are made
pub parts_count : (l : Listing) (sound : IsProc l) → CountsAlong l sound pars_in true (made_by pars_in 0 0 pars_measure) 0 pars_fall (λ f. f.parts)
parts_count l sound = record {
  steps = λ f e group made gone woke level. omega arith;
  parks = λ f i k. refl;
  halts = λ f i. refl;
}

-- the law of parts
pub parts_within : PartsLaw
parts_within l es sound run =
    let all = within_after l sound pars_in true (made_by pars_in 0 0 pars_measure) 0 pars_fall (λ f. f.parts) (parts_count l sound) es run in
    let few = beside (root l) in
    omega arith
