-- Parts that begin at the prefixes of a process with all its names bound stand well.
use Rattle.std.proofs.Common.{◌≡◌, ℕ, true, false, Bool, List, [], ◌∷◌, ◌++◌, map, filter, length, refl, sym, ap, subst, arith, ◌∙◌, ⊎_elim}
use Rattle.std.proofs.lemmas.Bool.{and_parts, cases_Bool}
use Rattle.std.proofs.lemmas.List.{map-append}
use Rattle.std.specs.List.{AllByRecursion}
use Rattle.cqp_syntax.specs.declared.node.Node.{Node}
use Rattle.cqp_syntax.specs.declared.node.Node.TheVariants as node
use Rattle.cqp_syntax.specs.Trees.{Process, nil, par, new, qbit, act, input, output, branch}
use Rattle.cqp_syntax.specs.Binders.{binders_of}
use Rattle.cqp_syntax.specs.Scope.{is_scoped}
use Rattle.cqp_syntax.specs.Listing.{Listing, IsProc, Unfolds, process_at}
use Rattle.cqp_parts.specs.declared.bind.Bind.{Bind}
use Rattle.cqp_parts.specs.declared.part.Part.{Part}
use Rattle.cqp_parts.specs.Free.{is_free}
use Rattle.cqp_parts.specs.Parts.{node_at, left_of, right_of, prefixes_of, kept_at, begins_at, parts_from, IsProcessAt}
use Rattle.cqp_standing.specs.Stands.{Stands, is_prefix, names_of, binder_names, RiseFrom}
use Rattle.cqp_standing.proofs.Rises.{kept_rise, names_rise, names_below, both_rise}
use Rattle.cqp_standing.proofs.ScopeLemmas.{kept_names, scoped_more}
use Rattle.cqp_parts.proofs.TreeLemmas.{unfolds_at, node_tree, tree_at, par_sides}

-- two lists of parts that stand well
all_append : (l : Listing) (ps qs : List Part) → AllByRecursion (Stands l) ps → AllByRecursion (Stands l) qs → AllByRecursion (Stands l) (ps ++ qs)
all_append l [] qs h k = k
all_append l (p ∷ ps) qs h k = (h.0, all_append l ps qs h.1 k)

-- bindings that are kept pass the test
kept_pass : (keep : Bind → Bool) (env : List Bind) → AllByRecursion (λ b. keep b ≡ true) (filter keep env)
kept_pass keep [] = tt
kept_pass keep (b ∷ env) = ⊎_elim
    (λ (t : keep b ≡ true). rw t (t, kept_pass keep env))
    (λ (t : keep b ≡ false). rw t (kept_pass keep env))
    (cases_Bool (keep b))

-- a process stands at the number, its names are bound, and they rise behind the bindings'
pub record Opens (l : Listing) (env : List Bind) (n : ℕ) : Type 0 where
  pub there : IsProcessAt l n
  pub bound : is_scoped (names_of env) (process_at l n) ≡ true
  pub order : RiseFrom 0 (length l.ty_of) (names_of env ++ binder_names (process_at l n))

module _ (l : Listing) (sound : IsProc l) where
  -- the two sides of a parallel composition stand at the numbers of its node
  sides_there : (x : Node) (n : ℕ) (p q : Process) → Unfolds l n x → node_tree l sound x ≡ par p q → IsProcessAt l (left_of x) × IsProcessAt l (right_of x)
  sides_there (node.Par left right) n p q u h = ((u.bodies.0.within, u.bodies.0.is), (u.bodies.1.0.within, u.bodies.1.0.is))
  sides_there x n p q u h = absurd (cc h)

  -- a part that begins at a prefix
  begins_well : (env : List Bind) (n : ℕ) → is_prefix (process_at l n) ≡ true → Opens l env n → AllByRecursion (Stands l) (begins_at l env n ∷ [])
  begins_well env n prefix o =
      let kept = kept_rise (λ b. is_free b.name (process_at l n)) 0 (length l.ty_of) env (binder_names (process_at l n)) o.order in (
        record {
          within = o.there.0;
          is = o.there.1;
          prefix = prefix;
          names = names_below 0 (length l.ty_of) (kept_at l n env) (binder_names (process_at l n)) kept;
          rising = names_rise 0 (length l.ty_of) (kept_at l n env) (binder_names (process_at l n)) kept;
          order = kept;
          bound = scoped_more (names_of env) (names_of (kept_at l n env)) (process_at l n) (kept_names (λ x. is_free x (process_at l n)) env) o.bound;
          free = kept_pass (λ b. is_free b.name (process_at l n)) env;
          results = omega arith;
        },
        tt,
      )

  -- the parts side by side
  prefixes_well : (env : List Bind) (n : ℕ) (p : Process) → process_at l n ≡ p → Opens l env n
      → AllByRecursion (Stands l) (map (begins_at l env) (prefixes_of l n p))
  prefixes_well env n nil h o = tt
  prefixes_well env n (par p q) h o =
      let tree = sym (tree_at l sound n) ∙ h in
      let sides = par_sides l sound (node_at l n) p q tree in
      let there = sides_there (node_at l n) n p q (unfolds_at l sound n o.there.0) tree in
      let bound = and_parts (is_scoped (names_of env) p) (is_scoped (names_of env) q) (ap (is_scoped (names_of env)) (sym h) ∙ o.bound) in
      let order =
      both_rise (length l.ty_of) (names_of env) (binders_of p) (binders_of q)
      (subst (λ r. RiseFrom 0 (length l.ty_of) (names_of env ++ binder_names r)) h o.order) in
      let left : Opens l env (left_of (node_at l n)) = record {
        there = there.0;
        bound = ap (is_scoped (names_of env)) sides.0 ∙ bound.0;
        order = subst (λ r. RiseFrom 0 (length l.ty_of) (names_of env ++ binder_names r)) (sym sides.0) order.0;
      } in
      let right : Opens l env (right_of (node_at l n)) = record {
        there = there.1;
        bound = ap (is_scoped (names_of env)) sides.1 ∙ bound.1;
        order = subst (λ r. RiseFrom 0 (length l.ty_of) (names_of env ++ binder_names r)) (sym sides.1) order.1;
      } in
      let all =
      all_append l (map (begins_at l env) (prefixes_of l (left_of (node_at l n)) p)) (map (begins_at l env) (prefixes_of l (right_of (node_at l n)) q))
      (prefixes_well env (left_of (node_at l n)) p sides.0 left) (prefixes_well env (right_of (node_at l n)) q sides.1 right) in
      subst (AllByRecursion (Stands l)) (sym (map-append (begins_at l env) (prefixes_of l (left_of (node_at l n)) p) (prefixes_of l (right_of
      (node_at l n)) q))) all
  prefixes_well env n (new b p) h o = begins_well env n (ap is_prefix h) o
  prefixes_well env n (qbit x p) h o = begins_well env n (ap is_prefix h) o
  prefixes_well env n (act e p) h o = begins_well env n (ap is_prefix h) o
  prefixes_well env n (input c bs p) h o = begins_well env n (ap is_prefix h) o
  prefixes_well env n (output c es p) h o = begins_well env n (ap is_prefix h) o
  prefixes_well env n (branch e f p q) h o = begins_well env n (ap is_prefix h) o

  -- the parts from a number stand well
  pub from_well : (env : List Bind) (n : ℕ) → Opens l env n → AllByRecursion (Stands l) (parts_from l env n)
  from_well env n o = prefixes_well env n (process_at l n) refl o
