-- Law: the binders of a process in a scope count up in preorder.
use Rattle.std.proofs.Common.{◌≡◌, ℕ, suc, zero, ◌+◌, ◌-◌, List, [], ◌∷◌, ◌++◌, map, length, false, nat_lt, refl, ap, ap₂, sym, ◌∙◌, subst, arith}
use Rattle.std.proofs.lemmas.List.{length-map}
use Rattle.std.proofs.lemmas.Bool.Decides.{nat_tests}
use Rattle.std.specs.List.{range_with_len}
use Rattle.cqp_syntax.specs.TypeTrees.{TypeTree, qbit_type}
use Rattle.cqp_syntax.specs.Trees.{Binder, Process}
use Rattle.cqp_syntax.specs.Binders.{binders_of}
use Rattle.cqp_grammar.specs.Trees as tree
use Rattle.cqp_grammar.specs.Trees.{Parameter, ProcessTree}
use Rattle.cqp_expand.specs.Scopes.{Scope, below, below_all}
use Rattle.cqp_expand.specs.Renaming.{rename, rename_binder}
use Rattle.cqp_expand.specs.Expansion.{Template, binder_count, binders_from, argument_or_later, number_in, numbers_in, process_in}
use Rattle.cqp_expand.specs.Faults.{Signature, names_faults, name_faults, expr_faults, exprs_faults, repeats, process_faults}
use Rattle.cqp_expand.proofs.Renamed.{binders-rename, renamed_names}
use Rattle.cqp_expand.proofs.Templates.{AreFrom, AreTemplates, known, empty_parts}
use Rattle.cqp_expand.proofs.Small.{same_first, same_rest}

-- binders that count up from n
abbrev pub CountFrom : ℕ → List Binder → Type 0
CountFrom n bs = map (λ b. b.name) bs ≡ range_with_len n (length bs)

-- one more binder before others
pub first_from : (n : ℕ) (t : TypeTree) (bs : List Binder) → CountFrom (n + 1) bs → CountFrom n (record { name = n; ty = t } ∷ bs)
first_from n t bs h = ap (λ xs. n ∷ xs) h

-- binders behind others
pub joined_from : (n m : ℕ) (xs ys : List Binder) → m ≡ n + length xs → CountFrom n xs → CountFrom m ys → CountFrom n (xs ++ ys)
joined_from n m [] ys e h g = let same : m ≡ n = omega arith in subst (λ k. CountFrom k ys) same g
joined_from n m (x ∷ xs) ys e h g =
    ap₂ (λ a as_. a ∷ as_) (same_first x.name n _ _ h) (joined_from (n + 1) m xs ys (omega arith) (same_rest x.name n _ _ h) g)

-- parameters
pub length-binders_from : (n : ℕ) (ps : List Parameter) → length (binders_from n ps) ≡ length ps
length-binders_from n [] = refl
length-binders_from n (p ∷ ps) = ap suc (length-binders_from (n + 1) ps)

-- parameters count up from the number of the first
pub params_from : (n : ℕ) (ps : List Parameter) → CountFrom n (binders_from n ps)
params_from n [] = refl
params_from n (p ∷ ps) = first_from n p.ty (binders_from (n + 1) ps) (params_from (n + 1) ps)

-- the names behind the parameters are renamed to those from n on
pub later_name : (args : List ℕ) (n j : ℕ) → argument_or_later args n (length args + j) ≡ n + j
later_name args n j =
    let behind : nat_lt (length args + j) (length args) ≡ false = grind (arith, nat_tests) in
    let place : length args + j - length args ≡ j = omega arith in
    rw (behind, place) refl

-- the names behind the parameters count up from n in a copy
renamed_range : (args : List ℕ) (n j k : ℕ) → map (argument_or_later args n) (range_with_len (length args + j) k) ≡ range_with_len (n + j) k
renamed_range args n j zero = refl
renamed_range args n j (suc k) =
    let next : length args + j + 1 ≡ length args + (j + 1) = omega arith in
    let then_ : n + j + 1 ≡ n + (j + 1) = omega arith in
    ap₂ (λ a as_. a ∷ as_) (later_name args n j) (rw (next, then_) (renamed_range args n (j + 1) k))

-- the binders of a copy count up from n
pub copy_from : (args : List ℕ) (n : ℕ) (p : Process) → AreFrom (length args) p → AreFrom n (rename (argument_or_later args n) p)
copy_from args n p h =
    let r = argument_or_later args n in
    let start : length args + 0 ≡ length args = omega arith in
    let first : n + 0 ≡ n = omega arith in
    let count : length (binders_of (rename r p)) ≡ length (binders_of p) = ap length (binders-rename r p) ∙ length-map (binders_of p) (rename_binder r) in
    let all = renamed_range args n 0 (length (binders_of p)) in
    let range : map r (range_with_len (length args) (length (binders_of p))) ≡ range_with_len n (length (binders_of p)) = rw (start, first) at all in
    ap (map (λ b. b.name)) (binders-rename r p) ∙ renamed_names r (binders_of p) ∙ ap (map r) h ∙ range ∙ ap (range_with_len n) (sym count)

-- the binders of a process in a scope count up from n
pub process_from : (ts : List Template) (ds : List Signature) (s u : Scope) (n : ℕ) (p : ProcessTree) → AreTemplates ts ds
    → process_faults ds s p ≡ [] → AreFrom n (process_in ts u n p)
process_from ts ds s u n (tree.nil at) a h = refl
process_from ts ds s u n (tree.par at p q) a h =
    let parts = empty_parts (process_faults ds s p) (process_faults ds s q) h in
    joined_from n (n + binder_count (process_in ts u n p)) (binders_of (process_in ts u n p)) _ refl
    (process_from ts ds s u n p a parts.0) (process_from ts ds s u (n + binder_count (process_in ts u n p)) q a parts.1)
process_from ts ds s u n (tree.new at x t p) a h = first_from n t _ (process_from ts ds (below s 0 x.name t) (below u n x.name t) (n + 1) p a h)
process_from ts ds s u n (tree.qbit at x p) a h =
    first_from n qbit_type _ (process_from ts ds (below s 0 x.name qbit_type) (below u n x.name qbit_type) (n + 1) p a h)
process_from ts ds s u n (tree.act at e p) a h = process_from ts ds s u n p a (empty_parts (expr_faults s e) _ h).1
process_from ts ds s u n (tree.input at c ps p) a h =
    let parts = empty_parts (repeats [] ps) _ (empty_parts (name_faults s c) _ h).1 in
    joined_from n (n + length ps) (binders_from n ps) _ (ap (λ k. n + k) (sym (length-binders_from n ps))) (params_from n ps)
    (process_from ts ds (below_all s 0 ps) (below_all u n ps) (n + length ps) p a parts.1)
process_from ts ds s u n (tree.output at c es p) a h = process_from ts ds s u n p a (empty_parts (exprs_faults s es) _ (empty_parts (name_faults s c) _ h).1).1
process_from ts ds s u n (tree.branch at e f p q) a h =
    let parts = empty_parts (process_faults ds s p) (process_faults ds s q) (empty_parts (expr_faults s f) _ (empty_parts (expr_faults s e) _ h).1).1 in
    joined_from n (n + binder_count (process_in ts u n p)) (binders_of (process_in ts u n p)) _ refl
    (process_from ts ds s u n p a parts.0) (process_from ts ds s u (n + binder_count (process_in ts u n p)) q a parts.1)
process_from ts ds s u n (tree.call at f xs) a h =
    let k = known s at xs f ts ds a (empty_parts (names_faults s xs) _ h).1 in
    let count : k.template.arity ≡ length (numbers_in u xs) = k.arity ∙ sym (length-map xs (λ x. number_in u x.name)) in
    rw k.is (copy_from (numbers_in u xs) n k.template.body (subst (λ m. AreFrom m k.template.body) count k.right.numbered))
