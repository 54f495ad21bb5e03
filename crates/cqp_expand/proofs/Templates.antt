-- Templates of definitions without faults: their binders are numbered behind their parameters, and
-- their names stand under these or under binders.
use Rattle.std.proofs.Common.{◌≡◌, ℕ, List, [], ◌∷◌, ◌++◌, map, length, Bool, true, false, nat_eq, bytes_eq, Some, refl, ◌∙◌, arith}
use Rattle.std.proofs.lemmas.Bool.Decides.{nat_tests}
use Rattle.std.specs.List.{range_with_len}
use Rattle.cqp_syntax.specs.Trees.{Process}
use Rattle.cqp_syntax.specs.Preorder.{process_size}
use Rattle.cqp_syntax.specs.Binders.{binders_of}
use Rattle.cqp_syntax.specs.Scope.{is_scoped}
use Rattle.cqp_grammar.specs.Trees.{Occurrence}
use Rattle.cqp_expand.specs.declared.fault.FaultKind.{FaultKind}
use Rattle.cqp_expand.specs.Scopes.{Scope}
use Rattle.cqp_expand.specs.Expansion.{Template, template_of, binder_count}
use Rattle.cqp_expand.specs.Faults.{Signature, signature_of, unless, call_faults}
use Rattle.cqp_expand.proofs.Small.{filled}

-- both parts of an empty list are empty
pub empty_parts : {X : Type 0} (xs ys : List X) → xs ++ ys ≡ [] → (xs ≡ []) × (ys ≡ [])
empty_parts [] ys h = (refl, h)
empty_parts (x ∷ xs) ys h = absurd (filled x (xs ++ ys) h)

-- names that count up from n
abbrev pub AreFrom : ℕ → Process → Type 0
AreFrom n p = map (λ b. b.name) (binders_of p) ≡ range_with_len n (binder_count p)

-- a template whose body is closed below its parameters
pub record IsTemplate (t : Template) : Type 0 where
  pub numbered : AreFrom t.arity t.body
  pub scoped : is_scoped (range_with_len 0 t.arity) t.body ≡ true
  pub placed : length t.at ≡ process_size t.body

-- templates of the definitions with these signatures
abbrev pub AreTemplates : List Template → List Signature → Type 0
AreTemplates [] [] = Unit {0}
AreTemplates (t ∷ ts) (d ∷ ds) = (t.text ≡ d.text) × (t.arity ≡ length d.params) × IsTemplate t × AreTemplates ts ds
AreTemplates ts ds = ⊥

-- the template of a definition that is known
pub record Known (ts : List Template) (f : List ℕ) (count : ℕ) : Type 0 where
  pub template : Template
  pub is : template_of ts f ≡ Some template
  pub arity : template.arity ≡ count
  pub right : IsTemplate template

-- where a call has no fault, its definition has a template with as many parameters as arguments
unless_true : (b : Bool) (k : FaultKind) (n : ℕ) → unless b k n ≡ [] → b ≡ true
unless_true true k n h = refl
unless_true false k n h = absurd (filled _ _ h)

-- counts that the test finds equal are equal
same_length : (m n : ℕ) → nat_eq m n ≡ true → n ≡ m
same_length m n h = grind (arith, nat_tests)

-- a call without fault has a template with as many parameters as arguments
pub known : (s : Scope) (n : ℕ) (xs : List Occurrence) (f : List ℕ) (ts : List Template) (ds : List Signature)
    → AreTemplates ts ds → call_faults s n xs (signature_of ds f) ≡ [] → Known ts f (length xs)
known s n xs f [] [] a h = absurd (filled _ _ h)
known s n xs f [] (d ∷ ds) a h = absurd a
known s n xs f (t ∷ ts) [] a h = absurd a
known s n xs f (t ∷ ts) (d ∷ ds) a h = at_first (bytes_eq d.text f) refl (λ no. known s n xs f ts ds a.3 no)
  where
    at_first : (b : Bool) → bytes_eq d.text f ≡ b → (call_faults s n xs (signature_of ds f) ≡ [] → Known ts f (length xs)) → Known (t ∷ ts) f (length xs)
    at_first true e later =
        let here : bytes_eq t.text f ≡ true = rw a.0 e in
        let no : call_faults s n xs (Some d) ≡ [] = rw e at h in
        let count = same_length (length xs) (length d.params) (unless_true _ _ _ (empty_parts _ _ no).0) in
        record { template = t; is = rw here refl; arity = a.1 ∙ count; right = a.2 }
    at_first false e later =
        let other : bytes_eq t.text f ≡ false = rw a.0 e in
        let no : call_faults s n xs (signature_of ds f) ≡ [] = rw e at h in
        let k = later no in
        record { template = k.template; is = rw other k.is; arity = k.arity; right = k.right }
