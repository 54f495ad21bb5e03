-- Names of a list that are left to resolve.
use Rattle.std.proofs.Common.{◌≡◌, ℕ, ◌+◌, ◌<◌, ◌≤◌, List, [], ◌∷◌, ◌++◌, map, length, get_or, drop, refl, sym, ◌∙◌, ap, append_assoc, append-nil}
use Rattle.std.proofs.lemmas.List.{drop_more, drop_all}
use Rattle.cqp_program.specs.declared.program.Occ.{Occ}
use Rattle.cqp_expand.specs.declared.fault.ScopeFault.{ScopeFault}
use Rattle.cqp_expand.specs.declared.locals.Locals.{Locals}
use Rattle.cqp_expand.specs.Scopes.{Scope, find}
use Rattle.cqp_expand.specs.Expansion.{number_in, numbers_in}
use Rattle.cqp_expand.specs.Faults.{unbound_at, names_faults}
use Rattle.cqp_expand.specs.Locals.{scope_in, told, after}
use Rattle.cqp_expand.proofs.Faultless.{least-append}

-- faults behind others
pub after-append : (l : Locals) (fs gs : List ScopeFault) → after l (fs ++ gs) ≡ after (after l fs) gs
after-append l fs gs = ap (λ o. record l { least = o }) (least-append l.least fs gs)

-- these are left: their numbers make the list whole, and their faults make the rest
pub record NamesLeft (s : Scope) (rest : List Occ) (l whole : Locals) (ns all : List ℕ) : Type 0 where
  pub scope : scope_in l ≡ s
  pub numbers : ns ++ numbers_in s (map told rest) ≡ all
  pub faults : after l (names_faults s (map told rest)) ≡ whole

-- at first all are left
pub names_first : (l : Locals) (xs : List Occ)
    → NamesLeft (scope_in l) xs l (after l (names_faults (scope_in l) (map told xs))) [] (numbers_in (scope_in l) (map told xs))
names_first l xs = record { scope = refl; numbers = refl; faults = refl }

-- the first of them is resolved
names_next : (s : Scope) (x : Occ) (rest : List Occ) (l whole m : Locals) (ns all new : List ℕ) (n : ℕ) → NamesLeft s (x ∷ rest) l whole ns all
    → n ≡ number_in (scope_in l) x.name → m ≡ after l (unbound_at (find (scope_in l) x.name) x.at) → new ≡ ns ++ n ∷ []
    → NamesLeft s rest m whole new all
names_next s x rest l whole m ns all new n left number fault pushed =
    let own = unbound_at (find s x.name) x.at in
    let more = names_faults s (map told rest) in
    let others = numbers_in s (map told rest) in
    let is : n ≡ number_in s x.name = number ∙ ap (λ u. number_in u x.name) left.scope in
    let met : m ≡ after l own = fault ∙ ap (λ u. after l (unbound_at (find u x.name) x.at)) left.scope in
    record {
      scope = ap scope_in met ∙ left.scope;
      numbers = ap (λ xs. xs ++ others) pushed ∙ append_assoc ns (n ∷ []) others ∙ ap (λ k. ns ++ k ∷ others) is ∙ left.numbers;
      faults = ap (λ k. after k more) met ∙ sym (after-append l own more) ∙ left.faults;
    }

-- one more name is resolved
pub names_more : (s : Scope) (xs : List Occ) (i : ℕ) (x : Occ) (l whole m : Locals) (ns all new : List ℕ) (n : ℕ) → NamesLeft s (drop i xs) l whole ns all
    → i < length xs → x ≡ get_or xs i x
    → n ≡ number_in (scope_in l) x.name → m ≡ after l (unbound_at (find (scope_in l) x.name) x.at) → new ≡ ns ++ n ∷ []
    → NamesLeft s (drop (i + 1) xs) m whole new all
names_more s xs i x l whole m ns all new n left h is number fault pushed =
    let both : drop i xs ≡ x ∷ drop (i + 1) xs = drop_more xs i x h ∙ ap (λ y. y ∷ drop (i + 1) xs) (sym is) in
    names_next s x (drop (i + 1) xs) l whole m ns all new n (rw both at left) number fault pushed

-- where none are left they are all resolved
none_left : (s : Scope) (rest : List Occ) (l whole : Locals) (ns all : List ℕ) → rest ≡ [] → NamesLeft s rest l whole ns all → (ns ≡ all) × (l ≡ whole)
none_left s rest l whole ns all none left =
    let last = rw none at left in
    (sym (append-nil ns) ∙ last.numbers, last.faults)

-- with none left they are all resolved
pub names_none : (s : Scope) (xs : List Occ) (i : ℕ) (l whole : Locals) (ns all : List ℕ) → length xs ≤ i → NamesLeft s (drop i xs) l whole ns all
    → (ns ≡ all) × (l ≡ whole)
names_none s xs i l whole ns all h left = none_left s (drop i xs) l whole ns all (drop_all i xs h) left
