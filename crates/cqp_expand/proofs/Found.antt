-- The template that a call finds by its name stands at the number that the scan finds by it.
use Rattle.std.proofs.Common.{◌≡◌, ℕ, ◌<◌, List, [], ◌∷◌, map, length, Bool, true, false, bytes_eq, nat_eq, Option, Some, None, refl, sym, ◌∙◌, arith}
use Rattle.std.proofs.lemmas.List.{length-map}
use Rattle.std.proofs.lemmas.Bool.Decides.{nat_tests}
use Rattle.cqp_expand.specs.Expansion.{Template, template_of}
use Rattle.cqp_expand.specs.Members.{def_of}
use Rattle.cqp_expand.specs.Spread.{template_at}
use Rattle.cqp_expand.proofs.Small.{none_some, same_some}

-- the names of definitions
abbrev pub texts : List Template → List (List ℕ)
texts ts = map (λ t. t.text) ts

-- the template with a number, if there is one
abbrev found : List Template → Option ℕ → Option Template
found ts None = None
found ts (Some i) = template_at ts i

-- what is found is one of the definitions
pub def_below : (ds : List (List ℕ)) (f : List ℕ) (i : ℕ) → def_of ds f ≡ Some i → i < length ds
def_below [] f i h = absurd (none_some i h)
def_below (d ∷ ds) f i h = by (bytes_eq d f) refl (λ g. def_below ds f i g)
  where
    by : (b : Bool) → bytes_eq d f ≡ b → (def_of ds f ≡ Some i → i < length ds) → i < length (d ∷ ds)
    by true e later = let is : length ds ≡ i = same_some _ _ (rw e at h) in omega (arith, is)
    by false e later = let less = later (rw e at h) in omega (arith, less)

-- one more template changes nothing below it
pub template_below : (t : Template) (ts : List Template) (i : ℕ) → i < length ts → template_at (t ∷ ts) i ≡ template_at ts i
template_below t ts i h =
    let other : nat_eq i (length ts) ≡ false = grind (arith, nat_tests) in
    rw other refl

-- the last one stands at its number
pub template_last : (t : Template) (ts : List Template) (i : ℕ) → i ≡ length ts → template_at (t ∷ ts) i ≡ Some t
template_last t ts i h =
    let here : nat_eq i (length ts) ≡ true = grind (arith, nat_tests) in
    rw here refl

-- one more template changes nothing that was found
found_below : (t : Template) (ts : List Template) (f : List ℕ) (o : Option ℕ) → def_of (texts ts) f ≡ o → found (t ∷ ts) o ≡ found ts o
found_below t ts f None e = refl
found_below t ts f (Some i) e = template_below t ts i (let less = def_below (texts ts) f i e in omega (arith, less, length-map ts (λ t. t.text)))

-- by name and by number the same template is found
template_found : (ts : List Template) (f : List ℕ) → template_of ts f ≡ found ts (def_of (texts ts) f)
template_found [] f = refl
template_found (t ∷ ts) f = by (bytes_eq t.text f) refl (template_found ts f)
  where
    by : (b : Bool) → bytes_eq t.text f ≡ b → template_of ts f ≡ found ts (def_of (texts ts) f)
        → template_of (t ∷ ts) f ≡ found (t ∷ ts) (def_of (texts (t ∷ ts)) f)
    by true e later = rw e (sym (template_last t ts (length (texts ts)) (length-map ts (λ t. t.text))))
    by false e later = rw e (later ∙ sym (found_below t ts f (def_of (texts ts) f) refl))

-- a call that finds a template finds its number
pub record IsFound (ts : List Template) (f : List ℕ) (t : Template) : Type 0 where
  pub number : ℕ
  pub is : def_of (texts ts) f ≡ Some number
  pub at : template_at ts number ≡ Some t

-- where a template is found, so is its number
pub is_found : (ts : List Template) (f : List ℕ) (t : Template) → template_of ts f ≡ Some t → IsFound ts f t
is_found ts f t h = by (def_of (texts ts) f) refl
  where
    by : (o : Option ℕ) → def_of (texts ts) f ≡ o → IsFound ts f t
    by None e = let no : None ≡ Some t = rw (template_found ts f, e) at h in absurd (none_some t no)
    by (Some i) e = record { number = i; is = e; at = rw (template_found ts f, e) at h }

-- the templates before a definition are among all of them
pub record Among (ts all : List Template) : Type 0 where
  pub at : (i : ℕ) (t : Template) → template_at ts i ≡ Some t → template_at all i ≡ Some t

-- numbers of templates are below their count
template_within : (ts : List Template) (i : ℕ) (t : Template) → template_at ts i ≡ Some t → i < length ts
template_within [] i t h = absurd (none_some t h)
template_within (u ∷ ts) i t h = by (nat_eq i (length ts)) refl (λ g. template_within ts i t g)
  where
    by : (b : Bool) → nat_eq i (length ts) ≡ b → (template_at ts i ≡ Some t → i < length ts) → i < length (u ∷ ts)
    by true e later = let is : i ≡ length ts = grind (arith, nat_tests) in omega (arith, is)
    by false e later = let less = later (rw e at h) in omega (arith, less)

-- all are among all
pub among_self : (ts : List Template) → Among ts ts
among_self ts = record { at = λ i t h. h }

-- so are those before one of them
pub among_later : (u : Template) (ts all : List Template) → Among (u ∷ ts) all → Among ts all
among_later u ts all a = record { at = λ i t h. a.at i t (template_below u ts i (template_within ts i t h) ∙ h) }

-- the last of them stands at its number
pub among_last : (u : Template) (ts all : List Template) → Among (u ∷ ts) all → template_at all (length ts) ≡ Some u
among_last u ts all a = a.at (length ts) u (template_last u ts (length ts) refl)
