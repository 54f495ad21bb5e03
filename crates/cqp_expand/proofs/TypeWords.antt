-- The words of types: types with one word are one, and a list of words tells which types are there.
use Rattle.std.proofs.Common.{◌≡◌, ℕ, suc, zero, ◌<◌, List, [], ◌∷◌, ◌++◌, map, length, slice_get, get_or, drop, Some, None, refl, ap, sym, ◌∙◌, arith}
use Rattle.std.proofs.Common.{Bool, true, false, ◌||◌, bytes_eq, Option, is_some, ap₂}
use Rattle.std.specs.Prelude.{IfSome, IfNone, if◌then◌else◌}
use Rattle.std.specs.List.{list_any, position}
use Rattle.std.proofs.lemmas.List.{get_or-map, length-map, map_push}
use Rattle.std.proofs.lemmas.List.Quantifiers.{position-Some}
use Rattle.std.proofs.lemmas.Slice.Eq.{bytes_eq-Decides}
use Rattle.std.proofs.lemmas.Option.{slice_get-get_or}
use Rattle.cqp_syntax.specs.declared.ty.Ty.{Ty}
use Rattle.cqp_syntax.specs.declared.ty.Ty.TheVariants as ty
use Rattle.cqp_expand.specs.TypeWords.{type_word}

-- types with one word are one
pub one_word : (t u : Ty) → type_word t ≡ type_word u → t ≡ u
one_word ty.Int ty.Int e = refl
one_word ty.Unit ty.Unit e = refl
one_word ty.Qbit ty.Qbit e = refl
one_word (ty.Op m) (ty.Op n) e = ap (λ w. ty.Op (get_or w 1 0)) e
one_word (ty.Chan ms) (ty.Chan ns) e = ap (λ w. ty.Chan (drop 1 w)) e
one_word t u e = absurd (cc e)

-- where neither of two holds, the second doesn't
neither : (a b : Bool) → (a || b) ≡ false → b ≡ false
neither true b h = absurd (cc h)
neither false b h = h

-- equal words pass the test
pub words_equal : (v w : List ℕ) → v ≡ w → bytes_eq v w ≡ true
words_equal v w e = (bytes_eq-Decides v w).1 e

module _ {V : Type 0} (f : V → List ℕ) (t : Ty) where
  -- whether what is seen as a word is the type's
  abbrev pub is_word : V → Bool
  is_word v = bytes_eq (type_word t) (f v)

  -- where the type's word stands, the type stands
  pub type_of_word : (types : List Ty) (words : List V) (n : ℕ) (d : V) → map f words ≡ map type_word types
      → position is_word words ≡ Some n → slice_get types n ≡ Some t
  type_of_word types words n d e h =
      let at = position-Some is_word words n d h in
      let within = at.0 in
      let same = ap length e in
      let less : n < length types = omega (arith, within, same, length-map words f, length-map types type_word) in
      let word : type_word t ≡ f (get_or words n d) = (bytes_eq-Decides (type_word t) (f (get_or words n d))).0 at.1 in
      let there : f (get_or words n d) ≡ type_word (get_or types n t)
      = sym (get_or-map f words n d (f d) within) ∙ ap (λ l. get_or l n (f d)) e ∙ get_or-map type_word types n t (f d) less in
      slice_get-get_or types n t less ∙ ap Some (sym (one_word t (get_or types n t) (word ∙ there)))

  -- where it stands nowhere, the type doesn't
  pub no_word : (types : List Ty) (words : List V) → map f words ≡ map type_word types → list_any is_word words ≡ false
      → (n : ℕ) → slice_get types n ≡ Some t → ⊥
  no_word [] words e h n g = absurd (cc g)
  no_word (u ∷ us) [] e h n g = absurd (cc e)
  no_word (u ∷ us) (v ∷ vs) e h zero g =
      let yes : is_word v ≡ true = words_equal (type_word t) (f v) (ap type_word (cc g) ∙ sym (ap (λ l. get_or l 0 []) e)) in
      absurd (cc (rw yes at h))
  no_word (u ∷ us) (v ∷ vs) e h (suc n) g = no_word us vs (ap (drop 1) e) (neither (is_word v) (list_any is_word vs) h) n g

  -- and where the type doesn't stand, its word doesn't
  pub new_word : (types : List Ty) (words : List V) → map f words ≡ map type_word types
      → ((n : ℕ) → slice_get types n ≡ Some t → ⊥) → list_any is_word words ≡ false
  new_word types [] e h = refl
  new_word [] (v ∷ vs) e h = absurd (cc e)
  new_word (u ∷ us) (v ∷ vs) e h = by (is_word v) refl (new_word us vs (ap (drop 1) e) (λ n i. h (suc n) i))
    where
      by : (b : Bool) → is_word v ≡ b → list_any is_word vs ≡ false → list_any is_word (v ∷ vs) ≡ false
      by true g rest = absurd (h 0 (ap Some (sym (one_word t u ((bytes_eq-Decides (type_word t) (f v)).0 g ∙ ap (λ l. get_or l 0 []) e)))))
      by false g rest = rw g rest

  -- the answer of a search for the type's word is the index of the type
  pub found_word : (types : List Ty) (words : List V) (o : Option ℕ) (d : V) → map f words ≡ map type_word types
      → o ≡ position is_word words → IfSome o (λ n. slice_get types n ≡ Some t)
  found_word types words None d e h = tt
  found_word types words (Some n) d e h = type_of_word types words n d e (sym h)

  -- and where it finds none, the type isn't there
  pub lost_word : (types : List Ty) (words : List V) (o : Option ℕ) → map f words ≡ map type_word types
      → is_some o ≡ list_any is_word words → IfNone o ((n : ℕ) → slice_get types n ≡ Some t → ⊥)
  lost_word types words None e h = λ n g. no_word types words e (sym h) n g
  lost_word types words (Some n) e h = tt

  -- the words of one type more
  pub words_more : (types : List Ty) (words : List V) (w : V) → map f words ≡ map type_word types
      → ((n : ℕ) → slice_get types n ≡ Some t → ⊥) → f w ≡ type_word t
      → map f (if list_any is_word words then words else words ++ w ∷ []) ≡ map type_word (types ++ t ∷ [])
  words_more types words w e h g =
      rw (new_word types words e h)
      (map_push f words w ∙ ap₂ (λ a b. a ++ b ∷ []) e g ∙ sym (map_push type_word types t))
