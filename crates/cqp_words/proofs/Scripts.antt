-- A list of texts while it is read, from comma to comma.
use Rattle.std.proofs.Common.{◌≡◌, suc, ◌<◌, List, [], ◌∷◌, ◌++◌, length, true, false, Bool, refl, ap, sym, ◌∙◌, subst, arith, append_assoc}
use Rattle.std.specs.List.{slice_split, position_or_len, before_first, after_first, onto_first}
use Rattle.std.proofs.lemmas.List.Splits.{slice_split_first, slice_split-cons_no}
use Rattle.cqp_words.specs.Items.{Text}
use Rattle.cqp_words.specs.Requests.{AreSaid, IsList, is_comma}

-- a text without a comma is one piece
alone : (xs : Text) → position_or_len is_comma xs ≡ length xs → slice_split is_comma xs ≡ xs ∷ []
alone [] h = refl
alone (x ∷ xs) h = by (is_comma x) refl (λ g. alone xs g)
  where
    by : (b : Bool) → is_comma x ≡ b → (position_or_len is_comma xs ≡ length xs → slice_split is_comma xs ≡ xs ∷ [])
        → slice_split is_comma (x ∷ xs) ≡ (x ∷ xs) ∷ []
    by true e k = let none = rw e at h in absurd (omega (arith, none))
    by false e k =
        let same = rw e at h in
        slice_split-cons_no is_comma x xs e ∙ ap (onto_first x) (k (omega (arith, same)))

module _ {X : Type 0} (says : Text → X → Type 0) where
  -- the pieces so far say what was read so far
  pub record Reading (text rest : Text) (xs : List X) : Type 0 where
    pub done : List Text
    pub pieces : slice_split is_comma text ≡ done ++ slice_split is_comma rest
    pub are : AreSaid says done xs

  -- at first nothing was read
  pub begins : (text : Text) → Reading text text []
  begins text = record { done = []; pieces = refl; are = refl }

  -- one more piece
  one_more : (ts : List Text) (xs : List X) (t : Text) (x : X) → AreSaid says ts xs → says t x → AreSaid says (ts ++ t ∷ []) (xs ++ x ∷ [])
  one_more [] [] t x a i = (i, refl)
  one_more [] (y ∷ ys) t x a i = absurd (filled y ys a)
    where
      filled : (y : X) (ys : List X) → y ∷ ys ≡ [] → ⊥
      filled y ys e = cc
  one_more (u ∷ ts) [] t x a i = absurd a
  one_more (u ∷ ts) (y ∷ ys) t x a i = (a.0, one_more ts ys t x a.1 i)

  -- a piece before a comma
  pub goes_on : (text rest : Text) (xs : List X) (x : X) → Reading text rest xs → position_or_len is_comma rest < length rest
      → says (before_first is_comma rest) x → Reading text (after_first is_comma rest) (xs ++ x ∷ [])
  goes_on text rest xs x r h i = record {
    done = r.done ++ before_first is_comma rest ∷ [];
    pieces = r.pieces ∙ ap (λ z. r.done ++ z) (slice_split_first is_comma rest 0 h)
        ∙ sym (append_assoc r.done (before_first is_comma rest ∷ []) (slice_split is_comma (after_first is_comma rest)));
    are = one_more r.done xs (before_first is_comma rest) x r.are i;
  }

  -- the last piece
  pub ends : (text rest : Text) (xs : List X) (x : X) → Reading text rest xs → position_or_len is_comma rest ≡ length rest
      → says rest x → IsList says text (xs ++ x ∷ [])
  ends text rest xs x r h i =
      let pieces : slice_split is_comma text ≡ r.done ++ rest ∷ [] = r.pieces ∙ ap (λ z. r.done ++ z) (alone rest h) in
      subst (λ z. AreSaid says z (xs ++ x ∷ [])) (sym pieces) (one_more r.done xs rest x r.are i)

  -- a piece that says nothing
  no_piece : (ts : List Text) (t : Text) (more : List Text) (xs : List X) → ((x : X) → says t x → ⊥) → AreSaid says (ts ++ t ∷ more) xs → ⊥
  no_piece [] t more [] never a = a
  no_piece [] t more (x ∷ xs) never a = never x a.0
  no_piece (u ∷ ts) t more [] never a = a
  no_piece (u ∷ ts) t more (x ∷ xs) never a = no_piece ts t more xs never a.1

  -- a piece before a comma that says nothing, so the text is no list
  pub stops : (text rest : Text) (xs : List X) → Reading text rest xs → position_or_len is_comma rest < length rest
      → ((x : X) → says (before_first is_comma rest) x → ⊥) → (ys : List X) → IsList says text ys → ⊥
  stops text rest xs r h never ys a =
      let pieces = r.pieces ∙ ap (λ z. r.done ++ z) (slice_split_first is_comma rest 0 h) in
      no_piece r.done (before_first is_comma rest) _ ys never (subst (λ z. AreSaid says z ys) pieces a)

  -- a last piece that says nothing, so the text is no list
  pub stops_last : (text rest : Text) (xs : List X) → Reading text rest xs → position_or_len is_comma rest ≡ length rest
      → ((x : X) → says rest x → ⊥) → (ys : List X) → IsList says text ys → ⊥
  stops_last text rest xs r h never ys a =
      let pieces = r.pieces ∙ ap (λ z. r.done ++ z) (alone rest h) in
      no_piece r.done rest [] ys never (subst (λ z. AreSaid says z ys) pieces a)

-- two lists that the same texts say are of one length
pub same_count : {X : Type 0} (says : Text → X → Type 0) (ts : List Text) (xs ys : List X) → AreSaid says ts xs
    → AreSaid says ts ys → length xs ≡ length ys
same_count says [] xs ys a b = ap length (a ∙ sym b)
same_count says (t ∷ ts) [] ys a b = absurd a
same_count says (t ∷ ts) (x ∷ xs) [] a b = absurd b
same_count says (t ∷ ts) (x ∷ xs) (y ∷ ys) a b = ap suc (same_count says ts xs ys a.1 b.1)
