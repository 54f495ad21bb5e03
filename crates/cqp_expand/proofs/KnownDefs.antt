-- What the outlines of definitions say of the one that a call names.
use Rattle.std.proofs.Common.{◌≡◌, ℕ, zero, suc, ◌<◌, List, [], ◌∷◌, ◌++◌, map, length, get_or}
use Rattle.std.proofs.Common.{take, Bool, true, false, bytes_eq, Some, None, refl, sym, ◌∙◌, ap}
use Rattle.std.proofs.Common.{subst, arith, length-append}
use Rattle.std.specs.List.{AllByRecursion}
use Rattle.std.proofs.lemmas.List.{length-map}
use Rattle.std.proofs.Math.ListN.{get_or-append}
use Rattle.std.proofs.Math.Seq.{get_or-append_seam, take-append_seam}
use Rattle.cqp_syntax.specs.declared.ty.Ty.{Ty}
use Rattle.cqp_syntax.specs.TypeTrees.{type_at}
use Rattle.cqp_grammar.specs.Trees.{Parameter, ProcessTree, DefinitionTree}
use Rattle.cqp_expand.specs.declared.outline.Outline.{Outline}
use Rattle.cqp_expand.specs.Faults.{Signature, signature, signature_of}
use Rattle.cqp_expand.specs.Members.{local_types, def_of, texts_of}
use Rattle.cqp_expand.specs.Outlines.{HasParams, IsOutline, signatures, names_of, AreOutlines}

-- the first of a list
pub map_take : {X Y : Type 0} (f : X → Y) (n : ℕ) (xs : List X) → map f (take n xs) ≡ take n (map f xs)
map_take f zero xs = refl
map_take f (suc n) [] = refl
map_take f (suc n) (x ∷ xs) = ap (λ l. f x ∷ l) (map_take f n xs)

-- what holds of each holds of the first of them
pub all_take : {X : Type 0} (P : X → Type 0) (n : ℕ) (xs : List X) → AllByRecursion P xs → AllByRecursion P (take n xs)
all_take P zero xs h = tt
all_take P (suc n) [] h = tt
all_take P (suc n) (x ∷ xs) h = (h.0, all_take P n xs h.1)

-- as many outlines as definitions
pub outlines_count : (all : List Ty) (outlines : List Outline) (ds : List DefinitionTree) → AreOutlines all outlines ds → length outlines ≡ length ds
outlines_count all outlines [] a = ap length a
outlines_count all outlines (d ∷ ds) a =
    omega (arith, ap length a.2, length-append a.0 (a.1 ∷ []), outlines_count all a.0 ds a.4)

-- an outline's parameters have the types of its definition's
outline_params : (all : List Ty) (front : List Outline) (names : List (List ℕ)) (ps : List Parameter) (p : ProcessTree) (d : Outline)
    → IsOutline all front names ps p d
    → HasParams all d (map (λ x. x.ty) ps)
outline_params all front names ps p d i =
    let count : d.arity ≡ length (map (λ x. x.ty) ps) = i.arity ∙ sym (length-map ps (λ x. x.ty)) in
    record {
      arity = count;
      within = omega (arith, count, ap length i.types, length-map d.ty_of.items (type_at all), length-append (map (λ x. x.ty) ps) (local_types p));
      numbered = all_take (λ n. n < length all) d.arity d.ty_of.items i.numbered;
      types = map_take (type_at all) d.arity d.ty_of.items ∙ ap (take d.arity) i.types ∙ ap (λ n. take n (map (λ x. x.ty) ps ++ local_types p)) count
          ∙ take-append_seam (map (λ x. x.ty) ps) (local_types p);
    }

-- the definition that is found
pub record FoundDef (all : List Ty) (outlines : List Outline) (sigs : List Signature) (f : List ℕ) (i : ℕ) : Type 0 where
  pub own : Signature
  pub is : signature_of sigs f ≡ Some own
  pub within : i < length outlines
  pub params : (d : Outline) → d ≡ get_or outlines i d → HasParams all d own.params

-- two numbers that are the same answer
same_some : (m n : ℕ) → Some m ≡ Some n → m ≡ n
same_some m n e = cc

-- it has as many parameters as its outline says, and their types
pub found_def : (all : List Ty) (outlines : List Outline) (ds : List DefinitionTree) (f : List ℕ) (i : ℕ) → AreOutlines all outlines ds
    → def_of (names_of ds) f ≡ Some i
    → FoundDef all outlines (signatures ds) f i
found_def all outlines [] f i a e = absurd (cc)
found_def all outlines (d ∷ ds) f i a e = at_first (bytes_eq d.name f) refl (λ g. found_def all a.0 ds f i a.4 g)
  where
    at_first : (b : Bool) → bytes_eq d.name f ≡ b → (def_of (names_of ds) f ≡ Some i → FoundDef all a.0 (signatures ds) f i)
        → FoundDef all outlines (signatures (d ∷ ds)) f i
    at_first true t later =
        let here : Some (length (names_of ds)) ≡ Some i = rw t at e in
        let place : length a.0 ≡ i = outlines_count all a.0 ds a.4 ∙ sym (length-map ds signature)
        ∙ sym (length-map (signatures ds) (λ (x : Signature). x.text)) ∙ same_some (length (names_of ds)) i here in
        record {
          own = signature d;
          is = rw t refl;
          within = omega (arith, place, ap length a.2, length-append a.0 (a.1 ∷ []));
          params = λ x r.
              let same : x ≡ a.1 = r ∙ ap (λ l. get_or l i x) a.2 ∙ ap (λ k. get_or (a.0 ++ a.1 ∷ []) k x) (sym place) ∙ get_or-append_seam a.0 a.1 [] x in
              subst (λ y. HasParams all y (map (λ p. p.ty) d.params)) (sym same) (outline_params all a.0 (names_of ds) d.params d.body a.1 a.3);
        }
    at_first false t later =
        let other : def_of (names_of ds) f ≡ Some i = rw t at e in
        let r = later other in
        record {
          own = r.own;
          is = rw t r.is;
          within = omega (arith, r.within, ap length a.2, length-append a.0 (a.1 ∷ []));
          params = λ x q. r.params x (q ∙ ap (λ l. get_or l i x) a.2 ∙ get_or-append a.0 (a.1 ∷ []) x i r.within);
        }

-- a name without a number has no signature
pub none_found : (sigs : List Signature) (f : List ℕ) → def_of (texts_of sigs) f ≡ None → signature_of sigs f ≡ None
none_found [] f e = refl
none_found (d ∷ sigs) f e = at_first (bytes_eq d.text f) refl (λ g. none_found sigs f g)
  where
    at_first : (b : Bool) → bytes_eq d.text f ≡ b → (def_of (texts_of sigs) f ≡ None → signature_of sigs f ≡ None) → signature_of (d ∷ sigs) f ≡ None
    at_first true t later = let here : Some (length (texts_of sigs)) ≡ None = rw t at e in absurd (cc here)
    at_first false t later = let other : def_of (texts_of sigs) f ≡ None = rw t at e in rw t (later other)
