-- Qubits of a group by the places that they have in it.
use Rattle.std.proofs.Common.{◌≡◌, ℕ, List, [], ◌∷◌, length, Option, Some, None, true, false, ◌==◌, ◌||◌, refl, sym, ap, subst, ◌∙◌, ◌<◌, slice_index_or}
use Rattle.std.proofs.Common.{eq-eqb, ne_eqb, ⊎_elim}
use Rattle.std.proofs.lemmas.Bool.{cases_Bool, eqb-true, eqb-false}
use Rattle.std.specs.List.{list_any}
use Rattle.std.proofs.lemmas.List.{get_or_default, length-map}
use Rattle.cqp_book.specs.Keys.{has}
use Rattle.cqp_syntax.specs.declared.op.Op.{Op}
use Rattle.cqp_vector.specs.Measurement.{is_outcome}
use Rattle.cqp_vector.specs.Places.{ArePlaces}
use Rattle.cqp_machine.specs.Factors.{Held, index_of, places_in, state_of}
use Rattle.cqp_cells.proofs.Options.{same_some}
use Rattle.cqp_groups.specs.Groups.{ArePlacesOf, CanGate, CanGateAt, CanMeasure, IsHeld, groups_in}

-- a test of two numbers in either order
same_either : (x q : ℕ) → (x == q) ≡ (q == x)
same_either x q = ⊎_elim
    (λ (t : (x == q) ≡ true). t ∙ sym (eq-eqb q x (sym (eqb-true x q t))))
    (λ (t : (x == q) ≡ false). t ∙ sym (ne_eqb q x (λ e. eqb-false x q t (sym e))))
    (cases_Bool (x == q))

-- a number stands in a list where one of its numbers equals it
pub has_any : (q : ℕ) (xs : List ℕ) → list_any (λ y. y == q) xs ≡ has q xs
has_any q [] = refl
has_any q (x ∷ xs) = ap (λ b. b || list_any (λ y. y == q) xs) (same_either x q) ∙ ap (λ b. (q == x) || b) (has_any q xs)

-- what was read at a place of the list is the group there
pub read_there : (s t : List (Option Held)) (n : ℕ) (x : Option Held) (G : Held) → t ≡ s → x ≡ slice_index_or t n x → n < length s → x ≡ Some G
    → groups_in s n ≡ Some G
read_there s t n x G view read below is =
    get_or_default s n None x below ∙ (sym (read ∙ ap (λ z. slice_index_or z n x) view) ∙ is)

module _ (s : List (Option Held)) (g : ℕ) where
  -- a gate on qubits with these places is one on all qubits that have them
  pub can_gate_too : (o : Op) (ps qs : List ℕ) → CanGateAt s g o ps → ArePlacesOf s g qs ps → CanGate s g o qs
  can_gate_too o ps qs x at =
      let G = x.can.held.before in
      let same : places_in G.qubits x.qubits ≡ places_in G.qubits qs = sym (x.at G x.can.held.there) ∙ at G x.can.held.there in
      record {
        held = record {
          before = G;
          there = x.can.held.there;
          places = subst (ArePlaces (length G.qubits)) same x.can.held.places;
        };
        count = sym (length-map qs (λ q. index_of q G.qubits))
            ∙ (ap length (sym same) ∙ (length-map x.qubits (λ q. index_of q G.qubits) ∙ x.can.count));
        room = x.can.room;
      }

  module _ (qs ps : List ℕ) (G : Held) (at : ArePlacesOf s g qs ps) (there : groups_in s g ≡ Some G) where
    -- the places of qubits that the group has are distinct places in it
    pub places_there : IsHeld s g qs → ArePlaces (length G.qubits) ps
    places_there held =
        let same : held.before ≡ G = same_some {x = held.before} {y = G} (sym held.there ∙ there) in
        subst (ArePlaces (length G.qubits)) (sym (at G there))
        (subst (λ (F : Held). ArePlaces (length F.qubits) (places_in F.qubits qs)) same held.places)

    -- an outcome of the qubits is one of their places
    pub outcome_there : (m : ℕ) → CanMeasure s g qs m → is_outcome ps (state_of G) m ≡ true
    outcome_there m can =
        let same : can.held.before ≡ G = same_some {x = can.held.before} {y = G} (sym can.held.there ∙ there) in
        subst (λ z. is_outcome z (state_of G) m ≡ true) (sym (at G there))
        (subst (λ (F : Held). is_outcome (places_in F.qubits qs) (state_of F) m ≡ true) same can.some)
