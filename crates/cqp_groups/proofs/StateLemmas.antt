-- What a call does to its group it does to the state that the groups stand for.
use Rattle.std.proofs.Common.{true, ◌≡◌, ℕ, ◌+◌, ◌<◌, List, [], ◌∷◌, ◌++◌, length, Option, Some, None, refl, sym, ap, subst, arith, ◌∙◌, length-append}
use Rattle.std.proofs.lemmas.List.{length-map}
use Rattle.cqp_syntax.specs.declared.op.Op.{Op}
use Rattle.cqp_trace.specs.declared.deed.Deed.TheVariants as deed
use Rattle.cqp_vector.specs.State.{State, grown}
use Rattle.cqp_vector.specs.Measurement.{projected}
use Rattle.cqp_vector.specs.declared.odds.Odd.{Odd}
use Rattle.cqp_machine.specs.Factors.{Held, gated, index_of, joined, measured, new_group, rest_of}
use Rattle.cqp_machine.specs.Cells.{Cells, with_at}
use Rattle.cqp_machine.specs.Enabled.{name_of_rest}
use Rattle.cqp_machine.specs.After.{becomes, groups_by, groups_joined, lesser, product_of, split_in}
use Rattle.cqp_norms.specs.StateStands.{StateStands}
use Rattle.cqp_norms.proofs.StateHalf.{gate_stands, measure_stands}
use Rattle.cqp_norms.proofs.StateMore.{join_stands, qubit_stands}
use Rattle.cqp_splits.proofs.SplitStands.{split_stands}
use Rattle.cqp_groups.specs.Groups.{AreOdds, IsHeld, CanMeasure, CanPair, CanSplit, CanGate, as_cells, groups_in, groups_split, holds, split_by}
use Rattle.cqp_groups.specs.States.{AreOddsOf, TellState, IsChange, IsGate}
use Rattle.cqp_groups.specs.RunLaws.{HeldLaw}
use Rattle.cqp_groups.proofs.HeldPlaces.{held_qubits}
use Rattle.cqp_groups.proofs.SlotLemmas.{pushed_is}
use Rattle.cqp_groups.proofs.StateOdds.{odds_of_state}

-- what stands at each number
abbrev Table : Type 0
Table = ℕ → Option Held

-- cells with these groups alone
abbrev pub with_groups : Table → Cells
with_groups m = record { parts = λ i. None; chans = λ c. None; groups = m }

-- a list that has the groups stands for their state
pub state_of_list : (t : List (Option Held)) (m : Table) (h : ℕ) (s : State) → groups_in t ≡ m → StateStands (with_groups m) h s → StateStands (as_cells t) h s
state_of_list t m h s is stands = subst (λ z. StateStands (with_groups z) h s) (sym is) stands

module _ (s t : List (Option Held)) where
  -- a new qubit
  pub pushed_state : (q : ℕ) → q ≡ length s → t ≡ s ++ Some (new_group q) ∷ [] → IsChange s t grown
  pushed_state q next is h st x = record {
    places = ap length is ∙ (length-append s (Some (new_group q) ∷ []) ∙ ap (λ n. n + 1) x.places);
    stands = state_of_list t (with_at st.qubits (Some (new_group st.qubits)) (groups_in s)) h (grown st)
        (ap groups_in is
        ∙ (pushed_is s (Some (new_group q))
        ∙ (ap (λ n. with_at (length s) (Some (new_group n)) (groups_in s)) next
        ∙ ap (λ n. with_at n (Some (new_group n)) (groups_in s)) x.places)))
        (qubit_stands (as_cells s) h st x.stands);
  }

  -- a gate
  pub gate_state : (g : ℕ) (o : Op) (qs : List ℕ) → CanGate s g o qs → groups_in t ≡ groups_by (as_cells s) (deed.Gate o qs) g → length t ≡ length s
      → IsGate s t g o qs
  gate_state g o qs can is size h st due x =
      let G = can.held.before in
      let own = held_qubits G.qubits qs can.held.places in
      record {
        places = size ∙ x.places;
        stands = state_of_list t (with_at g (Some (gated o qs G)) (groups_in s)) _ _
            (is ∙ ap (λ z. with_at g (becomes (gated o qs) z) (groups_in s)) can.held.there)
            (gate_stands (as_cells s) h st x.stands g G can.held.there o qs (due G can.held.there) own.1);
      }

  -- a measurement
  pub measured_state : (g : ℕ) (qs : List ℕ) (m : ℕ) → CanMeasure s g qs m → groups_in t ≡ groups_by (as_cells s) (deed.Measure qs m) g → length t ≡ length s
      → IsChange s t (projected qs m)
  measured_state g qs m can is size h st x =
      let G = can.held.before in
      let own = held_qubits G.qubits qs can.held.places in
      record {
        places = size ∙ x.places;
        stands = state_of_list t (with_at g (Some (measured qs m G)) (groups_in s)) _ _
            (is ∙ ap (λ z. with_at g (becomes (measured qs m) z) (groups_in s)) can.held.there)
            (measure_stands (as_cells s) h st x.stands g G can.held.there qs m own.0 own.1);
      }

  -- a join
  pub joined_state : (l r : ℕ) → CanPair s l r → groups_in t ≡ groups_joined (as_cells s) l r → length t ≡ length s → IsChange s t (λ st. st)
  joined_state l r can is size h st x = record {
    places = size ∙ x.places;
    stands = state_of_list t (with_at (lesser l r) (Some (joined can.first can.second)) (with_at l None (with_at r None (groups_in s)))) h st
        (is
        ∙ (ap (λ z. with_at (lesser l r) (product_of z (groups_in s r)) (with_at l None (with_at r None (groups_in s)))) can.first_there
        ∙ ap (λ z. with_at (lesser l r) (product_of (Some can.first) z) (with_at l None (with_at r None (groups_in s)))) can.second_there))
        (join_stands (as_cells s) h st x.stands l r can.apart can.first can.second can.first_there can.second_there);
  }

  -- a split, by the qubits that are due
  by_due : (h : ℕ) (st : State) → StateStands (as_cells s) h st → (k : ℕ) (G : Held) → groups_in s k ≡ Some G → (ds : List ℕ) → G.due ≡ ds → 0 < length ds
      → StateStands (with_groups (split_in k ds (name_of_rest k (rest_of G.qubits ds)) (Some G) (groups_in s))) h st
  by_due h st x k G there [] is some = absurd (omega arith)
  by_due h st x k G there (q ∷ qs) is some = split_stands (as_cells s) h st x k G there q qs is (name_of_rest k (rest_of G.qubits (q ∷ qs))) refl

  -- a split changes nothing of the state
  pub split_state : (k : ℕ) → CanSplit s k → groups_in t ≡ groups_split (as_cells s) k → length t ≡ length s → IsChange s t (λ st. st)
  split_state k can is size h st x =
      let G = can.before in
      let count = length-map G.due (λ q. index_of q G.qubits) in
      record {
        places = size ∙ x.places;
        stands = state_of_list t (split_in k G.due (name_of_rest k (rest_of G.qubits G.due)) (Some G) (groups_in s)) h st
            (is ∙ ap (λ z. split_by k z (groups_in s)) can.there)
            (by_due h st x.stands k G can.there G.due refl (omega (arith, count, can.rightly.some)));
      }

-- the odds of qubits of a group are those of the state
pub odds_state : (s : List (Option Held)) (g : ℕ) (qs : List ℕ) → IsHeld s g qs → (odds : List Odd) → AreOdds s g qs odds → TellState s qs odds
odds_state s g qs held odds are h st x some =
    let G = held.before in
    let own = held_qubits G.qubits qs held.places in
    subst (λ z. AreOddsOf z qs st) (sym (are G held.there)) (odds_of_state (as_cells s) h st x.stands some g G held.there qs own.0 own.1)

-- each qubit that was made is in its owner's group alone
pub held_alone : HeldLaw
held_alone slots h s q x small =
    let own = x.stands.covers q (subst (λ n. q < n) x.places small) in
    record {
      group = x.stands.own q;
      there = ap (holds q) own.1 ∙ own.2;
      only = λ n t. owner n (groups_in slots n) refl t;
    }
  where
    owner : (n : ℕ) (o : Option Held) → groups_in slots n ≡ o → holds q o ≡ true → n ≡ x.stands.own q
    owner n None e t = cc
    owner n (Some G) e t = sym ((x.stands.partition.each n G e).owned q t)
