-- Along events each group stays a factor, and the front's level is the sum of the groups'.
use Rattle.std.proofs.Common.{◌≡◌, ◌≢◌, ℕ, suc, ◌+◌, ◌<◌, List, true, length, Some, None, refl, sym, ap, subst, arith, eq-eqb, ne_eqb, ◌∙◌, ⊎_elim}
use Rattle.std.proofs.lemmas.List.{length-map}
use Rattle.std.specs.List.{list_all}
use Rattle.cqp_book.specs.Keys.{has}
use Rattle.cqp_syntax.specs.declared.op.Op.{Op}
use Rattle.cqp_syntax.specs.Gates.{places_of}
use Rattle.cqp_vector.specs.State.{State}
use Rattle.cqp_machine.specs.Factors.{Held, index_of, level_of, new_group, gated, joined}
use Rattle.cqp_machine.specs.Cells.{Cells, with_at}
use Rattle.cqp_machine.specs.After.{lesser}
use Rattle.cqp_machine.specs.Sums.{sum_below, level_in, levels}
use Rattle.cqp_places.specs.Places.{IsDistinct}
use Rattle.cqp_local.proofs.PlacedLemmas.{with_at_in, with_at_out}
use Rattle.cqp_cells.proofs.Options.{same_some, none_is_some}
use Rattle.cqp_fresh.specs.Partition.{Groups}
use Rattle.cqp_fresh.proofs.Partition.{found}
use Rattle.cqp_norms.specs.StateStands.{StateStands}
use Rattle.cqp_machine.proofs.SumLemmas.{sum_changed, same_sum}
use Rattle.cqp_places.proofs.PlacesKept.{own_places}
use Rattle.cqp_levels.proofs.KeptFactors.{IsFactor, AreFactors, gated_factor, joined_factor}
use Rattle.cqp_levels.proofs.WholeLevels.{whole_level}

-- the sum of the levels of the groups named below n
abbrev pub level_sum : ℕ → Groups → ℕ
level_sum n m = sum_below n (λ g. level_in (m g))

-- one group more, or another in its place
pub factors_put : (m : Groups) (k : ℕ) (G : Held) → AreFactors m → IsFactor G → AreFactors (with_at k (Some G) m)
factors_put m k G all own g F t = ⊎_elim
    (λ (z : (g ≡ k) × (Some G ≡ Some F)). subst IsFactor (same_some {x = G} {y = F} z.1) own)
    (λ (z : (g ≢ k) × (m g ≡ Some F)). all g F z.1)
    (found k g (Some G) m F t)

-- a group less
pub factors_taken : (m : Groups) (k : ℕ) → AreFactors m → AreFactors (with_at k None m)
factors_taken m k all g F t = ⊎_elim
    (λ (z : (g ≡ k) × (None ≡ Some F)). absurd (none_is_some {x = F} z.1))
    (λ (z : (g ≢ k) × (m g ≡ Some F)). all g F z.1)
    (found k g None m F t)

-- the sum where a group changed
pub levels_changed : (n g : ℕ) (m : Groups) (G H : Held) (before after : ℕ) → g < n → m g ≡ Some G → before ≡ level_sum n m
    → after + level_of G ≡ before + level_of H → after ≡ level_sum n (with_at g (Some H) m)
levels_changed n g m G H before after below there is told =
    let sum = sum_changed n g (λ i. level_in (m i)) (λ i. level_in (with_at g (Some H) m i)) below
    (λ i other. ap level_in (with_at_out g i (Some H) m (ne_eqb i g other))) in
    let old : level_in (m g) ≡ level_of G = ap level_in there in
    let new : level_in (with_at g (Some H) m g) ≡ level_of H = ap level_in (with_at_in g g (Some H) m (eq-eqb g g refl)) in
    omega arith

-- a new qubit has no level
pub levels_grown : (n : ℕ) (m : Groups) → level_sum (n + 1) (with_at n (Some (new_group n)) m) ≡ level_sum n m
levels_grown n m =
    let up : n + 1 ≡ suc n = omega arith in
    let same = same_sum n (λ g. level_in (with_at n (Some (new_group n)) m g)) (λ g. level_in (m g))
    (λ g t. ap level_in (with_at_out n g (Some (new_group n)) m (ne_eqb g n (λ e. omega arith)))) in
    let last : level_in (with_at n (Some (new_group n)) m n) ≡ 0 = ap level_in (with_at_in n n (Some (new_group n)) m (eq-eqb n n refl)) in
    ap (λ k. level_sum k (with_at n (Some (new_group n)) m)) up ∙ omega arith

-- a gate and a measurement on qubits of a group
pub gate_keeps : (o : Op) (qs : List ℕ) (G : Held) → IsFactor G → IsDistinct qs → length qs ≡ places_of o → list_all (λ q. has q G.qubits) qs ≡ true
    → IsFactor (gated o qs G)
gate_keeps o qs G f distinct count has_all =
    gated_factor o qs G f (own_places G.qubits qs distinct has_all) (length-map qs (λ q. index_of q G.qubits) ∙ count)

-- a join keeps factors
pub join_keeps : (m : Groups) (l r : ℕ) (G H : Held) → m l ≡ Some G → m r ≡ Some H → AreFactors m
    → AreFactors (with_at (lesser l r) (Some (joined G H)) (with_at l None (with_at r None m)))
join_keeps m l r G H first second all =
    factors_put (with_at l None (with_at r None m)) (lesser l r) (joined G H)
    (factors_taken (with_at r None m) l (factors_taken m r all)) (joined_factor G H (all l G first) (all r H second))

-- cells that stand for one state have one sum of levels
pub one_level : (c e : Cells) (h : ℕ) (s : State) → StateStands c h s → StateStands e h s → AreFactors c.groups → AreFactors e.groups
    → levels s.qubits e ≡ levels s.qubits c
one_level c e h s x y all later = whole_level e h s y later ∙ sym (whole_level c h s x all)
