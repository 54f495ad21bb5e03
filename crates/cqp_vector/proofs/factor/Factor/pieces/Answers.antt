use Rattle.std.proofs.Common.{◌≡◌, ◌≢◌, ◌∙◌, ◌^◌, ◌++◌, ◌∷◌, [], ◌<◌, sym, ap, subst, rules, length, map, ℕ, List}
use Rattle.std.specs.Prelude.{◌==◌, filter, slice_index, IfOk}
use Rattle.std.specs.List.{range_with_len}
use Rattle.std.proofs.lemmas.List.{get_or_default}
use Rattle.cqp_ring.specs.declared.amp.Amp.{Amp}
use Rattle.cqp_ring.specs.Amp.{zero_amp, one_amp}
use Rattle.cqp_vector.specs.State.{amp_at}
use Rattle.cqp_vector.specs.Measurement.{outcome_at}
use Rattle.cqp_vector.specs.Group.{Group, IsGroup}
use Rattle.cqp_vector.specs.Places.{ArePlaces}
use Rattle.cqp_vector.specs.Pieces.{IsProjectedOn, IsScalar, agreeing, other_places, singles, pieces_of, rest_of}
use Rattle.cqp_vector.proofs.PieceLemmas.{pieces_whole, pieces_apart, rest_made, scalar_of, some_agree}
use Rattle.cqp_vector.proofs.OtherPlaces.{rest_group}
use Rattle.cqp_vector.proofs.factor.Factor.pieces.Goals as goal

-- the numerators that were found agree
found : (ps : List ℕ) (m : ℕ) (g : Group) (qs : List ℕ) (xs nums : List Amp) → qs ≡ g.qubits → xs ≡ g.nums
    → nums ≡ map (amp_at xs) (filter (λ k. outcome_at (length qs) ps k == m) (range_with_len 0 (2 ^ length qs))) → nums ≡ agreeing ps m g
found ps m g qs xs nums e f h =
    h ∙ ap (λ t. map (amp_at t) (filter (λ k. outcome_at (length qs) ps k == m) (range_with_len 0 (2 ^ length qs)))) f
    ∙ ap (λ (t : List ℕ). map (amp_at g.nums) (filter (λ k. outcome_at (length t) ps k == m) (range_with_len 0 (2 ^ length t)))) e

pub index-requires : goal.index-requires
index-requires c =
    let g : Group = record { qubits = c.self.inside.qubits; nums = c.self.inside.nums.items; h = c.self.inside.h } in
    let p = subst (λ (t : Group). ArePlaces (length t.qubits) c.args.places.now) (sym c.self.view_is) c.requires.places in
    let e = subst (λ (t : Group). IsProjectedOn c.args.places.now c.args.outcome t) (sym c.self.view_is) c.requires.projected in
    let same = found c.args.places.now c.args.outcome g c.as_slice-qubits.result.now c.deref.result.now c.in_ok-nums.nums.items
    c.as_slice-qubits.ensures c.deref.ensures.value c.in_ok-nums.ensures in
    let some = subst (λ (t : List Amp). 0 < length t) (sym same) (some_agree c.args.places.now c.args.outcome g c.self.invariant p e) in
    search (rules, some)

pub singles-requires-clause-scalar : goal.singles-requires-clause-scalar
singles-requires-clause-scalar c =
    let g : Group = record { qubits = c.self.inside.qubits; nums = c.self.inside.nums.items; h = c.self.inside.h } in
    let p = subst (λ (t : Group). ArePlaces (length t.qubits) c.args.places.now) (sym c.self.view_is) c.requires.places in
    let e = subst (λ (t : Group). IsProjectedOn c.args.places.now c.args.outcome t) (sym c.self.view_is) c.requires.projected in
    let same = found c.args.places.now c.args.outcome g c.as_slice-qubits.result.now c.deref.result.now c.in_ok-nums.nums.items
    c.as_slice-qubits.ensures c.deref.ensures.value c.in_ok-nums.ensures in
    let all : length c.args.places.now ≡ length g.qubits = c.if-places-qubits.true ∙ ap length c.as_slice-qubits.ensures in
    let first = get_or_default c.in_ok-nums.nums.items 0 c.index.result.now zero_amp
    (subst (λ (t : List Amp). 0 < length t) (sym same) (some_agree c.args.places.now c.args.outcome g c.self.invariant p e)) in
    let one : c.index.result.now ≡ amp_at (agreeing c.args.places.now c.args.outcome g) 0 = c.index.ensures ∙ first ∙ ap (λ t. amp_at t 0) same in
    subst (λ t. IsScalar t c.self.inside.h) (sym one) (scalar_of c.args.places.now c.args.outcome g c.self.invariant p e all)

pub returns-then-places-qubits : goal.returns-then-places-qubits
returns-then-places-qubits c =
    let g : Group = record { qubits = c.self.inside.qubits; nums = c.self.inside.nums.items; h = c.self.inside.h } in
    let p = subst (λ (t : Group). ArePlaces (length t.qubits) c.args.places.now) (sym c.self.view_is) c.requires.places in
    let e = subst (λ (t : Group). IsProjectedOn c.args.places.now c.args.outcome t) (sym c.self.view_is) c.requires.projected in
    let same = found c.args.places.now c.args.outcome g c.as_slice-qubits.result.now c.deref.result.now c.in_ok-nums.nums.items
    c.as_slice-qubits.ensures c.deref.ensures.value c.in_ok-nums.ensures in
    let all : length c.args.places.now ≡ length g.qubits = c.if-places-qubits.true ∙ ap length c.as_slice-qubits.ensures in
    let first = get_or_default c.in_ok-nums.nums.items 0 c.index.result.now zero_amp
    (subst (λ (t : List Amp). 0 < length t) (sym same) (some_agree c.args.places.now c.args.outcome g c.self.invariant p e)) in
    let one : c.index.result.now ≡ amp_at (agreeing c.args.places.now c.args.outcome g) 0 = c.index.ensures ∙ first ∙ ap (λ t. amp_at t 0) same in
    let made : singles c.args.places.now c.args.outcome c.as_slice-qubits.result.now c.index.result.now c.self.inside.h
    ≡ pieces_of c.args.places.now c.args.outcome c.args.self.now =
    ap (λ t. singles c.args.places.now c.args.outcome t c.index.result.now c.self.inside.h) c.as_slice-qubits.ensures
    ∙ ap (λ t. singles c.args.places.now c.args.outcome c.self.inside.qubits t c.self.inside.h) one
    ∙ pieces_whole c.args.places.now c.args.outcome g all ∙ ap (pieces_of c.args.places.now c.args.outcome) c.self.view_is in
    subst (λ (t : List Group). IfOk c.singles.result (λ v. v.items ≡ t)) made c.singles.ensures

-- the rest as it is made
rest : (ps : List ℕ) (m : ℕ) (g : Group) (qs others : List ℕ) (nums : List Amp) → qs ≡ g.qubits
    → others ≡ map (slice_index qs) (other_places (length qs) ps) → nums ≡ agreeing ps m g
    → let x : Group = record { qubits = others; nums = nums; h = g.h } in x ≡ rest_of ps m g
rest ps m g qs others nums e f h = rest_made ps m g others nums (f ∙ ap (λ (t : List ℕ). map (slice_index t) (other_places (length t) ps)) e) h

pub invariant_of-push : goal.invariant_of-push
invariant_of-push c =
    let g : Group = record { qubits = c.self.inside.qubits; nums = c.self.inside.nums.items; h = c.self.inside.h } in
    let p = subst (λ (t : Group). ArePlaces (length t.qubits) c.args.places.now) (sym c.self.view_is) c.requires.places in
    let e = subst (λ (t : Group). IsProjectedOn c.args.places.now c.args.outcome t) (sym c.self.view_is) c.requires.projected in
    let same = found c.args.places.now c.args.outcome g c.as_slice-qubits.result.now c.deref.result.now c.in_ok-nums.nums.items
    c.as_slice-qubits.ensures c.deref.ensures.value c.in_ok-nums.ensures in
    let apart : length c.args.places.now ≢ length g.qubits = λ f. c.if-places-qubits.false (f ∙ sym (ap length c.as_slice-qubits.ensures)) in
    let made = rest c.args.places.now c.args.outcome g c.as_slice-qubits.result.now c.in_ok-qubits.qubits c.in_ok-nums.nums.items
    c.as_slice-qubits.ensures c.in_ok-qubits.ensures same in
    subst IsGroup (sym made) (rest_group c.args.places.now c.args.outcome g c.self.invariant p e apart)

pub returns : goal.returns
returns c =
    let g : Group = record { qubits = c.self.inside.qubits; nums = c.self.inside.nums.items; h = c.self.inside.h } in
    let same = found c.args.places.now c.args.outcome g c.as_slice-qubits.result.now c.deref.result.now c.in_ok-nums.nums.items
    c.as_slice-qubits.ensures c.deref.ensures.value c.in_ok-nums.ensures in
    let apart : length c.args.places.now ≢ length g.qubits = λ f. c.if-places-qubits.false (f ∙ sym (ap length c.as_slice-qubits.ensures)) in
    let made = rest c.args.places.now c.args.outcome g c.as_slice-qubits.result.now c.in_ok-qubits.qubits c.in_ok-nums.nums.items
    c.as_slice-qubits.ensures c.in_ok-qubits.ensures same in
    c.in_ok-push.ensures.items
    ∙ ap (λ (t : List Group). t ++ record { qubits = c.in_ok-qubits.qubits; nums = c.in_ok-nums.nums.items; h = c.self.inside.h } ∷ [])
    (c.in_ok-list.ensures ∙ ap (λ t. singles c.args.places.now c.args.outcome t one_amp 0) c.as_slice-qubits.ensures)
    ∙ ap (λ (t : Group). singles c.args.places.now c.args.outcome c.self.inside.qubits one_amp 0 ++ t ∷ []) made
    ∙ pieces_apart c.args.places.now c.args.outcome g apart ∙ ap (pieces_of c.args.places.now c.args.outcome) c.self.view_is
