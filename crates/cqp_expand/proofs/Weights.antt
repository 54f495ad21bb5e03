-- How many turns the copy still takes: a call takes as many as its definition and one.
use Rattle.std.proofs.Common.{◌≡◌, ℕ, suc, zero, ◌+◌, ◌<◌, List, [], ◌∷◌, ◌++◌, length, drop, sum_by, slice_index, slice_get, Option, Some, None, refl, ap}
use Rattle.std.proofs.Common.{ap₂, sym, ◌∙◌, arith, length-append}
use Rattle.std.proofs.lemmas.List.Sums.{sum_by-cons}
use Rattle.std.specs.List.{AllByRecursion}
use Rattle.cqp_expand.specs.declared.copy.Instance.{Instance}
use Rattle.cqp_expand.specs.declared.outline.Outline.{Outline}
use Rattle.cqp_expand.specs.declared.outline.Member.{Member}
use Rattle.cqp_expand.specs.declared.outline.Member.TheVariants.{Own, Call}
use Rattle.cqp_expand.specs.Expansion.{Template}
use Rattle.cqp_expand.proofs.Made.{index_behind, index_within}
use Rattle.cqp_expand.proofs.ScopedMembers.{Scoped}
use Rattle.cqp_expand.proofs.Small.{same_some, none_some}

-- the turns of a member, by those of the definitions
abbrev pub member_weight : List ℕ → Member → ℕ
member_weight ws (Own x) = 1
member_weight ws (Call def args) = 1 + slice_index ws def

-- the turns of members, and one for their end
abbrev pub weight : List ℕ → List Member → ℕ
weight ws xs = 1 + sum_by (member_weight ws) xs

-- the turns of definitions behind others
abbrev pub weights_after : List ℕ → List Outline → List ℕ
weights_after ws [] = ws
weights_after ws (d ∷ ds) = weights_after (ws ++ weight ws d.members.items ∷ []) ds

-- the members of an outline
abbrev pub members_of : Option Outline → List Member
members_of None = []
members_of (Some d) = d.members.items

-- the turns that are left of a copy
abbrev pub turns : List Outline → Instance → ℕ
turns ds f = weight (weights_after [] ds) (drop f.next (members_of (slice_get ds f.def)))

-- and of all
abbrev pub turns_left : List Outline → List Instance → ℕ
turns_left ds fs = sum_by (turns ds) fs

-- calls of the first definitions
abbrev pub Before : ℕ → Member → Type 0
Before n (Own x) = Unit {0}
Before n (Call def args) = def < n

-- members call definitions before theirs
pub scoped_before : (all : List Template) (defs nodes total : ℕ) (xs : List Member) (k : ℕ) → Scoped all defs nodes total k xs → AllByRecursion (Before defs) xs
scoped_before all defs nodes total [] k s = tt
scoped_before all defs nodes total (Own x ∷ xs) k s = (tt, scoped_before all defs nodes total xs _ s.1)
scoped_before all defs nodes total (Call def args ∷ xs) k s = (s.0.before, scoped_before all defs nodes total xs _ s.1)

-- one more definition changes nothing before it
weights_keep : (ds : List Outline) (ws : List ℕ) (i : ℕ) → i < length ws → slice_index (weights_after ws ds) i ≡ slice_index ws i
weights_keep [] ws i h = refl
weights_keep (d ∷ ds) ws i h =
    let longer = length-append ws (weight ws d.members.items ∷ []) in
    weights_keep ds (ws ++ weight ws d.members.items ∷ []) i (omega (arith, h, longer)) ∙ index_within ws (weight ws d.members.items ∷ []) i h

-- weights that agree on the definitions before
weight_agrees : (us ws : List ℕ) (n : ℕ) (xs : List Member) → ((i : ℕ) → i < n → slice_index us i ≡ slice_index ws i) → AllByRecursion (Before n) xs
    → sum_by (member_weight us) xs ≡ sum_by (member_weight ws) xs
weight_agrees us ws n [] h b = refl
weight_agrees us ws n (Own x ∷ xs) h b = sum_by-cons (member_weight us) (Own x) xs ∙ ap (λ z. 1 + z) (weight_agrees us ws n xs h b.1)
    ∙ sym (sum_by-cons (member_weight ws) (Own x) xs)
weight_agrees us ws n (Call def args ∷ xs) h b =
    sum_by-cons (member_weight us) (Call def args) xs ∙ ap₂ (λ y z. 1 + y + z) (h def b.0) (weight_agrees us ws n xs h b.1)
    ∙ sym (sum_by-cons (member_weight ws) (Call def args) xs)

-- a definition takes as many turns as its members, and one
pub weights_at : (ds : List Outline) (ws : List ℕ) (k i : ℕ) (d : Outline) → length ws + k ≡ i → slice_get ds k ≡ Some d
    → AllByRecursion (Before i) d.members.items
    → slice_index (weights_after ws ds) i ≡ weight (weights_after ws ds) d.members.items
weights_at [] ws k i d e h b = absurd (none_some d h)
weights_at (c ∷ ds) ws zero i d e h b =
    let same : c ≡ d = same_some c d h in
    let w = weight ws c.members.items in
    let here : i ≡ length ws = omega (arith, e) in
    let longer = length-append ws (w ∷ []) in
    let stays = λ (j : ℕ) (l : j < i). weights_keep ds (ws ++ w ∷ []) j (omega (arith, l, here, longer))
    ∙ index_within ws (w ∷ []) j (omega (arith, l, here)) in
    let own = weights_keep ds (ws ++ w ∷ []) i (omega (arith, here, longer)) ∙ index_behind ws [] i w here in
    own ∙ ap (λ (z : Outline). weight ws z.members.items) same ∙ ap (λ z. 1 + z) (sym (weight_agrees (weights_after ws (c ∷ ds)) ws i d.members.items stays b))
weights_at (c ∷ ds) ws (suc k) i d e h b =
    let longer = length-append ws (weight ws c.members.items ∷ []) in
    weights_at ds (ws ++ weight ws c.members.items ∷ []) k i d (omega (arith, e, longer)) h b
