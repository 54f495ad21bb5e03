-- Small outlines tell where their nodes end, and so do small bodies whose calls name them.
use Rattle.std.specs.Prelude.{◌⊎◌}
use Rattle.std.proofs.Common.{◌≡◌, ℕ, zero, suc, inl, inr, ◌+◌, ◌<◌, ◌≤◌, List, [], ◌∷◌, ◌++◌}
use Rattle.std.proofs.Common.{length, sum_by, Option, Some, None, slice_get, refl, sym, ◌∙◌, ap}
use Rattle.std.proofs.Common.{subst, arith}
use Rattle.std.specs.List.{AllByRecursion}
use Rattle.std.proofs.lemmas.List.{length-map}
use Rattle.std.proofs.lemmas.List.Sums.{sum_by-cons}
use Rattle.std.proofs.Math.Seq.{take-length}
use Rattle.cqp_syntax.specs.declared.ty.Ty.{Ty}
use Rattle.cqp_syntax.specs.declared.node.Node.{Node}
use Rattle.cqp_syntax.specs.declared.node.Node.TheVariants as node
use Rattle.cqp_syntax.specs.Listing.{breadth_of}
use Rattle.cqp_grammar.specs.Trees.{DefinitionTree}
use Rattle.cqp_expand.specs.declared.outline.Outline.{Outline}
use Rattle.cqp_expand.specs.declared.outline.Member.{Member}
use Rattle.cqp_expand.specs.declared.outline.Member.TheVariants.{Own, Call}
use Rattle.cqp_expand.specs.Scopes.{below_all}
use Rattle.cqp_expand.specs.Faults.{Signature, signature}
use Rattle.cqp_expand.specs.Sizes.{IsKnown, member_count, IsSizedMember, member_length, HasEnd, AreSized}
use Rattle.cqp_expand.specs.Outlines.{IsOutline, signatures, names_of, AreOutlines}
use Rattle.cqp_expand.proofs.KnownDefs.{outlines_count}
use Rattle.cqp_expand.proofs.MembersKnown.{members_known}

-- each node counts itself
own_breadth : (x : Node) → 1 ≤ breadth_of x
own_breadth (node.In c xs body) = omega arith
own_breadth (node.Apply qs op) = omega arith
own_breadth (node.Measure qs) = omega arith
own_breadth x = omega arith

-- within a list there is an element
there : {X : Type 0} (xs : List X) (i : ℕ) → i < length xs → slice_get xs i ≡ None → ⊥
there [] i h e = absurd (omega (arith, h))
there (x ∷ xs) zero h e = cc
there (x ∷ xs) (suc i) h e = there xs i (omega arith) e

-- a member that is sized, and has no more nodes than it counts as
record Fits (outlines : List Outline) (x : Member) : Type 0 where
  sized : IsSizedMember outlines x
  few : member_length outlines x ≤ member_count outlines x

-- a call of a small definition
call_fits : (outlines : List Outline) (i : ℕ) (args : List ℕ) (o : Option Outline) → slice_get outlines i ≡ o → i < length outlines
    → ((d : Outline) → slice_get outlines i ≡ Some d → HasEnd d) → Fits outlines (Call i args)
call_fits outlines i args None e h ends = absurd (there outlines i h e)
call_fits outlines i args (Some d) e h ends =
    let end = ends d e in
    record { sized = (h, rw e end.sized); few = rw e end.few }

-- what a call counts as
count_is : (outlines : List Outline) (i : ℕ) (args : List ℕ) (d : Outline) → slice_get outlines i ≡ Some d → member_count outlines (Call i args) ≡ d.count
count_is outlines i args d e = rw e refl

-- the rest of a small sum is small
rest_small : (s a b : ℕ) → s ≡ a + b → s ≤ 20000 → b ≤ 20000
rest_small s a b e h = omega (arith, e, h)

-- so is its first part
first_small : (s a b c : ℕ) → s ≡ a + b → a ≡ c → s ≤ 20000 → c ≤ 20000
first_small s a b c e f h = omega (arith, e, f, h)

-- two sums, part by part
both_less : (s t a b c d : ℕ) → s ≡ a + b → t ≡ c + d → a ≤ c → b ≤ d → s ≤ t
both_less s t a b c d e f h k = omega (arith, e, f, h, k)

-- small bodies
pub sized_members : (outlines : List Outline) → AreSized outlines → (xs : List Member) → AllByRecursion (IsKnown outlines) xs
    → sum_by (member_count outlines) xs ≤ 20000
    → AllByRecursion (IsSizedMember outlines) xs × (sum_by (member_length outlines) xs ≤ sum_by (member_count outlines) xs)
sized_members outlines s [] k h = (tt, omega arith)
sized_members outlines s (Own x ∷ xs) k h =
    let counts = sum_by-cons (member_count outlines) (Own x) xs in
    let lengths = sum_by-cons (member_length outlines) (Own x) xs in
    let r = sized_members outlines s xs k.1 (rest_small _ (breadth_of x) (sum_by (member_count outlines) xs) counts h) in
    ((tt, r.0), both_less _ _ 1 (sum_by (member_length outlines) xs) (breadth_of x) (sum_by (member_count outlines) xs) lengths counts (own_breadth x) r.1)
sized_members outlines s (Call i args ∷ xs) k h =
    let own = member_count outlines (Call i args) in
    let counts = sum_by-cons (member_count outlines) (Call i args) xs in
    let lengths = sum_by-cons (member_length outlines) (Call i args) xs in
    let r = sized_members outlines s xs k.1 (rest_small _ own (sum_by (member_count outlines) xs) counts h) in
    let f = call_fits outlines i args (slice_get outlines i) refl k.0 (λ d e. s i d e (first_small _ own (sum_by (member_count outlines) xs) d.count counts
    (count_is outlines i args d e) h)) in (
      (f.sized, r.0),
      both_less _ _ (member_length outlines (Call i args)) (sum_by (member_length outlines) xs) own (sum_by
          (member_count outlines) xs) lengths counts f.few r.1,
    )

-- an element of a list with one more
at_end : {X : Type 0} (xs : List X) (y : X) (i : ℕ) (x : X) → slice_get (xs ++ y ∷ []) i ≡ Some x → (slice_get xs i ≡ Some x) ⊎ (y ≡ x)
at_end [] y zero x e = inr (cc e)
at_end [] y (suc i) x e = absurd (let no : None ≡ Some x = e in cc)
at_end (z ∷ xs) y zero x e = inl e
at_end (z ∷ xs) y (suc i) x e = at_end xs y i x e

-- an outline behind small ones
last_ends : (all : List Ty) (front : List Outline) (d : DefinitionTree) (ds : List DefinitionTree) (x : Outline) → AreSized front → length front ≡ length ds
    → IsOutline all front (names_of ds) d.params d.body x → x.count ≤ 20000 → HasEnd x
last_ends all front d ds x s many i small =
    let sum : sum_by (member_count front) x.members.items ≤ 20000 = omega (arith, i.count, small) in
    let count : length (names_of ds) ≡ length front = length-map (signatures ds) (λ (d : Signature). d.text) ∙ length-map ds signature ∙ sym many in
    let known = subst (AllByRecursion (IsKnown front)) (sym i.members) (members_known front (names_of ds) count (below_all [] 0 d.params)
    (length d.params) 0 d.body) in
    let r = sized_members front s x.members.items known sum in
    let starts = i.starts small in
    let end = starts.starts (length x.members.items) (omega arith) ∙ ap (sum_by (member_length front)) (take-length x.members.items) in
    record { sized = omega (arith, starts.count); few = omega (arith, end, r.1, i.count, sum) }

-- the outlines of definitions
pub are_sized : (all : List Ty) (outlines : List Outline) (ds : List DefinitionTree) → AreOutlines all outlines ds → AreSized outlines
are_sized all outlines [] a = λ i x e small. absurd (let no : None ≡ Some x = sym (ap (λ l. slice_get l i) a) ∙ e in cc)
are_sized all outlines (d ∷ ds) a = λ i x e small. by_end i x small (at_end a.0 a.1 i x (sym (ap (λ l. slice_get l i) a.2) ∙ e)) (are_sized all a.0 ds a.4)
  where
    by_end : (i : ℕ) (x : Outline) → x.count ≤ 20000 → (slice_get a.0 i ≡ Some x) ⊎ (a.1 ≡ x) → AreSized a.0 → HasEnd x
    by_end i x small (inl e) s = s i x e small
    by_end i x small (inr e) s =
        subst HasEnd e (last_ends all a.0 d ds a.1 s (outlines_count all a.0 ds a.4) a.3 (subst (λ y. y.count ≤ 20000) (sym e) small))
