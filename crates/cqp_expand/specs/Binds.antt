-- The binders around a depth as the scan keeps them. No public clause cites this module.
use Rattle.std.specs.Prelude.{◌≡◌, ℕ, ◌+◌, List, [], ◌∷◌, map, reverse, length, Bool, bytes_eq}
use Rattle.std.specs.Prelude.{if◌then◌else◌, Option, Some, None}
use Rattle.std.specs.Borrow.{Bor}
use Rattle.indexmap.specs.IndexMap.{IndexMap, get_by}
use Rattle.cqp_expand.specs.declared.scope.Bound.{Bound}
use Rattle.cqp_expand.specs.declared.nest.NestedBinder.{NestedBinder}
use Rattle.cqp_expand.specs.declared.nest.Nest.{Nest}

-- the binder has the text
abbrev pub has_text : List ℕ → Bound → Bool
has_text x b = bytes_eq b.text.now x

-- the binders without what they hide
abbrev pub bounds : List NestedBinder → List Bound
bounds bs = map (λ b. b.bound) bs

-- the depth of the first binder of the text, counted from 1 at the last; 0 if there is none
abbrev pub depth_in : List ℕ → List NestedBinder → ℕ
depth_in x [] = 0
depth_in x (b ∷ bs) = if has_text x b.bound then length bs + 1 else depth_in x bs

-- each binder knows the depth of the one that it hides; the innermost stands first
abbrev pub AreLinked : List NestedBinder → Type 0
AreLinked [] = Unit {0}
AreLinked (b ∷ bs) = (b.outer ≡ depth_in b.bound.text.now bs) × AreLinked bs

-- a depth that is kept; none is 0
abbrev pub depth_or_none : Option ℕ → ℕ
depth_or_none None = 0
depth_or_none (Some n) = n

-- the depth of the innermost binder of each text is kept
pub record IsNested (n : Nest) : Type 0 where
  pub linked : AreLinked (reverse n.binders.items)
  pub depths : (x : Bor (List ℕ)) → depth_or_none (get_by (λ k. bytes_eq x.now k.now) n.depths)
      ≡ depth_in x.now (reverse n.binders.items)

-- the text has this depth now, and each other text its own
abbrev pub Sets : {S : Type 0} → List ℕ → ℕ → IndexMap (Bor (List ℕ)) ℕ S
    → IndexMap (Bor (List ℕ)) ℕ S → Type 0
Sets x n old new = (y : Bor (List ℕ)) → depth_or_none (get_by (λ k. bytes_eq y.now k.now) new)
    ≡ (if bytes_eq x y.now then n else depth_or_none (get_by (λ k. bytes_eq y.now k.now) old))
