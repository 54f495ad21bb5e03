-- Small facts on options and tests.
use Rattle.std.proofs.Common.{◌≡◌, Bool, true, false, refl}
use Rattle.std.specs.Prelude.{Some, None, ◌&&◌}

-- nothing isn't something
pub none_is_some : {X : Type 0} {x : X} → None ≡ Some x → ⊥
none_is_some e = cc

-- two things that are there are equal
pub same_some : {X : Type 0} {x y : X} → Some x ≡ Some y → x ≡ y
same_some e = cc

-- true isn't false
pub yes_is_no : true ≡ false → ⊥
yes_is_no e = cc

-- both tests of a pair pass
pub both_true : (a b : Bool) → (a && b) ≡ true → (a ≡ true) × (b ≡ true)
both_true true b h = (refl, h)
both_true false b h = absurd (wrong h)
  where
    wrong : false ≡ true → ⊥
    wrong e = cc
