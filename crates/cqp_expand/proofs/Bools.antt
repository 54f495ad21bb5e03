-- Of two tests at once.
use Rattle.std.proofs.Common.{◌≡◌, Bool, true, false, ◌||◌, refl, inl, inr, ◌⊎◌}

-- one of two tests holds
pub either : (a b : Bool) → (a || b) ≡ true → (a ≡ true) ⊎ (b ≡ true)
either true b h = inl refl
either false b h = inr h
