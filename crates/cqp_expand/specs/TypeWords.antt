-- Types as words of numbers, and the words of a list of types. No public clause cites this module.
use Rattle.std.specs.Prelude.{◌≡◌, ℕ, List, [], ◌∷◌, map}
use Rattle.cqp_syntax.specs.declared.ty.Ty.{Ty}
use Rattle.cqp_syntax.specs.declared.ty.Ty.TheVariants as ty

-- the word of a type: its kind, and its places or the numbers of its parts
abbrev pub type_word : Ty → List ℕ
type_word ty.Int = 0 ∷ []
type_word ty.Unit = 1 ∷ []
type_word ty.Qbit = 2 ∷ []
type_word (ty.Op n) = 3 ∷ n ∷ []
type_word (ty.Chan of) = 4 ∷ of

-- these are the words of the types, in their order
abbrev pub AreWords : List Ty → List (List ℕ) → Type 0
AreWords types words = words ≡ map type_word types
