-- What the laws of types say of contexts, of binders and of values.
use Rattle.std.specs.Prelude.{◌≡◌, ℕ, List, [], ◌∷◌, true, false, ◌==◌, None, if◌then◌else◌}
use Rattle.std.specs.List.{AllByRecursion}
use Rattle.cqp_syntax.specs.declared.val.Val.{Val}
use Rattle.cqp_syntax.specs.TypeTrees.{TypeTree, unit_type, qbit_type}
use Rattle.cqp_syntax.specs.Trees.{Slot, named, valued, Binder, Process}
use Rattle.cqp_syntax.specs.Subterms.{process_terms}
use Rattle.cqp_syntax.specs.Binders.{binders_of}
use Rattle.cqp_syntax.specs.Free.{same_slot, is_among}
use Rattle.cqp_types.specs.Contexts.{Context, Has}
use Rattle.cqp_types.specs.Faults.{Annotation, fault}

-- the type of a name is that of the first binder that binds it
abbrev pub annotation_of : List Binder → Annotation
annotation_of [] x = unit_type
annotation_of (b ∷ bs) x = if b.name == x then b.ty else annotation_of bs x

-- no node of the process fails, where names have the types of their binders
abbrev pub NoneFails : Process → Type 0
NoneFails p =
    AllByRecursion (λ t. fault (annotation_of (binders_of p)) t ≡ None) (process_terms p)

-- each type that a slot has in the first context, it has in the second
abbrev pub IsWithin : Context → Context → Type 0
IsWithin g h = (s : Slot) (t : TypeTree) → Has g s t → Has h s t

-- none of the slots in the second list is in the first
abbrev pub AreApart : List Slot → List Slot → Type 0
AreApart taken ss = (s : Slot) → is_among s ss ≡ true → is_among s taken ≡ false

-- none of the binders binds the name
abbrev pub Unbound : ℕ → List Binder → Type 0
Unbound x bs = AllByRecursion (λ b. same_slot (named b.name) (named x) ≡ false) bs

-- the value has the binder's type, and is no qubit among these slots
pub record IsValueFor (h : Context) (b : Binder) (v : Val) (ss : List Slot) : Type 0 where
  pub typed : Has h (valued v) b.ty
  pub fresh : b.ty ≡ qbit_type → is_among (valued v) ss ≡ false
