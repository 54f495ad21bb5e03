-- What fails by its row alone, and what is on both sides. No public clause cites this module.
use Rattle.std.specs.Prelude.{◌≡◌, ℕ, ◌<◌, ◌≤◌, length, Option, Some, None}
use Rattle.cqp_syntax.specs.Trees.{par}
use Rattle.cqp_syntax.specs.Terms.{Term, process}
use Rattle.cqp_syntax.specs.Measures.{need}
use Rattle.cqp_syntax.specs.Listing.{Listing, type_of_name, term_at, root}
use Rattle.cqp_types.specs.declared.kind.Kind.{Kind}
use Rattle.cqp_types.specs.declared.kind.Kind.TheVariants as kind
use Rattle.cqp_types.specs.declared.faults.Fault.{Fault}
use Rattle.cqp_types.specs.declared.checking.Verdict.{Verdict}
use Rattle.cqp_types.specs.declared.checking.Verdict.TheVariants.{Fails, Needs}
use Rattle.cqp_types.specs.Derivations.{IsDerivable}
use Rattle.cqp_types.specs.Faults.{Annotation, fault, process_fault, IsLeastFault, HasNoFault}

-- what fails at the root of a term, but for a parallel composition
abbrev pub row_fault : Annotation → Term → Option Kind
row_fault ty (process (par p q)) = None
row_fault ty t = fault ty t

-- what fails at a parallel composition
abbrev pub split_fault : Annotation → Term → Option Kind
split_fault ty (process (par p q)) = process_fault ty (par p q)
split_fault ty t = None

-- what fails by its row at the node with this number
abbrev pub row_at : Listing → ℕ → Option Kind
row_at l n = row_fault (type_of_name l) (term_at l n)

-- the same of parallel compositions
abbrev pub split_at : Listing → ℕ → Option Kind
split_at l n = split_fault (type_of_name l) (term_at l n)

-- nothing fails from number a on
abbrev pub NothingFrom : (ℕ → Option Kind) → ℕ → ℕ → Type 0
NothingFrom at a count = (m : ℕ) → a ≤ m → m < count → at m ≡ None

-- the least number from a on at which something fails, and how
pub record IsLeastFrom (at : ℕ → Option Kind) (a count n : ℕ) (k : Kind) : Type 0 where
  pub from : a ≤ n
  pub within : n < count
  pub fails : at n ≡ Some k
  pub before : (m : ℕ) → a ≤ m → m < n → at m ≡ None

-- what was found from number a on
abbrev pub FindsRow : Listing → ℕ → Option Fault → Type 0
FindsRow l a None = NothingFrom (row_at l) a (length l.nodes)
FindsRow l a (Some f) = IsLeastFrom (row_at l) a (length l.nodes) f.node f.kind

-- what was found of parallel compositions
abbrev pub FindsSplit : Listing → Option ℕ → Type 0
FindsSplit l None = NothingFrom (split_at l) 0 (length l.nodes)
FindsSplit l (Some n) = IsLeastFrom (split_at l) 0 (length l.nodes) n kind.SplitTwice

-- the verdict is right
abbrev pub Judges : Listing → Verdict → Type 0
Judges l (Fails n k) = IsLeastFault l n k × (IsDerivable (root l) → ⊥)
Judges l (Needs q) = IsDerivable (root l) × (q ≡ need (root l))

-- what was found of all nodes
abbrev pub FindsFault : Listing → Option Fault → Type 0
FindsFault l None = HasNoFault l
FindsFault l (Some f) = IsLeastFault l f.node f.kind
