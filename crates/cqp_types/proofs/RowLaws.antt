-- Kinds in order, and the rows of channels.
use Rattle.std.proofs.Common.{◌≡◌, ℕ, suc, ◌≢◌, ◌==◌, Bool, true, false, not, List, [], ◌∷◌, ◌++◌, length, refl, sym, ◌∙◌, ap, Option, Some}
use Rattle.cqp_syntax.specs.TypeTrees.{TypeTree, TypeTrees, trees_at, same_types}
use Rattle.cqp_syntax.specs.Trees.{Binder, Expr, Process}
use Rattle.cqp_syntax.specs.Free.{exprs_slots, free_slots}
use Rattle.cqp_types.specs.Contexts.{is_twice}
use Rattle.cqp_types.specs.Derivations.{sent}
use Rattle.cqp_types.specs.declared.kind.Kind.{Kind}
use Rattle.cqp_types.specs.declared.kind.Kind.TheVariants as kind
use Rattle.cqp_types.specs.Types.{count_of, types_of}
use Rattle.cqp_types.specs.Faults.{Annotation, is_qubit, first_kind, input_fault, form_types, others, meet, output_fault}
use Rattle.cqp_syntax.proofs.Bools.{fails, decide, same_number, number_same}

-- a condition that holds gives its kind, and one that fails the next
pub kind_found : (b : Bool) (k : Kind) (cs : List (Bool × Kind)) → b ≡ true → first_kind ((b, k) ∷ cs) ≡ Some k
kind_found true k cs h = refl
kind_found false k cs h = absurd (fails h)

-- a condition that fails leaves the kind to those behind it
pub kind_passed : (b : Bool) (k : Kind) (cs : List (Bool × Kind)) → b ≡ false → first_kind ((b, k) ∷ cs) ≡ first_kind cs
kind_passed true k cs h = absurd (cc h)
kind_passed false k cs h = refl

-- as many types as numbers
pub count_trees : (f : ℕ → TypeTree) (ks : List ℕ) → count_of (trees_at f ks) ≡ length ks
count_trees f [] = refl
count_trees f (k ∷ ks) = ap suc (count_trees f ks)

-- different numbers are another count
pub other_count : (m n : ℕ) → m ≢ n → not (m == n) ≡ true
other_count m n ne = decide (m == n) (λ e. absurd (ne (same_number m n e))) (λ e. ap not e)

-- equal numbers are no other count
pub same_count : (m n : ℕ) → m ≡ n → not (m == n) ≡ false
same_count m n e = ap (λ k. not (m == k)) (sym e) ∙ ap not (number_same m)

module _ (o : Option TypeTrees) (f : ℕ → TypeTree) (of : List ℕ) (bs : List Binder) (e : o ≡ Some (trees_at f of)) where
  -- an input of another number of names fails by Count
  pub input_miscounts : length bs ≢ length of → input_fault o bs ≡ Some kind.Count
  input_miscounts ne =
      ap (λ p. input_fault p bs) e
      ∙ kind_found (not (length bs == count_of (trees_at f of))) kind.Count ((not (same_types (types_of bs) (trees_at f of)), kind.Mismatch) ∷ [])
      (ap (λ n. not (length bs == n)) (count_trees f of) ∙ other_count (length bs) (length of) ne)

  -- an input of as many names fails by their types alone
  pub input_typed : length bs ≡ length of → input_fault o bs ≡ first_kind ((not (same_types (types_of bs) (trees_at f of)), kind.Mismatch) ∷ [])
  input_typed same =
      ap (λ p. input_fault p bs) e
      ∙ kind_passed (not (length bs == count_of (trees_at f of))) kind.Count ((not (same_types (types_of bs) (trees_at f of)), kind.Mismatch) ∷ [])
      (ap (λ n. not (length bs == n)) (count_trees f of) ∙ same_count (length bs) (length of) same)

module _ (ty : Annotation) (o : Option TypeTrees) (f : ℕ → TypeTree) (of : List ℕ) (es : List Expr) (p : Process) (e : o ≡ Some (trees_at f of)) where
  -- the conditions behind the count, and behind the types
  abbrev pub sending_kinds : List (Bool × Kind)
  sending_kinds =
      (is_twice (sent (is_qubit ty) es), kind.OperandTwice)
      ∷ (meet (sent (is_qubit ty) es) (exprs_slots (others ty es) ++ free_slots p), kind.SentAndUsed) ∷ []

  -- the conditions behind the count
  abbrev pub typing_kinds : List (Bool × Kind)
  typing_kinds = (not (same_types (form_types ty es) (trees_at f of)), kind.Mismatch) ∷ sending_kinds

  -- an output of another number of arguments fails by Count
  pub output_miscounts : length es ≢ length of → output_fault ty o es p ≡ Some kind.Count
  output_miscounts ne =
      ap (λ q. output_fault ty q es p) e
      ∙ kind_found (not (length es == count_of (trees_at f of))) kind.Count typing_kinds
      (ap (λ n. not (length es == n)) (count_trees f of) ∙ other_count (length es) (length of) ne)

  -- one of as many fails by what stands behind the count
  pub output_counted : length es ≡ length of → output_fault ty o es p ≡ first_kind typing_kinds
  output_counted same =
      ap (λ q. output_fault ty q es p) e
      ∙ kind_passed (not (length es == count_of (trees_at f of))) kind.Count typing_kinds
      (ap (λ n. not (length es == n)) (count_trees f of) ∙ same_count (length es) (length of) same)

  -- one of as many, of other types, fails by Mismatch
  pub output_mistyped : length es ≡ length of → same_types (form_types ty es) (trees_at f of) ≡ false → output_fault ty o es p ≡ Some kind.Mismatch
  output_mistyped same bad = output_counted same ∙ kind_found (not (same_types (form_types ty es) (trees_at f of))) kind.Mismatch sending_kinds (ap not bad)

  -- one of as many, of these types, fails by what it sends alone
  pub output_sends : length es ≡ length of → same_types (form_types ty es) (trees_at f of) ≡ true → output_fault ty o es p ≡ first_kind sending_kinds
  output_sends same good = output_counted same ∙ kind_passed (not (same_types (form_types ty es) (trees_at f of))) kind.Mismatch sending_kinds (ap not good)
