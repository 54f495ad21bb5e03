-- One node more of the search for the least fault.
use Rattle.std.proofs.Common.{◌≡◌, ℕ, ◌+◌, ◌<◌, length, refl, sym, subst, arith, le_refl, List, Option, Some, None}
use Rattle.cqp_syntax.specs.declared.node.Node.{Node}
use Rattle.cqp_syntax.specs.declared.node.Node.TheVariants as node
use Rattle.cqp_syntax.specs.TypeTrees.{TypeTree}
use Rattle.cqp_syntax.specs.Terms.{Term, term_of}
use Rattle.cqp_syntax.specs.Listing.{Listing}
use Rattle.cqp_types.specs.declared.kind.Kind.{Kind}
use Rattle.cqp_types.specs.declared.faults.Fault.{Fault}
use Rattle.cqp_types.specs.Rows.{row_fault, row_at, IsLeastFrom, FindsRow}
use Rattle.cqp_syntax.proofs.Bools.{at_or_after}

-- the node fails
pub fails_here : (l : Listing) (n : ℕ) (k : Kind) → n < length l.nodes → Some k ≡ row_at l n → IsLeastFrom (row_at l) n (length l.nodes) n k
fails_here l n k within e = record { from = le_refl n; within = within; fails = sym e; before = λ m low high. absurd (omega arith) }

-- it doesn't
pub passes_here : (l : Listing) (n : ℕ) (least : Option Fault) → None ≡ row_at l n → FindsRow l (n + 1) least → FindsRow l n least
passes_here l n None e f = λ m low high. at_or_after n m low (λ same. subst (λ j. row_at l j ≡ None) same (sym e)) (λ more. f m more high)
passes_here l n (Some g) e f = record {
  from = omega (arith, f.from);
  within = f.within;
  fails = f.fails;
  before = λ m low high. at_or_after n m low (λ same. subst (λ j. row_at l j ≡ None) same (sym e)) (λ more. f.before m more high);
}

-- nodes of the other kinds never fail by a row
pub never_fails : (ty : ℕ → TypeTree) (at : ℕ → Term) (x : Node)
    → ((y b : ℕ) → x ≡ node.New y b → ⊥) → ((c : ℕ) (xs : List ℕ) (b : ℕ) → x ≡ node.In c xs b → ⊥) → ((c : ℕ) (es : List ℕ) (b : ℕ) → x ≡ node.Out c es b → ⊥)
    → ((i j p q : ℕ) → x ≡ node.If i j p q → ⊥) → ((i j : ℕ) → x ≡ node.Add i j → ⊥) → ((e : ℕ) → x ≡ node.Sig e → ⊥)
    → ((qs : List ℕ) (e : ℕ) → x ≡ node.Apply qs e → ⊥) → ((qs : List ℕ) → x ≡ node.Measure qs → ⊥) → row_fault ty (term_of ty at x) ≡ None
never_fails ty at (node.New y b) w i o f a s p m = absurd (w y b refl)
never_fails ty at (node.In c xs b) w i o f a s p m = absurd (i c xs b refl)
never_fails ty at (node.Out c es b) w i o f a s p m = absurd (o c es b refl)
never_fails ty at (node.If j k b d) w i o f a s p m = absurd (f j k b d refl)
never_fails ty at (node.Add j k) w i o f a s p m = absurd (a j k refl)
never_fails ty at (node.Sig e) w i o f a s p m = absurd (s e refl)
never_fails ty at (node.Apply qs e) w i o f a s p m = absurd (p qs e refl)
never_fails ty at (node.Measure qs) w i o f a s p m = absurd (m qs refl)
never_fails ty at node.Nil w i o f a s p m = refl
never_fails ty at (node.Par j k) w i o f a s p m = refl
never_fails ty at (node.Qbit y b) w i o f a s p m = refl
never_fails ty at (node.Act e b) w i o f a s p m = refl
never_fails ty at (node.Num v) w i o f a s p m = refl
never_fails ty at node.Unit w i o f a s p m = refl
never_fails ty at (node.Name y) w i o f a s p m = refl
never_fails ty at (node.Gate g) w i o f a s p m = refl
